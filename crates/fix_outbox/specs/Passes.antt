-- What a contract says of an outbox and of its passes.
use Rattle.std.specs.Prelude.{◌≤◌, vec_capacity, ◌≡◌, ◌⊎◌, ℕ, ◌<◌, ◌+◌, Bool, true, false, List, [], ◌∷◌, ◌++◌, All}
use Rattle.std.specs.Prelude.{map, Result, Ok, Err, ⊤, length, slice_index_or, MatchResult, Option, Some, None}
use Rattle.std.specs.Prelude.{replicate, drop}
use Rattle.crossbeam_queue.specs.Passes.{view, ruled_capacity}
use Rattle.crossbeam_queue.specs.Fifo.{Held}
use Rattle.fix_fields.specs.Drafted.{DraftText}
use Rattle.fix_outbox.specs.declared.queue.Item.{Item}
use Rattle.fix_outbox.specs.declared.queue.Ended.{Ended}
use Rattle.fix_outbox.specs.declared.queue.Part.{Part}
use Rattle.fix_outbox.specs.declared.pass.Outbox.{Outbox}
use Rattle.fix_outbox.specs.declared.pass.SenderPass.{SenderPass}
use Rattle.fix_outbox.specs.declared.pass.TakerPass.{TakerPass}
use Rattle.fix_outbox.specs.declared.pass.PostFault.{PostFault}
use Rattle.fix_outbox.specs.declared.pass.PostFault.TheVariants.{Closed, Full}
use Rattle.fix_outbox.specs.Closing.{Clean}
use Rattle.fix_outbox.specs.Queue.{of, ended, CanContain}
use Rattle.fix_outbox.specs.Merge.{Merge}

abbrev pub capacity_of : Outbox → ℕ
capacity_of o = ruled_capacity o.queue

-- it is a pass of this outbox
abbrev pub IsSenderOf : Outbox → SenderPass → Type 0
IsSenderOf o p = (p.place.table_id ≡ o.queue.table.shared.table_id) × (p.watch.table_id ≡ o.gate.shared.table_id)

abbrev pub IsTakerOf : Outbox → TakerPass → Type 0
IsTakerOf o p = (p.place.table_id ≡ o.queue.table.shared.table_id) × (p.watch.table_id ≡ o.gate.shared.table_id)
    × (capacity_of o ≤ vec_capacity p.room)

-- how many senders the outbox was made with
abbrev pub count_of : TakerPass → ℕ
count_of t = (view t.place).number

-- the number under which it posts
abbrev pub number_of : SenderPass → ℕ
number_of p = p.number

-- what it has posted, in order
abbrev pub posted : SenderPass → List Item
posted p = (view p.place).list

-- what the loads of the closing word gave
abbrev pub found : SenderPass → List ℕ
found p = p.watch.me.0.found

-- what it has taken, in order
abbrev pub taken : TakerPass → List Item
taken p = (view p.place).list

-- whether it has closed the outbox
abbrev pub closed : TakerPass → Bool
closed p = p.watch.me.0.closed

abbrev pub item : ℕ → DraftText → Item
item i d = record { sender = i; draft = d }

abbrev pub draft_of : Item → DraftText
draft_of x = x.draft

abbrev pub ended_of : SenderPass → Ended
ended_of p = ended p.number (posted p)

-- the draft that comes back
abbrev pub back_of : PostFault → DraftText
back_of (Closed d) = d
back_of (Full d) = d

-- why a post is refused: the word that this call's load found, or a moment at which the queue held its capacity
abbrev pub HasCause : ℕ → ℕ → Part → Result ⊤ PostFault → Type 0
HasCause n capacity v (Ok _) = n ≡ 0
HasCause n capacity v (Err (Closed _)) = n ≡ 1
HasCause n capacity v (Err (Full _)) = (n ≡ 0) × Held capacity (CanContain v)

-- what each sender posted is what was taken of its number and then what is left of it; all together is a
-- merge of what they posted
abbrev pub Settles : List Item → List Item → List SenderPass → Type 0
Settles before rest senders =
    All (λ (p : SenderPass). posted p ≡ of (number_of p) before ++ of (number_of p) rest) senders
    × Merge (map posted senders) (before ++ rest)

-- a pass of this outbox that has done nothing
abbrev pub IsNewSender : Outbox → SenderPass → Type 0
IsNewSender o p = IsSenderOf o p × (posted p ≡ []) × (found p ≡ [])

-- their numbers, from 1, in the order of the list
abbrev pub AreNumbered : List SenderPass → Type 0
AreNumbered ps = (k : ℕ) (d : SenderPass) → k < length ps → number_of (slice_index_or ps k d) ≡ k + 1

-- no post of these was told that the outbox is closed
abbrev pub AreClean : List SenderPass → Type 0
AreClean ps = All (λ (p : SenderPass). Clean (found p)) ps
