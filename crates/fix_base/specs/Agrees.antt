-- What one end handled is what the other stored.
use Rattle.std.specs.Prelude.{◌≡◌, ◌⊎◌, ℕ, suc, ◌<◌, ◌≤◌, ◌==◌, ◌||◌, max, if◌then◌else◌, List, [], ◌∷◌, ◌++◌}
use Rattle.std.specs.Prelude.{length, Bool, false, Option, Some, None}
use Rattle.fix_base.specs.Lists.{Among, IsPrefixOf}
use Rattle.fix_base.specs.End.{Entry, Record, End, folded, Sent, app_entries}
use Rattle.fix_base.specs.EndStep.{Handling, handled_with}

-- the number is one of these
abbrev pub has_number : ℕ → List ℕ → Bool
has_number n [] = false
has_number n (k ∷ ks) = n == k || has_number n ks

-- the message, where its MsgSeqNum (34) is none of these
abbrev pub fresh_item : List ℕ → Handling → List Sent
fresh_item seen h = if has_number h.number seen then [] else record { number = h.number; body = h.body } ∷ []

-- the messages whose MsgSeqNum is none of these and no earlier one's
abbrev pub fresh_beyond : List ℕ → List Handling → List Sent
fresh_beyond seen [] = []
fresh_beyond seen (h ∷ handled) = fresh_item seen h ++ fresh_beyond (h.number ∷ seen) handled

-- what was handled, each number once: its first time
abbrev pub fresh : List Handling → List Sent
fresh handled = fresh_beyond [] handled

-- the greatest number among these, 0 where there is none
abbrev pub greatest : List Handling → ℕ
greatest [] = 0
greatest (h ∷ handled) = max h.number (greatest handled)

-- the number below which all is settled: the expected number, or one above the greatest that was
-- handled where that is more
abbrev pub top : ℕ → List Handling → ℕ
top expected handled = max expected (suc (greatest handled))

-- these messages, in their order, less only ones with these numbers
pub data Less (withheld : List ℕ) : List Sent → List Sent → Type 0 where
  none : Less withheld [] []
  keeps : {all left : List Sent} (x : Sent) → Less withheld all left → Less withheld (x ∷ all) (x ∷ left)
  drops : {all left : List Sent} (x : Sent) → Among x.number withheld → Less withheld all left
      → Less withheld (x ∷ all) left

-- an end that expects this number, and handled these, agrees with its counterparty: of the
-- counterparty's first entries, as many as are below the top, the messages are just those that were
-- handled, less only ones that the counterparty withholds
pub record Agrees (expected : ℕ) (handled : List Handling) (f : End) : Type 0 where
  pub below : List Entry
  pub rest : List Entry
  pub is : f.out ≡ below ++ rest
  pub many : suc (length below) ≡ top expected handled
  pub same : Less f.withheld (app_entries below) (fresh handled)

-- the numbers rise strictly, from above this one
abbrev pub RiseFrom : ℕ → List Sent → Type 0
RiseFrom n [] = Unit {0}
RiseFrom n (x ∷ xs) = (n < x.number) × RiseFrom x.number xs

-- the same in plain words: the top is at most one above the last entry. What was handled, each number
-- once, has rising numbers, and each is one of the counterparty's messages below the top, with its
-- body. Each of those messages that was not handled is withheld
pub record AgreesInPlainWords (expected : ℕ) (handled : List Handling) (f : End) : Type 0 where
  pub inside : top expected handled ≤ suc (length f.out)
  pub rises : RiseFrom 0 (fresh handled)
  pub stored : (x : Sent) → Among x (fresh handled) → Among x (app_entries f.out) × (x.number < top expected handled)
  pub missing : (x : Sent) → Among x (app_entries f.out) → x.number < top expected handled
      → (Among x (fresh handled) → ⊥) → Among x.number f.withheld

-- a front of these messages, less only ones with these numbers
pub record IsPrefixLess (withheld : List ℕ) (xs all : List Sent) : Type 0 where
  pub front : List Sent
  pub is : IsPrefixOf front all
  pub less : Less withheld front xs

-- a message that comes for its first time comes with a number above all that came before it: one that
-- was passed over never comes after a later one
pub record ComesInOrder (handled : List Handling) : Type 0 where
  pub each : (before after : List Handling) (h : Handling) → handled ≡ before ++ h ∷ after
      → ((earlier : Handling) × Among earlier before × (earlier.number ≡ h.number)) ⊎ (greatest before < h.number)

-- a reader with these parts keeps up with a counterparty: it agrees with the number that is kept, with
-- the running one, and whichever way its own doubt settles
pub record KeepsUp (end : End) (expected : ℕ) (handled : List Handling) (doubt : Option Record)
    (beside : List Handling) (f : End) : Type 0 where
  pub now : Agrees end.stored handled f
  pub running : doubt ≡ None → Agrees expected handled f
  pub settled : (r : Record) → doubt ≡ Some r → Agrees (folded end r).stored (handled_with handled beside r) f
