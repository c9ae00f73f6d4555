-- Resend lists of ends, worked by hand.
use Rattle.std.proofs.Common.{◌≡◌, ℕ, List, [], ◌∷◌, refl}
use Rattle.fix_base.specs.declared.entry.By.TheVariants.{Caller}
use Rattle.fix_base.specs.declared.entry.Entry.{Entry}
use Rattle.fix_base.specs.declared.entry.Entry.TheVariants.{App, Admin}
use Rattle.fix_resend.specs.Cut.{Repeat, Gap, resend_list}

-- a Heartbeat (35=0)
abbrev beat : Entry
beat = Admin 0 48 0

abbrev order : List ℕ → Entry
order body = App 0 Caller body

-- ResendRequest 7=1, 16=4 where only the second is an order: 34=1 36=2, a repeat of 2, 34=3 36=5
pub an_order_among_heartbeats : (a : List ℕ) → resend_list (beat ∷ order a ∷ beat ∷ beat ∷ []) [] 1 4 ≡ Gap 1 2 ∷ Repeat 2 ∷ Gap 3 5 ∷ []
an_order_among_heartbeats a = refl

pub one_heartbeat : resend_list (beat ∷ []) [] 1 1 ≡ Gap 1 2 ∷ []
one_heartbeat = refl

pub one_order : (a : List ℕ) → resend_list (order a ∷ []) [] 1 1 ≡ Repeat 1 ∷ []
one_order a = refl

pub orders_alone : (a b c : List ℕ) → resend_list (order a ∷ order b ∷ order c ∷ []) [] 1 3 ≡ Repeat 1 ∷ Repeat 2 ∷ Repeat 3 ∷ []
orders_alone a b c = refl

pub heartbeats_alone : resend_list (beat ∷ beat ∷ beat ∷ []) [] 1 3 ≡ Gap 1 4 ∷ []
heartbeats_alone = refl

-- a part of the entries: the run goes no further than EndSeqNo (16)
pub a_part : (a : List ℕ) → resend_list (order a ∷ beat ∷ beat ∷ beat ∷ order a ∷ []) [] 2 3 ≡ Gap 2 4 ∷ []
a_part a = refl

-- an order that is withheld is passed over with the entries beside it
pub orders_withheld : (a b c : List ℕ) → resend_list (beat ∷ order a ∷ order b ∷ order c ∷ []) (2 ∷ 4 ∷ []) 1 4 ≡ Gap 1 3 ∷ Repeat 3 ∷ Gap 4 5 ∷ []
orders_withheld a b c = refl
