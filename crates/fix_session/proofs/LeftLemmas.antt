-- The end of a connection leaves a session sound.
use Rattle.std.proofs.Common.{◌≡◌, ℕ, List, Bool, true, Option, Some, Ok, Err, refl, sym, subst, ◌∙◌, arith}
use Rattle.fix_base.specs.declared.identity.Identity.{Identity}
use Rattle.fix_base.specs.Trace.{OutsideSeen}
use Rattle.fix_outside.specs.Calls.{Call}
use Rattle.fix_stage.specs.declared.sender.Sender.{Sender}
use Rattle.fix_stage.specs.Sender.{sender_down}
use Rattle.fix_steps.specs.declared.ending.Ending.{Ending}
use Rattle.fix_steps.specs.declared.ending.Ending.TheVariants as ending
use Rattle.fix_steps.specs.Ending.{open_after}
use Rattle.fix_session.specs.State.{State, IsSound}
use Rattle.fix_session.specs.Turn.{is_cut_of, left, Leaves, not_cut, is_cut, cut_memory}

left_sound : (id : Identity) (w w' : OutsideSeen) (open_at : Option ℕ) (s : State) → IsSound id w open_at s → w'.open_at ≡ w.open_at → IsSound id w' open_at (left s)
left_sound id w w' open_at s h same =
    let r = h.sender.range in
    record {
      sender = record {
        valid = h.sender.valid;
        range = record {
          expected = r.expected;
          expected_bound = r.expected_bound;
          stored_expected = r.stored_expected;
          stored_expected_bound = r.stored_expected_bound;
          last = omega (arith, r.last);
          reading = r.reading;
        };
        opens = same ∙ h.sender.opens;
      };
      bounded = record { first = r.expected; last = r.expected_bound; gap = h.bounded.gap };
      waiting = h.waiting;
      version = h.version;
    }

open_down : (e : Ending) (b : Sender) → open_after (Err e) b ≡ open_after (Err e) (sender_down b)
open_down (ending.Closed why) b = refl
open_down ending.NumbersSpent b = refl
open_down ending.OutOfMemory b = refl
open_down ending.StoreFault b = refl
open_down ending.LinkFault b = refl
open_down ending.AppFault b = refl

-- where the end was noted, or wasn't to be
pub ends_sound : (id : Identity) (w w' : OutsideSeen) (e : Ending) (cut : Bool) (s to : State) (calls : List Call) → Leaves s cut calls (Ok tt) to → w'.open_at ≡ w.open_at
    → IsSound id w (open_after (Err e) s.sender) s → IsSound id w' (open_after (Err e) to.sender) to
ends_sound id w w' e cut s to calls not_cut same h = subst (λ o. IsSound id w' o (left s)) (open_down e s.sender) (left_sound id w w' _ s h same)
ends_sound id w w' e cut s to calls is_cut same h = subst (λ o. IsSound id w' o (left s)) (open_down e s.sender) (left_sound id w w' _ s h same)

open_cut : (e : Ending) (b : Sender) → is_cut_of e ≡ true → open_after (Err e) b ≡ Some b.numbers.last
open_cut (ending.Closed why) b cut = refl
open_cut ending.NumbersSpent b cut = refl
open_cut ending.OutOfMemory b cut = refl
open_cut ending.StoreFault b cut = cc
open_cut ending.LinkFault b cut = refl
open_cut ending.AppFault b cut = refl

-- where it could not be noted
pub short_sound : (id : Identity) (w w' : OutsideSeen) (e f : Ending) (cut : Bool) (s to : State) (calls : List Call) → cut ≡ is_cut_of e → Leaves s cut calls (Err f) to → w'.open_at ≡ w.open_at
    → IsSound id w (open_after (Err e) s.sender) s → IsSound id w' (open_after (Err f) to.sender) to
short_sound id w w' e f cut s to calls is (cut_memory why) same h =
    subst (λ o. IsSound id w' o (left s)) (open_cut e s.sender (sym is)) (left_sound id w w' _ s h same)
