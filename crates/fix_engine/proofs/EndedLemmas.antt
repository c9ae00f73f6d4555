-- What comes after an end: the connection ends, and a session that is stopped is Down.
use Rattle.std.proofs.Common.{◌≡◌, ◌<◌, ◌≤◌, ℕ, length, List, ◌∷◌, ◌++◌, Bool, true, Option, Some, None, Result, Ok, Err, refl, sym, subst}
use Rattle.std.specs.Prelude.{⊤, IfSome}
use Rattle.std.proofs.lemmas.List.{append-nil}
use Rattle.fix_base.specs.declared.identity.Identity.{Identity}
use Rattle.fix_base.specs.declared.bytes.OutOfMemory.{OutOfMemory}
use Rattle.fix_base.specs.declared.act.Act.TheVariants as act
use Rattle.fix_base.specs.Trace.{Note, Did}
use Rattle.fix_fields.specs.Drafted.{DraftText}
use Rattle.fix_engine.specs.State.{State, Down, Ending, with_phase}
use Rattle.fix_engine.specs.declared.state.Ending.TheVariants as ending
use Rattle.fix_engine.specs.declared.stop.SendFault.{SendFault}
use Rattle.fix_engine.specs.declared.stop.SendFault.TheVariants as fault
use Rattle.fix_engine.specs.Fold.{AndThen, first_ends, both}
use Rattle.fix_engine.specs.Reading.{ConnectionSeen, Feed, ReadFrames, bytes}
use Rattle.fix_engine.specs.Drafted as drafted
use Rattle.fix_engine.specs.Drafted.{Drafted, SentTo}
use Rattle.fix_engine.specs.Turn as turns
use Rattle.fix_engine.specs.Turn.{TurnSeen, Beside, beside, TakeTurns, RunAndCut, EndsConnection, not_cut, was_cut, no_memory_to_cut, put_down}
use Rattle.fix_engine.specs.Faults.{is_cut_of, open_behind, run_end, stop_cause, is_link_fault, open_sent, send_stop}

-- ---- the end of a run

pub run_ended : (id : Identity) (n : ℕ) (d to : TurnSeen) (notes more : List Note) (e : Ending) (c : Bool) →
    is_cut_of e ≡ c → TakeTurns id n d notes (Err e) to → EndsConnection c (Ok tt) more →
    RunAndCut id n d (notes ++ more) (Err e) (put_down to)
run_ended id n d to notes more e c h k not_cut =
    subst (λ w. RunAndCut id n d w (Err e) (put_down to)) (sym (append-nil notes)) (turns.no_cut h k)
run_ended id n d to notes more e c h k was_cut = turns.cut h k

pub run_unended : (id : Identity) (n : ℕ) (d to : TurnSeen) (notes more : List Note) (e : Ending) (c : Bool)
    (why : OutOfMemory) → is_cut_of e ≡ c → TakeTurns id n d notes (Err e) to → EndsConnection c (Err why) more →
    RunAndCut id n d (notes ++ more) (Err ending.OutOfMemory) (put_down to)
run_unended id n d to notes more e c why h k (no_memory_to_cut w) =
    subst (λ x. RunAndCut id n d x (Err ending.OutOfMemory) (put_down to)) (sym (append-nil notes)) (turns.cut_memory h k)

-- a store after an end that Cut is noted after is open
pub cut_open : (e : Ending) (s : State) → is_cut_of e ≡ true → open_behind (Err e) s ≡ Some s.last
cut_open (ending.Closed why) s h = refl
cut_open (ending.NotBuilt n) s h = refl
cut_open ending.LinkFault s h = refl
cut_open ending.AppFault s h = refl
cut_open ending.NumbersSpent s h = refl
cut_open ending.StoreFault s h = cc
cut_open ending.OutOfMemory s h = refl

-- the phase makes no difference to that
pub open_down : (e : Ending) (s : State) → open_behind (Err e) (with_phase s Down) ≡ open_behind (Err e) s
open_down (ending.Closed why) s = refl
open_down (ending.NotBuilt n) s = refl
open_down ending.LinkFault s = refl
open_down ending.AppFault s = refl
open_down ending.NumbersSpent s = refl
open_down ending.StoreFault s = refl
open_down ending.OutOfMemory s = refl

-- ---- the end of a sending

pub sent_ended : (id : Identity) (d : DraftText) (s s' : State) (notes more : List Note) (why : SendFault) (c : Bool) →
    is_link_fault why ≡ c → Drafted id d s notes (Err why) s' → EndsConnection c (Ok tt) more →
    SentTo id d s (notes ++ more) (Err why) (with_phase s' Down)
sent_ended id d s s' notes more why c h k not_cut =
    subst (λ w. SentTo id d s w (Err why) (with_phase s' Down)) (sym (append-nil notes)) (drafted.no_cut h k)
sent_ended id d s s' notes more why c h k was_cut = drafted.cut h k

pub sent_unended : (id : Identity) (d : DraftText) (s s' : State) (notes more : List Note) (why : SendFault) (c : Bool)
    (no_memory : OutOfMemory) → is_link_fault why ≡ c → Drafted id d s notes (Err why) s' →
    EndsConnection c (Err no_memory) more → SentTo id d s (notes ++ more) (Err fault.OutOfMemory) (with_phase s' Down)
sent_unended id d s s' notes more why c no_memory h k (no_memory_to_cut w) =
    subst (λ x. SentTo id d s x (Err fault.OutOfMemory) (with_phase s' Down)) (sym (append-nil notes)) (drafted.cut_memory h k)

-- a store after a fault of the connection is open
pub link_open : (why : SendFault) (s : State) → is_link_fault why ≡ true → open_sent {T = ℕ} (Err why) s ≡ Some s.last
link_open (fault.Stopped cause) s h = refl
link_open fault.NumbersSpent s h = refl
link_open fault.OutOfMemory s h = refl
link_open fault.StoreFault s h = cc
link_open (fault.LinkFault n) s h = refl

pub sent_down : (why : SendFault) (s : State) → open_sent {T = ℕ} (Err why) (with_phase s Down) ≡ open_sent {T = ℕ} (Err why) s
sent_down (fault.Stopped cause) s = refl
sent_down fault.NumbersSpent s = refl
sent_down fault.OutOfMemory s = refl
sent_down fault.StoreFault s = refl
sent_down (fault.LinkFault n) s = refl

-- ---- a session that is stopped is Down

if_any : {A : Type 0} (o : Option A) (P : Type 0) → P → IfSome o (λ x. P)
if_any None P h = tt
if_any (Some x) P h = h

pub run_stops_down : (id : Identity) (n : ℕ) (d : TurnSeen) (notes : List Note) (r : Result ⊤ Ending) (to : TurnSeen) →
    RunAndCut id n d notes r to → IfSome (stop_cause (run_end r)) (λ cause. to.connection.state.phase ≡ Down)
run_stops_down id n d notes r to (turns.all_turns k) = tt
run_stops_down id n d notes r to (turns.cut {to = at} {e = e} h k) = if_any (stop_cause (run_end (Err e))) (Down ≡ Down) refl
run_stops_down id n d notes r to (turns.cut_memory h k) = refl
run_stops_down id n d notes r to (turns.no_cut {to = at} {e = e} h k) = if_any (stop_cause (run_end (Err e))) (Down ≡ Down) refl

pub send_stops_down : (id : Identity) (d : DraftText) (s s' : State) (notes : List Note) (r : Result ℕ SendFault) →
    SentTo id d s notes r s' → IfSome (send_stop r) (λ cause. s'.phase ≡ Down)
send_stops_down id d s s' notes r (drafted.went k) = tt
send_stops_down id d s s' notes r (drafted.cut {why = why} h k) = if_any (send_stop {T = ℕ} (Err why)) (Down ≡ Down) refl
send_stops_down id d s s' notes r (drafted.cut_memory h k) = refl
send_stops_down id d s s' notes r (drafted.no_cut {why = why} h k) = if_any (send_stop {T = ℕ} (Err why)) (Down ≡ Down) refl

-- ---- what leaves the draft in hand as it is

module _ (A B : ConnectionSeen → List Note → Result ⊤ Ending → ConnectionSeen → Type 0) where
  pub beside_ends : (d to : TurnSeen) (notes : List Note) (e : Ending) → Beside A d notes (Err e) to →
      Beside (AndThen A B) d notes (Err e) to
  beside_ends d to notes e (beside k) = beside (first_ends k)

  pub beside_both : (d mid to : TurnSeen) (first more : List Note) (r : Result ⊤ Ending) → Beside A d first (Ok tt) mid →
      Beside B mid more r to → Beside (AndThen A B) d (first ++ more) r to
  beside_both d mid to first more r (beside k) (beside l) = beside (both k l)

-- these bytes came
pub beside_bytes : (id : Identity) (b : List ℕ) (d to : TurnSeen) (more : List Note) (r : Result ⊤ Ending) → 0 < length b →
    length b ≤ 65536 → Beside (Feed id b) d more r to → Beside (ReadFrames id) d (Did (act.Read b) ∷ more) r to
beside_bytes id b d to more r some fits (beside k) = beside (bytes b some fits k)
