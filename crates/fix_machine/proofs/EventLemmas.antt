-- An event says one thing.
use Rattle.std.proofs.Common.{◌≡◌, ℕ, Bool, List, Option, Some, None, refl, sym, ap, ◌∙◌}
use Rattle.std.specs.Prelude.{ℤ}
use Rattle.std.specs.Borrow.{Bor}
use Rattle.fix_fields.specs.declared.header.Envelope.{Envelope}
use Rattle.fix_fields.specs.Header.{header_of}
use Rattle.fix_machine.specs.declared.state.Role.{Role}
use Rattle.fix_machine.specs.declared.event.Verdict.{Verdict}
use Rattle.fix_machine.specs.declared.event.Event.TheVariants as event
use Rattle.fix_machine.specs.Event.{Inbound, EventSeen, Begin, First, Frame, Moved, Clock, Leave, Ended, Wrote, IsTimeOf, IsSaid, IsEvent, begins, is_first, reads, moves, looks, leaves, ends, wrote, verdict_seen}

same_time : (text : List ℕ) (a b : Option ℤ) → IsTimeOf text a → IsTimeOf text b → a ≡ b
same_time text None None p q = refl
same_time text None (Some u) p q = p.each u q.known
same_time text (Some t) b p q = sym (q.each t p.known)

pub said_same : (o : Option (List ℕ)) (a b : Option ℤ) → IsSaid o a → IsSaid o b → a ≡ b
said_same None a b p q = p ∙ sym q
said_same (Some text) a b p q = same_time text a b p q

abbrev said : Bor Envelope → Verdict → Bool → Bool → Bool → Option ℤ → Option ℤ → Inbound
said head v full gap reset a b = record { header = header_of head.now; sent = a; first_sent = b; verdict = verdict_seen v; full = full; gap = gap; reset = reset }

-- a message with the times that its header says
pub frame_is : (head : Bor Envelope) (v : Verdict) (full gap reset : Bool) (a b : Option ℤ) (i : Inbound) → IsSaid (header_of head.now).sending_time a → IsSaid (header_of head.now).orig_sending_time b
    → IsEvent (event.Frame head v full gap reset) (Frame i) → said head v full gap reset a b ≡ i
frame_is head v full gap reset a b i p q (reads h w f g k sent first_sent r s) =
    ap (λ (x : Option ℤ). said head v full gap reset x b) (said_same _ a sent p r) ∙ ap (λ (x : Option ℤ). said head v full gap reset sent x) (said_same _ b first_sent q s)

pub begin_is : (role : Role) (now : ℕ) (e : EventSeen) → IsEvent (event.Begin role now) e → e ≡ Begin role now
begin_is role now e (begins r n) = refl

pub first_is : (e : EventSeen) → IsEvent event.First e → e ≡ First
first_is e is_first = refl

pub moved_is : (waiting : Bool) (e : EventSeen) → IsEvent (event.Moved waiting) e → e ≡ Moved waiting
moved_is waiting e (moves w) = refl

pub clock_is : (now : ℕ) (inside : Bool) (e : EventSeen) → IsEvent (event.Clock now inside) e → e ≡ Clock now inside
clock_is now inside e (looks n i) = refl

pub leave_is : (now : ℕ) (e : EventSeen) → IsEvent (event.Leave now) e → e ≡ Leave now
leave_is now e (leaves n) = refl

pub ended_is : (e : EventSeen) → IsEvent event.Ended e → e ≡ Ended
ended_is e ends = refl

pub wrote_is : (now : ℕ) (e : EventSeen) → IsEvent (event.Wrote now) e → e ≡ Wrote now
wrote_is now e (wrote n) = refl

-- a message is one of frames
pub record Framed (head : Bor Envelope) (v : Verdict) (full gap reset : Bool) (e : EventSeen) : Type 0 where
  pub message : Inbound
  pub is : e ≡ Frame message
  pub says : IsEvent (event.Frame head v full gap reset) (Frame message)

pub frame_of : (head : Bor Envelope) (v : Verdict) (full gap reset : Bool) (e : EventSeen) → IsEvent (event.Frame head v full gap reset) e → Framed head v full gap reset e
frame_of head v full gap reset e (reads h w f g k sent first_sent p q) =
    record { message = said head v full gap reset sent first_sent; is = refl; says = reads head v full gap reset sent first_sent p q }
