-- What a session's machine is told of a message that was read.
use Rattle.std.proofs.Common.{◌≡◌, ◌↔◌, ℕ, Bool, List, length, refl, sym, ap}
use Rattle.std.specs.Prelude.{IsTrue}
use Rattle.std.specs.Borrow.{Bor}
use Rattle.fix_base.specs.Fields.{Field}
use Rattle.fix_base.specs.Shape.{IsFrame}
use Rattle.fix_base.specs.Says.{HasFields, value_of, is_yes}
use Rattle.fix_fields.specs.declared.header.Envelope.{Envelope}
use Rattle.fix_fields.specs.Header.{Header, HasBegin, header_of, header_of_fields}
use Rattle.fix_machine.specs.declared.event.Verdict.{Verdict}
use Rattle.fix_machine.specs.declared.event.Event.TheVariants as event
use Rattle.fix_machine.specs.Event.{Inbound, VerdictSeen, EventSeen, Frame, IsEvent, reads, verdict_seen}
use Rattle.fix_resend.specs.Waiting.{Waiting, IsFull}
use Rattle.fix_steps.specs.Told.{IsTold, IsVerdict}
use Rattle.fix_steps.proofs.FrameLemmas.{fields_in, frame_has}
use Rattle.fix_session.specs.Judged.{RulesSeen, Judged, of_application, of_session, at_fault, application_ruled_out, session_ruled_out}
use Rattle.fix_session.specs.Inbound.{IsInbound}

-- the event of a frame says one message
pub record Told (rules : RulesSeen) (waiting : Waiting) (frame : List ℕ) (head : Bor Envelope) (e : EventSeen) : Type 0 where
  pub message : Inbound
  pub is : e ≡ Frame message
  pub inbound : IsInbound rules waiting frame message
  pub header : message.header ≡ header_of head.now

pub told : (rules : RulesSeen) (waiting : Waiting) (frame : List ℕ) (head : Bor Envelope) (v : Verdict) (full gap reset : Bool) (e : EventSeen)
    → IsFrame frame → HasBegin frame head.now.begin.now
    → ((fs : List Field) → HasFields frame fs → header_of head.now ≡ header_of_fields head.now.begin.now fs)
    → Judged rules frame head.now.kind.now (verdict_seen v) → (IsTrue full ↔ IsFull waiting (length frame))
    → ((fs : List Field) → HasFields frame fs → gap ≡ is_yes (value_of 123 fs))
    → ((fs : List Field) → HasFields frame fs → reset ≡ is_yes (value_of 141 fs))
    → IsEvent (event.Frame head v full gap reset) e → Told rules waiting frame head e
told rules waiting frame head v full gap reset e f begin fields judged room gaps resets (reads h w u g k sent first_sent p q) =
    let fs = fields_in f in
    let has = frame_has f in
    let heads = fields fs has in
    record {
      message = record { header = header_of head.now; sent = sent; first_sent = first_sent; verdict = verdict_seen v; full = full; gap = gap; reset = reset };
      is = refl;
      inbound = record {
        fields = fs;
        has = has;
        begins = begin;
        header = heads;
        sent = p;
        first_sent = q;
        type = head.now.kind.now;
        typed = sym (ap (λ (x : Header). x.type) heads);
        verdict = judged;
        full = room;
        gap = gaps fs has;
        reset = resets fs has;
      };
      header = refl;
    }

verdict_told : (rules : RulesSeen) (frame type : List ℕ) (fs : List Field) (v : VerdictSeen) → HasFields frame fs → Judged rules frame type v → IsVerdict type fs v
verdict_told rules frame type fs v has (of_application p r) = p
verdict_told rules frame type fs v has (of_session admin p says r) = (p, says fs has)
verdict_told rules frame type fs v has (at_fault fault p says) = tt
verdict_told rules frame type fs v has (application_ruled_out fault p r) = tt
verdict_told rules frame type fs v has (session_ruled_out admin fault p says r) = tt

-- what is told is what the fields say
pub is_told : {rules : RulesSeen} {waiting : Waiting} {frame : List ℕ} {i : Inbound} (h : IsInbound rules waiting frame i) → IsTold h.fields i
is_told {rules} {waiting} {frame} {i} h = record {
  type = h.type;
  typed = h.typed;
  header = h.header;
  gap = h.gap;
  reset = h.reset;
  verdict = verdict_told rules frame h.type h.fields i.verdict h.has h.verdict;
}
