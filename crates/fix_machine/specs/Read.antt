-- What the code keeps of a message that was read.
use Rattle.fix_fields.specs.Header.{header_of}
use Rattle.fix_machine.specs.declared.inbound.Inbound as code
use Rattle.fix_machine.specs.Event.{Inbound, verdict_seen}

abbrev pub inbound_seen : code.Inbound → Inbound
inbound_seen i = record {
  header = header_of i.head.now;
  sent = i.sent;
  first_sent = i.first_sent;
  verdict = verdict_seen i.verdict.now;
  full = i.full;
  gap = i.gap;
  reset = i.reset;
}
