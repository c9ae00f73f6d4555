-- What the code keeps of an inbound message.
use Rattle.fix_fields.specs.Header.{header_of}
use Rattle.fix_engine.specs.declared.inbound.Inbound.{Inbound}
use Rattle.fix_engine.specs.Inbound.{InboundSeen}

abbrev pub inbound_of : Inbound → InboundSeen
inbound_of p = record { header = header_of p.head; sent = p.sent; heart = p.heart }
