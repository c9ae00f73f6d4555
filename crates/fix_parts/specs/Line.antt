-- The line of text that shows a message.
use Rattle.std.specs.Prelude.{◌≡◌, ℕ, List, [], ◌∷◌, ◌++◌, codes, Some, None, Ok, Err, ⊤}
use Rattle.fix_base.specs.Session.{begin_string_of}
use Rattle.fix_base.specs.declared.identity.Identity.{Identity}
use Rattle.fix_outside.specs.declared.handing.Handed.{Handed}
use Rattle.fix_outside.specs.declared.handing.Said.{Said}
use Rattle.fix_outside.specs.declared.handing.Said.TheVariants as said
use Rattle.fix_disk.specs.Sink.{SinkSeen, SinkWrites}
use Rattle.fix_parts.specs.App.{AppSeen, line_of}

-- a hand-over is one write of the line, or none where it is out of memory
abbrev pub LineWrites : Said → Handed → SinkSeen → SinkSeen → Type 0
LineWrites said.Taken h old new = SinkWrites {T = ⊤} (Ok tt) (line_of h) old new
LineWrites said.Failed h old new = SinkWrites {T = ⊤} (Err (record {})) (line_of h) old new
LineWrites said.OutOfMemory h old new = new ≡ old

-- what is seen of an application that writes lines to a sink, and sends nothing
abbrev pub line_seen : SinkSeen → AppSeen
line_seen s = record {
  given = None;
  lines = s.written;
  room = s.room;
  asked = Some [];
  to_ask = Some [];
  faults = s.faults;
}

-- ---- lines that begin with the name of their session

-- as `FIX.4.2:SELL->BUY`: BeginString (8), SenderCompID (49) and TargetCompID (56) of this end
abbrev pub name_text : Identity → List ℕ
name_text id = begin_string_of id.begin ++ codes ":" ++ id.sender ++ codes "->" ++ id.target

-- the name and the sink
pub record NamedSeen (S : Type 0) : Type 0 where
  pub name : List ℕ
  pub sink : S

-- the name, a space, and the line of the message
abbrev pub named_line : List ℕ → Handed → List ℕ
named_line name h = name ++ 32 ∷ line_of h

-- a hand-over is one write of this line, or none where it is out of memory
abbrev pub NamedWrites : Said → List ℕ → Handed → SinkSeen → SinkSeen → Type 0
NamedWrites said.Taken name h old new = SinkWrites {T = ⊤} (Ok tt) (named_line name h) old new
NamedWrites said.Failed name h old new = SinkWrites {T = ⊤} (Err (record {})) (named_line name h) old new
NamedWrites said.OutOfMemory name h old new = new ≡ old

-- what is seen of such an application; it tells no lines, since these are more than the messages' own
abbrev pub named_seen : SinkSeen → AppSeen
named_seen s = record {
  given = None;
  lines = None;
  room = None;
  asked = Some [];
  to_ask = Some [];
  faults = s.faults;
}
