-- What is seen of a sink over a stream, and what a write does to the stream where that tells its bytes.
use Rattle.std.specs.Prelude.{ℕ, List, None, Option, Result, Ok, Err}
use Rattle.std.specs.Io.KnownBytes.{Appends}
use Rattle.fix_base.specs.Lists.{IsPrefixOf}
use Rattle.fix_disk.specs.declared.stream_sink.StreamSink.{StreamSink}
use Rattle.fix_disk.specs.declared.sink.SinkFailed.{SinkFailed}
use Rattle.fix_disk.specs.Sink.{SinkSeen}

abbrev pub stream_sink_of : {W : Type 0} → StreamSink W → SinkSeen
stream_sink_of s = record { written = None; room = None; faults = s.faults }

abbrev pub StreamSinks : {T : Type 0} → Result T SinkFailed → List ℕ → Option (List ℕ) → Option (List ℕ) → Type 0
StreamSinks (Ok x) bytes old new = Appends old new bytes
StreamSinks (Err e) bytes old new = (part : List ℕ) × IsPrefixOf part bytes × Appends old new part
