use Rattle.std.proofs.Common.{take, drop, sym}
use Rattle.std.proofs.lemmas.List.{take-append-drop}
use Rattle.fix_disk.proofs.stream_sink.StreamSinkSink.write.Goals as goal

pub returns-in-Err-clause-bytes : goal.returns-in-Err-clause-bytes
returns-in-Err-clause-bytes g c = let bytes = c.args.bytes.now in let count = c.in-Err.field-0 in
    (take count bytes, record { rest = drop count bytes; is = sym (take-append-drop count bytes) }, c.in-Err.ensures.err)
