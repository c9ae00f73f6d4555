use Rattle.std.proofs.Common.{[]}
use Rattle.fix_base.proofs.SeenLemmas.{Trace-nil}
use Rattle.fix_top.specs.Serve.{not_made}
use Rattle.fix_top.proofs.ServeLemmas.{serves-lawfully, memory_cause}
use Rattle.fix_top.proofs.serve.serve_stdio.Goals as goal

pub returns-in-Err-clause-serves : goal.returns-in-Err-clause-serves
returns-in-Err-clause-serves g c = λ id f. ([], Trace-nil _, not_made)

pub returns-in-Err-clause-lawful : goal.returns-in-Err-clause-lawful
returns-in-Err-clause-lawful g c = λ id f. serves-lawfully id 0 _ _ _ ([], Trace-nil _, not_made)

pub returns-in-Err-clause-cause : goal.returns-in-Err-clause-cause
returns-in-Err-clause-cause g c = memory_cause _ _
