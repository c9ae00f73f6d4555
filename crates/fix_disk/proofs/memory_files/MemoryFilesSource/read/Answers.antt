use Rattle.std.proofs.Common.{inr, sym}
use Rattle.fix_disk.proofs.FileLemmas.{same_file}
use Rattle.fix_disk.proofs.memory_files.MemoryFilesSource.read.Goals as goal

pub returns-in_default-clause-failed : goal.returns-in_default-clause-failed
returns-in_default-clause-failed c = λ failed. inr (λ bytes file. c.in_default.ensures bytes (same_file c.as_bytes.result.now c.args.name.now bytes c.deref.result.now c.args.self.now.files.items (sym c.as_bytes.ensures.value) (sym c.deref.ensures.value) file))

pub returns-then-found-limit-clause-missing : goal.returns-then-found-limit-clause-missing
returns-then-found-limit-clause-missing c = λ none. absurd (none c.in-Some.found.now (same_file c.args.name.now c.as_bytes.result.now c.in-Some.found.now c.args.self.now.files.items c.deref.result.now c.as_bytes.ensures.value c.deref.ensures.value c.in-Some.ensures))

pub returns-in_err-from_slice-clause-missing : goal.returns-in_err-from_slice-clause-missing
returns-in_err-from_slice-clause-missing c = λ none. absurd (none c.in-Some.found.now (same_file c.args.name.now c.as_bytes.result.now c.in-Some.found.now c.args.self.now.files.items c.deref.result.now c.as_bytes.ensures.value c.deref.ensures.value c.in-Some.ensures))

pub returns-clause-missing : goal.returns-clause-missing
returns-clause-missing c = λ none. absurd (none c.in-Some.found.now (same_file c.args.name.now c.as_bytes.result.now c.in-Some.found.now c.args.self.now.files.items c.deref.result.now c.as_bytes.ensures.value c.deref.ensures.value c.in-Some.ensures))
