-- A write to a disk in memory, whether it is struck or not.
use Rattle.std.proofs.Common.{◌≡◌, ◌↔◌, ℕ, ◌+◌, ◌≤◌, min, Bool, true, false, List, length, Some, Result, Ok, Err, refl, sym, ap, arith}
use Rattle.std.specs.Prelude.{IsErr, IsTrue, MatchBool}
use Rattle.std.proofs.lemmas.Bool.{false≢true}
use Rattle.fix_base.specs.Trace.{LAST_COUNT, Rises}
use Rattle.fix_disk.specs.Disk.{Torn, WrittenAfter, overwritten, failures}
use Rattle.fix_disk.specs.declared.disk.DiskFailed.{DiskFailed}
use Rattle.fix_disk.proofs.Overwritten.{length-overwritten, overwritten_before, overwritten_after}

pub written_torn : (at : ℕ) (bytes old : List ℕ) → at ≤ length old → Torn at (length bytes) old (overwritten at bytes old)
written_torn at bytes old within = record {
  no_shorter = omega (arith, length-overwritten at bytes old within);
  no_longer = omega (arith, length-overwritten at bytes old within);
  before = λ i lt below. overwritten_before at bytes old within i 0 below;
  after = λ i lt behind. overwritten_after at bytes old within i 0 behind;
}

pub written_after : {T : Type 0} (answer : Result T DiskFailed) (at : ℕ) (bytes old now : List ℕ) → at ≤ length old → now ≡ overwritten at bytes old → WrittenAfter answer at bytes (Some old) (Some now)
written_after (Ok x) at bytes old now within is = ap Some is
written_after (Err e) at bytes old now within is = (overwritten at bytes old, written_torn at bytes old within, ap Some is)

pub risen : {T : Type 0} (answer : Result T DiskFailed) (fails : Bool) (old new : ℕ) → (IsErr answer ↔ IsTrue fails) → MatchBool fails (new ≡ min (old + 1) LAST_COUNT) (new ≡ old) → Rises (failures answer) old new
risen (Ok x) true old new iff is = omega (arith, is)
risen (Ok x) false old new iff is = omega (arith, is)
risen (Err e) true old new iff is = omega (arith, is)
risen (Err e) false old new iff is = absurd (false≢true (iff.0 refl))

pub unraised : (fails : Bool) (old new : ℕ) → fails ≡ false → MatchBool fails (new ≡ min (old + 1) LAST_COUNT) (new ≡ old) → Rises 0 old new
unraised true old new shut is = absurd (false≢true (sym shut))
unraised false old new shut is = omega (arith, is)
