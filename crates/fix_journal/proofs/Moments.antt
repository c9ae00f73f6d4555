-- How a run of calls of a disk goes on.
use Rattle.std.proofs.Common.{inl, inr, ⊎_elim, ℕ, ◌≤◌, List, arith}
use Rattle.fix_disk.specs.Disk.{DiskSeen, IsLawfulDisk, Elapses}
use Rattle.fix_disk.specs.Moments.{LeavesOnly}

-- before the first call
pub started : (old : DiskSeen) (P : List ℕ → Type 0) → IsLawfulDisk old → (old.TellsPast → (c : List ℕ) → old.image c → P c) → LeavesOnly old old P
started old P laws here = record {
  told = λ p. p;
  later = λ p. omega arith;
  each = λ p c left. here p c (laws.only_now p c left);
  before = λ p t c le left. inl left;
}

-- one call more, behind which a crash leaves what has P
pub goes_on : (old mid new : DiskSeen) (P : List ℕ → Type 0) → IsLawfulDisk mid → LeavesOnly old mid P → Elapses mid new → (new.TellsPast → (c : List ℕ) → new.image c → P c) → LeavesOnly old new P
goes_on old mid new P laws so_far time here = record {
  told = λ p. so_far.told (was p);
  later = λ p. omega (arith, so_far.later (was p), later p);
  each = λ p c left. ⊎_elim (so_far.each (was p) c) (here p c) (time.nothing_else p old.clock c (so_far.later (was p)) left);
  before = λ p t c le left. ⊎_elim (so_far.before (was p) t c le) (λ now. inr (here p c now)) (time.nothing_else p t c (omega (arith, le, so_far.later (was p))) left);
}
  where
    was : new.TellsPast → mid.TellsPast
    was p = (time.tells_past.0 p).0

    later : new.TellsPast → mid.clock ≤ new.clock
    later p = omega (arith, time.clock (laws.tells_bytes (laws.tells_now (was p))), (time.tells_past.0 p).1)

pub weaker : (old new : DiskSeen) (P Q : List ℕ → Type 0) → LeavesOnly old new P → (new.TellsPast → (c : List ℕ) → P c → Q c) → LeavesOnly old new Q
weaker old new P Q only gives = record {
  told = only.told;
  later = only.later;
  each = λ p c left. gives p c (only.each p c left);
  before = λ p t c le left. ⊎_elim (λ was. inl was) (λ now. inr (gives p c now)) (only.before p t c le left);
}

-- one run of calls behind another
pub then_on : (old mid new : DiskSeen) (P : List ℕ → Type 0) → LeavesOnly old mid P → LeavesOnly mid new P → LeavesOnly old new P
then_on old mid new P first second = record {
  told = λ p. first.told (second.told p);
  later = λ p. omega (arith, first.later (second.told p), second.later p);
  each = λ p c left. ⊎_elim (first.each (second.told p) c) (λ now. now) (second.before p old.clock c (first.later (second.told p)) left);
  before = λ p t c le left. ⊎_elim (first.before (second.told p) t c le) (λ now. inr now) (second.before p t c (omega (arith, le, first.later (second.told p))) left);
}
