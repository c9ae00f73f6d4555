-- A walk over a file of which a window shows a part.
use Rattle.std.proofs.Common.{◌≡◌, ℕ, ◌+◌, ◌-◌, ◌≤◌, min, List, ◌++◌, length, take, drop, ◌∙◌, ap, arith, length-drop}
use Rattle.std.specs.Prelude.{IfSome, is_some}
use Rattle.std.proofs.lemmas.List.{drop-take, drop-drop, length-take, take_at, take_min}
use Rattle.std.proofs.Math.Seq.{take-add}
use Rattle.fix_base.specs.Trace.{Rises}
use Rattle.fix_disk.specs.Disk.{DiskSeen, IsLawfulDisk}
use Rattle.fix_disk.specs.Moments.{NeedsRoom}
use Rattle.fix_journal.proofs.RoomLemmas.{needs_then}
use Rattle.fix_journal.specs.declared.heads.Head.{Head}
use Rattle.fix_journal.specs.declared.heads.Head.TheVariants.{Record}
use Rattle.fix_journal.specs.Opening.{Judges, IsWithin, IsUntouched}
use Rattle.fix_journal.specs.declared.index.Index.{Index}
use Rattle.fix_journal.specs.Index.{Adds}
use Rattle.fix_journal.specs.Window.{IsWindow, GoesOn}
use Rattle.fix_journal.specs.declared.window.Window.{Window}
use Rattle.fix_journal.proofs.ScanLemmas.{IsScanning, passes}

-- the walk, of which the window shows what comes next, the calls so far, and the room
pub record IsWalking (old now : DiskSeen) (end : ℕ) (index : Index) (w : Window) : Type 0 where
  pub scanning : IsScanning old now end index
  pub shows : IsWindow now.bytes end w
  pub behind : w.from ≤ index.closed
  pub calls : GoesOn 9 w.from old now
  pub room : NeedsRoom 0 0 old now

-- what a window shows at a place is what the file has there
pub shown_is : (file held : List ℕ) (from at count end : ℕ) → held ≡ take (length held) (drop from file) → length file ≡ end → from ≤ at → at + count ≤ from + length held → count ≡ min (end - at) 5 → take count (drop (at - from) held) ≡ take 5 (drop at file)
shown_is file held from at count end is long le reaches few =
    let skip = at - from in
    let rest = length held - skip in
    let inside : drop skip held ≡ take rest (drop at file) =
    ap (drop skip) (is ∙ ap (λ n. take n (drop from file)) (omega (arith, reaches, le)))
    ∙ drop-take skip rest (drop from file)
    ∙ ap (take rest) (drop-drop skip from file ∙ ap (λ n. drop n file) (omega (arith, le))) in
    let there = drop at file in
    let left : length there ≡ end - at = length-drop at file ∙ ap (λ n. n - at) long in
    let split : take rest there ≡ take count there ++ take (rest - count) (drop count there) =
    ap (λ n. take n there) (omega (arith, reaches, le)) ∙ take-add count (rest - count) there in
    ap (take count) (inside ∙ split)
    ∙ take_at (take count there) (take (rest - count) (drop count there)) count (omega (arith, length-take count there, left, few))
    ∙ ap (λ n. take n there) (omega (arith, few, left))
    ∙ take_min 5 there

pub walks_on : (old mid new : DiskSeen) (end size : ℕ) (index next : Index) (w v : Window) (head : Head) → head ≡ Record size → IsLawfulDisk mid → IsWalking old mid end index w → Adds (index.closed + (5 + size)) index next → IfSome mid.bytes (λ file. Judges head (drop index.closed file)) → IsWithin head (end - index.closed) → IsUntouched mid new → Rises 0 mid.faults new.faults
    → IsWindow new.bytes end v → v.from ≤ index.closed → GoesOn w.from v.from mid new → NeedsRoom 0 0 mid new → IsWalking old new end next v
walks_on old mid new end size index next w v head is laws so_far adds there within untouched cause shows behind calls room = record {
  scanning = passes old mid new end size index next head is laws so_far.scanning adds there within untouched cause;
  shows = shows;
  behind = omega (arith, behind, adds.closed);
  calls = λ some. omega (arith, so_far.calls some, calls (ap is_some so_far.scanning.untouched.bytes ∙ some));
  room = needs_then 0 0 old mid new so_far.room.same room;
}
