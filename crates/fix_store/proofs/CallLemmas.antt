-- What a call that keeps a record answers, and what a store tells.
use Rattle.std.proofs.Common.{◌≡◌, ◌∙◌, ℕ, ◌≤◌, Bool, true, false, Option, Some, None, Err, refl, sym, ap, subst}
use Rattle.std.specs.Prelude.{map, is_some}
use Rattle.fix_base.specs.declared.entry.Record.{Record}
use Rattle.fix_base.specs.End.{End}
use Rattle.fix_disk.specs.Disk.{DiskSeen}
use Rattle.fix_journal.specs.Format.{IsJournal}
use Rattle.fix_journal.specs.Journal.{JournalSeen}
use Rattle.fix_journal.proofs.SoundLemmas.{told_case, some_same}
use Rattle.fix_store.specs.declared.fault.StoreFault.{StoreFault}
use Rattle.fix_store.specs.declared.fault.StoreFault.TheVariants as fault
use Rattle.fix_store.specs.Spelling.{keeps, spelled_item}
use Rattle.fix_store.specs.Reading.{LAST_NUMBER, new_content, taken_all, HasEnd}
use Rattle.fix_store.specs.Store.{StoreSeen, TellsEnd, IsTold, KeepAnswers}
use Rattle.fix_store.specs.Keeping.{AppendAnswers}
use Rattle.fix_store.specs.Folding.{Fold, fold_with, stored_in, change_of, MayTake, HasPlaceIn}
use Rattle.fix_store.specs.declared.finding.Found.{Found}
use Rattle.fix_store.specs.Finding.{index_in}
use Rattle.fix_store.specs.Sound.{IsSound}
use Rattle.fix_store.proofs.Places.{fold_goes_on, set_goes_on, has_number, has_none}
use Rattle.fix_store.proofs.KeepLemmas.{end_of}

-- what is seen of a store
abbrev pub seen_by : {D : Type 0} → D → Fold → Option Found → Bool → StoreSeen D
seen_by d f near stopped = record { disk = d; stored = stored_in f; withheld = f.withheld; near = index_in near; stopped = stopped }

-- what it tells is its end
pub told_of : {D : Type 0} (disk : D → DiskSeen) (journal : JournalSeen D) (f : Fold) (near : Option Found) (stopped : Bool) → IsSound disk journal f near stopped → IsTold disk (seen_by journal.disk f near stopped)
told_of disk journal f near stopped sound = λ still.
    told_case (disk journal.disk).bytes (λ file. (e : End) × HasEnd file e × TellsEnd (stored_in f) f.withheld e) (λ file is.
    let k = sound.kept still (ap is_some is) in
    let same : k.1.holds.0 ≡ file = some_same k.1.holds.0 file (sym k.1.holds.1 ∙ is) in (
      (taken_all new_content k.0).end,
      end_of k.0 k.1.folds.each file (subst (λ x. IsJournal x (map spelled_item k.0)) same k.1.holds.2),
      record { stored = k.1.folds.stored; withheld = k.1.folds.withheld },
    ))

module _ {D : Type 0} (d d' : D) (f h : Fold) (near : Option Found) (r : Record) (stopped : Bool) (still : stopped ≡ false) where
  -- it is kept
  pub answers_ok : (index : ℕ) (then_stopped : Bool) → then_stopped ≡ false → MayTake f (change_of (keeps r)) → h ≡ fold_with index f (change_of (keeps r)) → KeepAnswers None r (seen_by d f near stopped) (seen_by d' h near then_stopped)
  answers_ok index then_stopped then_still may is = (
    still,
    has_number f r may,
    ap stored_in is ∙ fold_goes_on index f r,
    then_still,
    ap (λ g. g.withheld) is ∙ set_goes_on index f r,
  )

  -- every number is spent
  pub answers_spent : f.counts.last ≤ LAST_NUMBER → f.marked ≡ true → HasPlaceIn (stored_in f) r → (MayTake f (change_of (keeps r)) → ⊥) → KeepAnswers (Some fault.NumbersSpent) r (seen_by d f near stopped) (seen_by d f near stopped)
  answers_spent few marked place not = (still, has_none f r few marked place not, refl)

  -- out of memory before the disk is called
  pub answers_without : MayTake f (change_of (keeps r)) → h ≡ f → KeepAnswers (Some fault.OutOfMemory) r (seen_by d f near stopped) (seen_by d h near stopped)
  answers_without may same = (still, has_number f r may, ap (λ x. seen_by d x near stopped) same)

-- the append failed
pub answers_failed : {D : Type 0} (journal new : JournalSeen D) (f h : Fold) (near : Option Found) (r : Record) (stopped then_stopped : Bool) → stopped ≡ false → journal.stopped ≡ false → then_stopped ≡ new.stopped → MayTake f (change_of (keeps r)) → h ≡ f → (said : StoreFault) → AppendAnswers (Err said) journal new → KeepAnswers (Some said) r (seen_by journal.disk f near stopped) (seen_by new.disk h near then_stopped)
answers_failed journal new f h near r stopped then_stopped still calm is may same fault.Stopped answers = absurd answers
answers_failed journal new f h near r stopped then_stopped still calm is may same fault.NumbersSpent answers = absurd answers
answers_failed journal new f h near r stopped then_stopped still calm is may same fault.OutOfMemory answers =
    let then_still : then_stopped ≡ stopped = is ∙ ap (λ j. j.stopped) answers ∙ calm ∙ sym still in
    (still, has_number f r may, λ i. seen_by (answers i).disk (same i) near (then_still i))
answers_failed journal new f h near r stopped then_stopped still calm is may same fault.DiskFault answers = (
  still,
  has_number f r may,
  ap stored_in same,
  is ∙ answers.1,
  ap (λ g. g.withheld) same,
)
