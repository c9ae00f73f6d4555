use Rattle.std.proofs.Common.{Ok, Err, refl, sym, ap, ◌∙◌, true≢false}
use Rattle.fix_store.specs.Marking.{adding_fault}
use Rattle.fix_store.proofs.marking.add_mark.Goals as goal

pub returns-then-folded : goal.returns-then-folded
returns-then-folded g c = record { was = λ is. (refl, refl, refl); added = λ none. absurd (true≢false (sym c.if-folded.true ∙ none)) }

pub returns-in-Ok : goal.returns-in-Ok
returns-in-Ok g c = record {
  was = λ is. absurd (true≢false (sym is ∙ c.if-folded.false));
  added = λ none. record {
    answer = Ok c.in-Ok.index;
    is = refl;
    answers = c.in-Ok.ensures.answers;
    moves = c.in-Ok.ensures.moves;
    room = c.in-Ok.ensures.room;
    need = c.in-Ok.ensures.need;
    fold = c.take.ensures;
  };
}

pub returns-in-Err-DiskFault : goal.returns-in-Err-DiskFault
returns-in-Err-DiskFault g c = record {
  was = λ is. absurd (true≢false (sym is ∙ c.if-folded.false));
  added = λ none. record {
    answer = Err c.in-Err-DiskFault.field-0;
    is = ap (λ x. adding_fault (Err x)) (sym c.in-Err-DiskFault.field-0-is);
    answers = c.in-Err-DiskFault.ensures.answers;
    moves = c.in-Err-DiskFault.ensures.moves;
    room = c.in-Err-DiskFault.ensures.room;
    need = c.in-Err-DiskFault.ensures.need;
    fold = tt;
  };
}

pub returns-in-Err-OutOfMemory : goal.returns-in-Err-OutOfMemory
returns-in-Err-OutOfMemory g c = record {
  was = λ is. absurd (true≢false (sym is ∙ c.if-folded.false));
  added = λ none. record {
    answer = Err c.in-Err-OutOfMemory.field-0;
    is = ap (λ x. adding_fault (Err x)) (sym c.in-Err-OutOfMemory.field-0-is);
    answers = c.in-Err-OutOfMemory.ensures.answers;
    moves = c.in-Err-OutOfMemory.ensures.moves;
    room = c.in-Err-OutOfMemory.ensures.room;
    need = c.in-Err-OutOfMemory.ensures.need;
    fold = tt;
  };
}
