-- What a run of an end writes on its connection may be written, and what it keeps may be sent again.
use Rattle.std.proofs.Common.{inl, inr, ◌≡◌, ℕ, ◌==◌, if◌then◌else◌, Bool, true, false, List, [], ◌∷◌, ◌++◌, length, Some, None, refl, sym, ap, ◌∙◌, subst, append_assoc, arith}
use Rattle.std.specs.List.{AllByRecursion}
use Rattle.std.proofs.lemmas.List.{append-nil}
use Rattle.fix_base.specs.Lists.{Among}
use Rattle.fix_base.specs.Payload.{IsPersistentEntry, IsPersistent}
use Rattle.fix_base.specs.World.{IsPlainRecord}
use Rattle.fix_base.specs.declared.identity.Identity.{Identity}
use Rattle.fix_base.specs.declared.entry.Entry.{Entry}
use Rattle.fix_base.specs.declared.entry.Record.{Record}
use Rattle.fix_base.specs.declared.entry.Record.TheVariants.{Push, Expect, Many, Withhold, Reset, ResetAsk, Confirm}
use Rattle.fix_base.specs.declared.act.Act.{Act}
use Rattle.fix_base.specs.declared.act.Act.TheVariants as act
use Rattle.fix_base.specs.End.{End, folded, GrowsTo}
use Rattle.fix_base.specs.Wrote as wrote
use Rattle.fix_base.specs.Wrote.{Gap, Writes, Wrote}
use Rattle.fix_base.specs.EndStep as steps
use Rattle.fix_base.specs.EndStep.{Connection, EndState, Pushed, Chain, Row, EndStep, Move, EndRun}
use Rattle.fix_base.proofs.ListLemmas.{some_same, Among-append_cases, Among-cons_cases, length-prefix}
use Rattle.fix_base.proofs.WroteLemmas.{IsEntry-more, GrowsTo-trans, SkipsBetween-more}
use Rattle.fix_base.proofs.WholeLemmas.{push_grows, expect_grows, many_grows, withhold_grows, whole_start, whole_wrote}
use Rattle.fix_engine.specs.InStep.{IsOfRun, AreOfRun, bytes_written}

writes_more : {id : Identity} {old new more : End} {from to : ℕ} {gaps : List Gap} {texts : List (List ℕ)} → GrowsTo new more → Writes id old new from gaps texts to → Writes id old more from gaps texts to
writes_more p wrote.done = wrote.done
writes_more p (wrote.original n e le above entry is others) = wrote.original n e le above (IsEntry-more p.out entry) is (writes_more p others)
writes_more p (wrote.again n time by body t le entry free uncovered is others) = wrote.again n time by body t le (IsEntry-more p.out entry) free uncovered is (writes_more p others)
writes_more p (wrote.gap_fill n m t le some inside skips is others) =
    let grew = length-prefix p.out in
    wrote.gap_fill n m t le some (omega (arith, grew)) (SkipsBetween-more p skips) is (writes_more p others)

-- as the end grows
wrote_more : (id : Identity) (old new more : End) (w : List ℕ) → GrowsTo new more → Wrote id old new w → Wrote id old more w
wrote_more id old new more w p h = record { grew = GrowsTo-trans h.grew p; texts = h.texts; last = h.last; writes = writes_more p h.writes; front = h.front }

-- an end only grows by a record that is no reset
no_reset_grows : (e : End) (r : Record) → IsPlainRecord r → GrowsTo e (folded e r)
no_reset_grows e (Push entry) h = push_grows e entry
no_reset_grows e (Expect n) h = expect_grows e n
no_reset_grows e (Many pushes k) h = many_grows e pushes k
no_reset_grows e (Withhold n) h = withhold_grows e n
no_reset_grows e (Reset t) h = absurd h
no_reset_grows e (ResetAsk t) h = absurd h
no_reset_grows e Confirm h = absurd h

among_persistent : (pushes : List Entry) (x : Entry) → AllByRecursion IsPersistentEntry pushes → Among x pushes → IsPersistentEntry x
among_persistent [] x h m = elim m [ ]
among_persistent (y ∷ pushes) x h m = elim (Among-cons_cases m) as (λ _. IsPersistentEntry x) [ inl same ↦ subst IsPersistentEntry (sym same) h.0 | inr later ↦ among_persistent pushes x h.1 later ]

-- with more entries that may be sent again an end is persistent still
entries_persistent : (e : End) (pushes : List Entry) → AllByRecursion IsPersistentEntry pushes → IsPersistent e → (x : Entry) → Among x (e.out ++ pushes) → IsPersistentEntry x
entries_persistent e pushes h p x m = elim (Among-append_cases e.out pushes m) as (λ _. IsPersistentEntry x) [ inl old ↦ p.each x old | inr new ↦ among_persistent pushes x h new ]

expecting_persistent : (f : End) (k : ℕ) (none : Bool) → IsPersistent f → IsPersistent (if none then f else record f { stored = k })
expecting_persistent f k true p = p
expecting_persistent f k false p = record { each = p.each }

-- with one more record the end is persistent still
more_persistent : (e : End) (r : Record) → IsPlainRecord r → IsPersistent e → IsPersistent (folded e r)
more_persistent e (Push entry) h p = record { each = entries_persistent e (entry ∷ []) (h, tt) p }
more_persistent e (Expect n) h p = record { each = p.each }
more_persistent e (Many pushes k) h p = expecting_persistent (record e { out = e.out ++ pushes }) k (k == 0) (record { each = entries_persistent e pushes h p })
more_persistent e (Withhold n) h p = record { each = p.each }
more_persistent e (Reset t) h p = absurd h
more_persistent e (ResetAsk t) h p = absurd h
more_persistent e Confirm h p = absurd h

-- since the connection was opened at `old` the end has written these bytes; it is persistent where it was, and what is
-- in doubt may be kept
record HasWritten (id : Identity) (old : End) (w : List ℕ) (s : EndState) : Type 0 where
  so_far : Wrote id old s.end w
  persistent : IsPersistent old → IsPersistent s.end
  opened : (c : Connection) → s.connection ≡ Some c → c.opened ≡ old
  written : (c : Connection) → s.connection ≡ Some c → c.written ≡ w
  doubt : (r : Record) → s.doubt ≡ Some r → IsPlainRecord r

-- a connection that goes on as this one
same_opened : (old : End) (c k : Connection) → c.opened ≡ old → k.opened ≡ c.opened → (d : Connection) → Some k ≡ Some d → d.opened ≡ old
same_opened old c k is same d e = subst (λ (x : Connection). x.opened ≡ old) (some_same k d e) (same ∙ is)

same_written : (w : List ℕ) (c k : Connection) → c.written ≡ w → k.written ≡ c.written → (d : Connection) → Some k ≡ Some d → d.written ≡ w
same_written w c k is same d e = subst (λ (x : Connection). x.written ≡ w) (some_same k d e) (same ∙ is)

-- the bytes behind one act
abbrev after_act : List ℕ → Act → List ℕ
after_act w x = w ++ bytes_written (x ∷ [])

-- where the act writes nothing
as_before : (id : Identity) (old : End) (w : List ℕ) (s : EndState) → HasWritten id old w s → HasWritten id old (w ++ []) s
as_before id old w s h = subst (λ v. HasWritten id old v s) (sym (append-nil w)) h

-- one more record, and what was handled may be more
grown_by : (id : Identity) (old : End) (w : List ℕ) (s s' : EndState) (r : Record) → IsPlainRecord r → s'.end ≡ folded s.end r → s'.connection ≡ s.connection → s'.doubt ≡ s.doubt → HasWritten id old w s → HasWritten id old w s'
grown_by id old w s s' r plain is same doubt h = record {
  so_far = subst (λ e. Wrote id old e w) (sym is) (wrote_more id old s.end (folded s.end r) w (no_reset_grows s.end r plain) h.so_far);
  persistent = λ p. subst IsPersistent (sym is) (more_persistent s.end r plain (h.persistent p));
  opened = λ c o. h.opened c (sym same ∙ o);
  written = λ c o. h.written c (sym same ∙ o);
  doubt = λ q o. h.doubt q (sym doubt ∙ o);
}

pushed_writes : (id : Identity) (old : End) (w : List ℕ) (s s' : EndState) (e : Entry) → IsPersistentEntry e → Pushed s e s' → HasWritten id old w s → HasWritten id old w s'
pushed_writes id old w s s' e plain steps.adds h = grown_by id old w s s' (Push e) plain refl refl refl h
pushed_writes id old w s s' e plain (steps.rejects g free j) h = grown_by id old w s s' (Push e) plain refl refl refl h

move_writes : (id : Identity) (old : End) (w : List ℕ) (s s' : EndState) → Move s s' → HasWritten id old w s → HasWritten id old w s'
move_writes id old w s s' (steps.settles_without q e) h = record { so_far = h.so_far; persistent = h.persistent; opened = h.opened; written = h.written; doubt = λ r k. cc }
move_writes id old w s s' (steps.settles_with q e) h = record { so_far = wrote_more id old s.end s'.end w (no_reset_grows s.end q (h.doubt q e)) h.so_far; persistent = λ p. more_persistent s.end q (h.doubt q e) (h.persistent p); opened = h.opened; written = h.written; doubt = λ r k. cc }
move_writes id old w s s' (steps.past_admin c x free o read at) h = record { so_far = h.so_far; persistent = h.persistent; opened = h.opened; written = h.written; doubt = h.doubt }
move_writes id old w s s' (steps.past_app c n marked body free o read at grew) h = record { so_far = h.so_far; persistent = h.persistent; opened = h.opened; written = h.written; doubt = h.doubt }
move_writes id old w s s' (steps.past_gap c n m free o read at lt) h = record { so_far = h.so_far; persistent = h.persistent; opened = h.opened; written = h.written; doubt = h.doubt }
move_writes id old w s s' (steps.reset_to c n m free o read le) h = record { so_far = h.so_far; persistent = h.persistent; opened = h.opened; written = h.written; doubt = h.doubt }

-- the entries of a record of several, one after another
chain_writes : (id : Identity) (old : End) (w : List ℕ) {s s' : EndState} {pushes : List Entry} {k : ℕ} → Chain s pushes k s' → AllByRecursion IsPersistentEntry pushes → HasWritten id old w s → HasWritten id old w s'
chain_writes id old w steps.ends plain h = h
chain_writes id old w {s = s} {s' = s'} (steps.expects k some is) plain h = grown_by id old w s s' (Expect k) tt refl refl refl h
chain_writes id old w {s = s} (steps.push {mid = mid} {e = e} one others) plain h = chain_writes id old w others plain.1 (pushed_writes id old w s mid e plain.0 one h)
chain_writes id old w {s = s} (steps.pass {mid = mid} m others) plain h = chain_writes id old w others plain (move_writes id old w s mid m h)

-- a record may be kept or not, and the connection is over
lost_writes : (id : Identity) (old : End) (w : List ℕ) (s s' : EndState) (r : Record) → IsPlainRecord r → s'.end ≡ s.end → s'.connection ≡ None → s'.doubt ≡ Some r → HasWritten id old w s → HasWritten id old w s'
lost_writes id old w s s' r plain is closed doubt h = record {
  so_far = subst (λ e. Wrote id old e w) (sym is) h.so_far;
  persistent = λ p. subst IsPersistent (sym is) (h.persistent p);
  opened = λ c o. (let none : None ≡ Some c = sym closed ∙ o in cc);
  written = λ c o. (let none : None ≡ Some c = sym closed ∙ o in cc);
  doubt = λ q o. subst IsPlainRecord (some_same r q (sym doubt ∙ o)) plain;
}

row_writes : {id : Identity} (old : End) (w : List ℕ) (s s' : EndState) (x : Act) → IsOfRun x → s.doubt ≡ None → Row id s x s' → HasWritten id old w s → HasWritten id old (after_act w x) s'
row_writes old w s s' x ran none (steps.opened asks) h = absurd ran
row_writes {id = id} old w s s' x ran none (steps.now t) h = as_before id old w s h
row_writes {id = id} old w s s' x ran none (steps.idle c o) h = as_before id old w s h
row_writes {id = id} old w s s' x ran none (steps.ended c o) h = as_before id old w s h
row_writes {id = id} old w s s' x ran none (steps.read b c o) h = as_before id old w s' (record { so_far = h.so_far; persistent = h.persistent; opened = same_opened old c _ (h.opened c o) refl; written = same_written w c _ (h.written c o) refl; doubt = h.doubt })
row_writes {id = id} old w s s' x ran none (steps.wrote b c o lawful rule) h =
    let bytes : c.written ++ b ≡ w ++ (b ++ []) = ap (λ v. v ++ b) (h.written c o) ∙ ap (λ v. w ++ v) (sym (append-nil b)) in
    record {
      so_far = subst (λ v. Wrote id old s.end v) bytes (subst (λ f. Wrote id f s.end (c.written ++ b)) (h.opened c o) lawful);
      persistent = h.persistent;
      opened = same_opened old c _ (h.opened c o) refl;
      written = λ d e. subst (λ (k : Connection). k.written ≡ w ++ (b ++ [])) (some_same _ d e) bytes;
      doubt = h.doubt;
    }
row_writes {id = id} old w s s' x ran none (steps.kept_push e one) h = as_before id old w s' (pushed_writes id old w s s' e ran one h)
row_writes {id = id} old w s s' x ran none (steps.kept_expect n k) h = as_before id old w s' (grown_by id old w s s' (Expect n) tt refl refl refl h)
row_writes {id = id} old w s s' x ran none (steps.kept_many pushes k chain) h = as_before id old w s' (chain_writes id old w chain ran h)
row_writes {id = id} old w s s' x ran none (steps.kept_withhold n o) h = as_before id old w s' (grown_by id old w s s' (Withhold n) tt refl refl refl h)
row_writes old w s s' x ran none (steps.kept_reset t c answer o stays asks) h = absurd ran
row_writes old w s s' x ran none (steps.cut_reset t never) h = absurd ran
row_writes old w s s' x ran none (steps.kept_ask t o) h = absurd ran
row_writes old w s s' x ran none (steps.kept_confirm c o asking begun) h = absurd ran
row_writes {id = id} old w s s' x ran none (steps.handed c n marked body free may) h = as_before id old w s' (record { so_far = h.so_far; persistent = h.persistent; opened = same_opened old c _ (h.opened c may.is_open) refl; written = same_written w c _ (h.written c may.is_open) refl; doubt = h.doubt })
row_writes {id = id} old w s s' x ran none (steps.hand_lost c n marked body free may) h = as_before id old w s' (record { so_far = h.so_far; persistent = h.persistent; opened = λ d e. cc; written = λ d e. cc; doubt = h.doubt })
row_writes {id = id} old w s s' x ran none (steps.allowed n may) h = as_before id old w s h
row_writes {id = id} old w s s' x ran none (steps.offers n may) h = as_before id old w s' (record { so_far = h.so_far; persistent = h.persistent; opened = h.opened; written = h.written; doubt = h.doubt })
row_writes {id = id} old w s s' x ran none (steps.lost_push e) h = as_before id old w s' (lost_writes id old w s s' (Push e) ran refl refl refl h)
row_writes {id = id} old w s s' x ran none (steps.lost_expect n k) h = as_before id old w s' (lost_writes id old w s s' (Expect n) tt refl refl refl h)
row_writes {id = id} old w s s' x ran none (steps.lost_many pushes k chain) h = as_before id old w s' (lost_writes id old w s s' (Many pushes k) ran refl refl refl h)
row_writes {id = id} old w s s' x ran none (steps.lost_withhold n o) h = as_before id old w s' (lost_writes id old w s s' (Withhold n) tt refl refl refl h)
row_writes old w s s' x ran none (steps.lost_reset t) h = absurd ran
row_writes old w s s' x ran none (steps.lost_ask t o) h = absurd ran
row_writes old w s s' x ran none (steps.lost_confirm c o asking begun) h = absurd ran
row_writes {id = id} old w s s' x ran none steps.cut h = as_before id old w s' (record { so_far = h.so_far; persistent = h.persistent; opened = λ d e. cc; written = λ d e. cc; doubt = h.doubt })
row_writes old w s s' x ran none steps.stopped h = absurd ran

written-cons : (x : Act) (acts : List Act) → bytes_written (x ∷ acts) ≡ bytes_written (x ∷ []) ++ bytes_written acts
written-cons (act.Wrote b) acts = ap (λ v. v ++ bytes_written acts) (sym (append-nil b))
written-cons (act.Read b) acts = refl
written-cons act.Opened acts = refl
written-cons (act.Now t) acts = refl
written-cons act.Idle acts = refl
written-cons act.Ended acts = refl
written-cons (act.Kept r) acts = refl
written-cons (act.KeepLost r) acts = refl
written-cons (act.Handed n marked body) acts = refl
written-cons (act.HandLost n marked body) acts = refl
written-cons (act.Withheld k) acts = refl
written-cons (act.Allowed k) acts = refl
written-cons act.Cut acts = refl
written-cons act.Stop acts = refl

run_writes : {id : Identity} (old : End) (w : List ℕ) {s s' : EndState} {acts : List Act} → EndRun id s acts s' → AreOfRun acts → HasWritten id old w s → HasWritten id old (w ++ bytes_written acts) s'
run_writes {id = id} old w {s = s} steps.stop ran h = as_before id old w s h
run_writes {id = id} old w {s = s} {s' = s'} (steps.move {mid = mid} m d) ran h = run_writes old w d ran (move_writes id old w s mid m h)
run_writes {id = id} old w {s = s} {s' = s'} (steps.step {mid = mid} {a = x} {acts = acts} one d) ran h =
    let later = run_writes old (after_act w x) d ran.1 (row_writes old w s mid x ran.0 one.certain one.row h) in
    subst (λ v. HasWritten id old v s') (append_assoc w (bytes_written (x ∷ [])) (bytes_written acts) ∙ ap (λ v. w ++ v) (sym (written-cons x acts))) later

just_opened : {id : Identity} (s s' : EndState) → s.doubt ≡ None → Row id s act.Opened s' → HasWritten id s.end [] s'
just_opened {id = id} s s' none (steps.opened asks) = record {
  persistent = λ p. p;
  so_far = whole_wrote id s.end s.end (length s.end.out) [] (whole_start id s.end);
  opened = λ d e. ap (λ (k : Connection). k.opened) (sym (some_same _ d e));
  written = λ d e. ap (λ (k : Connection). k.written) (sym (some_same _ d e));
  doubt = λ r e. cc;
}

-- from the opening on
pub run_wrote : (id : Identity) (start opened to : EndState) (acts : List Act) → EndStep id start act.Opened opened → EndRun id opened acts to → AreOfRun acts → Wrote id start.end to.end (bytes_written acts)
run_wrote id start opened to acts step d ran = (run_writes start.end [] d ran (just_opened start opened step.certain step.row)).so_far

pub run_persistent : (id : Identity) (start opened to : EndState) (acts : List Act) → EndStep id start act.Opened opened → EndRun id opened acts to → AreOfRun acts → IsPersistent start.end → IsPersistent to.end
run_persistent id start opened to acts step d ran = (run_writes start.end [] d ran (just_opened start opened step.certain step.row)).persistent
