use Rattle.std.proofs.Common.{◌∙◌, ℕ, ◌+◌, ◌∷◌, List, drop, get_or, sym, ap, subst, arith}
use Rattle.std.proofs.lemmas.Bool.{both_ways}
use Rattle.fix_groups.specs.Tagged.{Tagged, tagged, all_tagged}
use Rattle.fix_base.specs.Fields.{Field}
use Rattle.fix_groups.specs.Runs.{lead}
use Rattle.fix_validate.specs.Rows.{Finds}
use Rattle.fix_validate.specs.Required.{up_to, instances_of, rows_of_each, required_rows}
use Rattle.fix_validate.proofs.RowLemmas.{goes_same, goes_step, goes_past, stops_in}
use Rattle.fix_validate.proofs.RequiredLemmas.{plain_step, group_step, count_here, count_not, instance_here, instance_not}
use Rattle.fix_validate.proofs.required.+missing.Goals.{missing-in-Plain+else-lacks, missing-in-Group+else-lacks-2+in_default, missing_in_group-then-get-wanted+in_default, missing_in_group-else-get-wanted, missing_in_run-then-get-delimiter+in_default, missing_in_run-else-get-delimiter}
use Rattle.fix_validate.proofs.required.+missing.Goals as goal

pub missing-returns-in-Some : goal.missing-returns-in-Some
missing-returns-in-Some t c =
    stops_in _ _ _ c.missing_in_group.result c.in-Some.fault c.in-Some.is c.missing_in_group.ensures
    (goes_past _ _ _ (both_ways _ (sym c.lacks-in-Group.ensures ∙ c.if-lacks-2.false))
    (goes_same _ _ _ (group_step _ _ c.member-item.result c.in-Group.count c.in-Group.required c.in-Group.inner (all_tagged c.args.fields.now) c.loop-member-test.true c.member-item.is c.in-Group.is) c.loop-member.invariant))

pub missing-loop-member-preserved : goal.missing-loop-member-preserved
missing-loop-member-preserved t c = elim c.match-member.branch [
  | missing-in-Plain+else-lacks w ↦
      goes_past _ _ _ (both_ways _ (sym w.lacks.ensures ∙ w.if-lacks.false))
      (goes_same _ _ _ (plain_step _ _ c.member-item.result w.in-Plain.tag w.in-Plain.required (all_tagged c.args.fields.now) c.loop-member-test.true c.member-item.is w.in-Plain.is) c.loop-member.invariant)
  | missing-in-Group+else-lacks-2+in_default w ↦
      goes_step _ _ _ w.missing_in_group.result w.in_default.is w.missing_in_group.ensures
      (goes_past _ _ _ (both_ways _ (sym w.lacks-in-Group.ensures ∙ w.if-lacks-2.false))
      (goes_same _ _ _ (group_step _ _ c.member-item.result w.in-Group.count w.in-Group.required w.in-Group.inner (all_tagged c.args.fields.now) c.loop-member-test.true c.member-item.is w.in-Group.is) c.loop-member.invariant))
]

pub missing_in_group-returns-in-Some : goal.missing_in_group-returns-in-Some
missing_in_group-returns-in-Some t c =
    let g = c.args.group.now in
    stops_in _ _ _ c.missing_in_run.result c.in-Some.fault c.in-Some.is
    (subst (λ (l : List Tagged). Finds (rows_of_each (required_rows g) (instances_of (lead g) l)) c.missing_in_run.result) c.run_behind-run.ensures c.missing_in_run.ensures)
    (goes_same _ _ _ (count_here (required_rows g) c.args.count g c.args.fields.now c.loop-i.i c.index-fields-i.result c.loop-i-test.true c.index-fields-i.is (omega arith)) c.loop-i.invariant)

pub missing_in_group-loop-i-preserved : goal.missing_in_group-loop-i-preserved
missing_in_group-loop-i-preserved t c =
    let g = c.args.group.now in
    elim c.if-get-wanted.branch [
      | missing_in_group-then-get-wanted+in_default w ↦
          goes_step _ _ _ w.missing_in_run.result w.in_default.is
          (subst (λ (l : List Tagged). Finds (rows_of_each (required_rows g) (instances_of (lead g) l)) w.missing_in_run.result) w.run_behind-run.ensures w.missing_in_run.ensures)
          (goes_same _ _ _ (count_here (required_rows g) c.args.count g c.args.fields.now c.loop-i.i c.index-fields-i.result c.loop-i-test.true c.index-fields-i.is (omega (arith, w.if-get-wanted.true))) c.loop-i.invariant)
      | missing_in_group-else-get-wanted w ↦
          goes_same _ _ _ (count_not (required_rows g) c.args.count g c.args.fields.now c.loop-i.i c.index-fields-i.result c.loop-i-test.true c.index-fields-i.is (λ e. omega (arith, w.if-get-wanted.false, e))) c.loop-i.invariant
    ]

pub missing_in_run-returns-in-Some : goal.missing_in_run-returns-in-Some
missing_in_run-returns-in-Some t c =
    let g = c.args.group.now in
    let f = c.index-run-i.result in
    stops_in _ _ _ c.missing.result c.in-Some.fault c.in-Some.is
    (subst (λ (l : List Tagged). Finds (required_rows g l) c.missing.result)
    (c.instance_at-instance.ensures f ∙ ap (λ (d : ℕ). tagged (get_or c.args.run.now c.loop-i.i f) ∷ up_to d (all_tagged (drop (c.loop-i.i + 1) c.args.run.now))) c.lead-delimiter.ensures ∙ ap (λ (x : Field). tagged x ∷ up_to (lead g) (all_tagged (drop (c.loop-i.i + 1) c.args.run.now))) (sym c.index-run-i.is)) c.missing.ensures)
    (goes_same _ _ _ (instance_here (required_rows g) (lead g) c.args.run.now c.loop-i.i f c.loop-i-test.true c.index-run-i.is (omega arith)) c.loop-i.invariant)

pub missing_in_run-loop-i-preserved : goal.missing_in_run-loop-i-preserved
missing_in_run-loop-i-preserved t c =
    let g = c.args.group.now in
    let f = c.index-run-i.result in
    elim c.if-get-delimiter.branch [
      | missing_in_run-then-get-delimiter+in_default w ↦
          goes_step _ _ _ w.missing.result w.in_default.is
          (subst (λ (l : List Tagged). Finds (required_rows g l) w.missing.result)
          (w.instance_at-instance.ensures f ∙ ap (λ (d : ℕ). tagged (get_or c.args.run.now c.loop-i.i f) ∷ up_to d (all_tagged (drop (c.loop-i.i + 1) c.args.run.now))) c.lead-delimiter.ensures ∙ ap (λ (x : Field). tagged x ∷ up_to (lead g) (all_tagged (drop (c.loop-i.i + 1) c.args.run.now))) (sym c.index-run-i.is)) w.missing.ensures)
          (goes_same _ _ _ (instance_here (required_rows g) (lead g) c.args.run.now c.loop-i.i f c.loop-i-test.true c.index-run-i.is (omega (arith, w.if-get-delimiter.true))) c.loop-i.invariant)
      | missing_in_run-else-get-delimiter w ↦
          goes_same _ _ _ (instance_not (required_rows g) (lead g) c.args.run.now c.loop-i.i f c.loop-i-test.true c.index-run-i.is (λ e. omega (arith, w.if-get-delimiter.false, e))) c.loop-i.invariant
    ]
