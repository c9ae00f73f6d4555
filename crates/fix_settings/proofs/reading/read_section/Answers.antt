use Rattle.std.proofs.Common.{◌≡◌, ◌++◌, sym, ◌∙◌, ap, subst}
use Rattle.std.proofs.lemmas.Grind.{flat_map-append}
use Rattle.fix_settings.specs.Lines.{defaults_of, run_of}
use Rattle.fix_settings.specs.Lent.{lines_read, pairs_read, pair_at, names_read}
use Rattle.fix_settings.specs.Table.{rule_of}
use Rattle.fix_settings.specs.Typed.{shaped}
use Rattle.fix_settings.specs.Reading.{pair_for, value_from, ignored_of, unknown_of, AreInOrder}
use Rattle.fix_settings.proofs.ReadLemmas.{read_refused, read_right, read_each, read_party}
use Rattle.fix_settings.proofs.OrderLemmas.{with_ordered}
use Rattle.fix_settings.proofs.reading.read_section.Goals as goal

pub returns-in-Some : goal.returns-in-Some
returns-in-Some c =
    let of = defaults_of (lines_read c.args.lines.now) in
    let are = ap pairs_read c.deref.ensures.value ∙ c.in_ok-pairs.ensures.pairs of c.requires.pairs.are in
    read_refused c.args.section.now.line _ (pair_for of (run_of (lines_read c.args.section.now.behind.now))) c.in-Some.fault are c.in-Some.ensures

pub returns : goal.returns
returns c =
    let of = defaults_of (lines_read c.args.lines.now) in
    let g = pair_for of (run_of (lines_read c.args.section.now.behind.now)) in
    let line = c.args.section.now.line in
    let are1 = ap pairs_read c.deref.ensures.value ∙ c.in_ok-pairs.ensures.pairs of c.requires.pairs.are in
    let are2 = ap pairs_read c.deref-2.ensures.value ∙ c.in_ok-pairs.ensures.pairs of c.requires.pairs.are in
    let same = ap pairs_read c.deref-4.ensures.value ∙ sym (ap pairs_read c.deref.ensures.value) in
    let run = run_of (lines_read c.args.section.now.behind.now) in
    let names : names_read c.add_run.new.names.items ≡ names_read c.args.ignored.now ++ ignored_of run = c.in_ok-add_run.ensures ∙ ap (λ x. names_read x ++ ignored_of run) c.in_ok-names.ensures.items in
    let ordered : AreInOrder (names_read c.args.ignored.now ++ ignored_of run) (names_read c.in_ok-names-2.names.items) = subst (λ ns. AreInOrder ns (names_read c.in_ok-names-2.names.items)) names c.in_ok-names-2.ensures in
    let both : AreInOrder (ignored_of of ++ ignored_of run) (names_read c.in_ok-names-2.names.items) = with_ordered (ignored_of of) (names_read c.args.ignored.now) (ignored_of run) (names_read c.in_ok-names-2.names.items) c.requires.names ordered in
    let all : AreInOrder (ignored_of (of ++ run)) (names_read c.in_ok-names-2.names.items) = subst (λ ns. AreInOrder ns (names_read c.in_ok-names-2.names.items)) (sym (flat_map-append unknown_of of run)) both in
    let made : AreInOrder (ignored_of (of ++ run)) c.in_ok-ignored.ignored.items = subst (λ m. AreInOrder (ignored_of (of ++ run)) m) (sym (c.in_ok-ignored.ensures ∙ ap names_read c.deref-3.ensures.value)) all in
    let kept : AreInOrder (ignored_of (defaults_of (lines_read c.args.lines.now) ++ run_of (lines_read c.args.section.now.behind.now))) c.in_ok-settings.settings.ignored.items = subst (λ m. AreInOrder (ignored_of (of ++ run)) m) (sym c.in_ok-settings.ensures.ignored) made in
    record {
      right = read_right line _ g are1 (sym c.in_default.is ∙ c.keys_fault.ensures);
      settings = record { each = read_each line _ g c.in_ok-settings.settings are1 (sym c.in_default.is ∙ c.keys_fault.ensures) (λ k. c.in_ok-settings.ensures.each k ∙ ap (λ ps. shaped k (value_from (rule_of k) (pair_at ps k))) same); ignored = kept };
      party_is = read_party line _ g _ are2 c.endpoints_of-endpoints.ensures;
    }
