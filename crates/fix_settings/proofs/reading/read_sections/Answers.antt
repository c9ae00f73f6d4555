use Rattle.fix_settings.specs.Lines.{defaults_of}
use Rattle.fix_settings.specs.Lent.{lines_read}
use Rattle.fix_settings.proofs.SessionsLemmas.{sections_more}
use Rattle.fix_settings.proofs.reading.read_sections.Goals as goal

pub loop-section-preserved : goal.loop-section-preserved
loop-section-preserved c = rw (c.in_ok-push-in-Session.ensures.items, c.in_ok-push-in-Session-2.ensures.items)
    (sections_more (defaults_of (lines_read c.args.lines.now)) c.args.sections.now c.loop-section.section-index _ c.loop-section.sessions.items c.loop-section.endpoint_list.items c.in-Session.settings c.in-Session.endpoints c.loop-section-test.true c.loop-section.invariant
    (rw c.in-Session.is at c.in_ok-fault.ensures))
