use Rattle.fix_settings.specs.Printing.{session_text}
use Rattle.fix_settings.proofs.PrintLemmas.{text_more}
use Rattle.fix_settings.proofs.printing.put_sessions.Goals as goal

pub loop-settings-preserved : goal.loop-settings-preserved
loop-settings-preserved c = rw c.in_ok-put_session.ensures (text_more session_text c.args.sessions.now c.loop-settings.settings-index c.settings-item.result _ _ c.loop-settings-test.true c.settings-item.is c.loop-settings.invariant)
