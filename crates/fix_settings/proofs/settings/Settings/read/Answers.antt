use Rattle.std.proofs.Common.{◌≡◌, None, sym, ap, ◌∙◌, subst}
use Rattle.fix_settings.specs.Reading.{refusal_of, AreSessionsOf}
use Rattle.fix_settings.proofs.LawfulLemmas.{text_lawful}
use Rattle.fix_settings.proofs.settings.Settings.read.Goals as goal

pub returns-in-Ok-Ok-clause-ok : goal.returns-in-Ok-Ok-clause-ok
returns-in-Ok-Ok-clause-ok c =
    let read = rw c.in-Ok-Ok.field-0-is at c.in-Ok-Ok.ensures in
    let right : refusal_of c.args.text.now ≡ None = sym (ap refusal_of c.as_bytes.ensures.value) ∙ read.0 in
    let are : AreSessionsOf c.args.text.now c.in-Ok-Ok.sessions.items = subst (λ t. AreSessionsOf t c.in-Ok-Ok.sessions.items) c.as_bytes.ensures.value read.1 in
    record { right = right; sessions_are = are; lawful = text_lawful c.args.text.now c.in-Ok-Ok.sessions.items c.utf8.text right are }
