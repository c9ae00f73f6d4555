use Rattle.std.proofs.Common.{◌∙◌, sym, subst}
use Rattle.fix_session.specs.Judged.{rules_seen, RuledOut, of_application, of_session, at_fault, application_ruled_out, session_ruled_out}
use Rattle.fix_session.proofs.judging.judge.Goals as goal

pub returns-in-Some : goal.returns-in-Some
returns-in-Some c =
    application_ruled_out _ (sym c.is_admin_type.ensures ∙ c.if-not-is_admin_type.true)
    (subst (λ a. RuledOut (rules_seen c.args.rules.now) c.args.frame.now a) c.in-Some.is c.in_ok-fault.ensures)

pub returns-in-None : goal.returns-in-None
returns-in-None c =
    of_application (sym c.is_admin_type.ensures ∙ c.if-not-is_admin_type.true)
    (subst (λ a. RuledOut (rules_seen c.args.rules.now) c.args.frame.now a) c.in-None.is c.in_ok-fault.ensures)

pub returns-in-Err : goal.returns-in-Err
returns-in-Err c =
    at_fault _ (sym c.is_admin_type.ensures ∙ c.if-not-is_admin_type.false)
    (λ fs has. sym (c.in-Err.ensures _ fs has (c.requires.kind fs has)))

pub returns-in-Some-2 : goal.returns-in-Some-2
returns-in-Some-2 c =
    session_ruled_out _ _ (sym c.is_admin_type.ensures ∙ c.if-not-is_admin_type.false)
    (λ fs has. sym (c.in-Ok.ensures _ fs has (c.requires.kind fs has)))
    (subst (λ a. RuledOut (rules_seen c.args.rules.now) c.args.frame.now a) c.in-Some-2.is c.in_ok-fault-in-Ok.ensures)

pub returns-in-None-2 : goal.returns-in-None-2
returns-in-None-2 c =
    of_session _ (sym c.is_admin_type.ensures ∙ c.if-not-is_admin_type.false)
    (λ fs has. sym (c.in-Ok.ensures _ fs has (c.requires.kind fs has)))
    (subst (λ a. RuledOut (rules_seen c.args.rules.now) c.args.frame.now a) c.in-None-2.is c.in_ok-fault-in-Ok.ensures)
