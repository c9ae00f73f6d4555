-- An end keeps its role.
use Rattle.std.proofs.Common.{◌≡◌, ℕ, List, refl, ◌∙◌}
use Rattle.fix_base.specs.declared.identity.Identity.{Identity}
use Rattle.fix_base.specs.declared.entry.Entry.{Entry}
use Rattle.fix_base.specs.declared.act.Act.{Act}
use Rattle.fix_base.specs.EndStep as steps
use Rattle.fix_base.specs.EndStep.{EndState, Pushed, Chain, Move, Row, EndRun}

move_role : {s s' : EndState} → Move s s' → s'.role ≡ s.role
move_role (steps.settles_without r e) = refl
move_role (steps.settles_with r e) = refl
move_role (steps.past_admin c x free o read at) = refl
move_role (steps.past_app c n marked body free o read at grew) = refl
move_role (steps.past_gap c n m free o read at lt) = refl
move_role (steps.reset_to c n m free o read le) = refl

pushed_role : {s s' : EndState} {e : Entry} → Pushed s e s' → s'.role ≡ s.role
pushed_role steps.adds = refl
pushed_role (steps.rejects h free r) = refl

chain_role : {s s' : EndState} {es : List Entry} {k : ℕ} → Chain s es k s' → s'.role ≡ s.role
chain_role steps.ends = refl
chain_role (steps.expects k some at) = refl
chain_role (steps.push pushed chain) = chain_role chain ∙ pushed_role pushed
chain_role (steps.pass m chain) = chain_role chain ∙ move_role m

row_role : {id : Identity} {s s' : EndState} {x : Act} → Row id s x s' → s'.role ≡ s.role
row_role (steps.opened empty) = refl
row_role (steps.now t) = refl
row_role (steps.idle c o) = refl
row_role (steps.ended c o) = refl
row_role (steps.read b c o) = refl
row_role (steps.wrote b c o w rule) = refl
row_role (steps.kept_push e pushed) = pushed_role pushed
row_role (steps.kept_expect k at) = refl
row_role (steps.kept_many pushes k chain) = chain_role chain
row_role (steps.kept_withhold n offered) = refl
row_role (steps.kept_reset t c answer o stay asks) = refl
row_role (steps.cut_reset t gone) = refl
row_role (steps.kept_ask t alone) = refl
row_role (steps.kept_confirm c o asking begun) = refl
row_role (steps.handed c n marked body free may) = refl
row_role (steps.hand_lost c n marked body free may) = refl
row_role (steps.allowed n may) = refl
row_role (steps.offers n may) = refl
row_role (steps.lost_push e) = refl
row_role (steps.lost_expect k at) = refl
row_role (steps.lost_many pushes k chain) = refl
row_role (steps.lost_withhold n offered) = refl
row_role (steps.lost_reset t) = refl
row_role (steps.lost_ask t alone) = refl
row_role (steps.lost_confirm c o asking begun) = refl
row_role steps.cut = refl
row_role steps.stopped = refl

run_role : {id : Identity} {e to : EndState} {acts : List Act} → EndRun id e acts to → to.role ≡ e.role
run_role steps.stop = refl
run_role (steps.step one rest) = run_role rest ∙ row_role one.row
run_role (steps.move m rest) = run_role rest ∙ move_role m

pub keeps_role : (id : Identity) (e to : EndState) (acts : List Act) → EndRun id e acts to → to.role ≡ e.role
keeps_role id e to acts run = run_role run
