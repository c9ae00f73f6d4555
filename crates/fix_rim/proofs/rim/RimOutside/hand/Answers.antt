use Rattle.fix_outside.proofs.CallLemmas.{called}
use Rattle.std.proofs.Common.{◌∙◌, ap, ◌∷◌, []}
use Rattle.fix_base.specs.declared.act.Act.TheVariants as act
use Rattle.fix_base.specs.Trace.{grown}
use Rattle.fix_rim.specs.StoreSlot.{seen_on}
use Rattle.fix_rim.specs.OptionalLink.{plug_of}
use Rattle.fix_rim.proofs.RimLemmas.{hand_failed}
use Rattle.fix_rim.proofs.rim.RimOutside.hand.Goals as goal

pub returns-in-Failed-clause-noted : goal.returns-in-Failed-clause-noted
returns-in-Failed-clause-noted g c =
    let s = c.args.self.now in
    hand_failed _ _ (seen_on g.D.Disk.disk s.slot.device) s.slot.open_at (plug_of g.L.Link.link s.optional_link) (g.C.Clock.readings s.clock) _ _ _ (c.note-in-Failed.ensures.noted ∙ ap (λ t. grown t (act.HandLost c.args.h.now.number c.args.h.now.marked c.args.h.now.body.now ∷ [])) c.reserve.ensures.told) c.in-Failed.ensures.moves

pub returns-in-Failed-clause-called : goal.returns-in-Failed-clause-called
returns-in-Failed-clause-called g c = called _ _ _ (returns-in-Failed-clause-noted g c) (λ e h. tt) tt
