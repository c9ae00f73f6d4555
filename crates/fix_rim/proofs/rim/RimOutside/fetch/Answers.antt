use Rattle.std.proofs.Common.{rules}
use Rattle.fix_outside.proofs.CallLemmas.{called, answers_so}
use Rattle.fix_rim.specs.StoreSlot.{seen_on}
use Rattle.fix_rim.specs.OptionalLink.{plug_of}
use Rattle.fix_rim.proofs.RimLemmas.{fetched}
use Rattle.fix_rim.proofs.rim.RimOutside.fetch.Goals as goal

pub returns-clause-answers : goal.returns-clause-answers
returns-clause-answers g c =
    let s = c.args.self.now in
    fetched c.fetch.result c.args.n c.fetch.new.into.items (g.T.Tape.told s.tape) (seen_on g.D.Disk.disk s.slot.device) (seen_on g.D.Disk.disk c.fetch.new.self.device) s.slot.open_at (plug_of g.L.Link.link s.optional_link) (g.A.App.app s.app) (g.C.Clock.readings s.clock) c.fetch.ensures.gives c.fetch.ensures.held c.fetch.ensures.room

pub returns-clause-noted : goal.returns-clause-noted
returns-clause-noted g c = search rules

pub returns-clause-called : goal.returns-clause-called
returns-clause-called g c = called _ _ _ (returns-clause-noted g c) (λ e h. answers_so _ _ _ _ (returns-clause-answers g c) e h) tt
