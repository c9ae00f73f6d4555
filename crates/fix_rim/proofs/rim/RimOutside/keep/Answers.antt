use Rattle.std.proofs.Common.{rules}
use Rattle.fix_outside.proofs.CallLemmas.{called}
use Rattle.fix_rim.specs.StoreSlot.{seen_on}
use Rattle.fix_rim.specs.OptionalLink.{plug_of}
use Rattle.fix_rim.proofs.RimLemmas.{names_on}
use Rattle.fix_rim.proofs.rim.RimOutside.keep.Goals as goal

pub keep-requires-clause-named : goal.keep-requires-clause-named
keep-requires-clause-named g c =
    let s = c.args.self.now in
    names_on (g.T.Tape.told s.tape) (seen_on g.D.Disk.disk s.slot.device) s.slot.open_at (plug_of g.L.Link.link s.optional_link) (g.A.App.app s.app) (g.C.Clock.readings s.clock) c.args.kept.now c.requires.named

pub returns-in-Ok-clause-noted : goal.returns-in-Ok-clause-noted
returns-in-Ok-clause-noted g c = search rules

pub returns-in-Ok-clause-called : goal.returns-in-Ok-clause-called
returns-in-Ok-clause-called g c = called _ _ _ (returns-in-Ok-clause-noted g c) (λ e h. tt) tt

pub returns-in-Err-Failed-clause-noted : goal.returns-in-Err-Failed-clause-noted
returns-in-Err-Failed-clause-noted g c = search rules

pub returns-in-Err-Failed-clause-called : goal.returns-in-Err-Failed-clause-called
returns-in-Err-Failed-clause-called g c = called _ _ _ (returns-in-Err-Failed-clause-noted g c) (λ e h. tt) tt
