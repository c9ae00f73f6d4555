use Rattle.std.proofs.Common.{rules, ◌-◌, ◌<◌, length, refl}
use Rattle.std.proofs.lemmas.List.{take_rest}
use Rattle.fix_frame.proofs.Steps.{gives_here}
use Rattle.fix_frame.proofs.Waiting.{stays}
use Rattle.fix_frame.proofs.reader.Reader.next.Goals as goal

pub returns-then-len-self : goal.returns-then-len-self
returns-then-len-self c =
    let i = c.self.inside in
    let few : length i.kept.items - i.place < i.need = search rules in
    ((refl, λ _. tt, rw (← c.self.view_is) (stays i.kept.items i.place i.need i.may_mark c.self.invariant.0 c.self.invariant.1 c.self.invariant.2 few)), tt)

pub returns-in-Here : goal.returns-in-Here
returns-in-Here c =
    let found = rw (c.deref.ensures.value, take_rest) at c.in-Here.ensures in
    ((refl, λ _. tt, rw (c.deref-in-Here.ensures.value, ← c.self.view_is) (record { gives = gives_here c.self.inside.kept.items c.self.inside.place c.in-Here.start c.in-Here.end c.self.inside.may_mark c.in-Here.may_mark found; kept = refl })), tt)
