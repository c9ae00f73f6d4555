use Rattle.std.proofs.Common.{◌≡◌, ◌+◌, ◌-◌, ◌≤◌, length, take, drop, sym, ◌∙◌, ap, subst, arith, rules}
use Rattle.std.specs.Prelude.{IfSome}
use Rattle.std.proofs.lemmas.List.{take_at}
use Rattle.fix_journal.specs.Cursors.{Begins}
use Rattle.fix_journal.proofs.SoundLemmas.{told_case}
use Rattle.fix_journal.proofs.ReadLemmas.{on_ok}
use Rattle.fix_journal.proofs.CursorLemmas.{begins, payload_in, payload_there, second_range}
use Rattle.fix_journal.proofs.peeking.read_record.Goals as goal

pub returns-then-size-len-clause-read : goal.returns-then-size-len-clause-read
returns-then-size-len-clause-read g c = λ file payload is lies.
    let head = c.read_at.new.room in
    let count = c.fill_up.new.into.len in
    let all : length head ≡ count = search rules in
    let long : length head ≡ c.min.result = c.read_at.auto.room ∙ ap length c.deref_mut.ensures.value ∙ c.fill_up.ensures.length in
    let read : head ≡ take (length head) (drop c.args.place file) = subst (λ o. IfSome o (λ f. head ≡ take (length head) (drop c.args.place f))) is c.in-Ok.ensures.moves.read in
    let shown : Begins head payload = begins file head payload c.args.place c.args.limit lies (omega (arith, long, c.min.ensures, c.saturating_sub-left.ensures, lies.within)) read in
    let size : c.size_in-size.result ≡ length payload = c.size_in-size.ensures.is payload (subst (λ h. Begins h payload) (sym (c.deref.ensures.value ∙ take_at head _ count all)) shown) lies.fits.1 (omega (arith, c.saturating_sub.ensures, c.saturating_sub-left.ensures, lies.within)) in
    c.keep_payload.ensures
    ∙ ap (λ l. take c.size_in-size.result (drop 5 l)) (take_at head _ count all)
    ∙ payload_in file head payload c.args.place c.args.limit c.size_in-size.result lies size (omega (arith, c.if-size-len.true, c.len.ensures, all)) read

pub read_at-requires-2 : goal.read_at-requires-2
read_at-requires-2 g c =
    let disk = g.D.Disk.disk in
    let size : length c.deref_mut-2.result.now ≡ c.size_in-size.result = ap length c.deref_mut-2.ensures.value ∙ c.fill_up-2.ensures.length in
    told_case (disk c.read_at.new.self).bytes (λ file. c.past.result + length c.deref_mut-2.result.now ≤ length file) (λ file is.
    let within : c.args.place + (c.args.limit - c.args.place) ≤ length file = subst (λ o. IfSome o (λ f. c.args.place + (c.args.limit - c.args.place) ≤ length f)) (sym c.in-Ok.ensures.moves.same.bytes ∙ is) c.requires.within in
    omega (arith, size, second_range c.args.place c.args.limit c.past.result c.size_in-size.result c.saturating_sub.result c.saturating_sub-left.result (length file) c.past.ensures.is c.past.ensures.within c.size_in-size.ensures.most c.saturating_sub.ensures c.saturating_sub-left.ensures within))

pub returns-clause-read : goal.returns-clause-read
returns-clause-read g c = λ file payload is lies.
    let head = c.read_at.new.room in
    let count = c.fill_up.new.into.len in
    let all : length head ≡ count = search rules in
    let long : length head ≡ c.min.result = c.read_at.auto.room ∙ ap length c.deref_mut.ensures.value ∙ c.fill_up.ensures.length in
    let read : head ≡ take (length head) (drop c.args.place file) = subst (λ o. IfSome o (λ f. head ≡ take (length head) (drop c.args.place f))) is c.in-Ok.ensures.moves.read in
    let shown : Begins head payload = begins file head payload c.args.place c.args.limit lies (omega (arith, long, c.min.ensures, c.saturating_sub-left.ensures, lies.within)) read in
    let size : c.size_in-size.result ≡ length payload = c.size_in-size.ensures.is payload (subst (λ h. Begins h payload) (sym (c.deref.ensures.value ∙ take_at head _ count all)) shown) lies.fits.1 (omega (arith, c.saturating_sub.ensures, c.saturating_sub-left.ensures, lies.within)) in
    let room = c.read_at-2.new.room in
    let whole : length room ≡ c.fill_up-2.new.into.len = search rules in
    let few : length room ≡ length payload = c.read_at-2.auto.room ∙ ap length c.deref_mut-2.ensures.value ∙ c.fill_up-2.ensures.length ∙ size in
    on_ok c.read_at-2.result
    (λ reads.
    take_at room _ c.fill_up-2.new.into.len whole
    ∙ subst (λ o. IfSome o (λ f. room ≡ take (length room) (drop c.past.result f))) (c.in-Ok.ensures.moves.same.bytes ∙ is) reads
    ∙ payload_there file payload c.args.place c.args.limit c.past.result (length room) lies (c.past.ensures.is (omega (arith, lies.within))) few)
    c.read_at-2.ensures.moves.read

pub returns-clause-short : goal.returns-clause-short
returns-clause-short g c = λ file payload is lies few.
    let head = c.read_at.new.room in
    let count = c.fill_up.new.into.len in
    let all : length head ≡ count = search rules in
    let long : length head ≡ c.min.result = c.read_at.auto.room ∙ ap length c.deref_mut.ensures.value ∙ c.fill_up.ensures.length in
    let read : head ≡ take (length head) (drop c.args.place file) = subst (λ o. IfSome o (λ f. head ≡ take (length head) (drop c.args.place f))) is c.in-Ok.ensures.moves.read in
    let shown : Begins head payload = begins file head payload c.args.place c.args.limit lies (omega (arith, long, c.min.ensures, c.saturating_sub-left.ensures, lies.within)) read in
    let size : c.size_in-size.result ≡ length payload = c.size_in-size.ensures.is payload (subst (λ h. Begins h payload) (sym (c.deref.ensures.value ∙ take_at head _ count all)) shown) lies.fits.1 (omega (arith, c.saturating_sub.ensures, c.saturating_sub-left.ensures, lies.within)) in
    absurd (omega (arith, c.if-size-len.false, c.len.ensures, all, long, size, few, c.min.ensures, c.saturating_sub-left.ensures, lies.within))
