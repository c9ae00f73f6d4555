use Rattle.std.proofs.Common.{◌≤◌, ◌+◌, length, map, sym, ap, ◌∙◌, subst, rules, arith, vec_capacity}
use Rattle.std.proofs.lemmas.List.{length-map}
use Rattle.crossbeam_queue.specs.Passes.{view}
use Rattle.fix_outbox.specs.declared.queue.Part.{Part}
use Rattle.fix_outbox.specs.Queue.{count_posted, CanContain}
use Rattle.crossbeam_queue.specs.Fifo.{Held}
use Rattle.fix_outbox.specs.Passes.{draft_of}
use Rattle.fix_outbox.proofs.OrderLemmas.{learns}
use Rattle.fix_outbox.proofs.SettleLemmas.{settles, in_all, room_enough, few_left}
use Rattle.fix_outbox.proofs.ClosingLemmas.{checks}
use Rattle.fix_outbox.proofs.settling.settle.Goals as goal

pub load-requires : goal.load-requires
load-requires g c = (search rules, search rules, checks _ _ _ (search rules))

pub len_as-requires-clause-rule : goal.len_as-requires-clause-rule
len_as-requires-clause-rule g c = learns _ _

pub drain-left-requires-clause-room : goal.drain-left-requires-clause-room
drain-left-requires-clause-room g c =
    let is = c.gather.ensures.known in
    let held = c.len_as.ensures.rule in
    (search rules, subst (λ (u : Part). count_posted u.known ≤ length u.list + vec_capacity c.args.taker.room) (sym c.len_as.ensures.queue.1) (room_enough (view c.gather.new.place) c.len_as.result _ _ (ap (λ (u : Part). u.takes) is) (in_all (view c.args.taker.place) _ c.args.senders.items is c.args.taker.none_in c.requires.senders.1) held.0 held.1 (search rules)))

pub returns-clause-settled : goal.returns-clause-settled
returns-clause-settled g c =
    let d = c.drain-left.ensures in
    (d.0, d.1, settles (view c.args.taker.place) _ c.args.senders.items d.0 (c.len_as.ensures.queue.1 ∙ c.gather.ensures.known) c.args.taker.none_in c.requires.senders.1 d.2)

pub returns-clause-few : goal.returns-clause-few
returns-clause-few g c =
    let d = c.drain-left.ensures in
    let is = c.gather.ensures.known in
    let same = c.len_as.ensures.queue.1 in
    let held = c.len_as.ensures.rule in
    let few = few_left (view c.len_as.new.pass) d.0 c.len_as.result _ (ap (λ (u : Part). u.takes) (same ∙ is)) (in_all (view c.args.taker.place) _ c.args.senders.items (same ∙ is) c.args.taker.none_in c.requires.senders.1) held.0 (subst (λ (u : Part). Held c.len_as.result (CanContain u)) (sym same) held.1) d.2 in
    let long = sym (length-map d.0 draft_of) ∙ ap length d.1 in
    omega arith
