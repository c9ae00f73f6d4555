-- A flush is a run of a lawful end.
use Rattle.std.proofs.Common.{◌≡◌, ◌⊎◌, ℕ, ◌≤◌, List, [], ◌++◌, length}
use Rattle.std.proofs.Common.{Some, Result, Ok, Err, refl, sym, ◌∙◌, ap, subst, arith}
use Rattle.std.specs.Prelude.{⊤}
use Rattle.std.proofs.lemmas.List.{append-nil}
use Rattle.fix_base.specs.declared.identity.Identity.{Identity}
use Rattle.fix_base.specs.End.{End, GrowsTo}
use Rattle.fix_base.specs.Wrote.{WroteWhole}
use Rattle.fix_base.specs.EndStep.{Answer, EndState}
use Rattle.fix_outside.specs.declared.outside.KeepFault.TheVariants as keep
use Rattle.fix_outside.specs.Calls.{Call, Keep}
use Rattle.fix_base.proofs.WholeLemmas.{many_grows, whole_grown}
use Rattle.fix_base.proofs.FollowsLemmas.{linked}
use Rattle.fix_stage.specs.Stage.{no_stage}
use Rattle.fix_stage.specs.Sender.{Sender, StageFault, emptied}
use Rattle.fix_stage.specs.declared.fault.StageFault.TheVariants as fault
use Rattle.fix_stage.specs.Flush as flush
use Rattle.fix_stage.specs.Flush.{record_of, is_due, WroteOne, Flushed, sender_kept}
use Rattle.fix_stage.specs.Lawful.{IsCertain, MayTellReset, IsOn, AreOriginals, Fits, Level, LawfulRunTo, After, AfterFault}
use Rattle.fix_stage.proofs.SendingLemmas.{nothing_staged}
use Rattle.fix_stage.proofs.LeadsLemmas.{leads_nowhere, leads_after, leads_kept, leads_weaker, leads_call}
use Rattle.fix_stage.proofs.ChainLemmas.{moves_run}
use Rattle.fix_stage.proofs.PlainLemmas.{still_free}
use Rattle.fix_stage.proofs.KeepLeads.{KeptEnd, kept_end, kept_certain, lost_leads, many_out}
use Rattle.fix_stage.proofs.WriteLeads.{IsWriteFault, AfterWrite, Writes, write_leads}

-- the end grew by the same role and connection, and is on it still
on_grown : (id : Identity) (read : List ℕ) (resets : List Answer) (given : List ℕ) (e to : EndState) (o : IsOn id read resets given e) → GrowsTo e.end to.end → to.connection ≡ Some o.connection → length e.end.out ≤ length to.end.out → IsOn id read resets given to
on_grown id read resets given e to o grew same more = record {
  connection = o.connection;
  is_open = same;
  reads = o.reads;
  keeps = o.keeps;
  gives = o.gives;
  last = o.last;
  below = omega (arith, o.below, more);
  whole = whole_grown id o.connection.opened e.end to.end o.last o.connection.written grew o.whole;
  plain = o.plain;
}

-- with nothing staged the moves are made
pub caught_up : (id : Identity) (read : List ℕ) (resets : List Answer) (given : List ℕ) (n : ℕ) (b : Sender) (e : EndState) → b.stage.entries ≡ [] → Fits id read resets given n b e → LawfulRunTo id e [] (Level id read resets given n b)
caught_up id read resets given n b e h f =
    let a = f.ahead in
    let l = linked a.run f.certain.doubt in
    let same : a.to.end ≡ e.end = l.end ∙ ap (λ es. record e.end { out = e.end.out ++ es }) h ∙ ap (λ out. record e.end { out = out }) (append-nil e.end.out) in
    leads_after id e a.to [] (Level id read resets given n b) (moves_run id a.run h refl) same
    (leads_nowhere id a.to (Level id read resets given n b) (record {
      certain = record {
        doubt = l.certain;
        kept = record {
          stored = ap (λ (x : End). x.stored) same ∙ f.certain.kept.stored;
          out = ap (λ (x : End). length x.out) same ∙ f.certain.kept.out;
          free = still_free e a.to l.block.role l.block.asked f.certain.kept.free;
        };
      };
      on = record {
        connection = f.on.connection;
        is_open = l.connection ∙ f.on.is_open;
        reads = f.on.reads;
        keeps = f.on.keeps;
        gives = f.on.gives;
        last = f.on.last;
        below = subst (λ (x : End). f.on.last ≤ length x.out) (sym same) f.on.below;
        whole = subst (λ (x : End). WroteWhole id f.on.connection.opened x f.on.last f.on.connection.written) (sym same) f.on.whole;
        plain = f.on.plain;
      };
      here = a.expected;
      base = a.base;
      expected = f.expected;
      frames = f.frames;
    }))

-- a level end of a sender whose stage was empty
abbrev pub level_emptied : (id : Identity) (read : List ℕ) (resets : List Answer) (given : List ℕ) (n : ℕ) (b : Sender) (e : EndState) → Level id read resets given n b e → Level id read resets given n (emptied b) e
level_emptied id read resets given n b e l = record {
  certain = l.certain;
  on = l.on;
  here = l.here;
  base = l.base;
  expected = l.expected;
  frames = tt;
}

write_fault : (id : Identity) (read : List ℕ) (resets : List Answer) (given : List ℕ) (n : ℕ) (f : StageFault) (b : Sender) (e : EndState) → IsWriteFault f → IsCertain b.numbers e → e.expected ≡ b.numbers.expected → b.stage ≡ no_stage → AfterFault id read resets given n f b e
write_fault id read resets given n fault.NumbersSpent b e h c x s = absurd h
write_fault id read resets given n fault.OutOfMemory b e h c x s = c
write_fault id read resets given n fault.StoreFault b e h c x s = absurd h
write_fault id read resets given n fault.LinkFault b e h c x s = record { certain = c; here = x; empty = s }

-- what is after the writes of a kept record
written_after : (id : Identity) (read : List ℕ) (resets : List Answer) (given : List ℕ) (n k : ℕ) (b : Sender) (e : EndState) (f : Fits id read resets given n b e) (p : KeptEnd id n k b e f.on.connection) (r : Result ⊤ StageFault) (e' : EndState) → AfterWrite id r p.to f.on.connection e' → After (AfterFault id read resets given n) (Level id read resets given n) r (sender_kept (emptied b) (length b.stage.entries) k) e'
written_after id read resets given n k b e f p (Ok x) e' h = record {
  certain = kept_certain id read resets given n k b e f p e' h.same.end h.same.doubt h.same.role;
  on = record {
    connection = h.connection;
    is_open = h.is_open;
    reads = h.read ∙ f.on.reads;
    keeps = h.kept ∙ f.on.keeps;
    gives = h.gave ∙ f.on.gives;
    last = h.last;
    below = subst (λ (x : End). h.last ≤ length x.out) (sym h.same.end) h.below;
    whole = subst (λ (x : End). WroteWhole id h.connection.opened x h.last h.connection.written) (sym h.same.end) (subst (λ (x : End). WroteWhole id x p.to.end h.last h.connection.written) (sym h.opened) h.whole);
    plain = h.plain;
  };
  here = h.same.expected ∙ p.expected;
  base = subst (λ m. m ≤ length e'.handled) (sym h.base) (subst (λ l. f.on.connection.base ≤ length l) (sym h.same.handled) p.base);
  expected = f.expected;
  frames = tt;
}
written_after id read resets given n k b e f p (Err x) e' h =
    write_fault id read resets given n x (sender_kept (emptied b) (length b.stage.entries) k) e' h.1
    (kept_certain id read resets given n k b e f p e' h.0.end h.0.doubt h.0.role) (h.0.expected ∙ p.expected ∙ sym f.expected) refl

-- in step before it, the end is level after it. The number that is kept is 0 for none, or the expected one
pub flushed_leads : (id : Identity) (read : List ℕ) (resets : List Answer) (given : List ℕ) (n k : ℕ) (b : Sender) (calls : List Call) (r : Result ⊤ StageFault) (to : Sender) → (k ≡ 0) ⊎ (k ≡ n) → Flushed k b calls r to → (e : EndState) → Fits id read resets given n b e → LawfulRunTo id e calls (After (AfterFault id read resets given n) (Level id read resets given n) r to)
flushed_leads id read resets given n k b calls r to which (flush.nothing_due due) e f =
    leads_weaker id e [] (Level id read resets given n b) (Level id read resets given n (emptied b)) (level_emptied id read resets given n b) (caught_up id read resets given n b e (nothing_staged b.stage.entries k due) f)
flushed_leads id read resets given n k b calls r to which (flush.not_kept due flush.keep_lost) e f = lost_leads id read resets given n k b to e refl f which due
flushed_leads id read resets given n k b calls r to which (flush.not_kept due flush.keep_memory) e f = leads_call id e (Keep (record_of b.stage.entries k) (Err keep.OutOfMemory)) [] (IsCertain to.numbers) refl (λ held s. s.stores)
    (λ so. leads_nowhere id e (IsCertain to.numbers) f.certain)
flushed_leads id read resets given n k b calls r to which (flush.kept_and_written {more = more} due flush.kept w) e f =
    let p = kept_end id read resets given n k b e f which due in
    let grew : GrowsTo e.end p.to.end = subst (λ (x : End). GrowsTo e.end x) (sym p.many) (many_grows e.end b.stage.entries k) in
    let out = ap (λ (x : End). x.out) p.many ∙ many_out e.end b.stage.entries k in
    let are : AreOriginals id (MayTellReset f.on.connection) (length e.end.out) b.stage.entries b.stage.frames = subst (λ m. AreOriginals id (MayTellReset f.on.connection) m b.stage.entries b.stage.frames) (sym f.certain.kept.out) f.frames in
    let written : Writes id b.stage.entries e.end.out f.on.connection f.on.last p.to = record {
      doubt = p.doubt;
      free = still_free e p.to p.block.role p.block.asked f.certain.kept.free;
      is_open = p.connection;
      out = out;
      low = f.on.below;
      whole = whole_grown id f.on.connection.opened e.end p.to.end f.on.last f.on.connection.written grew f.on.whole;
      plain = f.on.plain;
    } in
    leads_kept id e p.to (record_of b.stage.entries k) more (After (AfterFault id read resets given n) (Level id read resets given n) r to) p.run p.end
    (leads_weaker id p.to more (AfterWrite id r p.to f.on.connection) (After (AfterFault id read resets given n) (Level id read resets given n) r to) (written_after id read resets given n k b e f p r)
    (write_leads id b.stage.entries e.end.out b.stage.frames f.on.connection f.on.last p.to more r tt are written w))
