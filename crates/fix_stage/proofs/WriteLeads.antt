-- The frames of what was kept may be written, one after another, and a part of the last one.
use Rattle.std.proofs.Common.{◌≡◌, ◌⊎◌, inl, inr, ℕ, ◌+◌, ◌≤◌, List, [], ◌∷◌, ◌++◌, length, length-append, take, drop, Option, Some, None}
use Rattle.std.proofs.Common.{Result, Ok, Err, refl, sym, ◌∙◌, ap, subst, append_assoc, arith}
use Rattle.std.specs.Prelude.{⊤}
use Rattle.std.proofs.lemmas.List.{take-append-drop}
use Rattle.fix_base.specs.Lists.{IsPrefixOf}
use Rattle.fix_base.specs.declared.identity.Identity.{Identity}
use Rattle.fix_base.specs.declared.entry.Entry.{Entry}
use Rattle.fix_base.specs.declared.act.Act.TheVariants as act
use Rattle.fix_base.specs.End.{IsEntry}
use Rattle.fix_base.specs.Shape.{IsFrame}
use Rattle.fix_base.specs.Logon.{IsResetLogon}
use Rattle.fix_base.specs.Wrote as wrote
use Rattle.fix_base.specs.Wrote.{Wrote, WroteWhole}
use Rattle.fix_base.specs.EndStep as steps
use Rattle.fix_base.specs.EndStep.{Connection, EndState, IsAsking, LogonRule}
use Rattle.fix_outside.specs.declared.connection.WriteTurn.TheVariants as write
use Rattle.fix_outside.specs.Calls.{Call, Write}
use Rattle.fix_base.proofs.ListLemmas.{prefix_refl, prefix_under}
use Rattle.fix_base.proofs.WholeLemmas.{whole_more, whole_wrote, front_wrote}
use Rattle.fix_stage.specs.Combine as combine
use Rattle.fix_stage.specs.Combine.{Each}
use Rattle.fix_stage.specs.Sender.{StageFault}
use Rattle.fix_stage.specs.declared.fault.StageFault.TheVariants as fault
use Rattle.fix_stage.specs.Flush as flush
use Rattle.fix_stage.specs.Flush.{WroteOne}
use Rattle.fix_stage.specs.Lawful.{IsPlainly, MayTellReset, IsOriginalTold, AreOriginals, LawfulRunTo}
use Rattle.fix_stage.proofs.LeadsLemmas.{leads_nowhere, leads_step, leads_weaker, leads_call}
use Rattle.fix_stage.proofs.PlainLemmas.{plain_more, plain_rule, original_frame}

-- nothing but the connection changed
pub record Same (e e' : EndState) : Type 0 where
  pub end : e'.end ≡ e.end
  pub role : e'.role ≡ e.role
  pub expected : e'.expected ≡ e.expected
  pub handled : e'.handled ≡ e.handled
  pub doubt : e'.doubt ≡ None

-- the connection goes on, and whole originals were written on it
pub record StillOpen (id : Identity) (e : EndState) (c : Connection) (e' : EndState) : Type 0 where
  pub same : Same e e'
  pub connection : Connection
  pub is_open : e'.connection ≡ Some connection
  pub opened : connection.opened ≡ c.opened
  pub read : connection.read ≡ c.read
  pub base : connection.base ≡ c.base
  pub kept : connection.kept ≡ c.kept
  pub gave : connection.gave ≡ c.gave
  pub last : ℕ
  pub below : last ≤ length e.end.out
  pub whole : WroteWhole id c.opened e.end last connection.written
  pub plain : IsPlainly connection.written

-- what a write may fail for
abbrev pub IsWriteFault : StageFault → Type 0
IsWriteFault fault.NumbersSpent = ⊥
IsWriteFault fault.OutOfMemory = ⊤
IsWriteFault fault.StoreFault = ⊥
IsWriteFault fault.LinkFault = ⊤

-- the end after the writes
abbrev pub AfterWrite : Identity → Result ⊤ StageFault → EndState → Connection → EndState → Type 0
AfterWrite id (Ok x) e c e' = StillOpen id e c e'
AfterWrite id (Err f) e c e' = Same e e' × IsWriteFault f

abbrev pub writing : Connection → List ℕ → Connection
writing c w = record c { written = c.written ++ w }

abbrev pub connected : EndState → Connection → EndState
connected e c = record e { connection = Some c }

again : (id : Identity) (r : Result ⊤ StageFault) (e : EndState) (c : Connection) (w : List ℕ) (e' : EndState) → AfterWrite id r (connected e (writing c w)) (writing c w) e' → AfterWrite id r e c e'
again id (Ok x) e c w e' h = record {
  same = record { end = h.same.end; role = h.same.role; expected = h.same.expected; handled = h.same.handled; doubt = h.same.doubt };
  connection = h.connection;
  is_open = h.is_open;
  opened = h.opened;
  read = h.read;
  base = h.base;
  kept = h.kept;
  gave = h.gave;
  last = h.last;
  below = h.below;
  whole = h.whole;
  plain = h.plain;
}
again id (Err f) e c w e' h = (record { end = h.0.end; role = h.0.role; expected = h.0.expected; handled = h.0.handled; doubt = h.0.doubt }, h.1)

-- the end on its connection, with these entries still to be written
pub record Writes (id : Identity) (es before : List Entry) (c : Connection) (last : ℕ) (e : EndState) : Type 0 where
  pub doubt : e.doubt ≡ None
  pub free : IsAsking e → ⊥
  pub is_open : e.connection ≡ Some c
  pub out : e.end.out ≡ before ++ es
  pub low : last ≤ length before
  pub whole : WroteWhole id c.opened e.end last c.written
  pub plain : IsPlainly c.written

-- the frame of the next entry may be written
pub record Goes (id : Identity) (n : ℕ) (e : EndState) (c : Connection) (text : List ℕ) : Type 0 where
  pub whole : WroteWhole id c.opened e.end n (c.written ++ text)
  pub frame : IsFrame text
  pub plain : (IsResetLogon text → ⊥) ⊎ MayTellReset c
  pub before : IsPlainly c.written

-- with it the frames that were written are as plain
pub goes_plain : (id : Identity) (n : ℕ) (e : EndState) (c : Connection) (text : List ℕ) → Goes id n e c text → IsPlainly (c.written ++ text)
goes_plain id n e c text g = plain_more c text g.frame g.plain g.before

next_goes : (id : Identity) (x : Entry) (es before : List Entry) (c : Connection) (last : ℕ) (e : EndState) (text : List ℕ) → Writes id (x ∷ es) before c last e → IsOriginalTold id (MayTellReset c) (length before + 1) x text → Goes id (length before + 1) e c text
next_goes id x es before c last e text h o =
    let at : IsEntry e.end.out (length before + 1) x = record { before = before; after = es; is = h.out; place = omega arith } in
    record {
      whole = whole_more id c.opened e.end last (length before + 1) c.written text (wrote.next_original (length before + 1) x o.fits (omega (arith, h.low)) at o.original) h.whole;
      frame = original_frame id (length before + 1) x text o.original;
      plain = o.plain;
      before = h.plain;
    }

pub all_wrote : (id : Identity) (n : ℕ) (e : EndState) (c : Connection) (text : List ℕ) → Goes id n e c text → Wrote id c.opened e.end (c.written ++ text)
all_wrote id n e c text g = whole_wrote id c.opened e.end n (c.written ++ text) g.whole

front_of : (many : ℕ) (text : List ℕ) → IsPrefixOf (take many text) text
front_of many text = record { rest = drop many text; is = sym (take-append-drop many text) }

pub some_wrote : (id : Identity) (n many : ℕ) (e : EndState) (c : Connection) (text : List ℕ) → Goes id n e c text → Wrote id c.opened e.end (c.written ++ take many text)
some_wrote id n many e c text g = front_wrote id c.opened e.end (c.written ++ text) (c.written ++ take many text) (prefix_under c.written (front_of many text)) (all_wrote id n e c text g)

pub all_rule : (id : Identity) (n : ℕ) (e : EndState) (c : Connection) (text : List ℕ) → (IsAsking e → ⊥) → Goes id n e c text → LogonRule id e c text
all_rule id n e c text free g = plain_rule id e c text text free g.frame g.plain g.before (prefix_refl text)

pub some_rule : (id : Identity) (n many : ℕ) (e : EndState) (c : Connection) (text : List ℕ) → (IsAsking e → ⊥) → Goes id n e c text → LogonRule id e c (take many text)
some_rule id n many e c text free g = plain_rule id e c (take many text) text free g.frame g.plain g.before (front_of many text)

-- where no Logon with 141=Y may be told they are originals too where one may
pub originals_weaker : (id : Identity) (A B : Type 0) → (A → B) → (last : ℕ) (es : List Entry) (frames : List (Option (List ℕ))) → AreOriginals id A last es frames → AreOriginals id B last es frames
originals_weaker id A B f last [] [] h = tt
originals_weaker id A B f last [] (frame ∷ frames) h = absurd h
originals_weaker id A B f last (e ∷ es) [] h = absurd h
originals_weaker id A B f last (e ∷ es) (None ∷ frames) h = originals_weaker id A B f (last + 1) es frames h
originals_weaker id A B f last (e ∷ es) (Some text ∷ frames) h =
    (record { fits = h.0.fits; original = h.0.original; plain = elim h.0.plain as (λ _. (IsResetLogon text → ⊥) ⊎ B) [ inl clear ↦ inl clear | inr told ↦ inr (f told) ] }, h.1)

-- the rest of the frames, where the next number is another name of the same
rest_originals : (id : Identity) (Told : Type 0) (x : Entry) (before es : List Entry) (frames : List (Option (List ℕ))) → AreOriginals id Told (length before + 1) es frames → AreOriginals id Told (length (before ++ x ∷ [])) es frames
rest_originals id Told x before es frames h = subst (λ n. AreOriginals id Told n es frames) (sym (length-append before (x ∷ []))) h

pub write_leads : (id : Identity) (es before : List Entry) (frames : List (Option (List ℕ))) (c : Connection) (last : ℕ) (e : EndState) (calls : List Call) (r : Result ⊤ StageFault) (u : ⊤) → AreOriginals id (MayTellReset c) (length before) es frames → Writes id es before c last e → Each WroteOne tt frames calls r u → LawfulRunTo id e calls (AfterWrite id r e c)
write_leads id [] before [] c last e calls r u are h combine.none =
    leads_nowhere id e (StillOpen id e c) (record {
      same = record { end = refl; role = refl; expected = refl; handled = refl; doubt = h.doubt };
      connection = c;
      is_open = h.is_open;
      opened = refl;
      read = refl;
      base = refl;
      kept = refl;
      gave = refl;
      last = last;
      below = (let size = ap (λ (l : List Entry). length l) h.out in omega (arith, h.low, size, length-append before []));
      whole = h.whole;
      plain = h.plain;
    })
write_leads id [] before (frame ∷ frames) c last e calls r u are h d = absurd are
write_leads id (x ∷ es) before [] c last e calls r u are h d = absurd are
write_leads id (x ∷ es) before (None ∷ frames) c last e calls r u are h (combine.ends d) = elim d [ ]
write_leads id (x ∷ es) before (None ∷ frames) c last e calls r u are h (combine.goes {more = others} flush.no_frame rest) =
    write_leads id es (before ++ x ∷ []) frames c last e others r u (rest_originals id (MayTellReset c) x before es frames are)
    (record { doubt = h.doubt; free = h.free; is_open = h.is_open; out = h.out ∙ sym (append_assoc before (x ∷ []) es); low = omega (arith, h.low, length-append before (x ∷ [])); whole = h.whole; plain = h.plain }) rest
write_leads id (x ∷ es) before (Some text ∷ frames) c last e calls r u are h (combine.ends (flush.write_lost t sent)) =
    let w : List ℕ = take sent text in
    let g = next_goes id x es before c last e text h are.0 in
    let to : EndState = connected e (writing c w) in
    leads_step id e to (act.Wrote w) (Write text (write.Failed sent)) [] (AfterWrite id (Err fault.LinkFault) e c) refl
    (record { certain = h.doubt; row = steps.wrote w c h.is_open (some_wrote id (length before + 1) sent e c text g) (some_rule id (length before + 1) sent e c text h.free g) }) (λ held k. k.stores.2 ∙ k.stores.1)
    (leads_nowhere id to (AfterWrite id (Err fault.LinkFault) e c) (record { end = refl; role = refl; expected = refl; handled = refl; doubt = h.doubt }, tt))
write_leads id (x ∷ es) before (Some text ∷ frames) c last e calls r u are h (combine.ends (flush.write_memory t)) =
    leads_call id e (Write text write.OutOfMemory) [] (AfterWrite id (Err fault.OutOfMemory) e c) refl (λ held k. k.stores)
    (λ so. leads_nowhere id e (AfterWrite id (Err fault.OutOfMemory) e c) (record { end = refl; role = refl; expected = refl; handled = refl; doubt = h.doubt }, tt))
write_leads id (x ∷ es) before (Some text ∷ frames) c last e calls r u are h (combine.goes {more = others} (flush.wrote t) rest) =
    let g = next_goes id x es before c last e text h are.0 in
    let to : EndState = connected e (writing c text) in
    let size : length (before ++ x ∷ []) ≡ length before + 1 = length-append before (x ∷ []) in
    leads_step id e to (act.Wrote text) (Write text write.Done) others (AfterWrite id r e c) refl
    (record { certain = h.doubt; row = steps.wrote text c h.is_open (all_wrote id (length before + 1) e c text g) (all_rule id (length before + 1) e c text h.free g) }) (λ held k. k.stores.2 ∙ k.stores.1)
    (leads_weaker id to others (AfterWrite id r to (writing c text)) (AfterWrite id r e c) (again id r e c text)
    (write_leads id es (before ++ x ∷ []) frames (writing c text) (length before + 1) to others r u (originals_weaker id ⊥ (MayTellReset (writing c text)) (λ no. absurd no) (length (before ++ x ∷ [])) es frames (rest_originals id ⊥ x before es frames are.1))
    (record { doubt = h.doubt; free = h.free; is_open = refl; out = h.out ∙ sym (append_assoc before (x ∷ []) es); low = omega (arith, size); whole = g.whole; plain = goes_plain id (length before + 1) e c text g }) rest))
