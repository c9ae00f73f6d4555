-- Serving a ResendRequest is a run of a lawful end.
use Rattle.std.proofs.Common.{◌≡◌, ◌⊎◌, inl, inr, ℕ, zero, suc, ◌+◌, ◌-◌, ◌<◌, ◌≤◌, ◌==◌, codes, List, [], ◌∷◌, length}
use Rattle.std.proofs.Common.{take, get_or, Bool, true, false, Some, None, Result, Ok, Err, refl, sym, ◌∙◌, ap, subst, arith}
use Rattle.std.specs.Prelude.{⊤}
use Rattle.std.specs.Fmt.{decimal}
use Rattle.std.proofs.lemmas.Bool.{eqb-false, cases_lt}
use Rattle.fix_base.specs.Lists.{Among, here}
use Rattle.fix_base.specs.declared.identity.Identity.{Identity}
use Rattle.fix_base.specs.declared.entry.By.{By}
use Rattle.fix_base.specs.declared.entry.Entry.TheVariants.{App}
use Rattle.fix_base.specs.declared.entry.Record.TheVariants.{Withhold}
use Rattle.fix_base.specs.declared.act.Act.TheVariants as act
use Rattle.fix_base.specs.End as ends
use Rattle.fix_base.specs.End.{End, folded, GrowsTo, IsEntry, IsAppAt, IsSkipped, MayComeAgain}
use Rattle.fix_base.specs.Shape.{IsFrame}
use Rattle.fix_base.specs.Logon.{IsResetLogon}
use Rattle.fix_base.specs.Wrote as wrote
use Rattle.fix_base.specs.Wrote.{WritesNext, WroteWhole, SkipsBetween, IsRepeat, IsGapFill, repeat_fields, gap_fields}
use Rattle.fix_base.specs.EndStep as steps
use Rattle.fix_base.specs.EndStep.{Answer, Connection, EndState}
use Rattle.fix_base.proofs.ListLemmas.{Among-append_right, some_same}
use Rattle.fix_base.proofs.WroteLemmas.{IsEntry-inside, SkipsBetween-more}
use Rattle.fix_base.proofs.WholeLemmas.{withhold_grows, whole_grown, whole_more}
use Rattle.fix_base.proofs.WrittenLemmas.{repeat_is, gap_is}
use Rattle.fix_base.proofs.Seals.{sealed_is_frame}
use Rattle.fix_outside.specs.declared.connection.WriteTurn.TheVariants as write
use Rattle.fix_outside.specs.declared.handing.Again.TheVariants as whether
use Rattle.fix_outside.specs.declared.outside.KeepFault.TheVariants as keep
use Rattle.fix_outside.specs.declared.outside.FetchFault.TheVariants as fetch
use Rattle.fix_outside.specs.declared.outside.Kind.TheVariants as kind
use Rattle.fix_outside.specs.Calls.{Call, Write, Keep, Fetch, Again}
use Rattle.fix_stage.specs.Combine as combine
use Rattle.fix_stage.specs.Combine.{Each, AndThen}
use Rattle.fix_stage.specs.Stage.{Staged, no_stage}
use Rattle.fix_stage.specs.Sender.{Sender, StageFault}
use Rattle.fix_stage.specs.declared.fault.StageFault.TheVariants as fault
use Rattle.fix_stage.specs.Flush as flush
use Rattle.fix_stage.specs.Flush.{WroteOne}
use Rattle.fix_stage.specs.Serving as serving
use Rattle.fix_stage.specs.Serving.{opened, WroteGap, WroteRepeat, Withholding, AppServed, ServedOne, numbers, last_served, Served}
use Rattle.fix_stage.specs.Lawful.{IsCertain, MayTellReset, AreOriginals, Level, Bare, LawfulRunTo, After, LeadsFrom}
use Rattle.fix_stage.specs.LawfulServing.{MayServeAt, AfterServe}
use Rattle.fix_stage.proofs.LeadsLemmas.{leads_nowhere, leads_step, leads_call, leads_lost, leads_on, leads_weaker}
use Rattle.fix_stage.proofs.PlainLemmas.{still_free, sealed_free, no_logon}
use Rattle.fix_stage.proofs.ServingLemmas.{numbers-none, low_served}
use Rattle.fix_stage.proofs.WriteLeads.{StillOpen, IsWriteFault, AfterWrite, Goes, goes_plain, all_wrote, some_wrote, all_rule, some_rule, writing, connected}

-- nothing but what may be skipped stands in the gap that is open
abbrev GapSkips : End → ℕ → ℕ → Type 0
GapSkips e g n = (g ≡ 0) ⊎ ((g < n) × SkipsBetween e g n)

-- one number more
opened_skips : (e : End) (g n : ℕ) → IsSkipped e n → GapSkips e g n → GapSkips e (opened g n) (n + 1)
opened_skips e g n a ok = by (g == 0) refl
  where
    one : (k : ℕ) → n ≤ k → k < n + 1 → IsSkipped e k
    one k low high = let same : n ≡ k = omega (arith, low, high) in subst (IsSkipped e) same a

    more : SkipsBetween e g n → (k : ℕ) → g ≤ k → k < n + 1 → IsSkipped e k
    more are k low high = elim (cases_lt k n) [
      | inl less ↦ are.each k low less
      | inr most ↦ one k most high
    ]

    still : (g == 0) ≡ false → GapSkips e g n → GapSkips e g (n + 1)
    still t (inl h) = absurd (eqb-false g 0 t h)
    still t (inr h) = inr (omega (arith, h.0), record { each = more h.1 })

    by : (t : Bool) → (g == 0) ≡ t → GapSkips e (opened g n) (n + 1)
    by true t = rw t (inr (omega arith, record { each = one }))
    by false t = rw t (still t ok)

skips_more : (e more : End) (g n : ℕ) → GrowsTo e more → GapSkips e g n → GapSkips more g n
skips_more e more g n p (inl h) = inl h
skips_more e more g n p (inr h) = inr (h.0, SkipsBetween-more p h.1)

-- ---- frames

repeat_frame_is : (id : Identity) (n time : ℕ) (body : List ℕ) (t : ℕ) (text : List ℕ) → IsRepeat id n time body t text → IsFrame text
repeat_frame_is id n time body t text h =
    sealed_is_frame id (repeat_fields id (decimal n) h.at h.was h.type h.rest) text
    (repeat_is id (decimal n) h.at h.was h.type h.rest h.carries.each) h.sealed_so

repeat_free : (id : Identity) (n time : ℕ) (body : List ℕ) (t : ℕ) (text : List ℕ) → IsRepeat id n time body t text
    → IsResetLogon text → ⊥
repeat_free id n time body t text h =
    sealed_free id (repeat_fields id (decimal n) h.at h.was h.type h.rest) text
    (repeat_is id (decimal n) h.at h.was h.type h.rest h.carries.each) h.sealed_so
    (λ type flag. no_logon h.type h.carries.app.no_admin type)

gap_frame_is : (id : Identity) (n m t : ℕ) (text : List ℕ) → IsGapFill id n m t text → IsFrame text
gap_frame_is id n m t text h =
    sealed_is_frame id (gap_fields id (decimal n) (decimal m) h.at) text (gap_is id (decimal n) (decimal m) h.at) h.sealed_so

gap_free : (id : Identity) (n m t : ℕ) (text : List ℕ) → IsGapFill id n m t text → IsResetLogon text → ⊥
gap_free id n m t text h =
    sealed_free id (gap_fields id (decimal n) (decimal m) h.at) text (gap_is id (decimal n) (decimal m) h.at) h.sealed_so
    (λ type flag. other type)
  where
    other : Some (codes "4") ≡ Some (codes "A") → ⊥
    other e =
        let first : 52 ≡ 65 = ap (λ (l : List ℕ). get_or l 0 0) (some_same (codes "4") (codes "A") e) in
        absurd (omega (arith, first))

-- ---- one frame is written

module _ (id : Identity) (read : List ℕ) (resets : List Answer) (given : List ℕ) (m : ℕ) (b : Sender) (empty : b.stage ≡ no_stage)
    (few : b.numbers.last ≤ 999999999) where
  abbrev Lev : EndState → Type 0
  Lev e = Level id read resets given m b e

  bare : (e : EndState) → Lev e → Bare b e
  bare e l = record { certain = l.certain; here = l.here ∙ sym l.expected; empty = empty }

  abbrev Failed : {S : Type 0} → StageFault → S → EndState → Type 0
  Failed f s e = AfterServe f b e

  -- the end as it was, but for its connection
  same_certain : (e e' : EndState) → Lev e → e'.end ≡ e.end → e'.role ≡ e.role → e'.doubt ≡ None → IsCertain b.numbers e'
  same_certain e e' l end role doubt = record {
    doubt = doubt;
    kept = record {
      stored = ap (λ (x : End). x.stored) end ∙ l.certain.kept.stored;
      out = ap (λ (x : End). length x.out) end ∙ l.certain.kept.out;
      free = still_free e e' role (ap (λ (x : End). x.asked) end) l.certain.kept.free;
    };
  }

  -- with nothing staged there are no frames
  none_staged : (c : Connection) → AreOriginals id (MayTellReset c) b.numbers.last b.stage.entries b.stage.frames
  none_staged c = subst (λ (s : Staged). AreOriginals id (MayTellReset c) b.numbers.last s.entries s.frames) (sym empty) tt

  -- after a write
  abbrev Written : EndState → EndState → Type 0
  Written e e' = Lev e' × (e'.end ≡ e.end)

  written_fault : (f : StageFault) (e' : EndState) → IsWriteFault f → IsCertain b.numbers e'
      → e'.expected ≡ b.numbers.expected → AfterServe f b e'
  written_fault fault.NumbersSpent e' h c x = absurd h
  written_fault fault.OutOfMemory e' h c x = c
  written_fault fault.StoreFault e' h c x = absurd h
  written_fault fault.LinkFault e' h c x = record { certain = c; here = x; empty = empty }

  written_after : (r : Result ⊤ StageFault) (u : ⊤) (e e' : EndState) (l : Lev e) → AfterWrite id r e l.on.connection e'
      → After Failed (λ (u : ⊤). Written e) r u e'
  written_after (Ok x) u e e' l h = (
    record {
      certain = same_certain e e' l h.same.end h.same.role h.same.doubt;
      on = record {
        connection = h.connection;
        is_open = h.is_open;
        reads = h.read ∙ l.on.reads;
        keeps = h.kept ∙ l.on.keeps;
        gives = h.gave ∙ l.on.gives;
        last = h.last;
        below = subst (λ (x : End). h.last ≤ length x.out) (sym h.same.end) h.below;
        whole = subst (λ (x : End). WroteWhole id h.connection.opened x h.last h.connection.written) (sym h.same.end)
            (subst (λ (x : End). WroteWhole id x e.end h.last h.connection.written) (sym h.opened) h.whole);
        plain = h.plain;
      };
      here = h.same.expected ∙ l.here;
      base = subst (λ k. k ≤ length e'.handled) (sym h.base)
          (subst (λ w. l.on.connection.base ≤ length w) (sym h.same.handled) l.base);
      expected = l.expected;
      frames = none_staged h.connection;
    },
    h.same.end,
  )
  written_after (Err f) u e e' l h =
      written_fault f e' h.1 (same_certain e e' l h.0.end h.0.role h.0.doubt) (h.0.expected ∙ l.here ∙ sym l.expected)

  -- a frame that may be written next, which leaves the number of the last original as it is
  write_leads : (e : EndState) (l : Lev e) (text : List ℕ) (calls : List Call) (r : Result ⊤ StageFault) (u : ⊤)
      → WritesNext id e.end l.on.last text l.on.last → IsFrame text → (IsResetLogon text → ⊥)
      → WroteOne tt (Some text) calls r u → LawfulRunTo id e calls (AfterWrite id r e l.on.connection)
  write_leads e l text calls r u next frame free d = by calls r u d
    where
      g : Goes id l.on.last e l.on.connection text
      g = record {
        whole = whole_more id l.on.connection.opened e.end l.on.last l.on.last l.on.connection.written text next l.on.whole;
        frame = frame;
        plain = inl free;
        before = l.on.plain;
      }

      by : (calls : List Call) (r : Result ⊤ StageFault) (u : ⊤) → WroteOne tt (Some text) calls r u
          → LawfulRunTo id e calls (AfterWrite id r e l.on.connection)
      by calls r u (flush.wrote t) =
          let to : EndState = connected e (writing l.on.connection text) in
          leads_step id e to (act.Wrote text) (Write text write.Done) [] (AfterWrite id (Ok tt) e l.on.connection) refl
          (record {
            certain = l.certain.doubt;
            row = steps.wrote text l.on.connection l.on.is_open (all_wrote id l.on.last e l.on.connection text g)
                (all_rule id l.on.last e l.on.connection text l.certain.kept.free g);
          }) (λ held k. k.stores.2 ∙ k.stores.1)
          (leads_nowhere id to (StillOpen id e l.on.connection) (record {
            same = record { end = refl; role = refl; expected = refl; handled = refl; doubt = l.certain.doubt };
            connection = writing l.on.connection text;
            is_open = refl;
            opened = refl;
            read = refl;
            base = refl;
            kept = refl;
            gave = refl;
            last = l.on.last;
            below = l.on.below;
            whole = g.whole;
            plain = goes_plain id l.on.last e l.on.connection text g;
          }))
      by calls r u (flush.write_lost t sent) =
          let w : List ℕ = take sent text in
          let to : EndState = connected e (writing l.on.connection w) in
          leads_step id e to (act.Wrote w) (Write text (write.Failed sent)) []
          (AfterWrite id (Err fault.LinkFault) e l.on.connection) refl
          (record {
            certain = l.certain.doubt;
            row = steps.wrote w l.on.connection l.on.is_open (some_wrote id l.on.last sent e l.on.connection text g)
                (some_rule id l.on.last sent e l.on.connection text l.certain.kept.free g);
          }) (λ held k. k.stores.2 ∙ k.stores.1)
          (leads_nowhere id to (AfterWrite id (Err fault.LinkFault) e l.on.connection)
          (record { end = refl; role = refl; expected = refl; handled = refl; doubt = l.certain.doubt }, tt))
      by calls r u (flush.write_memory t) =
          leads_call id e (Write text write.OutOfMemory) [] (AfterWrite id (Err fault.OutOfMemory) e l.on.connection) refl
          (λ held k. k.stores)
          (λ so. leads_nowhere id e (AfterWrite id (Err fault.OutOfMemory) e l.on.connection)
          (record { end = refl; role = refl; expected = refl; handled = refl; doubt = l.certain.doubt }, tt))

  frame_leads : (e : EndState) (l : Lev e) (text : List ℕ) (calls : List Call) (r : Result ⊤ StageFault) (u : ⊤)
      → WritesNext id e.end l.on.last text l.on.last → IsFrame text → (IsResetLogon text → ⊥)
      → WroteOne tt (Some text) calls r u → LawfulRunTo id e calls (After Failed (λ (u : ⊤). Written e) r u)
  frame_leads e l text calls r u next frame free d =
      leads_weaker id e calls (AfterWrite id r e l.on.connection) (After Failed (λ (u : ⊤). Written e) r u)
      (λ e' h. written_after r u e e' l h) (write_leads e l text calls r u next frame free d)

  -- a gap fill
  gap_leads : (t g n : ℕ) (e : EndState) (calls : List Call) (r : Result ⊤ StageFault) (u : ⊤) → Lev e → GapSkips e.end g n
      → n ≤ suc (length e.end.out) → n ≤ 1000000000 → WroteGap id t g n tt calls r u
      → LawfulRunTo id e calls (After Failed (λ (u : ⊤). Written e) r u)
  gap_leads t g n e calls r u l ok inside low (serving.no_gap h) = leads_nowhere id e (Written e) (l, refl)
  gap_leads t g n e calls r u l (inl none_open) inside low (serving.gap_written frame some is d) = absurd (some none_open)
  gap_leads t g n e calls r u l (inr ok) inside low (serving.gap_written frame some is d) =
      frame_leads e l frame calls r u (wrote.next_gap_fill g n t low ok.0 inside ok.1 is.is)
      (gap_frame_is id g n t frame is.is) (gap_free id g n t frame is.is) d
  gap_leads t g n e calls r u l ok inside low (serving.gap_memory h) =
      leads_nowhere id e (After Failed (λ (u : ⊤). Written e) r u) l.certain

  -- a repeat
  repeat_leads : (t n time : ℕ) (body : List ℕ) (e : EndState) (calls : List Call) (r : Result ⊤ StageFault) (u : ⊤)
      → Lev e → (by : By) → IsEntry e.end.out n (App time by body) → (Among n e.end.withheld → ⊥)
      → WroteRepeat id t n time body tt calls r u → LawfulRunTo id e calls (After Failed (λ (u : ⊤). Written e) r u)
  repeat_leads t n time body e calls r u l by at free (serving.repeat_written frame is d) =
      frame_leads e l frame calls r u
      (wrote.next_again n time by body t (omega (arith, IsEntry-inside at, l.certain.kept.out, few)) at free is.is)
      (repeat_frame_is id n time body t frame is.is) (repeat_free id n time body t frame is.is) d
  repeat_leads t n time body e calls r u l by at free serving.repeat_memory =
      leads_nowhere id e (After Failed (λ (u : ⊤). Written e) r u) l.certain

  -- the gap, and then the repeat
  both_lead : (t g n time : ℕ) (body : List ℕ) (e : EndState) (calls : List Call) (r : Result ⊤ StageFault) (u : ⊤)
      → Lev e → GapSkips e.end g n → (by : By) → IsEntry e.end.out n (App time by body) → (Among n e.end.withheld → ⊥)
      → AndThen (WroteGap id t g n) (WroteRepeat id t n time body) tt calls r u
      → LawfulRunTo id e calls (After Failed (λ (u : ⊤). Written e) r u)
  both_lead t g n time body e calls r u l ok by at free (combine.first_ends {e = f} d) =
      gap_leads t g n e calls (Err f) u l ok (omega (arith, IsEntry-inside at))
      (omega (arith, IsEntry-inside at, l.certain.kept.out, few)) d
  both_lead t g n time body e calls r u l ok by at free (combine.both {mid = mid} {first = first} {more = more} d k) =
      leads_on id e first more (Written e) (After Failed (λ (u : ⊤). Written e) r u) (λ e' w. w.0.certain.doubt)
      (gap_leads t g n e first (Ok tt) mid l ok (omega (arith, IsEntry-inside at))
      (omega (arith, IsEntry-inside at, l.certain.kept.out, few)) d)
      (λ e' w. leads_weaker id e' more (After Failed (λ (u : ⊤). Written e') r u) (After Failed (λ (u : ⊤). Written e) r u)
      (later e' w.1 r) (repeat_leads t n time body e' more r u w.0 by
      (subst (λ (x : End). IsEntry x.out n (App time by body)) (sym w.1) at)
      (λ held. free (subst (λ (x : End). Among n x.withheld) w.1 held)) k))
    where
      later : (e' : EndState) → e'.end ≡ e.end → (r : Result ⊤ StageFault) (e2 : EndState)
          → After Failed (λ (u : ⊤). Written e') r u e2 → After Failed (λ (u : ⊤). Written e) r u e2
      later e' same (Ok x) e2 h = (h.0, h.1 ∙ same)
      later e' same (Err f) e2 h = h

  -- ---- one number

  -- it was served, and the gap that is open goes up to the next
  abbrev Passed : ℕ → ℕ → ℕ → EndState → Type 0
  Passed n out g e = Lev e × GapSkips e.end g n × (length e.end.out ≡ out)

  -- the number is withheld
  withheld_level : (e : EndState) (n : ℕ) → Lev e → Lev (record e { end = folded e.end (Withhold n); offered = None })
  withheld_level e n l = record {
    certain = record {
      doubt = l.certain.doubt;
      kept = record { stored = l.certain.kept.stored; out = l.certain.kept.out; free = l.certain.kept.free };
    };
    on = record {
      connection = l.on.connection;
      is_open = l.on.is_open;
      reads = l.on.reads;
      keeps = l.on.keeps;
      gives = l.on.gives;
      last = l.on.last;
      below = l.on.below;
      whole = whole_grown id l.on.connection.opened e.end (folded e.end (Withhold n)) l.on.last l.on.connection.written
          (withhold_grows e.end n) l.on.whole;
      plain = l.on.plain;
    };
    here = l.here;
    base = l.base;
    expected = l.expected;
    frames = l.frames;
  }

  now_skipped : (e : End) (n : ℕ) (body : List ℕ) → IsAppAt e.out n body → IsSkipped (folded e (Withhold n)) n
  now_skipped e n body at = ends.withheld body at (Among-append_right e.withheld here)

  app_leads : (t n time : ℕ) (body : List ℕ) (g : ℕ) (calls : List Call) (r : Result ⊤ StageFault) (g' : ℕ) (e : EndState)
      → Lev e → GapSkips e.end g n → (by : By) → IsEntry e.end.out n (App time by body) → (Among n e.end.withheld → ⊥)
      → AppServed id t n time body g calls r g' → LawfulRunTo id e calls (After Failed (Passed (n + 1) (length e.end.out)) r g')
  app_leads t n time body g calls r g' e l ok by at free (serving.sends {calls = more} d) =
      let may : MayComeAgain e.end n = record { body = body; app = record { time = time; by = by; entry = at }; free = free } in
      leads_step id e e (act.Allowed n) (Again n body whether.Send) more
      (After Failed (Passed (n + 1) (length e.end.out)) r 0) refl
      (record { certain = l.certain.doubt; row = steps.allowed n may }) (λ held k. k.stores.2 ∙ k.stores.1)
      (leads_weaker id e more (After Failed (λ (u : ⊤). Written e) r tt) (After Failed (Passed (n + 1) (length e.end.out)) r 0)
      (later r) (both_lead t g n time body e more r tt l ok by at free d))
    where
      later : (r : Result ⊤ StageFault) (e' : EndState) → After Failed (λ (u : ⊤). Written e) r tt e'
          → After Failed (Passed (n + 1) (length e.end.out)) r 0 e'
      later (Ok x) e' h = (h.0, inl refl, ap (λ (x : End). length x.out) h.1)
      later (Err f) e' h = h
  app_leads t n time body g calls r g' e l ok by at free (serving.withholds serving.withheld_kept) =
      let app : IsAppAt e.end.out n body = record { time = time; by = by; entry = at } in
      let may : MayComeAgain e.end n = record { body = body; app = app; free = free } in
      let mid : EndState = record e { offered = Some n } in
      let to : EndState = record mid { end = folded e.end (Withhold n); offered = None } in
      leads_step id e mid (act.Withheld n) (Again n body whether.Withhold) (Keep (Withhold n) (Ok tt) ∷ [])
      (Passed (n + 1) (length e.end.out) (opened g n)) refl
      (record { certain = l.certain.doubt; row = steps.offers n may }) (λ held k. k.stores.2 ∙ k.stores.1)
      (leads_step id mid to (act.Kept (Withhold n)) (Keep (Withhold n) (Ok tt)) []
      (Passed (n + 1) (length e.end.out) (opened g n)) refl
      (record { certain = l.certain.doubt; row = steps.kept_withhold n refl }) (λ held k. k.stores.2 ∙ k.stores.1)
      (leads_nowhere id to (Passed (n + 1) (length e.end.out) (opened g n)) (
        withheld_level e n l,
        opened_skips to.end g n (now_skipped e.end n body app)
            (skips_more e.end to.end g n (withhold_grows e.end n) ok),
        refl,
      )))
  app_leads t n time body g calls r g' e l ok by at free (serving.not_withheld serving.withheld_lost) =
      let may : MayComeAgain e.end n = record { body = body; app = record { time = time; by = by; entry = at }; free = free } in
      let mid : EndState = record e { offered = Some n } in
      let to : EndState = record mid { doubt = Some (Withhold n); connection = None } in
      leads_step id e mid (act.Withheld n) (Again n body whether.Withhold) (Keep (Withhold n) (Err keep.Failed) ∷ [])
      (AfterServe fault.StoreFault b) refl
      (record { certain = l.certain.doubt; row = steps.offers n may }) (λ held k. k.stores.2 ∙ k.stores.1)
      (leads_lost id mid to (Withhold n) (AfterServe fault.StoreFault b)
      (record { certain = l.certain.doubt; row = steps.lost_withhold n refl }) refl refl (inl (record {
        kept = record { stored = l.certain.kept.stored; out = l.certain.kept.out; free = l.certain.kept.free };
        number = n;
        doubt = refl;
        closed = refl;
      })))
  app_leads t n time body g calls r g' e l ok by at free (serving.not_withheld serving.withheld_memory) =
      let may : MayComeAgain e.end n = record { body = body; app = record { time = time; by = by; entry = at }; free = free } in
      let mid : EndState = record e { offered = Some n } in
      leads_step id e mid (act.Withheld n) (Again n body whether.Withhold) (Keep (Withhold n) (Err keep.OutOfMemory) ∷ [])
      (AfterServe fault.OutOfMemory b) refl
      (record { certain = l.certain.doubt; row = steps.offers n may }) (λ held k. k.stores.2 ∙ k.stores.1)
      (leads_call id mid (Keep (Withhold n) (Err keep.OutOfMemory)) [] (AfterServe fault.OutOfMemory b) refl
      (λ held k. k.stores)
      (λ so. leads_nowhere id mid (AfterServe fault.OutOfMemory b) (record {
        doubt = l.certain.doubt;
        kept = record { stored = l.certain.kept.stored; out = l.certain.kept.out; free = l.certain.kept.free };
      })))
  app_leads t n time body g calls r g' e l ok by at free serving.not_asked =
      leads_call id e (Again n body whether.OutOfMemory) [] (AfterServe fault.OutOfMemory b) refl (λ held k. k.stores)
      (λ so. leads_nowhere id e (AfterServe fault.OutOfMemory b) l.certain)

  one_leads : (t g n : ℕ) (calls : List Call) (r : Result ⊤ StageFault) (g' : ℕ) (e : EndState) → Lev e
      → GapSkips e.end g n → ServedOne id t g n calls r g'
      → LawfulRunTo id e calls (After Failed (Passed (n + 1) (length e.end.out)) r g')
  one_leads t g n calls r g' e l ok (serving.app {calls = more} time body is d) =
      leads_call id e (Fetch n (Ok (kind.App time)) body) more (After Failed (Passed (n + 1) (length e.end.out)) r g') refl
      (λ held k. k.stores) (λ so. app_leads t n time body g more r g' e l ok so.0.0 so.0.1 so.1 d)
  one_leads t g n calls r g' e l ok (serving.admin body) =
      leads_call id e (Fetch n (Ok kind.Admin) body) [] (Passed (n + 1) (length e.end.out) (opened g n)) refl
      (λ held k. k.stores) (λ so. leads_nowhere id e (Passed (n + 1) (length e.end.out) (opened g n))
      (l, opened_skips e.end g n (ends.admin so) ok, refl))
  one_leads t g n calls r g' e l ok (serving.withheld body) =
      leads_call id e (Fetch n (Ok kind.Withheld) body) [] (Passed (n + 1) (length e.end.out) (opened g n)) refl
      (λ held k. k.stores) (λ so. leads_nowhere id e (Passed (n + 1) (length e.end.out) (opened g n))
      (l, opened_skips e.end g n (ends.withheld so.0.0 so.0.1 so.1) ok, refl))
  one_leads t g n calls r g' e l ok (serving.fetch_lost body) =
      leads_call id e (Fetch n (Err fetch.Failed) body) [] (AfterServe fault.StoreFault b) refl (λ held k. k.stores)
      (λ so. leads_nowhere id e (AfterServe fault.StoreFault b) (inr (bare e l)))
  one_leads t g n calls r g' e l ok (serving.fetch_memory body) =
      leads_call id e (Fetch n (Err fetch.OutOfMemory) body) [] (AfterServe fault.OutOfMemory b) refl (λ held k. k.stores)
      (λ so. leads_nowhere id e (AfterServe fault.OutOfMemory b) l.certain)

  -- ---- all of them

  all_lead : (t g n count : ℕ) (calls : List Call) (r : Result ⊤ StageFault) (g' : ℕ) (e : EndState) → Lev e
      → GapSkips e.end g n → Each (ServedOne id t) g (numbers n count) calls r g'
      → LawfulRunTo id e calls (After Failed (Passed (n + count) (length e.end.out)) r g')
  all_lead t g n zero calls r g' e l ok combine.none =
      let same : n ≡ n + 0 = omega arith in
      leads_nowhere id e (Passed (n + 0) (length e.end.out) g)
      (l, subst (λ k. GapSkips e.end g k) same ok, refl)
  all_lead t g n (suc count) calls r g' e l ok (combine.ends {e = f} d) = one_leads t g n calls (Err f) g' e l ok d
  all_lead t g n (suc count) calls r g' e l ok (combine.goes {mid = h} {first = first} {more = more} d rest) =
      let same : n + 1 + count ≡ n + suc count = omega arith in
      leads_on id e first more (Passed (n + 1) (length e.end.out) h)
      (After Failed (Passed (n + suc count) (length e.end.out)) r g') (λ e' q. q.0.certain.doubt)
      (one_leads t g n first (Ok tt) h e l ok d)
      (λ e' q. subst (λ out. LawfulRunTo id e' more (After Failed (Passed (n + suc count) out) r g')) q.2
      (subst (λ k. LawfulRunTo id e' more (After Failed (Passed k (length e'.end.out)) r g')) same
      (all_lead t h (n + 1) count more r g' e' q.0 q.1 rest)))

none_served : (id : Identity) (t g : ℕ) (xs : List ℕ) (calls : List Call) → xs ≡ [] → Each (ServedOne id t) 0 xs calls (Ok tt) g → g ≡ 0
none_served id t g xs calls h combine.none = refl
none_served id t g xs calls h (combine.goes d k) = absurd cc

-- the last gap ends where the numbers end
gap_at : (id : Identity) (t : ℕ) (e : End) (g from end : ℕ) (calls : List Call)
    → Each (ServedOne id t) 0 (numbers from (end - from)) calls (Ok tt) g → GapSkips e g (from + (end - from)) → GapSkips e g end
gap_at id t e g from end calls d ok = elim (cases_lt from end) [
  | inl h ↦ (let at : from + (end - from) ≡ end = omega arith in subst (λ x. GapSkips e g x) at ok)
  | inr h ↦ inl (none_served id t g (numbers from (end - from)) calls (numbers-none from end h) d)
]

pub served_leads : (id : Identity) (read : List ℕ) (resets : List Answer) (given : List ℕ) (m from to : ℕ)
    → LeadsFrom id AfterServe (MayServeAt id read resets given m) (Served id from to) (MayServeAt id read resets given m)
served_leads id read resets given m from to b calls r b' (serving.serve_ends {g = g} {e = f} d) e h =
    leads_weaker id e calls (AfterServe f b) (AfterServe f b) (λ e' q. q)
    (all_lead id read resets given m b h.empty h.last b.numbers.reading 0 from (last_served b.numbers.last to + 1 - from) calls (Err f) g e
    h.level (inl refl) d)
served_leads id read resets given m from to b calls r b' (serving.serves {g = g} {first = first} {more = more} d w) e h =
    let low : last_served b.numbers.last to ≤ b.numbers.last = low_served b.numbers.last to in
    let end : ℕ = last_served b.numbers.last to + 1 in
    leads_on id e first more (Passed id read resets given m b h.empty h.last (from + (end - from)) (length e.end.out) g)
    (After AfterServe (MayServeAt id read resets given m) r b) (λ e' q. q.0.certain.doubt)
    (all_lead id read resets given m b h.empty h.last b.numbers.reading 0 from (end - from) first (Ok tt) g e h.level (inl refl) d)
    (λ e' q. leads_weaker id e' more
    (After (λ f (u : ⊤). AfterServe f b) (λ (u : ⊤). Written id read resets given m b h.empty h.last e') r tt)
    (After AfterServe (MayServeAt id read resets given m) r b) (later e' r)
    (gap_leads id read resets given m b h.empty h.last b.numbers.reading g end e' more r tt q.0
    (gap_at id b.numbers.reading e'.end g from end first d q.1)
    (let kept = q.0.certain.kept.out in omega (arith, kept, low)) (omega (arith, low, h.last)) w))
  where
    later : (e' : EndState) (r : Result ⊤ StageFault) (e2 : EndState)
        → After (λ f (u : ⊤). AfterServe f b) (λ (u : ⊤). Written id read resets given m b h.empty h.last e') r tt e2
        → After AfterServe (MayServeAt id read resets given m) r b e2
    later e' (Ok x) e2 k = record { level = k.0; empty = h.empty; last = h.last }
    later e' (Err f) e2 k = k
