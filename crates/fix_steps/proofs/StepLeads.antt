-- Each step that may be done is a run of a lawful end.
use Rattle.std.proofs.Common.{◌≡◌, inl, inr, ℕ, ◌+◌, ◌<◌, ◌≤◌, List, [], ◌∷◌, ◌++◌, length-append, drop, codes, Bool, true, false, if◌then◌else◌, Option, Some, None, Result, Ok, Err, refl, sym, ◌∙◌, ap, subst, arith}
use Rattle.std.specs.Prelude.{⊤}
use Rattle.std.specs.List.{AllByRecursion}
use Rattle.std.specs.Fmt.{decimal}
use Rattle.std.proofs.lemmas.List.{drop-append-le}
use Rattle.fix_base.specs.Lists.{Among, here}
use Rattle.fix_base.specs.declared.identity.Identity.{Identity}
use Rattle.fix_base.specs.declared.identity.Begin.{Begin}
use Rattle.fix_base.specs.Session.{IsValidIdentity}
use Rattle.fix_base.specs.declared.act.Act.TheVariants as act
use Rattle.fix_base.specs.Fields.{Field}
use Rattle.fix_base.specs.Message as message
use Rattle.fix_base.specs.Message.{Message, IsAdminNumbered}
use Rattle.fix_base.specs.Says.{value_of, message_of, HasFields, Says, Shows}
use Rattle.fix_base.specs.Wrote.{original_fields}
use Rattle.fix_base.specs.EndStep as steps
use Rattle.fix_base.specs.EndStep.{Answer, Handling, Connection, EndState, IsBlocked, Chain, Move, WasRead, Grew, MayHand}
use Rattle.fix_outside.specs.declared.handing.Said.TheVariants as said
use Rattle.fix_outside.specs.Calls.{Call, Hand}
use Rattle.fix_base.proofs.ListLemmas.{some_same, Among-append_right, Among-cons_cases}
use Rattle.fix_base.proofs.WrittenLemmas.{original_is}
use Rattle.fix_admin.specs.Say as say
use Rattle.fix_admin.specs.Say.{SaySeen, type_of, fields_of}
use Rattle.fix_machine.specs.Event as event
use Rattle.fix_machine.specs.Event.{StepSeen}
use Rattle.fix_stage.specs.Combine.{goes_well, fails}
use Rattle.fix_stage.specs.Stage.{Staged}
use Rattle.fix_stage.specs.declared.sender.Sender.{Sender}
use Rattle.fix_stage.specs.Sender.{with_numbers, with_expected}
use Rattle.fix_stage.specs.declared.fault.StageFault.{StageFault}
use Rattle.fix_stage.specs.declared.fault.StageFault.TheVariants as fault
use Rattle.fix_stage.specs.Flush.{Flushed}
use Rattle.fix_stage.specs.Outgoing.{Outgoing, IsOutgoing}
use Rattle.fix_stage.specs.Staging as staging
use Rattle.fix_stage.specs.Staging.{MakesAndStages}
use Rattle.fix_stage.specs.Serving.{Served}
use Rattle.fix_stage.specs.Lawful.{IsCertain, AsksNoReset, Fits, Level, LawfulRunTo, After, AfterFault, LeadsFrom}
use Rattle.fix_stage.specs.LawfulServing.{MayServeAt, AfterServe}
use Rattle.fix_stage.proofs.ChainLemmas.{level_fits}
use Rattle.fix_stage.proofs.LeadsLemmas.{leads_nowhere, leads_step, leads_call, leads_move, leads_weaker, HasNoDoubt, none_leads, first_leads, then_leads}
use Rattle.fix_stage.proofs.OutgoingLemmas.{carried, frame_original}
use Rattle.fix_stage.proofs.PlainLemmas.{has_same, sealed_free}
use Rattle.fix_stage.proofs.SendingLemmas.{Flushed-empty}
use Rattle.fix_stage.proofs.ServingLeads.{served_leads}
use Rattle.fix_stage.proofs.StagingLeads.{flush_fits, staged_fits, staged_reject, counted, ahead_seen, Rejected}
use Rattle.fix_steps.specs.Said.{said_outgoing, IsSayable}
use Rattle.fix_steps.specs.declared.ending.Ending.{Ending}
use Rattle.fix_steps.specs.Ending.{ending_of}
use Rattle.fix_steps.specs.declared.ending.Ending.TheVariants as ending
use Rattle.fix_steps.specs.Steps as done
use Rattle.fix_steps.specs.Steps.{IsCarried, InAnswer, Saying, Handing, Performed, Begins, Done, Carried}
use Rattle.fix_steps.specs.Lawful as lawful
use Rattle.fix_steps.specs.Lawful.{Standing, Clear, Open, Handled, IsFresh, IsNoReset, MayDo, MayDoAll, standing_first, MayAnswer, LetsCount, WasReadIn, IsAnswered, InStep, InStepClear, InBounds, HasHandled, Stands, IsStillOn, AfterEnding}
use Rattle.fix_steps.specs.Leaves.{last_taken}
use Rattle.fix_steps.proofs.SaidLemmas.{said_is_outgoing}
use Rattle.fix_steps.proofs.SoundLemmas.{step_ranges, begins_ranges}
use Rattle.fix_steps.proofs.ReadLemmas.{read_free, has_first, IsAppOf, app_fields}

-- ---- where an answer stands

-- with nothing staged the end is in step
abbrev pub clear_open : (id : Identity) (read : List ℕ) (resets : List Answer) (n : ℕ) (b : Sender) (e : EndState) → InStepClear id read resets n b e → InStep id read resets n b e
clear_open id read resets n b e h = record { given = h.given; fits = level_fits id read resets h.given n b e h.level; below = h.below }

pub fresh : (id : Identity) (read : List ℕ) (resets : List Answer) (at : Standing) (n : ℕ) (b : Sender) (e : EndState) → IsFresh at → Stands id read resets at n b e → InStep id read resets n b e
fresh id read resets Clear n b e f h = clear_open id read resets n b e h
fresh id read resets Open n b e f h = h
fresh id read resets Handled n b e f h = absurd f

pub still_on : (id : Identity) (read : List ℕ) (resets : List Answer) (at : Standing) (n : ℕ) (b : Sender) (e : EndState) → Stands id read resets at n b e → IsStillOn id read b e
still_on id read resets Clear n b e h = record { number = n; resets = resets; given = h.given; fits = level_fits id read resets h.given n b e h.level }
still_on id read resets Open n b e h = record { number = n; resets = resets; given = h.given; fits = h.fits }
still_on id read resets Handled n b e h = record { number = n; resets = resets; given = h.given; fits = h.fits }

pub stands_certain : (id : Identity) (read : List ℕ) (resets : List Answer) (at : Standing) (n : ℕ) → HasNoDoubt (Stands id read resets at n)
stands_certain id read resets Clear n b e h = h.level.certain.doubt
stands_certain id read resets Open n b e h = h.fits.certain.doubt
stands_certain id read resets Handled n b e h = h.fits.certain.doubt

-- the same with numbers in their bounds
abbrev pub Bounded : Identity → List ℕ → List Answer → Standing → ℕ → Sender → EndState → Type 0
Bounded id read resets at n = InBounds (Stands id read resets at n)

pub bounded_certain : (id : Identity) (read : List ℕ) (resets : List Answer) (at : Standing) (n : ℕ) → HasNoDoubt (Bounded id read resets at n)
bounded_certain id read resets at n b e h = stands_certain id read resets at n b e h.is

pub still_bounded : (F : Ending → Sender → EndState → Type 0) (Q : Sender → EndState → Type 0) (r : Result ⊤ Ending) (to : Sender) (e : EndState) → last_taken to ≤ 999999999 → After F Q r to e → After F (InBounds Q) r to e
still_bounded F Q (Ok x) to e few q = record { is = q; last = few }
still_bounded F Q (Err f) to e few q = q

-- a fault of serving ends the answer
serve_ended : (id : Identity) (read : List ℕ) (resets : List Answer) (f : StageFault) (b : Sender) (e : EndState) → AfterServe f b e → AfterEnding id read (ending_of f) b e
serve_ended id read resets fault.NumbersSpent b e h = absurd h
serve_ended id read resets fault.OutOfMemory b e h = h
serve_ended id read resets fault.StoreFault b e (inl h) = lawful.withheld_in_doubt h
serve_ended id read resets fault.StoreFault b e (inr h) = lawful.none_in_doubt h
serve_ended id read resets fault.LinkFault b e h = h

-- a range is served, with nothing staged
serve_leads : (id : Identity) (read : List ℕ) (resets : List Answer) (n from until : ℕ) (b : Sender) → last_taken b ≤ 999999999 → (calls : List Call) (r : Result ⊤ Ending) (to : Sender) → InAnswer (Served id from until) b calls r to → (e : EndState) → InStepClear id read resets n b e → LawfulRunTo id e calls (After (AfterEnding id read) (InStepClear id read resets n) r to)
serve_leads id read resets n from until b few calls r to (goes_well {s = s} d) e h =
    leads_weaker id e calls (MayServeAt id read resets h.given n s) (InStepClear id read resets n s) (λ e' q. record { given = h.given; level = q.level; empty = q.empty; below = h.below })
    (served_leads id read resets h.given n from until b calls (Ok tt) s d e (record { level = h.level; empty = h.empty; last = omega (arith, few) }))
serve_leads id read resets n from until b few calls r to (fails {s = s} {e = f} d) e h =
    leads_weaker id e calls (AfterServe f s) (AfterEnding id read (ending_of f) s) (λ e' q. serve_ended id read resets f s e' q)
    (served_leads id read resets h.given n from until b calls (Err f) s d e (record { level = h.level; empty = h.empty; last = omega (arith, few) }))

-- a fault of sending ends the answer
pub ended : (id : Identity) (read : List ℕ) (resets : List Answer) (given : List ℕ) (n : ℕ) (f : StageFault) (b : Sender) (e : EndState) → AfterFault id read resets given n f b e → AfterEnding id read (ending_of f) b e
ended id read resets given n fault.NumbersSpent b e h = (record { number = n; resets = resets; given = given; fits = level_fits id read resets given n b e h.0 }, h.1)
ended id read resets given n fault.OutOfMemory b e h = h
ended id read resets given n fault.StoreFault b e h = lawful.staged_in_doubt h
ended id read resets given n fault.LinkFault b e h = h

-- something of sending, in an answer
pub in_answer : (id : Identity) (read : List ℕ) (resets : List Answer) (given : List ℕ) (n : ℕ) (R : Sender → List Call → Result ⊤ StageFault → Sender → Type 0) (Q Q' : Sender → EndState → Type 0) (b : Sender) (e : EndState) → ((calls : List Call) (r : Result ⊤ StageFault) (to : Sender) → R b calls r to → LawfulRunTo id e calls (After (AfterFault id read resets given n) Q r to)) → ((calls : List Call) (to : Sender) (e' : EndState) → R b calls (Ok tt) to → Q to e' → Q' to e') → (calls : List Call) (r : Result ⊤ Ending) (to : Sender) → InAnswer R b calls r to → LawfulRunTo id e calls (After (AfterEnding id read) Q' r to)
in_answer id read resets given n R Q Q' b e one back calls r to (goes_well {s = s} d) = leads_weaker id e calls (Q s) (Q' s) (λ e' q. back calls s e' d q) (one calls (Ok tt) s d)
in_answer id read resets given n R Q Q' b e one back calls r to (fails {s = s} {e = f} d) = leads_weaker id e calls (AfterFault id read resets given n f s) (AfterEnding id read (ending_of f) s) (λ e' q. ended id read resets given n f s e' q) (one calls (Err f) s d)

-- ---- a message is said

same_kind : (k : ℕ) → Some (k ∷ []) ≡ Some (codes "A") → k ≡ 65
same_kind k e = cc

no_value : (o : Option (List ℕ)) (v : List ℕ) → o ≡ None → o ≡ Some v → ⊥
no_value o v none some = cc

no_flag : (id : Identity) (n : ℕ) (at : List ℕ) (begin : Begin) (s : SaySeen) → IsSayable s → IsNoReset s → value_of 35 (original_fields id (decimal n) at (type_of s ∷ []) (fields_of begin s)) ≡ Some (codes "A") → value_of 141 (original_fields id (decimal n) at (type_of s ∷ []) (fields_of begin s)) ≡ Some (codes "Y") → ⊥
no_flag id n at begin (say.Heartbeat v) fit free type flag = let k = same_kind 48 type in omega arith
no_flag id n at begin say.TestRequest fit free type flag = let k = same_kind 49 type in omega arith
no_flag id n at begin (say.ResendRequest from to) fit free type flag = let k = same_kind 50 type in omega arith
no_flag id n at begin (say.Reject about t f) fit free type flag = let k = same_kind 51 type in omega arith
no_flag id n at begin (say.GapFill next) fit free type flag = let k = same_kind 52 type in omega arith
no_flag id n at begin (say.Logout t) fit free type flag = let k = same_kind 53 type in omega arith
no_flag id n at begin (say.Logon heart true version) fit free type flag = cc
no_flag id n at begin (say.Logon heart false None) fit free type flag = no_value _ (codes "Y") refl flag
no_flag id n at begin (say.Logon heart false (Some version)) fit free type flag = cc

-- its frame asks for no reset
said_free : (id : Identity) (time : ℕ) (s : SaySeen) → IsValidIdentity id → IsSayable s → IsNoReset s → IsOutgoing (said_outgoing id.begin time s) → AsksNoReset id (said_outgoing id.begin time s)
said_free id time s valid fit free is n text fits f =
    let own = said_is_outgoing id.begin time s is.payload.time_fits fit in
    let h = frame_original id n (said_outgoing id.begin time s) text valid fits own f in
    sealed_free id (original_fields id (decimal n) h.at h.type h.rest) text (original_is id (decimal n) h.at h.type h.rest (carried h.carries)) h.sealed_so (no_flag id n h.at id.begin s fit free)

module _ (id : Identity) (read : List ℕ) (resets : List Answer) (valid : IsValidIdentity id) (frame : Option (List ℕ)) where
  -- whatever an end has P before it, this is a run of it
  abbrev Leads : (Sender → EndState → Type 0) → StepSeen → (Sender → EndState → Type 0) → Type 0
  Leads P x Q = LeadsFrom id (AfterEnding id read) P (λ b. Performed id frame b x) Q

  say_leads : (n : ℕ) (s : SaySeen) → IsSayable s → IsNoReset s → Leads (InStep id read resets n) (event.Send s) (InStep id read resets n)
  say_leads n s fit free b calls r to (done.says t d) e h =
      let m = said_outgoing id.begin b.numbers.reading s in
      in_answer id read resets h.given n (MakesAndStages id m) (Fits id read resets h.given n) (InStep id read resets n) b e (made m (said_free id b.numbers.reading s valid fit free)) (λ calls to e' d q. record { given = h.given; fits = q; below = h.below }) calls r to d
    where
      made : (m : Outgoing) → (IsOutgoing m → AsksNoReset id m) → (calls : List Call) (r : Result ⊤ StageFault) (to : Sender) → MakesAndStages id m b calls r to → LawfulRunTo id e calls (After (AfterFault id read resets h.given n) (Fits id read resets h.given n) r to)
      made m asks calls r to (staging.made d) = staged_fits id read resets h.given n m valid asks b calls r to d e h.fits
      made m asks calls r to staging.not_made = leads_nowhere id e (IsCertain b.numbers) h.fits.certain

  -- the message of the expected number is rejected
  reject_leads : (n : ℕ) (marked : Bool) (body type : List ℕ) (f : _) → IsSayable (say.Reject n type f) → LetsCount read resets → WasReadIn read (message.App n marked body) → Leads (InStep id read resets n) (event.Send (say.Reject n type f)) (HasHandled id read resets n)
  reject_leads n marked body type f fit plain shown b calls r to (done.says t d) e h =
      let s = say.Reject n type f in
      let m = said_outgoing id.begin b.numbers.reading s in
      in_answer id read resets h.given n (MakesAndStages id m) (Rejected id read resets h.given n) (HasHandled id read resets n) b e made (λ calls to e' d q. record { given = h.given; fits = q.fits; within = λ k a. (let low = h.below k a in omega arith); grew = q.grew }) calls r to d
    where
      made : (calls : List Call) (r : Result ⊤ StageFault) (to : Sender) → MakesAndStages id (said_outgoing id.begin b.numbers.reading (say.Reject n type f)) b calls r to → LawfulRunTo id e calls (After (AfterFault id read resets h.given n) (Rejected id read resets h.given n) r to)
      made calls r to (staging.made d) =
          let first = has_first n marked body shown.messages shown.among in
          staged_reject id read resets h.given n b.numbers.reading first.item (said_outgoing id.begin b.numbers.reading (say.Reject n type f)) refl valid (said_free id b.numbers.reading (say.Reject n type f) valid fit tt)
          (record { messages = shown.messages; shows = shown.shows; first = first.first; number = first.number }) (read_free read resets plain) b calls r to d e h.fits
      made calls r to staging.not_made = leads_nowhere id e (IsCertain b.numbers) h.fits.certain

-- ---- a message is handed over

abbrev giving : Connection → ℕ → Connection
giving c n = record c { gave = n ∷ c.gave }

abbrev handling : ℕ → Bool → List ℕ → Handling
handling n marked body = record { number = n; body = body; marked = marked; rejected = false }

abbrev gave : EndState → Connection → ℕ → Bool → List ℕ → EndState
gave e c n marked body = record e { handled = e.handled ++ handling n marked body ∷ []; connection = Some (giving c n) }

read_on : (read : List ℕ) (x : Message) (c : Connection) → c.read ≡ read → WasReadIn read x → WasRead c x
read_on read x c same h = record { messages = h.messages; shows = subst (λ w. Shows w h.messages) (sym same) h.shows; among = h.among }

-- the end that gave it
given_stands : (id : Identity) (read : List ℕ) (resets : List Answer) (n : ℕ) (marked : Bool) (body : List ℕ) (b : Sender) (e : EndState) (h : InStepClear id read resets n b e) → HasHandled id read resets n b (gave e h.level.on.connection n marked body)
given_stands id read resets n marked body b e h =
    let c = h.level.on.connection in
    let to = gave e c n marked body in
    record {
      given = n ∷ h.given;
      fits = record {
        certain = record { doubt = h.level.certain.doubt; kept = record { stored = h.level.certain.kept.stored; out = h.level.certain.kept.out; free = h.level.certain.kept.free } };
        on = record {
          connection = giving c n;
          is_open = refl;
          reads = h.level.on.reads;
          keeps = h.level.on.keeps;
          gives = ap (λ l. n ∷ l) h.level.on.gives;
          last = h.level.on.last;
          below = h.level.on.below;
          whole = h.level.on.whole;
          plain = h.level.on.plain;
        };
        ahead = record {
          to = to;
          run = subst (λ (s : Staged). Chain to s.entries 0 to) (sym h.empty) steps.ends;
          expected = h.level.here;
          base = omega (arith, h.level.base, length-append e.handled (handling n marked body ∷ []));
        };
        expected = h.level.expected;
        frames = h.level.frames;
      };
      within = λ k a. elim (Among-cons_cases a) as (λ _. k ≤ n) [ inl same ↦ omega (arith, same) | inr earlier ↦ (let low = h.below k earlier in omega arith) ];
      grew = record {
        item = handling n marked body;
        among = subst (λ w. Among (handling n marked body) w) (sym (drop-append-le c.base e.handled (handling n marked body ∷ []) h.level.base)) (Among-append_right (drop c.base e.handled) here);
        is = refl;
      };
    }

-- the frame has the fields of the message
app_of : (text other : List ℕ) (n : ℕ) (marked : Bool) (body : List ℕ) (fields : List Field) (s : Says text (message.App n marked body)) → other ≡ text → HasFields other fields → IsAppOf n marked body fields
app_of text other n marked body fields s is has =
    let same : fields ≡ s.fields = has_same text fields s.fields (subst (λ (t : List ℕ). HasFields t fields) is has) s.has in
    app_fields n marked body fields (subst (λ (fs : List Field). message_of fs ≡ Some (message.App n marked body)) (sym same) s.says)

module _ (id : Identity) (read : List ℕ) (resets : List Answer) (valid : IsValidIdentity id) where
  -- it is the message of the expected number, which wasn't given on this connection
  may_hand : (n : ℕ) (marked : Bool) (body : List ℕ) (b : Sender) (e : EndState) (h : InStepClear id read resets n b e) → WasReadIn read (message.App n marked body) → MayHand e h.level.on.connection n marked body
  may_hand n marked body b e h shown = record {
    is_open = h.level.on.is_open;
    expected = sym h.level.here;
    frame = read_on read (message.App n marked body) h.level.on.connection h.level.on.reads shown;
    unseen = λ m. (let low = h.below n (subst (λ l. Among n l) h.level.on.gives m) in omega arith);
  }

  handed_leads : (n : ℕ) (marked : Bool) (body : List ℕ) → LetsCount read resets → WasReadIn read (message.App n marked body) → (b : Sender) (e : EndState) → InStepClear id read resets n b e → LawfulRunTo id e (Hand n marked body said.Taken ∷ []) (HasHandled id read resets n b)
  handed_leads n marked body plain shown b e h =
      let c = h.level.on.connection in
      let free = read_free read resets plain e c h.level.certain.kept.free h.level.on.is_open h.level.on.reads h.level.on.keeps in
      leads_step id e (gave e c n marked body) (act.Handed n marked body) (Hand n marked body said.Taken) [] (HasHandled id read resets n b) refl
      (record { certain = h.level.certain.doubt; row = steps.handed c n marked body free (may_hand n marked body b e h shown) }) (λ held s. s.stores.2 ∙ s.stores.1)
      (leads_nowhere id (gave e c n marked body) (HasHandled id read resets n b) (given_stands id read resets n marked body b e h))

  lost_leads : (n : ℕ) (marked : Bool) (body : List ℕ) → LetsCount read resets → WasReadIn read (message.App n marked body) → (b : Sender) (e : EndState) → InStepClear id read resets n b e → LawfulRunTo id e (Hand n marked body said.Failed ∷ []) (AfterEnding id read ending.AppFault b)
  lost_leads n marked body plain shown b e h =
      let c = h.level.on.connection in
      let left : EndState = record e { connection = None } in
      let free = read_free read resets plain e c h.level.certain.kept.free h.level.on.is_open h.level.on.reads h.level.on.keeps in
      leads_step id e left (act.HandLost n marked body) (Hand n marked body said.Failed) [] (AfterEnding id read ending.AppFault b) refl
      (record { certain = h.level.certain.doubt; row = steps.hand_lost c n marked body free (may_hand n marked body b e h shown) }) (λ held s. s.stores.2 ∙ s.stores.1)
      (leads_nowhere id left (AfterEnding id read ending.AppFault b) (record {
        certain = record { doubt = h.level.certain.doubt; kept = record { stored = h.level.certain.kept.stored; out = h.level.certain.kept.out; free = h.level.certain.kept.free } };
        here = h.level.here ∙ sym h.level.expected;
        empty = h.empty;
      }))

  -- the frame is this message
  hand_leads : (frame : Option (List ℕ)) (text : List ℕ) (n : ℕ) (marked : Bool) (body : List ℕ) → frame ≡ Some text → Says text (message.App n marked body) → LetsCount read resets → WasReadIn read (message.App n marked body) → LeadsFrom id (AfterEnding id read) (InStepClear id read resets n) (Handing frame) (HasHandled id read resets n)
  hand_leads frame text n marked body at s plain shown b calls r to (done.taken other fields is has) e h =
      let a = app_of text other n marked body fields s (some_same other text (sym is ∙ at)) has in
      rw (a.number, a.mark, a.text) (handed_leads n marked body plain shown b e h)
  hand_leads frame text n marked body at s plain shown b calls r to (done.hand_lost other fields is has) e h =
      let a = app_of text other n marked body fields s (some_same other text (sym is ∙ at)) has in
      rw (a.number, a.mark, a.text) (lost_leads n marked body plain shown b e h)
  hand_leads frame text n marked body at s plain shown b calls r to (done.hand_memory other fields is has) e h =
      leads_call id e (done.hand_call fields said.OutOfMemory) [] (IsCertain b.numbers) refl (λ held s. s.stores)
      (λ so. leads_nowhere id e (IsCertain b.numbers) h.level.certain)
  hand_leads frame text n marked body at s plain shown b calls r to done.body_memory e h = leads_nowhere id e (IsCertain b.numbers) h.level.certain

-- ---- a message is passed

module _ (id : Identity) (read : List ℕ) (resets : List Answer) (frame : Option (List ℕ)) (plain : LetsCount read resets) where
  -- the end ahead isn't blocked
  ahead_free : (given : List ℕ) (n : ℕ) (b : Sender) (e : EndState) (f : Fits id read resets given n b e) → IsBlocked f.ahead.to → ⊥
  ahead_free given n b e f =
      let seen = ahead_seen id read resets given n b e f in
      read_free read resets plain f.ahead.to f.on.connection (seen.free f.certain.kept.free) seen.connection f.on.reads f.on.keeps

  abbrev Expects : (Sender → EndState → Type 0) → ℕ → (Sender → EndState → Type 0) → Type 0
  Expects P k Q = LeadsFrom id (AfterEnding id read) P (λ b. Performed id frame b (event.Expect k)) Q

  admin_leads : (n : ℕ) (y : Message) → IsAdminNumbered n y → WasReadIn read y → Expects (InStep id read resets n) (n + 1) (InStep id read resets (n + 1))
  admin_leads n y at shown b calls r to (done.expects k) e h =
      let f = h.fits in
      let seen = ahead_seen id read resets h.given n b e f in
      let one : Move f.ahead.to (record f.ahead.to { expected = f.ahead.to.expected + 1 }) = steps.past_admin f.on.connection y (ahead_free h.given n b e f) seen.connection (read_on read y f.on.connection f.on.reads shown) (subst (λ (m : ℕ). IsAdminNumbered m y) (sym f.ahead.expected) at) in
      let move : Move f.ahead.to (record f.ahead.to { expected = n + 1 }) = subst (λ (m : ℕ). Move f.ahead.to (record f.ahead.to { expected = m + 1 })) f.ahead.expected one in
      leads_nowhere id e (InStep id read resets (n + 1) to) (record { given = h.given; fits = counted id read resets h.given n (n + 1) b e f move; below = λ m a. (let low = h.below m a in omega arith) })

  app_leads : (n : ℕ) (marked : Bool) (body : List ℕ) → WasReadIn read (message.App n marked body) → Expects (HasHandled id read resets n) (n + 1) (InStep id read resets (n + 1))
  app_leads n marked body shown b calls r to (done.expects k) e h =
      let f = h.fits in
      let seen = ahead_seen id read resets h.given n b e f in
      let one : Move f.ahead.to (record f.ahead.to { expected = f.ahead.to.expected + 1 }) = steps.past_app f.on.connection n marked body (ahead_free h.given n b e f) seen.connection (read_on read (message.App n marked body) f.on.connection f.on.reads shown) (sym f.ahead.expected) h.grew in
      let move : Move f.ahead.to (record f.ahead.to { expected = n + 1 }) = subst (λ (m : ℕ). Move f.ahead.to (record f.ahead.to { expected = m + 1 })) f.ahead.expected one in
      leads_nowhere id e (InStep id read resets (n + 1) to) (record { given = h.given; fits = counted id read resets h.given n (n + 1) b e f move; below = λ m a. (let low = h.within m a in omega arith) })

  gap_leads : (n m : ℕ) → n < m → WasReadIn read (message.GapFill n m) → Expects (InStep id read resets n) m (InStep id read resets m)
  gap_leads n m up shown b calls r to (done.expects k) e h =
      let f = h.fits in
      let seen = ahead_seen id read resets h.given n b e f in
      let move : Move f.ahead.to (record f.ahead.to { expected = m }) = steps.past_gap f.on.connection n m (ahead_free h.given n b e f) seen.connection (read_on read (message.GapFill n m) f.on.connection f.on.reads shown) (sym f.ahead.expected) (subst (λ (j : ℕ). j < m) (sym f.ahead.expected) up) in
      leads_nowhere id e (InStep id read resets m to) (record { given = h.given; fits = counted id read resets h.given n m b e f move; below = λ j a. (let low = h.below j a in omega (arith, up)) })

  reset_leads : (n j m : ℕ) → n ≤ m → WasReadIn read (message.ResetTo j m) → Expects (InStep id read resets n) m (InStep id read resets m)
  reset_leads n j m up shown b calls r to (done.expects k) e h =
      let f = h.fits in
      let seen = ahead_seen id read resets h.given n b e f in
      let move : Move f.ahead.to (record f.ahead.to { expected = m }) = steps.reset_to f.on.connection j m (ahead_free h.given n b e f) seen.connection (read_on read (message.ResetTo j m) f.on.connection f.on.reads shown) (subst (λ (i : ℕ). i ≤ m) (sym f.ahead.expected) up) in
      leads_nowhere id e (InStep id read resets m to) (record { given = h.given; fits = counted id read resets h.given n m b e f move; below = λ i a. (let low = h.below i a in omega (arith, up)) })

  -- where nothing is staged the end itself passes it
  clear_passes : (n k : ℕ) (b : Sender) (e : EndState) → InStepClear id read resets n b e → n ≤ k → Move e (record e { expected = k }) → LawfulRunTo id e [] (InStepClear id read resets k (with_numbers b (with_expected b.numbers k)))
  clear_passes n k b e h up move =
      let to : EndState = record e { expected = k } in
      let l = h.level in
      leads_move id e to [] (InStepClear id read resets k (with_numbers b (with_expected b.numbers k))) move refl
      (leads_nowhere id to (InStepClear id read resets k (with_numbers b (with_expected b.numbers k))) (record {
        given = h.given;
        level = record {
          certain = record { doubt = l.certain.doubt; kept = record { stored = l.certain.kept.stored; out = l.certain.kept.out; free = l.certain.kept.free } };
          on = record {
            connection = l.on.connection;
            is_open = l.on.is_open;
            reads = l.on.reads;
            keeps = l.on.keeps;
            gives = l.on.gives;
            last = l.on.last;
            below = l.on.below;
            whole = l.on.whole;
            plain = l.on.plain;
          };
          here = refl;
          base = l.base;
          expected = refl;
          frames = l.frames;
        };
        empty = h.empty;
        below = λ j a. (let low = h.below j a in omega (arith, up));
      }))

  clear_free : (n : ℕ) (b : Sender) (e : EndState) → InStepClear id read resets n b e → IsBlocked e → ⊥
  clear_free n b e h = let l = h.level in read_free read resets plain e l.on.connection l.certain.kept.free l.on.is_open l.on.reads l.on.keeps

  admin_clear : (n : ℕ) (y : Message) → IsAdminNumbered n y → WasReadIn read y → Expects (InStepClear id read resets n) (n + 1) (InStepClear id read resets (n + 1))
  admin_clear n y at shown b calls r to (done.expects k) e h =
      let l = h.level in
      let one : Move e (record e { expected = e.expected + 1 }) = steps.past_admin l.on.connection y (clear_free n b e h) l.on.is_open (read_on read y l.on.connection l.on.reads shown) (subst (λ (m : ℕ). IsAdminNumbered m y) (sym l.here) at) in
      clear_passes n (n + 1) b e h (omega arith) (subst (λ (m : ℕ). Move e (record e { expected = m + 1 })) l.here one)

  gap_clear : (n m : ℕ) → n < m → WasReadIn read (message.GapFill n m) → Expects (InStepClear id read resets n) m (InStepClear id read resets m)
  gap_clear n m up shown b calls r to (done.expects k) e h =
      let l = h.level in
      clear_passes n m b e h (omega (arith, up))
      (steps.past_gap l.on.connection n m (clear_free n b e h) l.on.is_open (read_on read (message.GapFill n m) l.on.connection l.on.reads shown) (sym l.here) (subst (λ (j : ℕ). j < m) (sym l.here) up))

  reset_clear : (n j m : ℕ) → n ≤ m → WasReadIn read (message.ResetTo j m) → Expects (InStepClear id read resets n) m (InStepClear id read resets m)
  reset_clear n j m up shown b calls r to (done.expects k) e h =
      let l = h.level in
      clear_passes n m b e h up
      (steps.reset_to l.on.connection j m (clear_free n b e h) l.on.is_open (read_on read (message.ResetTo j m) l.on.connection l.on.reads shown) (subst (λ (i : ℕ). i ≤ m) (sym l.here) up))

  -- what is staged stays as it is
  passes_at : (at : Standing) → IsFresh at → (n k : ℕ) → Expects (InStepClear id read resets n) k (InStepClear id read resets k) → Expects (InStep id read resets n) k (InStep id read resets k) → Expects (Stands id read resets at n) k (Stands id read resets at k)
  passes_at Clear is n k clear staged = clear
  passes_at Open is n k clear staged = staged
  passes_at Handled is n k clear staged = absurd is

-- ---- each step

-- the message that is answered
record AsMessage (read : List ℕ) (resets : List Answer) (frame : Option (List ℕ)) (y : Message) : Type 0 where
  text : List ℕ
  is : frame ≡ Some text
  says : Says text y
  plain : LetsCount read resets
  shown : WasReadIn read y

as_message : (read : List ℕ) (resets : List Answer) (frame : Option (List ℕ)) (x : Option Message) (y : Message) → IsAnswered read resets frame x → x ≡ Some y → AsMessage read resets frame y
as_message read resets frame x y (lawful.says text z says plain shown) e =
    let same : z ≡ y = some_same z y e in
    record { text = text; is = refl; says = subst (λ (w : Message). Says text w) same says; plain = plain; shown = subst (λ (w : Message). WasReadIn read w) same shown }
as_message read resets frame x y (lawful.silent other) e = cc

module _ (id : Identity) (read : List ℕ) (resets : List Answer) (valid : IsValidIdentity id) (frame : Option (List ℕ)) (x : Option Message) (answered : IsAnswered read resets frame x) where
  abbrev Failed : Ending → Sender → EndState → Type 0
  Failed = AfterEnding id read

  message_as : (y : Message) → x ≡ Some y → AsMessage read resets frame y
  message_as y e = as_message read resets frame x y answered e

  may_leads : {at at' : Standing} {n n' : ℕ} {step : StepSeen} → MayDo x at n step at' n' → IsCarried frame step → (b : Sender) → last_taken b ≤ 999999999 → (calls : List Call) (r : Result ⊤ Ending) (to : Sender) → Performed id frame b step calls r to → (e : EndState) → Stands id read resets at n b e → LawfulRunTo id e calls (After Failed (Stands id read resets at' n') r to)
  may_leads {at = at} {n = n} (lawful.may_say said is free) fit b few calls r to d e h = say_leads id read resets valid frame n said fit free b calls r to d e (fresh id read resets at n b e is h)
  may_leads {at = at} {n = n} (lawful.may_reject marked body type f same is) fit b few calls r to d e h =
      let m = message_as (message.App n marked body) same in
      reject_leads id read resets valid frame n marked body type f fit m.plain m.shown b calls r to d e (fresh id read resets at n b e is h)
  may_leads {n = n} (lawful.may_hand marked body same) fit b few calls r to (done.hands d) e h =
      let m = message_as (message.App n marked body) same in
      hand_leads id read resets valid frame m.text n marked body m.is m.says m.plain m.shown b calls r to d e h
  may_leads {n = n} (lawful.may_serve _ _) fit b few calls r to (done.serves from until d) e h = serve_leads id read resets n from until b few calls r to d e h
  may_leads {at = at} {n = n} lawful.may_wait fit b few calls r to done.waits e h = leads_nowhere id e (Stands id read resets at n b) h
  may_leads {n = n} (lawful.passes_app marked body same) fit b few calls r to d e h =
      let m = message_as (message.App n marked body) same in app_leads id read resets frame m.plain n marked body m.shown b calls r to d e h
  may_leads {at = at} {n = n} (lawful.passes_admin y same numbered is) fit b few calls r to d e h =
      let m = message_as y same in passes_at id read resets frame m.plain at is n (n + 1) (admin_clear id read resets frame m.plain n y numbered m.shown) (admin_leads id read resets frame m.plain n y numbered m.shown) b calls r to d e h
  may_leads {at = at} {n = n} (lawful.passes_gap k same up is) fit b few calls r to d e h =
      let m = message_as (message.GapFill n k) same in passes_at id read resets frame m.plain at is n k (gap_clear id read resets frame m.plain n k up m.shown) (gap_leads id read resets frame m.plain n k up m.shown) b calls r to d e h
  may_leads {at = at} {n = n} (lawful.resets_to j k same up is) fit b few calls r to d e h =
      let m = message_as (message.ResetTo j k) same in passes_at id read resets frame m.plain at is n k (reset_clear id read resets frame m.plain n j k up m.shown) (reset_leads id read resets frame m.plain n j k up m.shown) b calls r to d e h
  may_leads {at = at} {n = n} (lawful.may_close why) fit b few calls r to (done.closes w) e h = leads_nowhere id e (IsStillOn id read b) (still_on id read resets at n b e h)
  may_leads {at = at} {n = n} lawful.may_rest fit b few calls r to done.nothing e h = leads_nowhere id e (Stands id read resets at n b) h

  -- a step may be done, with numbers in their bounds
  bounded_leads : {at at' : Standing} {n n' : ℕ} {step : StepSeen} → MayDo x at n step at' n' → IsCarried frame step → LeadsFrom id Failed (Bounded id read resets at n) (λ b. Performed id frame b step) (Bounded id read resets at' n')
  bounded_leads {at' = at'} {n' = n'} {step = step} one fit b calls r to d e h =
      leads_weaker id e calls (After Failed (Stands id read resets at' n') r to) (After Failed (Bounded id read resets at' n') r to)
      (λ e' q. still_bounded Failed (Stands id read resets at' n') r to e' (step_ranges id frame step b calls r to h.last d) q) (may_leads one fit b h.last calls r to d e h.is)

  pub all_lead : {at to : Standing} {n m : ℕ} {xs : List StepSeen} → MayDoAll x at n xs to m → AllByRecursion (IsCarried frame) xs → LeadsFrom id Failed (Bounded id read resets at n) (Done id frame xs) (Bounded id read resets to m)
  all_lead {at = at} {n = n} lawful.all_done fit = none_leads id Failed (Performed id frame) (Bounded id read resets at n)
  all_lead {at = at} {to = to} {n = n} {m = m} (lawful.first_may {at' = at'} {n' = n'} {step = step} {steps = xs} one more) fit =
      first_leads id Failed (Performed id frame) (Bounded id read resets at n) (Bounded id read resets at' n') (Bounded id read resets to m) step xs (bounded_certain id read resets at' n') (bounded_leads one fit.0) (all_lead more fit.1)

  -- ---- what an answer begins with

  flush_leads : (n : ℕ) (b : Sender) (e : EndState) → InStep id read resets n b e → (calls : List Call) (r : Result ⊤ Ending) (to : Sender) → InAnswer (Flushed 0) b calls r to → LawfulRunTo id e calls (After Failed (InStepClear id read resets n) r to)
  flush_leads n b e h =
      in_answer id read resets h.given n (Flushed 0) (Level id read resets h.given n) (InStepClear id read resets n) b e (λ calls r to d. flush_fits id read resets h.given n b calls r to d e h.fits)
      (λ calls to e' d l. record { given = h.given; level = l; empty = Flushed-empty 0 b calls (Ok tt) to d; below = h.below })

  begins_leads : (n : ℕ) (xs : List StepSeen) → LeadsFrom id Failed (InStep id read resets n) (Begins xs) (Stands id read resets (standing_first xs) n)
  begins_leads n xs b calls r to (done.flushes due d) e h =
      subst (λ (t : Bool). LawfulRunTo id e calls (After Failed (Stands id read resets (if t then Clear else Open) n) r to)) (sym due) (flush_leads n b e h calls r to d)
  begins_leads n xs b calls r to (done.at_once none) e h =
      subst (λ (t : Bool). LawfulRunTo id e [] (Stands id read resets (if t then Clear else Open) n b)) (sym none) (leads_nowhere id e (InStep id read resets n b) h)

  begins_bounded : (n : ℕ) (xs : List StepSeen) → LeadsFrom id Failed (InBounds (InStep id read resets n)) (Begins xs) (Bounded id read resets (standing_first xs) n)
  begins_bounded n xs b calls r to d e h =
      leads_weaker id e calls (After Failed (Stands id read resets (standing_first xs) n) r to) (After Failed (Bounded id read resets (standing_first xs) n) r to)
      (λ e' q. still_bounded Failed (Stands id read resets (standing_first xs) n) r to e' (begins_ranges xs b calls r to h.last d) q) (begins_leads n xs b calls r to d e h.is)

  pub carried_leads : (n m : ℕ) (xs : List StepSeen) (to : Standing) → MayAnswer x n xs to m → AllByRecursion (IsCarried frame) xs → LeadsFrom id Failed (InBounds (InStep id read resets n)) (Carried id frame xs) (Bounded id read resets to m)
  carried_leads n m xs to may fit =
      then_leads id Failed (InBounds (InStep id read resets n)) (Bounded id read resets (standing_first xs) n) (Bounded id read resets to m) (Begins xs) (Done id frame xs) (bounded_certain id read resets (standing_first xs) n) (begins_bounded n xs) (all_lead may fit)
