-- What comes of sending a draft of the application.
use Rattle.std.specs.Prelude.{◌≡◌, ◌≢◌, ℕ, ◌+◌, ◌-◌, ◌<◌, ◌≤◌, List, [], ◌∷◌, ◌++◌, length, take, true, false}
use Rattle.std.specs.Prelude.{Result, Ok, Err, ⊤}
use Rattle.std.specs.Fmt.{decimal}
use Rattle.fix_base.specs.declared.identity.Identity.{Identity}
use Rattle.fix_base.specs.declared.entry.Entry.{Entry}
use Rattle.fix_base.specs.declared.entry.Entry.TheVariants.{App}
use Rattle.fix_base.specs.declared.entry.By.TheVariants.{Caller}
use Rattle.fix_base.specs.declared.entry.Record.TheVariants.{Push}
use Rattle.fix_base.specs.Times.{IsTimeTextOf}
use Rattle.fix_base.specs.Wrote.{IsSealed, original_fields}
use Rattle.fix_base.specs.declared.act.Act.TheVariants as act
use Rattle.fix_base.specs.Trace.{Faults, Note, Did, Failed, StorePart, LinkPart, Rises}
use Rattle.fix_fields.specs.Drafted.{DraftText, IsDraft, draft_body}
use Rattle.fix_engine.specs.State.{State, Down, Up, with_phase, with_last, with_reading}
use Rattle.fix_engine.specs.declared.stop.SendFault.{SendFault}
use Rattle.fix_engine.specs.declared.stop.SendFault.TheVariants as fault
use Rattle.fix_engine.specs.Faults.{is_link_fault}
use Rattle.fix_engine.specs.Reading.{ConnectionSeen, connection_seen}

-- the entry that is kept of a draft
abbrev pub entry_of_draft : State → DraftText → Entry
entry_of_draft s d = App s.reading Caller (draft_body d)

-- the frame of the draft under this number, sent at this time in milliseconds
pub record IsOfDraft (id : Identity) (n time : ℕ) (d : DraftText) (text : List ℕ) : Type 0 where
  pub draft : IsDraft d
  pub at : List ℕ
  pub sent_at : IsTimeTextOf 3 time at
  pub sealed_so : IsSealed id (original_fields id (decimal n) at d.kind draft.fields) text

-- a draft takes the next number, and is kept
pub data KeepsDraft (d : DraftText) (s : State) : List Note → Result ℕ SendFault → State → Type 0 where
  -- out of memory before the entry was kept
  unkept : KeepsDraft d s [] (Err fault.OutOfMemory) s
  kept_lost : IsDraft d → KeepsDraft d s (Did (act.KeepLost (Push (entry_of_draft s d))) ∷ Failed StorePart ∷ [])
      (Err fault.StoreFault) s
  was_kept : IsDraft d → KeepsDraft d s (Did (act.Kept (Push (entry_of_draft s d))) ∷ []) (Ok (s.last + 1))
      (with_last s (s.last + 1))

-- A draft takes the next number and is kept, and in phase Up its original is written after this. In another phase
-- nothing is written.
pub data Drafting (id : Identity) (d : DraftText) (s : State) : List Note → Result ℕ SendFault → State → Type 0 where
  no_memory : Drafting id d s [] (Err fault.OutOfMemory) s
  lost : {notes : List Note} {s' : State} → KeepsDraft d s notes (Err fault.StoreFault) s' →
      Drafting id d s notes (Err fault.StoreFault) s'
  stored : {notes : List Note} {n : ℕ} {s' : State} → s.phase ≢ Up → KeepsDraft d s notes (Ok n) s' →
      Drafting id d s notes (Ok n) s'
  sent : {notes : List Note} {n : ℕ} {s' : State} (text : List ℕ) → s.phase ≡ Up →
      IsOfDraft id (s.last + 1) s.reading d text → KeepsDraft d s notes (Ok n) s' →
      Drafting id d s (notes ++ Did (act.Wrote text) ∷ []) (Ok n) s'
  write_lost : {notes : List Note} {n : ℕ} {s' : State} (text : List ℕ) (sent_bytes : ℕ) → s.phase ≡ Up →
      IsOfDraft id (s.last + 1) s.reading d text → KeepsDraft d s notes (Ok n) s' →
      Drafting id d s (notes ++ Did (act.Wrote (take sent_bytes text)) ∷ Failed
      (LinkPart (length text - sent_bytes)) ∷ []) (Err (fault.LinkFault n)) s'
  write_memory : {notes : List Note} {n : ℕ} {s' : State} → s.phase ≡ Up → KeepsDraft d s notes (Ok n) s' →
      Drafting id d s notes (Err fault.OutOfMemory) s'

-- the clock is read once, and then the draft is sent
pub data Drafted (id : Identity) (d : DraftText) (s : State) : List Note → Result ℕ SendFault → State → Type 0 where
  no_reading : Drafted id d s [] (Err fault.OutOfMemory) s
  at_time : {notes : List Note} {r : Result ℕ SendFault} {s' : State} (t : ℕ) →
      Drafting id d (with_reading s t) notes r s' → Drafted id d s (Did (act.Now t) ∷ notes) r s'

-- the same, and what is noted after its end: a session that sent is as it was, and one that didn't is Down
pub data SentTo (id : Identity) (d : DraftText) (s : State) : List Note → Result ℕ SendFault → State → Type 0 where
  went : {notes : List Note} {n : ℕ} {s' : State} → Drafted id d s notes (Ok n) s' → SentTo id d s notes (Ok n) s'
  cut : {notes : List Note} {why : SendFault} {s' : State} → is_link_fault why ≡ true →
      Drafted id d s notes (Err why) s' → SentTo id d s (notes ++ Did act.Cut ∷ []) (Err why) (with_phase s' Down)
  cut_memory : {notes : List Note} {why : SendFault} {s' : State} → is_link_fault why ≡ true →
      Drafted id d s notes (Err why) s' → SentTo id d s notes (Err fault.OutOfMemory) (with_phase s' Down)
  no_cut : {notes : List Note} {why : SendFault} {s' : State} → is_link_fault why ≡ false →
      Drafted id d s notes (Err why) s' → SentTo id d s notes (Err why) (with_phase s' Down)

-- what comes of `send` on a session that goes on
pub data SendsTo (id : Identity) (d : DraftText) (l : ConnectionSeen) : Result ℕ SendFault → ConnectionSeen
    → List Note → Type 0 where
  spent : 999999999 ≤ l.state.last → SendsTo id d l (Err fault.NumbersSpent) l []
  sends : {notes : List Note} {r : Result ℕ SendFault} {s : State} → l.state.last < 999999999 →
      SentTo id d l.state notes r s → SendsTo id d l r (connection_seen s l.unread) notes

-- a part is blamed only where its count rose
abbrev pub SendHasCause : {T : Type 0} → Result T SendFault → Faults → Faults → Type 0
SendHasCause (Ok x) old new = ⊤
SendHasCause (Err (fault.Stopped why)) old new = ⊤
SendHasCause (Err fault.NumbersSpent) old new = ⊤
SendHasCause (Err fault.OutOfMemory) old new = ⊤
SendHasCause (Err fault.StoreFault) old new = Rises 1 old.store new.store
SendHasCause (Err (fault.LinkFault n)) old new = Rises 1 old.link new.link
