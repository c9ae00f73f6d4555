-- How many turns a run makes.
use Rattle.std.proofs.Common.{◌≡◌, ℕ, suc, ◌+◌, ◌≤◌, List, [], ◌∷◌, ◌++◌, Result, Ok, Err, refl, ap, arith, replicate, length}
use Rattle.std.specs.Prelude.{⊤}
use Rattle.std.proofs.lemmas.List.{length-replicate}
use Rattle.fix_base.specs.declared.identity.Identity.{Identity}
use Rattle.fix_base.specs.declared.act.Act.TheVariants as act
use Rattle.fix_base.specs.declared.act.Act.{Act}
use Rattle.fix_base.specs.Trace.{Note, Did, Failed, Asked, OutsideSeen, HasTrace, acts_of}
use Rattle.fix_base.proofs.SeenLemmas.{acts_of-append}
use Rattle.fix_fields.specs.Drafted.{DraftText}
use Rattle.fix_engine.specs.State.{State, Ending, Step}
use Rattle.fix_engine.specs.declared.state.Ending.TheVariants as ending
use Rattle.fix_engine.specs.declared.stop.RunEnd.TheVariants as run
use Rattle.fix_engine.specs.declared.stop.SendFault.{SendFault}
use Rattle.fix_engine.specs.Fold.{Each, none, ends, goes, AndThen, first_ends, both}
use Rattle.fix_engine.specs.Answer.{Performed, nothing, count, go_up, close, give_up, taken, hand_lost, hand_memory, spent, keep_memory, keep_lost, sent, write_lost, write_memory}
use Rattle.fix_engine.specs.Reading.{ConnectionSeen, AnswerFrames, no_more, ends as ends_at, goes as goes_on, Feed, fed_frames, fed_memory, ReadFrames, bytes, idle, over, read_lost, read_memory, ReadClock, now, now_memory, StoreExpected, same, kept, expect_lost, expect_memory}
use Rattle.fix_engine.specs.Drafted as drafted
use Rattle.fix_engine.specs.Drafted.{KeepsDraft, Drafting}
use Rattle.fix_engine.specs.Turn as turn_seen
use Rattle.fix_engine.specs.Turn.{TurnSeen, SendDraft, SendPending, OfferDraft, beside, SendReadClock, Turn, OneTurn, stops, keeps, keeps_not, RunAndCut, all_turns, cut, cut_memory, no_cut}
use Rattle.fix_engine.specs.Faults.{run_end}
use Rattle.fix_engine.specs.Counts.{reads_in, looks_in, asks_in, IsMadeOf, HasTurns}

pub reads_in-append : (xs ys : List Act) → reads_in (xs ++ ys) ≡ reads_in xs + reads_in ys
reads_in-append [] ys = omega arith
reads_in-append (act.Read b ∷ xs) ys = omega (arith, reads_in-append xs ys)
reads_in-append (act.Idle ∷ xs) ys = omega (arith, reads_in-append xs ys)
reads_in-append (act.Ended ∷ xs) ys = omega (arith, reads_in-append xs ys)
reads_in-append (act.Opened ∷ xs) ys = reads_in-append xs ys
reads_in-append (act.Now t ∷ xs) ys = reads_in-append xs ys
reads_in-append (act.Wrote b ∷ xs) ys = reads_in-append xs ys
reads_in-append (act.Kept r ∷ xs) ys = reads_in-append xs ys
reads_in-append (act.KeepLost r ∷ xs) ys = reads_in-append xs ys
reads_in-append (act.Handed n marked body ∷ xs) ys = reads_in-append xs ys
reads_in-append (act.HandLost n marked body ∷ xs) ys = reads_in-append xs ys
reads_in-append (act.Withheld k ∷ xs) ys = reads_in-append xs ys
reads_in-append (act.Allowed k ∷ xs) ys = reads_in-append xs ys
reads_in-append (act.Cut ∷ xs) ys = reads_in-append xs ys
reads_in-append (act.Stop ∷ xs) ys = reads_in-append xs ys

looks_in-append : (xs ys : List Act) → looks_in (xs ++ ys) ≡ looks_in xs + looks_in ys
looks_in-append [] ys = omega arith
looks_in-append (act.Now t ∷ xs) ys = omega (arith, looks_in-append xs ys)
looks_in-append (act.Read b ∷ xs) ys = looks_in-append xs ys
looks_in-append (act.Idle ∷ xs) ys = looks_in-append xs ys
looks_in-append (act.Ended ∷ xs) ys = looks_in-append xs ys
looks_in-append (act.Opened ∷ xs) ys = looks_in-append xs ys
looks_in-append (act.Wrote b ∷ xs) ys = looks_in-append xs ys
looks_in-append (act.Kept r ∷ xs) ys = looks_in-append xs ys
looks_in-append (act.KeepLost r ∷ xs) ys = looks_in-append xs ys
looks_in-append (act.Handed n marked body ∷ xs) ys = looks_in-append xs ys
looks_in-append (act.HandLost n marked body ∷ xs) ys = looks_in-append xs ys
looks_in-append (act.Withheld k ∷ xs) ys = looks_in-append xs ys
looks_in-append (act.Allowed k ∷ xs) ys = looks_in-append xs ys
looks_in-append (act.Cut ∷ xs) ys = looks_in-append xs ys
looks_in-append (act.Stop ∷ xs) ys = looks_in-append xs ys

asks_in-append : (xs ys : List Note) → asks_in (xs ++ ys) ≡ asks_in xs + asks_in ys
asks_in-append [] ys = omega arith
asks_in-append (Did act ∷ xs) ys = asks_in-append xs ys
asks_in-append (Failed part ∷ xs) ys = asks_in-append xs ys
asks_in-append (Asked draft ∷ xs) ys = omega (arith, asks_in-append xs ys)

-- so often the notes read, look at the clock, and ask for a draft
pub record Tallies (notes : List Note) (read looked asked : ℕ) : Type 0 where
  pub reads : reads_in (acts_of notes) ≡ read
  pub looks : looks_in (acts_of notes) ≡ looked
  pub asks : asks_in notes ≡ asked

tallies-append : (xs ys : List Note) (a b c d e f : ℕ) → Tallies xs a b c → Tallies ys d e f → Tallies (xs ++ ys) (a + d) (b + e) (c + f)
tallies-append xs ys a b c d e f t u = record {
  reads = omega (arith, ap reads_in (acts_of-append xs ys), reads_in-append (acts_of xs) (acts_of ys), t.reads, u.reads);
  looks = omega (arith, ap looks_in (acts_of-append xs ys), looks_in-append (acts_of xs) (acts_of ys), t.looks, u.looks);
  asks = omega (arith, asks_in-append xs ys, t.asks, u.asks);
}

-- no read, no look, and no asking
abbrev pub Answers : List Note → Type 0
Answers notes = Tallies notes 0 0 0

Performed-answers : (id : Identity) (frame : List ℕ) (s : State) (x : Step) (notes : List Note) (r : Result ⊤ Ending) (s' : State) → Performed id frame s x notes r s' → Answers notes
Performed-answers id frame s x notes r s' nothing = record { reads = refl; looks = refl; asks = refl }
Performed-answers id frame s x notes r s' (count n) = record { reads = refl; looks = refl; asks = refl }
Performed-answers id frame s x notes r s' go_up = record { reads = refl; looks = refl; asks = refl }
Performed-answers id frame s x notes r s' (close why) = record { reads = refl; looks = refl; asks = refl }
Performed-answers id frame s x notes r s' (give_up n) = record { reads = refl; looks = refl; asks = refl }
Performed-answers id frame s x notes r s' (taken n marked fields has) = record { reads = refl; looks = refl; asks = refl }
Performed-answers id frame s x notes r s' (hand_lost n marked fields has) = record { reads = refl; looks = refl; asks = refl }
Performed-answers id frame s x notes r s' (hand_memory n marked) = record { reads = refl; looks = refl; asks = refl }
Performed-answers id frame s x notes r s' (spent say n h) = record { reads = refl; looks = refl; asks = refl }
Performed-answers id frame s x notes r s' (keep_memory say n h) = record { reads = refl; looks = refl; asks = refl }
Performed-answers id frame s x notes r s' (keep_lost say n h) = record { reads = refl; looks = refl; asks = refl }
Performed-answers id frame s x notes r s' (sent say n text h said) = record { reads = refl; looks = refl; asks = refl }
Performed-answers id frame s x notes r s' (write_lost say n text k h said) = record { reads = refl; looks = refl; asks = refl }
Performed-answers id frame s x notes r s' (write_memory say n h) = record { reads = refl; looks = refl; asks = refl }

Carried-answers : (id : Identity) (frame : List ℕ) (xs : List Step) (s : State) (notes : List Note) (r : Result ⊤ Ending) (s' : State) → Each (Performed id frame) s xs notes r s' → Answers notes
Carried-answers id frame [] s notes r s' none = record { reads = refl; looks = refl; asks = refl }
Carried-answers id frame (x ∷ xs) s notes r s' (ends d) = Performed-answers id frame s x notes r s' d
Carried-answers id frame (x ∷ xs) s notes r s' (goes {first = a} {more = b} d k) = tallies-append a b 0 0 0 0 0 0 (Performed-answers id frame s x a _ _ d) (Carried-answers id frame xs _ b r s' k)

AnswerFrames-answers : (id : Identity) (l : ConnectionSeen) (notes : List Note) (r : Result ⊤ Ending) (to : ConnectionSeen) → AnswerFrames id l notes r to → Answers notes
AnswerFrames-answers id l notes r to (no_more gives) = record { reads = refl; looks = refl; asks = refl }
AnswerFrames-answers id l notes r to (ends_at frame gives h) = Carried-answers id frame _ _ _ _ _ h.carried
AnswerFrames-answers id l notes r to (goes_on {first = a} {more = b} frame gives h more) = tallies-append a b 0 0 0 0 0 0 (Carried-answers id frame _ _ a _ _ h.carried) (AnswerFrames-answers id _ b r to more)

pub Feed-answers : (id : Identity) (b : List ℕ) (l : ConnectionSeen) (notes : List Note) (r : Result ⊤ Ending) (to : ConnectionSeen) → Feed id b l notes r to → Answers notes
Feed-answers id b l notes r to (fed_frames d) = AnswerFrames-answers id _ notes r to d
Feed-answers id b l notes r to fed_memory = record { reads = refl; looks = refl; asks = refl }

-- so many of n turns were made up to their look, where they ended so
abbrev IsMade : Result ⊤ Ending → ℕ → ℕ → Type 0
IsMade r n made = IsMadeOf (run_end r) n made

-- a part of at most n turns
record Makes (n : ℕ) (r : Result ⊤ Ending) (notes : List Note) : Type 0 where
  made : IsMade r n (looks_in (acts_of notes))
  reads_first : looks_in (acts_of notes) ≤ reads_in (acts_of notes)
  reads_once : reads_in (acts_of notes) ≤ looks_in (acts_of notes) + 1
  at_most : reads_in (acts_of notes) ≤ n
  all : run_end r ≡ run.TurnsSpent → reads_in (acts_of notes) ≡ n
  asks_once : asks_in notes ≤ looks_in (acts_of notes) + 1
  asks_at_most : asks_in notes ≤ n

-- it ended before its look
before_look : (e : Ending) → IsMade (Err e) 1 0
before_look (ending.Closed why) = omega arith
before_look (ending.NotBuilt n) = omega arith
before_look ending.StoreFault = omega arith
before_look ending.LinkFault = omega arith
before_look ending.AppFault = omega arith
before_look ending.NumbersSpent = omega arith
before_look ending.OutOfMemory = omega arith

-- only a run that made all its turns answers so
pub never_spent : (e : Ending) → run_end (Err e) ≡ run.TurnsSpent → ⊥
never_spent (ending.Closed why) h = cc
never_spent (ending.NotBuilt n) h = cc
never_spent ending.StoreFault h = cc
never_spent ending.LinkFault h = cc
never_spent ending.AppFault h = cc
never_spent ending.NumbersSpent h = cc
never_spent ending.OutOfMemory h = cc

-- what ended before its look makes no whole turn
makes_none : (e : Ending) (notes : List Note) (a b : ℕ) → a ≤ 1 → b ≤ 1 → Tallies notes a 0 b → Makes 1 (Err e) notes
makes_none e notes a b le few t = record {
  made = rw t.looks (before_look e);
  reads_first = omega (arith, t.looks);
  reads_once = omega (arith, t.reads);
  at_most = omega (arith, t.reads);
  all = λ h. absurd (never_spent e h);
  asks_once = omega (arith, t.asks);
  asks_at_most = omega (arith, t.asks);
}

-- a part of one turn that asks for no draft
record MakesUnasked (r : Result ⊤ Ending) (notes : List Note) : Type 0 where
  makes : Makes 1 r notes
  asks : asks_in notes ≡ 0

ends_unasked : (e : Ending) (notes : List Note) (a : ℕ) → a ≤ 1 → Tallies notes a 0 0 → MakesUnasked (Err e) notes
ends_unasked e notes a le t = record { makes = makes_none e notes a 0 le (omega arith) t; asks = t.asks }

-- a read that went well, or one that ended the turn
ReadFrames-reads : (id : Identity) (l : ConnectionSeen) (notes : List Note) (to : ConnectionSeen) → ReadFrames id l notes (Ok tt) to → Tallies notes 1 0 0
ReadFrames-reads id l notes to (bytes {more = b} text some fits d) = tallies-append (Did (act.Read text) ∷ []) b 1 0 0 0 0 0 (record { reads = refl; looks = refl; asks = refl }) (Feed-answers id text l b _ to d)
ReadFrames-reads id l notes to idle = record { reads = refl; looks = refl; asks = refl }

ReadFrames-ends : (id : Identity) (l : ConnectionSeen) (notes : List Note) (e : Ending) (to : ConnectionSeen) → ReadFrames id l notes (Err e) to → MakesUnasked (Err e) notes
ReadFrames-ends id l notes e to (bytes {more = b} text some fits d) = ends_unasked e _ 1 (omega arith) (tallies-append (Did (act.Read text) ∷ []) b 1 0 0 0 0 0 (record { reads = refl; looks = refl; asks = refl }) (Feed-answers id text l b _ to d))
ReadFrames-ends id l notes e to over = ends_unasked e _ 1 (omega arith) (record { reads = refl; looks = refl; asks = refl })
ReadFrames-ends id l notes e to read_lost = ends_unasked e _ 0 (omega arith) (record { reads = refl; looks = refl; asks = refl })
ReadFrames-ends id l notes e to read_memory = ends_unasked e _ 0 (omega arith) (record { reads = refl; looks = refl; asks = refl })

looked : (l : ConnectionSeen) (first more : List Note) (r : Result ⊤ Ending) (to : ConnectionSeen) → Tallies first 1 0 0 → ReadClock l more r to → MakesUnasked r (first ++ more)
looked l first more r to t (now reading) =
    let u = tallies-append first (Did (act.Now reading) ∷ []) 1 0 0 0 1 0 t (record { reads = refl; looks = refl; asks = refl }) in
    record {
      makes = record { made = u.looks; reads_first = omega (arith, u.reads, u.looks); reads_once = omega (arith, u.reads); at_most = omega (arith, u.reads); all = λ h. u.reads; asks_once = omega (arith, u.asks); asks_at_most = omega (arith, u.asks) };
      asks = u.asks;
    }
looked l first more r to t now_memory = ends_unasked ending.OutOfMemory (first ++ []) 1 (omega arith) (tallies-append first [] 1 0 0 0 0 0 t (record { reads = refl; looks = refl; asks = refl }))

Looked-makes : (id : Identity) (l : ConnectionSeen) (notes : List Note) (r : Result ⊤ Ending) (to : ConnectionSeen) → AndThen (ReadFrames id) ReadClock l notes r to → MakesUnasked r notes
Looked-makes id l notes r to (first_ends {e = e} d) = ReadFrames-ends id l notes e to d
Looked-makes id l notes r to (both {mid = mid} {first = a} {more = b} d k) = looked mid a b r to (ReadFrames-reads id l a mid d) k

KeepsDraft-answers : (d : DraftText) (s s' : State) (notes : List Note) (r : Result ℕ SendFault) → KeepsDraft d s notes r s' → Answers notes
KeepsDraft-answers d s s' notes r drafted.unkept = record { reads = refl; looks = refl; asks = refl }
KeepsDraft-answers d s s' notes r (drafted.kept_lost is) = record { reads = refl; looks = refl; asks = refl }
KeepsDraft-answers d s s' notes r (drafted.was_kept is) = record { reads = refl; looks = refl; asks = refl }

Drafting-answers : (id : Identity) (d : DraftText) (s s' : State) (notes : List Note) (r : Result ℕ SendFault) → Drafting id d s notes r s' → Answers notes
Drafting-answers id d s s' notes r drafted.no_memory = record { reads = refl; looks = refl; asks = refl }
Drafting-answers id d s s' notes r (drafted.lost k) = KeepsDraft-answers d s s' notes r k
Drafting-answers id d s s' notes r (drafted.stored other k) = KeepsDraft-answers d s s' notes r k
Drafting-answers id d s s' notes r (drafted.sent {notes = a} text up said k) = tallies-append a _ 0 0 0 0 0 0 (KeepsDraft-answers d s s' a _ k) (record { reads = refl; looks = refl; asks = refl })
Drafting-answers id d s s' notes r (drafted.write_lost {notes = a} text many up said k) = tallies-append a _ 0 0 0 0 0 0 (KeepsDraft-answers d s s' a _ k) (record { reads = refl; looks = refl; asks = refl })
Drafting-answers id d s s' notes r (drafted.write_memory up k) = KeepsDraft-answers d s s' notes _ k

SendDraft-answers : (id : Identity) (draft : DraftText) (d : TurnSeen) (notes : List Note) (r : Result ⊤ Ending) (to : TurnSeen) → SendDraft id draft d notes r to → Answers notes
SendDraft-answers id draft d notes r to (turn_seen.spent full) = record { reads = refl; looks = refl; asks = refl }
SendDraft-answers id draft d notes r to (turn_seen.sends {r = x} {s = s} small is k) = Drafting-answers id draft d.connection.state s notes x k

SendPending-answers : (id : Identity) (d : TurnSeen) (notes : List Note) (r : Result ⊤ Ending) (to : TurnSeen) → SendPending id d notes r to → Answers notes
SendPending-answers id d notes r to (turn_seen.empty held_none) = record { reads = refl; looks = refl; asks = refl }
SendPending-answers id d notes r to (turn_seen.holds draft some k) = SendDraft-answers id draft d notes r to k

-- no read and no look, and at most one asking
pub record OffersOnce (notes : List Note) : Type 0 where
  pub asked : ℕ
  pub once : asked ≤ 1
  pub tallies : Tallies notes 0 0 asked

pub OfferDraft-once : (id : Identity) (d : TurnSeen) (notes : List Note) (r : Result ⊤ Ending) (to : TurnSeen) → OfferDraft id d notes r to → OffersOnce notes
OfferDraft-once id d notes r to (turn_seen.not_up other) = record { asked = 0; once = omega arith; tallies = record { reads = refl; looks = refl; asks = refl } }
OfferDraft-once id d notes r to (turn_seen.asked {notes = more} given up held_none k) = record {
  asked = 1;
  once = omega arith;
  tallies = tallies-append (_ ∷ []) more 0 0 1 0 0 0 (record { reads = refl; looks = refl; asks = refl }) (SendPending-answers id (turn_seen.turn_seen d.connection (record { draft = given; store_failed = d.pending.store_failed })) more r to k);
}
OfferDraft-once id d notes r to (turn_seen.was_in_hand draft up some k) = record { asked = 0; once = omega arith; tallies = SendDraft-answers id draft d notes r to k }

-- a draft was offered at most once, and the rest of the turn follows
offered_then : (r : Result ⊤ Ending) (xs ys : List Note) → OffersOnce xs → MakesUnasked r ys → Makes 1 r (xs ++ ys)
offered_then r xs ys o m =
    let u = tallies-append xs ys 0 0 o.asked (reads_in (acts_of ys)) (looks_in (acts_of ys)) 0 o.tallies (record { reads = refl; looks = refl; asks = m.asks }) in
    let looks : looks_in (acts_of (xs ++ ys)) ≡ looks_in (acts_of ys) = omega (arith, u.looks) in
    record {
      made = rw looks m.makes.made;
      reads_first = omega (arith, u.reads, u.looks, m.makes.reads_first);
      reads_once = omega (arith, u.reads, u.looks, m.makes.reads_once);
      at_most = omega (arith, u.reads, m.makes.at_most);
      all = λ h. (let a = m.makes.all h in omega (arith, u.reads, a));
      asks_once = omega (arith, u.asks, o.once);
      asks_at_most = omega (arith, u.asks, o.once);
    }

SendReadClock-makes : (id : Identity) (d : TurnSeen) (notes : List Note) (r : Result ⊤ Ending) (to : TurnSeen) → SendReadClock id d notes r to → Makes 1 r notes
SendReadClock-makes id d notes r to (first_ends {e = e} k) =
    let o = OfferDraft-once id d notes (Err e) to k in
    makes_none e notes 0 o.asked (omega arith) o.once o.tallies
SendReadClock-makes id d notes r to (both {mid = mid} {first = a} {more = b} k (beside {to = end} h)) = offered_then r a b (OfferDraft-once id d a (Ok tt) mid k) (Looked-makes id mid.connection b r end h)

pub StoreExpected-answers : (l : ConnectionSeen) (notes : List Note) (r : Result ⊤ Ending) (to : ConnectionSeen) → StoreExpected l notes r to → Answers notes
StoreExpected-answers l notes r to (same h) = record { reads = refl; looks = refl; asks = refl }
StoreExpected-answers l notes r to (kept h) = record { reads = refl; looks = refl; asks = refl }
StoreExpected-answers l notes r to (expect_lost h) = record { reads = refl; looks = refl; asks = refl }
StoreExpected-answers l notes r to (expect_memory h) = record { reads = refl; looks = refl; asks = refl }

-- notes without a read, a look or an asking change nothing
makes_too : (n : ℕ) (r : Result ⊤ Ending) (xs ys : List Note) → Makes n r xs → Answers ys → Makes n r (xs ++ ys)
makes_too n r xs ys m t =
    let u = tallies-append xs ys (reads_in (acts_of xs)) (looks_in (acts_of xs)) (asks_in xs) 0 0 0 (record { reads = refl; looks = refl; asks = refl }) t in
    let looks : looks_in (acts_of (xs ++ ys)) ≡ looks_in (acts_of xs) = omega (arith, u.looks) in
    record {
      made = rw looks m.made;
      reads_first = omega (arith, u.reads, u.looks, m.reads_first);
      reads_once = omega (arith, u.reads, u.looks, m.reads_once);
      at_most = omega (arith, u.reads, m.at_most);
      all = λ h. (let a = m.all h in omega (arith, u.reads, a));
      asks_once = omega (arith, u.asks, u.looks, m.asks_once);
      asks_at_most = omega (arith, u.asks, m.asks_at_most);
    }

most_made : (r : Result ⊤ Ending) (n made : ℕ) → IsMade r n made → made ≤ n
most_made (Ok x) n made h = omega arith
most_made (Err (ending.Closed why)) n made h = omega arith
most_made (Err (ending.NotBuilt number)) n made h = omega arith
most_made (Err ending.StoreFault) n made h = omega arith
most_made (Err ending.LinkFault) n made h = omega arith
most_made (Err ending.AppFault) n made h = omega arith
most_made (Err ending.NumbersSpent) n made h = omega arith
most_made (Err ending.OutOfMemory) n made h = omega arith

-- the store failed, or memory was refused, behind what was met
unkept : (l to : ConnectionSeen) (met : Result ⊤ Ending) (xs ys : List Note) (e : Ending) → Makes 1 met xs → StoreExpected l ys (Err e) to → Makes 1 (Err e) (xs ++ ys)
unkept l to met xs ys e m (expect_lost h) = makes_too 1 (Err ending.StoreFault) xs _ (record { made = most_made met 1 _ m.made; reads_first = m.reads_first; reads_once = m.reads_once; at_most = m.at_most; all = λ h. cc; asks_once = m.asks_once; asks_at_most = m.asks_at_most }) (record { reads = refl; looks = refl; asks = refl })
unkept l to met xs ys e m (expect_memory h) = makes_too 1 (Err ending.OutOfMemory) xs _ (record { made = most_made met 1 _ m.made; reads_first = m.reads_first; reads_once = m.reads_once; at_most = m.at_most; all = λ h. cc; asks_once = m.asks_once; asks_at_most = m.asks_at_most }) (record { reads = refl; looks = refl; asks = refl })

Turn-makes : (id : Identity) (d : TurnSeen) (notes : List Note) (r : Result ⊤ Ending) (to : TurnSeen) → Turn id d notes r to → Makes 1 r notes
Turn-makes id d notes r to (stops h k) = SendReadClock-makes id d notes r to k
Turn-makes id d notes r to (keeps {mid = mid} {first = a} {more = b} h k (beside {to = end} e)) = makes_too 1 r a b (SendReadClock-makes id d a r mid k) (StoreExpected-answers mid.connection b _ end e)
Turn-makes id d notes r to (keeps_not {mid = mid} {met = met} {first = a} {more = b} {e = e} h k (beside {to = end} lost)) = unkept mid.connection end met a b e (SendReadClock-makes id d a met mid k) lost

-- one turn was made, and n more are left
made_more : (r : Result ⊤ Ending) (n made : ℕ) → IsMade r n made → IsMade r (suc n) (1 + made)
made_more (Ok x) n made h = omega arith
made_more (Err (ending.Closed why)) n made h = omega arith
made_more (Err (ending.NotBuilt number)) n made h = omega arith
made_more (Err ending.StoreFault) n made h = omega arith
made_more (Err ending.LinkFault) n made h = omega arith
made_more (Err ending.AppFault) n made h = omega arith
made_more (Err ending.NumbersSpent) n made h = omega arith
made_more (Err ending.OutOfMemory) n made h = omega arith

makes_more : (n : ℕ) (r : Result ⊤ Ending) (xs ys : List Note) → Makes 1 (Ok tt) xs → Makes n r ys → Makes (suc n) r (xs ++ ys)
makes_more n r xs ys m k =
    let one = m.all refl in
    let u = tallies-append xs ys 1 1 (asks_in xs) (reads_in (acts_of ys)) (looks_in (acts_of ys)) (asks_in ys) (record { reads = one; looks = m.made; asks = refl }) (record { reads = refl; looks = refl; asks = refl }) in
    record {
      made = rw u.looks (made_more r n _ k.made);
      reads_first = omega (arith, u.reads, u.looks, k.reads_first);
      reads_once = omega (arith, u.reads, u.looks, k.reads_once);
      at_most = omega (arith, u.reads, k.at_most);
      all = λ h. (let a = k.all h in omega (arith, u.reads, a));
      asks_once = omega (arith, u.asks, u.looks, m.asks_at_most, k.asks_once);
      asks_at_most = omega (arith, u.asks, m.asks_at_most, k.asks_at_most);
    }

-- fewer than that were made
ended_early : (e : Ending) (n made : ℕ) → IsMade (Err e) 1 made → IsMade (Err e) (suc n) made
ended_early (ending.Closed why) n made h = omega arith
ended_early (ending.NotBuilt number) n made h = omega arith
ended_early ending.StoreFault n made h = omega arith
ended_early ending.LinkFault n made h = omega arith
ended_early ending.AppFault n made h = omega arith
ended_early ending.NumbersSpent n made h = omega arith
ended_early ending.OutOfMemory n made h = omega arith

TakeTurns-make : (id : Identity) (us : List ⊤) (d : TurnSeen) (notes : List Note) (r : Result ⊤ Ending) (to : TurnSeen) → Each (OneTurn id) d us notes r to → Makes (length us) r notes
TakeTurns-make id [] d notes r to none = record { made = refl; reads_first = omega arith; reads_once = omega arith; at_most = omega arith; all = λ h. refl; asks_once = omega arith; asks_at_most = omega arith }
TakeTurns-make id (u ∷ us) d notes r to (ends {e = e} k) =
    let m = Turn-makes id d notes (Err e) to k in
    record {
      made = ended_early e (length us) _ m.made;
      reads_first = m.reads_first;
      reads_once = m.reads_once;
      at_most = omega (arith, m.at_most);
      all = λ h. absurd (never_spent e h);
      asks_once = m.asks_once;
      asks_at_most = omega (arith, m.asks_at_most);
    }
TakeTurns-make id (u ∷ us) d notes r to (goes {mid = mid} {first = a} {more = b} k more) = makes_more (length us) r a b (Turn-makes id d a (Ok tt) mid k) (TakeTurns-make id us mid b r to more)

has_turns : (n : ℕ) (r : Result ⊤ Ending) (notes : List Note) → Makes (length (replicate {A = ⊤} n tt)) r notes → HasTurns n (run_end r) notes
has_turns n r notes m =
    let k : length (replicate {A = ⊤} n tt) ≡ n = length-replicate n tt in
    record {
      made = rw (← k) m.made;
      reads_first = m.reads_first;
      reads_once = m.reads_once;
      at_most = omega (arith, k, m.at_most);
      all = λ h. (let a = m.all h in omega (arith, k, a));
      asks_once = m.asks_once;
      asks_at_most = omega (arith, k, m.asks_at_most);
    }

-- memory was refused for Cut
for_memory : (n : ℕ) (r : Result ⊤ Ending) (notes : List Note) → Makes n r notes → Makes n (Err ending.OutOfMemory) notes
for_memory n r notes m = record {
  made = most_made r n _ m.made;
  reads_first = m.reads_first;
  reads_once = m.reads_once;
  at_most = m.at_most;
  all = λ h. absurd (never_spent ending.OutOfMemory h);
  asks_once = m.asks_once;
  asks_at_most = m.asks_at_most;
}

-- the turns of a run
pub RunAndCut-turns : (id : Identity) (n : ℕ) (d : TurnSeen) (notes : List Note) (r : Result ⊤ Ending) (to : TurnSeen) → RunAndCut id n d notes r to → HasTurns n (run_end r) notes
RunAndCut-turns id n d notes r to (all_turns k) = has_turns n r notes (TakeTurns-make id (replicate n tt) d notes r to k)
RunAndCut-turns id n d notes r to (cut {to = at} {notes = a} {e = e} h k) = has_turns n (Err e) _ (makes_too _ (Err e) a _ (TakeTurns-make id (replicate n tt) d a (Err e) at k) (record { reads = refl; looks = refl; asks = refl }))
RunAndCut-turns id n d notes r to (cut_memory {to = at} {e = e} h k) = has_turns n (Err ending.OutOfMemory) notes (for_memory _ (Err e) notes (TakeTurns-make id (replicate n tt) d notes (Err e) at k))
RunAndCut-turns id n d notes r to (no_cut {to = at} {e = e} h k) = has_turns n (Err e) notes (TakeTurns-make id (replicate n tt) d notes (Err e) at k)

pub RunAndCut-has_turns : (id : Identity) (n : ℕ) (d : TurnSeen) (r : Result ⊤ Ending) (to : TurnSeen) (old new : OutsideSeen) → HasTrace old new (λ notes. RunAndCut id n d notes r to) → HasTrace old new (HasTurns n (run_end r))
RunAndCut-has_turns id n d r to old new g = (g.0, g.1, RunAndCut-turns id n d g.0 r to g.2)
