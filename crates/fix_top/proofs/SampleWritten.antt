-- The sample over parts that tell all of themselves.
use Rattle.std.proofs.Common.{◌≡◌, ℕ, ◌+◌, ◌^◌, ◌<◌, ◌≤◌, List, [], ◌∷◌, ◌++◌, length, codes, false, Option, Some, None, refl, sym, ap, subst, ◌∙◌, inl, inr, arith, lit≤}
use Rattle.std.specs.Prelude.{is_some}
use Rattle.std.proofs.lemmas.List.{append-nil}
use Rattle.fix_base.specs.declared.act.Act.{Act}
use Rattle.fix_base.specs.Line.{line_text, body_text}
use Rattle.fix_base.specs.End.{new_end}
use Rattle.fix_base.specs.Parts.{PartsSeen, HasNoRoom, with_store_room}
use Rattle.fix_base.specs.Says.{joined}
use Rattle.fix_base.specs.Trace.{Note, acts_of, Follows, OutsideSeen}
use Rattle.fix_parts.specs.Link.{LinkSeen}
use Rattle.fix_disk.specs.Sink.{SinkSeen}
use Rattle.fix_parts.specs.Line.{line_seen}
use Rattle.fix_disk.specs.declared.memory_disk.MemoryDisk.{MemoryDisk}
use Rattle.fix_disk.specs.Disk.{DiskSeen}
use Rattle.fix_disk.specs.State.{State, blank}
use Rattle.fix_disk.specs.MemoryDisk.{DiskScript, disk_of, disk_state, disk_script, script_of, room_of}
use Rattle.fix_store.specs.Reading.{HasEnd, IsBrokenAt}
use Rattle.fix_store.specs.Rooms.{room_in, room_left}
use Rattle.fix_rim.specs.StoreSlot.{seen_on}
use Rattle.fix_rim.specs.Rim.{parts_of, seen_of}
use Rattle.fix_journal.proofs.SoundLemmas.{some_same}
use Rattle.fix_store.proofs.Ends.{not_broken}
use Rattle.fix_top.specs.Words.{IsForm}
use Rattle.fix_top.specs.Serve.{Served}
use Rattle.fix_top.specs.Sample.{SAMPLE_ID, SAMPLE_TIME, ROOM, STORE_ROOM, SAMPLE, LOGON, ORDER, LOGOUT, LINE, BODY, LOGON_ANSWER, LOGOUT_ANSWER, ServesSample, WritesSample}
use Rattle.fix_top.proofs.SampleTexts.{number_2}
use Rattle.fix_top.proofs.SampleRooms.{lines_in}
use Rattle.fix_top.proofs.SampleParts.{rooms_told, looks_told, reads_told, wrote_told, lines_told, AreTaken}
use Rattle.fix_top.proofs.SampleLemmas.{ALL_LINES, IsNewStore, sample_served}

-- how much room a new store has on its disk: all but that of its name, its mark and two gates
abbrev pub LEFT : ℕ
LEFT = 980

-- parts with these pieces to come and one reading, to which nothing was given and that fail only where this room is spent
abbrev pub sample_parts : List (List ℕ) → PartsSeen
sample_parts pieces = record { to_come = Some pieces; readings = Some (SAMPLE_TIME ∷ []); written = Some []; link_room = Some ROOM; lines = Some []; line_room = Some ROOM; asked = Some []; to_ask = Some []; store_room = Some LEFT }

-- an empty disk
pub made_bytes : (device : Option MemoryDisk) (disk : MemoryDisk) → device ≡ Some disk → disk_state disk ≡ blank → (seen_on disk_of device).bytes ≡ Some []
made_bytes device disk is empty = ap (λ (o : Option MemoryDisk). (seen_on disk_of o).bytes) is ∙ ap (λ (s : State). Some s.bytes) empty

pub made_room : (device : Option MemoryDisk) (disk : MemoryDisk) (fail : List ℕ) → device ≡ Some disk → fail ≡ [] → disk_script disk ≡ script_of fail None STORE_ROOM 0 → (seen_on disk_of device).room ≡ Some STORE_ROOM
made_room device disk fail is none script =
    ap (λ (o : Option MemoryDisk). (seen_on disk_of o).room) is
    ∙ ap (λ (s : DiskScript). room_of s.fail s.fuse s.past s.capacity) script
    ∙ ap (λ (f : List ℕ). room_of f None 0 STORE_ROOM) none

left_there : (disk : DiskSeen) → disk.bytes ≡ Some [] → disk.room ≡ Some STORE_ROOM → room_left disk ≡ Some LEFT
left_there disk file room = λ i. room_in (room i) (file i)

-- parts in memory that were just made
pub just_made : (disk : DiskSeen) (link : LinkSeen) (sink : SinkSeen) (readings : List ℕ) (pieces : List (List ℕ)) → disk.bytes ≡ Some [] → disk.room ≡ Some STORE_ROOM → link ≡ record { to_come = Some pieces; written = Some []; room = Some ROOM; faults = 0 } → sink ≡ record { written = Some []; room = Some ROOM; faults = 0 } → readings ≡ SAMPLE_TIME ∷ [] → parts_of disk link (line_seen sink) (Some readings) ≡ sample_parts pieces
just_made disk link sink readings pieces file room a b c =
    ap (λ (o : Option ℕ). with_store_room (parts_of disk link (line_seen sink) (Some readings)) o) (left_there disk file room)
    ∙ (λ i. with_store_room (parts_of disk (a i) (line_seen (b i)) (Some (c i))) (Some LEFT))

-- the words that ask for the sample session
pub sample_form : (words : List (List ℕ)) → words ≡ codes "--stdio" ∷ codes "FIX.4.2" ∷ codes "SELL" ∷ codes "BUY" ∷ [] → IsForm words SAMPLE_ID
sample_form words spelled = record { spelled = spelled; valid = record { sender = refl; target = refl } }

sample_long : length SAMPLE ≤ 1000
unfolding LOGON ORDER LOGOUT
sample_long = lit≤ tt

-- the turns are enough for the pieces of any vector
pub enough_turns : (pieces : List (List ℕ)) (len cap : ℕ) → len ≡ length pieces → len ≤ cap → cap < 2 ^ 63 → length pieces + length SAMPLE < 18446744073709551615
enough_turns pieces len cap same held small = omega (arith, same, held, small, sample_long)

-- the line of the order
line_is : line_text 2 false BODY ≡ LINE
unfolding BODY LINE
line_is = ap (λ (digits : List ℕ). digits ++ (32 ∷ 78 ∷ 32 ∷ []) ++ body_text BODY ++ 10 ∷ []) number_2

all_lines : ALL_LINES ≡ LINE
all_lines = append-nil (line_text 2 false BODY) ∙ line_is

line_long : length LINE ≤ ROOM
unfolding LINE
line_long = lit≤ tt

answers_long : length (LOGON_ANSWER ++ LOGOUT_ANSWER) ≤ ROOM
unfolding LOGON_ANSWER LOGOUT_ANSWER
answers_long = lit≤ tt

-- what such parts were given, by the acts
told_so : (status : ℕ) (notes : List Note) (new : PartsSeen) (pieces : List (List ℕ)) → Follows notes (sample_parts pieces) new → ServesSample status (acts_of notes) → WritesSample status new.written new.lines
told_so status notes new pieces f (inl memory) = inl memory
told_so status notes new pieces f (inr s) =
    let old = sample_parts pieces in
    inr (record {
      done = s.done;
      wrote = wrote_told [] notes old new refl f ∙ ap Some s.wrote;
      gave = lines_told [] notes old new (subst AreTaken (sym s.gave) tt) refl f ∙ ap (λ (acts : List Act). Some (lines_in acts)) s.gave ∙ ap Some all_lines;
    })

-- parts with the sample's bytes to come, and with so much room, are given the answers and the line of the order
pub sample_written : (turns status : ℕ) (w : OutsideSeen) (notes : List Note) (new : PartsSeen) (pieces : List (List ℕ)) → IsNewStore w → joined pieces ≡ SAMPLE → length pieces + length SAMPLE < turns → w.parts ≡ sample_parts pieces → Served SAMPLE_ID turns w status notes → Follows notes w.parts new → WritesSample status new.written new.lines
sample_written turns status w notes new pieces fresh bytes enough is served follows =
    let from = sample_parts pieces in
    let f : Follows notes from new = subst (λ (p : PartsSeen). Follows notes p new) is follows in
    told_so status notes new pieces f
    (sample_served turns status w notes pieces fresh bytes enough served ROOM ROOM LEFT answers_long (omega (arith, ap length all_lines, line_long)) (lit≤ tt)
    (rooms_told notes from new ROOM ROOM LEFT refl (lit≤ tt) f) (looks_told SAMPLE_TIME notes from new refl f) (reads_told pieces notes from new refl f))

-- an empty file has the new end
empty_end : HasEnd [] new_end
empty_end = record { items = []; is = record { is = inl (λ made. omega (arith, made.0), refl); each = tt }; folds = refl }

-- an empty disk is a new store
pub new_store : (disk : DiskSeen) → disk.bytes ≡ Some [] → disk.room ≡ Some STORE_ROOM → (tape : Option (List Act)) (open_at : Option ℕ) (link : LinkSeen) (sink : SinkSeen) (readings : Option (List ℕ)) → IsNewStore (seen_of tape disk open_at link (line_seen sink) readings)
new_store disk file room tape open_at link sink readings = record {
  new = ([], file, empty_end);
  told = ap is_some file;
  whole = λ place b. not_broken [] new_end place empty_end (subst (λ (f : List ℕ). IsBrokenAt f place) (some_same b.0 [] (sym b.1 ∙ file)) b.2);
  roomy = λ none. no_less (subst (HasNoRoom 0) (left_there disk file room) none);
}
  where
    no_less : LEFT < 0 → ⊥
    no_less h = omega (arith, h)
