-- What the calls of an outside over a disk come to.
use Rattle.std.proofs.Common.{◌≡◌, ℕ, [], ◌∷◌, Option, Some, Result, Ok, Err, refl, subst, arith}
use Rattle.std.specs.Prelude.{IfOk, List}
use Rattle.fix_base.specs.declared.act.Act.{Act}
use Rattle.fix_base.specs.declared.act.Act.TheVariants as act
use Rattle.fix_base.specs.declared.entry.Entry.{Entry}
use Rattle.fix_base.specs.End.{End, IsEntry}
use Rattle.fix_base.specs.Payload.{HasPayload}
use Rattle.fix_base.specs.Trace.{grown, Trace}
use Rattle.fix_disk.specs.Disk.{DiskSeen}
use Rattle.fix_outside.specs.declared.handing.Said.TheVariants as said
use Rattle.fix_outside.specs.declared.handing.Handed.{Handed}
use Rattle.fix_parts.specs.Link.{LinkSeen}
use Rattle.fix_parts.specs.App.{AppSeen, AppTakes}
use Rattle.fix_store.specs.Store.{HoldsEnd}
use Rattle.fix_store.specs.Rooms.{room_left}
use Rattle.fix_outside.specs.declared.outside.FetchFault.{FetchFault}
use Rattle.fix_outside.specs.declared.outside.FetchFault.TheVariants as fetch
use Rattle.fix_outside.specs.declared.outside.Kind.{Kind}
use Rattle.fix_outside.specs.declared.outside.Kind.TheVariants as kind
use Rattle.fix_outside.specs.Outside.{hands, NamesApp, FetchAnswers}
use Rattle.fix_base.specs.declared.entry.Record.{Record}
use Rattle.fix_base.specs.declared.entry.Record.TheVariants.{Push, Expect, Many, Withhold, Reset, ResetAsk, Confirm}
use Rattle.fix_rim.specs.StoreSlot.{FetchRoom, IsKindOf, IsHeldAs, NamesAppOn}
use Rattle.fix_rim.specs.Rim.{parts_of, seen_of}

pub hand_failed : (told told' : Option (List Act)) (disk : DiskSeen) (open_at : Option ℕ) (link : LinkSeen) (readings : Option (List ℕ)) (old new : AppSeen) (h : Handed) → told' ≡ grown told (act.HandLost h.number h.marked h.body.now ∷ []) → AppTakes said.Failed h old new → Trace (seen_of told disk open_at link old readings) (seen_of told' disk open_at link new readings) (hands said.Failed h)
hand_failed told told' disk open_at link readings old new h tape t = record {
  tape = tape;
  stored = record { kept = λ e contents. (e, contents, (Some e, refl, refl)); only = λ e contents. (e, contents, (Some e, refl, refl)) };
  file = record { told = (λ t. t, λ t. t); breaks = λ place. (λ t. t, λ t. t) };
  faults = record { store = omega arith; link = omega arith; app = t.faults };
  parts = (parts_of disk link new readings, (t.room.0, t.lines, λ i. record { to_come = link.to_come; readings = readings; written = link.written; link_room = link.room; lines = new.lines; line_room = t.room.1 i; asked = t.asked i; to_ask = t.to_ask i; store_room = room_left disk }), (parts_of disk link new readings, refl, refl));
}

-- what is fetched is the entry of the end that is held
pub fetched : (answer : Result Kind FetchFault) (n : ℕ) (body : List ℕ) (told : Option (List Act)) (old new : DiskSeen) (open_at : Option ℕ) (link : LinkSeen) (app : AppSeen) (readings : Option (List ℕ))
    → IfOk answer (λ k. (entry : Entry) × IsKindOf k entry body × HasPayload entry × ((e : End) → HoldsEnd old e → IsEntry e.out n entry)) → IfOk answer (λ k. (e : End) → HoldsEnd old e → IsHeldAs k n e) → FetchRoom answer old new → FetchAnswers answer n body (seen_of told old open_at link app readings)
fetched (Ok (kind.App time)) n body told old new open_at link app readings gives held room =
    let by = gives.1.0 in
    record {
      payload = subst HasPayload gives.1.1 gives.2;
      told = λ e contents. (by, subst (IsEntry e.out n) gives.1.1 (gives.3 e contents));
      free = held;
    }
fetched (Ok kind.Admin) n body told old new open_at link app readings gives held room =
    let is = gives.1 in
    record {
      none = is.0;
      told = λ e contents. record { time = is.1; kind = is.2; about = is.3; entry = subst (IsEntry e.out n) is.4 (gives.3 e contents) };
    }
fetched (Ok kind.Withheld) n body told old new open_at link app readings gives held room =
    let is = gives.1 in
    record {
      none = is.0;
      app = λ e contents. (is.3, record { time = is.1; by = is.2; entry = subst (IsEntry e.out n) is.4 (gives.3 e contents) });
      withheld = held;
    }
fetched (Err fetch.Failed) n body told old new open_at link app readings gives held room = room
fetched (Err fetch.OutOfMemory) n body told old new open_at link app readings gives held room = tt

-- a number that is withheld is one of an application message on the disk
pub names_on : (told : Option (List Act)) (disk : DiskSeen) (open_at : Option ℕ) (link : LinkSeen) (app : AppSeen) (readings : Option (List ℕ)) (r : Record) → NamesApp r (seen_of told disk open_at link app readings) → NamesAppOn r disk
names_on told disk open_at link app readings (Push entry) names = tt
names_on told disk open_at link app readings (Expect number) names = tt
names_on told disk open_at link app readings (Many pushes number) names = tt
names_on told disk open_at link app readings (Withhold number) names = names
names_on told disk open_at link app readings (Reset time) names = tt
names_on told disk open_at link app readings (ResetAsk time) names = tt
names_on told disk open_at link app readings Confirm names = tt
