-- What the parts tell of the notes of a run: that there was room, the time, the pieces, and what came of them.
use Rattle.std.proofs.Common.{◌≡◌, ℕ, ◌-◌, ◌<◌, ◌≤◌, List, [], ◌∷◌, ◌++◌, length, Option, Some, None, refl, sym, ap, subst, ◌∙◌, append_assoc, arith}
use Rattle.std.specs.Prelude.{⊤}
use Rattle.std.proofs.lemmas.List.{append-nil}
use Rattle.fix_base.specs.declared.act.Act.{Act}
use Rattle.fix_base.specs.declared.act.Act.TheVariants as act
use Rattle.fix_base.specs.Line.{line_text}
use Rattle.fix_base.specs.declared.entry.Record.{Record}
use Rattle.fix_base.specs.declared.entry.Record.TheVariants.{Push, Expect, Many, Withhold, Reset, ResetAsk, Confirm}
use Rattle.fix_base.specs.declared.entry.Entry.TheVariants.{App, Admin}
use Rattle.fix_base.specs.Payload.{record_size}
use Rattle.fix_base.specs.Parts.{PartsSeen, extended, less, HasNoRoom, TakesRoom, KeepsRoom, Answers, ClockReads, GivesBytes, GivesIdle, GivesEnd, later_readings, left_before}
use Rattle.fix_base.specs.Trace.{Note, Did, Failed, Asked, StorePart, LinkPart, AppPart, acts_of, Follows}
use Rattle.fix_engine.specs.InStep.{bytes_written}
use Rattle.fix_top.specs.Sample.{LooksAt, ReadsPieces, HasRooms, handed_in}
use Rattle.fix_top.proofs.SampleRooms.{lines_in}

-- ---- the rooms

abbrev Rooms : Type 0
Rooms = Option ℕ × Option ℕ × Option (List (Option (List ℕ)))

-- the rooms of the connection and of the application that are told, and what the application has yet to give
abbrev pub told_rooms : PartsSeen → Rooms
told_rooms p = (p.link_room, p.line_room, p.to_ask)

abbrev store_in : PartsSeen → Option ℕ
store_in p = p.store_room

no_room : (n : ℕ) (room : Option ℕ) (told : ℕ) → room ≡ Some told → HasNoRoom n room → told < n
no_room n room told e h = subst (HasNoRoom n) e h

-- a store tells at least so much room; of one that tells none nothing is said
abbrev pub HasAtLeast : ℕ → Option ℕ → Type 0
HasAtLeast store None = store ≡ 0
HasAtLeast store (Some room) = store ≤ room

at_least_0 : (room : Option ℕ) → HasAtLeast 0 room
at_least_0 None = refl
at_least_0 (Some room) = omega arith

at_least_kept : (r : Record) (store : ℕ) (old new : Option ℕ) → HasAtLeast store old → TakesRoom r old new → HasAtLeast (store - record_size r) new
at_least_kept r store None new h takes = subst (HasAtLeast (store - record_size r)) (sym takes) (omega (arith, h))
at_least_kept r store (Some room) new h takes = subst (HasAtLeast (store - record_size r)) (sym takes.1) (omega (arith, h, takes.2))

at_least_still : (store : ℕ) (old new : Option ℕ) → HasAtLeast store old → KeepsRoom old new → HasAtLeast store new
at_least_still store None new h keeps = subst (λ n. HasAtLeast n new) (sym h) (at_least_0 new)
at_least_still store (Some room) new h keeps = subst (HasAtLeast store) (sym keeps.1) (omega (arith, h, keeps.2))

some_size : (r : Record) → 0 < record_size r
some_size (Push (App time by body)) = omega arith
some_size (Push (Admin time kind about)) = omega arith
some_size (Expect number) = omega arith
some_size (Many pushes number) = omega arith
some_size (Withhold number) = omega arith
some_size (Reset time) = omega arith
some_size (ResetAsk time) = omega arith
some_size Confirm = omega arith

-- a record was lost only where it didn't fit
unfit : (r : Record) (store : ℕ) (room : Option ℕ) → HasAtLeast store room → HasNoRoom (record_size r) room → store < record_size r
unfit r store None h none = omega (arith, h, some_size r)
unfit r store (Some room) h none = omega (arith, h, none)

-- an application with nothing to give gives no draft, and has nothing to give then
nothing_given : (d : Option (List ℕ)) (old new : Option (List (Option (List ℕ)))) → old ≡ Some [] → Answers d old new → (d ≡ None) × (new ≡ Some [])
nothing_given d old new e h = subst (λ (o : Option (List (Option (List ℕ)))). Answers d o new) e h

stays : (store : ℕ) (old mid : PartsSeen) → store_in mid ≡ store_in old → HasAtLeast store old.store_room → HasAtLeast store mid.store_room
stays store old mid e k = subst (HasAtLeast store) (sym e) k

pub rooms_told : (notes : List Note) (old new : PartsSeen) (link app store : ℕ) → told_rooms old ≡ (Some link, Some app, Some []) → HasAtLeast store old.store_room → Follows notes old new → HasRooms link app store notes
rooms_told [] old new link app store h k f = tt
rooms_told (Did (act.Wrote b) ∷ notes) old new link app store h k f =
    rooms_told notes f.0 new (link - length b) app store (ap told_rooms f.1 ∙ ap (λ (x : Rooms). (less (length b) x.0, x.1, x.2)) h) (stays store old f.0 (ap store_in f.1) k) f.2
rooms_told (Did (act.Handed n marked body) ∷ notes) old new link app store h k f =
    let line = line_text n marked body in
    rooms_told notes f.0 new link (app - length line) store (ap told_rooms f.1 ∙ ap (λ (x : Rooms). (x.0, less (length line) x.1, x.2)) h) (stays store old f.0 (ap store_in f.1) k) f.2
rooms_told (Did (act.HandLost n marked body) ∷ notes) old new link app store h k f =
    (no_room (length (line_text n marked body)) old.line_room app (ap (λ (x : Rooms). x.1) h) f.1.0, rooms_told notes f.0 new link app store (ap told_rooms f.1.2 ∙ h) (stays store old f.0 (ap store_in f.1.2) k) f.2)
rooms_told (Did (act.KeepLost r) ∷ notes) old new link app store h k f =
    (unfit r store old.store_room k f.1.0, rooms_told notes f.0 new link app store (ap told_rooms f.1.1 ∙ h) (stays store old f.0 (ap store_in f.1.1) k) f.2)
rooms_told (Did (act.Kept r) ∷ notes) old new link app store h k f =
    rooms_told notes f.0 new link app (store - record_size r) (ap told_rooms f.1.1 ∙ h) (at_least_kept r store old.store_room f.0.store_room k f.1.0) f.2
rooms_told (Did (act.Now t) ∷ notes) old new link app store h k f = rooms_told notes f.0 new link app store (ap told_rooms f.1.1 ∙ h) (stays store old f.0 (ap store_in f.1.1) k) f.2
rooms_told (Did (act.Read b) ∷ notes) old new link app store h k f = rooms_told notes f.0 new link app store (ap told_rooms f.1.1 ∙ h) (stays store old f.0 (ap store_in f.1.1) k) f.2
rooms_told (Did act.Idle ∷ notes) old new link app store h k f = rooms_told notes f.0 new link app store (ap told_rooms f.1.1 ∙ h) (stays store old f.0 (ap store_in f.1.1) k) f.2
rooms_told (Did act.Ended ∷ notes) old new link app store h k f = rooms_told notes f.0 new link app store (ap told_rooms f.1.1 ∙ h) (stays store old f.0 (ap store_in f.1.1) k) f.2
rooms_told (Did act.Opened ∷ notes) old new link app store h k f = rooms_told notes f.0 new link app store (ap told_rooms f.1 ∙ h) (stays store old f.0 (ap store_in f.1) k) f.2
rooms_told (Did act.Cut ∷ notes) old new link app store h k f = rooms_told notes f.0 new link app store (ap told_rooms f.1 ∙ h) (stays store old f.0 (ap store_in f.1) k) f.2
rooms_told (Did (act.Withheld n) ∷ notes) old new link app store h k f = rooms_told notes f.0 new link app store (ap told_rooms f.1 ∙ h) (stays store old f.0 (ap store_in f.1) k) f.2
rooms_told (Did (act.Allowed n) ∷ notes) old new link app store h k f = rooms_told notes f.0 new link app store (ap told_rooms f.1 ∙ h) (stays store old f.0 (ap store_in f.1) k) f.2
rooms_told (Failed AppPart ∷ notes) old new link app store h k f = rooms_told notes f.0 new link app store (ap told_rooms f.1 ∙ h) (stays store old f.0 (ap store_in f.1) k) f.2
rooms_told (Did act.Stop ∷ notes) old new link app store h k f = rooms_told notes f.0 new link app store (ap told_rooms f.1.1 ∙ h) (at_least_still store old.store_room f.0.store_room k f.1.0) f.2
rooms_told (Failed (LinkPart unsent) ∷ notes) old new link app store h k f =
    (no_room unsent old.link_room link (ap (λ (x : Rooms). x.0) h) f.1.0, rooms_told notes f.0 new link app store (ap told_rooms f.1.1 ∙ h) (stays store old f.0 (ap store_in f.1.1) k) f.2)
rooms_told (Failed StorePart ∷ notes) old new link app store h k f = rooms_told notes f.0 new link app 0 (ap told_rooms f.1 ∙ h) (at_least_0 f.0.store_room) f.2
rooms_told (Asked d ∷ notes) old new link app store h k f =
    let given = nothing_given d old.to_ask f.0.to_ask (ap (λ (x : Rooms). x.2) h) f.1.0 in
    let rooms = ap told_rooms f.1.1 ∙ ap (λ (o : Option (List (Option (List ℕ)))). (old.link_room, old.line_room, o)) given.1 ∙ ap (λ (x : Rooms). (x.0, x.1, Some [])) h in
    (given.0, rooms_told notes f.0 new link app store rooms (stays store old f.0 (ap store_in f.1.1) k) f.2)

-- ---- the time

abbrev readings_in : PartsSeen → Option (List ℕ)
readings_in p = p.readings

-- the last reading is given, and given again
reads_last : (t u : ℕ) (later : List ℕ) → t ∷ [] ≡ u ∷ later → (u ≡ t) × (later ≡ [])
reads_last t u later e = (cc, cc)

last_again : (t u : ℕ) (old new : Option (List ℕ)) → old ≡ Some (t ∷ []) → ClockReads u old new → (u ≡ t) × (new ≡ Some (t ∷ []))
last_again t u old new e h =
    let g = subst (λ (o : Option (List ℕ)). ClockReads u o new) e h in
    let is = reads_last t u g.0 g.1 in
    (is.0, g.2 ∙ ap (λ (w : List ℕ). Some (later_readings u w)) is.1 ∙ ap (λ n. Some (n ∷ [])) is.0)

pub looks_told : (t : ℕ) (notes : List Note) (old new : PartsSeen) → old.readings ≡ Some (t ∷ []) → Follows notes old new → LooksAt t (acts_of notes)
looks_told t [] old new h f = tt
looks_told t (Did (act.Wrote b) ∷ notes) old new h f = looks_told t notes f.0 new (ap readings_in f.1 ∙ h) f.2
looks_told t (Did (act.Handed n marked body) ∷ notes) old new h f = looks_told t notes f.0 new (ap readings_in f.1 ∙ h) f.2
looks_told t (Did (act.HandLost n marked body) ∷ notes) old new h f = looks_told t notes f.0 new (ap readings_in f.1.2 ∙ h) f.2
looks_told t (Did (act.KeepLost r) ∷ notes) old new h f = looks_told t notes f.0 new (ap readings_in f.1.1 ∙ h) f.2
looks_told t (Did (act.Kept r) ∷ notes) old new h f = looks_told t notes f.0 new (ap readings_in f.1.1 ∙ h) f.2
looks_told t (Did (act.Now u) ∷ notes) old new h f =
    let is = last_again t u old.readings f.0.readings h f.1.0 in
    (is.0, looks_told t notes f.0 new is.1 f.2)
looks_told t (Did (act.Read b) ∷ notes) old new h f = looks_told t notes f.0 new (ap readings_in f.1.1 ∙ h) f.2
looks_told t (Did act.Opened ∷ notes) old new h f = looks_told t notes f.0 new (ap readings_in f.1 ∙ h) f.2
looks_told t (Did act.Idle ∷ notes) old new h f = looks_told t notes f.0 new (ap readings_in f.1.1 ∙ h) f.2
looks_told t (Did act.Ended ∷ notes) old new h f = looks_told t notes f.0 new (ap readings_in f.1.1 ∙ h) f.2
looks_told t (Did act.Cut ∷ notes) old new h f = looks_told t notes f.0 new (ap readings_in f.1 ∙ h) f.2
looks_told t (Did (act.Withheld k) ∷ notes) old new h f = looks_told t notes f.0 new (ap readings_in f.1 ∙ h) f.2
looks_told t (Did (act.Allowed k) ∷ notes) old new h f = looks_told t notes f.0 new (ap readings_in f.1 ∙ h) f.2
looks_told t (Did act.Stop ∷ notes) old new h f = looks_told t notes f.0 new (ap readings_in f.1.1 ∙ h) f.2
looks_told t (Failed (LinkPart unsent) ∷ notes) old new h f = looks_told t notes f.0 new (ap readings_in f.1.1 ∙ h) f.2
looks_told t (Failed StorePart ∷ notes) old new h f = looks_told t notes f.0 new (ap readings_in f.1 ∙ h) f.2
looks_told t (Failed AppPart ∷ notes) old new h f = looks_told t notes f.0 new (ap readings_in f.1 ∙ h) f.2
looks_told t (Asked d ∷ notes) old new h f = looks_told t notes f.0 new (ap readings_in f.1.1 ∙ h) f.2

-- ---- the pieces

abbrev come_in : PartsSeen → Option (List (List ℕ))
come_in p = p.to_come

pub reads_told : (pieces : List (List ℕ)) (notes : List Note) (old new : PartsSeen) → old.to_come ≡ Some pieces → Follows notes old new → ReadsPieces pieces (acts_of notes)
reads_told pieces [] old new h f = tt
reads_told pieces (Did (act.Wrote b) ∷ notes) old new h f = reads_told pieces notes f.0 new (ap come_in f.1 ∙ h) f.2
reads_told pieces (Did (act.Handed n marked body) ∷ notes) old new h f = reads_told pieces notes f.0 new (ap come_in f.1 ∙ h) f.2
reads_told pieces (Did (act.HandLost n marked body) ∷ notes) old new h f = reads_told pieces notes f.0 new (ap come_in f.1.2 ∙ h) f.2
reads_told pieces (Did (act.KeepLost r) ∷ notes) old new h f = reads_told pieces notes f.0 new (ap come_in f.1.1 ∙ h) f.2
reads_told pieces (Did (act.Kept r) ∷ notes) old new h f = reads_told pieces notes f.0 new (ap come_in f.1.1 ∙ h) f.2
reads_told pieces (Did (act.Now t) ∷ notes) old new h f = reads_told pieces notes f.0 new (ap come_in f.1.1 ∙ h) f.2
reads_told pieces (Did (act.Read b) ∷ notes) old new h f =
    let g = subst (λ (o : Option (List (List ℕ))). GivesBytes b o f.0.to_come) h f.1.0 in
    (g.2.rest, g.2.later, g.2.first, reads_told (left_before g.2.rest g.2.later) notes f.0 new (g.1 ∙ ap Some g.2.left) f.2)
reads_told pieces (Did act.Opened ∷ notes) old new h f = reads_told pieces notes f.0 new (ap come_in f.1 ∙ h) f.2
reads_told pieces (Did act.Idle ∷ notes) old new h f =
    let g = subst (λ (o : Option (List (List ℕ))). GivesIdle o f.0.to_come) h f.1.0 in
    (g.0, g.2, reads_told g.0 notes f.0 new g.1 f.2)
reads_told pieces (Did act.Ended ∷ notes) old new h f =
    let g = subst (λ (o : Option (List (List ℕ))). GivesEnd o f.0.to_come) h f.1.0 in
    (g.0, reads_told pieces notes f.0 new (g.1 ∙ ap Some (sym g.0)) f.2)
reads_told pieces (Did act.Cut ∷ notes) old new h f = reads_told pieces notes f.0 new (ap come_in f.1 ∙ h) f.2
reads_told pieces (Did (act.Withheld k) ∷ notes) old new h f = reads_told pieces notes f.0 new (ap come_in f.1 ∙ h) f.2
reads_told pieces (Did (act.Allowed k) ∷ notes) old new h f = reads_told pieces notes f.0 new (ap come_in f.1 ∙ h) f.2
reads_told pieces (Did act.Stop ∷ notes) old new h f = reads_told pieces notes f.0 new (ap come_in f.1.1 ∙ h) f.2
reads_told pieces (Failed (LinkPart unsent) ∷ notes) old new h f = reads_told pieces notes f.0 new (ap come_in f.1.1 ∙ h) f.2
reads_told pieces (Failed StorePart ∷ notes) old new h f = reads_told pieces notes f.0 new (ap come_in f.1 ∙ h) f.2
reads_told pieces (Failed AppPart ∷ notes) old new h f = reads_told pieces notes f.0 new (ap come_in f.1 ∙ h) f.2
reads_told pieces (Asked d ∷ notes) old new h f = reads_told pieces notes f.0 new (ap come_in f.1.1 ∙ h) f.2

-- ---- what was written

abbrev written_in : PartsSeen → Option (List ℕ)
written_in p = p.written

pub wrote_told : (w : List ℕ) (notes : List Note) (old new : PartsSeen) → old.written ≡ Some w → Follows notes old new → new.written ≡ Some (w ++ bytes_written (acts_of notes))
wrote_told w [] old new h f = ap written_in f ∙ h ∙ ap Some (sym (append-nil w))
wrote_told w (Did (act.Wrote b) ∷ notes) old new h f =
    wrote_told (w ++ b) notes f.0 new (ap written_in f.1 ∙ ap (λ (o : Option (List ℕ)). extended o b) h) f.2 ∙ ap Some (append_assoc w b (bytes_written (acts_of notes)))
wrote_told w (Did (act.Handed n marked body) ∷ notes) old new h f = wrote_told w notes f.0 new (ap written_in f.1 ∙ h) f.2
wrote_told w (Did (act.HandLost n marked body) ∷ notes) old new h f = wrote_told w notes f.0 new (ap written_in f.1.2 ∙ h) f.2
wrote_told w (Did (act.KeepLost r) ∷ notes) old new h f = wrote_told w notes f.0 new (ap written_in f.1.1 ∙ h) f.2
wrote_told w (Did (act.Kept r) ∷ notes) old new h f = wrote_told w notes f.0 new (ap written_in f.1.1 ∙ h) f.2
wrote_told w (Did (act.Now t) ∷ notes) old new h f = wrote_told w notes f.0 new (ap written_in f.1.1 ∙ h) f.2
wrote_told w (Did (act.Read b) ∷ notes) old new h f = wrote_told w notes f.0 new (ap written_in f.1.1 ∙ h) f.2
wrote_told w (Did act.Opened ∷ notes) old new h f = wrote_told w notes f.0 new (ap written_in f.1 ∙ h) f.2
wrote_told w (Did act.Idle ∷ notes) old new h f = wrote_told w notes f.0 new (ap written_in f.1.1 ∙ h) f.2
wrote_told w (Did act.Ended ∷ notes) old new h f = wrote_told w notes f.0 new (ap written_in f.1.1 ∙ h) f.2
wrote_told w (Did act.Cut ∷ notes) old new h f = wrote_told w notes f.0 new (ap written_in f.1 ∙ h) f.2
wrote_told w (Did (act.Withheld k) ∷ notes) old new h f = wrote_told w notes f.0 new (ap written_in f.1 ∙ h) f.2
wrote_told w (Did (act.Allowed k) ∷ notes) old new h f = wrote_told w notes f.0 new (ap written_in f.1 ∙ h) f.2
wrote_told w (Did act.Stop ∷ notes) old new h f = wrote_told w notes f.0 new (ap written_in f.1.1 ∙ h) f.2
wrote_told w (Failed (LinkPart unsent) ∷ notes) old new h f = wrote_told w notes f.0 new (ap written_in f.1.1 ∙ h) f.2
wrote_told w (Failed StorePart ∷ notes) old new h f = wrote_told w notes f.0 new (ap written_in f.1 ∙ h) f.2
wrote_told w (Failed AppPart ∷ notes) old new h f = wrote_told w notes f.0 new (ap written_in f.1 ∙ h) f.2
wrote_told w (Asked d ∷ notes) old new h f = wrote_told w notes f.0 new (ap written_in f.1.1 ∙ h) f.2

-- ---- the lines

abbrev lines_of : PartsSeen → Option (List ℕ)
lines_of p = p.lines

-- none was lost
abbrev pub AreTaken : List Act → Type 0
AreTaken [] = ⊤
AreTaken (act.Handed n marked body ∷ acts) = AreTaken acts
AreTaken (other ∷ acts) = ⊥

pub lines_told : (w : List ℕ) (notes : List Note) (old new : PartsSeen) → AreTaken (handed_in (acts_of notes)) → old.lines ≡ Some w → Follows notes old new → new.lines ≡ Some (w ++ lines_in (handed_in (acts_of notes)))
lines_told w [] old new t h f = ap lines_of f ∙ h ∙ ap Some (sym (append-nil w))
lines_told w (Did (act.Wrote b) ∷ notes) old new t h f = lines_told w notes f.0 new t (ap lines_of f.1 ∙ h) f.2
lines_told w (Did (act.Handed n marked body) ∷ notes) old new t h f =
    let line = line_text n marked body in
    lines_told (w ++ line) notes f.0 new t (ap lines_of f.1 ∙ ap (λ (o : Option (List ℕ)). extended o line) h) f.2 ∙ ap Some (append_assoc w line (lines_in (handed_in (acts_of notes))))
lines_told w (Did (act.HandLost n marked body) ∷ notes) old new t h f = absurd t
lines_told w (Did (act.KeepLost r) ∷ notes) old new t h f = lines_told w notes f.0 new t (ap lines_of f.1.1 ∙ h) f.2
lines_told w (Did (act.Kept r) ∷ notes) old new t h f = lines_told w notes f.0 new t (ap lines_of f.1.1 ∙ h) f.2
lines_told w (Did (act.Now u) ∷ notes) old new t h f = lines_told w notes f.0 new t (ap lines_of f.1.1 ∙ h) f.2
lines_told w (Did (act.Read b) ∷ notes) old new t h f = lines_told w notes f.0 new t (ap lines_of f.1.1 ∙ h) f.2
lines_told w (Did act.Opened ∷ notes) old new t h f = lines_told w notes f.0 new t (ap lines_of f.1 ∙ h) f.2
lines_told w (Did act.Idle ∷ notes) old new t h f = lines_told w notes f.0 new t (ap lines_of f.1.1 ∙ h) f.2
lines_told w (Did act.Ended ∷ notes) old new t h f = lines_told w notes f.0 new t (ap lines_of f.1.1 ∙ h) f.2
lines_told w (Did act.Cut ∷ notes) old new t h f = lines_told w notes f.0 new t (ap lines_of f.1 ∙ h) f.2
lines_told w (Did (act.Withheld k) ∷ notes) old new t h f = lines_told w notes f.0 new t (ap lines_of f.1 ∙ h) f.2
lines_told w (Did (act.Allowed k) ∷ notes) old new t h f = lines_told w notes f.0 new t (ap lines_of f.1 ∙ h) f.2
lines_told w (Did act.Stop ∷ notes) old new t h f = lines_told w notes f.0 new t (ap lines_of f.1.1 ∙ h) f.2
lines_told w (Failed (LinkPart unsent) ∷ notes) old new t h f = lines_told w notes f.0 new t (ap lines_of f.1.1 ∙ h) f.2
lines_told w (Failed StorePart ∷ notes) old new t h f = lines_told w notes f.0 new t (ap lines_of f.1 ∙ h) f.2
lines_told w (Failed AppPart ∷ notes) old new t h f = lines_told w notes f.0 new t (ap lines_of f.1 ∙ h) f.2
lines_told w (Asked d ∷ notes) old new t h f = lines_told w notes f.0 new t (ap lines_of f.1.1 ∙ h) f.2
