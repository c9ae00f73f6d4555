-- The rooms of a connection, an application and a store, one part of a run after another.
use Rattle.std.proofs.Common.{◌≡◌, ℕ, ◌-◌, ◌≤◌, List, [], ◌∷◌, ◌++◌, length, refl, sym, ap, subst, ◌∙◌, append_assoc, arith}
use Rattle.std.proofs.lemmas.List.{length-append}
use Rattle.fix_base.specs.declared.act.Act.{Act}
use Rattle.fix_base.specs.declared.act.Act.TheVariants as act
use Rattle.fix_base.specs.Line.{line_text}
use Rattle.fix_base.specs.Payload.{record_size}
use Rattle.fix_base.specs.Trace.{Note, Did, Failed, Asked, StorePart, LinkPart, AppPart, acts_of}
use Rattle.fix_engine.specs.InStep.{bytes_written}
use Rattle.fix_top.specs.Sample.{HasRooms, handed_in}

-- the lines of the messages that were handed over
abbrev pub lines_in : List Act → List ℕ
lines_in [] = []
lines_in (act.Handed n marked body ∷ acts) = line_text n marked body ++ lines_in acts
lines_in (act.HandLost n marked body ∷ acts) = lines_in acts
lines_in (act.Opened ∷ acts) = lines_in acts
lines_in (act.Now t ∷ acts) = lines_in acts
lines_in (act.Read b ∷ acts) = lines_in acts
lines_in (act.Idle ∷ acts) = lines_in acts
lines_in (act.Ended ∷ acts) = lines_in acts
lines_in (act.Wrote b ∷ acts) = lines_in acts
lines_in (act.Kept r ∷ acts) = lines_in acts
lines_in (act.KeepLost r ∷ acts) = lines_in acts
lines_in (act.Cut ∷ acts) = lines_in acts
lines_in (act.Withheld k ∷ acts) = lines_in acts
lines_in (act.Allowed k ∷ acts) = lines_in acts
lines_in (act.Stop ∷ acts) = lines_in acts

pub lines_in-append : (xs ys : List Act) → lines_in (xs ++ ys) ≡ lines_in xs ++ lines_in ys
lines_in-append [] ys = refl
lines_in-append (act.Handed n marked body ∷ xs) ys = ap (λ (w : List ℕ). line_text n marked body ++ w) (lines_in-append xs ys) ∙ sym (append_assoc (line_text n marked body) (lines_in xs) (lines_in ys))
lines_in-append (act.HandLost n marked body ∷ xs) ys = lines_in-append xs ys
lines_in-append (act.Wrote b ∷ xs) ys = lines_in-append xs ys
lines_in-append (act.Read b ∷ xs) ys = lines_in-append xs ys
lines_in-append (act.Idle ∷ xs) ys = lines_in-append xs ys
lines_in-append (act.Ended ∷ xs) ys = lines_in-append xs ys
lines_in-append (act.Opened ∷ xs) ys = lines_in-append xs ys
lines_in-append (act.Now t ∷ xs) ys = lines_in-append xs ys
lines_in-append (act.Kept r ∷ xs) ys = lines_in-append xs ys
lines_in-append (act.KeepLost r ∷ xs) ys = lines_in-append xs ys
lines_in-append (act.Cut ∷ xs) ys = lines_in-append xs ys
lines_in-append (act.Withheld k ∷ xs) ys = lines_in-append xs ys
lines_in-append (act.Allowed k ∷ xs) ys = lines_in-append xs ys
lines_in-append (act.Stop ∷ xs) ys = lines_in-append xs ys

-- ---- the room of the store

-- so much of it is left behind an act
abbrev pub left_behind : Act → ℕ → ℕ
left_behind (act.Kept r) store = store - record_size r
left_behind other store = store

-- and behind what came of some calls, where so much was at least there; where the store failed, nothing is said of it
abbrev pub store_left : ℕ → List Note → ℕ
store_left store [] = store
store_left store (Did a ∷ notes) = store_left (left_behind a store) notes
store_left store (Failed StorePart ∷ notes) = store_left 0 notes
store_left store (Failed (LinkPart unsent) ∷ notes) = store_left store notes
store_left store (Failed AppPart ∷ notes) = store_left store notes
store_left store (Asked d ∷ notes) = store_left store notes

store_left-append : (xs ys : List Note) (store : ℕ) → store_left store (xs ++ ys) ≡ store_left (store_left store xs) ys
store_left-append [] ys store = refl
store_left-append (Did a ∷ xs) ys store = store_left-append xs ys (left_behind a store)
store_left-append (Failed StorePart ∷ xs) ys store = store_left-append xs ys 0
store_left-append (Failed (LinkPart unsent) ∷ xs) ys store = store_left-append xs ys store
store_left-append (Failed AppPart ∷ xs) ys store = store_left-append xs ys store
store_left-append (Asked d ∷ xs) ys store = store_left-append xs ys store

-- a store that has this room has that behind these
abbrev pub Leaves : List Note → ℕ → ℕ → Type 0
Leaves notes before after = (store : ℕ) → before ≤ store → after ≤ store_left store notes

pub leaves_then : (xs ys : List Note) (a b c : ℕ) → Leaves xs a b → Leaves ys b c → Leaves (xs ++ ys) a c
leaves_then xs ys a b c u v store room = subst (λ n. c ≤ n) (sym (store_left-append xs ys store)) (v (store_left store xs) (u store room))

-- ---- all of them

-- the rooms of a front
pub rooms_first : (xs ys : List Note) (link app store : ℕ) → HasRooms link app store (xs ++ ys) → HasRooms link app store xs
rooms_first [] ys link app store h = tt
rooms_first (Did (act.Wrote b) ∷ xs) ys link app store h = rooms_first xs ys (link - length b) app store h
rooms_first (Did (act.Handed n marked body) ∷ xs) ys link app store h = rooms_first xs ys link (app - length (line_text n marked body)) store h
rooms_first (Did (act.HandLost n marked body) ∷ xs) ys link app store h = (h.0, rooms_first xs ys link app store h.1)
rooms_first (Did (act.KeepLost r) ∷ xs) ys link app store h = (h.0, rooms_first xs ys link app store h.1)
rooms_first (Did (act.Kept r) ∷ xs) ys link app store h = rooms_first xs ys link app (store - record_size r) h
rooms_first (Did (act.Now t) ∷ xs) ys link app store h = rooms_first xs ys link app store h
rooms_first (Did (act.Read b) ∷ xs) ys link app store h = rooms_first xs ys link app store h
rooms_first (Did act.Opened ∷ xs) ys link app store h = rooms_first xs ys link app store h
rooms_first (Did act.Idle ∷ xs) ys link app store h = rooms_first xs ys link app store h
rooms_first (Did act.Ended ∷ xs) ys link app store h = rooms_first xs ys link app store h
rooms_first (Did act.Cut ∷ xs) ys link app store h = rooms_first xs ys link app store h
rooms_first (Did (act.Withheld k) ∷ xs) ys link app store h = rooms_first xs ys link app store h
rooms_first (Did (act.Allowed k) ∷ xs) ys link app store h = rooms_first xs ys link app store h
rooms_first (Did act.Stop ∷ xs) ys link app store h = rooms_first xs ys link app store h
rooms_first (Failed (LinkPart unsent) ∷ xs) ys link app store h = (h.0, rooms_first xs ys link app store h.1)
rooms_first (Failed StorePart ∷ xs) ys link app store h = rooms_first xs ys link app 0 h
rooms_first (Failed AppPart ∷ xs) ys link app store h = rooms_first xs ys link app store h
rooms_first (Asked d ∷ xs) ys link app store h = (h.0, rooms_first xs ys link app store h.1)

-- the room that is left by a text, and by what follows it
left_by : (room : ℕ) (text more : List ℕ) → (room - length text) - length more ≡ room - length (text ++ more)
left_by room text more = omega (arith, length-append text more)

-- the rooms that a front leaves to what follows it
pub rooms_then : (xs ys : List Note) (link app store : ℕ) → HasRooms link app store (xs ++ ys) → HasRooms (link - length (bytes_written (acts_of xs))) (app - length (lines_in (handed_in (acts_of xs)))) (store_left store xs) ys
rooms_then [] ys link app store h = subst (λ l. HasRooms l (app - 0) store ys) (same link) (subst (λ a. HasRooms link a store ys) (same app) h)
  where
    same : (n : ℕ) → n ≡ n - 0
    same n = omega arith
rooms_then (Did (act.Wrote b) ∷ xs) ys link app store h =
    subst (λ l. HasRooms l (app - length (lines_in (handed_in (acts_of xs)))) (store_left store xs) ys) (left_by link b (bytes_written (acts_of xs))) (rooms_then xs ys (link - length b) app store h)
rooms_then (Did (act.Handed n marked body) ∷ xs) ys link app store h =
    subst (λ a. HasRooms (link - length (bytes_written (acts_of xs))) a (store_left store xs) ys) (left_by app (line_text n marked body) (lines_in (handed_in (acts_of xs)))) (rooms_then xs ys link (app - length (line_text n marked body)) store h)
rooms_then (Did (act.HandLost n marked body) ∷ xs) ys link app store h = rooms_then xs ys link app store h.1
rooms_then (Did (act.KeepLost r) ∷ xs) ys link app store h = rooms_then xs ys link app store h.1
rooms_then (Did (act.Kept r) ∷ xs) ys link app store h = rooms_then xs ys link app (store - record_size r) h
rooms_then (Did (act.Now t) ∷ xs) ys link app store h = rooms_then xs ys link app store h
rooms_then (Did (act.Read b) ∷ xs) ys link app store h = rooms_then xs ys link app store h
rooms_then (Did act.Opened ∷ xs) ys link app store h = rooms_then xs ys link app store h
rooms_then (Did act.Idle ∷ xs) ys link app store h = rooms_then xs ys link app store h
rooms_then (Did act.Ended ∷ xs) ys link app store h = rooms_then xs ys link app store h
rooms_then (Did act.Cut ∷ xs) ys link app store h = rooms_then xs ys link app store h
rooms_then (Did (act.Withheld k) ∷ xs) ys link app store h = rooms_then xs ys link app store h
rooms_then (Did (act.Allowed k) ∷ xs) ys link app store h = rooms_then xs ys link app store h
rooms_then (Did act.Stop ∷ xs) ys link app store h = rooms_then xs ys link app store h
rooms_then (Failed (LinkPart unsent) ∷ xs) ys link app store h = rooms_then xs ys link app store h.1
rooms_then (Failed StorePart ∷ xs) ys link app store h = rooms_then xs ys link app 0 h
rooms_then (Failed AppPart ∷ xs) ys link app store h = rooms_then xs ys link app store h
rooms_then (Asked d ∷ xs) ys link app store h = rooms_then xs ys link app store h.1
