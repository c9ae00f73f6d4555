-- What the steps of an answer come to, one after another, where the parts have room.
use Rattle.std.proofs.Common.{◌≡◌, ◌⊎◌, inl, inr, ℕ, ◌+◌, ◌-◌, ◌<◌, ◌≤◌, Bool, List, [], ◌∷◌, ◌++◌, length, take, Result, Ok, Err, refl, sym, ap, subst, arith}
use Rattle.std.specs.Prelude.{⊤, Option}
use Rattle.std.proofs.lemmas.List.{length-take}
use Rattle.fix_base.specs.declared.act.Act.TheVariants as act
use Rattle.fix_base.specs.declared.entry.Record.TheVariants.{Push}
use Rattle.fix_base.specs.Fields.{Field}
use Rattle.fix_base.specs.Line.{line_text}
use Rattle.fix_base.specs.Says.{HasFields, body_of}
use Rattle.fix_base.specs.Trace.{Note, Did}
use Rattle.fix_engine.specs.declared.state.State.{State}
use Rattle.fix_engine.specs.declared.state.Phase.TheVariants.{Down, Up}
use Rattle.fix_engine.specs.declared.state.Say.{Say}
use Rattle.fix_engine.specs.declared.state.Step.{Step}
use Rattle.fix_engine.specs.declared.state.Step.TheVariants as step
use Rattle.fix_engine.specs.declared.state.Why.{Why}
use Rattle.fix_engine.specs.declared.state.Ending.{Ending}
use Rattle.fix_engine.specs.declared.state.Ending.TheVariants as ending
use Rattle.fix_engine.specs.State.{with_phase, with_expected, with_last}
use Rattle.fix_engine.specs.Fold as fold
use Rattle.fix_engine.specs.Fold.{Each}
use Rattle.fix_engine.specs.Answer as answer
use Rattle.fix_engine.specs.Answer.{IsSaid, entry_of, Performed}
use Rattle.fix_top.specs.Sample.{SAMPLE_ID, HasRooms}

abbrev pub Carries : List ℕ → State → List Step → List Note → Result ⊤ Ending → State → Type 0
Carries frame = Each (Performed SAMPLE_ID frame)

-- nothing came of it, and this is the state behind it
pub record IsQuiet (frame : List ℕ) (s to : State) (x : Step) : Type 0 where
  pub each : (notes : List Note) (r : Result ⊤ Ending) (s' : State) → Performed SAMPLE_ID frame s x notes r s' → (notes ≡ []) × (r ≡ Ok tt) × (s' ≡ to)

nothing_is : (frame : List ℕ) (s : State) (notes : List Note) (r : Result ⊤ Ending) (s' : State) → Performed SAMPLE_ID frame s step.Nothing notes r s' → (notes ≡ []) × (r ≡ Ok tt) × (s' ≡ s)
nothing_is frame s notes r s' answer.nothing = (refl, refl, refl)

count_is : (frame : List ℕ) (s : State) (n : ℕ) (notes : List Note) (r : Result ⊤ Ending) (s' : State) → Performed SAMPLE_ID frame s (step.Count n) notes r s' → (notes ≡ []) × (r ≡ Ok tt) × (s' ≡ with_expected s (n + 1))
count_is frame s n notes r s' (answer.count m) = (refl, refl, refl)

up_is : (frame : List ℕ) (s : State) (notes : List Note) (r : Result ⊤ Ending) (s' : State) → Performed SAMPLE_ID frame s step.GoUp notes r s' → (notes ≡ []) × (r ≡ Ok tt) × (s' ≡ with_phase s Up)
up_is frame s notes r s' answer.go_up = (refl, refl, refl)

pub nothing_quiet : (frame : List ℕ) (s : State) → IsQuiet frame s s step.Nothing
nothing_quiet frame s = record { each = nothing_is frame s }

pub count_quiet : (frame : List ℕ) (s : State) (n : ℕ) → IsQuiet frame s (with_expected s (n + 1)) (step.Count n)
count_quiet frame s n = record { each = count_is frame s n }

pub up_quiet : (frame : List ℕ) (s : State) → IsQuiet frame s (with_phase s Up) step.GoUp
up_quiet frame s = record { each = up_is frame s }

abbrev ended : Ending → Result ⊤ Ending
ended e = Err e

err_not_ok : (e : Ending) → ended e ≡ Ok tt → ⊥
err_not_ok e same = cc

pub after_quiet : (frame : List ℕ) (s to : State) (x : Step) (xs : List Step) (notes : List Note) (r : Result ⊤ Ending) (s' : State) → IsQuiet frame s to x → Carries frame s (x ∷ xs) notes r s' → Carries frame to xs notes r s'
after_quiet frame s to x xs notes r s' q (fold.ends {e = e} d) = absurd (err_not_ok e (q.each notes (Err e) s' d).1)
after_quiet frame s to x xs notes r s' q (fold.goes {mid = mid} {first = first} {more = more} d k) =
    let is = q.each first (Ok tt) mid d in
    subst (λ (w : List Note). Carries frame to xs (w ++ more) r s') (sym is.0) (subst (λ (m : State). Carries frame m xs more r s') is.2 k)

pub after_all : (frame : List ℕ) (s : State) (notes : List Note) (r : Result ⊤ Ending) (s' : State) → Carries frame s [] notes r s' → (notes ≡ []) × (r ≡ Ok tt) × (s' ≡ s)
after_all frame s notes r s' fold.none = (refl, refl, refl)

-- the first step came to this, and the others follow
pub record Follows (frame : List ℕ) (Q : List Note → State → Type 0) (xs : List Step) (notes : List Note) (r : Result ⊤ Ending) (s' : State) : Type 0 where
  pub first : List Note
  pub more : List Note
  pub mid : State
  pub is : notes ≡ first ++ more
  pub did : Q first mid
  pub others : Carries frame mid xs more r s'

-- a step that only want of memory ends comes to Q, where there is so much room
pub record IsDone (link app store : ℕ) (frame : List ℕ) (s : State) (x : Step) (Q : List Note → State → Type 0) : Type 0 where
  pub fails : (notes : List Note) (e : Ending) (s' : State) → HasRooms link app store notes → Performed SAMPLE_ID frame s x notes (Err e) s' → e ≡ ending.OutOfMemory
  pub goes : (notes : List Note) (s' : State) → Performed SAMPLE_ID frame s x notes (Ok tt) s' → Q notes s'

pub after_done : (link app store : ℕ) (frame : List ℕ) (s : State) (x : Step) (Q : List Note → State → Type 0) (xs : List Step) (notes : List Note) (r : Result ⊤ Ending) (s' : State) → IsDone link app store frame s x Q → HasRooms link app store notes → Carries frame s (x ∷ xs) notes r s' → (r ≡ Err ending.OutOfMemory) ⊎ Follows frame Q xs notes r s'
after_done link app store frame s x Q xs notes r s' h rooms (fold.ends {e = e} d) = inl (ap Err (h.fails notes e s' rooms d))
after_done link app store frame s x Q xs notes r s' h rooms (fold.goes {mid = mid} {first = first} {more = more} d k) = inr (record { first = first; more = more; mid = mid; is = refl; did = h.goes first mid d; others = k })

-- a message was kept and written
pub record HasSent (s : State) (say : Say) (notes : List Note) (to : State) : Type 0 where
  pub text : List ℕ
  pub said : IsSaid SAMPLE_ID (s.last + 1) s.reading say text
  pub noted : notes ≡ Did (act.Kept (Push (entry_of s say))) ∷ Did (act.Wrote text) ∷ []
  pub state : to ≡ with_last s (s.last + 1)

-- each text that is said so fits into this room
abbrev pub SaidFits : ℕ → State → Say → Type 0
SaidFits link s say = (text : List ℕ) → IsSaid SAMPLE_ID (s.last + 1) s.reading say text → length text ≤ link

-- what of it didn't go out had room
unsent_fits : (link sent : ℕ) (text : List ℕ) → length text ≤ link → link - length (take sent text) < length text - sent → ⊥
unsent_fits link sent text fits lost = omega (arith, length-take sent text)

-- an entry of what is said takes this much
said_size : (store : ℕ) → 19 ≤ store → store < 19 → ⊥
said_size store room lost = omega (arith, room, lost)

send_fails : (link app store : ℕ) (frame : List ℕ) (s : State) (say : Say) (n : Option ℕ) → s.last < 999999999 → SaidFits link s say → 19 ≤ store → (notes : List Note) (e : Ending) (s' : State) → HasRooms link app store notes → Performed SAMPLE_ID frame s (step.Send say n) notes (Err e) s' → e ≡ ending.OutOfMemory
send_fails link app store frame s say n low fits room notes e s' rooms (answer.spent y m high) = absurd (omega (arith, low, high))
send_fails link app store frame s say n low fits room notes e s' rooms (answer.keep_memory y m h) = refl
send_fails link app store frame s say n low fits room notes e s' rooms (answer.keep_lost y m h) = absurd (said_size store room rooms.0)
send_fails link app store frame s say n low fits room notes e s' rooms (answer.write_lost y m text k h said) = absurd (unsent_fits link k text (fits text said) rooms.0)
send_fails link app store frame s say n low fits room notes e s' rooms (answer.write_memory y m h) = refl

send_goes : (frame : List ℕ) (s : State) (say : Say) (n : Option ℕ) (notes : List Note) (s' : State) → Performed SAMPLE_ID frame s (step.Send say n) notes (Ok tt) s' → HasSent s say notes s'
send_goes frame s say n notes s' (answer.sent y m text h said) = record { text = text; said = said; noted = refl; state = refl }

pub send_done : (link app store : ℕ) (frame : List ℕ) (s : State) (say : Say) (n : Option ℕ) → s.last < 999999999 → SaidFits link s say → 19 ≤ store → IsDone link app store frame s (step.Send say n) (HasSent s say)
send_done link app store frame s say n low fits room = record { fails = send_fails link app store frame s say n low fits room; goes = send_goes frame s say n }

-- a message was handed over
pub record HasHanded (frame : List ℕ) (s : State) (n : ℕ) (marked : Bool) (notes : List Note) (to : State) : Type 0 where
  pub fields : List Field
  pub has : HasFields frame fields
  pub noted : notes ≡ Did (act.Handed n marked (body_of fields)) ∷ []
  pub state : to ≡ s

-- the line of the message fits into this room
abbrev pub LineFits : ℕ → List ℕ → ℕ → Bool → Type 0
LineFits app frame n marked = (fields : List Field) → HasFields frame fields → length (line_text n marked (body_of fields)) ≤ app

line_fits : (app line : ℕ) → line ≤ app → app < line → ⊥
line_fits app line fits lost = omega (arith, fits, lost)

hand_fails : (link app store : ℕ) (frame : List ℕ) (s : State) (n : ℕ) (marked : Bool) → LineFits app frame n marked → (notes : List Note) (e : Ending) (s' : State) → HasRooms link app store notes → Performed SAMPLE_ID frame s (step.Hand n marked) notes (Err e) s' → e ≡ ending.OutOfMemory
hand_fails link app store frame s n marked fits notes e s' rooms (answer.hand_lost k m fields has) = absurd (line_fits app (length (line_text n marked (body_of fields))) (fits fields has) rooms.0)
hand_fails link app store frame s n marked fits notes e s' rooms (answer.hand_memory k m) = refl

hand_goes : (frame : List ℕ) (s : State) (n : ℕ) (marked : Bool) (notes : List Note) (s' : State) → Performed SAMPLE_ID frame s (step.Hand n marked) notes (Ok tt) s' → HasHanded frame s n marked notes s'
hand_goes frame s n marked notes s' (answer.taken k m fields has) = record { fields = fields; has = has; noted = refl; state = refl }

pub hand_done : (link app store : ℕ) (frame : List ℕ) (s : State) (n : ℕ) (marked : Bool) → LineFits app frame n marked → IsDone link app store frame s (step.Hand n marked) (HasHanded frame s n marked)
hand_done link app store frame s n marked fits = record { fails = hand_fails link app store frame s n marked fits; goes = hand_goes frame s n marked }

close_ok : (frame : List ℕ) (s : State) (why : Why) (notes : List Note) (mid : State) → Performed SAMPLE_ID frame s (step.Close why) notes (Ok tt) mid → ⊥
close_ok frame s why notes mid d = elim d [ ]

close_err : (frame : List ℕ) (s : State) (why : Why) (notes : List Note) (e : Ending) (s' : State) → Performed SAMPLE_ID frame s (step.Close why) notes (Err e) s' → (notes ≡ []) × (e ≡ ending.Closed why) × (s' ≡ with_phase s Down)
close_err frame s why notes e s' (answer.close y) = (refl, refl, refl)

pub after_close : (frame : List ℕ) (s : State) (why : Why) (xs : List Step) (notes : List Note) (r : Result ⊤ Ending) (s' : State) → Carries frame s (step.Close why ∷ xs) notes r s' → (notes ≡ []) × (r ≡ Err (ending.Closed why)) × (s' ≡ with_phase s Down)
after_close frame s why xs notes r s' (fold.ends {e = e} d) = let is = close_err frame s why notes e s' d in (is.0, ap Err is.1, is.2)
after_close frame s why xs notes r s' (fold.goes {mid = mid} {first = first} d k) = absurd (close_ok frame s why first mid d)
