-- The turns of a greeting, one after another.
use Rattle.std.proofs.Common.{◌≡◌, ℕ, ◌+◌, ◌-◌, ◌<◌, ◌≤◌, min, List, [], ◌∷◌, ◌++◌, length, Option, refl, sym, ap, subst, ◌∙◌, append_assoc, arith}
use Rattle.std.proofs.lemmas.List.{append-nil, length-append}
use Rattle.std.proofs.lemmas.List.Elements.{All-push, All-nil}
use Rattle.fix_base.specs.Parts.{ClockReads}
use Rattle.fix_base.specs.declared.identity.Identity.{Identity}
use Rattle.fix_outside.specs.declared.connection.ReadTurn.{ReadTurn}
use Rattle.fix_parts.specs.Link.{LinkSeen, LinkReads}
use Rattle.fix_host.proofs.LookLemmas.{looked_more}
use Rattle.fix_host.specs.declared.greeting.Step.{Step}
use Rattle.fix_host.specs.declared.known.Greeted.{Greeted}
use Rattle.fix_host.specs.declared.known.Greeted.TheVariants as greeted
use Rattle.fix_host.specs.declared.greeting.Step.TheVariants as step
use Rattle.fix_host.specs.Looking.{IsLookedTo}
use Rattle.fix_host.specs.Greet.{Turn, bytes_of, bytes_in, times_in, ReadsOnce, ReadsAll, ReadsClock, IsOpen, IsEarly, IsUndecided, GoesOn, Decides, EndsIn, at_once, in_turn, spent, refused, Greets}
use Rattle.fix_host.specs.Steps.{ComesTo, turn_of, TakesStep}
use Rattle.fix_host.specs.Steps as steps

-- the turns up to here, none of which ended it
pub record SoFar (seconds since count : ℕ) (ahead ahead' : List ℕ) (link link' : LinkSeen) (readings readings' : Option (List ℕ)) : Type 0 where
  pub taken : List Turn
  pub clock : ReadsClock (since ∷ times_in taken) readings readings'
  pub reads : ReadsAll ahead taken link link'
  pub held : ahead' ≡ ahead ++ bytes_in taken
  pub on : GoesOn seconds since ahead taken
  pub many : length taken ≡ count

bytes_push : (ts : List Turn) (t : Turn) → bytes_in (ts ++ t ∷ []) ≡ bytes_in ts ++ t.bytes
bytes_push [] t = append-nil t.bytes
bytes_push (x ∷ ts) t = ap (λ w. x.bytes ++ w) (bytes_push ts t) ∙ sym (append_assoc x.bytes (bytes_in ts) t.bytes)

clock_push : (s : ℕ) (ts : List Turn) (t : Turn) (a b c : Option (List ℕ)) → ReadsClock (s ∷ times_in ts) a b → ClockReads t.now b c → ReadsClock (s ∷ times_in (ts ++ t ∷ [])) a c
clock_push s [] t a b c r now = (r.0, r.1, (c, subst (λ x. ClockReads t.now x c) r.2 now, refl))
clock_push s (x ∷ ts) t a b c r now = (r.0, r.1, clock_push x.now ts t r.0 b c r.2 now)

reads_push : (held : List ℕ) (ts : List Turn) (t : Turn) (a b c : LinkSeen) → ReadsAll held ts a b → ReadsOnce (held ++ bytes_in ts) t b c → ReadsAll held (ts ++ t ∷ []) a c
reads_push held [] t a b c r once = (c, subst (λ x. ReadsOnce held t x c) r (subst (λ h. ReadsOnce h t b c) (append-nil held) once), refl)
reads_push held (x ∷ ts) t a b c r once = (r.0, r.1, reads_push (held ++ x.bytes) ts t r.0 b c r.2 (subst (λ h. ReadsOnce h t b c) (sym (append_assoc held x.bytes (bytes_in ts))) once))

-- what is held with one more turn
held_push : (ahead held held' : List ℕ) (ts : List Turn) (t : Turn) → held ≡ ahead ++ bytes_in ts → held' ≡ held ++ t.bytes → held' ≡ ahead ++ bytes_in (ts ++ t ∷ [])
held_push ahead held held' ts t e more = more ∙ ap (λ w. w ++ t.bytes) e ∙ append_assoc ahead (bytes_in ts) t.bytes ∙ ap (λ w. ahead ++ w) (sym (bytes_push ts t))

-- nothing was read yet
pub so_far : (seconds since : ℕ) (ahead : List ℕ) (link : LinkSeen) (a b : Option (List ℕ)) → ClockReads since a b → IsUndecided ahead → SoFar seconds since 0 ahead ahead link link a b
so_far seconds since ahead link a b now undecided = record {
  taken = [];
  clock = (b, now, refl);
  reads = refl;
  held = sym (append-nil ahead);
  on = record {
    given = All-nil (λ turn. IsOpen turn.read);
    early = All-nil (λ turn. IsEarly seconds since turn.now);
    undecided = subst IsUndecided (sym (append-nil ahead)) undecided;
  };
  many = refl;
}

-- one more turn that ended nothing
pub goes_on : (known : List Identity) (seconds since count place : ℕ) (ahead held held' : List ℕ) (a b c : LinkSeen) (x y z : Option (List ℕ)) → SoFar seconds since count ahead held a b x y → TakesStep known seconds since held held' b c y z (step.GoesOn place) → SoFar seconds since (count + 1) ahead held' a c x z
goes_on known seconds since count place ahead held held' a b c x y z s (steps.takes turn reads now more comes) =
    let is = held_push ahead held held' s.taken turn s.held more in
    record {
      taken = s.taken ++ turn ∷ [];
      clock = clock_push since s.taken turn x y z s.clock now;
      reads = reads_push ahead s.taken turn a b c s.reads (subst (λ h. ReadsOnce h turn b c) s.held reads);
      held = is;
      on = record {
        given = All-push (λ t. IsOpen t.read) s.taken turn s.on.given comes.0;
        early = All-push (λ t. IsEarly seconds since t.now) s.taken turn s.on.early comes.1;
        undecided = subst IsUndecided is comes.2;
      };
      many = length-append s.taken (turn ∷ []) ∙ ap (λ n. n + 1) s.many;
    }

-- where the bytes up to here were looked at
pub looked_at : (known : List Identity) (seconds since place : ℕ) (held held' : List ℕ) (b c : LinkSeen) (y z : Option (List ℕ)) → TakesStep known seconds since held held' b c y z (step.GoesOn place) → IsUndecided held' × IsLookedTo held' place
looked_at known seconds since place held held' b c y z (steps.takes turn reads now more comes) = (comes.2, comes.3)

-- the bytes ahead decide it
pub at_first : (known : List Identity) (seconds turns since : ℕ) (answer : Greeted) (ahead : List ℕ) (link : LinkSeen) (a b : Option (List ℕ)) → ClockReads since a b → Decides known ahead answer → Greets known seconds turns answer ahead ahead link link a b
at_first known seconds turns since answer ahead link a b now decides = record {
  since = since;
  taken = [];
  clock = (b, now, refl);
  reads = refl;
  held = sym (append-nil ahead);
  answers = at_once decides;
}

-- the step that ended it
pub ends : (known : List Identity) (seconds turns since count : ℕ) (answer : Greeted) (ahead held held' : List ℕ) (a b c : LinkSeen) (x y z : Option (List ℕ)) → count < turns → SoFar seconds since count ahead held a b x y → TakesStep known seconds since held held' b c y z (step.Ends answer) → Greets known seconds turns answer ahead held' a c x z
ends known seconds turns since count answer ahead held held' a b c x y z lt s (steps.takes turn reads now more comes) =
    let is = held_push ahead held held' s.taken turn s.held more in
    record {
      since = since;
      taken = s.taken ++ turn ∷ [];
      clock = clock_push since s.taken turn x y z s.clock now;
      reads = reads_push ahead s.taken turn a b c s.reads (subst (λ h. ReadsOnce h turn b c) s.held reads);
      held = is;
      answers = in_turn s.on (omega (arith, s.many, lt)) (subst (λ h. EndsIn known seconds since h turn answer) is comes);
    }
ends known seconds turns since count answer ahead held held' a b c x y z lt s (steps.refused same_held same_link same_readings) =
    record {
      since = since;
      taken = s.taken;
      clock = subst (λ r. ReadsClock (since ∷ times_in s.taken) x r) (sym same_readings) s.clock;
      reads = subst (λ l. ReadsAll ahead s.taken a l) (sym same_link) s.reads;
      held = same_held ∙ s.held;
      answers = refused s.on (omega (arith, s.many, lt));
    }

-- out of memory before a turn
pub gives_up : (known : List Identity) (seconds turns since count : ℕ) (ahead held : List ℕ) (a b : LinkSeen) (x y : Option (List ℕ)) → count ≤ turns → SoFar seconds since count ahead held a b x y → Greets known seconds turns greeted.OutOfMemory ahead held a b x y
gives_up known seconds turns since count ahead held a b x y le s = record {
  since = since;
  taken = s.taken;
  clock = s.clock;
  reads = s.reads;
  held = s.held;
  answers = refused s.on (omega (arith, s.many, le));
}

-- no turn is left
pub turns_spent : (known : List Identity) (seconds turns since count : ℕ) (ahead held : List ℕ) (a b : LinkSeen) (x y : Option (List ℕ)) → count ≡ turns → SoFar seconds since count ahead held a b x y → Greets known seconds turns greeted.TurnsSpent ahead held a b x y
turns_spent known seconds turns since count ahead held a b x y all s = record {
  since = since;
  taken = s.taken;
  clock = s.clock;
  reads = s.reads;
  held = s.held;
  answers = spent s.on (s.many ∙ all);
}

-- where the bytes before were looked at, with those that a read gave
pub looked_after : (old mid new bytes given : List ℕ) (place : ℕ) → mid ≡ old → new ≡ mid ++ given → bytes ≡ new → IsLookedTo old place → IsLookedTo bytes place
looked_after old mid new bytes given place same more is looked =
    subst (λ w. IsLookedTo w place) (sym (is ∙ more ∙ ap (λ w. w ++ given) same)) (looked_more old given place looked)

-- a step that read, and looked at the clock
pub step_taken : (known : List Identity) (seconds since now : ℕ) (old mid new bytes room : List ℕ) (read : ReadTurn) (a b c : LinkSeen) (x y : Option (List ℕ)) (step : Step) → mid ≡ old → b ≡ a → new ≡ mid ++ bytes_of read room → bytes ≡ new → length room ≤ min 65536 (1048612 - length old) → LinkReads read room b c → ClockReads now x y → ((given : List ℕ) → ComesTo known seconds since bytes (turn_of read given now) step) → TakesStep known seconds since old new a c x y step
step_taken known seconds since now old mid new bytes room read a b c x y step same same_link more is most reads clock comes =
    steps.takes (turn_of read (bytes_of read room) now)
    (record { room = room; most = most; reads = subst (λ l. LinkReads read room l c) same_link reads; bytes = refl })
    clock (more ∙ ap (λ w. w ++ bytes_of read room) same)
    (subst (λ w. ComesTo known seconds since w (turn_of read (bytes_of read room) now) step) is (comes (bytes_of read room)))
