-- How an end stays in step with a session on its connection.
use Rattle.std.proofs.Common.{◌≡◌, ◌≢◌, inl, inr, ℕ, ◌+◌, ◌<◌, List, [], ◌∷◌, ◌++◌, length-append, take, drop, false, Some, None, refl, sym, ap, ◌∙◌, subst, arith}
use Rattle.std.specs.List.{AllByRecursion}
use Rattle.std.proofs.lemmas.List.{take-append-drop, drop-append-le}
use Rattle.fix_base.specs.Lists.{Among, here, IsPrefixOf}
use Rattle.fix_base.specs.declared.identity.Identity.{Identity}
use Rattle.fix_base.specs.declared.entry.Entry.{Entry}
use Rattle.fix_base.specs.declared.entry.Entry.TheVariants.{Admin}
use Rattle.fix_base.specs.declared.entry.Record.TheVariants.{Push, Expect}
use Rattle.fix_base.specs.Stream.{UnreadBytes}
use Rattle.fix_base.specs.Logon.{IsResetLogon}
use Rattle.fix_base.specs.Payload.{IsEntryField}
use Rattle.fix_base.specs.End.{folded, IsEntry}
use Rattle.fix_base.specs.Wrote as wrote
use Rattle.fix_base.specs.Wrote.{Carries, IsOriginal, Wrote, WroteWhole}
use Rattle.fix_base.specs.EndStep.{Handling, Connection, EndState, Grew, LogonRule}
use Rattle.fix_base.proofs.ListLemmas.{Among-append_right, prefix_refl, prefix_under}
use Rattle.fix_base.proofs.WholeLemmas.{push_grows, expect_grows, whole_grown, whole_more, whole_wrote, front_wrote}
use Rattle.fix_engine.specs.State.{State, Down, Say, Logon, Logout, with_expected, with_last, with_stored_expected}
use Rattle.fix_engine.specs.Answer.{kind_of, fields_of, IsSaid, entry_of}
use Rattle.fix_engine.specs.Reading.{ConnectionSeen, connection_seen, fed}
use Rattle.fix_engine.specs.Lawful.{IsCertain, IsReadUpTo, IsPlainly, IsOn}
use Rattle.fix_engine.proofs.ReadLemmas.{read_more}
use Rattle.fix_engine.proofs.LogonLemmas.{plain_more, plain_rule, original_frame, said_free}

-- ---- the original of what is said

say_fields : (say : Say) → AllByRecursion IsEntryField (fields_of say)
say_fields (Logon heart) = (
  record { no_begin = λ e. omega arith; no_length = λ e. omega arith; no_sum = λ e. omega arith; no_type = λ e. omega arith; no_header = refl },
  (record { no_begin = λ e. omega arith; no_length = λ e. omega arith; no_sum = λ e. omega arith; no_type = λ e. omega arith; no_header = refl }, tt),
)
say_fields Logout = tt

-- it carries the fields of its kind
carries_say : (time : ℕ) (say : Say) → Carries (Admin time (kind_of say) 0) (kind_of say ∷ []) (fields_of say)
carries_say time (Logon heart) = wrote.admin (wrote.logon heart false)
carries_say time Logout = wrote.admin (wrote.logout None)

said_original : (id : Identity) (n : ℕ) (s : State) (say : Say) (text : List ℕ) → IsSaid id n s.reading say text → IsOriginal id n (entry_of s say) text
said_original id n s say text h = record {
  type = kind_of say ∷ [];
  at = h.at;
  rest = fields_of say;
  carries = carries_say s.reading say;
  sent_at = record { digits = 3; precision = inr (inl refl); is = h.sent_at };
  sealed_so = h.sealed_so;
}

-- ---- an entry is kept, and written

-- the end with one more entry
abbrev pub pushed : EndState → Entry → EndState
pushed e entry = record e { end = folded e.end (Push entry) }

-- more is written on the connection
abbrev pub writing : Connection → List ℕ → Connection
writing c text = record c { written = c.written ++ text }

abbrev pub connected : EndState → Connection → EndState
connected e c = record e { connection = Some c }

pub settled_pushed : (s : State) (e : EndState) (entry : Entry) → IsCertain s e → IsCertain (with_last s (s.last + 1)) (pushed e entry)
settled_pushed s e entry h = record {
  doubt = h.doubt;
  numbers = record { expected = h.numbers.expected; stored = h.numbers.stored; out = omega (arith, h.numbers.out, length-append e.end.out (entry ∷ [])); role = h.numbers.role };
}

-- the connection makes no difference to the numbers
pub settled_connected : (s : State) (e : EndState) (c : Connection) → IsCertain s e → IsCertain s (connected e c)
settled_connected s e c h = record { doubt = h.doubt; numbers = record { expected = h.numbers.expected; stored = h.numbers.stored; out = h.numbers.out; role = h.numbers.role } }

whole_pushed : (id : Identity) (l : ConnectionSeen) (c : Connection) (e : EndState) (entry : Entry) (h : IsOn id l c e) → WroteWhole id c.opened (pushed e entry).end h.last c.written
whole_pushed id l c e entry h = whole_grown id c.opened e.end (pushed e entry).end h.last c.written (push_grows e.end entry) h.whole

-- the original of the new entry may follow
original_follows : (id : Identity) (s : State) (a : UnreadBytes) (c : Connection) (e : EndState) (entry : Entry) (text : List ℕ) → s.last < 999999999 → IsOriginal id (s.last + 1) entry text → IsOn id (connection_seen s a) c e → WroteWhole id c.opened (pushed e entry).end (s.last + 1) (c.written ++ text)
original_follows id s a c e entry text small original h =
    let out = h.settled.numbers.out in
    let is : IsEntry (e.end.out ++ entry ∷ []) (s.last + 1) entry = record { before = e.end.out; after = []; is = refl; place = omega (arith, out) } in
    whole_more id c.opened (pushed e entry).end h.last (s.last + 1) c.written text
    (wrote.next_original (s.last + 1) entry (omega arith) (omega (arith, out, h.kept)) is original)
    (whole_pushed id (connection_seen s a) c e entry h)

-- all of it is written
pub original_all : (id : Identity) (s : State) (a : UnreadBytes) (c : Connection) (e : EndState) (entry : Entry) (text : List ℕ) → s.last < 999999999 → IsOriginal id (s.last + 1) entry text → IsOn id (connection_seen s a) c e → Wrote id c.opened (pushed e entry).end (c.written ++ text)
original_all id s a c e entry text small original h = whole_wrote id c.opened (pushed e entry).end (s.last + 1) (c.written ++ text) (original_follows id s a c e entry text small original h)

-- some of it is written
pub original_some : (id : Identity) (s : State) (a : UnreadBytes) (c : Connection) (e : EndState) (entry : Entry) (text : List ℕ) (many : ℕ) → s.last < 999999999 → IsOriginal id (s.last + 1) entry text → IsOn id (connection_seen s a) c e → Wrote id c.opened (pushed e entry).end (c.written ++ take many text)
original_some id s a c e entry text many small original h =
    let front : IsPrefixOf (take many text) text = record { rest = drop many text; is = sym (take-append-drop many text) } in
    front_wrote id c.opened (pushed e entry).end (c.written ++ text) (c.written ++ take many text) (prefix_under c.written front) (original_all id s a c e entry text small original h)

-- with it no frame asks for a reset
original_plain : (id : Identity) (n : ℕ) (written text : List ℕ) (entry : Entry) → IsOriginal id n entry text → (IsResetLogon text → ⊥) → IsPlainly written → IsPlainly (written ++ text)
original_plain id n written text entry original free h = plain_more written text (original_frame id n entry text original) free h

-- all of it may be written
pub rule_all : (id : Identity) (s : State) (a : UnreadBytes) (c : Connection) (e : EndState) (entry : Entry) (text : List ℕ) → IsOriginal id (s.last + 1) entry text → (IsResetLogon text → ⊥) → IsOn id (connection_seen s a) c e → LogonRule id (pushed e entry) c text
rule_all id s a c e entry text original free h = plain_rule id (pushed e entry) c text (c.written ++ text) h.settled.numbers.role (original_plain id (s.last + 1) c.written text entry original free h.plain) (prefix_refl (c.written ++ text))

-- and some of it
pub rule_some : (id : Identity) (s : State) (a : UnreadBytes) (c : Connection) (e : EndState) (entry : Entry) (text : List ℕ) (many : ℕ) → IsOriginal id (s.last + 1) entry text → (IsResetLogon text → ⊥) → IsOn id (connection_seen s a) c e → LogonRule id (pushed e entry) c (take many text)
rule_some id s a c e entry text many original free h =
    let front : IsPrefixOf (take many text) text = record { rest = drop many text; is = sym (take-append-drop many text) } in
    plain_rule id (pushed e entry) c (take many text) (c.written ++ text) h.settled.numbers.role (original_plain id (s.last + 1) c.written text entry original free h.plain) (prefix_under c.written front)

-- and the end is in step again
pub on_original : (id : Identity) (s : State) (a : UnreadBytes) (c : Connection) (e : EndState) (entry : Entry) (text : List ℕ) → s.last < 999999999 → IsOriginal id (s.last + 1) entry text → (IsResetLogon text → ⊥) → IsOn id (connection_seen s a) c e → IsOn id (connection_seen (with_last s (s.last + 1)) a) (writing c text) (connected (pushed e entry) (writing c text))
on_original id s a c e entry text small original free h = record {
  phase = h.phase;
  settled = settled_connected (with_last s (s.last + 1)) (pushed e entry) (writing c text) (settled_pushed s e entry h.settled);
  is_open = refl;
  read = h.read;
  last = s.last + 1;
  kept = omega (arith, h.settled.numbers.out, length-append e.end.out (entry ∷ []));
  whole = original_follows id s a c e entry text small original h;
  plain = original_plain id (s.last + 1) c.written text entry original free h.plain;
  base = h.base;
}

-- an entry is kept, and nothing is written
pub on_pushed : (id : Identity) (s : State) (a : UnreadBytes) (c : Connection) (e : EndState) (entry : Entry) → IsOn id (connection_seen s a) c e → IsOn id (connection_seen (with_last s (s.last + 1)) a) c (pushed e entry)
on_pushed id s a c e entry h = record {
  phase = h.phase;
  settled = settled_pushed s e entry h.settled;
  is_open = h.is_open;
  read = h.read;
  last = h.last;
  kept = omega (arith, h.kept, length-append e.end.out (entry ∷ []));
  whole = whole_pushed id (connection_seen s a) c e entry h;
  plain = h.plain;
  base = h.base;
}

-- what is said is the original of its entry
pub wrote_all : (id : Identity) (s : State) (a : UnreadBytes) (c : Connection) (e : EndState) (say : Say) (text : List ℕ) → s.last < 999999999 → IsSaid id (s.last + 1) s.reading say text → IsOn id (connection_seen s a) c e → Wrote id c.opened (pushed e (entry_of s say)).end (c.written ++ text)
wrote_all id s a c e say text small said h = original_all id s a c e (entry_of s say) text small (said_original id (s.last + 1) s say text said) h

pub wrote_some : (id : Identity) (s : State) (a : UnreadBytes) (c : Connection) (e : EndState) (say : Say) (text : List ℕ) (many : ℕ) → s.last < 999999999 → IsSaid id (s.last + 1) s.reading say text → IsOn id (connection_seen s a) c e → Wrote id c.opened (pushed e (entry_of s say)).end (c.written ++ take many text)
wrote_some id s a c e say text many small said h = original_some id s a c e (entry_of s say) text many small (said_original id (s.last + 1) s say text said) h

pub said_rule : (id : Identity) (s : State) (a : UnreadBytes) (c : Connection) (e : EndState) (say : Say) (text : List ℕ) → IsSaid id (s.last + 1) s.reading say text → IsOn id (connection_seen s a) c e → LogonRule id (pushed e (entry_of s say)) c text
said_rule id s a c e say text said h = rule_all id s a c e (entry_of s say) text (said_original id (s.last + 1) s say text said) (said_free id (s.last + 1) s.reading say text (say_fields say) said) h

pub some_rule : (id : Identity) (s : State) (a : UnreadBytes) (c : Connection) (e : EndState) (say : Say) (text : List ℕ) (many : ℕ) → IsSaid id (s.last + 1) s.reading say text → IsOn id (connection_seen s a) c e → LogonRule id (pushed e (entry_of s say)) c (take many text)
some_rule id s a c e say text many said h = rule_some id s a c e (entry_of s say) text many (said_original id (s.last + 1) s say text said) (said_free id (s.last + 1) s.reading say text (say_fields say) said) h

pub on_sent : (id : Identity) (s : State) (a : UnreadBytes) (c : Connection) (e : EndState) (say : Say) (text : List ℕ) → s.last < 999999999 → IsSaid id (s.last + 1) s.reading say text → IsOn id (connection_seen s a) c e → IsOn id (connection_seen (with_last s (s.last + 1)) a) (writing c text) (connected (pushed e (entry_of s say)) (writing c text))
on_sent id s a c e say text small said h = on_original id s a c e (entry_of s say) text small (said_original id (s.last + 1) s say text said) (said_free id (s.last + 1) s.reading say text (say_fields say) said) h

-- ---- the state alone changes, or the expected number with it

pub on_state : (id : Identity) (s s' : State) (a : UnreadBytes) (c : Connection) (e : EndState) → s'.phase ≢ Down → s'.expected ≡ s.expected → s'.stored_expected ≡ s.stored_expected → s'.last ≡ s.last → IsOn id (connection_seen s a) c e → IsOn id (connection_seen s' a) c e
on_state id s s' a c e phase expected kept last h = record {
  phase = phase;
  settled = record { doubt = h.settled.doubt; numbers = record { expected = h.settled.numbers.expected ∙ sym expected; stored = h.settled.numbers.stored ∙ sym kept; out = h.settled.numbers.out ∙ sym last; role = h.settled.numbers.role } };
  is_open = h.is_open;
  read = h.read;
  last = h.last;
  kept = h.kept;
  whole = h.whole;
  plain = h.plain;
  base = h.base;
}

-- the end expects the next number
abbrev pub passed : EndState → EndState
passed e = record e { expected = e.expected + 1 }

pub settled_passed : (s : State) (e : EndState) (n : ℕ) → n ≡ s.expected → IsCertain s e → IsCertain (with_expected s (n + 1)) (passed e)
settled_passed s e n due h = record { doubt = h.doubt; numbers = record { expected = ap (λ k. k + 1) (h.numbers.expected ∙ sym due); stored = h.numbers.stored; out = h.numbers.out; role = h.numbers.role } }

pub on_passed : (id : Identity) (s : State) (a : UnreadBytes) (c : Connection) (e : EndState) (n : ℕ) → n ≡ s.expected → IsOn id (connection_seen s a) c e → IsOn id (connection_seen (with_expected s (n + 1)) a) c (passed e)
on_passed id s a c e n due h = record {
  phase = h.phase;
  settled = settled_passed s e n due h.settled;
  is_open = h.is_open;
  read = h.read;
  last = h.last;
  kept = h.kept;
  whole = h.whole;
  plain = h.plain;
  base = h.base;
}

-- ---- a message is given

abbrev pub giving : Connection → ℕ → Connection
giving c n = record c { gave = n ∷ c.gave }

abbrev pub handling : ℕ → List ℕ → Handling
handling n body = record { number = n; body = body; marked = false; rejected = false }

abbrev pub given : EndState → Connection → ℕ → List ℕ → EndState
given e c n body = record e { handled = e.handled ++ handling n body ∷ []; connection = Some (giving c n) }

pub on_given : (id : Identity) (l : ConnectionSeen) (c : Connection) (e : EndState) (n : ℕ) (body : List ℕ) → IsOn id l c e → IsOn id l (giving c n) (given e c n body)
on_given id l c e n body h = record {
  phase = h.phase;
  settled = record { doubt = h.settled.doubt; numbers = record { expected = h.settled.numbers.expected; stored = h.settled.numbers.stored; out = h.settled.numbers.out; role = h.settled.numbers.role } };
  is_open = refl;
  read = h.read;
  last = h.last;
  kept = h.kept;
  whole = h.whole;
  plain = h.plain;
  base = omega (arith, h.base, length-append e.handled (handling n body ∷ []));
}

pub grew_given : (id : Identity) (l : ConnectionSeen) (c : Connection) (e : EndState) (n : ℕ) (body : List ℕ) → IsOn id l c e → Grew (giving c n) (given e c n body).handled n
grew_given id l c e n body h = record {
  item = handling n body;
  among = subst (λ w. Among (handling n body) w) (sym (drop-append-le c.base e.handled (handling n body ∷ []) h.base)) (Among-append_right (drop c.base e.handled) here);
  is = refl;
}

-- ---- bytes come, and the reader goes on

abbrev pub reading : Connection → List ℕ → Connection
reading c bytes = record c { read = c.read ++ bytes }

pub on_read : (id : Identity) (l : ConnectionSeen) (c : Connection) (e : EndState) (bytes : List ℕ) → IsOn id l c e → IsOn id (connection_seen l.state (fed l.unread bytes)) (reading c bytes) (connected e (reading c bytes))
on_read id l c e bytes h = record {
  phase = h.phase;
  settled = settled_connected l.state e (reading c bytes) h.settled;
  is_open = refl;
  read = read_more c.read bytes l.unread h.read;
  last = h.last;
  kept = h.kept;
  whole = h.whole;
  plain = h.plain;
  base = h.base;
}

pub on_place : (id : Identity) (s : State) (a b : UnreadBytes) (c : Connection) (e : EndState) → IsReadUpTo c.read b → IsOn id (connection_seen s a) c e → IsOn id (connection_seen s b) c e
on_place id s a b c e read h = record {
  phase = h.phase;
  settled = h.settled;
  is_open = h.is_open;
  read = read;
  last = h.last;
  kept = h.kept;
  whole = h.whole;
  plain = h.plain;
  base = h.base;
}

-- ---- the expected number is kept

abbrev pub keeping : EndState → ℕ → EndState
keeping e n = record e { end = folded e.end (Expect n) }

pub settled_kept : (s : State) (e : EndState) → IsCertain s e → IsCertain (with_stored_expected s) (keeping e s.expected)
settled_kept s e h = record { doubt = h.doubt; numbers = record { expected = h.numbers.expected; stored = refl; out = h.numbers.out; role = h.numbers.role } }

pub on_kept : (id : Identity) (s : State) (a : UnreadBytes) (c : Connection) (e : EndState) → IsOn id (connection_seen s a) c e → IsOn id (connection_seen (with_stored_expected s) a) c (keeping e s.expected)
on_kept id s a c e h = record {
  phase = h.phase;
  settled = settled_kept s e h.settled;
  is_open = h.is_open;
  read = h.read;
  last = h.last;
  kept = h.kept;
  whole = whole_grown id c.opened e.end (keeping e s.expected).end h.last c.written (expect_grows e.end s.expected) h.whole;
  plain = h.plain;
  base = h.base;
}
