-- What is read of printed sessions.
use Rattle.std.proofs.Common.{◌≡◌, ℕ, ◌+◌, Bool, true, false, List, [], ◌∷◌, ◌++◌, map, Option, Some, None, option_map, bytes_eq, codes, refl, sym, ap, ◌∙◌, subst, append_assoc, inl, inr, if◌then◌else◌}
use Rattle.std.specs.Prelude.{flat_map, find}
use Rattle.std.specs.List.{list_any, AllByRecursion}
use Rattle.std.specs.Option.{option_or}
use Rattle.std.proofs.lemmas.Bool.{cases_Bool}
use Rattle.std.proofs.lemmas.Slice.Eq.{bytes_eq-Decides}
use Rattle.fix_settings.specs.declared.key.Key.{Key}
use Rattle.fix_settings.specs.declared.key.Key.TheVariants as key
use Rattle.fix_settings.specs.declared.key.TheConstants.{KEYS}
use Rattle.fix_settings.specs.declared.session_settings.SessionSettings.{SessionSettings}
use Rattle.fix_settings.specs.Lines.{Pair, Line, Session, Given, Section, lines_of, numbered, run_of, defaults_of, sections_of, last_of}
use Rattle.fix_settings.specs.Forms.{Value, value_text}
use Rattle.fix_settings.specs.Table.{name_of, setting_of}
use Rattle.fix_settings.specs.Reading.{pair_for, line_refusal, asks_tls}
use Rattle.fix_settings.specs.Printing.{ignored_line}
use Rattle.fix_settings.specs.Again.{IsPrintable}
use Rattle.fix_settings.proofs.AgainLemmas.{line_first, Written, done, skip, pair, keys_text, pairs_first, AllPassed, no, one, passed_first}

-- ---- the lines of printed sessions

pub data PrintedLines (keys : List Key) : List SessionSettings → List Line → Type 0 where
  none : PrintedLines keys [] []
  more : {s : SessionSettings} {ss : List SessionSettings} {rest : List Line} (n : ℕ) (ps : List Pair) (ls : List Line) → Written s keys ps → AllPassed ls → PrintedLines keys ss rest → PrintedLines keys (s ∷ ss) (Session n ∷ (map Given ps ++ (ls ++ rest)))

abbrev pub text_with : List Key → SessionSettings → List ℕ
text_with keys s = codes "[SESSION]" ++ 10 ∷ [] ++ keys_text s keys ++ flat_map ignored_line s.ignored.items

spelled_with : (keys : List Key) (s : SessionSettings) (rest : List ℕ) → text_with keys s ++ rest ≡ codes "[SESSION]" ++ 10 ∷ (keys_text s keys ++ (flat_map ignored_line s.ignored.items ++ rest))
spelled_with keys s rest =
    append_assoc (codes "[SESSION]" ++ 10 ∷ [] ++ keys_text s keys) (flat_map ignored_line s.ignored.items) rest
    ∙ append_assoc (codes "[SESSION]" ++ 10 ∷ []) (keys_text s keys) (flat_map ignored_line s.ignored.items ++ rest)

pub printed : (keys : List Key) (n : ℕ) (sessions : List SessionSettings) → AllByRecursion IsPrintable sessions → PrintedLines keys sessions (numbered n (lines_of (flat_map (text_with keys) sessions)))
printed keys n [] all = none
printed keys n (s ∷ ss) all =
    let rest = flat_map (text_with keys) ss in
    let behind = keys_text s keys ++ (flat_map ignored_line s.ignored.items ++ rest) in
    let p = pairs_first s all.0.texts (n + 1) keys (flat_map ignored_line s.ignored.items ++ rest) in
    let q = passed_first p.next s.ignored.items rest all.0.ignored in
    let r = printed keys q.next ss all.1 in
    let e : numbered n (lines_of (text_with keys s ++ rest)) ≡ Session n ∷ (map Given p.pairs ++ (q.passed ++ numbered q.next (lines_of rest))) =
    ap (λ t. numbered n (lines_of t)) (spelled_with keys s rest) ∙ ap (numbered n) (line_first (codes "[SESSION]") behind refl)
    ∙ ap (λ ls. Session n ∷ ls) (p.are ∙ ap (λ ls. map Given p.pairs ++ ls) q.are) in
    subst (PrintedLines keys (s ∷ ss)) (sym e) (more n p.pairs q.passed p.written q.all r)

-- ---- their sections

defaults_given : (ps : List Pair) (rest : List Line) → defaults_of (map Given ps ++ rest) ≡ defaults_of rest
defaults_given [] rest = refl
defaults_given (p ∷ ps) rest = defaults_given ps rest

defaults_passed : {ls : List Line} (rest : List Line) → AllPassed ls → defaults_of (ls ++ rest) ≡ defaults_of rest
defaults_passed rest no = refl
defaults_passed rest (one a) = defaults_passed rest a

pub no_defaults : {keys : List Key} {ss : List SessionSettings} {lines : List Line} → PrintedLines keys ss lines → defaults_of lines ≡ []
no_defaults none = refl
no_defaults (more {rest = rest} n ps ls w a r) = defaults_given ps (ls ++ rest) ∙ defaults_passed rest a ∙ no_defaults r

run_given : (ps : List Pair) (rest : List Line) → run_of (map Given ps ++ rest) ≡ ps ++ run_of rest
run_given [] rest = refl
run_given (p ∷ ps) rest = ap (λ qs. p ∷ qs) (run_given ps rest)

run_passed : {ls : List Line} (rest : List Line) → AllPassed ls → run_of (ls ++ rest) ≡ run_of rest
run_passed rest no = refl
run_passed rest (one a) = run_passed rest a

no_run : {keys : List Key} {ss : List SessionSettings} {lines : List Line} → PrintedLines keys ss lines → run_of lines ≡ []
no_run none = refl
no_run (more n ps ls w a r) = refl

sections_given : (ps : List Pair) (rest : List Line) → sections_of (map Given ps ++ rest) ≡ sections_of rest
sections_given [] rest = refl
sections_given (p ∷ ps) rest = sections_given ps rest

sections_passed : {ls : List Line} (rest : List Line) → AllPassed ls → sections_of (ls ++ rest) ≡ sections_of rest
sections_passed rest no = refl
sections_passed rest (one a) = sections_passed rest a

pub data PrintedSections (keys : List Key) : List SessionSettings → List Section → Type 0 where
  none : PrintedSections keys [] []
  more : {s : SessionSettings} {ss : List SessionSettings} {sections : List Section} (n : ℕ) (ps : List Pair) → Written s keys ps → PrintedSections keys ss sections → PrintedSections keys (s ∷ ss) (record { line = n; pairs = ps } ∷ sections)

no_end : (ps : List Pair) → ps ++ [] ≡ ps
no_end [] = refl
no_end (p ∷ ps) = ap (λ qs. p ∷ qs) (no_end ps)

pub sections_printed : {keys : List Key} {ss : List SessionSettings} {lines : List Line} → PrintedLines keys ss lines → PrintedSections keys ss (sections_of lines)
sections_printed none = none
sections_printed {keys = keys} (more {s = s} {ss = ss} {rest = rest} n ps ls w a r) =
    let run : run_of (map Given ps ++ (ls ++ rest)) ≡ ps = run_given ps (ls ++ rest) ∙ ap (λ qs. ps ++ qs) (run_passed rest a ∙ no_run r) ∙ no_end ps in
    let behind : sections_of (map Given ps ++ (ls ++ rest)) ≡ sections_of rest = sections_given ps (ls ++ rest) ∙ sections_passed rest a in
    let e : sections_of (Session n ∷ (map Given ps ++ (ls ++ rest))) ≡ record { line = n; pairs = ps } ∷ sections_of rest =
    ap (λ qs. record { line = n; pairs = qs } ∷ sections_of (map Given ps ++ (ls ++ rest))) run ∙ ap (λ ss. record { line = n; pairs = ps } ∷ ss) behind in
    subst (PrintedSections keys (s ∷ ss)) (sym e) (more n ps w (sections_printed r))

-- ---- no line refused

key_tls : (n : ℕ) (k : Key) (v : List ℕ) → asks_tls (record { line = n; key = name_of k; value = v }) ≡ false
key_tls n key.BeginString v = refl
key_tls n key.SenderCompID v = refl
key_tls n key.TargetCompID v = refl
key_tls n key.HeartBtInt v = refl
key_tls n key.StartTime v = refl
key_tls n key.EndTime v = refl
key_tls n key.StartDay v = refl
key_tls n key.EndDay v = refl
key_tls n key.TimeZone v = refl
key_tls n key.ZoneRule v = refl
key_tls n key.ReconnectInterval v = refl
key_tls n key.LogonTimeout v = refl
key_tls n key.LogoutTimeout v = refl
key_tls n key.ResetOnLogon v = refl
key_tls n key.ResetOnLogout v = refl
key_tls n key.ResetOnDisconnect v = refl
key_tls n key.ResendRequestChunkSize v = refl
key_tls n key.CheckLatency v = refl
key_tls n key.MaxLatency v = refl
key_tls n key.DataDictionary v = refl
key_tls n key.ValidateFieldsOutOfOrder v = refl
key_tls n key.RejectInvalidMessage v = refl
key_tls n key.PersistMessages v = refl
key_tls n key.SocketConnectHost v = refl
key_tls n key.SocketConnectPort v = refl
key_tls n key.SocketAcceptHost v = refl
key_tls n key.SocketAcceptPort v = refl
key_tls n key.FileStorePath v = refl
key_tls n key.TimeStampPrecision v = refl
key_tls n key.AppTypes v = refl

refusal_given : {s : SessionSettings} {keys : List Key} {ps : List Pair} (rest : List Line) → Written s keys ps → line_refusal true (map Given ps ++ rest) ≡ line_refusal true rest
refusal_given rest done = refl
refusal_given rest (skip k e w) = refusal_given rest w
refusal_given rest (pair k n v e w) = rw (key_tls n k (value_text v)) (refusal_given rest w)

refusal_passed : {ls : List Line} (rest : List Line) → AllPassed ls → line_refusal true (ls ++ rest) ≡ line_refusal true rest
refusal_passed rest no = refl
refusal_passed rest (one a) = refusal_passed rest a

pub no_line_refusal : {keys : List Key} {ss : List SessionSettings} {lines : List Line} (b : Bool) → PrintedLines keys ss lines → line_refusal b lines ≡ None
no_line_refusal b none = refl
no_line_refusal b (more {rest = rest} n ps ls w a r) = headed b ∙ refusal_given (ls ++ rest) w ∙ refusal_passed rest a ∙ no_line_refusal true r
  where
    headed : (b : Bool) → line_refusal b (Session n ∷ (map Given ps ++ (ls ++ rest))) ≡ line_refusal true (map Given ps ++ (ls ++ rest))
    headed true = refl
    headed false = refl

-- ---- each key's pair

abbrev keyed : List ℕ → Option Key
keyed name = find (λ i. bytes_eq (name_of i) name) KEYS

keyed_name : (k : Key) → keyed (name_of k) ≡ Some k
keyed_name key.BeginString = refl
keyed_name key.SenderCompID = refl
keyed_name key.TargetCompID = refl
keyed_name key.HeartBtInt = refl
keyed_name key.StartTime = refl
keyed_name key.EndTime = refl
keyed_name key.StartDay = refl
keyed_name key.EndDay = refl
keyed_name key.TimeZone = refl
keyed_name key.ZoneRule = refl
keyed_name key.ReconnectInterval = refl
keyed_name key.LogonTimeout = refl
keyed_name key.LogoutTimeout = refl
keyed_name key.ResetOnLogon = refl
keyed_name key.ResetOnLogout = refl
keyed_name key.ResetOnDisconnect = refl
keyed_name key.ResendRequestChunkSize = refl
keyed_name key.CheckLatency = refl
keyed_name key.MaxLatency = refl
keyed_name key.DataDictionary = refl
keyed_name key.ValidateFieldsOutOfOrder = refl
keyed_name key.RejectInvalidMessage = refl
keyed_name key.PersistMessages = refl
keyed_name key.SocketConnectHost = refl
keyed_name key.SocketConnectPort = refl
keyed_name key.SocketAcceptHost = refl
keyed_name key.SocketAcceptPort = refl
keyed_name key.FileStorePath = refl
keyed_name key.TimeStampPrecision = refl
keyed_name key.AppTypes = refl

same_key : (j k : Key) → bytes_eq (name_of j) (name_of k) ≡ true → j ≡ k
same_key j k h =
    let d = bytes_eq-Decides (name_of j) (name_of k) in
    let e : Some j ≡ Some k = sym (keyed_name j) ∙ ap keyed (d.0 h) ∙ keyed_name k in
    cc

abbrev pub has : Key → List Key → Bool
has k keys = list_any (λ j. bytes_eq (name_of j) (name_of k)) keys

pub has_key : (k : Key) → has k KEYS ≡ true
has_key key.BeginString = refl
has_key key.SenderCompID = refl
has_key key.TargetCompID = refl
has_key key.HeartBtInt = refl
has_key key.StartTime = refl
has_key key.EndTime = refl
has_key key.StartDay = refl
has_key key.EndDay = refl
has_key key.TimeZone = refl
has_key key.ZoneRule = refl
has_key key.ReconnectInterval = refl
has_key key.LogonTimeout = refl
has_key key.LogoutTimeout = refl
has_key key.ResetOnLogon = refl
has_key key.ResetOnLogout = refl
has_key key.ResetOnDisconnect = refl
has_key key.ResendRequestChunkSize = refl
has_key key.CheckLatency = refl
has_key key.MaxLatency = refl
has_key key.DataDictionary = refl
has_key key.ValidateFieldsOutOfOrder = refl
has_key key.RejectInvalidMessage = refl
has_key key.PersistMessages = refl
has_key key.SocketConnectHost = refl
has_key key.SocketConnectPort = refl
has_key key.SocketAcceptHost = refl
has_key key.SocketAcceptPort = refl
has_key key.FileStorePath = refl
has_key key.TimeStampPrecision = refl
has_key key.AppTypes = refl

abbrev pub text_in : Option Pair → Option (List ℕ)
text_in o = option_map (λ p. p.value) o

abbrev pub text_of : Option Value → Option (List ℕ)
text_of o = option_map value_text o

abbrev when : Bool → Option (List ℕ) → Option (List ℕ)
when b o = if b then o else None

when_none : (b : Bool) → when b None ≡ None
when_none true = refl
when_none false = refl

or_none : (o : Option Pair) → option_or o None ≡ o
or_none None = refl
or_none (Some p) = refl

-- the last one says the same as this one
last_or : (o : Option Pair) (p : Pair) (b : Bool) (t : List ℕ) → text_in o ≡ when b (Some t) → p.value ≡ t → text_in (option_or o (Some p)) ≡ Some t
last_or None p b t h e = ap (λ x. Some x) e
last_or (Some q) p true t h e = h
last_or (Some q) p false t h e = cc

written_last : {s : SessionSettings} {keys : List Key} {ps : List Pair} (k : Key) → Written s keys ps → text_in (last_of (name_of k) ps) ≡ when (has k keys) (text_of (setting_of s k))
written_last k done = refl
written_last {s = s} k (skip j {ks = ks} {ps = ps} e w) = elim (cases_Bool (bytes_eq (name_of j) (name_of k))) [
  | inl t ↦ (let none : setting_of s k ≡ None = subst (λ i. setting_of s i ≡ None) (same_key j k t) e in
      written_last k w ∙ ap (λ o. when (has k ks) (text_of o)) none ∙ when_none (has k ks) ∙ sym (rw t (ap text_of none)))
  | inr f ↦ rw f (written_last k w)
]
written_last {s = s} k (pair j {ks = ks} {ps = ps} n v e w) = elim (cases_Bool (bytes_eq (name_of j) (name_of k))) [
  | inl t ↦ (let some : setting_of s k ≡ Some v = subst (λ i. setting_of s i ≡ Some v) (same_key j k t) e in
      rw t (last_or (last_of (name_of k) ps) (record { line = n; key = name_of j; value = value_text v }) (has k ks) (value_text v) (written_last k w ∙ ap (λ o. when (has k ks) (text_of o)) some) refl ∙ sym (ap text_of some)))
  | inr f ↦ rw f (ap text_in (or_none (last_of (name_of k) ps)) ∙ written_last k w)
]

pub pair_printed : {s : SessionSettings} {ps : List Pair} (k : Key) → Written s KEYS ps → text_in (pair_for [] ps k) ≡ text_of (setting_of s k)
pair_printed {s = s} {ps = ps} k w = ap text_in (or_none (last_of (name_of k) ps)) ∙ written_last k w ∙ ap (λ b. when b (text_of (setting_of s k))) (has_key k)
