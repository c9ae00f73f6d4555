-- The printed text of lawful settings is UTF-8.
use Rattle.std.proofs.Common.{◌≡◌, ℕ, zero, suc, ◌^◌, ◌<◌, ◌==◌, nat_lt, nat_le, length, bytes_eq, Bool, true, false, List, [], ◌∷◌, ◌++◌, codes, Option, Some, None, refl, subst, arith, if◌then◌else◌}
use Rattle.std.specs.Prelude.{flat_map, decimal}
use Rattle.std.specs.Str.{IsUtf8, IsAscii}
use Rattle.std.specs.List.{list_all, AllByRecursion, join_by}
use Rattle.std.proofs.lemmas.Bool.{and_parts, ltb-true, leb-true}
use Rattle.std.proofs.lemmas.Str.{IsUtf8-nil, IsUtf8-append, IsUtf8-from_ascii}
use Rattle.std.proofs.lemmas.Fmt.{IsAscii-decimal}
use Rattle.fix_base.specs.declared.identity.Begin.{Begin}
use Rattle.fix_base.specs.declared.identity.Begin.TheVariants.{Fix42, Fix44}
use Rattle.fix_base.specs.declared.precision.Precision.{Precision}
use Rattle.fix_base.specs.declared.precision.Precision.TheVariants.{Seconds, Millis, Micros}
use Rattle.fix_base.specs.Lists.{Among, here, there}
use Rattle.fix_base.specs.Says.{number_in}
use Rattle.fix_base.specs.Session.{begin_string_of, is_comp_id}
use Rattle.fix_settings.specs.declared.key.Key.{Key}
use Rattle.fix_settings.specs.declared.key.Key.TheVariants as key
use Rattle.fix_settings.specs.declared.key.TheConstants.{KEYS}
use Rattle.fix_settings.specs.declared.form.Form.{Form}
use Rattle.fix_settings.specs.declared.form.Form.TheVariants as form
use Rattle.fix_settings.specs.declared.session_settings.SessionSettings.{SessionSettings}
use Rattle.fix_settings.specs.Forms.{Value, Version, Number, Port, Clock, Day, Flag, Fine, Text, Types, version_in, clock_in, day_in, flag_in, precision_in, types_in, text_if, value_in, clock_text, day_name, flag_text, precision_text, value_text}
use Rattle.fix_settings.specs.Table.{rule_of, name_of, setting_of}
use Rattle.fix_settings.specs.Lawful.{IsAllowed, ValueUtf8, IfHas, AreValid}
use Rattle.fix_settings.specs.Printing.{setting_line, ignored_line, session_text, settings_text}
use Rattle.fix_settings.proofs.SaysLemmas.{number_bounds}
use Rattle.fix_settings.proofs.ValueLemmas.{mapped, is_near, key_near}

-- ---- bytes below 128

abbrev is_low : ℕ → Bool
is_low b = nat_lt b 128

low_at : (t : List ℕ) → AllByRecursion (λ b. b < 128) t → IsAscii t
low_at [] all i = omega arith
low_at (b ∷ bs) all zero = all.0
low_at (b ∷ bs) all (suc i) = low_at bs all.1 i

low_utf8 : (t : List ℕ) → AllByRecursion (λ b. b < 128) t → IsUtf8 t
low_utf8 t all = IsUtf8-from_ascii t (low_at t all)

all_low : (t : List ℕ) → list_all is_low t ≡ true → AllByRecursion (λ b. b < 128) t
all_low [] h = tt
all_low (b ∷ bs) h = let p = and_parts (is_low b) (list_all is_low bs) h in (ltb-true b 128 p.0, all_low bs p.1)

ascii : (t : List ℕ) → list_all is_low t ≡ true → IsUtf8 t
ascii t h = low_utf8 t (all_low t h)

-- ---- numbers

-- numbers that a machine's word can hold
abbrev IsSmall : Value → Type 0
IsSmall (Version b) = Unit {0}
IsSmall (Number n) = n < 2 ^ 64
IsSmall (Port n) = n < 2 ^ 64
IsSmall (Clock s) = Unit {0}
IsSmall (Day d) = Unit {0}
IsSmall (Flag b) = Unit {0}
IsSmall (Fine p) = Unit {0}
IsSmall (Text t) = Unit {0}
IsSmall (Types ts) = Unit {0}

text_small : (passes : Bool) (t : List ℕ) → IfHas IsSmall (text_if passes t)
text_small true t = tt
text_small false t = tt

no_small : (b : Bool) → IfHas IsSmall (if b then Some (Flag false) else None)
no_small true = tt
no_small false = tt

number_small : (low high : ℕ) (t : List ℕ) (n : ℕ) → nat_le high 999999999 ≡ true → number_in low high t ≡ Some n → n < 2 ^ 64
number_small low high t n near e = let b = number_bounds low high t n e in omega (arith, b.1, leb-true high 999999999 near)

value_small : (f : Form) (t : List ℕ) → is_near f ≡ true → IfHas IsSmall (value_in f t)
value_small form.Version t near = mapped IsSmall Version (version_in t) (λ b e. tt)
value_small form.CompId t near = text_small (is_comp_id t) t
value_small (form.Number low high) t near = mapped IsSmall Number (number_in low high t) (λ n e. number_small low high t n near e)
value_small form.Port t near = mapped IsSmall Port (number_in 1 65535 t) (λ n e. number_small 1 65535 t n refl e)
value_small form.Clock t near = mapped IsSmall Clock (clock_in t) (λ s e. tt)
value_small form.Day t near = mapped IsSmall Day (day_in t) (λ d e. tt)
value_small form.Utc t near = text_small (bytes_eq t (codes "UTC")) t
value_small form.Rule t near = tt
value_small form.Flag t near = mapped IsSmall Flag (flag_in t) (λ b e. tt)
value_small form.OnlyN t near = no_small (bytes_eq t (codes "N"))
value_small form.Text t near = text_small (nat_lt 0 (length t)) t
value_small form.Precision t near = mapped IsSmall Fine (precision_in t) (λ p e. tt)
value_small form.Types t near = mapped IsSmall Types (types_in t) (λ ts e. tt)

allowed_small : (k : Key) (o : Option Value) → IsAllowed (rule_of k) o → IfHas IsSmall o
allowed_small k None a = tt
allowed_small k (Some v) a = subst (IfHas IsSmall) a.says (value_small (rule_of k).form a.text (key_near k))

-- ---- values

version_utf8 : (b : Begin) → IsUtf8 (begin_string_of b)
version_utf8 Fix42 = ascii (codes "FIX.4.2") refl
version_utf8 Fix44 = ascii (codes "FIX.4.4") refl

clock_utf8 : (s : ℕ) → IsUtf8 (clock_text s)
clock_utf8 s = low_utf8 (clock_text s) (omega arith, (omega arith, (omega arith, (omega arith, (omega arith, (omega arith, (omega arith, (omega arith, tt))))))))

either : (b : Bool) (t u : List ℕ) → IsUtf8 t → IsUtf8 u → IsUtf8 (if b then t else u)
either true t u p q = p
either false t u p q = q

day_utf8 : (d : ℕ) → IsUtf8 (day_name d)
day_utf8 d =
    either (d == 1) (codes "Monday") _ (ascii (codes "Monday") refl)
    (either (d == 2) (codes "Tuesday") _ (ascii (codes "Tuesday") refl)
    (either (d == 3) (codes "Wednesday") _ (ascii (codes "Wednesday") refl)
    (either (d == 4) (codes "Thursday") _ (ascii (codes "Thursday") refl)
    (either (d == 5) (codes "Friday") _ (ascii (codes "Friday") refl)
    (either (d == 6) (codes "Saturday") (codes "Sunday") (ascii (codes "Saturday") refl) (ascii (codes "Sunday") refl))))))

flag_utf8 : (b : Bool) → IsUtf8 (flag_text b)
flag_utf8 true = ascii (codes "Y") refl
flag_utf8 false = ascii (codes "N") refl

precision_utf8 : (p : Precision) → IsUtf8 (precision_text p)
precision_utf8 Seconds = ascii (codes "SECONDS") refl
precision_utf8 Millis = ascii (codes "MILLIS") refl
precision_utf8 Micros = ascii (codes "MICROS") refl

more_types : (ts : List (List ℕ)) → AllByRecursion IsUtf8 ts → IsUtf8 (flat_map (λ t. 44 ∷ [] ++ t) ts)
more_types [] all = IsUtf8-nil
more_types (t ∷ ts) all = IsUtf8-append (44 ∷ [] ++ t) (flat_map (λ t. 44 ∷ [] ++ t) ts) (IsUtf8-append (44 ∷ []) t (ascii (44 ∷ []) refl) all.0) (more_types ts all.1)

types_utf8 : (ts : List (List ℕ)) → AllByRecursion IsUtf8 ts → IsUtf8 (join_by (λ t. t) (44 ∷ []) ts)
types_utf8 [] all = IsUtf8-nil
types_utf8 (t ∷ ts) all = IsUtf8-append t (flat_map (λ t. 44 ∷ [] ++ t) ts) all.0 (more_types ts all.1)

text_utf8 : (v : Value) → IsSmall v → ValueUtf8 v → IsUtf8 (value_text v)
text_utf8 (Version b) small u = version_utf8 b
text_utf8 (Number n) small u = IsUtf8-from_ascii (decimal n) (IsAscii-decimal n small)
text_utf8 (Port n) small u = IsUtf8-from_ascii (decimal n) (IsAscii-decimal n small)
text_utf8 (Clock s) small u = clock_utf8 s
text_utf8 (Day d) small u = day_utf8 d
text_utf8 (Flag b) small u = flag_utf8 b
text_utf8 (Fine p) small u = precision_utf8 p
text_utf8 (Text t) small u = u
text_utf8 (Types ts) small u = types_utf8 ts u

-- ---- lines

name_utf8 : (k : Key) → IsUtf8 (name_of k)
name_utf8 key.BeginString = ascii (codes "BeginString") refl
name_utf8 key.SenderCompID = ascii (codes "SenderCompID") refl
name_utf8 key.TargetCompID = ascii (codes "TargetCompID") refl
name_utf8 key.HeartBtInt = ascii (codes "HeartBtInt") refl
name_utf8 key.StartTime = ascii (codes "StartTime") refl
name_utf8 key.EndTime = ascii (codes "EndTime") refl
name_utf8 key.StartDay = ascii (codes "StartDay") refl
name_utf8 key.EndDay = ascii (codes "EndDay") refl
name_utf8 key.TimeZone = ascii (codes "TimeZone") refl
name_utf8 key.ZoneRule = ascii (codes "ZoneRule") refl
name_utf8 key.ReconnectInterval = ascii (codes "ReconnectInterval") refl
name_utf8 key.LogonTimeout = ascii (codes "LogonTimeout") refl
name_utf8 key.LogoutTimeout = ascii (codes "LogoutTimeout") refl
name_utf8 key.ResetOnLogon = ascii (codes "ResetOnLogon") refl
name_utf8 key.ResetOnLogout = ascii (codes "ResetOnLogout") refl
name_utf8 key.ResetOnDisconnect = ascii (codes "ResetOnDisconnect") refl
name_utf8 key.ResendRequestChunkSize = ascii (codes "ResendRequestChunkSize") refl
name_utf8 key.CheckLatency = ascii (codes "CheckLatency") refl
name_utf8 key.MaxLatency = ascii (codes "MaxLatency") refl
name_utf8 key.DataDictionary = ascii (codes "DataDictionary") refl
name_utf8 key.ValidateFieldsOutOfOrder = ascii (codes "ValidateFieldsOutOfOrder") refl
name_utf8 key.RejectInvalidMessage = ascii (codes "RejectInvalidMessage") refl
name_utf8 key.PersistMessages = ascii (codes "PersistMessages") refl
name_utf8 key.SocketConnectHost = ascii (codes "SocketConnectHost") refl
name_utf8 key.SocketConnectPort = ascii (codes "SocketConnectPort") refl
name_utf8 key.SocketAcceptHost = ascii (codes "SocketAcceptHost") refl
name_utf8 key.SocketAcceptPort = ascii (codes "SocketAcceptPort") refl
name_utf8 key.FileStorePath = ascii (codes "FileStorePath") refl
name_utf8 key.TimeStampPrecision = ascii (codes "TimeStampPrecision") refl
name_utf8 key.AppTypes = ascii (codes "AppTypes") refl

line_utf8 : (k : Key) (o : Option Value) → IfHas IsSmall o → IfHas ValueUtf8 o → IsUtf8 (setting_line k o)
line_utf8 k None small u = IsUtf8-nil
line_utf8 k (Some v) small u =
    let name = IsUtf8-append (name_of k) (61 ∷ []) (name_utf8 k) (ascii (61 ∷ []) refl) in
    let value = IsUtf8-append (name_of k ++ 61 ∷ []) (value_text v) name (text_utf8 v small u) in
    IsUtf8-append (name_of k ++ 61 ∷ [] ++ value_text v) (10 ∷ []) value (ascii (10 ∷ []) refl)

settings_utf8 : (s : SessionSettings) (keys : List Key) → AreValid s → IsUtf8 (flat_map (λ k. setting_line k (setting_of s k)) keys)
settings_utf8 s [] law = IsUtf8-nil
settings_utf8 s (k ∷ ks) law = IsUtf8-append (setting_line k (setting_of s k)) (flat_map (λ k. setting_line k (setting_of s k)) ks) (line_utf8 k (setting_of s k) (allowed_small k (setting_of s k) (law.each k)) (law.utf8 k)) (settings_utf8 s ks law)

ignored_utf8 : (names : List (List ℕ)) → ((name : List ℕ) → Among name names → IsUtf8 name) → IsUtf8 (flat_map ignored_line names)
ignored_utf8 [] h = IsUtf8-nil
ignored_utf8 (name ∷ names) h =
    let first = IsUtf8-append (codes "# ignored ") name (ascii (codes "# ignored ") refl) (h name here) in
    IsUtf8-append (ignored_line name) (flat_map ignored_line names) (IsUtf8-append (codes "# ignored " ++ name) (10 ∷ []) first (ascii (10 ∷ []) refl)) (ignored_utf8 names (λ n m. h n (there m)))

session_utf8 : (s : SessionSettings) → AreValid s → IsUtf8 (session_text s)
session_utf8 s law =
    let keys = flat_map (λ k. setting_line k (setting_of s k)) KEYS in
    let first = IsUtf8-append (codes "[SESSION]" ++ 10 ∷ []) keys (ascii (codes "[SESSION]" ++ 10 ∷ []) refl) (settings_utf8 s KEYS law) in
    IsUtf8-append (codes "[SESSION]" ++ 10 ∷ [] ++ keys) (flat_map ignored_line s.ignored.items) first (ignored_utf8 s.ignored.items law.ignored_utf8)

pub printed_utf8 : (sessions : List SessionSettings) → AllByRecursion AreValid sessions → IsUtf8 (settings_text sessions)
printed_utf8 [] all = IsUtf8-nil
printed_utf8 (s ∷ ss) all = IsUtf8-append (session_text s) (settings_text ss) (session_utf8 s all.0) (printed_utf8 ss all.1)
