-- A value that a line said is printed as a text that a line can hold and that says the value.
use Rattle.std.proofs.Common.{◌≡◌, inl, inr, ℕ, ◌+◌, ◌*◌, ◌/◌, ◌%◌, ◌<◌, ◌≤◌, ◌==◌, ◌&&◌, nat_lt, nat_le, Bool, true, false, List, [], ◌∷◌, length, codes, bytes_eq, Option, Some, None, option_map, refl, sym, ap, ◌∙◌, subst, arith, if◌then◌else◌}
use Rattle.std.specs.Prelude.{slice_index, find}
use Rattle.std.specs.List.{list_all, AllByRecursion, slice_split, onto_first, join_by}
use Rattle.std.proofs.lemmas.Bool.{cases_Bool, and_parts, and_from, leb-true, le-leb, eqb-true}
use Rattle.std.proofs.lemmas.List.Splits.{length-slice_split}
use Rattle.fix_base.specs.declared.identity.Begin.{Begin}
use Rattle.fix_base.specs.declared.identity.Begin.TheVariants.{Fix42, Fix44}
use Rattle.fix_base.specs.declared.precision.Precision.{Precision}
use Rattle.fix_base.specs.declared.precision.Precision.TheVariants.{Seconds, Millis, Micros}
use Rattle.fix_base.specs.Lists.{Among, here, there}
use Rattle.fix_base.specs.Says.{number_in}
use Rattle.fix_base.specs.Session.{is_comp_id}
use Rattle.fix_settings.specs.declared.key.Key.{Key}
use Rattle.fix_settings.specs.declared.key.Key.TheVariants as key
use Rattle.fix_settings.specs.declared.form.Form.{Form}
use Rattle.fix_settings.specs.declared.form.Form.TheVariants as form
use Rattle.fix_settings.specs.Lines.{trim_front, trim_back}
use Rattle.fix_settings.specs.Forms.{Value, Version, Number, Port, Clock, Day, Flag, Fine, Text, Types, version_in, is_digit, two_at, is_two_at, is_clock, clock_in, clock_text, is_day, day_in, flag_in, precision_in, is_type, types_in, text_if, value_in, value_text}
use Rattle.fix_settings.specs.Table.{rule_of}
use Rattle.fix_settings.specs.Lawful.{IfHas}
use Rattle.fix_settings.specs.Again.{has_no_lf, IsLineText}
use Rattle.fix_settings.proofs.SaysLemmas.{high_line, number_line, number_again, number_bounds, some_number}

pub record SaysAgain (f : Form) (v : Value) : Type 0 where
  pub text : IsLineText (value_text v)
  pub says : value_in f (value_text v) ≡ Some v

abbrev pub IfSaysAgain : Form → Option Value → Type 0
IfSaysAgain f o = IfHas (SaysAgain f) o

pub mapped : {A : Type 0} (P : Value → Type 0) (g : A → Value) (o : Option A) → ((a : A) → o ≡ Some a → P (g a)) → IfHas P (option_map g o)
mapped P g None each = tt
mapped P g (Some a) each = each a refl

computed : (f : Form) (v : Value) → has_no_lf (value_text v) ≡ true → trim_front (value_text v) ≡ value_text v → trim_back (value_text v) ≡ value_text v → value_in f (value_text v) ≡ Some v → SaysAgain f v
computed f v one_line front back says = record { text = record { one_line = one_line; front = front; back = back }; says = says }

version_value : (b : Begin) → SaysAgain form.Version (Version b)
version_value Fix42 = computed form.Version (Version Fix42) refl refl refl refl
version_value Fix44 = computed form.Version (Version Fix44) refl refl refl refl

flag_value : (b : Bool) → SaysAgain form.Flag (Flag b)
flag_value true = computed form.Flag (Flag true) refl refl refl refl
flag_value false = computed form.Flag (Flag false) refl refl refl refl

precision_value : (p : Precision) → SaysAgain form.Precision (Fine p)
precision_value Seconds = computed form.Precision (Fine Seconds) refl refl refl refl
precision_value Millis = computed form.Precision (Fine Millis) refl refl refl refl
precision_value Micros = computed form.Precision (Fine Micros) refl refl refl refl

no_value : (b : Bool) → IfSaysAgain form.OnlyN (if b then Some (Flag false) else None)
no_value true = computed form.OnlyN (Flag false) refl refl refl refl
no_value false = tt

number_value : (low high n : ℕ) → nat_le high 999999999 ≡ true → low ≤ n → n ≤ high → SaysAgain (form.Number low high) (Number n)
number_value low high n small above below =
    let most : high ≤ 999999999 = leb-true high 999999999 small in
    record { text = number_line n (omega arith); says = ap (option_map Number) (number_again low high n above below (omega arith)) }

number_said : (low high : ℕ) (t : List ℕ) (n : ℕ) → nat_le high 999999999 ≡ true → number_in low high t ≡ Some n → SaysAgain (form.Number low high) (Number n)
number_said low high t n small e = let b = number_bounds low high t n e in number_value low high n small b.0 b.1

port_said : (t : List ℕ) (n : ℕ) → number_in 1 65535 t ≡ Some n → SaysAgain form.Port (Port n)
port_said t n e =
    let b = number_bounds 1 65535 t n e in
    let below : n ≤ 65535 = b.1 in
    record { text = number_line n (omega arith); says = ap (option_map Port) (number_again 1 65535 n b.0 b.1 (omega arith)) }

-- ---- times of day

digit_is : (d : ℕ) → d < 10 → is_digit (48 + d) ≡ true
digit_is d lt = and_from (nat_le 48 (48 + d)) (nat_le (48 + d) 57) (le-leb 48 (48 + d) (omega arith)) (le-leb (48 + d) 57 (omega arith))

pub record AreTwo (last at : ℕ) (t : List ℕ) (n : ℕ) : Type 0 where
  pub are : is_two_at last at t ≡ true
  pub say : two_at at t ≡ n

two_again : (last at : ℕ) (t : List ℕ) (n : ℕ) → slice_index t at ≡ 48 + n / 10 % 10 → slice_index t (at + 1) ≡ 48 + n % 10 → n ≤ last → last ≤ 99 → AreTwo last at t n
two_again last at t n tens ones below small =
    let say : two_at at t ≡ n = omega (arith, tens, ones) in
    let first : is_digit (slice_index t at) ≡ true = ap is_digit tens ∙ digit_is (n / 10 % 10) (omega arith) in
    let second : is_digit (slice_index t (at + 1)) ≡ true = ap is_digit ones ∙ digit_is (n % 10) (omega arith) in
    record {
      are = and_from (is_digit (slice_index t at)) (is_digit (slice_index t (at + 1)) && nat_le (two_at at t) last) first (and_from (is_digit (slice_index t (at + 1))) (nat_le (two_at at t) last) second (le-leb (two_at at t) last (omega (arith, say))));
      say = say;
    }

clock_from : (t : List ℕ) (h m c s : ℕ) → (length t == 8) ≡ true → (slice_index t 2 == 58) ≡ true → (slice_index t 5 == 58) ≡ true → AreTwo 23 0 t h → AreTwo 59 3 t m → AreTwo 59 6 t c → h * 3600 + m * 60 + c ≡ s → clock_in t ≡ Some s
clock_from t h m c s long first second hours minutes seconds is =
    let clock : is_clock t ≡ true = and_from (length t == 8) _ long (and_from (slice_index t 2 == 58) _ first (and_from (slice_index t 5 == 58) _ second
    (and_from (is_two_at 23 0 t) _ hours.are (and_from (is_two_at 59 3 t) (is_two_at 59 6 t) minutes.are seconds.are)))) in
    let value : two_at 0 t * 3600 + two_at 3 t * 60 + two_at 6 t ≡ s = omega (arith, hours.say, minutes.say, seconds.say, is) in
    rw (clock, value) refl

clock_again : (s : ℕ) → s < 86400 → clock_in (clock_text s) ≡ Some s
clock_again s lt = clock_from (clock_text s) (s / 3600) (s / 60 % 60) (s % 60) s refl refl refl
    (two_again 23 0 (clock_text s) (s / 3600) refl refl (omega arith) (omega arith))
    (two_again 59 3 (clock_text s) (s / 60 % 60) refl refl (omega arith) (omega arith))
    (two_again 59 6 (clock_text s) (s % 60) refl refl (omega arith) (omega arith))
    (omega arith)

two_below : (last at : ℕ) (t : List ℕ) → is_two_at last at t ≡ true → two_at at t ≤ last
two_below last at t h =
    let p = and_parts (is_digit (slice_index t at)) (is_digit (slice_index t (at + 1)) && nat_le (two_at at t) last) h in
    let q = and_parts (is_digit (slice_index t (at + 1))) (nat_le (two_at at t) last) p.1 in
    leb-true (two_at at t) last q.1

-- a time of day is less than a day behind midnight
pub clock_bound : (t : List ℕ) (s : ℕ) → clock_in t ≡ Some s → s < 86400
clock_bound t s e =
    let o = some_number (is_clock t) (two_at 0 t * 3600 + two_at 3 t * 60 + two_at 6 t) s e in
    let a = and_parts (length t == 8) _ o.0 in
    let b = and_parts (slice_index t 2 == 58) _ a.1 in
    let c = and_parts (slice_index t 5 == 58) _ b.1 in
    let d = and_parts (is_two_at 23 0 t) (is_two_at 59 3 t && is_two_at 59 6 t) c.1 in
    let f = and_parts (is_two_at 59 3 t) (is_two_at 59 6 t) d.1 in
    omega (arith, o.1, two_below 23 0 t d.0, two_below 59 3 t f.0, two_below 59 6 t f.1)

clock_high : (s : ℕ) → AllByRecursion (λ b. 48 ≤ b) (clock_text s)
clock_high s = (omega arith, (omega arith, (omega arith, (omega arith, (omega arith, (omega arith, (omega arith, (omega arith, tt))))))))

clock_said : (t : List ℕ) (s : ℕ) → clock_in t ≡ Some s → SaysAgain form.Clock (Clock s)
clock_said t s e = record { text = high_line (clock_text s) (clock_high s); says = ap (option_map Clock) (clock_again s (clock_bound t s e)) }

-- ---- days

pub found_among : {A : Type 0} (p : A → Bool) (xs : List A) (a : A) → find p xs ≡ Some a → Among a xs
found_among p [] a e = cc
found_among p (x ∷ xs) a e = elim (cases_Bool (p x)) [
  | inl t ↦ (let s : Some x ≡ Some a = rw t at e in let is : x ≡ a = cc in subst (λ y. Among y (x ∷ xs)) is here)
  | inr f ↦ there (found_among p xs a (rw f at e))
]

pub all_at : {A : Type 0} (P : A → Type 0) {a : A} {xs : List A} → Among a xs → AllByRecursion P xs → P a
all_at P here all = all.0
all_at P (there m) all = all_at P m all.1

abbrev DaySaysAgain : ℕ → Type 0
DaySaysAgain d = SaysAgain form.Day (Day d)

week : AllByRecursion DaySaysAgain (1 ∷ 2 ∷ 3 ∷ 4 ∷ 5 ∷ 6 ∷ 7 ∷ [])
week = (
  computed form.Day (Day 1) refl refl refl refl,
  (
    computed form.Day (Day 2) refl refl refl refl,
    (
      computed form.Day (Day 3) refl refl refl refl,
      (
        computed form.Day (Day 4) refl refl refl refl,
        (
          computed form.Day (Day 5) refl refl refl refl,
          (
            computed form.Day (Day 6) refl refl refl refl,
            (computed form.Day (Day 7) refl refl refl refl, tt),
          ),
        ),
      ),
    ),
  ),
)

day_said : (t : List ℕ) (d : ℕ) → day_in t ≡ Some d → DaySaysAgain d
day_said t d e = all_at DaySaysAgain (found_among (is_day t) (1 ∷ 2 ∷ 3 ∷ 4 ∷ 5 ∷ 6 ∷ 7 ∷ []) d e) week

-- ---- texts

text_value : (f : Form) (passes : Bool) (t : List ℕ) → IsLineText t → value_in f t ≡ text_if passes t → IfSaysAgain f (text_if passes t)
text_value f true t is e = record { text = is; says = e }
text_value f false t is e = tt

abbrev joined : List (List ℕ) → List ℕ
joined ts = join_by (λ t. t) (44 ∷ []) ts

joined_onto : (b : ℕ) (ts : List (List ℕ)) → 0 < length ts → joined (onto_first b ts) ≡ b ∷ joined ts
joined_onto b [] some = absurd (omega (arith, some))
joined_onto b (t ∷ ts) some = refl

joined_cut : (ts : List (List ℕ)) → 0 < length ts → joined ([] ∷ ts) ≡ 44 ∷ joined ts
joined_cut [] some = absurd (omega (arith, some))
joined_cut (t ∷ ts) some = refl

some_pieces : (t : List ℕ) → 0 < length (slice_split (λ b. b == 44) t)
some_pieces t = omega (arith, length-slice_split (λ b. b == 44) t)

-- what was cut at its commas is joined by them
pieces_joined : (t : List ℕ) → joined (slice_split (λ b. b == 44) t) ≡ t
pieces_joined [] = refl
pieces_joined (b ∷ bs) = elim (cases_Bool (b == 44)) [
  | inl t ↦ rw t (joined_cut (slice_split (λ c. c == 44) bs) (some_pieces bs) ∙ ap (λ x. 44 ∷ x) (pieces_joined bs) ∙ ap (λ x. x ∷ bs) (sym (eqb-true b 44 t)))
  | inr f ↦ rw f (joined_onto b (slice_split (λ c. c == 44) bs) (some_pieces bs) ∙ ap (λ x. b ∷ x) (pieces_joined bs))
]

types_value : (passes : Bool) (t : List ℕ) → IsLineText t → types_in t ≡ (if passes then Some (slice_split (λ b. b == 44) t) else None) → IfSaysAgain form.Types (option_map Types (if passes then Some (slice_split (λ b. b == 44) t) else None))
types_value true t is e = record {
  text = subst IsLineText (sym (pieces_joined t)) is;
  says = ap (λ x. option_map Types (types_in x)) (pieces_joined t) ∙ ap (option_map Types) e;
}
types_value false t is e = tt

-- ---- all forms

-- bounds of numbers are far from those of a machine's word
abbrev pub is_near : Form → Bool
is_near form.Version = true
is_near form.CompId = true
is_near (form.Number low high) = nat_le high 999999999
is_near form.Port = true
is_near form.Clock = true
is_near form.Day = true
is_near form.Utc = true
is_near form.Rule = true
is_near form.Flag = true
is_near form.OnlyN = true
is_near form.Text = true
is_near form.Precision = true
is_near form.Types = true

-- a value that a text in a line says
pub said_again : (f : Form) (t : List ℕ) → is_near f ≡ true → IsLineText t → IfSaysAgain f (value_in f t)
said_again form.Version t near is = mapped (SaysAgain form.Version) Version (version_in t) (λ b e. version_value b)
said_again form.CompId t near is = text_value form.CompId (is_comp_id t) t is refl
said_again (form.Number low high) t near is = mapped (SaysAgain (form.Number low high)) Number (number_in low high t) (λ n e. number_said low high t n near e)
said_again form.Port t near is = mapped (SaysAgain form.Port) Port (number_in 1 65535 t) (λ n e. port_said t n e)
said_again form.Clock t near is = mapped (SaysAgain form.Clock) Clock (clock_in t) (λ s e. clock_said t s e)
said_again form.Day t near is = mapped (SaysAgain form.Day) Day (day_in t) (λ d e. day_said t d e)
said_again form.Utc t near is = text_value form.Utc (bytes_eq t (codes "UTC")) t is refl
said_again form.Rule t near is = record { text = is; says = refl }
said_again form.Flag t near is = mapped (SaysAgain form.Flag) Flag (flag_in t) (λ b e. flag_value b)
said_again form.OnlyN t near is = no_value (bytes_eq t (codes "N"))
said_again form.Text t near is = text_value form.Text (nat_lt 0 (length t)) t is refl
said_again form.Precision t near is = mapped (SaysAgain form.Precision) Fine (precision_in t) (λ p e. precision_value p)
said_again form.Types t near is = types_value (list_all is_type (slice_split (λ b. b == 44) t)) t is refl

pub key_near : (k : Key) → is_near (rule_of k).form ≡ true
key_near key.BeginString = refl
key_near key.SenderCompID = refl
key_near key.TargetCompID = refl
key_near key.HeartBtInt = refl
key_near key.StartTime = refl
key_near key.EndTime = refl
key_near key.StartDay = refl
key_near key.EndDay = refl
key_near key.TimeZone = refl
key_near key.ZoneRule = refl
key_near key.ReconnectInterval = refl
key_near key.LogonTimeout = refl
key_near key.LogoutTimeout = refl
key_near key.ResetOnLogon = refl
key_near key.ResetOnLogout = refl
key_near key.ResetOnDisconnect = refl
key_near key.ResendRequestChunkSize = refl
key_near key.CheckLatency = refl
key_near key.MaxLatency = refl
key_near key.DataDictionary = refl
key_near key.ValidateFieldsOutOfOrder = refl
key_near key.RejectInvalidMessage = refl
key_near key.PersistMessages = refl
key_near key.SocketConnectHost = refl
key_near key.SocketConnectPort = refl
key_near key.SocketAcceptHost = refl
key_near key.SocketAcceptPort = refl
key_near key.FileStorePath = refl
key_near key.TimeStampPrecision = refl
key_near key.AppTypes = refl

-- the table's own values
pub standard_again : (k : Key) → IfSaysAgain (rule_of k).form (rule_of k).default
standard_again key.BeginString = tt
standard_again key.SenderCompID = tt
standard_again key.TargetCompID = tt
standard_again key.HeartBtInt = number_value 0 86400 30 refl (omega arith) (omega arith)
standard_again key.StartTime = tt
standard_again key.EndTime = tt
standard_again key.StartDay = tt
standard_again key.EndDay = tt
standard_again key.TimeZone = computed form.Utc (Text (codes "UTC")) refl refl refl refl
standard_again key.ZoneRule = tt
standard_again key.ReconnectInterval = number_value 1 86400 30 refl (omega arith) (omega arith)
standard_again key.LogonTimeout = number_value 1 86400 10 refl (omega arith) (omega arith)
standard_again key.LogoutTimeout = number_value 1 86400 2 refl (omega arith) (omega arith)
standard_again key.ResetOnLogon = computed form.OnlyN (Flag false) refl refl refl refl
standard_again key.ResetOnLogout = flag_value false
standard_again key.ResetOnDisconnect = flag_value false
standard_again key.ResendRequestChunkSize = number_value 0 999999999 0 refl (omega arith) (omega arith)
standard_again key.CheckLatency = flag_value true
standard_again key.MaxLatency = number_value 1 86400 120 refl (omega arith) (omega arith)
standard_again key.DataDictionary = tt
standard_again key.ValidateFieldsOutOfOrder = flag_value true
standard_again key.RejectInvalidMessage = flag_value true
standard_again key.PersistMessages = flag_value true
standard_again key.SocketConnectHost = tt
standard_again key.SocketConnectPort = tt
standard_again key.SocketAcceptHost = computed form.Text (Text (codes "127.0.0.1")) refl refl refl refl
standard_again key.SocketAcceptPort = tt
standard_again key.FileStorePath = tt
standard_again key.TimeStampPrecision = precision_value Millis
standard_again key.AppTypes = tt
