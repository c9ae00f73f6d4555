-- Printed lines are read as what they print.
use Rattle.std.proofs.Common.{◌≡◌, ℕ, ◌+◌, ◌==◌, not, Bool, true, false, List, [], ◌∷◌, ◌++◌, map, Option, Some, None, codes, refl, ap, ◌∙◌, append_assoc}
use Rattle.std.specs.Prelude.{flat_map}
use Rattle.std.specs.List.{AllByRecursion}
use Rattle.std.proofs.lemmas.Bool.{and_parts}
use Rattle.fix_settings.specs.declared.key.Key.{Key}
use Rattle.fix_settings.specs.declared.key.Key.TheVariants as key
use Rattle.fix_settings.specs.declared.session_settings.SessionSettings.{SessionSettings}
use Rattle.fix_settings.specs.Lines.{Pair, Line, Passed, Given, trim_front, trim_back, unless_blank, trimmed, lines_of, line_of, trimmed_line, pair_of, numbered}
use Rattle.fix_settings.specs.Forms.{Value, value_text}
use Rattle.fix_settings.specs.Table.{name_of, setting_of}
use Rattle.fix_settings.specs.Printing.{setting_line, ignored_line}
use Rattle.fix_settings.specs.Again.{IsLineText, has_no_lf}

-- ---- one line

pub not_true : (x : Bool) → not x ≡ true → x ≡ false
not_true true e = cc
not_true false e = refl

-- a line before its LF
pub line_first : (line rest : List ℕ) → has_no_lf line ≡ true → lines_of (line ++ 10 ∷ rest) ≡ line ∷ lines_of rest
line_first [] rest h = refl
line_first (b ∷ bs) rest h =
    let p = and_parts (not (b == 10)) (has_no_lf bs) h in
    let f : (b == 10) ≡ false = not_true (b == 10) p.0 in
    rw (f, line_first bs rest p.1) refl

unless_first : (b : ℕ) (front : List ℕ) (x : ℕ) (xs : List ℕ) → unless_blank b (front ++ x ∷ xs) ≡ b ∷ front ++ x ∷ xs
unless_first b [] x xs = refl
unless_first b (a ∷ front) x xs = refl

back_more : (front w : List ℕ) (x : ℕ) (xs : List ℕ) → trim_back w ≡ x ∷ xs → trim_back (front ++ w) ≡ front ++ x ∷ xs
back_more [] w x xs h = h
back_more (a ∷ front) w x xs h = ap (unless_blank a) (back_more front w x xs h) ∙ unless_first a front x xs

equals_more : (v : List ℕ) → trim_back v ≡ v → trim_back (61 ∷ v) ≡ 61 ∷ v
equals_more [] h = refl
equals_more (b ∷ bs) h = ap (unless_blank 61) h

key_front : (k : Key) (w : List ℕ) → trim_front (name_of k ++ w) ≡ name_of k ++ w
key_front key.BeginString w = refl
key_front key.SenderCompID w = refl
key_front key.TargetCompID w = refl
key_front key.HeartBtInt w = refl
key_front key.StartTime w = refl
key_front key.EndTime w = refl
key_front key.StartDay w = refl
key_front key.EndDay w = refl
key_front key.TimeZone w = refl
key_front key.ZoneRule w = refl
key_front key.ReconnectInterval w = refl
key_front key.LogonTimeout w = refl
key_front key.LogoutTimeout w = refl
key_front key.ResetOnLogon w = refl
key_front key.ResetOnLogout w = refl
key_front key.ResetOnDisconnect w = refl
key_front key.ResendRequestChunkSize w = refl
key_front key.CheckLatency w = refl
key_front key.MaxLatency w = refl
key_front key.DataDictionary w = refl
key_front key.ValidateFieldsOutOfOrder w = refl
key_front key.RejectInvalidMessage w = refl
key_front key.PersistMessages w = refl
key_front key.SocketConnectHost w = refl
key_front key.SocketConnectPort w = refl
key_front key.SocketAcceptHost w = refl
key_front key.SocketAcceptPort w = refl
key_front key.FileStorePath w = refl
key_front key.TimeStampPrecision w = refl
key_front key.AppTypes w = refl

key_line : (n : ℕ) (k : Key) (v : List ℕ) → trimmed_line n (name_of k ++ 61 ∷ v) ≡ pair_of n (name_of k) (trimmed v)
key_line n key.BeginString v = refl
key_line n key.SenderCompID v = refl
key_line n key.TargetCompID v = refl
key_line n key.HeartBtInt v = refl
key_line n key.StartTime v = refl
key_line n key.EndTime v = refl
key_line n key.StartDay v = refl
key_line n key.EndDay v = refl
key_line n key.TimeZone v = refl
key_line n key.ZoneRule v = refl
key_line n key.ReconnectInterval v = refl
key_line n key.LogonTimeout v = refl
key_line n key.LogoutTimeout v = refl
key_line n key.ResetOnLogon v = refl
key_line n key.ResetOnLogout v = refl
key_line n key.ResetOnDisconnect v = refl
key_line n key.ResendRequestChunkSize v = refl
key_line n key.CheckLatency v = refl
key_line n key.MaxLatency v = refl
key_line n key.DataDictionary v = refl
key_line n key.ValidateFieldsOutOfOrder v = refl
key_line n key.RejectInvalidMessage v = refl
key_line n key.PersistMessages v = refl
key_line n key.SocketConnectHost v = refl
key_line n key.SocketConnectPort v = refl
key_line n key.SocketAcceptHost v = refl
key_line n key.SocketAcceptPort v = refl
key_line n key.FileStorePath v = refl
key_line n key.TimeStampPrecision v = refl
key_line n key.AppTypes v = refl

key_pair : (n : ℕ) (k : Key) (v : List ℕ) → pair_of n (name_of k) v ≡ Given (record { line = n; key = name_of k; value = v })
key_pair n key.BeginString v = refl
key_pair n key.SenderCompID v = refl
key_pair n key.TargetCompID v = refl
key_pair n key.HeartBtInt v = refl
key_pair n key.StartTime v = refl
key_pair n key.EndTime v = refl
key_pair n key.StartDay v = refl
key_pair n key.EndDay v = refl
key_pair n key.TimeZone v = refl
key_pair n key.ZoneRule v = refl
key_pair n key.ReconnectInterval v = refl
key_pair n key.LogonTimeout v = refl
key_pair n key.LogoutTimeout v = refl
key_pair n key.ResetOnLogon v = refl
key_pair n key.ResetOnLogout v = refl
key_pair n key.ResetOnDisconnect v = refl
key_pair n key.ResendRequestChunkSize v = refl
key_pair n key.CheckLatency v = refl
key_pair n key.MaxLatency v = refl
key_pair n key.DataDictionary v = refl
key_pair n key.ValidateFieldsOutOfOrder v = refl
key_pair n key.RejectInvalidMessage v = refl
key_pair n key.PersistMessages v = refl
key_pair n key.SocketConnectHost v = refl
key_pair n key.SocketConnectPort v = refl
key_pair n key.SocketAcceptHost v = refl
key_pair n key.SocketAcceptPort v = refl
key_pair n key.FileStorePath v = refl
key_pair n key.TimeStampPrecision v = refl
key_pair n key.AppTypes v = refl

key_no_lf : (k : Key) (v : List ℕ) → has_no_lf (name_of k ++ 61 ∷ v) ≡ has_no_lf v
key_no_lf key.BeginString v = refl
key_no_lf key.SenderCompID v = refl
key_no_lf key.TargetCompID v = refl
key_no_lf key.HeartBtInt v = refl
key_no_lf key.StartTime v = refl
key_no_lf key.EndTime v = refl
key_no_lf key.StartDay v = refl
key_no_lf key.EndDay v = refl
key_no_lf key.TimeZone v = refl
key_no_lf key.ZoneRule v = refl
key_no_lf key.ReconnectInterval v = refl
key_no_lf key.LogonTimeout v = refl
key_no_lf key.LogoutTimeout v = refl
key_no_lf key.ResetOnLogon v = refl
key_no_lf key.ResetOnLogout v = refl
key_no_lf key.ResetOnDisconnect v = refl
key_no_lf key.ResendRequestChunkSize v = refl
key_no_lf key.CheckLatency v = refl
key_no_lf key.MaxLatency v = refl
key_no_lf key.DataDictionary v = refl
key_no_lf key.ValidateFieldsOutOfOrder v = refl
key_no_lf key.RejectInvalidMessage v = refl
key_no_lf key.PersistMessages v = refl
key_no_lf key.SocketConnectHost v = refl
key_no_lf key.SocketConnectPort v = refl
key_no_lf key.SocketAcceptHost v = refl
key_no_lf key.SocketAcceptPort v = refl
key_no_lf key.FileStorePath v = refl
key_no_lf key.TimeStampPrecision v = refl
key_no_lf key.AppTypes v = refl

-- a printed setting
pub setting_read : (n : ℕ) (k : Key) (v : List ℕ) → IsLineText v → line_of n (name_of k ++ 61 ∷ v) ≡ Given (record { line = n; key = name_of k; value = v })
setting_read n k v is =
    let back : trim_back (name_of k ++ 61 ∷ v) ≡ name_of k ++ 61 ∷ v = back_more (name_of k) (61 ∷ v) 61 v (equals_more v is.back) in
    let whole : trimmed (name_of k ++ 61 ∷ v) ≡ name_of k ++ 61 ∷ v = ap trim_back (key_front k (61 ∷ v)) ∙ back in
    let value : trimmed v ≡ v = ap trim_back is.front ∙ is.back in
    ap (trimmed_line n) whole ∙ key_line n k v ∙ ap (pair_of n (name_of k)) value ∙ key_pair n k v

-- ---- the lines of a session

-- the pairs that are printed of these keys
pub data Written (s : SessionSettings) : List Key → List Pair → Type 0 where
  done : Written s [] []
  skip : (k : Key) {ks : List Key} {ps : List Pair} → setting_of s k ≡ None → Written s ks ps → Written s (k ∷ ks) ps
  pair : (k : Key) {ks : List Key} {ps : List Pair} (n : ℕ) (v : Value) → setting_of s k ≡ Some v → Written s ks ps → Written s (k ∷ ks) (record { line = n; key = name_of k; value = value_text v } ∷ ps)

-- the first lines are these pairs, and the rest has this text
pub record PairsFirst (s : SessionSettings) (keys : List Key) (lines : List Line) (rest : List ℕ) : Type 0 where
  pub pairs : List Pair
  pub next : ℕ
  pub written : Written s keys pairs
  pub are : lines ≡ map Given pairs ++ numbered next (lines_of rest)

line_spelled : (k : Key) (v : Value) (rest : List ℕ) → setting_line k (Some v) ++ rest ≡ (name_of k ++ 61 ∷ value_text v) ++ 10 ∷ rest
line_spelled k v rest =
    let a : name_of k ++ 61 ∷ [] ++ value_text v ≡ name_of k ++ 61 ∷ value_text v = append_assoc (name_of k) (61 ∷ []) (value_text v) in
    append_assoc (name_of k ++ 61 ∷ [] ++ value_text v) (10 ∷ []) rest ∙ ap (λ t. t ++ 10 ∷ rest) a

abbrev pub keys_text : SessionSettings → List Key → List ℕ
keys_text s keys = flat_map (λ k. setting_line k (setting_of s k)) keys

pairs_none : (s : SessionSettings) (n : ℕ) (k : Key) (keys : List Key) (rest : List ℕ) (o : Option Value) → setting_of s k ≡ None → o ≡ None → PairsFirst s keys (numbered n (lines_of (keys_text s keys ++ rest))) rest → PairsFirst s (k ∷ keys) (numbered n (lines_of ((setting_line k o ++ keys_text s keys) ++ rest))) rest
pairs_none s n k keys rest o e is p = record {
  pairs = p.pairs;
  next = p.next;
  written = skip k e p.written;
  are = ap (λ o. numbered n (lines_of ((setting_line k o ++ keys_text s keys) ++ rest))) is ∙ p.are;
}

pairs_some : (s : SessionSettings) (n : ℕ) (k : Key) (v : Value) (keys : List Key) (rest : List ℕ) (o : Option Value) → setting_of s k ≡ Some v → o ≡ Some v → IsLineText (value_text v) → PairsFirst s keys (numbered (n + 1) (lines_of (keys_text s keys ++ rest))) rest → PairsFirst s (k ∷ keys) (numbered n (lines_of ((setting_line k o ++ keys_text s keys) ++ rest))) rest
pairs_some s n k v keys rest o e is text p =
    let line = name_of k ++ 61 ∷ value_text v in
    let spelled : (setting_line k (Some v) ++ keys_text s keys) ++ rest ≡ line ++ 10 ∷ (keys_text s keys ++ rest) =
    append_assoc (setting_line k (Some v)) (keys_text s keys) rest ∙ line_spelled k v (keys_text s keys ++ rest) in
    let first : lines_of (line ++ 10 ∷ (keys_text s keys ++ rest)) ≡ line ∷ lines_of (keys_text s keys ++ rest) = line_first line (keys_text s keys ++ rest) (key_no_lf k (value_text v) ∙ text.one_line) in
    record {
      pairs = record { line = n; key = name_of k; value = value_text v } ∷ p.pairs;
      next = p.next;
      written = pair k n v e p.written;
      are = ap (λ o. numbered n (lines_of ((setting_line k o ++ keys_text s keys) ++ rest))) is ∙ ap (λ t. numbered n (lines_of t)) spelled ∙ ap (numbered n) first
          ∙ ap (λ l. l ∷ numbered (n + 1) (lines_of (keys_text s keys ++ rest))) (setting_read n k (value_text v) text)
          ∙ ap (λ ls. Given (record { line = n; key = name_of k; value = value_text v }) ∷ ls) p.are;
    }

pub pairs_first : (s : SessionSettings) → ((k : Key) (v : Value) → setting_of s k ≡ Some v → IsLineText (value_text v)) → (n : ℕ) (keys : List Key) (rest : List ℕ) → PairsFirst s keys (numbered n (lines_of (keys_text s keys ++ rest))) rest
pairs_first s texts n [] rest = record { pairs = []; next = n; written = done; are = refl }
pairs_first s texts n (k ∷ keys) rest = by_value (setting_of s k) refl (λ m. pairs_first s texts m keys rest)
  where
    by_value : (o : Option Value) → setting_of s k ≡ o → ((m : ℕ) → PairsFirst s keys (numbered m (lines_of (keys_text s keys ++ rest))) rest) → PairsFirst s (k ∷ keys) (numbered n (lines_of ((setting_line k (setting_of s k) ++ keys_text s keys) ++ rest))) rest
    by_value None e more = pairs_none s n k keys rest (setting_of s k) e e (more n)
    by_value (Some v) e more = pairs_some s n k v keys rest (setting_of s k) e e (texts k v e) (more (n + 1))

-- ---- ignored keys

pub data AllPassed : List Line → Type 0 where
  no : AllPassed []
  one : {lines : List Line} → AllPassed lines → AllPassed (Passed ∷ lines)

pub record PassedFirst (lines : List Line) (rest : List ℕ) : Type 0 where
  pub passed : List Line
  pub next : ℕ
  pub all : AllPassed passed
  pub are : lines ≡ passed ++ numbered next (lines_of rest)

hash_line : (n : ℕ) (t : List ℕ) → trimmed_line n (unless_blank 35 t) ≡ Passed
hash_line n [] = refl
hash_line n (b ∷ bs) = refl

ignored_read : (n : ℕ) (name : List ℕ) → line_of n (codes "# ignored " ++ name) ≡ Passed
ignored_read n name = hash_line n (trim_back (codes " ignored " ++ name))

ignored_spelled : (name rest : List ℕ) → ignored_line name ++ rest ≡ (codes "# ignored " ++ name) ++ 10 ∷ rest
ignored_spelled name rest = append_assoc (codes "# ignored " ++ name) (10 ∷ []) rest

pub passed_first : (n : ℕ) (names : List (List ℕ)) (rest : List ℕ) → AllByRecursion (λ name. has_no_lf name ≡ true) names → PassedFirst (numbered n (lines_of (flat_map ignored_line names ++ rest))) rest
passed_first n [] rest all = record { passed = []; next = n; all = no; are = refl }
passed_first n (name ∷ names) rest all =
    let p = passed_first (n + 1) names rest all.1 in
    let behind = flat_map ignored_line names ++ rest in
    let spelled : (ignored_line name ++ flat_map ignored_line names) ++ rest ≡ (codes "# ignored " ++ name) ++ 10 ∷ behind = append_assoc (ignored_line name) (flat_map ignored_line names) rest ∙ ignored_spelled name behind in
    record {
      passed = Passed ∷ p.passed;
      next = p.next;
      all = one p.all;
      are = ap (λ t. numbered n (lines_of t)) spelled ∙ ap (numbered n) (line_first (codes "# ignored " ++ name) behind all.0)
          ∙ ap (λ l. l ∷ numbered (n + 1) (lines_of behind)) (ignored_read n name) ∙ ap (λ ls. Passed ∷ ls) p.are;
    }
