-- Values of UTF-8 texts are UTF-8.
use Rattle.std.proofs.Common.{◌≡◌, ℕ, zero, suc, ◌≤◌, ◌==◌, Bool, true, false, List, ◌∷◌, ◌++◌, length, Option, Some, None, option_map, bytes_eq, codes, nat_lt, refl, sym, subst, arith, if◌then◌else◌}
use Rattle.std.specs.Str.{IsUtf8}
use Rattle.std.specs.List.{AllByRecursion, slice_split, list_all}
use Rattle.fix_base.specs.Session.{is_comp_id}
use Rattle.fix_base.specs.Says.{number_in}
use Rattle.fix_settings.specs.declared.key.Key.{Key}
use Rattle.fix_settings.specs.declared.key.Key.TheVariants as key
use Rattle.fix_settings.specs.declared.form.Form.{Form}
use Rattle.fix_settings.specs.declared.form.Form.TheVariants as form
use Rattle.fix_settings.specs.Lines.{Pair, cut_at}
use Rattle.fix_settings.specs.Forms.{Version, Number, Port, Clock, Day, Flag, Fine, Types, value_in, text_if, version_in, clock_in, day_in, flag_in, precision_in, is_type}
use Rattle.fix_settings.specs.Table.{rule_of}
use Rattle.fix_settings.specs.Reading.{value_from, pair_for}
use Rattle.fix_settings.specs.Lawful.{ValueUtf8, IfHas}
use Rattle.fix_settings.proofs.FormLemmas.{piece_cut, one_piece}
use Rattle.fix_settings.proofs.CutLemmas.{cut_is}
use Rattle.fix_settings.proofs.PairLemmas.{IfPair, for_has}
use Rattle.fix_settings.proofs.ValueLemmas.{mapped}
use Rattle.fix_settings.proofs.TextLemmas.{utf8_front, utf8_behind, PairUtf8}

pieces_from : (n : ℕ) (text : List ℕ) (o : Option (List ℕ × List ℕ)) → length text ≤ n → cut_at 44 text ≡ o → IsUtf8 text → AllByRecursion IsUtf8 (slice_split (λ b. b == 44) text)
pieces_from n text None le e u = subst (AllByRecursion IsUtf8) (sym (one_piece text e)) (u, tt)
pieces_from zero text (Some p) le e u = let c = piece_cut text p.0 p.1 e in absurd (omega (arith, c.shorter))
pieces_from (suc n) text (Some p) le e u =
    let c = piece_cut text p.0 p.1 e in
    let is : IsUtf8 (p.0 ++ 44 ∷ p.1) = subst IsUtf8 (cut_is 44 text p.0 p.1 e) u in
    let fewer : length p.1 ≤ n = omega (arith, c.shorter) in
    subst (AllByRecursion IsUtf8) (sym c.pieces) (utf8_front p.0 44 p.1 (omega arith) is, pieces_from n p.1 (cut_at 44 p.1) fewer refl (utf8_behind p.0 44 p.1 (omega arith) is))

pieces_utf8 : (text : List ℕ) → IsUtf8 text → AllByRecursion IsUtf8 (slice_split (λ b. b == 44) text)
pieces_utf8 text u = pieces_from (length text) text (cut_at 44 text) (omega arith) refl u

text_utf8 : (b : Bool) (text : List ℕ) → IsUtf8 text → IfHas ValueUtf8 (text_if b text)
text_utf8 true text u = u
text_utf8 false text u = tt

types_utf8 : (b : Bool) (ts : List (List ℕ)) → AllByRecursion IsUtf8 ts → IfHas ValueUtf8 (option_map Types (if b then Some ts else None))
types_utf8 true ts u = u
types_utf8 false ts u = tt

no_utf8 : (b : Bool) → IfHas ValueUtf8 (if b then Some (Flag false) else None)
no_utf8 true = tt
no_utf8 false = tt

value_utf8 : (f : Form) (text : List ℕ) → IsUtf8 text → IfHas ValueUtf8 (value_in f text)
value_utf8 form.Version text u = mapped ValueUtf8 Version (version_in text) (λ a e. tt)
value_utf8 form.CompId text u = text_utf8 (is_comp_id text) text u
value_utf8 (form.Number low high) text u = mapped ValueUtf8 Number (number_in low high text) (λ a e. tt)
value_utf8 form.Port text u = mapped ValueUtf8 Port (number_in 1 65535 text) (λ a e. tt)
value_utf8 form.Clock text u = mapped ValueUtf8 Clock (clock_in text) (λ a e. tt)
value_utf8 form.Day text u = mapped ValueUtf8 Day (day_in text) (λ a e. tt)
value_utf8 form.Utc text u = text_utf8 (bytes_eq text (codes "UTC")) text u
value_utf8 form.Rule text u = u
value_utf8 form.Flag text u = mapped ValueUtf8 Flag (flag_in text) (λ a e. tt)
value_utf8 form.OnlyN text u = no_utf8 (bytes_eq text (codes "N"))
value_utf8 form.Text text u = text_utf8 (nat_lt 0 (length text)) text u
value_utf8 form.Precision text u = mapped ValueUtf8 Fine (precision_in text) (λ a e. tt)
value_utf8 form.Types text u = types_utf8 (list_all is_type (slice_split (λ b. b == 44) text)) (slice_split (λ b. b == 44) text) (pieces_utf8 text u)

standard_utf8 : (k : Key) → IfHas ValueUtf8 (rule_of k).default
unfolding lib.Utf8.encode
standard_utf8 key.BeginString = tt
standard_utf8 key.SenderCompID = tt
standard_utf8 key.TargetCompID = tt
standard_utf8 key.HeartBtInt = tt
standard_utf8 key.StartTime = tt
standard_utf8 key.EndTime = tt
standard_utf8 key.StartDay = tt
standard_utf8 key.EndDay = tt
standard_utf8 key.TimeZone = (codes "UTC", (refl, refl))
standard_utf8 key.ZoneRule = tt
standard_utf8 key.ReconnectInterval = tt
standard_utf8 key.LogonTimeout = tt
standard_utf8 key.LogoutTimeout = tt
standard_utf8 key.ResetOnLogon = tt
standard_utf8 key.ResetOnLogout = tt
standard_utf8 key.ResetOnDisconnect = tt
standard_utf8 key.ResendRequestChunkSize = tt
standard_utf8 key.CheckLatency = tt
standard_utf8 key.MaxLatency = tt
standard_utf8 key.DataDictionary = tt
standard_utf8 key.ValidateFieldsOutOfOrder = tt
standard_utf8 key.RejectInvalidMessage = tt
standard_utf8 key.PersistMessages = tt
standard_utf8 key.SocketConnectHost = tt
standard_utf8 key.SocketConnectPort = tt
standard_utf8 key.SocketAcceptHost = (codes "127.0.0.1", (refl, refl))
standard_utf8 key.SocketAcceptPort = tt
standard_utf8 key.FileStorePath = tt
standard_utf8 key.TimeStampPrecision = tt
standard_utf8 key.AppTypes = tt

from_utf8 : (k : Key) (o : Option Pair) → IfPair PairUtf8 o → IfHas ValueUtf8 (value_from (rule_of k) o)
from_utf8 k None u = standard_utf8 k
from_utf8 k (Some p) u = value_utf8 (rule_of k).form p.value u.1

pub for_utf8 : (defaults own : List Pair) (k : Key) → AllByRecursion PairUtf8 defaults → AllByRecursion PairUtf8 own → IfHas ValueUtf8 (value_from (rule_of k) (pair_for defaults own k))
for_utf8 defaults own k d o = from_utf8 k (pair_for defaults own k) (for_has PairUtf8 defaults own k d o)
