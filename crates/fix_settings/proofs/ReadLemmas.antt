-- From pairs in the table's order to the session's settings.
use Rattle.std.proofs.Common.{◌≡◌, ℕ, List, [], ◌∷◌, ◌++◌, map, Option, Some, None, refl, sym, ap, ◌∙◌}
use Rattle.std.specs.Option.{option_or}
use Rattle.std.proofs.lemmas.List.{map-append}
use Rattle.fix_base.specs.Lists.{Among, here, there}
use Rattle.fix_base.specs.Lists.{Among, here, there}
use Rattle.fix_settings.specs.declared.key.Key.{Key}
use Rattle.fix_settings.specs.declared.key.Key.TheVariants as key
use Rattle.fix_settings.specs.declared.key.TheConstants.{KEYS}
use Rattle.fix_settings.specs.declared.fault.SettingsFault.{SettingsFault}
use Rattle.fix_settings.specs.declared.session_settings.SessionSettings.{SessionSettings}
use Rattle.fix_settings.specs.Lines.{Pair, Section}
use Rattle.fix_settings.specs.Table.{rule_of, setting_of}
use Rattle.fix_settings.specs.Lent.{pair_at}
use Rattle.fix_settings.specs.Typed.{shaped}
use Rattle.fix_settings.specs.Reading.{first_some, value_from, key_refusal, keys_refusal, section_refusal, Endpoints, endpoints_from, endpoints_of, IsSession, AreSessions}
use Rattle.fix_settings.proofs.ShapeLemmas.{keeps_shape}

-- the pairs in the table's order, by their keys
at_key : (g : Key → Option Pair) (k : Key) → pair_at (map g KEYS) k ≡ g k
at_key g key.BeginString = refl
at_key g key.SenderCompID = refl
at_key g key.TargetCompID = refl
at_key g key.HeartBtInt = refl
at_key g key.StartTime = refl
at_key g key.EndTime = refl
at_key g key.StartDay = refl
at_key g key.EndDay = refl
at_key g key.TimeZone = refl
at_key g key.ZoneRule = refl
at_key g key.ReconnectInterval = refl
at_key g key.LogonTimeout = refl
at_key g key.LogoutTimeout = refl
at_key g key.ResetOnLogon = refl
at_key g key.ResetOnLogout = refl
at_key g key.ResetOnDisconnect = refl
at_key g key.ResendRequestChunkSize = refl
at_key g key.CheckLatency = refl
at_key g key.MaxLatency = refl
at_key g key.DataDictionary = refl
at_key g key.ValidateFieldsOutOfOrder = refl
at_key g key.RejectInvalidMessage = refl
at_key g key.PersistMessages = refl
at_key g key.SocketConnectHost = refl
at_key g key.SocketConnectPort = refl
at_key g key.SocketAcceptHost = refl
at_key g key.SocketAcceptPort = refl
at_key g key.FileStorePath = refl
at_key g key.TimeStampPrecision = refl
at_key g key.AppTypes = refl

pub table_is : (pairs : List (Option Pair)) (g : Key → Option Pair) → pairs ≡ map g KEYS → pair_at pairs ≡ g
table_is pairs g h = λ i k. (ap (λ ps. pair_at ps k) h ∙ at_key g k) i

-- ---- no key refused

pub or_left : {A : Type 0} (a b : Option A) → option_or a b ≡ None → a ≡ None
or_left None b h = refl
or_left (Some x) b h = h

pub or_right : {A : Type 0} (a b : Option A) → option_or a b ≡ None → b ≡ None
or_right None b h = h
or_right (Some x) b h = cc

none_at : (f : Key → Option SettingsFault) (keys : List Key) (k : Key) → Among k keys → first_some f keys ≡ None → f k ≡ None
none_at f keys k m h = none_among f m h
  where
    none_among : (f : Key → Option SettingsFault) {k : Key} {keys : List Key} → Among k keys → first_some f keys ≡ None → f k ≡ None
    none_among f {k = k} (here {xs = keys}) h = or_left (f k) (first_some f keys) h
    none_among f (there {y = j} {xs = keys} m) h = none_among f m (or_right (f j) (first_some f keys) h)

-- each key stands in the table
pub is_key : (k : Key) → Among k KEYS
is_key key.BeginString = here
is_key key.SenderCompID = there (here)
is_key key.TargetCompID = there (there (here))
is_key key.HeartBtInt = there (there (there (here)))
is_key key.StartTime = there (there (there (there (here))))
is_key key.EndTime = there (there (there (there (there (here)))))
is_key key.StartDay = there (there (there (there (there (there (here))))))
is_key key.EndDay = there (there (there (there (there (there (there (here)))))))
is_key key.TimeZone = there (there (there (there (there (there (there (there (here))))))))
is_key key.ZoneRule = there (there (there (there (there (there (there (there (there (here)))))))))
is_key key.ReconnectInterval = there (there (there (there (there (there (there (there (there (there (here))))))))))
is_key key.LogonTimeout = there (there (there (there (there (there (there (there (there (there (there (here)))))))))))
is_key key.LogoutTimeout = there (there (there (there (there (there (there (there (there (there (there (there (here))))))))))))
is_key key.ResetOnLogon = there (there (there (there (there (there (there (there (there (there (there (there (there (here)))))))))))))
is_key key.ResetOnLogout = there (there (there (there (there (there (there (there (there (there (there (there (there (there (here))))))))))))))
is_key key.ResetOnDisconnect = there (there (there (there (there (there (there (there (there (there (there (there (there (there (there (here)))))))))))))))
is_key key.ResendRequestChunkSize = there (there (there (there (there (there (there (there (there (there (there (there (there (there (there (there (here))))))))))))))))
is_key key.CheckLatency = there (there (there (there (there (there (there (there (there (there (there (there (there (there (there (there (there (here)))))))))))))))))
is_key key.MaxLatency = there (there (there (there (there (there (there (there (there (there (there (there (there (there (there (there (there (there (here))))))))))))))))))
is_key key.DataDictionary = there (there (there (there (there (there (there (there (there (there (there (there (there (there (there (there (there (there (there (here)))))))))))))))))))
is_key key.ValidateFieldsOutOfOrder = there (there (there (there (there (there (there (there (there (there (there (there (there (there (there (there (there (there (there (there (here))))))))))))))))))))
is_key key.RejectInvalidMessage = there (there (there (there (there (there (there (there (there (there (there (there (there (there (there (there (there (there (there (there (there (here)))))))))))))))))))))
is_key key.PersistMessages = there (there (there (there (there (there (there (there (there (there (there (there (there (there (there (there (there (there (there (there (there (there (here))))))))))))))))))))))
is_key key.SocketConnectHost = there (there (there (there (there (there (there (there (there (there (there (there (there (there (there (there (there (there (there (there (there (there (there (here)))))))))))))))))))))))
is_key key.SocketConnectPort = there (there (there (there (there (there (there (there (there (there (there (there (there (there (there (there (there (there (there (there (there (there (there (there (here))))))))))))))))))))))))
is_key key.SocketAcceptHost = there (there (there (there (there (there (there (there (there (there (there (there (there (there (there (there (there (there (there (there (there (there (there (there (there (here)))))))))))))))))))))))))
is_key key.SocketAcceptPort = there (there (there (there (there (there (there (there (there (there (there (there (there (there (there (there (there (there (there (there (there (there (there (there (there (there (here))))))))))))))))))))))))))
is_key key.FileStorePath = there (there (there (there (there (there (there (there (there (there (there (there (there (there (there (there (there (there (there (there (there (there (there (there (there (there (there (here)))))))))))))))))))))))))))
is_key key.TimeStampPrecision = there (there (there (there (there (there (there (there (there (there (there (there (there (there (there (there (there (there (there (there (there (there (there (there (there (there (there (there (here))))))))))))))))))))))))))))
is_key key.AppTypes = there (there (there (there (there (there (there (there (there (there (there (there (there (there (there (there (there (there (there (there (there (there (there (there (there (there (there (there (there (here)))))))))))))))))))))))))))))

-- nothing was found at any of the keys
pub first_none : (f : Key → Option SettingsFault) → first_some f KEYS ≡ None → (k : Key) → f k ≡ None
first_none f h k = none_at f KEYS k (is_key k) h

-- ---- a value has the type of its key's field

pub read_refused : (line : ℕ) (pairs : List (Option Pair)) (g : Key → Option Pair) (fault : SettingsFault) → pairs ≡ map g KEYS → Some fault ≡ keys_refusal line (pair_at pairs) → keys_refusal line g ≡ Some fault
read_refused line pairs g fault are h = ap (keys_refusal line) (sym (table_is pairs g are)) ∙ sym h

pub read_right : (line : ℕ) (pairs : List (Option Pair)) (g : Key → Option Pair) → pairs ≡ map g KEYS → None ≡ keys_refusal line (pair_at pairs) → keys_refusal line g ≡ None
read_right line pairs g are h = ap (keys_refusal line) (sym (table_is pairs g are)) ∙ sym h

pub read_each : (line : ℕ) (pairs : List (Option Pair)) (g : Key → Option Pair) (s : SessionSettings) → pairs ≡ map g KEYS → None ≡ keys_refusal line (pair_at pairs) → ((k : Key) → setting_of s k ≡ shaped k (value_from (rule_of k) (pair_at pairs k))) → (k : Key) → setting_of s k ≡ value_from (rule_of k) (g k)
read_each line pairs g s are h each k =
    let right : key_refusal line (pair_at pairs) k (pair_at pairs k) ≡ None = first_none (λ k. key_refusal line (pair_at pairs) k (pair_at pairs k)) (sym h) k in
    each k ∙ keeps_shape line (pair_at pairs) k (pair_at pairs k) right ∙ ap (λ f. value_from (rule_of k) (f k)) (table_is pairs g are)

pub read_party : (line : ℕ) (pairs : List (Option Pair)) (g : Key → Option Pair) (p : Endpoints) → pairs ≡ map g KEYS → p ≡ endpoints_from line (pair_at pairs) → p ≡ endpoints_from line g
read_party line pairs g p are h = h ∙ ap (endpoints_from line) (table_is pairs g are)

-- ---- section by section

-- the first sections were read
pub record SoFar (of : List Pair) (all : List Section) (done rest : List Section) (sessions : List SessionSettings) (endpoint_list : List Endpoints) : Type 0 where
  pub left : first_some (section_refusal of) rest ≡ first_some (section_refusal of) all
  pub settings : AreSessions of done sessions
  pub parties_are : endpoint_list ≡ map (endpoints_of of) done

sessions_push : (of : List Pair) (ss : List Section) (xs : List SessionSettings) (s : Section) (x : SessionSettings) → AreSessions of ss xs → IsSession of s x → AreSessions of (ss ++ s ∷ []) (xs ++ x ∷ [])
sessions_push of [] [] s x h is = (is, refl)
sessions_push of [] (y ∷ ys) s x h is = cc
sessions_push of (t ∷ ts) [] s x h is = absurd h
sessions_push of (t ∷ ts) (y ∷ ys) s x h is = (h.0, sessions_push of ts ys s x h.1 is)

pub section_more : (of : List Pair) (all done rest : List Section) (section : Section) (sessions : List SessionSettings) (endpoint_list : List Endpoints) (s : SessionSettings) (p : Endpoints) → SoFar of all done (section ∷ rest) sessions endpoint_list → section_refusal of section ≡ None → IsSession of section s → p ≡ endpoints_of of section → SoFar of all (done ++ section ∷ []) rest (sessions ++ s ∷ []) (endpoint_list ++ p ∷ [])
section_more of all done rest section sessions endpoint_list s p h right is endpoints = record {
  left = sym (ap (λ o. option_or o (first_some (section_refusal of) rest)) right) ∙ h.left;
  settings = sessions_push of done sessions section s h.settings is;
  parties_are = ap (λ ps. ps ++ p ∷ []) h.parties_are ∙ ap (λ q. map (endpoints_of of) done ++ q ∷ []) endpoints ∙ sym (map-append (endpoints_of of) done (section ∷ []));
}

pub section_refused : (of : List Pair) (all done rest : List Section) (section : Section) (sessions : List SessionSettings) (endpoint_list : List Endpoints) (fault : SettingsFault) → SoFar of all done (section ∷ rest) sessions endpoint_list → section_refusal of section ≡ Some fault → first_some (section_refusal of) all ≡ Some fault
section_refused of all done rest section sessions endpoint_list fault h refused = sym h.left ∙ ap (λ o. option_or o (first_some (section_refusal of) rest)) refused

pub so_far_start : (of : List Pair) (all : List Section) → SoFar of all [] all [] []
so_far_start of all = record { left = refl; settings = refl; parties_are = refl }
