-- What a value that isn't refused says has the type of its key's field.
use Rattle.std.proofs.Common.{◌≡◌, ℕ, Bool, true, false, is_some, List, bytes_eq, codes, nat_lt, length, Option, Some, None, option_map, refl, if◌then◌else◌}
use Rattle.std.proofs.lemmas.Bool.{and_parts}
use Rattle.fix_base.specs.declared.identity.Begin.{Begin}
use Rattle.fix_base.specs.declared.precision.Precision.{Precision}
use Rattle.fix_base.specs.Session.{is_comp_id}
use Rattle.fix_base.specs.Says.{number_in}
use Rattle.fix_settings.specs.declared.key.Key.{Key}
use Rattle.fix_settings.specs.declared.key.Key.TheVariants as key
use Rattle.fix_settings.specs.declared.fault.SettingsFault.{SettingsFault}
use Rattle.fix_settings.specs.declared.fault.SettingsCause.TheVariants as cause
use Rattle.fix_settings.specs.Lines.{Pair}
use Rattle.fix_settings.specs.Forms as forms
use Rattle.fix_settings.specs.Forms.{Value, Version, Number, Port, Clock, Day, Flag, Fine, Text, Types, value_in, version_in, clock_in, day_in, flag_in, precision_in, types_in}
use Rattle.fix_settings.specs.Table.{rule_of}
use Rattle.fix_settings.specs.Typed.{version_of, number_of, flag_of, precision_of, text_of, port_if, clock_if, day_if, text_if, types_if, shaped}
use Rattle.fix_settings.specs.Reading.{value_from, is_right, key_refusal, refused}

may_port : (o : Option (ℕ)) → option_map Port (port_if (option_map Port o)) ≡ option_map Port o
may_port None = refl
may_port (Some x) = refl

may_clock : (o : Option (ℕ)) → option_map Clock (clock_if (option_map Clock o)) ≡ option_map Clock o
may_clock None = refl
may_clock (Some x) = refl

may_day : (o : Option (ℕ)) → option_map Day (day_if (option_map Day o)) ≡ option_map Day o
may_day None = refl
may_day (Some x) = refl

may_types : (o : Option (List (List ℕ))) → option_map Types (types_if (option_map Types o)) ≡ option_map Types o
may_types None = refl
may_types (Some x) = refl

has_version : (o : Option (Begin)) → is_some (option_map Version o) ≡ true → Some (Version (version_of (option_map Version o))) ≡ option_map Version o
has_version None h = cc
has_version (Some x) h = refl

has_number : (o : Option (ℕ)) → is_some (option_map Number o) ≡ true → Some (Number (number_of (option_map Number o))) ≡ option_map Number o
has_number None h = cc
has_number (Some x) h = refl

has_flag : (o : Option (Bool)) → is_some (option_map Flag o) ≡ true → Some (Flag (flag_of (option_map Flag o))) ≡ option_map Flag o
has_flag None h = cc
has_flag (Some x) h = refl

has_precision : (o : Option (Precision)) → is_some (option_map Fine o) ≡ true → Some (Fine (precision_of (option_map Fine o))) ≡ option_map Fine o
has_precision None h = cc
has_precision (Some x) h = refl

may_text : (passes : Bool) (text : List ℕ) → option_map Text (text_if (forms.text_if passes text)) ≡ forms.text_if passes text
may_text true text = refl
may_text false text = refl

has_text : (passes : Bool) (text : List ℕ) → is_some (forms.text_if passes text) ≡ true → Some (Text (text_of (forms.text_if passes text))) ≡ forms.text_if passes text
has_text true text h = refl
has_text false text h = cc

abbrev flag_if : Bool → Option Value
flag_if b = if b then Some (Flag false) else None

has_no : (passes : Bool) → is_some (flag_if passes) ≡ true → Some (Flag (flag_of (flag_if passes))) ≡ flag_if passes
has_no true h = refl
has_no false h = cc

pub right_pair : (line : ℕ) (b : Bool) (c : Option SettingsFault) (f : SettingsFault) → c ≡ Some f → (if b then None else c) ≡ None → b ≡ true
right_pair line true c f e h = refl
right_pair line false c f e h = cc

-- a pair that isn't refused is of its key's form
pub right_value : (line : ℕ) (g : Key → Option Pair) (k : Key) (p : Pair) → key_refusal line g k (Some p) ≡ None → is_some (value_in (rule_of k).form p.value) ≡ true
right_value line g k p h =
    let right = right_pair line (is_right g (rule_of k) p) (refused p.line (cause.BadValue k)) (record { line = p.line; cause = cause.BadValue k }) refl h in
    let parts = and_parts (is_some (value_in (rule_of k).form p.value)) _ right in
    parts.0

pub keeps_shape : (line : ℕ) (g : Key → Option Pair) (k : Key) (o : Option Pair) → key_refusal line g k o ≡ None → shaped k (value_from (rule_of k) o) ≡ value_from (rule_of k) o
keeps_shape line g key.BeginString None h = cc
keeps_shape line g key.BeginString (Some p) h = has_version (version_in p.value) (right_value line g key.BeginString p h)
keeps_shape line g key.SenderCompID None h = cc
keeps_shape line g key.SenderCompID (Some p) h = has_text (is_comp_id p.value) p.value (right_value line g key.SenderCompID p h)
keeps_shape line g key.TargetCompID None h = cc
keeps_shape line g key.TargetCompID (Some p) h = has_text (is_comp_id p.value) p.value (right_value line g key.TargetCompID p h)
keeps_shape line g key.HeartBtInt None h = refl
keeps_shape line g key.HeartBtInt (Some p) h = has_number (number_in 0 86400 p.value) (right_value line g key.HeartBtInt p h)
keeps_shape line g key.StartTime None h = refl
keeps_shape line g key.StartTime (Some p) h = may_clock (clock_in p.value)
keeps_shape line g key.EndTime None h = refl
keeps_shape line g key.EndTime (Some p) h = may_clock (clock_in p.value)
keeps_shape line g key.StartDay None h = refl
keeps_shape line g key.StartDay (Some p) h = may_day (day_in p.value)
keeps_shape line g key.EndDay None h = refl
keeps_shape line g key.EndDay (Some p) h = may_day (day_in p.value)
keeps_shape line g key.TimeZone None h = refl
keeps_shape line g key.TimeZone (Some p) h = has_text (bytes_eq p.value (codes "UTC")) p.value (right_value line g key.TimeZone p h)
keeps_shape line g key.ZoneRule None h = refl
keeps_shape line g key.ZoneRule (Some p) h = refl
keeps_shape line g key.ReconnectInterval None h = refl
keeps_shape line g key.ReconnectInterval (Some p) h = has_number (number_in 1 86400 p.value) (right_value line g key.ReconnectInterval p h)
keeps_shape line g key.LogonTimeout None h = refl
keeps_shape line g key.LogonTimeout (Some p) h = has_number (number_in 1 86400 p.value) (right_value line g key.LogonTimeout p h)
keeps_shape line g key.LogoutTimeout None h = refl
keeps_shape line g key.LogoutTimeout (Some p) h = has_number (number_in 1 86400 p.value) (right_value line g key.LogoutTimeout p h)
keeps_shape line g key.ResetOnLogon None h = refl
keeps_shape line g key.ResetOnLogon (Some p) h = has_no (bytes_eq p.value (codes "N")) (right_value line g key.ResetOnLogon p h)
keeps_shape line g key.ResetOnLogout None h = refl
keeps_shape line g key.ResetOnLogout (Some p) h = has_flag (flag_in p.value) (right_value line g key.ResetOnLogout p h)
keeps_shape line g key.ResetOnDisconnect None h = refl
keeps_shape line g key.ResetOnDisconnect (Some p) h = has_flag (flag_in p.value) (right_value line g key.ResetOnDisconnect p h)
keeps_shape line g key.ResendRequestChunkSize None h = refl
keeps_shape line g key.ResendRequestChunkSize (Some p) h = has_number (number_in 0 999999999 p.value) (right_value line g key.ResendRequestChunkSize p h)
keeps_shape line g key.CheckLatency None h = refl
keeps_shape line g key.CheckLatency (Some p) h = has_flag (flag_in p.value) (right_value line g key.CheckLatency p h)
keeps_shape line g key.MaxLatency None h = refl
keeps_shape line g key.MaxLatency (Some p) h = has_number (number_in 1 86400 p.value) (right_value line g key.MaxLatency p h)
keeps_shape line g key.DataDictionary None h = refl
keeps_shape line g key.DataDictionary (Some p) h = may_text (nat_lt 0 (length p.value)) p.value
keeps_shape line g key.ValidateFieldsOutOfOrder None h = refl
keeps_shape line g key.ValidateFieldsOutOfOrder (Some p) h = has_flag (flag_in p.value) (right_value line g key.ValidateFieldsOutOfOrder p h)
keeps_shape line g key.RejectInvalidMessage None h = refl
keeps_shape line g key.RejectInvalidMessage (Some p) h = has_flag (flag_in p.value) (right_value line g key.RejectInvalidMessage p h)
keeps_shape line g key.PersistMessages None h = refl
keeps_shape line g key.PersistMessages (Some p) h = has_flag (flag_in p.value) (right_value line g key.PersistMessages p h)
keeps_shape line g key.SocketConnectHost None h = refl
keeps_shape line g key.SocketConnectHost (Some p) h = may_text (nat_lt 0 (length p.value)) p.value
keeps_shape line g key.SocketConnectPort None h = refl
keeps_shape line g key.SocketConnectPort (Some p) h = may_port (number_in 1 65535 p.value)
keeps_shape line g key.SocketAcceptHost None h = refl
keeps_shape line g key.SocketAcceptHost (Some p) h = has_text (nat_lt 0 (length p.value)) p.value (right_value line g key.SocketAcceptHost p h)
keeps_shape line g key.SocketAcceptPort None h = refl
keeps_shape line g key.SocketAcceptPort (Some p) h = may_port (number_in 1 65535 p.value)
keeps_shape line g key.FileStorePath None h = refl
keeps_shape line g key.FileStorePath (Some p) h = may_text (nat_lt 0 (length p.value)) p.value
keeps_shape line g key.TimeStampPrecision None h = refl
keeps_shape line g key.TimeStampPrecision (Some p) h = has_precision (precision_in p.value) (right_value line g key.TimeStampPrecision p h)
keeps_shape line g key.AppTypes None h = refl
keeps_shape line g key.AppTypes (Some p) h = may_types (types_in p.value)
