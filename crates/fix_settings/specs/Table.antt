-- The table of keys, a row for each, in the order in which keys are judged and printed.
use Rattle.std.specs.Prelude.{ℕ, Bool, true, false, List, [], ◌∷◌, codes, Option, Some, None, option_map}
use Rattle.fix_base.specs.declared.precision.Precision.TheVariants.{Millis}
use Rattle.fix_settings.specs.declared.form.Form.{Form}
use Rattle.fix_settings.specs.declared.form.Form.TheVariants as form
use Rattle.fix_settings.specs.declared.key.Key.{Key}
use Rattle.fix_settings.specs.declared.key.Key.TheVariants as key
use Rattle.fix_settings.specs.declared.session_settings.SessionSettings.{SessionSettings}
use Rattle.fix_settings.specs.Forms.{Value, Version, Number, Port, Clock, Day, Flag, Fine, Text, Types}

-- what the table says of a key: how it is written, the form of its values, whether a session must
-- have one, the value of a session that has none, and the keys that must have one beside it
pub record Rule : Type 0 where
  pub name : List ℕ
  pub form : Form
  pub required : Bool
  pub default : Option Value
  pub needs_keys : List Key

abbrev pub required_key : List ℕ → Form → Rule
required_key name f = record { name = name; form = f; required = true; default = None; needs_keys = [] }

abbrev pub optional_key : List ℕ → Form → List Key → Rule
optional_key name f needs_keys = record {
  name = name;
  form = f;
  required = false;
  default = None;
  needs_keys = needs_keys;
}

abbrev pub key_with_default : List ℕ → Form → Value → Rule
key_with_default name f value = record {
  name = name;
  form = f;
  required = false;
  default = Some value;
  needs_keys = [];
}

abbrev pub rule_of : Key → Rule
rule_of key.BeginString = required_key (codes "BeginString") form.Version
rule_of key.SenderCompID = required_key (codes "SenderCompID") form.CompId
rule_of key.TargetCompID = required_key (codes "TargetCompID") form.CompId
rule_of key.HeartBtInt = key_with_default (codes "HeartBtInt") (form.Number 0 86400) (Number 30)
rule_of key.StartTime = optional_key (codes "StartTime") form.Clock (key.EndTime ∷ [])
rule_of key.EndTime = optional_key (codes "EndTime") form.Clock (key.StartTime ∷ [])
rule_of key.StartDay = optional_key (codes "StartDay") form.Day (key.EndDay ∷ key.StartTime ∷ [])
rule_of key.EndDay = optional_key (codes "EndDay") form.Day (key.StartDay ∷ key.StartTime ∷ [])
rule_of key.TimeZone = key_with_default (codes "TimeZone") form.Utc (Text (codes "UTC"))
rule_of key.ZoneRule = optional_key (codes "ZoneRule") form.Rule []
rule_of key.ReconnectInterval = key_with_default (codes "ReconnectInterval") (form.Number 1 86400) (Number 30)
rule_of key.LogonTimeout = key_with_default (codes "LogonTimeout") (form.Number 1 86400) (Number 10)
rule_of key.LogoutTimeout = key_with_default (codes "LogoutTimeout") (form.Number 1 86400) (Number 2)
rule_of key.ResetOnLogon = key_with_default (codes "ResetOnLogon") form.OnlyN (Flag false)
rule_of key.ResetOnLogout = key_with_default (codes "ResetOnLogout") form.Flag (Flag false)
rule_of key.ResetOnDisconnect = key_with_default (codes "ResetOnDisconnect") form.Flag (Flag false)
rule_of key.ResendRequestChunkSize = key_with_default (codes "ResendRequestChunkSize") (form.Number 0 999999999)
    (Number 0)
rule_of key.CheckLatency = key_with_default (codes "CheckLatency") form.Flag (Flag true)
rule_of key.MaxLatency = key_with_default (codes "MaxLatency") (form.Number 1 86400) (Number 120)
rule_of key.DataDictionary = optional_key (codes "DataDictionary") form.Text []
rule_of key.ValidateFieldsOutOfOrder = key_with_default (codes "ValidateFieldsOutOfOrder") form.Flag (Flag true)
rule_of key.RejectInvalidMessage = key_with_default (codes "RejectInvalidMessage") form.Flag (Flag true)
rule_of key.PersistMessages = key_with_default (codes "PersistMessages") form.Flag (Flag true)
rule_of key.SocketConnectHost = optional_key (codes "SocketConnectHost") form.Text []
rule_of key.SocketConnectPort = optional_key (codes "SocketConnectPort") form.Port []
rule_of key.SocketAcceptHost = key_with_default (codes "SocketAcceptHost") form.Text (Text (codes "127.0.0.1"))
rule_of key.SocketAcceptPort = optional_key (codes "SocketAcceptPort") form.Port []
rule_of key.FileStorePath = optional_key (codes "FileStorePath") form.Text []
rule_of key.TimeStampPrecision = key_with_default (codes "TimeStampPrecision") form.Precision (Fine Millis)
rule_of key.AppTypes = optional_key (codes "AppTypes") form.Types []

abbrev pub name_of : Key → List ℕ
name_of k = (rule_of k).name

-- the value of a session's field for this key
abbrev pub setting_of : SessionSettings → Key → Option Value
setting_of s key.BeginString = Some (Version s.begin_string)
setting_of s key.SenderCompID = Some (Text s.sender_comp_id)
setting_of s key.TargetCompID = Some (Text s.target_comp_id)
setting_of s key.HeartBtInt = Some (Number s.heart_bt_int)
setting_of s key.StartTime = option_map Clock s.start_time
setting_of s key.EndTime = option_map Clock s.end_time
setting_of s key.StartDay = option_map Day s.start_day
setting_of s key.EndDay = option_map Day s.end_day
setting_of s key.TimeZone = Some (Text s.time_zone)
setting_of s key.ZoneRule = option_map Text s.zone_rule
setting_of s key.ReconnectInterval = Some (Number s.reconnect_interval)
setting_of s key.LogonTimeout = Some (Number s.logon_timeout)
setting_of s key.LogoutTimeout = Some (Number s.logout_timeout)
setting_of s key.ResetOnLogon = Some (Flag s.reset_on_logon)
setting_of s key.ResetOnLogout = Some (Flag s.reset_on_logout)
setting_of s key.ResetOnDisconnect = Some (Flag s.reset_on_disconnect)
setting_of s key.ResendRequestChunkSize = Some (Number s.resend_request_chunk_size)
setting_of s key.CheckLatency = Some (Flag s.check_latency)
setting_of s key.MaxLatency = Some (Number s.max_latency)
setting_of s key.DataDictionary = option_map Text s.data_dictionary
setting_of s key.ValidateFieldsOutOfOrder = Some (Flag s.validate_fields_out_of_order)
setting_of s key.RejectInvalidMessage = Some (Flag s.reject_invalid_message)
setting_of s key.PersistMessages = Some (Flag s.persist_messages)
setting_of s key.SocketConnectHost = option_map Text s.socket_connect_host
setting_of s key.SocketConnectPort = option_map Port s.socket_connect_port
setting_of s key.SocketAcceptHost = Some (Text s.socket_accept_host)
setting_of s key.SocketAcceptPort = option_map Port s.socket_accept_port
setting_of s key.FileStorePath = option_map Text s.file_store_path
setting_of s key.TimeStampPrecision = Some (Fine s.time_stamp_precision)
setting_of s key.AppTypes = option_map (λ types. Types types.items) s.app_types

-- its place among the keys
abbrev pub index_of : Key → ℕ
index_of key.BeginString = 0
index_of key.SenderCompID = 1
index_of key.TargetCompID = 2
index_of key.HeartBtInt = 3
index_of key.StartTime = 4
index_of key.EndTime = 5
index_of key.StartDay = 6
index_of key.EndDay = 7
index_of key.TimeZone = 8
index_of key.ZoneRule = 9
index_of key.ReconnectInterval = 10
index_of key.LogonTimeout = 11
index_of key.LogoutTimeout = 12
index_of key.ResetOnLogon = 13
index_of key.ResetOnLogout = 14
index_of key.ResetOnDisconnect = 15
index_of key.ResendRequestChunkSize = 16
index_of key.CheckLatency = 17
index_of key.MaxLatency = 18
index_of key.DataDictionary = 19
index_of key.ValidateFieldsOutOfOrder = 20
index_of key.RejectInvalidMessage = 21
index_of key.PersistMessages = 22
index_of key.SocketConnectHost = 23
index_of key.SocketConnectPort = 24
index_of key.SocketAcceptHost = 25
index_of key.SocketAcceptPort = 26
index_of key.FileStorePath = 27
index_of key.TimeStampPrecision = 28
index_of key.AppTypes = 29
