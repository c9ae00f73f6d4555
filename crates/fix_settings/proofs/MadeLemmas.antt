-- A session's fields and its settings.
use Rattle.std.proofs.Common.{◌≡◌, List, ℕ, Option, Some, None, option_map, refl, ap, ◌∙◌}
use Rattle.fix_settings.specs.declared.key.Key.{Key}
use Rattle.fix_settings.specs.declared.key.Key.TheVariants as key
use Rattle.fix_settings.specs.declared.session_settings.SessionSettings.{SessionSettings}
use Rattle.fix_settings.specs.Forms.{Value, Version, Number, Port, Clock, Day, Flag, Fine, Text, Types}
use Rattle.fix_settings.specs.Table.{setting_of}
use Rattle.fix_settings.specs.Typed.{version_of, number_of, flag_of, precision_of, text_of, port_if, clock_if, day_if, text_if, types_if, shaped}

-- each field is made of the value of its key
pub record IsMade (s : SessionSettings) (g : Key → Option Value) : Type 0 where
  pub begin_string : s.begin_string ≡ version_of (g key.BeginString)
  pub sender_comp_id : s.sender_comp_id ≡ text_of (g key.SenderCompID)
  pub target_comp_id : s.target_comp_id ≡ text_of (g key.TargetCompID)
  pub heart_bt_int : s.heart_bt_int ≡ number_of (g key.HeartBtInt)
  pub start_time : s.start_time ≡ clock_if (g key.StartTime)
  pub end_time : s.end_time ≡ clock_if (g key.EndTime)
  pub start_day : s.start_day ≡ day_if (g key.StartDay)
  pub end_day : s.end_day ≡ day_if (g key.EndDay)
  pub time_zone : s.time_zone ≡ text_of (g key.TimeZone)
  pub zone_rule : s.zone_rule ≡ text_if (g key.ZoneRule)
  pub reconnect_interval : s.reconnect_interval ≡ number_of (g key.ReconnectInterval)
  pub logon_timeout : s.logon_timeout ≡ number_of (g key.LogonTimeout)
  pub logout_timeout : s.logout_timeout ≡ number_of (g key.LogoutTimeout)
  pub reset_on_logon : s.reset_on_logon ≡ flag_of (g key.ResetOnLogon)
  pub reset_on_logout : s.reset_on_logout ≡ flag_of (g key.ResetOnLogout)
  pub reset_on_disconnect : s.reset_on_disconnect ≡ flag_of (g key.ResetOnDisconnect)
  pub resend_request_chunk_size : s.resend_request_chunk_size ≡ number_of (g key.ResendRequestChunkSize)
  pub check_latency : s.check_latency ≡ flag_of (g key.CheckLatency)
  pub max_latency : s.max_latency ≡ number_of (g key.MaxLatency)
  pub data_dictionary : s.data_dictionary ≡ text_if (g key.DataDictionary)
  pub validate_fields_out_of_order : s.validate_fields_out_of_order ≡ flag_of (g key.ValidateFieldsOutOfOrder)
  pub reject_invalid_message : s.reject_invalid_message ≡ flag_of (g key.RejectInvalidMessage)
  pub persist_messages : s.persist_messages ≡ flag_of (g key.PersistMessages)
  pub socket_connect_host : s.socket_connect_host ≡ text_if (g key.SocketConnectHost)
  pub socket_connect_port : s.socket_connect_port ≡ port_if (g key.SocketConnectPort)
  pub socket_accept_host : s.socket_accept_host ≡ text_of (g key.SocketAcceptHost)
  pub socket_accept_port : s.socket_accept_port ≡ port_if (g key.SocketAcceptPort)
  pub file_store_path : s.file_store_path ≡ text_if (g key.FileStorePath)
  pub time_stamp_precision : s.time_stamp_precision ≡ precision_of (g key.TimeStampPrecision)
  pub app_types : option_map (λ types. types.items) s.app_types ≡ types_if (g key.AppTypes)

types_map : {A : Type 0} (f : A → List (List ℕ)) (o : Option A) → option_map (λ x. Types (f x)) o ≡ option_map Types (option_map f o)
types_map f None = refl
types_map f (Some x) = refl

pub is_made : (s : SessionSettings) (g : Key → Option Value) → IsMade s g → (k : Key) → setting_of s k ≡ shaped k (g k)
is_made s g h key.BeginString = ap (λ x. Some (Version x)) h.begin_string
is_made s g h key.SenderCompID = ap (λ x. Some (Text x)) h.sender_comp_id
is_made s g h key.TargetCompID = ap (λ x. Some (Text x)) h.target_comp_id
is_made s g h key.HeartBtInt = ap (λ x. Some (Number x)) h.heart_bt_int
is_made s g h key.StartTime = ap (option_map Clock) h.start_time
is_made s g h key.EndTime = ap (option_map Clock) h.end_time
is_made s g h key.StartDay = ap (option_map Day) h.start_day
is_made s g h key.EndDay = ap (option_map Day) h.end_day
is_made s g h key.TimeZone = ap (λ x. Some (Text x)) h.time_zone
is_made s g h key.ZoneRule = ap (option_map Text) h.zone_rule
is_made s g h key.ReconnectInterval = ap (λ x. Some (Number x)) h.reconnect_interval
is_made s g h key.LogonTimeout = ap (λ x. Some (Number x)) h.logon_timeout
is_made s g h key.LogoutTimeout = ap (λ x. Some (Number x)) h.logout_timeout
is_made s g h key.ResetOnLogon = ap (λ x. Some (Flag x)) h.reset_on_logon
is_made s g h key.ResetOnLogout = ap (λ x. Some (Flag x)) h.reset_on_logout
is_made s g h key.ResetOnDisconnect = ap (λ x. Some (Flag x)) h.reset_on_disconnect
is_made s g h key.ResendRequestChunkSize = ap (λ x. Some (Number x)) h.resend_request_chunk_size
is_made s g h key.CheckLatency = ap (λ x. Some (Flag x)) h.check_latency
is_made s g h key.MaxLatency = ap (λ x. Some (Number x)) h.max_latency
is_made s g h key.DataDictionary = ap (option_map Text) h.data_dictionary
is_made s g h key.ValidateFieldsOutOfOrder = ap (λ x. Some (Flag x)) h.validate_fields_out_of_order
is_made s g h key.RejectInvalidMessage = ap (λ x. Some (Flag x)) h.reject_invalid_message
is_made s g h key.PersistMessages = ap (λ x. Some (Flag x)) h.persist_messages
is_made s g h key.SocketConnectHost = ap (option_map Text) h.socket_connect_host
is_made s g h key.SocketConnectPort = ap (option_map Port) h.socket_connect_port
is_made s g h key.SocketAcceptHost = ap (λ x. Some (Text x)) h.socket_accept_host
is_made s g h key.SocketAcceptPort = ap (option_map Port) h.socket_accept_port
is_made s g h key.FileStorePath = ap (option_map Text) h.file_store_path
is_made s g h key.TimeStampPrecision = ap (λ x. Some (Fine x)) h.time_stamp_precision
is_made s g h key.AppTypes = types_map (λ types. types.items) s.app_types ∙ ap (option_map Types) h.app_types
