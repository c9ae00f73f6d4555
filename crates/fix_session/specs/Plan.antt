-- What the settings of a session say to its decisions and to its judge.
use Rattle.std.specs.Prelude.{if◌then◌else◌, Option, Some, None}
use Rattle.fix_base.specs.declared.identity.Identity.{Identity}
use Rattle.fix_settings.specs.declared.session_settings.SessionSettings.{SessionSettings}
use Rattle.fix_machine.specs.declared.state.Options.{Options}
use Rattle.fix_dict.specs.Dictionary.{DictionarySeen}
use Rattle.fix_session.specs.Judged.{RulesSeen}

abbrev pub options_of : Identity → SessionSettings → Options
options_of id s = record {
  identity = id;
  heart = s.heart_bt_int;
  chunk = s.resend_request_chunk_size;
  latency = if s.check_latency then Some s.max_latency else None;
  logon_timeout = s.logon_timeout;
  logout_timeout = s.logout_timeout;
  persist = s.persist_messages;
  reset_on_logon = s.reset_on_logon;
  version = None;
}

-- messages are judged by the dictionary where invalid ones are rejected
abbrev pub rules_of : SessionSettings → Option DictionarySeen → RulesSeen
rules_of s dict = record {
  dict = if s.reject_invalid_message then dict else None;
  order = s.validate_fields_out_of_order;
}
