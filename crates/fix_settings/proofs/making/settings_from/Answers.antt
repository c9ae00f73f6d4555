use Rattle.std.proofs.Common.{◌∙◌, ap}
use Rattle.fix_settings.specs.Typed.{version_of, number_of, flag_of, precision_of, text_of, port_if, clock_if, day_if, text_if, types_if}
use Rattle.fix_settings.proofs.MadeLemmas.{is_made}
use Rattle.fix_settings.proofs.making.settings_from.Goals as goal

pub returns-clause-each : goal.returns-clause-each
returns-clause-each c = is_made (record {
  begin_string = c.version.result;
  sender_comp_id = c.in_ok-text.field-0;
  target_comp_id = c.in_ok-text-2.field-0;
  heart_bt_int = c.number.result;
  start_time = c.clock.result;
  end_time = c.clock-2.result;
  start_day = c.day.result;
  end_day = c.day-2.result;
  time_zone = c.in_ok-text-3.field-0;
  zone_rule = c.in_ok-text_option.field-0;
  reconnect_interval = c.number-2.result;
  logon_timeout = c.number-3.result;
  logout_timeout = c.number-4.result;
  reset_on_logon = c.flag.result;
  reset_on_logout = c.flag-2.result;
  reset_on_disconnect = c.flag-3.result;
  resend_request_chunk_size = c.number-5.result;
  check_latency = c.flag-4.result;
  max_latency = c.number-6.result;
  data_dictionary = c.in_ok-text_option-2.field-0;
  validate_fields_out_of_order = c.flag-5.result;
  reject_invalid_message = c.flag-6.result;
  persist_messages = c.flag-7.result;
  socket_connect_host = c.in_ok-text_option-3.field-0;
  socket_connect_port = c.port.result;
  socket_accept_host = c.in_ok-text-4.field-0;
  socket_accept_port = c.port-2.result;
  file_store_path = c.in_ok-text_option-4.field-0;
  time_stamp_precision = c.precision.result;
  app_types = c.in_ok-types_option.field-0;
  ignored = c.args.ignored;
}) _ (record {
  begin_string = c.version.ensures ∙ ap version_of c.value_of.ensures;
  sender_comp_id = c.in_ok-text.ensures ∙ ap text_of c.value_of-2.ensures;
  target_comp_id = c.in_ok-text-2.ensures ∙ ap text_of c.value_of-3.ensures;
  heart_bt_int = c.number.ensures ∙ ap number_of c.value_of-4.ensures;
  start_time = c.clock.ensures ∙ ap clock_if c.value_of-5.ensures;
  end_time = c.clock-2.ensures ∙ ap clock_if c.value_of-6.ensures;
  start_day = c.day.ensures ∙ ap day_if c.value_of-7.ensures;
  end_day = c.day-2.ensures ∙ ap day_if c.value_of-8.ensures;
  time_zone = c.in_ok-text-3.ensures ∙ ap text_of c.value_of-9.ensures;
  zone_rule = c.in_ok-text_option.ensures ∙ ap text_if c.value_of-10.ensures;
  reconnect_interval = c.number-2.ensures ∙ ap number_of c.value_of-11.ensures;
  logon_timeout = c.number-3.ensures ∙ ap number_of c.value_of-12.ensures;
  logout_timeout = c.number-4.ensures ∙ ap number_of c.value_of-13.ensures;
  reset_on_logon = c.flag.ensures ∙ ap flag_of c.value_of-14.ensures;
  reset_on_logout = c.flag-2.ensures ∙ ap flag_of c.value_of-15.ensures;
  reset_on_disconnect = c.flag-3.ensures ∙ ap flag_of c.value_of-16.ensures;
  resend_request_chunk_size = c.number-5.ensures ∙ ap number_of c.value_of-17.ensures;
  check_latency = c.flag-4.ensures ∙ ap flag_of c.value_of-18.ensures;
  max_latency = c.number-6.ensures ∙ ap number_of c.value_of-19.ensures;
  data_dictionary = c.in_ok-text_option-2.ensures ∙ ap text_if c.value_of-20.ensures;
  validate_fields_out_of_order = c.flag-5.ensures ∙ ap flag_of c.value_of-21.ensures;
  reject_invalid_message = c.flag-6.ensures ∙ ap flag_of c.value_of-22.ensures;
  persist_messages = c.flag-7.ensures ∙ ap flag_of c.value_of-23.ensures;
  socket_connect_host = c.in_ok-text_option-3.ensures ∙ ap text_if c.value_of-24.ensures;
  socket_connect_port = c.port.ensures ∙ ap port_if c.value_of-25.ensures;
  socket_accept_host = c.in_ok-text-4.ensures ∙ ap text_of c.value_of-26.ensures;
  socket_accept_port = c.port-2.ensures ∙ ap port_if c.value_of-27.ensures;
  file_store_path = c.in_ok-text_option-4.ensures ∙ ap text_if c.value_of-28.ensures;
  time_stamp_precision = c.precision.ensures ∙ ap precision_of c.value_of-29.ensures;
  app_types = c.in_ok-types_option.ensures ∙ ap types_if c.value_of-30.ensures;
})
