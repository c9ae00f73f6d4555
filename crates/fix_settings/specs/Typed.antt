-- Fields made of values: what a value says as the type of a field.
use Rattle.std.specs.Prelude.{ℕ, Bool, false, List, [], Option, Some, None, option_map}
use Rattle.fix_base.specs.declared.identity.Begin.{Begin}
use Rattle.fix_base.specs.declared.identity.Begin.TheVariants.{Fix42}
use Rattle.fix_base.specs.declared.precision.Precision.{Precision}
use Rattle.fix_base.specs.declared.precision.Precision.TheVariants.{Millis}
use Rattle.fix_settings.specs.declared.key.Key.{Key}
use Rattle.fix_settings.specs.declared.key.Key.TheVariants as key
use Rattle.fix_settings.specs.Forms.{Value, Version, Number, Port, Clock, Day, Flag, Fine, Text, Types}

abbrev pub version_of : Option Value → Begin
version_of None = Fix42
version_of (Some (Version x)) = x
version_of (Some (Number x)) = Fix42
version_of (Some (Port x)) = Fix42
version_of (Some (Clock x)) = Fix42
version_of (Some (Day x)) = Fix42
version_of (Some (Flag x)) = Fix42
version_of (Some (Fine x)) = Fix42
version_of (Some (Text x)) = Fix42
version_of (Some (Types x)) = Fix42

abbrev pub number_of : Option Value → ℕ
number_of None = 0
number_of (Some (Version x)) = 0
number_of (Some (Number x)) = x
number_of (Some (Port x)) = 0
number_of (Some (Clock x)) = 0
number_of (Some (Day x)) = 0
number_of (Some (Flag x)) = 0
number_of (Some (Fine x)) = 0
number_of (Some (Text x)) = 0
number_of (Some (Types x)) = 0

abbrev pub flag_of : Option Value → Bool
flag_of None = false
flag_of (Some (Version x)) = false
flag_of (Some (Number x)) = false
flag_of (Some (Port x)) = false
flag_of (Some (Clock x)) = false
flag_of (Some (Day x)) = false
flag_of (Some (Flag x)) = x
flag_of (Some (Fine x)) = false
flag_of (Some (Text x)) = false
flag_of (Some (Types x)) = false

abbrev pub precision_of : Option Value → Precision
precision_of None = Millis
precision_of (Some (Version x)) = Millis
precision_of (Some (Number x)) = Millis
precision_of (Some (Port x)) = Millis
precision_of (Some (Clock x)) = Millis
precision_of (Some (Day x)) = Millis
precision_of (Some (Flag x)) = Millis
precision_of (Some (Fine x)) = x
precision_of (Some (Text x)) = Millis
precision_of (Some (Types x)) = Millis

abbrev pub text_of : Option Value → List ℕ
text_of None = []
text_of (Some (Version x)) = []
text_of (Some (Number x)) = []
text_of (Some (Port x)) = []
text_of (Some (Clock x)) = []
text_of (Some (Day x)) = []
text_of (Some (Flag x)) = []
text_of (Some (Fine x)) = []
text_of (Some (Text x)) = x
text_of (Some (Types x)) = []

abbrev pub port_if : Option Value → Option (ℕ)
port_if None = None
port_if (Some (Version x)) = None
port_if (Some (Number x)) = None
port_if (Some (Port x)) = Some x
port_if (Some (Clock x)) = None
port_if (Some (Day x)) = None
port_if (Some (Flag x)) = None
port_if (Some (Fine x)) = None
port_if (Some (Text x)) = None
port_if (Some (Types x)) = None

abbrev pub clock_if : Option Value → Option (ℕ)
clock_if None = None
clock_if (Some (Version x)) = None
clock_if (Some (Number x)) = None
clock_if (Some (Port x)) = None
clock_if (Some (Clock x)) = Some x
clock_if (Some (Day x)) = None
clock_if (Some (Flag x)) = None
clock_if (Some (Fine x)) = None
clock_if (Some (Text x)) = None
clock_if (Some (Types x)) = None

abbrev pub day_if : Option Value → Option (ℕ)
day_if None = None
day_if (Some (Version x)) = None
day_if (Some (Number x)) = None
day_if (Some (Port x)) = None
day_if (Some (Clock x)) = None
day_if (Some (Day x)) = Some x
day_if (Some (Flag x)) = None
day_if (Some (Fine x)) = None
day_if (Some (Text x)) = None
day_if (Some (Types x)) = None

abbrev pub text_if : Option Value → Option (List ℕ)
text_if None = None
text_if (Some (Version x)) = None
text_if (Some (Number x)) = None
text_if (Some (Port x)) = None
text_if (Some (Clock x)) = None
text_if (Some (Day x)) = None
text_if (Some (Flag x)) = None
text_if (Some (Fine x)) = None
text_if (Some (Text x)) = Some x
text_if (Some (Types x)) = None

abbrev pub types_if : Option Value → Option (List (List ℕ))
types_if None = None
types_if (Some (Version x)) = None
types_if (Some (Number x)) = None
types_if (Some (Port x)) = None
types_if (Some (Clock x)) = None
types_if (Some (Day x)) = None
types_if (Some (Flag x)) = None
types_if (Some (Fine x)) = None
types_if (Some (Text x)) = None
types_if (Some (Types x)) = Some x

-- the value that a field of the key's type says
abbrev pub shaped : Key → Option Value → Option Value
shaped key.BeginString v = Some (Version (version_of v))
shaped key.SenderCompID v = Some (Text (text_of v))
shaped key.TargetCompID v = Some (Text (text_of v))
shaped key.HeartBtInt v = Some (Number (number_of v))
shaped key.StartTime v = option_map Clock (clock_if v)
shaped key.EndTime v = option_map Clock (clock_if v)
shaped key.StartDay v = option_map Day (day_if v)
shaped key.EndDay v = option_map Day (day_if v)
shaped key.TimeZone v = Some (Text (text_of v))
shaped key.ZoneRule v = option_map Text (text_if v)
shaped key.ReconnectInterval v = Some (Number (number_of v))
shaped key.LogonTimeout v = Some (Number (number_of v))
shaped key.LogoutTimeout v = Some (Number (number_of v))
shaped key.ResetOnLogon v = Some (Flag (flag_of v))
shaped key.ResetOnLogout v = Some (Flag (flag_of v))
shaped key.ResetOnDisconnect v = Some (Flag (flag_of v))
shaped key.ResendRequestChunkSize v = Some (Number (number_of v))
shaped key.CheckLatency v = Some (Flag (flag_of v))
shaped key.MaxLatency v = Some (Number (number_of v))
shaped key.DataDictionary v = option_map Text (text_if v)
shaped key.ValidateFieldsOutOfOrder v = Some (Flag (flag_of v))
shaped key.RejectInvalidMessage v = Some (Flag (flag_of v))
shaped key.PersistMessages v = Some (Flag (flag_of v))
shaped key.SocketConnectHost v = option_map Text (text_if v)
shaped key.SocketConnectPort v = option_map Port (port_if v)
shaped key.SocketAcceptHost v = Some (Text (text_of v))
shaped key.SocketAcceptPort v = option_map Port (port_if v)
shaped key.FileStorePath v = option_map Text (text_if v)
shaped key.TimeStampPrecision v = Some (Fine (precision_of v))
shaped key.AppTypes v = option_map Types (types_if v)
