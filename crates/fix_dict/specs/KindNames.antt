-- The names of the kinds of values in a dictionary.
use Rattle.std.specs.Prelude.{ℕ, if◌then◌else◌, List, codes, bytes_eq, Option, Some, None}
use Rattle.fix_fields.specs.declared.kind.ValueKind.{ValueKind}
use Rattle.fix_fields.specs.declared.kind.ValueKind.TheVariants as kind
use Rattle.fix_dict.specs.Option.{or_else}

-- a kind whose values are a number
abbrev pub number_named : List ℕ → Option ValueKind
number_named name =
    (if bytes_eq name (codes "INT") then Some kind.Int
    else (if bytes_eq name (codes "LENGTH") then Some kind.Length
    else (if bytes_eq name (codes "NUMINGROUP") then Some kind.NumInGroup
    else (if bytes_eq name (codes "SEQNUM") then Some kind.SeqNum
    else (if bytes_eq name (codes "PRICE") then Some kind.Price
    else (if bytes_eq name (codes "QTY") then Some kind.Qty
    else (if bytes_eq name (codes "AMT") then Some kind.Amt
    else (if bytes_eq name (codes "PRICEOFFSET") then Some kind.PriceOffset
    else (if bytes_eq name (codes "PERCENTAGE") then Some kind.Percentage
    else (if bytes_eq name (codes "FLOAT") then Some kind.Float else None))))))))))

-- a kind whose values are a date or a time
abbrev pub time_named : List ℕ → Option ValueKind
time_named name =
    (if bytes_eq name (codes "UTCTIMESTAMP") then Some kind.UtcTimestamp
    else (if bytes_eq name (codes "LOCALMKTDATE") then Some kind.LocalMktDate
    else (if bytes_eq name (codes "MONTHYEAR") then Some kind.MonthYear
    else (if bytes_eq name (codes "UTCTIMEONLY") then Some kind.UtcTimeOnly
    else (if bytes_eq name (codes "UTCDATEONLY") then Some kind.UtcDateOnly
    else (if bytes_eq name (codes "DAYOFMONTH") then Some kind.DayOfMonth else None))))))

-- a kind whose values are a byte or a text
abbrev pub text_named : List ℕ → Option ValueKind
text_named name =
    (if bytes_eq name (codes "CHAR") then Some kind.Char
    else (if bytes_eq name (codes "BOOLEAN") then Some kind.Boolean
    else (if bytes_eq name (codes "STRING") then Some kind.String
    else (if bytes_eq name (codes "CURRENCY") then Some kind.Currency
    else (if bytes_eq name (codes "EXCHANGE") then Some kind.Exchange
    else (if bytes_eq name (codes "COUNTRY") then Some kind.Country
    else (if bytes_eq name (codes "DATA") then Some kind.Data
    else (if bytes_eq name (codes "MULTIPLEVALUESTRING") then Some kind.MultipleValueString else None))))))))

abbrev pub kind_named : List ℕ → Option ValueKind
kind_named name = or_else (number_named name) (or_else (time_named name) (text_named name))
