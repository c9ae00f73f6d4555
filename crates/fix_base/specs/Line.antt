-- The line of text that shows a message to an application.
use Rattle.std.specs.Prelude.{ℕ, ◌+◌, ◌/◌, ◌%◌, ◌==◌, ◌||◌, nat_lt, nat_le, if◌then◌else◌, Bool, List, [], ◌∷◌}
use Rattle.std.specs.Prelude.{◌++◌, decimal}

-- 0 to 9 and a to f
abbrev pub hex_digit : ℕ → ℕ
hex_digit d = if nat_lt d 10 then 48 + d else 87 + d

-- a byte as body text: SOH as `|`, `\` as `\\`, `|` as `\|`, and each other byte that isn't from
-- 0x20 to 0x7E as `\x` and two digits
abbrev pub byte_text : ℕ → List ℕ
byte_text b =
    if b == 1 then 124 ∷ []
    else (if b == 92 then 92 ∷ 92 ∷ []
    else (if b == 124 then 92 ∷ 124 ∷ []
    else (if nat_lt b 32 || nat_le 127 b then 92 ∷ 120 ∷ hex_digit (b / 16) ∷ hex_digit (b % 16) ∷ []
    else b ∷ [])))

abbrev pub body_text : List ℕ → List ℕ
body_text [] = []
body_text (b ∷ bs) = byte_text b ++ body_text bs

-- MsgSeqNum (34), `Y` where PossDupFlag (43) is Y and else `N`, and the body, with a space between
-- and LF after it
abbrev pub line_text : ℕ → Bool → List ℕ → List ℕ
line_text number marked body = decimal number ++ (32 ∷ (if marked then 89 else 78) ∷ 32 ∷ []) ++ body_text body
    ++ (10 ∷ [])
