-- The bytes of a frame around its body: BeginString (8), BodyLength (9), the body, CheckSum (10).
use Rattle.std.specs.Prelude.{ℕ, ◌+◌, ◌/◌, ◌%◌, List, [], ◌∷◌, ◌++◌, length, sum, codes}
use Rattle.std.specs.Fmt.{decimal}
use Rattle.fix_base.specs.Session.{Begin, begin_string_of}

-- a number below 1000 in three digits
abbrev pub three_digits_of : ℕ → List ℕ
three_digits_of n = (48 + n / 100) ∷ (48 + n / 10 % 10) ∷ (48 + n % 10) ∷ []

abbrev pub head_of : Begin → List ℕ → List ℕ
head_of begin body = codes "8=" ++ begin_string_of begin ++ 1 ∷ [] ++ codes "9=" ++ decimal (length body) ++ 1 ∷ []

abbrev pub trailer_of : ℕ → List ℕ
trailer_of n = codes "10=" ++ three_digits_of n ++ 1 ∷ []

abbrev pub sealed : Begin → List ℕ → List ℕ
sealed begin body = head_of begin body ++ body ++ trailer_of (sum (head_of begin body ++ body) % 256)
