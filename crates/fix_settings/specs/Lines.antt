-- The lines of a settings text, and the sections that they make.
use Rattle.std.specs.Prelude.{◌≡◌, ℕ, ◌+◌, ◌<◌, ◌==◌, ◌||◌, if◌then◌else◌, Bool, List, [], ◌∷◌, ◌++◌, length, codes}
use Rattle.std.specs.Prelude.{bytes_eq, Option, Some, None, true, false}
use Rattle.std.specs.List.{onto_first}
use Rattle.std.specs.Option.{option_or}
use Rattle.std.specs.Str.{str_eq_ignore_ascii_case}

-- a line's LF
abbrev pub onto_line : ℕ → List (List ℕ) → List (List ℕ)
onto_line b lines = if b == 10 then [] ∷ lines else onto_first b lines

-- the lines of a text, each without its LF; the last one may have none
abbrev pub lines_of : List ℕ → List (List ℕ)
lines_of [] = []
lines_of (b ∷ bs) = onto_line b (lines_of bs)

-- the bytes are a line and what is after it
pub record IsCut (text line rest : List ℕ) : Type 0 where
  pub lines : lines_of text ≡ line ∷ lines_of rest
  pub shorter : length rest < length text

-- a blank: a space, a tab or a CR
abbrev pub is_blank : ℕ → Bool
is_blank b = b == 32 || (b == 9 || b == 13)

-- without the blanks in front
abbrev pub trim_front : List ℕ → List ℕ
trim_front [] = []
trim_front (b ∷ bs) = if is_blank b then trim_front bs else b ∷ bs

abbrev pub unless_blank : ℕ → List ℕ → List ℕ
unless_blank b [] = if is_blank b then [] else b ∷ []
unless_blank b (c ∷ cs) = b ∷ c ∷ cs

-- without the blanks at the end
abbrev pub trim_back : List ℕ → List ℕ
trim_back [] = []
trim_back (b ∷ bs) = unless_blank b (trim_back bs)

-- without the blanks at both ends
abbrev pub trimmed : List ℕ → List ℕ
trimmed bs = trim_back (trim_front bs)

abbrev pub onto_cut : ℕ → Option (List ℕ × List ℕ) → Option (List ℕ × List ℕ)
onto_cut b None = None
onto_cut b (Some parts) = Some (b ∷ parts.0, parts.1)

-- what stands before the first of these bytes, and what after it
abbrev pub cut_at : ℕ → List ℕ → Option (List ℕ × List ℕ)
cut_at byte [] = None
cut_at byte (b ∷ bs) = if b == byte then Some ([], bs) else onto_cut b (cut_at byte bs)

-- a key and its value, in the line of this number; the first line has the number 1
pub record Pair : Type 0 where
  pub line : ℕ
  pub key : List ℕ
  pub value : List ℕ

-- what a line is: passed over, a heading, a key and its value, or of no form
pub data Line : Type 0 where
  Passed : Line
  Default : Line
  Session : ℕ → Line
  Given : Pair → Line
  Wrong : ℕ → Line

abbrev pub pair_of : ℕ → List ℕ → List ℕ → Line
pair_of n [] value = Wrong n
pair_of n (b ∷ bs) value = Given (record { line = n; key = b ∷ bs; value = value })

-- a key, `=` and a value, with the blanks around both dropped; the key isn't empty
abbrev pub pair_in : ℕ → Option (List ℕ × List ℕ) → Line
pair_in n None = Wrong n
pair_in n (Some parts) = pair_of n (trimmed parts.0) (trimmed parts.1)

-- the line of this number, without the blanks at its ends
abbrev pub trimmed_line : ℕ → List ℕ → Line
trimmed_line n [] = Passed
trimmed_line n (b ∷ bs) =
    if b == 35 then Passed
    else (if str_eq_ignore_ascii_case (b ∷ bs) (codes "[DEFAULT]") then Default
    else (if str_eq_ignore_ascii_case (b ∷ bs) (codes "[SESSION]") then Session n
    else pair_in n (cut_at 61 (b ∷ bs))))

abbrev pub line_of : ℕ → List ℕ → Line
line_of n bytes = trimmed_line n (trimmed bytes)

-- lines from this number on
abbrev pub numbered : ℕ → List (List ℕ) → List Line
numbered n [] = []
numbered n (bytes ∷ lines) = line_of n bytes ∷ numbered (n + 1) lines

-- what the lines of a text are
abbrev pub read_lines : List ℕ → List Line
read_lines text = numbered 1 (lines_of text)

-- the pairs up to the next heading
abbrev pub run_of : List Line → List Pair
run_of [] = []
run_of (Passed ∷ lines) = run_of lines
run_of (Default ∷ lines) = []
run_of (Session n ∷ lines) = []
run_of (Given pair ∷ lines) = pair ∷ run_of lines
run_of (Wrong n ∷ lines) = run_of lines

-- the pairs of all default sections, wherever they stand
abbrev pub defaults_of : List Line → List Pair
defaults_of [] = []
defaults_of (Passed ∷ lines) = defaults_of lines
defaults_of (Default ∷ lines) = run_of lines ++ defaults_of lines
defaults_of (Session n ∷ lines) = defaults_of lines
defaults_of (Given pair ∷ lines) = defaults_of lines
defaults_of (Wrong n ∷ lines) = defaults_of lines

-- a session's section: the line of its heading, and its pairs
pub record Section : Type 0 where
  pub line : ℕ
  pub pairs : List Pair

abbrev pub sections_of : List Line → List Section
sections_of [] = []
sections_of (Passed ∷ lines) = sections_of lines
sections_of (Default ∷ lines) = sections_of lines
sections_of (Session n ∷ lines) = record { line = n; pairs = run_of lines } ∷ sections_of lines
sections_of (Given pair ∷ lines) = sections_of lines
sections_of (Wrong n ∷ lines) = sections_of lines

-- the last pair with this key
abbrev pub with_key : List ℕ → Pair → Option Pair
with_key key pair = if bytes_eq pair.key key then Some pair else None

abbrev pub last_of : List ℕ → List Pair → Option Pair
last_of key [] = None
last_of key (pair ∷ pairs) = option_or (last_of key pairs) (with_key key pair)

abbrev pub is_heading : Line → Bool
is_heading Passed = false
is_heading Default = true
is_heading (Session n) = true
is_heading (Given pair) = false
is_heading (Wrong n) = false

abbrev pub is_default : Line → Bool
is_default Passed = false
is_default Default = true
is_default (Session n) = false
is_default (Given pair) = false
is_default (Wrong n) = false

-- what was found, with one more line
abbrev pub found_after : List ℕ → Line → Option Pair → Option Pair
found_after key Passed found = found
found_after key Default found = found
found_after key (Session n) found = found
found_after key (Given pair) found = option_or (with_key key pair) found
found_after key (Wrong n) found = found
