-- What a command line is, and what its matches say.
use Rattle.std.proofs.Common.{◌≡◌, ◌∙◌, ap, sym, subst, refl, List, [], ◌∷◌, Option, Some, None, Bool, true, false}
use Rattle.std.proofs.Common.{codes}
use Rattle.std.proofs.lemmas.Bool.{false≢true}
use Rattle.std.specs.Borrow.{Bor}
use Rattle.std.specs.Prelude.{MatchOption, map, option_map, unwrap_or}
use Rattle.std.specs.Str.{bytes_eq}
use Rattle.clap.specs.Matches.{found_of}
use Rattle.clap.specs.Simple.{on_top, app_of_fields}
use Rattle.clap.specs.Walk.{Text}
use Rattle.clap.specs.Words.{App, Row, app_of, new_app, fault_of, matches_of, is_simple, is_simple_and_free}
use Rattle.clap.specs.Words.{HasMatchesOf, rows_of}
use Rattle.clap.specs.declared.builder.command.Command.{Command}
use Rattle.clap.specs.declared.builder.command.Command.TheViews.{out-Command as fields_of}
use Rattle.clap.specs.declared.parser.matches.ArgMatches.{ArgMatches}
use Rattle.fix_args.specs.Command.{bare, flag_of, Asks, AsksNothing}

pub bare_is : (program : Text) (a b c : Command) → app_of a ≡ new_app program
    → fields_of b ≡ record (fields_of a) { no_binary_name = true }
    → fields_of c ≡ record (fields_of b) { disable_help_flag = true } → app_of c ≡ bare program
bare_is program a b c first second third =
    ap app_of_fields third
    ∙ (ap (on_top (λ s. record s { disable_help_flag = true }))
    (ap app_of_fields second ∙ ap (on_top (λ s. record s { no_binary_name = true })) first))

pub flag_some : (b : Bool) (text : Text) (o : Option Text) → Some text ≡ o → b ≡ bytes_eq text (codes "true")
    → b ≡ flag_of o
flag_some b text o is e = e ∙ ap flag_of is

pub flag_none : (o : Option Text) → None ≡ o → false ≡ flag_of o
flag_none o is = ap flag_of is

pub names_eq : (o : Option (Bor (List (Bor Text)))) (d r : Bor (List (Bor Text))) (a : Option (List Text))
    → option_map (λ s. map (λ (v : Bor Text). v.now) s.now) o ≡ a → d.now ≡ [] → r ≡ unwrap_or o d
    → map (λ (v : Bor Text). v.now) r.now ≡ unwrap_or a []
names_eq None d r a is empty e = rw (e, empty) (ap (λ o. unwrap_or o []) is)
names_eq (Some x) d r a is empty e = rw e (ap (λ o. unwrap_or o []) is)

abbrev is_some : {A : Type 0} → Option A → Bool
is_some None = false
is_some (Some x) = true

-- what the code found is what the words ask for
pub asks : {A B : Type 0} (command : App) (line : List Row → Option B) (text : A → B) (words : List Text)
    (found : Option A) → fault_of command words ≡ [] → option_map text found ≡ line (matches_of command words)
    → MatchOption found (AsksNothing command line words) (λ args. Asks command line words (text args))
asks command line text words None read is = λ args met. absurd (false≢true (ap is_some (is ∙ met.meets)))
asks command line text words (Some x) read is = record { read = read; meets = sym is }

pub read_by : (app command : App) (words : List Text) → app ≡ command → is_simple_and_free command ≡ true
    → (is_simple_and_free app ≡ true → fault_of app words ≡ []) → fault_of command words ≡ []
read_by app command words is free h = subst (λ a. fault_of a words ≡ []) is (h (rw is free))

pub rows_by : (app command : App) (words : List Text) (m : ArgMatches) → app ≡ command → is_simple command ≡ true
    → HasMatchesOf app words m → rows_of (found_of m) ≡ matches_of command words
rows_by app command words m is simple h =
    subst (λ a. rows_of (found_of m) ≡ matches_of a words) is (h (rw is simple)).0
