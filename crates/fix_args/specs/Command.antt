-- The command lines of the programs as clap's simple commands, and what words ask of one.
use Rattle.std.specs.Prelude.{◌≡◌, Bool, true, false, List, [], Option, Some, codes}
use Rattle.std.specs.Str.{bytes_eq}
use Rattle.std.specs.Option.{option_map_or}
use Rattle.clap.specs.Words.{App, Rule, Row, new_app, new_rule, with_rule, first_of, matches_of, fault_of}
use Rattle.clap.specs.Simple.{on_top}
use Rattle.clap.specs.Walk.{Text}
use Rattle.clap.specs.declared.builder.ArgAction.TheVariants.{Set, SetTrue, Append}

-- ---- the parts of a command line

-- a flag is there or not
abbrev pub flag : Text → Rule
flag name = record (new_rule name) { long = Some name; action = Some SetTrue }

-- an option has a value
abbrev pub option : Text → Rule
option name = record (new_rule name) { long = Some name; action = Some Set }

-- all other words
abbrev pub names : Rule
names = record (new_rule (codes "names")) { action = Some Append }

-- a program's command line, without flags yet: `--help` and `--version` are no words of it
abbrev pub bare : Text → App
bare program = on_top (λ s. record s { no_binary_name = true; disable_help_flag = true }) (new_app program)

-- ---- the programs

abbrev pub acceptor_command : App
acceptor_command = with_rule (with_rule (with_rule (with_rule (with_rule (with_rule (bare (codes "fixacceptor"))
    (flag (codes "stdio"))) (flag (codes "check"))) (flag (codes "echo"))) (option (codes "settings")))
    (option (codes "store"))) names

abbrev pub initiator_command : App
initiator_command = with_rule (with_rule (with_rule (bare (codes "fixinitiator")) (flag (codes "send")))
    (flag (codes "check"))) names

abbrev pub script_command : App
script_command = with_rule (with_rule (bare (codes "fixscript")) (flag (codes "make"))) names

-- ---- what clap finds

-- a flag that is there has this value
abbrev pub flag_of : Option Text → Bool
flag_of value = option_map_or (λ t. bytes_eq t (codes "true")) value false

abbrev pub is_set : Text → List Row → Bool
is_set name rows = flag_of (first_of name rows)

-- ---- what words ask for

-- clap reads the words as this command line, and what it finds meets a line of the program's table
pub record Asks {A : Type 0} (command : App) (line : List Row → Option A) (words : List Text) (args : A) : Type 0 where
  pub read : fault_of command words ≡ []
  pub meets : line (matches_of command words) ≡ Some args

abbrev pub AsksNothing : {A : Type 0} → App → (List Row → Option A) → List Text → Type 0
AsksNothing {A} command line words = (args : A) → Asks command line words args → ⊥
