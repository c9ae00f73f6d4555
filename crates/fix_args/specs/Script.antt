-- What the arguments of `fixscript` ask for.
use Rattle.std.specs.Prelude.{Bool, true, false, List, [], ◌∷◌, Option, Some, None, unwrap_or, codes}
use Rattle.clap.specs.Words.{Row, all_of}
use Rattle.clap.specs.Walk.{Text}
use Rattle.fix_args.specs.Command.{is_set}
use Rattle.fix_args.specs.declared.script.ScriptArgs.{ScriptArgs}
use Rattle.fix_args.specs.declared.script.ScriptArgs.TheVariants as args

-- a line of the table
pub data ScriptText : Type 0 where
  Run : (script settings : Text) → ScriptText
  Make : (count seed : Text) → ScriptText

abbrev pub text_of : ScriptArgs → ScriptText
text_of (args.Run script settings) = Run script.now settings.now
text_of (args.Make count seed) = Make count.now seed.now

-- by `--make` and the other words: `SCRIPT SETTINGS` and `--make N SEED`
abbrev pub line_of : (make : Bool) → List Text → Option ScriptText
line_of false (script ∷ settings ∷ []) = Some (Run script settings)
line_of true (count ∷ seed ∷ []) = Some (Make count seed)
line_of _ _ = None

abbrev pub script_line : List Row → Option ScriptText
script_line rows = line_of (is_set (codes "make") rows) (unwrap_or (all_of (codes "names") rows) [])
