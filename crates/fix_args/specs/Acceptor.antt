-- What the arguments of `fixacceptor` ask for.
use Rattle.std.specs.Prelude.{Bool, true, false, List, [], ◌∷◌, Option, Some, None, option_map, unwrap_or, codes}
use Rattle.clap.specs.Words.{Row, first_of, all_of}
use Rattle.clap.specs.Walk.{Text}
use Rattle.fix_args.specs.Command.{is_set}
use Rattle.fix_args.specs.declared.acceptor.AcceptorArgs.{AcceptorArgs}
use Rattle.fix_args.specs.declared.acceptor.AcceptorArgs.TheVariants as args

-- a line of the table
pub data AcceptorText : Type 0 where
  Stdio : (settings store : Option Text) (begin sender target : Text) → AcceptorText
  Check : (settings : Text) → AcceptorText
  Serve : (echo : Bool) (settings : Text) → AcceptorText

abbrev pub text_of : AcceptorArgs → AcceptorText
text_of (args.Stdio settings store begin sender target) =
    Stdio (option_map (λ s. s.now) settings) (option_map (λ s. s.now) store) begin.now sender.now target.now
text_of (args.Check settings) = Check settings.now
text_of (args.Serve echo settings) = Serve echo settings.now

-- `--stdio [--settings FILE] [--store FILE] BEGIN SENDER TARGET`
abbrev pub stdio_line : Option Text → Option Text → List Text → Option AcceptorText
stdio_line settings store (begin ∷ sender ∷ target ∷ []) = Some (Stdio settings store begin sender target)
stdio_line settings store _ = None

-- `--check SETTINGS` and `[--echo] SETTINGS`: one file, and no option
abbrev pub file_line : (Text → AcceptorText) → Option Text → Option Text → List Text → Option AcceptorText
file_line line None None (settings ∷ []) = Some (line settings)
file_line line _ _ _ = None

-- by `--stdio`, `--check`, `--echo`, the values of `--settings` and `--store`, and the other words
abbrev pub line_of : (stdio check echo : Bool) → Option Text → Option Text → List Text → Option AcceptorText
line_of true false false settings store names = stdio_line settings store names
line_of false true false settings store names = file_line Check settings store names
line_of false false echo settings store names = file_line (Serve echo) settings store names
line_of _ _ _ settings store names = None

abbrev pub acceptor_line : List Row → Option AcceptorText
acceptor_line rows = line_of (is_set (codes "stdio") rows) (is_set (codes "check") rows) (is_set (codes "echo") rows)
    (first_of (codes "settings") rows) (first_of (codes "store") rows) (unwrap_or (all_of (codes "names") rows) [])
