-- What the arguments of `fixinitiator` ask for.
use Rattle.std.specs.Prelude.{Bool, true, false, List, [], ◌∷◌, Option, Some, None, map, unwrap_or, codes}
use Rattle.clap.specs.Words.{Row, all_of}
use Rattle.clap.specs.Walk.{Text}
use Rattle.fix_args.specs.Command.{is_set}
use Rattle.fix_args.specs.declared.initiator.InitiatorArgs.{InitiatorArgs}
use Rattle.fix_args.specs.declared.initiator.InitiatorArgs.TheVariants as args

-- a line of the table
pub data InitiatorText : Type 0 where
  Serve : (settings : Text) → InitiatorText
  Send : (settings : Text) (files : List Text) → InitiatorText
  Check : (settings : Text) → InitiatorText

abbrev pub text_of : InitiatorArgs → InitiatorText
text_of (args.Serve settings) = Serve settings.now
text_of (args.Send settings files) = Send settings.now (map (λ f. f.now) files.items)
text_of (args.Check settings) = Check settings.now

-- by `--send`, `--check`, and the other words: `SETTINGS`, `--send SETTINGS FILES` with at least one file, and
-- `--check SETTINGS`
abbrev pub line_of : (send check : Bool) → List Text → Option InitiatorText
line_of false false (settings ∷ []) = Some (Serve settings)
line_of true false (settings ∷ file ∷ files) = Some (Send settings (file ∷ files))
line_of false true (settings ∷ []) = Some (Check settings)
line_of _ _ _ = None

abbrev pub initiator_line : List Row → Option InitiatorText
initiator_line rows =
    line_of (is_set (codes "send") rows) (is_set (codes "check") rows) (unwrap_or (all_of (codes "names") rows) [])
