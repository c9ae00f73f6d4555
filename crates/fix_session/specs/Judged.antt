-- What a message is after its header, by what its fields say and by the rules of the session.
use Rattle.std.specs.Prelude.{◌≡◌, ℕ, List, Bool, true, false, Option, Some, None, option_map, Result, Ok, Err}
use Rattle.fix_base.specs.Fields.{Field}
use Rattle.fix_base.specs.Says.{HasFields, is_admin_type}
use Rattle.fix_base.specs.declared.fault.Fault.{Fault}
use Rattle.fix_admin.specs.Admin.{AdminSeen, admin_of}
use Rattle.fix_machine.specs.Event.{VerdictSeen, App, Admin, Bad}
use Rattle.fix_dict.specs.Dictionary.{DictionarySeen}
use Rattle.fix_validate.specs.Checks.{Checks}
use Rattle.fix_session.specs.declared.rules.Rules.{Rules}

-- by which rules messages are judged: the dictionary, where there is one, and whether header fields stand first and
-- trailer fields last
pub record RulesSeen : Type 0 where
  pub dict : Option DictionarySeen
  pub order : Bool

abbrev pub rules_seen : Rules → RulesSeen
rules_seen rules = record { dict = option_map (λ d. d.now) rules.dict; order = rules.order }

-- the first fault of the frame by the dictionary, where the rules have one
abbrev pub RuledBy : Option DictionarySeen → Bool → List ℕ → Option Fault → Type 0
RuledBy None order frame answer = answer ≡ None
RuledBy (Some d) order frame answer = Checks d order frame answer

abbrev pub RuledOut : RulesSeen → List ℕ → Option Fault → Type 0
RuledOut rules frame answer = RuledBy rules.dict rules.order frame answer

-- what the fields of the frame say as a session message of this MsgType (35)
abbrev pub SaysAs : List ℕ → List ℕ → Result AdminSeen Fault → Type 0
SaysAs frame type answer = (fields : List Field) → HasFields frame fields → admin_of type fields ≡ answer

-- A message of this MsgType (35): what it is and says where it has no fault, else its first fault. That of a session
-- message's own fields goes before that of the dictionary
pub data Judged (rules : RulesSeen) (frame : List ℕ) (type : List ℕ) : VerdictSeen → Type 0 where
  of_application : is_admin_type type ≡ false → RuledOut rules frame None → Judged rules frame type App
  of_session : (admin : AdminSeen) → is_admin_type type ≡ true → SaysAs frame type (Ok admin)
      → RuledOut rules frame None → Judged rules frame type (Admin admin)
  at_fault : (fault : Fault) → is_admin_type type ≡ true → SaysAs frame type (Err fault)
      → Judged rules frame type (Bad fault)
  application_ruled_out : (fault : Fault) → is_admin_type type ≡ false → RuledOut rules frame (Some fault)
      → Judged rules frame type (Bad fault)
  session_ruled_out : (admin : AdminSeen) (fault : Fault) → is_admin_type type ≡ true → SaysAs frame type (Ok admin)
      → RuledOut rules frame (Some fault) → Judged rules frame type (Bad fault)
