-- What the steps of an answer may do so that they are a run of a lawful end. The conditions speak of the message, the
-- steps and the numbers alone.
use Rattle.std.specs.Prelude.{◌≡◌, ◌≢◌, ◌<◌, ◌≤◌, ℕ, ◌+◌, if◌then◌else◌, List, [], ◌∷◌, Bool, true, false, Option, Some, None}
use Rattle.fix_base.specs.Lists.{Among}
use Rattle.fix_base.specs.declared.identity.Identity.{Identity}
use Rattle.fix_base.specs.declared.entry.Record.TheVariants as records
use Rattle.fix_base.specs.Logon.{IsLogon, IsResetLogon, IsFirstLogon, Begun}
use Rattle.fix_base.specs.Message.{Message, App, GapFill, ResetTo, IsAdminNumbered}
use Rattle.fix_base.specs.Says.{Says, Shows}
use Rattle.fix_base.specs.EndStep.{Answer, AskedReset, OwnReset, EndState, Grew}
use Rattle.fix_base.specs.declared.fault.Fault.{Fault}
use Rattle.fix_admin.specs.Say.{SaySeen, Heartbeat, TestRequest, ResendRequest, Reject, Logout, Logon}
use Rattle.fix_admin.specs.Say as say
use Rattle.fix_machine.specs.declared.event.Why.{Why}
use Rattle.fix_machine.specs.Event.{StepSeen, Send, Serve, Hand, Stash, Expect, Reset, Close, Nothing}
use Rattle.fix_machine.specs.Numbers.{begins_with_a_flush}
use Rattle.fix_stage.specs.Stage.{no_stage}
use Rattle.fix_stage.specs.declared.sender.Sender.{Sender}
use Rattle.fix_stage.specs.Lawful.{HasKept, IsCertain, IsInDoubt, Fits, Level, Bare}
use Rattle.fix_stage.specs.LawfulServing.{IsWithholdInDoubt}
use Rattle.fix_steps.specs.declared.ending.Ending.{Ending}
use Rattle.fix_steps.specs.declared.ending.Ending.TheVariants as ending
use Rattle.fix_steps.specs.Leaves.{last_taken}

-- ---- what may be done

-- where an answer stands: nothing is staged, something may be, or the message was handed over or rejected
pub data Standing : Type 0 where
  Clear : Standing
  Open : Standing
  Handled : Standing

-- the message wasn't handed over or rejected yet
abbrev pub IsFresh : Standing → Type 0
IsFresh Clear = Unit {0}
IsFresh Open = Unit {0}
IsFresh Handled = ⊥

-- it asks for no reset
abbrev pub IsNoReset : SaySeen → Type 0
IsNoReset (Heartbeat id) = Unit {0}
IsNoReset TestRequest = Unit {0}
IsNoReset (ResendRequest from to) = Unit {0}
IsNoReset (Reject about type fault) = Unit {0}
IsNoReset (say.GapFill next) = Unit {0}
IsNoReset (Logout text) = Unit {0}
IsNoReset (Logon heart reset version) = reset ≡ false

-- What a step may do in the answer to this message, or to something else: from where the answer stands, with this
-- number expected, to where it stands then, with that one. An application message is passed once it was handed over or
-- rejected, another of the expected number as it is, a gap fill to where it leads, and a reset to no lower number.
-- Passing one leaves what is staged as it is
pub data MayDo (x : Option Message) : Standing → ℕ → StepSeen → Standing → ℕ → Type 0 where
  may_say : {at : Standing} {n : ℕ} (said : SaySeen) → IsFresh at → IsNoReset said → MayDo x at n (Send said) Open n
  may_reject : {at : Standing} {n : ℕ} (marked : Bool) (body type : List ℕ) (fault : Fault)
      → x ≡ Some (App n marked body) → IsFresh at → MayDo x at n (Send (Reject n type fault)) Handled n
  may_hand : {n : ℕ} (marked : Bool) (body : List ℕ) → x ≡ Some (App n marked body) → MayDo x Clear n Hand Handled n
  may_serve : {n : ℕ} (from until : ℕ) → MayDo x Clear n (Serve from until) Clear n
  may_wait : {at : Standing} {n : ℕ} → MayDo x at n Stash at n
  passes_app : {n : ℕ} (marked : Bool) (body : List ℕ) → x ≡ Some (App n marked body)
      → MayDo x Handled n (Expect (n + 1)) Open (n + 1)
  passes_admin : {at : Standing} {n : ℕ} (y : Message) → x ≡ Some y → IsAdminNumbered n y → IsFresh at
      → MayDo x at n (Expect (n + 1)) at (n + 1)
  passes_gap : {at : Standing} {n : ℕ} (m : ℕ) → x ≡ Some (GapFill n m) → n < m → IsFresh at
      → MayDo x at n (Expect m) at m
  resets_to : {at : Standing} {n : ℕ} (k m : ℕ) → x ≡ Some (ResetTo k m) → n ≤ m → IsFresh at
      → MayDo x at n (Expect m) at m
  may_close : {at : Standing} {n : ℕ} (why : Why) → MayDo x at n (Close why) at n
  may_rest : {at : Standing} {n : ℕ} → MayDo x at n Nothing at n

-- the same of several, one after another
pub data MayDoAll (x : Option Message) : Standing → ℕ → List StepSeen → Standing → ℕ → Type 0 where
  all_done : {at : Standing} {n : ℕ} → MayDoAll x at n [] at n
  first_may : {at at' to : Standing} {n n' m : ℕ} {step : StepSeen} {steps : List StepSeen} → MayDo x at n step at' n'
      → MayDoAll x at' n' steps to m → MayDoAll x at n (step ∷ steps) to m

-- The steps of an answer that begins the numbers anew: a reset stands first. Where the counterparty asked for it the Logon
-- with 141=Y that tells of it comes next
pub data MayRenew (x : Option Message) : Answer → List StepSeen → Standing → ℕ → Type 0 where
  renews_asked : {to : Standing} {m : ℕ} {steps : List StepSeen} (heart : ℕ) (version : Option ℕ)
      → MayDoAll x Open 1 steps to m → MayRenew x AskedReset (Reset ∷ Send (Logon heart true version) ∷ steps) to m
  renews_own : {to : Standing} {m : ℕ} {steps : List StepSeen} → MayDoAll x Clear 1 steps to m
      → MayRenew x OwnReset (Reset ∷ steps) to m

-- after a flush nothing is staged
abbrev pub standing_first : List StepSeen → Standing
standing_first steps = if begins_with_a_flush steps then Clear else Open

-- an answer may do all of its steps
abbrev pub MayAnswer : Option Message → ℕ → List StepSeen → Standing → ℕ → Type 0
MayAnswer x n steps to m = MayDoAll x (standing_first steps) n steps to m

-- ---- what was read

-- the first frame of the bytes is there, and is no Logon with 141=Y
abbrev pub BeginsPlainly : List ℕ → Type 0
BeginsPlainly bytes = Begun (λ text. IsResetLogon text → ⊥) bytes

-- The first frame that was read lets messages count: it is no Logon with 141=Y, or what that asks for is kept
pub data LetsCount (read : List ℕ) (resets : List Answer) : Type 0 where
  begins_plainly : BeginsPlainly read → LetsCount read resets
  kept_some : resets ≢ [] → LetsCount read resets

-- the first frames of the bytes say this among others
pub record WasReadIn (read : List ℕ) (x : Message) : Type 0 where
  pub messages : List Message
  pub shows : Shows read messages
  pub among : Among x messages

-- the frame that is answered says this, and was read; or nothing that counts is answered
pub data IsAnswered (read : List ℕ) (resets : List Answer) : Option (List ℕ) → Option Message → Type 0 where
  says : (text : List ℕ) (x : Message) → Says text x → LetsCount read resets → WasReadIn read x
      → IsAnswered read resets (Some text) (Some x)
  silent : (frame : Option (List ℕ)) → IsAnswered read resets frame None

-- how a reset comes about: the first frame that was read asks for it, or is a Logon that doesn't
pub data IsHeard (read : List ℕ) : Answer → Type 0 where
  asked : Begun IsFirstLogon read → IsHeard read AskedReset
  unasked : Begun IsLogon read → BeginsPlainly read → IsHeard read OwnReset

-- ---- the end in step with a session in the middle of an answer

-- each message that was given on the connection has a lower number than the expected one
pub record InStep (id : Identity) (read : List ℕ) (resets : List Answer) (n : ℕ) (b : Sender) (e : EndState) : Type 0 where
  pub given : List ℕ
  pub fits : Fits id read resets given n b e
  pub below : (k : ℕ) → Among k given → k < n

-- and nothing is staged
pub record InStepClear (id : Identity) (read : List ℕ) (resets : List Answer) (n : ℕ) (b : Sender) (e : EndState) : Type 0 where
  pub given : List ℕ
  pub level : Level id read resets given n b e
  pub empty : b.stage ≡ no_stage
  pub below : (k : ℕ) → Among k given → k < n

-- the message of the expected number was handed over or rejected
pub record HasHandled (id : Identity) (read : List ℕ) (resets : List Answer) (n : ℕ) (b : Sender) (e : EndState) : Type 0 where
  pub given : List ℕ
  pub fits : Fits id read resets given n b e
  pub within : (k : ℕ) → Among k given → k ≤ n
  pub grew : Grew fits.on.connection fits.ahead.to.handled n

abbrev pub Stands : Identity → List ℕ → List Answer → Standing → ℕ → Sender → EndState → Type 0
Stands id read resets Clear n b e = InStepClear id read resets n b e
Stands id read resets Open n b e = InStep id read resets n b e
Stands id read resets Handled n b e = HasHandled id read resets n b e

-- nothing was written or given on its connection, and nothing is kept of resets or staged
pub record IsSilent (id : Identity) (read : List ℕ) (n : ℕ) (b : Sender) (e : EndState) : Type 0 where
  pub level : Level id read [] [] n b e
  pub empty : b.stage ≡ no_stage
  pub silent : level.on.connection.written ≡ []

-- this holds of them, and each number that a message took is a MsgSeqNum
pub record InBounds (P : Sender → EndState → Type 0) (b : Sender) (e : EndState) : Type 0 where
  pub is : P b e
  pub last : last_taken b ≤ 999999999

-- the end is in step with a session that is on its connection still: what is staged may be kept and written
pub record IsStillOn (id : Identity) (read : List ℕ) (b : Sender) (e : EndState) : Type 0 where
  pub number : ℕ
  pub resets : List Answer
  pub given : List ℕ
  pub fits : Fits id read resets given number b e

-- a reset is in doubt, and else the end has what the session has kept
pub record IsResetInDoubt (b : Sender) (e : EndState) : Type 0 where
  pub kept : HasKept b.numbers e
  pub time : ℕ
  pub doubt : e.doubt ≡ Some (records.Reset time)
  pub closed : e.connection ≡ None

-- the end after the store failed: a record of what was staged, a number that is withheld or a reset is in doubt, or
-- none, where it failed at a fetch
pub data AfterStoreFault (b : Sender) (e : EndState) : Type 0 where
  staged_in_doubt : IsInDoubt b e → AfterStoreFault b e
  withheld_in_doubt : IsWithholdInDoubt b e → AfterStoreFault b e
  reset_in_doubt : IsResetInDoubt b e → AfterStoreFault b e
  none_in_doubt : Bare b e → AfterStoreFault b e

-- The end after an answer that ended early. After a close the session is on its connection until the turn is settled;
-- where no number is left too, with nothing staged
abbrev pub AfterEnding : Identity → List ℕ → Ending → Sender → EndState → Type 0
AfterEnding id read (ending.Closed why) b e = IsStillOn id read b e
AfterEnding id read ending.NumbersSpent b e = IsStillOn id read b e × (b.stage ≡ no_stage)
AfterEnding id read ending.OutOfMemory b e = IsCertain b.numbers e
AfterEnding id read ending.StoreFault b e = AfterStoreFault b e
AfterEnding id read ending.LinkFault b e = Bare b e
AfterEnding id read ending.AppFault b e = Bare b e
