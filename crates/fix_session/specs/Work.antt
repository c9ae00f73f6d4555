-- A session on a connection: its state, and the bytes that no frame was taken from yet.
use Rattle.std.specs.Prelude.{◌≡◌, ◌++◌, ℕ, List, length, Option}
use Rattle.fix_base.specs.declared.identity.Identity.{Identity}
use Rattle.fix_base.specs.Stream.{UnreadBytes}
use Rattle.fix_base.specs.Trace.{OutsideSeen}
use Rattle.fix_session.specs.State.{State, IsSound}
use Rattle.fix_session.specs.declared.work.Work.{Work}

pub record WorkSeen : Type 0 where
  pub state : State
  pub unread : UnreadBytes

-- what contracts see of what a turn works on
abbrev pub work_seen : Work → WorkSeen
work_seen w = record { state = w.state; unread = w.reader.unread }

abbrev pub state_of : WorkSeen → State
state_of w = w.state

abbrev pub with_state : WorkSeen → State → WorkSeen
with_state w s = record { state = s; unread = w.unread }

abbrev pub with_unread : WorkSeen → UnreadBytes → WorkSeen
with_unread w unread = record { state = w.state; unread = unread }

-- more bytes came
abbrev pub fed : UnreadBytes → List ℕ → UnreadBytes
fed a bytes = record { may_mark = a.may_mark; bytes = a.bytes ++ bytes }

-- what each part of a turn is called with, and what it leaves: its state is sound, and there is room for one read
pub record IsWorkable (id : Identity) (w : OutsideSeen) (open_at : Option ℕ) (work : Work) : Type 0 where
  pub sound : IsSound id w open_at work.state
  pub room : length work.room.items ≡ 65536
