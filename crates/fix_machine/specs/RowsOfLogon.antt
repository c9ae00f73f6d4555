-- Worked rows: the first message on a connection.
use Rattle.std.specs.Prelude.{◌+◌, ◌-◌, List, [], ◌∷◌, codes, true, false, Some, None}
use Rattle.fix_admin.specs.Values.{fault_of}
use Rattle.fix_admin.specs.Admin as admin
use Rattle.fix_admin.specs.Say as say
use Rattle.fix_admin.specs.declared.say.LogoutText.TheVariants as text
use Rattle.fix_machine.specs.declared.state.Role.TheVariants.{Initiator}
use Rattle.fix_machine.specs.declared.event.Refusal.TheVariants as refusal
use Rattle.fix_machine.specs.declared.event.Why.TheVariants.{Refused}
use Rattle.fix_machine.specs.Event.{App, Admin, Bad, First}
use Rattle.fix_machine.specs.Event.{Send, Expect, Reset}
use Rattle.fix_machine.specs.Event.{Confirm, Close}
use Rattle.fix_machine.specs.State.{sent, counted, emptied, requested}
use Rattle.fix_machine.specs.State.{up, closed}
use Rattle.fix_machine.specs.AwaitLogon.{answered}
use Rattle.fix_machine.specs.Worked.{Row, row, T, own, chunked, lenient, resetting, fixt, waits}
use Rattle.fix_machine.specs.Worked.{asks, head, of_version, from_nobody, to_nobody}
use Rattle.fix_machine.specs.Worked.{from_whom, to_whom, of, reads}
use Rattle.fix_machine.specs.Worked.{resets, unread, dated, plain, resetting_logon}
use Rattle.fix_machine.specs.Worked.{a1, a5, a9, i1, i5}

-- ---- the first message

abbrev pub FIRST_MESSAGES : List Row
FIRST_MESSAGES =
    -- a Heartbeat
    row own a1 (reads (of (codes "0") 1) (Admin (admin.Heartbeat None)))
    (Close (Refused 1 refusal.NotLogon) ∷ []) (closed a1)
    ∷
    -- an order whose number is not readable
    row own a1 (reads (head (codes "D") None) App) (Close (Refused 0 refusal.NotLogon) ∷ []) (closed a1)
    ∷
    -- a Logon of another version
    row own a1 (reads (of_version (codes "FIX.4.4") (of (codes "A") 1)) plain)
    (Close (Refused 1 refusal.BeginString) ∷ []) (closed a1)
    ∷
    -- a Logon without a readable number
    row own a1 (reads (head (codes "A") None) plain) (Close (Refused 0 refusal.NoNumber) ∷ []) (closed a1)
    ∷
    -- a Logon too low
    row own a5 (reads (of (codes "A") 1) plain)
    (Send (say.Logout (text.TooLow 5 1)) ∷ Close (Refused 1 refusal.TooLow) ∷ []) (closed (sent a5))
    ∷
    -- the same at an initiator
    row own i5 (reads (of (codes "A") 1) plain)
    (Send (say.Logout (text.TooLow 5 1)) ∷ Close (Refused 1 refusal.TooLow) ∷ []) (closed (sent i5))
    ∷
    -- too low with 141=Y, at an initiator that did not ask
    row own i5 (resets (of (codes "A") 1) resetting_logon) (Close (Refused 1 refusal.ResetAsked) ∷ []) (closed i5)
    ∷
    -- too low with 141=Y, and not number 1
    row own i5 (resets (of (codes "A") 2) resetting_logon) (Close (Refused 2 refusal.BadLogon) ∷ []) (closed i5)
    ∷
    -- no SenderCompID
    row own a1 (reads (from_nobody (of (codes "A") 1)) plain) (Close (Refused 1 refusal.CompId) ∷ []) (closed a1)
    ∷
    -- no TargetCompID
    row own a1 (reads (to_nobody (of (codes "A") 1)) plain) (Close (Refused 1 refusal.CompId) ∷ []) (closed a1)
    ∷
    -- another SenderCompID
    row own a1 (reads (from_whom (codes "OTHER") (of (codes "A") 1)) plain)
    (Close (Refused 1 refusal.CompId) ∷ []) (closed a1)
    ∷
    -- another TargetCompID
    row own a1 (reads (to_whom (codes "OTHER") (of (codes "A") 1)) plain)
    (Close (Refused 1 refusal.CompId) ∷ []) (closed a1)
    ∷
    -- no time
    row own a1 (unread (of (codes "A") 1) plain) (Close (Refused 1 refusal.SendingTime) ∷ []) (closed a1)
    ∷
    -- 121 seconds early
    row own a1 (dated (T - 121000000) (of (codes "A") 1) plain) (Close (Refused 1 refusal.SendingTime) ∷ []) (closed a1)
    ∷
    -- 120 seconds early
    row own a1 (dated (T - 120000000) (of (codes "A") 1) plain)
    (Send (say.Logon 20 false None) ∷ Expect 2 ∷ []) (counted 1 (answered 20 a1))
    ∷
    -- 121 seconds late
    row own a1 (dated (T + 121000000) (of (codes "A") 1) plain) (Close (Refused 1 refusal.SendingTime) ∷ []) (closed a1)
    ∷
    -- a day late, where it is not looked at
    row lenient a1 (dated (T + 86400000000) (of (codes "A") 1) plain)
    (Send (say.Logon 20 false None) ∷ Expect 2 ∷ []) (counted 1 (answered 20 a1))
    ∷
    -- a Logon with a fault
    row own a1 (reads (of (codes "A") 1) (Bad (fault_of 5 98))) (Close (Refused 1 refusal.BadLogon) ∷ []) (closed a1)
    ∷
    -- a Logon at an acceptor
    row own a1 (reads (of (codes "A") 1) plain)
    (Send (say.Logon 20 false None) ∷ Expect 2 ∷ []) (counted 1 (answered 20 a1))
    ∷
    -- a Logon too high
    row own a1 (reads (of (codes "A") 4) plain)
    (Send (say.Logon 20 false None) ∷ Send (say.ResendRequest 1 0) ∷ []) (sent (requested 4 0 (answered 20 a1)))
    ∷
    -- the same in chunks of 2
    row chunked a1 (reads (of (codes "A") 4) plain)
    (Send (say.Logon 20 false None) ∷ Send (say.ResendRequest 1 2) ∷ []) (sent (requested 4 2 (answered 20 a1)))
    ∷
    -- 141=Y at an acceptor
    row own a9 (resets (of (codes "A") 1) resetting_logon)
    (Reset ∷ Send (say.Logon 20 true None) ∷ Expect 2 ∷ []) (counted 1 (answered 20 (emptied a9)))
    ∷
    -- 141=Y and number 2
    row own a9 (resets (of (codes "A") 2) resetting_logon) (Close (Refused 2 refusal.BadLogon) ∷ []) (closed a9)
    ∷
    -- an acceptor that resets at each Logon
    row resetting a9 (reads (of (codes "A") 1) plain)
    (Reset ∷ Send (say.Logon 20 false None) ∷ Expect 2 ∷ []) (counted 1 (answered 20 (emptied a9)))
    ∷
    -- the same above 1
    row resetting a9 (reads (of (codes "A") 3) plain)
    (Reset ∷ Send (say.Logon 20 false None) ∷ Send (say.ResendRequest 1 0) ∷ [])
    (sent (requested 3 0 (answered 20 (emptied a9))))
    ∷
    -- the same with 141=Y
    row resetting a9 (resets (of (codes "A") 1) resetting_logon)
    (Reset ∷ Send (say.Logon 20 true None) ∷ Expect 2 ∷ []) (counted 1 (answered 20 (emptied a9)))
    ∷
    -- a Logon at an initiator
    row own i1 (reads (of (codes "A") 1) plain) (Expect 2 ∷ []) (counted 1 (up i1))
    ∷
    -- too high at an initiator
    row own i1 (reads (of (codes "A") 7) plain) (Send (say.ResendRequest 1 0) ∷ []) (sent (requested 7 0 (up i1)))
    ∷
    -- a reset that is not answered
    row own (asks i1) (reads (of (codes "A") 1) plain)
    (Close (Refused 1 refusal.ResetUnanswered) ∷ []) (closed (asks i1))
    ∷
    -- a reset that is answered
    row own (asks i1) (resets (of (codes "A") 1) resetting_logon) (Confirm ∷ Expect 2 ∷ []) (counted 1 (up i1))
    ∷
    -- 141=Y at an initiator that did not ask
    row own i1 (resets (of (codes "A") 1) resetting_logon) (Close (Refused 1 refusal.ResetAsked) ∷ []) (closed i1)
    ∷
    -- the version of the session
    row fixt a1 (reads (of (codes "A") 1) (Admin (admin.Logon 20 false (Some 9))))
    (Send (say.Logon 20 false (Some 9)) ∷ Expect 2 ∷ []) (counted 1 (answered 20 a1))
    ∷
    -- no version
    row fixt a1 (reads (of (codes "A") 1) plain) (Close (Refused 1 refusal.BadLogon) ∷ []) (closed a1)
    ∷
    -- another version
    row fixt a1 (reads (of (codes "A") 1) (Admin (admin.Logon 20 false (Some 7))))
    (Close (Refused 1 refusal.BadLogon) ∷ []) (closed a1)
    ∷
    -- the first Logon of an initiator
    row own (waits Initiator 1 0) First (Send (say.Logon 30 false None) ∷ []) (sent (waits Initiator 1 0))
    ∷
    -- the first Logon that asks for a reset
    row own (asks (waits Initiator 1 0)) First (Send (say.Logon 30 true None) ∷ []) (sent (asks (waits Initiator 1 0)))
    ∷
    -- the first Logon with a version
    row fixt (waits Initiator 1 0) First (Send (say.Logon 30 false (Some 9)) ∷ []) (sent (waits Initiator 1 0))
    ∷ []
