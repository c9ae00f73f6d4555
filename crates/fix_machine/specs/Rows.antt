-- Worked rows: what comes after the Logon, and all rows.
use Rattle.std.specs.Prelude.{◌+◌, ◌-◌, List, [], ◌∷◌, codes, true, false, Some, None}
use Rattle.std.specs.List.{AllByRecursion}
use Rattle.fix_admin.specs.Values.{fault_of}
use Rattle.fix_admin.specs.Admin as admin
use Rattle.fix_admin.specs.Say as say
use Rattle.fix_admin.specs.declared.say.LogoutText.TheVariants as text
use Rattle.fix_machine.specs.declared.state.Role.TheVariants.{Initiator}
use Rattle.fix_machine.specs.declared.event.Refusal.TheVariants as refusal
use Rattle.fix_machine.specs.declared.event.Why.TheVariants.{Refused, LoggedOut, Silent, LogonLate, LogoutLate}
use Rattle.fix_machine.specs.declared.event.Why.TheVariants.{OutOfWindow}
use Rattle.fix_machine.specs.Event.{App, Admin, Bad, Begin, Moved}
use Rattle.fix_machine.specs.Event.{Clock, Leave, Ended, Wrote, Send, Serve, Hand, Stash, Expect}
use Rattle.fix_machine.specs.Event.{Close}
use Rattle.fix_machine.specs.State.{read_clock, sent, counted, expecting, requested}
use Rattle.fix_machine.specs.State.{closed}
use Rattle.fix_machine.specs.Worked.{Row, row, IsAnswered, T, own, chunked, idle, waits}
use Rattle.fix_machine.specs.Worked.{on, left, testing, unbeaten, head, of_version, from_nobody, to_nobody}
use Rattle.fix_machine.specs.Worked.{from_whom, to_whom, untimed, flagged, marked, again, of, reads}
use Rattle.fix_machine.specs.Worked.{cramped, fills, resets, unread, dated, dated_first, plain, resetting_logon}
use Rattle.fix_machine.specs.Worked.{rejects, a1, u2}
use Rattle.fix_machine.specs.RowsOfLogon.{FIRST_MESSAGES}

-- ---- later messages: version and number

abbrev pub NUMBERS : List Row
NUMBERS =
    -- another version
    row own u2 (reads (of_version (codes "FIX.4.4") (of (codes "0") 2)) (Admin (admin.Heartbeat None)))
    (Send (say.Logout text.BeginString) ∷ Close (Refused 2 refusal.BeginString) ∷ []) (closed (sent u2))
    ∷
    -- no readable number
    row own u2 (reads (head (codes "D") None) App)
    (Send (say.Logout text.NoNumber) ∷ Close (Refused 0 refusal.NoNumber) ∷ []) (closed (sent u2))
    ∷
    -- too low
    row own (on 5 1) (reads (of (codes "0") 1) (Admin (admin.Heartbeat None)))
    (Send (say.Logout (text.TooLow 5 1)) ∷ Close (Refused 1 refusal.TooLow) ∷ []) (closed (sent (on 5 1)))
    ∷
    -- too low and sent again, with OrigSendingTime
    row own (on 5 1) (dated_first T (again (of (codes "0") 1)) (Admin (admin.Heartbeat None))) [] (on 5 1)
    ∷
    -- too low and sent again, without
    row own (on 5 1) (reads (marked (of (codes "0") 1)) (Admin (admin.Heartbeat None))) [] (on 5 1)
    ∷
    -- a Reset to a lower number
    row own (on 6 1) (reads (of (codes "4") 1) (Admin (admin.SequenceReset 3 false)))
    (rejects 1 (codes "4") 5 36 ∷ []) (sent (on 6 1))
    ∷
    -- a Reset to a higher number
    row own (on 6 1) (reads (of (codes "4") 1) (Admin (admin.SequenceReset 9 false)))
    (Expect 9 ∷ []) (expecting 9 (on 6 1))
    ∷
    -- a Reset to the expected number
    row own (on 6 1) (reads (of (codes "4") 1) (Admin (admin.SequenceReset 6 false))) (Expect 6 ∷ []) (on 6 1)
    ∷
    -- a Reset above the expected number
    row own u2 (reads (of (codes "4") 8) (Admin (admin.SequenceReset 9 false))) (Expect 9 ∷ []) (expecting 9 u2)
    ∷
    -- a Reset with a fault, at the expected number
    row own u2 (reads (of (codes "4") 2) (Bad (fault_of 6 36))) (rejects 2 (codes "4") 6 36 ∷ []) (sent u2)
    ∷
    -- a Reset from another CompID
    row own u2 (reads (from_whom (codes "OTHER") (of (codes "4") 2)) (Admin (admin.SequenceReset 9 false)))
    (rejects 2 (codes "4") 9 49 ∷ Send (say.Logout text.CompId) ∷ Close (Refused 2 refusal.CompId) ∷ [])
    (closed (sent (sent u2)))
    ∷
    -- an order too high
    row own u2 (reads (of (codes "D") 4) App) (Stash ∷ Send (say.ResendRequest 2 0) ∷ []) (sent (requested 4 0 u2))
    ∷
    -- a second one
    row own (requested 4 0 u2) (reads (of (codes "D") 5) App) (Stash ∷ []) (requested 4 0 u2)
    ∷
    -- one that has no room
    row own u2 (cramped (of (codes "D") 4) App) (Send (say.ResendRequest 2 0) ∷ []) (sent (requested 4 0 u2))
    ∷
    -- a second one that has no room
    row own (requested 4 0 u2) (cramped (of (codes "D") 5) App) [] (requested 4 0 u2)
    ∷
    -- in chunks of 2
    row chunked u2 (reads (of (codes "D") 7) App) (Stash ∷ Send (say.ResendRequest 2 3) ∷ []) (sent (requested 7 3 u2))
    ∷
    -- a gap of one, in chunks of 2
    row chunked u2 (reads (of (codes "D") 3) App) (Stash ∷ Send (say.ResendRequest 2 3) ∷ []) (sent (requested 3 3 u2))
    ∷
    -- a Heartbeat too high
    row own u2 (reads (of (codes "0") 4) (Admin (admin.Heartbeat None)))
    (Stash ∷ Send (say.ResendRequest 2 0) ∷ []) (sent (requested 4 0 u2))
    ∷
    -- a gap fill too high
    row own u2 (fills (of (codes "4") 4) (Admin (admin.SequenceReset 9 true)))
    (Stash ∷ Send (say.ResendRequest 2 0) ∷ []) (sent (requested 4 0 u2))
    ∷
    -- a faulty order too high
    row own u2 (reads (of (codes "D") 4) (Bad (fault_of 1 54)))
    (Stash ∷ Send (say.ResendRequest 2 0) ∷ []) (sent (requested 4 0 u2))
    ∷
    -- a ResendRequest too high
    row own u2 (reads (of (codes "2") 4) (Admin (admin.ResendRequest 1 0)))
    (Serve 1 0 ∷ Send (say.ResendRequest 2 0) ∷ []) (sent (requested 4 0 u2))
    ∷
    -- a second one
    row own (requested 4 0 u2) (reads (of (codes "2") 5) (Admin (admin.ResendRequest 1 0)))
    (Serve 1 0 ∷ []) (requested 4 0 u2)
    ∷
    -- a faulty ResendRequest too high
    row own u2 (reads (of (codes "2") 4) (Bad (fault_of 5 16)))
    (Send (say.ResendRequest 2 0) ∷ []) (sent (requested 4 0 u2))
    ∷
    -- a Logout too high
    row own u2 (reads (of (codes "5") 9) (Admin admin.Logout))
    (Send (say.Logout text.Empty) ∷ Close (LoggedOut 9) ∷ []) (closed (sent u2))
    ∷
    -- a Logout too high from another CompID
    row own u2 (reads (from_whom (codes "OTHER") (of (codes "5") 9)) (Admin admin.Logout))
    (Send (say.ResendRequest 2 0) ∷ []) (sent (requested 9 0 u2))
    ∷
    -- a Logout too high after the own one
    row own (left 2 2) (reads (of (codes "5") 9) (Admin admin.Logout)) (Close (LoggedOut 9) ∷ []) (closed (left 2 2))
    ∷ []

-- ---- later messages: the checks

abbrev pub CHECKS : List Row
CHECKS =
    -- no SenderCompID
    row own u2 (reads (from_nobody (of (codes "D") 2)) App)
    (rejects 2 (codes "D") 1 49 ∷ Expect 3 ∷ []) (counted 2 (sent u2))
    ∷
    -- no TargetCompID
    row own u2 (reads (to_nobody (of (codes "D") 2)) App)
    (rejects 2 (codes "D") 1 56 ∷ Expect 3 ∷ []) (counted 2 (sent u2))
    ∷
    -- no TargetCompID, and a wrong SenderCompID
    row own u2 (reads (to_nobody (from_whom (codes "OTHER") (of (codes "D") 2))) App)
    (rejects 2 (codes "D") 1 56 ∷ Expect 3 ∷ []) (counted 2 (sent u2))
    ∷
    -- another SenderCompID
    row own u2 (reads (from_whom (codes "OTHER") (of (codes "D") 2)) App)
    (rejects 2 (codes "D") 9 49 ∷ Expect 3 ∷ Send (say.Logout text.CompId) ∷ Close (Refused 2 refusal.CompId) ∷ [])
    (closed (sent (counted 2 (sent u2))))
    ∷
    -- another TargetCompID
    row own u2 (reads (to_whom (codes "OTHER") (of (codes "D") 2)) App)
    (rejects 2 (codes "D") 9 56 ∷ Expect 3 ∷ Send (say.Logout text.CompId) ∷ Close (Refused 2 refusal.CompId) ∷ [])
    (closed (sent (counted 2 (sent u2))))
    ∷
    -- no SendingTime
    row own u2 (unread (untimed (of (codes "D") 2)) App)
    (rejects 2 (codes "D") 1 52 ∷ Expect 3 ∷ []) (counted 2 (sent u2))
    ∷
    -- a SendingTime that is none
    row own u2 (unread (of (codes "D") 2) App) (rejects 2 (codes "D") 6 52 ∷ Expect 3 ∷ []) (counted 2 (sent u2))
    ∷
    -- 121 seconds early
    row own u2 (dated (T - 121000000) (of (codes "D") 2) App)
    (rejects 2 (codes "D") 10 52 ∷ Expect 3 ∷ Send (say.Logout text.SendingTime) ∷ Close
    (Refused 2 refusal.SendingTime) ∷ [])
    (closed (sent (counted 2 (sent u2))))
    ∷
    -- 120 seconds early
    row own u2 (dated (T - 120000000) (of (codes "D") 2) App) (Hand ∷ Expect 3 ∷ []) (counted 2 u2)
    ∷
    -- PossDupFlag that is neither Y nor N
    row own u2 (reads (flagged (codes "X") (of (codes "D") 2)) App)
    (rejects 2 (codes "D") 6 43 ∷ Expect 3 ∷ []) (counted 2 (sent u2))
    ∷
    -- PossDupFlag N
    row own u2 (reads (flagged (codes "N") (of (codes "D") 2)) App) (Hand ∷ Expect 3 ∷ []) (counted 2 u2)
    ∷
    -- PossDupFlag Y without OrigSendingTime
    row own u2 (reads (marked (of (codes "D") 2)) App)
    (rejects 2 (codes "D") 1 122 ∷ Expect 3 ∷ []) (counted 2 (sent u2))
    ∷
    -- OrigSendingTime that is none
    row own u2 (reads (again (of (codes "D") 2)) App)
    (rejects 2 (codes "D") 6 122 ∷ Expect 3 ∷ []) (counted 2 (sent u2))
    ∷
    -- OrigSendingTime later than SendingTime
    row own u2 (dated_first (T + 1) (again (of (codes "D") 2)) App)
    (rejects 2 (codes "D") 10 122 ∷ Expect 3 ∷ Send (say.Logout text.SendingTime) ∷ Close
    (Refused 2 refusal.SendingTime) ∷ [])
    (closed (sent (counted 2 (sent u2))))
    ∷
    -- an order that is sent again
    row own u2 (dated_first T (again (of (codes "D") 2)) App) (Hand ∷ Expect 3 ∷ []) (counted 2 u2)
    ∷
    -- an order with a fault
    row own u2 (reads (of (codes "D") 2) (Bad (fault_of 1 54)))
    (rejects 2 (codes "D") 1 54 ∷ Expect 3 ∷ []) (counted 2 (sent u2))
    ∷
    -- a message of the empty type with a fault
    row own u2 (reads (of (codes "") 2) (Bad (fault_of 4 35)))
    (rejects 2 (codes "") 4 35 ∷ Expect 3 ∷ []) (counted 2 (sent u2))
    ∷ []

-- ---- later messages: by type

abbrev pub TYPES : List Row
TYPES =
    -- a Heartbeat
    row own u2 (reads (of (codes "0") 2) (Admin (admin.Heartbeat None))) (Expect 3 ∷ []) (counted 2 u2)
    ∷
    -- a TestRequest
    row own u2 (reads (of (codes "1") 2) (Admin (admin.TestRequest (codes "PING"))))
    (Send (say.Heartbeat (Some (codes "PING"))) ∷ Expect 3 ∷ []) (counted 2 (sent u2))
    ∷
    -- a ResendRequest
    row own u2 (reads (of (codes "2") 2) (Admin (admin.ResendRequest 1 0))) (Expect 3 ∷ Serve 1 0 ∷ []) (counted 2 u2)
    ∷
    -- a Reject
    row own u2 (reads (of (codes "3") 2) (Admin (admin.Reject 1))) (Expect 3 ∷ []) (counted 2 u2)
    ∷
    -- a gap fill
    row own u2 (fills (of (codes "4") 2) (Admin (admin.SequenceReset 6 true))) (Expect 6 ∷ []) (expecting 6 u2)
    ∷
    -- a gap fill that goes nowhere
    row own u2 (fills (of (codes "4") 2) (Admin (admin.SequenceReset 2 true)))
    (rejects 2 (codes "4") 5 36 ∷ Expect 3 ∷ []) (counted 2 (sent u2))
    ∷
    -- a Logout
    row own u2 (reads (of (codes "5") 2) (Admin admin.Logout))
    (Expect 3 ∷ Send (say.Logout text.Empty) ∷ Close (LoggedOut 2) ∷ []) (closed (sent (counted 2 u2)))
    ∷
    -- a Logout after the own one
    row own (left 2 2) (reads (of (codes "5") 2) (Admin admin.Logout))
    (Expect 3 ∷ Close (LoggedOut 2) ∷ []) (closed (counted 2 (left 2 2)))
    ∷
    -- an order after the own Logout
    row own (left 2 2) (reads (of (codes "D") 2) App) (Hand ∷ Expect 3 ∷ []) (counted 2 (left 2 2))
    ∷
    -- a Logon
    row own u2 (reads (of (codes "A") 2) plain) (Expect 3 ∷ []) (counted 2 u2)
    ∷
    -- a Logon with 141=Y
    row own u2 (resets (of (codes "A") 2) resetting_logon)
    (Send (say.Logout text.ResetFlag) ∷ Close (Refused 2 refusal.ResetAsked) ∷ []) (closed (sent u2))
    ∷
    -- an order
    row own u2 (reads (of (codes "D") 2) App) (Hand ∷ Expect 3 ∷ []) (counted 2 u2)
    ∷
    -- an order at the last number
    row own (on 999999999 1) (reads (of (codes "D") 999999999) App)
    (Hand ∷ Expect 1000000000 ∷ []) (expecting 1000000000 (on 2 1))
    ∷
    -- a TestRequest where no number is left
    row own (on 2 999999999) (reads (of (codes "1") 2) (Admin (admin.TestRequest (codes "PING"))))
    (Send (say.Heartbeat (Some (codes "PING"))) ∷ Expect 3 ∷ []) (on 3 999999999)
    ∷ []

-- ---- the expected number changed

abbrev pub MOVES : List Row
MOVES =
    -- nothing was asked for
    row own u2 (Moved false) [] u2
    ∷
    -- the gap is filled
    row own (requested 4 0 (on 5 2)) (Moved false) [] (on 5 2)
    ∷
    -- the gap is not filled
    row own (requested 7 0 (on 5 2)) (Moved false) [] (requested 7 0 (on 5 2))
    ∷
    -- a chunk is filled
    row chunked (requested 7 3 (on 4 2)) (Moved false)
    (Send (say.ResendRequest 4 5) ∷ []) (sent (requested 7 5 (on 4 2)))
    ∷
    -- a chunk is not filled
    row chunked (requested 7 3 (on 3 2)) (Moved false) [] (requested 7 3 (on 3 2))
    ∷
    -- the last chunk ends at the gap
    row chunked (requested 7 5 (on 6 3)) (Moved false)
    (Send (say.ResendRequest 6 7) ∷ []) (sent (requested 7 7 (on 6 3)))
    ∷
    -- the message that showed the gap waits
    row chunked (requested 7 7 (on 7 4)) (Moved true) [] (requested 7 7 (on 7 4))
    ∷ []

-- ---- the clock

abbrev pub CLOCKS : List Row
CLOCKS =
    -- a reading below the last
    row own u2 (Clock (T - 5) true) [] (read_clock (T - 5) u2)
    ∷
    -- before the LogonTimeout
    row own a1 (Clock (T + 9999999) true) [] (read_clock (T + 9999999) a1)
    ∷
    -- at the LogonTimeout
    row own a1 (Clock (T + 10000000) true)
    (Close (LogonLate T (T + 10000000)) ∷ []) (closed (read_clock (T + 10000000) a1))
    ∷
    -- before the LogoutTimeout
    row own (left 2 2) (Clock (T + 1999999) true) [] (read_clock (T + 1999999) (left 2 2))
    ∷
    -- at the LogoutTimeout
    row own (left 2 2) (Clock (T + 2000000) true)
    (Close (LogoutLate T (T + 2000000)) ∷ []) (closed (read_clock (T + 2000000) (left 2 2)))
    ∷
    -- a quiet hour after the own Logout
    row idle (left 2 2) (Clock (T + 3600000000) true) [] (read_clock (T + 3600000000) (left 2 2))
    ∷
    -- before HeartBtInt
    row own u2 (Clock (T + 29999999) true) [] (read_clock (T + 29999999) u2)
    ∷
    -- at HeartBtInt
    row own u2 (Clock (T + 30000000) true) (Send (say.Heartbeat None) ∷ []) (sent (read_clock (T + 30000000) u2))
    ∷
    -- silence of HeartBtInt and a fifth
    row own u2 (Clock (T + 36000000) true) (Send say.TestRequest ∷ []) (testing (read_clock (T + 36000000) u2))
    ∷
    -- silence after the TestRequest
    row own (testing (on 2 1)) (Clock (T + 36000000) true)
    (Close (Silent T (T + 36000000)) ∷ []) (closed (read_clock (T + 36000000) (testing (on 2 1))))
    ∷
    -- no HeartBtInt
    row own (unbeaten (on 2 1)) (Clock (T + 3600000000) true) [] (read_clock (T + 3600000000) (unbeaten (on 2 1)))
    ∷
    -- the time is over before a Logon
    row own a1 (Clock (T + 1) false) (Close (OutOfWindow (T + 1)) ∷ []) (closed (read_clock (T + 1) a1))
    ∷
    -- the time is over
    row own u2 (Clock (T + 1) false)
    (Send (say.Logout text.OutOfWindow) ∷ Close (OutOfWindow (T + 1)) ∷ []) (closed (sent (read_clock (T + 1) u2)))
    ∷
    -- the time is over after the own Logout
    row own (left 2 2) (Clock (T + 1) false) (Close (OutOfWindow (T + 1)) ∷ []) (closed (read_clock (T + 1) (left 2 2)))
    ∷
    -- no connection
    row own (closed (on 2 1)) (Clock (T + 1) false) [] (read_clock (T + 1) (closed (on 2 1)))
    ∷ []

-- ---- begin, leave, the end of a connection, and what the application sends

abbrev pub OTHERS : List Row
OTHERS =
    -- a connection begins
    row own (closed (on 2 1)) (Begin Initiator T) [] (waits Initiator 2 1)
    ∷
    -- the session leaves
    row own u2 (Leave T) (Send (say.Logout text.Empty) ∷ []) (left 2 2)
    ∷
    -- the other side ends
    row own u2 Ended [] (closed u2)
    ∷
    -- a draft is sent
    row own u2 (Wrote (T + 7)) [] (sent (read_clock (T + 7) u2))
    ∷ []

-- all rows
pub record RowsHold : Type 0 where
  pub first_messages : AllByRecursion IsAnswered FIRST_MESSAGES
  pub numbers : AllByRecursion IsAnswered NUMBERS
  pub checks : AllByRecursion IsAnswered CHECKS
  pub types : AllByRecursion IsAnswered TYPES
  pub moves : AllByRecursion IsAnswered MOVES
  pub clocks : AllByRecursion IsAnswered CLOCKS
  pub others : AllByRecursion IsAnswered OTHERS
