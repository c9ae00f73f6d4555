-- The epochs of an initiator, and what is true of two ends that reset by Logon.
use Rattle.std.proofs.Common.{◌≡◌, ◌⊎◌, inl, inr, ℕ, ◌<◌, ◌≤◌, List, [], ◌∷◌, ◌++◌, Some, None, sym, ap, ◌∙◌, subst, arith}
use Rattle.fix_base.specs.Lists.{Among, here, there, IsPrefixOf}
use Rattle.fix_base.specs.Logon.{IsResetLogon, Begun}
use Rattle.fix_base.specs.EndStep.{Initiator, Acceptor, AskedReset, Connection, EndState, IsAsking}
use Rattle.fix_base.specs.World.{Logged, Given, Peer}
use Rattle.fix_base.specs.Resets.{EpochPeer, MarksSince}
use Rattle.fix_base.proofs.ListLemmas.{prefix_refl, Among-append_cases, Among-cons_cases}
use Rattle.fix_base.proofs.FramingLemmas.{front_frames}
use Rattle.fix_base.proofs.FollowsLemmas.{OpenCertain}
use Rattle.fix_base.proofs.Ways as ways
use Rattle.fix_base.proofs.Ways.{Own, Comes, Heeds, Pair}
use Rattle.fix_base.proofs.RowLemmas.{DoubtIsPlain}
use Rattle.fix_base.proofs.ResetParts.{FollowsAll, Silent, silent_begun, Descends, whole, seen_as, OpenReads, Covers, Recent, KeptAt, open_yet, answered}

-- ---- the epochs of the initiator

-- the initiator in an epoch, as it is or as it was when it asked for the next reset
pub record Era : Type 0 where
  pub number : ℕ
  pub peer : Peer

abbrev pub logs : List Era → List Logged
logs [] = []
logs (x ∷ eras) = x.peer.log ++ logs eras

-- an epoch that the acceptor hasn't answered: one connection, with no more written than the Logon that
-- asks
pub record Lonely (number : ℕ) (peer : Peer) : Type 0 where
  pub own : Own peer
  pub asking : IsAsking peer.state
  pub follows : FollowsAll peer.state
  pub certain : OpenCertain peer.state
  pub at : peer.number ≡ number
  pub last : Logged
  pub log : peer.log ≡ last ∷ []
  pub first : last.number ≡ number
  pub silent : Silent last.wrote
  pub given : peer.given ≡ []

-- ---- what is true of the acceptor, of the initiator, and of both

pub record AcceptorFits (a : EpochPeer) (e : ℕ) (alog : List Logged) (agiven : List Given) : Type 0 where
  pub role : a.state.role ≡ Acceptor
  pub epoch : a.epoch ≡ Some e
  pub inside : e ≤ a.number
  pub older : List Logged
  pub log : a.log ≡ alog ++ older
  pub old : (l : Logged) → Among l older → l.number < e
  pub descends : Descends a.log
  pub below : (l : Logged) → Among l a.log → l.number ≤ a.number
  pub covers : Covers a.gave e agiven
  pub recent : Recent a.gave e
  pub kept : (c : Connection) → a.state.connection ≡ Some c → KeptAt c.kept e a.number
  pub answers : (l : Logged) → Among l a.log → Begun IsResetLogon l.wrote → l.number ≤ e
  pub marks : MarksSince a.gave

pub data Current (i : EpochPeer) (e : ℕ) (vi : Peer) (eras : List Era) : Type 0 where
  together : (ilog : List Logged) (igiven : List Given) → eras ≡ [] → vi ≡ seen_as i ilog igiven → i.epoch ≡ Some e → e ≤ i.number → (IsAsking i.state → FollowsAll i.state × (i.number ≡ e)) → Current i e vi eras
  unread : (x : Era) (rest : List Era) → eras ≡ x ∷ rest → x.peer.state ≡ i.state → x.peer.number ≡ i.number → i.epoch ≡ Some x.number → Current i e vi eras
  away : i.epoch ≡ None → IsAsking i.state → FollowsAll i.state → i.state.connection ≡ None → DoubtIsPlain i.state → Current i e vi eras

pub record InitiatorFits (i : EpochPeer) (e : ℕ) (vi : Peer) (eras : List Era) : Type 0 where
  pub role : i.state.role ≡ Initiator
  pub within : e ≤ i.number
  pub older : List Logged
  pub log : i.log ≡ logs eras ++ (vi.log ++ older)
  pub old : (l : Logged) → Among l older → l.number < e
  pub descends : Descends i.log
  pub below : (l : Logged) → Among l i.log → l.number ≤ i.number
  pub covers : Covers i.gave e vi.given
  pub recent : Recent i.gave e
  pub silent : (c : Connection) → i.state.connection ≡ Some c → Among AskedReset c.kept → ⊥
  pub asked : (l : Logged) → Among l vi.log → Begun IsResetLogon l.wrote → l.number ≡ e
  pub marks : MarksSince i.gave
  pub current : Current i e vi eras

pub record Inv (i a : EpochPeer) : Type 0 where
  pub e : ℕ
  pub vi : Peer
  pub alog : List Logged
  pub agiven : List Given
  pub eras : List Era
  pub pair : Pair vi (seen_as a alog agiven)
  pub lonely : (x : Era) → Among x eras → Lonely x.number x.peer × (e < x.number)
  pub acceptor : AcceptorFits a e alog agiven
  pub initiator : InitiatorFits i e vi eras
  pub reads : OpenReads i a
  pub reads_back : OpenReads a i

-- ---- words about them

pub begun_nothing : {P : List ℕ → Type 0} → Begun P [] → ⊥
begun_nothing b =
    let none = front_frames [] [] b.items b.rest (record { each = λ t m. elim m [ ] }) (prefix_refl []) b.takes in
    no_frames b.text b.others none b.first
  where
    no_frames : {fs : List (List ℕ)} (t : List ℕ) (ts : List (List ℕ)) → IsPrefixOf fs [] → fs ≡ t ∷ ts → ⊥
    no_frames t ts p e = let is = p.is in let wrong : [] ≡ t ∷ (ts ++ p.rest) = is ∙ ap (λ w. w ++ p.rest) e in cc

pub record InEra (eras : List Era) (l : Logged) : Type 0 where
  pub era : Era
  pub among : Among era eras
  pub logged : Among l era.peer.log

pub in_logs : (eras : List Era) (l : Logged) → Among l (logs eras) → InEra eras l
in_logs [] l m = elim m [ ]
in_logs (x ∷ eras) l m =
    elim (Among-append_cases x.peer.log (logs eras) m) [
      | inl a ↦ record { era = x; among = here; logged = a }
      | inr b ↦ (let later = in_logs eras l b in record { era = later.era; among = there later.among; logged = later.logged })
    ]

-- the one connection of an era that isn't answered
pub of_lonely : {number : ℕ} {peer : Peer} (h : Lonely number peer) (l : Logged) → Among l peer.log → l ≡ h.last
of_lonely h l m = elim (Among-cons_cases (subst (λ w. Among l w) h.log m)) [ inl e ↦ e | inr none ↦ elim none [ ] ]

-- what an acceptor reads counts where the initiator wrote it in the epoch, and else it is deaf
pub a_heeds : {i a : EpochPeer} (v : Inv i a) (s' : EndState) (d : Connection) → KeptAt d.kept v.e a.number → Comes (whole i) a.number d.read → Heeds v.vi a.number s' d
a_heeds v s' d k (ways.nothing none) = inl (ways.nothing none)
a_heeds {a = a} v s' d k (ways.some l m number front) =
    elim (Among-append_cases (logs v.eras) (v.vi.log ++ v.initiator.older) (subst (λ w. Among l w) v.initiator.log m)) [
      | inl lonely ↦ (let f = in_logs v.eras l lonely in in_lonely f k)
      | inr known ↦ elim (Among-append_cases v.vi.log v.initiator.older known) [
        | inl shared ↦ inl (ways.some l shared number front)
        | inr old ↦ (let low = v.initiator.old l old in let inside = v.acceptor.inside in absurd (omega (arith, low, number, inside)))
      ]
    ]
  where
    in_lonely : InEra v.eras l → KeptAt d.kept v.e a.number → Heeds v.vi a.number s' d
    in_lonely f (open_yet kept lt) =
        let one = (v.lonely f.era f.among).0 in
        let silent = subst (λ (z : Logged). Silent z.wrote) (sym (of_lonely one l f.logged)) one.silent in
        inr (ways.waits kept (λ x r. silent_begun silent front r.shows r.among))
    in_lonely f (answered kept at) =
        let one = v.lonely f.era f.among in
        let lt = one.1 in
        let same : l.number ≡ f.era.number = ap (λ (z : Logged). z.number) (of_lonely one.0 l f.logged) ∙ one.0.first in
        absurd (omega (arith, lt, same, number, at))
