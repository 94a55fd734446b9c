-- In how many sessions a frame waits or is unacknowledged: how the count goes on where one session changes.
use Rattle.std.proofs.Common.{◌≡◌, ℕ, zero, suc, ◌+◌, ◌-◌, ◌<◌, ◌≤◌, List, [], ◌∷◌, ◌++◌, length, get_or, take}
use Rattle.std.proofs.Common.{replicate, refl, sym, ap, subst, ◌∙◌, arith}
use Rattle.std.specs.Prelude.{All, IsTrue, ◌↔◌, ◌==◌, slice_get, slice_set}
use Rattle.std.proofs.lemmas.Bool.{eq-eqb, eqb-true}
use Rattle.std.proofs.lemmas.List.{length-map, take_more}
use Rattle.std.proofs.lemmas.List.Elements.{All-nil, All-cons, All-head, All-tail}
use Rattle.reliable_link.proofs.KeptBytes.{bytes_after_due}
use Rattle.reliable_link.specs.SenderState.{after_due}
use Rattle.reliable_link.specs.declared.out_frame.OutFrame.{OutFrame}
use Rattle.sessions.specs.Busy.{any_of, busy_among, busy_in}
use Rattle.reliable_link.specs.ReceiverState.{ReceiverState}
use Rattle.sessions.specs.Events.{heeded_by}
use Rattle.sessions.specs.HeardBytes.{WordText, Acknowledges, Repeats, Hands, Holds, Follows, Nothing}
use Rattle.sessions.specs.Peers.{IsIdlePeer, after_all_due, due_peer, new_peer, peer_at, with_receiver}
use Rattle.sessions.specs.declared.peers.Peer.{Peer}
use Rattle.reliable_link.specs.SenderState.{after_wait}
use Rattle.sessions.specs.Peers.{with_wait}

-- one session is replaced
pub busy_set : (peers : List Peer) (rank : ℕ) (p : Peer) → rank < length peers → busy_among (slice_set peers rank p) +
    busy_in (peer_at peers rank) ≡ busy_among peers + busy_in p
busy_set [] rank p within = absurd (omega (arith, within))
busy_set (q ∷ qs) zero p within = omega arith
busy_set (q ∷ qs) (suc k) p within = let rest : busy_among (slice_set qs k p) + busy_in (peer_at qs k) ≡ busy_among qs + busy_in p = busy_set qs k p (omega (arith, within)) in omega (arith, rest)

set_there : (peers : List Peer) (rank : ℕ) (p : Peer) → rank < length peers → peer_at (slice_set peers rank p) rank ≡ p
set_there [] rank p within = absurd (omega (arith, within))
set_there (q ∷ qs) zero p within = refl
set_there (q ∷ qs) (suc k) p within = set_there qs k p (omega (arith, within))

-- what is counted of one session is counted of all
pub busy_part : (peers : List Peer) (rank : ℕ) → busy_in (peer_at peers rank) ≤ busy_among peers
busy_part [] rank = omega arith
busy_part (q ∷ qs) zero = omega arith
busy_part (q ∷ qs) (suc k) = let rest : busy_in (peer_at qs k) ≤ busy_among qs = busy_part qs k in omega (arith, rest)

any_once : (fs : List OutFrame) → any_of fs ≤ 1
any_once [] = omega arith
any_once (f ∷ fs) = omega arith

pub busy_once : (p : Peer) → busy_in p ≤ 1
busy_once p = any_once p.sender.frames

pub busy_few : (peers : List Peer) → busy_among peers ≤ length peers
busy_few [] = omega arith
busy_few (p ∷ ps) = let rest : busy_among ps ≤ length ps = busy_few ps in let one : busy_in p ≤ 1 = busy_once p in omega
    (arith, rest, one)

-- the count of all, where that of one session was so much, and is so much once it was replaced
pub recounted : (peers : List Peer) (rank : ℕ) (p : Peer) (busy before now : ℕ) → rank < length peers →
    busy ≡ busy_among peers → before ≡ busy_in (peer_at peers rank) →
    now ≡ busy_in (peer_at (slice_set peers rank p) rank) → busy - before + now ≡ busy_among (slice_set peers rank p)
recounted peers rank p busy before now within is was becomes =
    let set : busy_among (slice_set peers rank p) + busy_in (peer_at peers rank) ≡ busy_among peers + busy_in p = busy_set peers rank p within in
    let part : busy_in (peer_at peers rank) ≤ busy_among peers = busy_part peers rank in
    let there : now ≡ busy_in p = becomes ∙ ap busy_in (set_there peers rank p within) in
    omega (arith, set, part, there, is, was)

-- and where it stays
pub count_stays : (peers : List Peer) (rank busy before now : ℕ) → busy ≡ busy_among peers →
    before ≡ busy_in (peer_at peers rank) → now ≡ busy_in (peer_at peers rank) → busy - before + now ≡ busy_among peers
count_stays peers rank busy before now is was becomes =
    let part : busy_in (peer_at peers rank) ≤ busy_among peers = busy_part peers rank in
    omega (arith, part, is, was, becomes)

-- so it is once a word is heeded
pub recounted_heeded : (w : WordText) (peers : List Peer) (rank busy before now : ℕ) → rank < length peers →
    busy ≡ busy_among peers → before ≡ busy_in (peer_at peers rank) →
    now ≡ busy_in (peer_at (heeded_by w peers rank) rank) → busy - before + now ≡ busy_among (heeded_by w peers rank)
recounted_heeded (Acknowledges n held) peers rank busy before now within is was becomes =
    recounted peers rank _ busy before now within is was becomes
recounted_heeded Repeats peers rank busy before now within is was becomes =
    count_stays peers rank busy before now is was becomes
recounted_heeded (Hands f) peers rank busy before now within is was becomes =
    recounted peers rank _ busy before now within is was becomes
recounted_heeded (Holds e) peers rank busy before now within is was becomes =
    recounted peers rank _ busy before now within is was becomes
recounted_heeded (Follows f) peers rank busy before now within is was becomes =
    recounted peers rank _ busy before now within is was becomes
recounted_heeded Nothing peers rank busy before now within is was becomes =
    count_stays peers rank busy before now is was becomes

-- what comes from a rank changes no count
pub count_of_receiver : (peers : List Peer) (rank : ℕ) (r : ReceiverState) → rank < length peers →
    busy_among (with_receiver peers rank r) ≡ busy_among peers
count_of_receiver peers rank r within =
    let set : busy_among (with_receiver peers rank r) + busy_in (peer_at peers rank) ≡ busy_among peers + busy_in (peer_at peers rank) = busy_set peers rank (record { sender = (peer_at peers rank).sender; receiver = r }) within in
    omega (arith, set)

-- nor does how long frames wait
pub count_of_wait : (peers : List Peer) (rank wait : ℕ) → rank < length peers →
    busy_among (with_wait peers rank wait) ≡ busy_among peers
count_of_wait peers rank wait within =
    let set : busy_among (with_wait peers rank wait) + busy_in (peer_at peers rank) ≡ busy_among peers + busy_in (peer_at peers rank) = busy_set peers rank (record { sender = after_wait (peer_at peers rank).sender wait; receiver = (peer_at peers rank).receiver }) within in
    omega (arith, set)

-- one session more
busy_append : (xs ys : List Peer) → busy_among (xs ++ ys) ≡ busy_among xs + busy_among ys
busy_append [] ys = omega arith
busy_append (x ∷ xs) ys =
    let rest : busy_among (xs ++ ys) ≡ busy_among xs + busy_among ys = busy_append xs ys in omega (arith, rest)

pub busy_more : (peers : List Peer) (i : ℕ) (p : Peer) → i < length peers → p ≡ get_or peers i p →
    busy_among (take (i + 1) peers) ≡ busy_among (take i peers) + busy_in p
busy_more peers i p lt is =
    let one : busy_among (p ∷ []) ≡ busy_in p = omega arith in
    ap busy_among (take_more peers i p lt ∙ ap (λ (x : Peer). take i peers ++ x ∷ []) (sym is)) ∙
    (busy_append (take i peers) (p ∷ []) ∙ ap (λ (k : ℕ). busy_among (take i peers) + k) one)

-- none of new sessions
pub busy_new : (n : ℕ) → busy_among (replicate n new_peer) ≡ 0
busy_new zero = refl
busy_new (suc n) = let rest : busy_among (replicate n new_peer) ≡ 0 = busy_new n in omega (arith, rest)

-- a tick changes none
any_same : (fs gs : List OutFrame) → length fs ≡ length gs → any_of fs ≡ any_of gs
any_same [] [] same = refl
any_same [] (g ∷ gs) same = absurd (omega (arith, same))
any_same (f ∷ fs) [] same = absurd (omega (arith, same))
any_same (f ∷ fs) (g ∷ gs) same = refl

due_busy : (p : Peer) (now : ℕ) → busy_in (due_peer now p) ≡ busy_in p
due_busy p now =
    any_same (after_due p.sender now).frames p.sender.frames
    (sym (length-map (after_due p.sender now).frames (λ (f : OutFrame). f.bytes)) ∙
    ap (λ (t : List (List ℕ)). length t) (bytes_after_due p.sender now) ∙
    length-map p.sender.frames (λ (f : OutFrame). f.bytes))

pub busy_after_due : (peers : List Peer) (now : ℕ) → busy_among (after_all_due peers now) ≡ busy_among peers
busy_after_due [] now = refl
busy_after_due (p ∷ ps) now =
    let one : busy_in (due_peer now p) ≡ busy_in p = due_busy p now in
    let rest : busy_among (after_all_due ps now) ≡ busy_among ps = busy_after_due ps now in omega (arith, one, rest)

-- ---- none

none_any : (fs : List OutFrame) → any_of fs ≡ 0 → fs ≡ []
none_any [] none = refl
none_any (f ∷ fs) none = absurd (omega (arith, none))

pub idle_if_none : (peers : List Peer) → busy_among peers ≡ 0 → All IsIdlePeer peers
idle_if_none [] none = All-nil IsIdlePeer
idle_if_none (p ∷ ps) none =
    All-cons IsIdlePeer p ps (none_any p.sender.frames (omega (arith, none))) (idle_if_none ps (omega (arith, none)))

any_none : (fs : List OutFrame) → fs ≡ [] → any_of fs ≡ 0
any_none fs none = ap any_of none

pub none_if_idle : (peers : List Peer) → All IsIdlePeer peers → busy_among peers ≡ 0
none_if_idle [] idle = refl
none_if_idle (p ∷ ps) idle =
    let one : busy_in p ≡ 0 = any_none p.sender.frames (All-head IsIdlePeer p ps idle) in
    let rest : busy_among ps ≡ 0 = none_if_idle ps (All-tail IsIdlePeer p ps idle) in
    omega (arith, one, rest)

-- a count of none says that all are idle
pub idle_iff : (busy : ℕ) (peers : List Peer) → busy ≡ busy_among peers → IsTrue (busy == 0) ↔ All IsIdlePeer peers
idle_iff busy peers is =
    (λ yes. idle_if_none peers (sym is ∙ eqb-true busy 0 yes), λ idle. eq-eqb busy 0 (is ∙ none_if_idle peers idle))
