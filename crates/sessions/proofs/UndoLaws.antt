-- What the frames that were taken over leave, and how they are taken back.
use Rattle.std.proofs.Common.{◌≡◌, ℕ, zero, suc, ◌+◌, ◌-◌, ◌<◌, ◌≤◌, Bool, true, false, cond, List, [], ◌∷◌, ◌++◌}
use Rattle.std.proofs.Common.{length, take, drop, drop-cons, refl, sym, ap, subst, ◌∙◌, arith, Option, Some, None}
use Rattle.std.specs.Prelude.{slice_get, slice_set, nat_le}
use Rattle.std.proofs.lemmas.Bool.{leb-false}
use Rattle.std.proofs.lemmas.Option.{slice_get_within, get_or_from_slice_get}
use Rattle.std.proofs.lemmas.List.{length-append, length-set, take-append-le, take-append-drop, take_all, map-append}
use Rattle.std.proofs.lemmas.List.{map_more}
use Rattle.std.proofs.lemmas.List.Elements.{All-head, All-tail}
use Rattle.datagram.specs.Spellings.{OutgoingText, outgoing_text}
use Rattle.reliable_link.specs.declared.out_frame.OutFrame.{OutFrame}
use Rattle.reliable_link.specs.SenderState.{SenderState, new_frame, after_accept, after_take_back}
use Rattle.reliable_link.specs.Acceptance.{HasNumberLeft}
use Rattle.datagram.specs.declared.frame.Outgoing.{Outgoing}
use Rattle.sessions.specs.declared.peers.Peer.{Peer}
use Rattle.sessions.specs.declared.refusal.SessionRefusal.{SessionRefusal}
use Rattle.sessions.specs.declared.refusal.SessionRefusal.TheVariants as refusals
use Rattle.sessions.proofs.PeerLemmas.{counted}
use Rattle.sessions.specs.Busy.{busy_among}
use Rattle.sessions.specs.Invariant.{IsSound}
use Rattle.sessions.specs.SessionsState.{SessionsState}
use Rattle.sessions.specs.Peers.{peer_at}
use Rattle.sessions.specs.HeardBytes.{HeardText}
use Rattle.sessions.specs.Events.{sendings, after_send, is_worn_out, out_on_accept, sends_limit}
use Rattle.sessions.specs.EventExecution.{
  CanSettle,
  answers,
  answered,
  bytes_ahead,
  sender_after,
  send_ahead,
  sends_ahead,
}
use Rattle.sessions.specs.EventExecution.{settled, taken_back, all_taken_back}
use Rattle.sessions.proofs.Lists.{set_twice}
use Rattle.sessions.proofs.SessionLookups.{peer_there, set_same}
use Rattle.sessions.proofs.Numbers.{number_at, AreThere, limit_behind}
use Rattle.sessions.proofs.Ahead.{kept_in, settle_behind, settles_number, sends_settled}

-- ---- one more

pub ahead_behind : (h : Option HeardText) (s : SessionsState) (fs gs : List OutgoingText) →
    sends_ahead h s (fs ++ gs) ≡ sends_ahead h (sends_ahead h s fs) gs
ahead_behind h s [] gs = refl
ahead_behind h s (f ∷ fs) gs = ahead_behind h (send_ahead h s f) fs gs

-- the frame at the next place
pub ahead_more : (h : Option HeardText) (s : SessionsState) (os : List Outgoing) (i : ℕ) (o : Outgoing) →
    slice_get os i ≡ Some o →
    sends_ahead h s (sendings (take (i + 1) os)) ≡
    send_ahead h (sends_ahead h s (sendings (take i os))) (outgoing_text o)
ahead_more h s os i o found =
    ap (sends_ahead h s) (map_more outgoing_text os i o (slice_get_within os i o found) ∙
    ap (λ (x : Outgoing). sendings (take i os) ++ outgoing_text x ∷ []) (get_or_from_slice_get os i o o found))
    ∙ ahead_behind h s (sendings (take i os)) (outgoing_text o ∷ [])

-- ---- what stays

pub length_ahead : (h : Option HeardText) (s : SessionsState) (fs : List OutgoingText) →
    length (sends_ahead h s fs).peers ≡
    length s.peers
length_ahead h s [] = refl
length_ahead h s (f ∷ fs) = length_ahead h (send_ahead h s f) fs ∙
    length-set s.peers f.target (kept_in (peer_at s.peers f.target) (bytes_ahead h s f))

pub place_ahead : (h : Option HeardText) (s : SessionsState) (fs : List OutgoingText) →
    (sends_ahead h s fs).place ≡ s.place
place_ahead h s [] = refl
place_ahead h s (f ∷ fs) = place_ahead h (send_ahead h s f) fs

pub known_ahead : (h : Option HeardText) (s : SessionsState) (fs : List OutgoingText) →
    (sends_ahead h s fs).known ≡ s.known
known_ahead h s [] = refl
known_ahead h s (f ∷ fs) = known_ahead h (send_ahead h s f) fs

pub clock_ahead : (h : Option HeardText) (s : SessionsState) (fs : List OutgoingText) →
    (sends_ahead h s fs).clock ≡ s.clock
clock_ahead h s [] = refl
clock_ahead h s (f ∷ fs) = clock_ahead h (send_ahead h s f) fs

pub can_ahead : (h : Option HeardText) (s : SessionsState) (fs : List OutgoingText) → CanSettle s.peers h →
    CanSettle (sends_ahead h s fs).peers h
can_ahead h s [] can = can
can_ahead h s (f ∷ fs) can =
    can_ahead h (send_ahead h s f) fs (settle_behind h s.peers f.target (bytes_ahead h s f) can)

-- ---- a number is left

front_by : (t : Bool) (a b : Option SessionRefusal) → cond t (Some refusals.Limit) a ≡ None → (a ≡ None → b ≡ None) →
    cond t (Some refusals.Limit) b ≡ None
front_by true a b is so = absurd cc
front_by false a b is so = so is

limit_front : (s : SessionsState) (fs gs : List OutgoingText) → sends_limit s (fs ++ gs) ≡ None →
    sends_limit s fs ≡ None
limit_front s [] gs is = refl
limit_front s (f ∷ fs) gs is =
    front_by (is_worn_out (peer_at s.peers f.target).sender) (sends_limit (after_send s f) (fs ++ gs))
    (sends_limit (after_send s f) fs) is (limit_front (after_send s f) fs gs)

not_worn : (t : Bool) (rest : Option SessionRefusal) → cond t (Some refusals.Limit) rest ≡ None → t ≡ false
not_worn true rest is = absurd cc
not_worn false rest is = refl

pub left_at : (h : Option HeardText) (s : SessionsState) (os : List Outgoing) (i : ℕ) (o : Outgoing) →
    CanSettle s.peers h → slice_get os i ≡ Some o →
    sends_limit (settled h s) (sendings os) ≡ None →
    HasNumberLeft (peer_at (sends_ahead h s (sendings (take i os))).peers o.target).sender
left_at h s os i o can found none =
    let fs : List OutgoingText = sendings (take i os) in
    let gs : List OutgoingText = sendings (drop (suc i) os) in
    let now : SessionsState = sends_ahead h s fs in
    let split : os ≡ take i os ++ o ∷ drop (suc i) os =
    sym (take-append-drop i os) ∙
    ap (λ t. take i os ++ t) (drop-cons os i o (slice_get_within os i o found) ∙
    ap (λ (x : Outgoing). x ∷ drop (suc i) os) (get_or_from_slice_get os i o o found)) in
    let parts : sendings os ≡ fs ++ outgoing_text o ∷ gs = ap sendings split ∙ map-append outgoing_text (take i os) (o ∷ drop (suc i) os) in
    let all : sends_limit (settled h s) (fs ++ outgoing_text o ∷ gs) ≡ None = ap (sends_limit (settled h s)) (sym parts) ∙ none in
    let front : sends_limit (settled h s) fs ≡ None = limit_front (settled h s) fs (outgoing_text o ∷ gs) all in
    let here : sends_limit (settled h now) (outgoing_text o ∷ gs) ≡ None =
    ap (λ (t : SessionsState). sends_limit t (outgoing_text o ∷ gs)) (sends_settled h s fs can) ∙
    sym (limit_behind (settled h s) fs (outgoing_text o ∷ gs) front) ∙ all in
    let fresh : nat_le 18446744073709551615 (number_at (settled h now).peers o.target) ≡ false = not_worn _ _ here in
    let same : number_at (settled h now).peers o.target ≡ number_at now.peers o.target = settles_number h now.peers o.target (can_ahead h s fs can) in
    omega (arith, leb-false 18446744073709551615 (number_at (settled h now).peers o.target) fresh, same)

abbrev some_of : Outgoing → Option Outgoing
some_of o = Some o

-- ---- taking back

-- the session that gives a frame back
abbrev back_in : Peer → Peer
back_in p = record { sender = after_take_back p.sender; receiver = p.receiver }

accepted_back : (s : SenderState) (b : List ℕ) → after_take_back (after_accept s b) ≡ s
accepted_back s b =
    let f : OutFrame = new_frame b s.clock in
    let longer : length (s.frames ++ f ∷ []) - 1 ≡ length s.frames = omega (arith, length-append s.frames (f ∷ [])) in
    ap (λ (t : List OutFrame). record s { frames = t })
    (ap (λ (n : ℕ). take n (s.frames ++ f ∷ [])) longer ∙
    take-append-le (length s.frames) s.frames (f ∷ []) (omega arith) ∙
    take_all (length s.frames) s.frames (omega arith))

kept_back : (peers : List Peer) (r : ℕ) (b : List ℕ) → r < length peers →
    taken_back (slice_set peers r (kept_in (peer_at peers r) b)) r ≡ peers
kept_back peers r b there =
    let p : Peer = peer_at peers r in
    ap (λ (x : Peer). slice_set (slice_set peers r (kept_in p b)) r
    (record { sender = after_take_back x.sender; receiver = x.receiver })) (peer_there peers r (kept_in p b) there)
    ∙ set_twice peers r (kept_in p b)
    (record { sender = after_take_back (after_accept p.sender b); receiver = p.receiver })
    ∙ ap (λ (s : SenderState). slice_set peers r (record { sender = s; receiver = p.receiver }))
    (accepted_back p.sender b)
    ∙ set_same peers r there

pub all_back : (h : Option HeardText) (s : SessionsState) (fs : List OutgoingText) → AreThere (length s.peers) fs →
    all_taken_back (sends_ahead h s fs).peers fs ≡ s.peers
all_back h s [] there = refl
all_back h s (f ∷ fs) there =
    let p : Peer = kept_in (peer_at s.peers f.target) (bytes_ahead h s f) in
    let rest : AreThere (length (send_ahead h s f).peers) fs =
    subst (λ (n : ℕ). AreThere n fs) (sym (length-set s.peers f.target p))
    (All-tail (λ (g : OutgoingText). g.target < length s.peers) f fs there) in
    ap (λ (t : List Peer). taken_back t f.target) (all_back h (send_ahead h s f) fs rest)
    ∙ kept_back s.peers f.target (bytes_ahead h s f)
    (All-head (λ (g : OutgoingText). g.target < length s.peers) f fs there)

-- what was there goes out first
pub out_ahead : (h : Option HeardText) (s : SessionsState) (fs : List OutgoingText) (n : ℕ) → n ≤ length s.out →
    take n (sends_ahead h s fs).out ≡ take n s.out
out_ahead h s [] n le = refl
out_ahead h s (f ∷ fs) n le =
    let one : List (ℕ × List ℕ) = out_on_accept (sender_after h s.peers f.target) f.target (bytes_ahead h s f) in
    out_ahead h (send_ahead h s f) fs n (omega (arith, le, length-append s.out one)) ∙ take-append-le n s.out one le

-- ---- one after the other, from the last one on

pub there_at : (n : ℕ) (os : List Outgoing) (i : ℕ) (o : Outgoing) → slice_get os i ≡ Some o →
    AreThere n (sendings os) → o.target < n
there_at n [] i o found all = absurd cc
there_at n (p ∷ os) zero o found all =
    subst (λ (q : Outgoing). q.target < n) (same_some p o found)
    (All-head (λ (f : OutgoingText). f.target < n) (outgoing_text p) (sendings os) all)
  where
    same_some : (x y : Outgoing) → some_of x ≡ some_of y → x ≡ y
    same_some x y e = cc
there_at n (p ∷ os) (suc i) o found all =
    there_at n os i o found (All-tail (λ (f : OutgoingText). f.target < n) (outgoing_text p) (sendings os) all)

pub length_back : (peers : List Peer) (fs : List OutgoingText) → length (all_taken_back peers fs) ≡ length peers
length_back peers [] = refl
length_back peers (f ∷ fs) =
    length-set (all_taken_back peers fs) f.target (back_in (peer_at (all_taken_back peers fs) f.target)) ∙
    length_back peers fs

pub back_more : (peers : List Peer) (os : List Outgoing) (i j k : ℕ) (o : Outgoing) → slice_get os i ≡ Some o →
    j ≡ suc i → k ≡ i →
    taken_back (all_taken_back peers (sendings (drop j os))) o.target ≡ all_taken_back peers (sendings (drop k os))
back_more peers os i j k o found j_is k_is =
    let next : drop i os ≡ o ∷ drop (suc i) os = drop-cons os i o (slice_get_within os i o found) ∙ ap (λ (x : Outgoing). x ∷ drop (suc i) os) (get_or_from_slice_get os i o o found) in
    ap (λ (n : ℕ). taken_back (all_taken_back peers (sendings (drop n os))) o.target) j_is
    ∙ ap (λ (t : List Outgoing). all_taken_back peers (sendings t)) (sym next)
    ∙ ap (λ (n : ℕ). all_taken_back peers (sendings (drop n os))) (sym k_is)

-- ---- nothing happened

pub undone : (h : Option HeardText) (s t now : SessionsState) (fs : List OutgoingText) (peers : List Peer)
    (out : List (ℕ × List ℕ)) → t ≡ answered h s → now ≡ sends_ahead h t fs →
    AreThere (length s.peers) fs → peers ≡ all_taken_back now.peers fs → out ≡ take (length s.out) now.out →
    record now { peers = peers; out = out } ≡ s
undone h s t now fs peers out t_is now_is there peers_is out_is =
    let u : SessionsState = answered h s in
    let is : now ≡ sends_ahead h u fs = now_is ∙ ap (λ (x : SessionsState). sends_ahead h x fs) t_is in
    let place : now.place ≡ s.place = ap (λ (x : SessionsState). x.place) is ∙ place_ahead h u fs in
    let known : now.known ≡ s.known = ap (λ (x : SessionsState). x.known) is ∙ known_ahead h u fs in
    let clock : now.clock ≡ s.clock = ap (λ (x : SessionsState). x.clock) is ∙ clock_ahead h u fs in
    let back : peers ≡ s.peers = peers_is ∙ ap (λ (x : SessionsState). all_taken_back x.peers fs) is ∙ all_back h u fs there in
    let gone : out ≡ s.out =
    out_is ∙ ap (λ (x : SessionsState). take (length s.out) x.out) is
    ∙ out_ahead h u fs (length s.out) (omega (arith, length-append s.out (answers h s.place s.peers)))
    ∙ take-append-le (length s.out) s.out (answers h s.place s.peers) (omega arith) ∙
    take_all (length s.out) s.out (omega arith) in
    rw (place, known, clock, back, gone) refl

-- what is true of all sessions is true again
pub sound_undone : (h : Option HeardText) (s t now : SessionsState) (fs : List OutgoingText) (peers : List Peer)
    (busy count : ℕ) → t ≡ answered h s → now ≡ sends_ahead h t fs →
    AreThere (length s.peers) fs → peers ≡ all_taken_back now.peers fs → count ≡ busy_among peers →
    IsSound s.place s.peers s.clock busy → IsSound now.place peers now.clock count
sound_undone h s t now fs peers busy count t_is now_is there peers_is count_is sound =
    let same : record now { peers = peers; out = take (length s.out) now.out } ≡ s = undone h s t now fs peers (take (length s.out) now.out) t_is now_is there peers_is refl in
    counted now.place peers now.clock busy count count_is
    (subst (λ (x : SessionsState). IsSound x.place x.peers x.clock busy) (sym same) sound)
