-- Where no session holds a frame, nothing is on its way.
use Rattle.std.proofs.Common.{◌≡◌, ℕ, ◌+◌, ◌-◌, ◌<◌, ◌≤◌, Bool, true, false, ◌&&◌, not, nat_lt, List, [], length, drop}
use Rattle.std.proofs.Common.{Option, Some, None, ◌==◌, slice_index, refl, sym, ap, ◌∙◌, subst, arith}
use Rattle.std.proofs.lemmas.Bool.{and_parts, ltb-true, not-true}
use Rattle.std.proofs.lemmas.List.{drop_all, length-drop}
use Rattle.std.proofs.lemmas.Option.{same_Some, slice_get_within}
use Rattle.vocabulary.specs.declared.endpoint.Endpoint.{Endpoint}
use Rattle.datagram.specs.Spellings.{FrameText}
use Rattle.reliable_link.specs.declared.out_frame.OutFrame.{OutFrame}
use Rattle.reliable_link.specs.ReceiverState.{held_at}
use Rattle.sessions.specs.declared.peers.Peer.{Peer}
use Rattle.sessions.specs.Peers.{peer_at}
use Rattle.sessions.specs.SessionsState.{SessionsState}
use Rattle.incarnation.specs.declared.place.Place.{Place}
use Rattle.proof_link_truth.specs.Events.{IdleHoldsNothing, IdleIsStill}
use Rattle.link_truth.specs.Links.{Link, Links, in_flight}
use Rattle.link_truth.specs.Sessions.{IsHeldOf, SessionsTell, PeerTells, SenderTells, bytes_kept, is_pair}
use Rattle.link_truth.specs.Wire.{at, wires}
use Rattle.proof_link_truth.proofs.Lists.{false_sym, get_within}
use Rattle.proof_link_truth.proofs.Wires.{wires_length}

-- where the sender keeps nothing, all was handed up
pub empty_is_still : (n : ℕ) (s d : Endpoint) (p : Peer) (link : Link) → SenderTells n s d p.sender link →
    p.sender.frames ≡ [] → in_flight link ≡ []
empty_is_still n s d p link tells empty =
    let none : 0 ≡ length (drop p.sender.lowest (wires n s d 0 link.accepted)) =
    ap (λ (fs : List OutFrame). length (bytes_kept fs)) (sym empty) ∙ ap (λ (t : List (List ℕ)). length t) tells.kept in
    let few : 0 ≡ length link.accepted - p.sender.lowest =
    none ∙ length-drop p.sender.lowest (wires n s d 0 link.accepted) ∙
    ap (λ (k : ℕ). k - p.sender.lowest) (wires_length n s d 0 link.accepted) in
    drop_all link.handed link.accepted (omega (arith, few, tells.below))

-- what a pair of ranks is
record IsPair (n : ℕ) (s d : Endpoint) : Type 0 where
  apart : (d.rank == s.rank) ≡ false
  source : s.rank < n
  target : d.rank < n

-- the test says so
pair_is : (n : ℕ) (s d : Endpoint) → is_pair n s d ≡ true → IsPair n s d
pair_is n s d h =
    let a = and_parts (not (s.rank == d.rank)) (nat_lt s.rank n && nat_lt d.rank n) h in
    let b = and_parts (nat_lt s.rank n) (nat_lt d.rank n) a.1 in
    record {
      apart = false_sym s.rank d.rank (not-true (s.rank == d.rank) a.0);
      source = ltb-true s.rank n b.0;
      target = ltb-true d.rank n b.1;
    }

-- the one's session with the other tells of their link
session_tells : (n : ℕ) (current : ℕ → ℕ) (s d : Endpoint) (e : SessionsState) (links : Links) → IsPair n s d →
    s.incarnation ≡ current s.rank
    → slice_index e.known d.rank ≡ d.incarnation → SessionsTell n current s.rank e links →
    SenderTells n s d (peer_at e.peers d.rank).sender (links s d)
session_tells n current s d e links pair s_is knows tells =
    let p : PeerTells n current (at s.rank (current s.rank)) d.rank (slice_index e.known d.rank) (peer_at e.peers d.rank) links =
    tells.peers d.rank pair.target pair.apart in
    let q : SenderTells n (at s.rank (current s.rank)) d (peer_at e.peers d.rank).sender (links (at s.rank (current s.rank)) d) =
    subst (λ (i : ℕ). SenderTells n (at s.rank (current s.rank)) (at d.rank i) (peer_at e.peers d.rank).sender
    (links (at s.rank (current s.rank)) (at d.rank i))) knows p.sender in
    subst (λ (i : ℕ). SenderTells n (at s.rank i) d (peer_at e.peers d.rank).sender (links (at s.rank i) d))
    (sym s_is) q

-- the law of idle worlds
pub idle_is_still : IdleIsStill
idle_is_still n sessions datagrams links current true_now idle s d s_is d_is s_knows d_knows = go (is_pair n s d) refl
  where
    go : (t : Bool) → is_pair n s d ≡ t → in_flight (links s d) ≡ []
    go false h = ap (λ (fs : List FrameText). drop (links s d).handed fs) (true_now.strangers s d h) ∙
        drop_all (links s d).handed [] (omega arith)
    go true h =
        let pair : IsPair n s d = pair_is n s d h in
        let e = get_within sessions s.rank (omega (arith, pair.source, true_now.count)) in
        let f = get_within sessions d.rank (omega (arith, pair.target, true_now.count)) in
        let e_tells : SessionsTell n current s.rank e.0 links = true_now.tells s.rank e.0 e.1 in
        let f_tells : SessionsTell n current d.rank f.0 links = true_now.tells d.rank f.0 f.1 in
        let f_is : d.incarnation ≡ f.0.place.endpoint.incarnation = d_is ∙ sym (ap (λ (p : Place). p.endpoint.incarnation) f_tells.place) in
        let e_is : s.incarnation ≡ e.0.place.endpoint.incarnation = s_is ∙ sym (ap (λ (p : Place). p.endpoint.incarnation) e_tells.place) in
        let empty : (peer_at e.0.peers d.rank).sender.frames ≡ [] =
        idle s.rank d.rank e.0 f.0 e.1 f.1 pair.apart (s_knows e.0 e.1 ∙ f_is) (d_knows f.0 f.1 ∙ e_is) in
        empty_is_still n s d (peer_at e.0.peers d.rank) (links s d)
        (session_tells n current s d e.0 links pair s_is (s_knows e.0 e.1) e_tells) empty

-- the law of what idle worlds hold
pub idle_holds_nothing : IdleHoldsNothing
idle_holds_nothing n r x place sessions datagrams links current own other true_now idle here there apart knows known =
    go (held_at (peer_at own.peers x).receiver.held place) refl
  where
    s : Endpoint
    s = at x (current x)

    d : Endpoint
    d = at r (current r)

    own_tells : SessionsTell n current r own links
    own_tells = true_now.tells r own here

    other_tells : SessionsTell n current x other links
    other_tells = true_now.tells x other there

    s_is : slice_index own.known x ≡ current x
    s_is = knows ∙ ap (λ (p : Place). p.endpoint.incarnation) other_tells.place

    d_is : slice_index other.known r ≡ current r
    d_is = known ∙ ap (λ (p : Place). p.endpoint.incarnation) own_tells.place

    still : in_flight (links s d) ≡ []
    still = idle_is_still n sessions datagrams links current true_now idle s d refl refl
        (λ e at_x. ap (λ (t : SessionsState). slice_index t.known r) (same_Some e other (sym at_x ∙ there)) ∙ d_is)
        (λ e at_r. ap (λ (t : SessionsState). slice_index t.known x) (same_Some e own (sym at_r ∙ here)) ∙ s_is)

    all : length (links s d).accepted ≤ (links s d).handed
    all = omega (
      arith,
      length-drop (links s d).handed (links s d).accepted,
      ap (λ (fs : List FrameText). length fs) still,
    )

    peer : PeerTells n current d x (current x) (peer_at own.peers x) links
    peer = subst (λ (k : ℕ). PeerTells n current d x k (peer_at own.peers x) links) s_is
        (own_tells.peers x (omega (arith, slice_get_within sessions x other there, true_now.count)) apart)

    go : (o : Option (List ℕ)) → held_at (peer_at own.peers x).receiver.held place ≡ o →
        held_at (peer_at own.peers x).receiver.held place ≡ None
    go None is = is
    go (Some bytes) is =
        let h : IsHeldOf n s d ((peer_at own.peers x).receiver.next + place) (links s d) bytes = peer.receiver.held place bytes is in
        let below : (peer_at own.peers x).receiver.next + place < length (links s d).accepted =
        slice_get_within (links s d).accepted ((peer_at own.peers x).receiver.next + place) h.frame h.accepted in
        absurd (omega (arith, below, all, peer.receiver.next))
