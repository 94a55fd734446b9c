-- What the ranks of a world hold of its links, once one of them did something.
use Rattle.std.proofs.Common.{◌≡◌, ℕ, ◌<◌, ◌≤◌, Bool, true, false, List, ◌++◌, length, drop, ◌==◌, slice_index}
use Rattle.std.proofs.Common.{slice_set, refl, sym, ap, ◌∙◌, subst, arith}
use Rattle.std.specs.List.{AllByRecursion}
use Rattle.std.proofs.lemmas.Bool.{eqb-true, eqb-false}
use Rattle.std.proofs.lemmas.List.{length-set}
use Rattle.vocabulary.specs.declared.endpoint.Endpoint.{Endpoint}
use Rattle.perfect_queues.proofs.ListLemmas.{get_set, get_set_other}
use Rattle.datagram.specs.Spellings.{FrameText}
use Rattle.sessions.specs.declared.peers.Peer.{Peer}
use Rattle.sessions.specs.SessionsState.{SessionsState}
use Rattle.sessions.specs.Peers.{peer_at, peer_or_new}
use Rattle.proof_link_truth.specs.Events.{LeavesTrue, emptied}
use Rattle.link_truth.specs.Links.{Links}
use Rattle.link_truth.specs.Sessions.{SessionsTell, PeerTells}
use Rattle.link_truth.specs.DatagramTruth.{IsTold}
use Rattle.link_truth.specs.Truth.{AreTrue}
use Rattle.link_truth.specs.Wire.{at, in_job, place_of, wires}
use Rattle.incarnation.specs.declared.place.Place.{Place}
use Rattle.link_truth.specs.Witness.{AreHeldEmitted, IsWitnessed}
use Rattle.proof_link_truth.proofs.LinkGrowth.{Grows, LinksFit, told_more}
use Rattle.proof_link_truth.proofs.Lists.{All_append, All_more, false_sym, set_each}
use Rattle.proof_link_truth.proofs.Receivers.{receiver_more}
use Rattle.proof_link_truth.proofs.Witnesses.{held_more}

-- the same session where nobody but another rank did something
pub peer_beside : (n r x k : ℕ) (current : ℕ → ℕ) (own : Endpoint) (a b : Links) (p : Peer) → Grows r a b →
    (own.rank == r) ≡ false
    → PeerTells n current own x k p a → PeerTells n current own x k p b
peer_beside n r x k current own a b p grows other tells = record {
  begun = tells.begun;
  sender = record {
    kept = tells.sender.kept ∙ ap (λ (fs : List FrameText). drop p.sender.lowest (wires n own (at x k) 0 fs))
        (sym (grows.accepted own (at x k) other));
    below = omega (arith, tells.sender.below, grows.more own (at x k));
  };
  receiver = receiver_more n (at x k) own p.receiver (a (at x k) own) (b (at x k) own) (grows.handed (at x k) own other)
      (grows.kept (at x k) own) tells.receiver;
  no_accepted = λ i above. grows.accepted own (at x i) other ∙ tells.no_accepted i above;
  no_handed = λ i above. grows.handed (at x i) own other ∙ tells.no_handed i above;
}

-- what the other ranks hold stays true
pub others_tell : (n r y : ℕ) (current : ℕ → ℕ) (a b : Links) (e : SessionsState) → Grows r a b → (y == r) ≡ false
    → SessionsTell n current y e a → SessionsTell n current y e b
others_tell n r y current a b e grows other tells = record {
  place = tells.place;
  each = tells.each;
  width = tells.width;
  peers = λ x x_is apart. peer_beside n r x (slice_index e.known x) current (at y (current y)) a b
      (peer_at e.peers x) grows other (tells.peers x x_is apart);
  itself = tells.itself;
}

-- what a rank holds stays true where others come to later incarnations
pub sessions_later : (n y : ℕ) (current later : ℕ → ℕ) (links : Links) (e : SessionsState) →
    ((x : ℕ) → current x ≤ later x) → later y ≡ current y
    → SessionsTell n current y e links → SessionsTell n later y e links
sessions_later n y current later links e up same tells = record {
  place = tells.place ∙ ap (λ (i : ℕ). in_job e.place.message_limit (place_of n (at y i))) (sym same);
  each = tells.each;
  width = tells.width;
  peers = λ x x_is apart.
      let p : PeerTells n current (at y (current y)) x (slice_index e.known x) (peer_at e.peers x) links = tells.peers x x_is apart in
      subst (λ (i : ℕ). PeerTells n later (at y i) x (slice_index e.known x) (peer_at e.peers x) links) (sym same)
      (record {
        begun = omega (arith, p.begun, up x);
        sender = p.sender;
        receiver = p.receiver;
        no_accepted = p.no_accepted;
        no_handed = p.no_handed;
      });
  itself = tells.itself;
}

-- the session at a place once another stands there
pub peer_set : (peers : List Peer) (x : ℕ) (p : Peer) → x < length peers → peer_at (slice_set peers x p) x ≡ p
peer_set peers x p lt = ap peer_or_new (get_set peers x p lt)

-- the session at another place
pub peer_set_other : (peers : List Peer) (x y : ℕ) (p : Peer) →
    (y == x) ≡ false → peer_at (slice_set peers x p) y ≡ peer_at peers y
peer_set_other peers x y p other = ap peer_or_new (get_set_other peers x y p (λ same. eqb-false y x other (sym same)))

-- the rank is known at this incarnation, and each other one as before
pub record IsKnown (old new : List ℕ) (x k : ℕ) : Type 0 where
  pub width : length new ≡ length old
  pub here : slice_index new x ≡ k
  pub others : (y : ℕ) → (y == x) ≡ false → slice_index new y ≡ slice_index old y

-- sessions of which that with one rank is another one, which may be known at another incarnation
pub sessions_know : (n r x k : ℕ) (current : ℕ → ℕ) (a b : Links) (e new : SessionsState) (p : Peer) →
    SessionsTell n current r e a → x < n → (x == r) ≡ false
    → PeerTells n current (at r (current r)) x k p b
    → ((y j : ℕ) (o : Peer) → (y == x) ≡ false → PeerTells n current (at r (current r)) y j o a →
    PeerTells n current (at r (current r)) y j o b)
    → new.place ≡ e.place → IsKnown e.known new.known x k → new.peers ≡ slice_set e.peers x p →
    SessionsTell n current r new b
sessions_know n r x k current a b e new p tells x_is apart here beside place_is known peers_are = record {
  place = subst (λ (p : Place). p ≡ in_job p.message_limit (place_of n (at r (current r)))) (sym place_is) tells.place;
  each = ap length peers_are ∙ length-set e.peers x p ∙ tells.each;
  width = known.width ∙ tells.width;
  peers = λ y y_is other. subst
      (λ (ps : List Peer). PeerTells n current own y (slice_index new.known y) (peer_at ps y) b) (sym peers_are)
      (stands y y_is other (y == x) refl);
  itself = ap (λ (ps : List Peer). (peer_at ps r).sender.frames) peers_are ∙
      ap (λ (o : Peer). o.sender.frames) (peer_set_other e.peers x r p (false_sym x r apart)) ∙ tells.itself;
}
  where
    own : Endpoint
    own = at r (current r)

    stands : (y : ℕ) → y < n → (y == r) ≡ false → (t : Bool) →
        (y == x) ≡ t → PeerTells n current own y (slice_index new.known y) (peer_at (slice_set e.peers x p) y) b
    stands y y_is other true same =
        let q : y ≡ x = eqb-true y x same in
        let there : peer_at (slice_set e.peers x p) x ≡ p = peer_set e.peers x p (omega (arith, x_is, tells.each)) in
        let it : PeerTells n current own x (slice_index new.known x) p b = subst (λ (j : ℕ). PeerTells n current own x j p b) (sym known.here) here in
        subst (λ (z : ℕ). PeerTells n current own z (slice_index new.known z) (peer_at (slice_set e.peers x p) z) b)
        (sym q)
        (subst (λ (o : Peer). PeerTells n current own x (slice_index new.known x) o b) (sym there) it)
    stands y y_is other false differs =
        let it : PeerTells n current own y (slice_index e.known y) (peer_at e.peers y) b = beside y (slice_index e.known y) (peer_at e.peers y) differs (tells.peers y y_is other) in
        let o_is : PeerTells n current own y (slice_index new.known y) (peer_at e.peers y) b =
        subst (λ (j : ℕ). PeerTells n current own y j (peer_at e.peers y) b) (sym (known.others y differs)) it in
        subst (λ (o : Peer). PeerTells n current own y (slice_index new.known y) o b)
        (sym (peer_set_other e.peers x y p differs)) o_is

-- sessions of which one changed, with the rank at the incarnation at which it was known
pub sessions_with : (n r x : ℕ) (current : ℕ → ℕ) (a b : Links) (e new : SessionsState) (p : Peer) →
    SessionsTell n current r e a → x < n → (x == r) ≡ false
    → PeerTells n current (at r (current r)) x (slice_index e.known x) p b
    → ((y j : ℕ) (o : Peer) → (y == x) ≡ false → PeerTells n current (at r (current r)) y j o a →
    PeerTells n current (at r (current r)) y j o b)
    → new.place ≡ e.place → new.known ≡ e.known → new.peers ≡ slice_set e.peers x p → SessionsTell n current r new b
sessions_with n r x current a b e new p tells x_is apart here beside place_is known_is peers_are =
    sessions_know n r x (slice_index e.known x) current a b e new p tells x_is apart here beside place_is (record {
      width = ap length known_is;
      here = ap (λ (ks : List ℕ). slice_index ks x) known_is;
      others = λ y other. ap (λ (ks : List ℕ). slice_index ks y) known_is;
    }) peers_are

-- sessions that did not change
pub sessions_stay : (n r : ℕ) (current : ℕ → ℕ) (a : Links) (e new : SessionsState) → SessionsTell n current r e a
    → new.place ≡ e.place → new.known ≡ e.known → new.peers ≡ e.peers → SessionsTell n current r new a
sessions_stay n r current a e new tells place_is known_is peers_are = record {
  place = subst (λ (p : Place). p ≡ in_job p.message_limit (place_of n (at r (current r)))) (sym place_is) tells.place;
  each = ap length peers_are ∙ tells.each;
  width = ap length known_is ∙ tells.width;
  peers = λ x x_is apart.
      subst (λ (ks : List ℕ). PeerTells n current (at r (current r)) x (slice_index ks x) (peer_at new.peers x) a)
      (sym known_is)
      (subst (λ (ps : List Peer). PeerTells n current (at r (current r)) x (slice_index e.known x) (peer_at ps x) a)
      (sym peers_are) (tells.peers x x_is apart));
  itself = ap (λ (ps : List Peer). (peer_at ps r).sender.frames) peers_are ∙ tells.itself;
}

-- the whole world once a rank did something
pub world_leaves : (n r : ℕ) (sessions : List SessionsState) (datagrams : List (ℕ × List ℕ)) (a b : Links)
    (current : ℕ → ℕ) (mid : SessionsState)
    → AreTrue n sessions datagrams a current → Grows r a b → SessionsTell n current r mid b → LinksFit n b current
    → AllByRecursion (IsTold n b current) mid.out →
    ((s d : Endpoint) → IsWitnessed n (datagrams ++ mid.out) s d (b s d)) → AreHeldEmitted n datagrams r mid
    → LeavesTrue n sessions datagrams r mid b current
world_leaves n r sessions datagrams a b current mid true_now grows tells fit told witnessed held = record {
  count = length-set sessions r (emptied mid) ∙ true_now.count;
  few = true_now.few;
  last = true_now.last;
  tells = set_each (λ y e. SessionsTell n current y e b) sessions r (emptied mid)
      (sessions_stay n r current b mid (emptied mid) tells refl refl refl)
      (λ y e other there. others_tell n r y current a b e grows other (true_now.tells y e there));
  sound = fit.sound;
  strangers = fit.strangers;
  none_accepted = fit.none_accepted;
  none_handed = fit.none_handed;
  told = All_append (IsTold n b current) datagrams mid.out
      (All_more (IsTold n a current) (IsTold n b current) datagrams (told_more n r a b current grows) true_now.told)
      told;
  witnessed = witnessed;
  held = set_each (λ y e. AreHeldEmitted n (datagrams ++ mid.out) y e) sessions r (emptied mid)
      (held_more n datagrams mid.out r mid held)
      (λ y e other there. held_more n datagrams mid.out y e (true_now.held y e there));
}
