-- The world before anything happened, and sessions that are new.
use Rattle.std.proofs.Common.{◌≡◌, ℕ, zero, suc, ◌+◌, ◌<◌, ◌==◌, false, List, [], length, replicate, Some, slice_get}
use Rattle.std.proofs.Common.{slice_index, slice_set, refl, sym, ap, ◌∙◌, subst, arith, inl}
use Rattle.std.proofs.lemmas.Bool.{eqb-false}
use Rattle.std.proofs.lemmas.List.{get_or-replicate, get_or-set_other, length-replicate, length-set}
use Rattle.std.proofs.lemmas.Option.{same_Some}
use Rattle.vocabulary.specs.declared.endpoint.Endpoint.{Endpoint}
use Rattle.datagram.specs.Spellings.{FrameText}
use Rattle.reliable_link.specs.ReceiverState.{held_at}
use Rattle.sessions.specs.declared.peers.Peer.{Peer}
use Rattle.sessions.specs.SessionsState.{SessionsState, opening}
use Rattle.sessions.specs.Peers.{new_peer, peer_at}
use Rattle.proof_link_truth.specs.Events.{OpeningIsTrue, no_links, opening_sessions}
use Rattle.link_truth.specs.Links.{Links}
use Rattle.link_truth.specs.Sessions.{SessionsTell, PeerTells}
use Rattle.link_truth.specs.Wire.{at, in_job, place_of, wires}
use Rattle.vocabulary.specs.declared.message_limit.MessageLimit.{MessageLimit}
use Rattle.link_truth.specs.Witness.{AreHeldEmitted}
use Rattle.proof_link_truth.proofs.Receivers.{none_held, receiver_new}

-- every session is a new one
new_at : (n x : ℕ) → peer_at (replicate n new_peer) x ≡ new_peer
new_at zero x = refl
new_at (suc n) zero = refl
new_at (suc n) (suc x) = new_at n x

-- each other rank is known at its first incarnation
first_known : (n r i x : ℕ) → x < n → (x == r) ≡ false → slice_index (slice_set (replicate n 0) r i) x ≡ 0
first_known n r i x x_is apart = get_or-set_other (replicate n 0) r x i 0 (eqb-false x r apart) ∙
    get_or-replicate n x 0 0 x_is

-- of an endpoint nothing was accepted, and nothing was handed up there
pub record IsUnheard (own : Endpoint) (links : Links) : Type 0 where
  pub accepted : (d : Endpoint) → (links own d).accepted ≡ []
  pub handed : (s : Endpoint) → (links s own).handed ≡ 0

-- its new session with a rank
new_tells : (n x : ℕ) (current : ℕ → ℕ) (own : Endpoint) (links : Links) → IsUnheard own links →
    PeerTells n current own x 0 new_peer links
new_tells n x current own links none = record {
  begun = omega arith;
  sender = record {
    kept = sym (ap (λ (fs : List FrameText). wires n own (at x 0) 0 fs) (none.accepted (at x 0)));
    below = omega arith;
  };
  receiver = receiver_new n (at x 0) own (links (at x 0) own) (none.handed (at x 0));
  no_accepted = λ i above. none.accepted (at x i);
  no_handed = λ i above. none.handed (at x i);
}

-- new sessions, of which nothing was heard
pub new_sessions_tell : (l : MessageLimit) (n r : ℕ) (current : ℕ → ℕ) (links : Links) →
    IsUnheard (at r (current r)) links
    → SessionsTell n current r (opening (in_job l (place_of n (at r (current r))))) links
new_sessions_tell l n r current links none = record {
  place = refl;
  each = length-replicate n new_peer;
  width = length-set (replicate n 0) r (current r) ∙ length-replicate n 0;
  peers = λ x x_is apart.
      subst (λ (k : ℕ). PeerTells n current (at r (current r)) x k (peer_at (replicate n new_peer) x) links)
      (sym (first_known n r (current r) x x_is apart))
      (subst (λ (p : Peer). PeerTells n current (at r (current r)) x 0 p links) (sym (new_at n x))
      (new_tells n x current (at r (current r)) links none));
  itself = ap (λ (p : Peer). p.sender.frames) (new_at n r);
}

-- and hold nothing
pub new_held : (l : MessageLimit) (n r : ℕ) (datagrams : List (ℕ × List ℕ)) (own : Endpoint) →
    AreHeldEmitted n datagrams r (opening (in_job l (place_of n own)))
new_held l n r datagrams own x place bytes x_is apart there =
    absurd (none_held place bytes (ap (λ (p : Peer). held_at p.receiver.held place) (sym (new_at n x)) ∙ there))

-- at each place stand the sessions of its rank
stands : (l : MessageLimit) (n rank k r : ℕ) (e : SessionsState) → slice_get (opening_sessions l n rank k) r ≡ Some e →
    e ≡ opening (in_job l (place_of n (at (rank + r) 0)))
stands l n rank zero r e h = absurd (grind arith)
stands l n rank (suc k) zero e h = sym (same_Some (opening (in_job l (place_of n (at rank 0)))) e h) ∙
    ap (λ (m : ℕ). opening (in_job l (place_of n (at m 0)))) (omega arith)
stands l n rank (suc k) (suc r) e h = stands l n (suc rank) k r e h ∙
    ap (λ (m : ℕ). opening (in_job l (place_of n (at m 0)))) (omega arith)

-- one for each rank
many : (l : MessageLimit) (n rank k : ℕ) → length (opening_sessions l n rank k) ≡ k
many l n rank zero = refl
many l n rank (suc k) = ap suc (many l n (suc rank) k)

-- the law of openings
pub opening_is_true : OpeningIsTrue
opening_is_true l n few = record {
  count = many l n 0 n;
  few = few;
  last = λ r. omega arith;
  tells = λ r e h.
      let e_is : e ≡ opening (in_job l (place_of n (at r 0))) =
      stands l n 0 n r e h ∙ ap (λ (m : ℕ). opening (in_job l (place_of n (at m 0)))) (omega arith) in
      subst (λ (x : SessionsState). SessionsTell n (λ y. 0) r x no_links) (sym e_is)
      (new_sessions_tell l n r (λ y. 0) no_links (record { accepted = λ d. refl; handed = λ s. refl }));
  sound = λ s d. record { reach = omega arith; sent = tt; numbered = omega arith };
  strangers = λ s d h. refl;
  none_accepted = λ s d h. refl;
  none_handed = λ s d h. refl;
  told = tt;
  witnessed = λ s d. record { acknowledged = inl refl; frames = λ number lt. absurd (omega (arith, lt)) };
  held = λ r e h.
      let e_is : e ≡ opening (in_job l (place_of n (at r 0))) =
      stands l n 0 n r e h ∙ ap (λ (m : ℕ). opening (in_job l (place_of n (at m 0)))) (omega arith) in
      subst (AreHeldEmitted n [] r) (sym e_is) (new_held l n r [] (at r 0));
}
