-- A rank that learns a later incarnation of another one starts both directions of their session anew, as no link of
-- that incarnation has begun.
use Rattle.std.proofs.Common.{◌≡◌, ℕ, ◌<◌, ◌≤◌, Bool, true, false, max, List, [], length, ◌==◌, slice_index, slice_set}
use Rattle.std.proofs.Common.{refl, sym, ap, ◌∙◌, arith}
use Rattle.std.proofs.lemmas.Bool.{eqb-false}
use Rattle.std.proofs.lemmas.List.{get_or-set_other, get_or-set_same, length-set}
use Rattle.vocabulary.specs.declared.endpoint.Endpoint.{Endpoint}
use Rattle.datagram.specs.Spellings.{FrameText}
use Rattle.sessions.specs.declared.peers.Peer.{Peer}
use Rattle.sessions.specs.Events.{taught, taught_known, taught_peers}
use Rattle.sessions.specs.HeardBytes.{session_met}
use Rattle.sessions.specs.Peers.{new_session, peer_at}
use Rattle.sessions.specs.SessionsState.{SessionsState}
use Rattle.proof_link_truth.specs.Events.{IsHeard, IsLesson}
use Rattle.link_truth.specs.Links.{Links}
use Rattle.link_truth.specs.Sessions.{PeerTells, SessionsTell}
use Rattle.link_truth.specs.Wire.{at, wires}
use Rattle.link_truth.specs.Witness.{AreHeldEmitted}
use Rattle.proof_link_truth.proofs.LinkChanges.{IsKnown, peer_set, sessions_know}
use Rattle.proof_link_truth.proofs.HeldFrames.{held_with}
use Rattle.proof_link_truth.proofs.Receivers.{none_held, receiver_new}

-- a sender that keeps nothing tells the truth of a link that accepted nothing
none_tells : (n : ℕ) (s d : Endpoint) (accepted : List FrameText) → accepted ≡ [] → [] ≡ wires n s d 0 accepted
none_tells n s d accepted none = sym (ap (wires n s d 0) none)

-- the new session with a later incarnation of a rank
pub new_session_tells : (n x k i : ℕ) (current : ℕ → ℕ) (own : Endpoint) (p : Peer) (links : Links) → k < i →
    i ≤ current x
    → PeerTells n current own x k p links → PeerTells n current own x i (new_session p) links
new_session_tells n x k i current own p links above begun tells = record {
  begun = begun;
  sender = record {
    kept = none_tells n own (at x i) (links own (at x i)).accepted (tells.no_accepted i above);
    below =
        omega arith;
  };
  receiver = receiver_new n (at x i) own (links (at x i) own) (tells.no_handed i above);
  no_accepted = λ j beyond. tells.no_accepted j (omega (arith, above, beyond));
  no_handed = λ j beyond. tells.no_handed j (omega (arith, above, beyond));
}

-- a later incarnation is what is known then
pub learned_known : (known : List ℕ) (x i : ℕ) → x < length known → slice_index known x ≤ i →
    IsKnown known (slice_set known x (max (slice_index known x) i)) x i
learned_known known x i within above = record {
  width = length-set known x (max (slice_index known x) i);
  here = get_or-set_same known x (max (slice_index known x) i) 0 within ∙ omega (arith, above);
  others = λ y other. get_or-set_other known x y (max (slice_index known x) i) 0 (eqb-false y x other);
}

-- sessions that learnt a later incarnation hold what the same links hold
pub learned_tells : (n r : ℕ) (current : ℕ → ℕ) (links : Links) (old : SessionsState) (s : Endpoint) →
    SessionsTell n current r old links → s.rank < n
    → (s.rank == r) ≡ false → slice_index old.known s.rank < s.incarnation → s.incarnation ≤ current s.rank →
    SessionsTell n current r (taught true old s) links
learned_tells n r current links old s tells s_is apart above begun =
    let x : ℕ = s.rank in
    let i : ℕ = s.incarnation in
    sessions_know n r x i current links links old (taught true old s) (new_session (peer_at old.peers x)) tells s_is
    apart
    (new_session_tells n x (slice_index old.known x) i current (at r (current r)) (peer_at old.peers x) links above
    begun (tells.peers x s_is apart))
    (λ y j o other p. p) refl (learned_known old.known x i (omega (arith, s_is, tells.width)) (omega (arith, above)))
    refl

-- and so do sessions that heard a word, which may have taught nothing
pub taught_tells : (n r : ℕ) (current : ℕ → ℕ) (links : Links) (old : SessionsState) (s : Endpoint) (lesson : Bool) →
    SessionsTell n current r old links
    → IsHeard n r current old.known s lesson → SessionsTell n current r (taught lesson old s) links
taught_tells n r current links old s true tells heard =
    learned_tells n r current links old s tells heard.there heard.apart heard.incarnation heard.begun
taught_tells n r current links old s false tells heard = tells

-- a new session holds nothing
pub taught_held : (n r : ℕ) (datagrams : List (ℕ × List ℕ)) (old : SessionsState) (s : Endpoint) (lesson : Bool) →
    AreHeldEmitted n datagrams r old
    → s.rank < length old.peers → AreHeldEmitted n datagrams r (taught lesson old s)
taught_held n r datagrams old s true held within =
    held_with n r s.rank datagrams old (taught true old s) (new_session (peer_at old.peers s.rank)) held within
    (λ place bytes there. absurd (none_held place bytes there)) refl
taught_held n r datagrams old s false held within = held

-- once a word was heard, its endpoint is the known one
pub taught_is : (known : List ℕ) (s : Endpoint) (lesson : Bool) → s.rank < length known →
    IsLesson lesson (slice_index known s.rank) s.incarnation
    → slice_index (taught_known lesson known s) s.rank ≡ s.incarnation
taught_is known s true within above = (learned_known known s.rank s.incarnation within (omega (arith, above))).here
taught_is known s false within same = same

-- the session that a word meets
pub taught_peer : (peers : List Peer) (x : ℕ) (lesson : Bool) → x < length peers →
    peer_at (taught_peers lesson peers x) x ≡ session_met lesson (peer_at peers x)
taught_peer peers x true within = peer_set peers x (new_session (peer_at peers x)) within
taught_peer peers x false within = refl
