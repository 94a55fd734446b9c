-- What a rank holds of the frames of others was emitted to it.
use Rattle.std.proofs.Common.{◌≡◌, ℕ, ◌<◌, Bool, true, false, List, length, Some, ◌==◌, slice_set, refl, sym, ap, ◌∙◌}
use Rattle.std.proofs.lemmas.Bool.{eqb-true}
use Rattle.reliable_link.specs.ReceiverState.{held_at}
use Rattle.sessions.specs.declared.peers.Peer.{Peer}
use Rattle.sessions.specs.Peers.{peer_at}
use Rattle.sessions.specs.SessionsState.{SessionsState}
use Rattle.link_truth.specs.Witness.{AreHeldEmitted, IsAmong}
use Rattle.proof_link_truth.proofs.LinkChanges.{peer_set, peer_set_other}

-- what one session holds was emitted to its rank
abbrev pub IsHeldEmitted : (datagrams : List (ℕ × List ℕ)) (r : ℕ) → Peer → Type 0
IsHeldEmitted datagrams r p = (place : ℕ) (bytes : List ℕ) → held_at p.receiver.held place ≡ Some bytes →
    IsAmong datagrams (r, bytes)

-- sessions of which one changed
pub held_with : (n r x : ℕ) (datagrams : List (ℕ × List ℕ)) (e new : SessionsState) (p : Peer) →
    AreHeldEmitted n datagrams r e → x < length e.peers
    → IsHeldEmitted datagrams r p → new.peers ≡ slice_set e.peers x p → AreHeldEmitted n datagrams r new
held_with n r x datagrams e new p held within here peers_are y place bytes y_is apart there = go (y == x) refl
  where
    after : held_at (peer_at (slice_set e.peers x p) y).receiver.held place ≡ Some bytes
    after = ap (λ (ps : List Peer). held_at (peer_at ps y).receiver.held place) (sym peers_are) ∙ there

    go : (t : Bool) → (y == x) ≡ t → IsAmong datagrams (r, bytes)
    go true same = here place bytes (
        ap (λ (o : Peer). held_at o.receiver.held place) (sym (peer_set e.peers x p within))
        ∙ ap (λ (z : ℕ). held_at (peer_at (slice_set e.peers x p) z).receiver.held place) (sym (eqb-true y x same)) ∙
        after)
    go false other =
        held y place bytes y_is apart
        (ap (λ (o : Peer). held_at o.receiver.held place) (sym (peer_set_other e.peers x y p other)) ∙ after)

-- sessions that did not change
pub held_stays : (n r : ℕ) (datagrams : List (ℕ × List ℕ)) (e new : SessionsState) → AreHeldEmitted n datagrams r e →
    new.peers ≡ e.peers → AreHeldEmitted n datagrams r new
held_stays n r datagrams e new held peers_are y place bytes y_is apart there =
    held y place bytes y_is apart (ap (λ (ps : List Peer). held_at (peer_at ps y).receiver.held place) (sym peers_are) ∙
    there)
