-- The session that a datagram meets.
use Rattle.std.proofs.Common.{◌≡◌, ◌≢◌, ℕ, zero, suc, ◌<◌, Bool, true, false, List, [], ◌∷◌, length, refl, ap, arith}
use Rattle.std.specs.Prelude.{slice_set}
use Rattle.sessions.specs.declared.peers.Peer.{Peer}
use Rattle.sessions.specs.Peers.{peer_at, peer_or_new, new_session}
use Rattle.sessions.specs.HeardBytes.{session_met}
use Rattle.sessions.specs.Events.{taught_peers}
use Rattle.sessions.proofs.Lists.{get_set, get_set_other}

pub peer_there : (peers : List Peer) (rank : ℕ) (p : Peer) → rank < length peers →
    peer_at (slice_set peers rank p) rank ≡ p
peer_there peers rank p there = ap peer_or_new (get_set peers rank p there)

pub peer_elsewhere : (peers : List Peer) (rank other : ℕ) (p : Peer) → rank ≢ other →
    peer_at (slice_set peers rank p) other ≡ peer_at peers other
peer_elsewhere peers rank other p ne = ap peer_or_new (get_set_other peers rank other p ne)

pub met_at : (lesson : Bool) (peers : List Peer) (rank : ℕ) → rank < length peers →
    peer_at (taught_peers lesson peers rank) rank ≡ session_met lesson (peer_at peers rank)
met_at true peers rank there = peer_there peers rank (new_session (peer_at peers rank)) there
met_at false peers rank there = refl

-- the other sessions are not met
pub others_at : (lesson : Bool) (peers : List Peer) (rank other : ℕ) → rank ≢ other →
    peer_at (taught_peers lesson peers rank) other ≡ peer_at peers other
others_at true peers rank other ne = peer_elsewhere peers rank other (new_session (peer_at peers rank)) ne
others_at false peers rank other ne = refl

-- writing what stands there
pub set_same : (peers : List Peer) (rank : ℕ) → rank < length peers → slice_set peers rank (peer_at peers rank) ≡ peers
set_same [] rank there = refl
set_same (p ∷ ps) zero there = refl
set_same (p ∷ ps) (suc rank) there = ap (λ (t : List Peer). p ∷ t) (set_same ps rank (omega (arith, there)))
