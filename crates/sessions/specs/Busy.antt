-- In how many sessions a frame waits or is unacknowledged.
use Rattle.std.specs.Prelude.{ℕ, ◌+◌, List, [], ◌∷◌}
use Rattle.reliable_link.specs.declared.out_frame.OutFrame.{OutFrame}
use Rattle.sessions.specs.declared.peers.Peer.{Peer}

-- 1 where there are any
abbrev pub any_of : List OutFrame → ℕ
any_of [] = 0
any_of (f ∷ fs) = 1

-- 1 where the session holds one
abbrev pub busy_in : Peer → ℕ
busy_in p = any_of p.sender.frames

-- how many sessions do
abbrev pub busy_among : List Peer → ℕ
busy_among [] = 0
busy_among (p ∷ ps) = busy_in p + busy_among ps
