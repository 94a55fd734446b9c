use Rattle.std.proofs.Common.{◌≡◌, ◌≤◌, take}
use Rattle.sessions.specs.Busy.{busy_among}
use Rattle.sessions.proofs.peers.count_busy.Given as goal

-- so many of those that were looked at
abbrev pub invariant-loop-peer : goal.invariant-loop-peer
invariant-loop-peer l = record {
  count : l.busy ≡ busy_among (take l.peer-index l.peers);
  few : l.busy ≤ l.peer-index;
}
