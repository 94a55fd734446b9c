use Rattle.std.proofs.Common.{◌≡◌}
use Rattle.proof_network_bridge.specs.WorldViews.{opening_engines}
use Rattle.world.proofs.engines.new_engines.Given as goal

abbrev pub invariant-loop-rank : goal.invariant-loop-rank
invariant-loop-rank l = l.engines.items ≡ opening_engines l.limit l.size 0 l.rank
