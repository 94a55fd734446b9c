-- The places of the positions so far.
use Rattle.std.proofs.Common.{◌≡◌, map, take}
use Rattle.binomial_trees.specs.Trees.{rotate_back}
use Rattle.collective_messages.proofs.role.turned_places.Given as goal

abbrev pub invariant-loop-position : goal.invariant-loop-position
invariant-loop-position l = l.places.items ≡ map (rotate_back l.top l.size) (take l.position-index l.positions)
