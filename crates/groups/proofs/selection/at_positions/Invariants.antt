-- The ranks at the positions so far.
use Rattle.std.proofs.Common.{◌≡◌, take}
use Rattle.groups.specs.Groups.{members_at}
use Rattle.groups.proofs.selection.at_positions.Given as goal

abbrev pub invariant-loop-position : goal.invariant-loop-position
invariant-loop-position l = l.selected.items ≡ members_at l.ranks (take l.position-index l.positions)
