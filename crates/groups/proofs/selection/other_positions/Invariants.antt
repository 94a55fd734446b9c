-- The ranks so far whose positions aren't listed.
use Rattle.std.proofs.Common.{◌≡◌}
use Rattle.groups.specs.Groups.{members_at}
use Rattle.groups.proofs.Selections.{unlisted}
use Rattle.groups.proofs.selection.other_positions.Given as goal

abbrev pub invariant-loop-position : goal.invariant-loop-position
invariant-loop-position l = l.selected.items ≡ members_at l.ranks (unlisted l.positions l.position)
