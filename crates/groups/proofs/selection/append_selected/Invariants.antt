-- The first ranks, and those so far of the second that pass.
use Rattle.std.proofs.Common.{◌≡◌, ◌++◌, take, filter}
use Rattle.groups.specs.Makings.{passes}
use Rattle.groups.proofs.selection.append_selected.Given as goal

abbrev pub invariant-loop-rank : goal.invariant-loop-rank
invariant-loop-rank l = l.selected.items ≡ l.first ++ filter (passes l.given l.wanted) (take l.rank-index l.second)
