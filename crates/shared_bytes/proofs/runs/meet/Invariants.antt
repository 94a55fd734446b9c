use Rattle.std.proofs.Common.{◌+◌, ◌-◌}
use Rattle.shared_bytes.proofs.Rows.{NoneBefore}
use Rattle.shared_bytes.proofs.runs.meet.Given as goal

abbrev pub invariant-loop-first : goal.invariant-loop-first
invariant-loop-first l = NoneBefore l.one l.other l.first l.second

abbrev pub decreases-loop-first : goal.decreases-loop-first
decreases-loop-first l = (l.one.count - l.first) + (l.other.count - l.second)
