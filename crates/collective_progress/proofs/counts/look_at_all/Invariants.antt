-- So many notes were looked at.
use Rattle.std.proofs.Common.{◌≡◌, ◌-◌, length}
use Rattle.collective_progress.specs.Progress.{IsKept}
use Rattle.collective_progress.proofs.counts.look_at_all.Given as goal

abbrev pub invariant-loop-count : goal.invariant-loop-count
invariant-loop-count l = IsKept l.fn.own l.inside l.notes l.progress × (l.count ≡ l.progress.count)

abbrev pub decreases-loop-count : goal.decreases-loop-count
decreases-loop-count l = length l.notes - l.count
