-- So many are known to have entered.
use Rattle.std.proofs.Common.{◌-◌, length}
use Rattle.collective_progress.specs.Progress.{AreFirst}
use Rattle.collective_progress.proofs.judgement.first_known.Given as goal

abbrev pub invariant-loop-count : goal.invariant-loop-count
invariant-loop-count l = AreFirst l.own l.inside l.notes l.count

abbrev pub decreases-loop-count : goal.decreases-loop-count
decreases-loop-count l = length l.feeders - l.count
