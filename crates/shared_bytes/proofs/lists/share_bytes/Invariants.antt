use Rattle.std.proofs.Common.{ℕ, ◌<◌, get_or}
use Rattle.shared_bytes.specs.Memory.{MeetOne, no_run}
use Rattle.shared_bytes.proofs.lists.share_bytes.Given as goal

abbrev pub invariant-loop-one : goal.invariant-loop-one
invariant-loop-one l = (k : ℕ) → k < l.one-index → MeetOne (get_or l.ones k no_run) l.others → ⊥
