use Rattle.std.proofs.Common.{ℕ, ◌<◌, get_or}
use Rattle.shared_bytes.specs.Memory.{Meet, no_run}
use Rattle.shared_bytes.proofs.lists.meets_one.Given as goal

abbrev pub invariant-loop-other : goal.invariant-loop-other
invariant-loop-other l = (k : ℕ) → k < l.other-index → Meet l.run (get_or l.others k no_run) → ⊥
