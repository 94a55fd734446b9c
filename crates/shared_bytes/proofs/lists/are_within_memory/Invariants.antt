use Rattle.std.proofs.Common.{ℕ, ◌<◌, get_or}
use Rattle.shared_bytes.specs.Memory.{IsWithinMemory, no_run}
use Rattle.shared_bytes.proofs.lists.are_within_memory.Given as goal

abbrev pub invariant-loop-run : goal.invariant-loop-run
invariant-loop-run l = (k : ℕ) → k < l.run-index → IsWithinMemory (get_or l.runs k no_run)
