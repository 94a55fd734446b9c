-- No line ends behind what is left to be looked at.
use Rattle.std.proofs.Common.{◌≤◌, drop, length}
use Rattle.launch_keeper.specs.JoinedOutput.{IsLine}
use Rattle.rank_lines.proofs.buffer.whole_length.Given as goal

abbrev pub invariant-loop-length : goal.invariant-loop-length
invariant-loop-length l = (l.length ≤ length l.bytes) × IsLine (drop l.length l.bytes)

abbrev pub decreases-loop-length : goal.decreases-loop-length
decreases-loop-length l = l.length
