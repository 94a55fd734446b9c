use Rattle.std.proofs.Common.{◌≤◌, length}
use Rattle.std.specs.Option.{option_copied}
use Rattle.launch_diagnostics.specs.Places.{StaysFrom}
use Rattle.launch_diagnostics.proofs.fault.settling_length.Given as goal

abbrev pub invariant-loop-settled : goal.invariant-loop-settled
invariant-loop-settled l = (l.settled ≤ length l.words) × StaysFrom l.words (option_copied l.config) l.refused l.settled

abbrev pub decreases-loop-settled : goal.decreases-loop-settled
decreases-loop-settled l = l.settled
