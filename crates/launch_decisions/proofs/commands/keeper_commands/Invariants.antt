-- There is a command for each rank below this one.
use Rattle.std.proofs.Common.{◌≡◌, length}
use Rattle.launch_decisions.specs.Starts.{ArePrograms}
use Rattle.launch_decisions.proofs.commands.keeper_commands.Given as goal

abbrev pub invariant-loop-rank : goal.invariant-loop-rank
invariant-loop-rank l = ArePrograms l.itself l.words l.rank l.commands.items
