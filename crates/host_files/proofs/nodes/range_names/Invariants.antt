-- The names of the nodes below this step.
use Rattle.std.proofs.Common.{◌≡◌}
use Rattle.host_files.specs.Nodes.{first_names}
use Rattle.host_files.proofs.nodes.range_names.Given as goal

abbrev pub invariant-loop-step : goal.invariant-loop-step
invariant-loop-step l = l.names ≡ first_names l.front l.range l.step
