-- What is told of a rank whose loop failed.
use Rattle.std.specs.Prelude.{Bool, true, false, if◌then◌else◌}
use Rattle.port_transport.specs.declared.transport.PrintFault.{PrintFault}
use Rattle.port_transport.specs.declared.transport.PrintFault.TheVariants as faults
use Rattle.rank_process.specs.declared.failing.Failing.{Failing}
use Rattle.rank_process.specs.declared.failing.Failing.TheVariants as failings

-- the line couldn't be written
abbrev pub is_of_output : PrintFault → Bool
is_of_output faults.Wire = false
is_of_output faults.Output = true

-- it was told to stop, or else its output failed, or else its socket
abbrev pub failing_of : (is_stopped has_lost_line : Bool) → Failing
failing_of true has_lost_line = failings.Stop
failing_of false has_lost_line = if has_lost_line then failings.Output else failings.Socket
