-- How a program ended.
use Rattle.std.specs.Prelude.{ℕ, ℤ, pos, negsuc, nat_lt, Option, Some, None, if◌then◌else◌}
use Rattle.std.specs.Process.{exit_code, exit_signal}
use Rattle.std.specs.declared.process.status.ExitStatus.{ExitStatus}
use Rattle.launch_keeper.specs.declared.ending.ProgramEnding.{ProgramEnding}
use Rattle.launch_keeper.specs.declared.ending.ProgramEnding.TheVariants as endings

-- what its end told: a status, or else a signal, or neither
abbrev pub ending_by : Option ℕ → Option ℕ → ProgramEnding
ending_by (Some status) signal = endings.Status status
ending_by None (Some signal) = endings.Signal signal
ending_by None None = endings.WithoutStatus

-- a number of the system's, where a byte holds it
abbrev pub byte_in : ℤ → Option ℕ
byte_in (pos n) = if nat_lt n 256 then Some n else None
byte_in (negsuc n) = None

abbrev pub byte_of : Option ℤ → Option ℕ
byte_of None = None
byte_of (Some number) = byte_in number

-- the status that a program ended with, or else the signal that ended it
abbrev pub ending_of : ExitStatus → ProgramEnding
ending_of status = ending_by (byte_of (exit_code status)) (byte_of (exit_signal status))
