-- What reports tell of a program's end.
use Rattle.std.specs.Prelude.{ℕ, List, [], ◌∷◌, Option, Some, None}
use Rattle.launch_keeper.specs.declared.ending.ProgramEnding.{ProgramEnding}
use Rattle.launch_keeper.specs.declared.ending.ProgramEnding.TheVariants as endings
use Rattle.host_keepers.specs.declared.report.ReportKind.{ReportKind}
use Rattle.host_keepers.specs.declared.report.ReportKind.TheVariants as kinds

abbrev pub first_byte : List ℕ → ℕ
first_byte [] = 0
first_byte (byte ∷ bytes) = byte

-- how the program ended, where a report of this kind tells that by this number
abbrev pub ending_told : ReportKind → ℕ → Option ProgramEnding
ending_told kinds.Output number = None
ending_told kinds.Errors number = None
ending_told kinds.Status number = Some (endings.Status number)
ending_told kinds.Signal number = Some (endings.Signal number)
ending_told kinds.Nothing number = Some endings.NotStarted
ending_told kinds.Ready number = None
ending_told kinds.Taken number = None

-- the kind and the number by which an end is told
abbrev pub told_end : ProgramEnding → ReportKind × ℕ
told_end (endings.Status status) = (kinds.Status, status)
told_end (endings.Signal signal) = (kinds.Signal, signal)
told_end endings.NotStarted = (kinds.Nothing, 0)
told_end endings.WithoutStatus = (kinds.Nothing, 0)
