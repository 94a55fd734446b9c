-- The streams on which this process prints what ranks write.
use Rattle.std.specs.Prelude.{ℤ, pos, Option, Some, None}
use Rattle.host_keepers.specs.declared.report.ReportKind.{ReportKind}
use Rattle.host_keepers.specs.declared.report.ReportKind.TheVariants as kinds
use Rattle.run_process.specs.declared.printing.Stream.{Stream}
use Rattle.run_process.specs.declared.printing.Stream.TheVariants as streams

-- the standard output and the standard error
abbrev pub descriptor_of : Stream → ℤ
descriptor_of streams.Output = pos 1
descriptor_of streams.Error = pos 2

-- where the bytes of a report of a keeper are printed
abbrev pub stream_of : ReportKind → Option Stream
stream_of kinds.Output = Some streams.Output
stream_of kinds.Errors = Some streams.Error
stream_of kinds.Status = None
stream_of kinds.Signal = None
stream_of kinds.Nothing = None
stream_of kinds.Ready = None
stream_of kinds.Taken = None
