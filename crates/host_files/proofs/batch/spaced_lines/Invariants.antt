use Rattle.std.proofs.Common.{◌≡◌, ◌++◌, drop}
use Rattle.host_files.specs.Batch.{spaced_lines}
use Rattle.host_files.proofs.batch.spaced_lines.Given as goal

abbrev pub invariant-loop-byte : goal.invariant-loop-byte
invariant-loop-byte l = l.text.items ++ spaced_lines (drop l.byte-index l.hosts) ≡ spaced_lines l.hosts
