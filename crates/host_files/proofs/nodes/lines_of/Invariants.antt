-- The lines so far, and those of the nodes left, are all lines.
use Rattle.std.proofs.Common.{◌≡◌, ◌++◌, drop}
use Rattle.host_files.specs.Nodes.{lines_of}
use Rattle.host_files.proofs.nodes.lines_of.Given as goal

abbrev pub invariant-loop-place : goal.invariant-loop-place
invariant-loop-place l = l.text.items ++ lines_of (drop l.place l.names) (drop l.place l.counts) ≡ lines_of l.names l.counts
