use Rattle.std.proofs.Common.{◌≡◌, ◌++◌, replicate}
use Rattle.host_files.proofs.nodes.push_times.Given as goal

abbrev pub invariant-loop : goal.invariant-loop
invariant-loop l = l.counts.items ≡ l.fn.counts.items ++ replicate l.counter l.count
