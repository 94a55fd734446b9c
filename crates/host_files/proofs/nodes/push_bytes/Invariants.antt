use Rattle.std.proofs.Common.{◌≡◌, ◌++◌, replicate}
use Rattle.host_files.proofs.nodes.push_bytes.Given as goal

abbrev pub invariant-loop : goal.invariant-loop
invariant-loop l = l.name.items ≡ l.fn.name.items ++ replicate l.counter l.byte
