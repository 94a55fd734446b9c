use Rattle.std.proofs.Common.{◌≡◌, ◌++◌, replicate}
use Rattle.host_files.proofs.slots.push_copies.Given as goal

abbrev pub invariant-loop : goal.invariant-loop
invariant-loop l = l.places.items ≡ l.fn.places.items ++ replicate l.counter l.place
