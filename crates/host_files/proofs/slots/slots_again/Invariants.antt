-- Each rank below this one has its slot.
use Rattle.std.proofs.Common.{◌≡◌}
use Rattle.host_files.specs.Slots.{slots_again}
use Rattle.host_files.proofs.slots.slots_again.Given as goal

abbrev pub invariant-loop-rank : goal.invariant-loop-rank
invariant-loop-rank l = l.places.items ≡ slots_again l.slots l.rank
