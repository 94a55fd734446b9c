-- So many slots are free.
use Rattle.std.proofs.Common.{◌≡◌, ℕ, Option, None, length, replicate, take}
use Rattle.collective_progress.proofs.progress.free_all.Given as goal

abbrev pub invariant-loop-slot : goal.invariant-loop-slot
invariant-loop-slot l =
    (take l.slot l.places.items ≡ replicate l.slot None) × (length l.places.items ≡ length l.fn.places.items)
