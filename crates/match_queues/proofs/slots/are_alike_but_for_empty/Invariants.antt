-- What stands at the places that were looked at is the same in both.
use Rattle.std.proofs.Common.{◌≡◌, take}
use Rattle.match_queues.specs.Slots.{somes}
use Rattle.match_queues.proofs.slots.are_alike_but_for_empty.Given as goal

abbrev pub invariant-loop-this : goal.invariant-loop-this
invariant-loop-this g l = somes (take l.this-index l.these) ≡ somes (take l.reached l.those)
