-- Nothing stands at the places that were looked at.
use Rattle.std.proofs.Common.{◌≡◌, take}
use Rattle.match_queues.specs.Slots.{somes}
use Rattle.match_queues.proofs.slots.standing_from.Given as goal

abbrev pub invariant-loop-place : goal.invariant-loop-place
invariant-loop-place g l = somes (take l.place l.slots) ≡ somes (take l.fn.from l.slots)
