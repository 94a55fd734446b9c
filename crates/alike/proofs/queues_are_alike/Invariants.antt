-- What was looked at is the same in both.
use Rattle.std.proofs.Common.{◌≡◌, take}
use Rattle.alike.proofs.queues_are_alike.Given as goal

abbrev pub invariant-loop-place : goal.invariant-loop-place
invariant-loop-place g l = take l.place l.one.items ≡ take l.place l.other.items
