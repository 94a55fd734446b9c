-- The blocks of the members so far.
use Rattle.std.proofs.Common.{◌≡◌, take}
use Rattle.collective_steps.specs.Steps.{blocks_to}
use Rattle.collective_steps.proofs.data_movement.blocks_to_others.Given as goal

abbrev pub invariant-loop-place : goal.invariant-loop-place
invariant-loop-place l = l.messages.items ≡
    blocks_to l.seat.own l.seat.inside.now l.blocks.all.now l.blocks.count 0 (take l.place l.blocks.group.now)
