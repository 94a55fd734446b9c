use Rattle.std.specs.Prelude.{◌≤◌, ◌+◌, length, vec_capacity, vec_len}
use Rattle.world.specs.EventByEvent.{GoesOnFrom}
use Rattle.world.specs.Steps.{RunGives}
use Rattle.world.proofs.world.World.run_into.Given as goal

abbrev pub invariant-loop-event : goal.invariant-loop-event
invariant-loop-event l = RunGives l.fn.self l.yielded l.answers.items l.self ×
    GoesOnFrom l.fn.self l.yielded l.answers.items l.self ×
    (vec_len l.answers + length l.event-iterator.rest.items ≤ vec_capacity l.answers)
