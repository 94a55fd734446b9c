-- The messages to the ranks so far.
use Rattle.std.proofs.Common.{◌≡◌, take, map}
use Rattle.collective_messages.specs.declared.message.MessageContent.TheVariants as given
use Rattle.collective_steps.specs.Steps.{message_to}
use Rattle.payload.specs.declared.payload.Direction.TheVariants.{FromRoot}
use Rattle.collective_steps.proofs.data_movement.elements_to_each.Given as goal

abbrev pub invariant-loop-rank : goal.invariant-loop-rank
invariant-loop-rank l =
    l.messages.items ≡ map (λ r. message_to l.inside (given.Elements FromRoot l.elements) r) (take l.rank-index l.ranks)
