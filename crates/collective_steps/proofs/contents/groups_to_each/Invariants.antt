-- The messages to the ranks so far.
use Rattle.std.proofs.Common.{◌≡◌, take, map}
use Rattle.collective_steps.specs.Steps.{given_of, message_to, mine}
use Rattle.collective_steps.proofs.contents.groups_to_each.Given as goal

abbrev pub invariant-loop-rank : goal.invariant-loop-rank
invariant-loop-rank l =
    l.messages.items ≡ map (λ r. message_to l.inside (given_of (mine r l.made)) r) (take l.rank-index l.ranks)
