-- What has ended so far and what is left come to what all comes to.
use Rattle.std.proofs.Common.{◌≡◌, length}
use Rattle.interpreter.specs.Answers.{ended_each}
use Rattle.interpreter.proofs.SeveralLaws.{HaveEnded}
use Rattle.interpreter.proofs.names.Names.end_each.Given as goal

abbrev pub invariant-loop-requested : goal.invariant-loop-requested
invariant-loop-requested l = record {
  so_far : HaveEnded (ended_each l.fn.several.items l.fn.outcomes.items l.fn.self) l.errors
      l.requested-iterator.rest.items l.outcomes.rest.items l.self;
  left : l.requested-iterator.rest.len ≡ length l.requested-iterator.rest.items;
  still : l.outcomes.rest.len ≡ length l.outcomes.rest.items;
}
