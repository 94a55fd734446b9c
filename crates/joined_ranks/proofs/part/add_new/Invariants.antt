use Rattle.joined_ranks.specs.Kept.{AreNew}
use Rattle.joined_ranks.proofs.part.add_new.Given as goal

abbrev pub invariant-loop : goal.invariant-loop
invariant-loop l = AreNew l.counter l.parts.items
