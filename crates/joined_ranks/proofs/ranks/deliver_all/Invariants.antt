use Rattle.std.proofs.Common.{List}
use Rattle.world.specs.declared.answered.Came.{Came}
use Rattle.joined_ranks.specs.Goings.{GoesOnAlone}
use Rattle.joined_ranks.specs.Kept.{ComeInTurn}
use Rattle.joined_ranks.proofs.ranks.deliver_all.Given as goal

abbrev pub invariant-loop : goal.invariant-loop
invariant-loop l = record {
  alone : GoesOnAlone l.fn.world l.world;
  comes : (came : List Came) × ComeInTurn came (record { world = l.fn.world; parts = l.fn.parts.items })
      (record { world = l.world; parts = l.parts.items });
}
