-- The ranks so far.
use Rattle.std.proofs.Common.{◌≡◌, take}
use Rattle.vocabulary.specs.declared.basic_type.BasicType.TheVariants.{Uint16}
use Rattle.collective_steps.proofs.contents.elements_of.Given as goal

abbrev pub invariant-loop-rank : goal.invariant-loop-rank
invariant-loop-rank l = l.elements ≡ record { basic = Uint16; values = take l.rank-index l.ranks }
