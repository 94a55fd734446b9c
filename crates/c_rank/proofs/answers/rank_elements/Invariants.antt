use Rattle.std.proofs.Common.{◌≡◌, take}
use Rattle.vocabulary.specs.declared.basic_type.BasicType.TheVariants.{Uint16}
use Rattle.c_rank.proofs.answers.rank_elements.Given as goal

abbrev pub invariant-loop-rank : goal.invariant-loop-rank
invariant-loop-rank l = (l.buffer.basic ≡ Uint16) × (l.buffer.values ≡ take l.rank-index l.ranks)
