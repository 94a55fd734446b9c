use Rattle.std.proofs.Common.{◌≡◌, drop}
use Rattle.statements.specs.LineWords.{one_block}
use Rattle.tokens.specs.Fields.{each}
use Rattle.tokens.proofs.EachLaws.{with_more}
use Rattle.statements.proofs.layout_reading.blocks_of.Given as goal

abbrev pub invariant-loop-word : goal.invariant-loop-word
invariant-loop-word l = with_more l.blocks (each one_block (drop l.word-index l.words)) ≡ each one_block l.words
