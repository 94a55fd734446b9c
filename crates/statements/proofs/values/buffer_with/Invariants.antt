use Rattle.std.proofs.Common.{◌≡◌, drop}
use Rattle.statements.specs.LineWords.{elements_of}
use Rattle.tokens.specs.Fields.{each}
use Rattle.tokens.proofs.EachLaws.{with_more}
use Rattle.statements.proofs.values.buffer_with.Given as goal

abbrev pub invariant-loop-word : goal.invariant-loop-word
invariant-loop-word l =
    (l.buffer.basic ≡ l.basic) ×
    (with_more l.buffer.values (each (elements_of l.basic) (drop l.word-index l.words)) ≡
    each (elements_of l.basic) l.words)
