use Rattle.std.proofs.Common.{◌≡◌, take}
use Rattle.printed_lines.specs.Lines.{spaced_words}
use Rattle.printed_lines.proofs.lines.spaced_words.Given as goal

abbrev pub invariant-loop-word : goal.invariant-loop-word
invariant-loop-word l = l.text.items ≡ spaced_words (take l.word-index l.word-items)
