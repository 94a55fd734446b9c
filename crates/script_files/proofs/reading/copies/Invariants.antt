use Rattle.std.proofs.Common.{◌≡◌, take}
use Rattle.script_files.proofs.reading.copies.Given as goal

abbrev pub invariant-loop-word : goal.invariant-loop-word
invariant-loop-word l = l.said ≡ take l.word-index l.words
