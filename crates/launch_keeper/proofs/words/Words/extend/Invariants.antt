use Rattle.std.proofs.Common.{◌≡◌, ◌++◌, take}
use Rattle.launch_keeper.proofs.words.Words.extend.Given as goal

abbrev pub invariant-loop-word : goal.invariant-loop-word
invariant-loop-word l = l.self ≡ l.fn.self ++ take l.word-index l.words
