-- The options so far, and those among the words that are left, are all options.
use Rattle.std.proofs.Common.{◌≡◌, ◌++◌, drop}
use Rattle.run_words.specs.Readings.{options_from}
use Rattle.run_words.specs.Steps.{start}
use Rattle.run_words.proofs.reading.option_words.Given as goal

abbrev pub invariant-loop-place : goal.invariant-loop-place
invariant-loop-place l =
    l.all ++ options_from l.variables l.reading l.place (drop l.place l.words)
    ≡ options_from l.variables start 0 l.words
