-- The sets so far, and those among the words that are left, are all sets.
use Rattle.std.proofs.Common.{◌≡◌, ◌++◌, drop}
use Rattle.run_words.specs.Readings.{sets_from}
use Rattle.run_words.specs.Steps.{start}
use Rattle.run_words.proofs.reading.set_words.Given as goal

abbrev pub invariant-loop-place : goal.invariant-loop-place
invariant-loop-place l =
    l.all ++ sets_from l.count l.reading l.place (drop l.place l.words) ≡ sets_from l.count start 0 l.words
