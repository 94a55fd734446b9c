-- The places so far, and those among the words that are left, are all places.
use Rattle.std.proofs.Common.{◌≡◌, ◌++◌, drop}
use Rattle.run_words.specs.Readings.{places_from, is_exported}
use Rattle.run_words.specs.Steps.{start}
use Rattle.run_words.proofs.reading.exported_places.Given as goal

abbrev pub invariant-loop-place : goal.invariant-loop-place
invariant-loop-place l =
    l.places.items ++ places_from is_exported l.reading l.place (drop l.place l.words)
    ≡ places_from is_exported start 0 l.words
