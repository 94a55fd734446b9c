-- The places so far, and those among the words that are left, are all places.
use Rattle.std.proofs.Common.{◌≡◌, ◌++◌, drop}
use Rattle.run_plan.specs.Readings.{places_from, start}
use Rattle.run_plan.proofs.reading.setting_places.Given as goal

abbrev pub invariant-loop-place : goal.invariant-loop-place
invariant-loop-place l = l.places.items ++ places_from l.reading l.place (drop l.place l.words) ≡ places_from start 0 l.words
