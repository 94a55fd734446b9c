-- What the words that are left ask for is what all ask for.
use Rattle.std.proofs.Common.{◌≡◌, drop}
use Rattle.run_plan.specs.Readings.{read, start}
use Rattle.run_plan.proofs.reading.request_of.Given as goal

abbrev pub invariant-loop-place : goal.invariant-loop-place
invariant-loop-place l = read l.reading l.place (drop l.place l.words) ≡ read start 0 l.words
