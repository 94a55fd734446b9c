-- What the words that are left say is what all say.
use Rattle.std.proofs.Common.{◌≡◌, drop}
use Rattle.run_words.specs.Readings.{read}
use Rattle.run_words.specs.Steps.{start}
use Rattle.run_words.proofs.reading.read_words.Given as goal

abbrev pub invariant-loop-place : goal.invariant-loop-place
invariant-loop-place l = read l.reading l.place (drop l.place l.words) ≡ read start 0 l.words
