-- The texts of the outcomes so far.
use Rattle.std.proofs.Common.{◌≡◌, map, take}
use Rattle.printed_lines.specs.Answers.{outcome_text}
use Rattle.simulation.specs.Lines.{outcome_line}
use Rattle.simulation.proofs.lines.outcome_texts.Given as goal

abbrev pub invariant-loop-outcome : goal.invariant-loop-outcome
invariant-loop-outcome l = map outcome_text l.texts.items ≡ map outcome_line (take l.outcome-index l.outcomes)
