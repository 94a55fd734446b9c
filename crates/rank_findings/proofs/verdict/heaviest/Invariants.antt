use Rattle.std.proofs.Common.{◌≡◌, drop}
use Rattle.std.specs.Prelude.{max}
use Rattle.rank_findings.specs.Verdicts.{heaviest}
use Rattle.rank_findings.proofs.verdict.heaviest.Given as goal

abbrev pub invariant-loop-weight : goal.invariant-loop-weight
invariant-loop-weight l = max l.most (heaviest (drop l.weight-index l.weights)) ≡ heaviest l.weights
