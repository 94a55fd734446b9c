use Rattle.std.proofs.Common.{◌≡◌, drop}
use Rattle.std.specs.Prelude.{max}
use Rattle.rank_findings.specs.Verdicts.{heaviest_finding}
use Rattle.rank_findings.proofs.verdict.heaviest_finding.Given as goal

abbrev pub invariant-loop-finding : goal.invariant-loop-finding
invariant-loop-finding l =
    max l.most (heaviest_finding (drop l.finding-index l.findings)) ≡ heaviest_finding l.findings
