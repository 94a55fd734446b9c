use Rattle.std.proofs.Common.{refl}
use Rattle.play_findings.proofs.report.teller_of.Goals as goal

pub returns : goal.returns
returns c = record {
  scripts = c.in_ok-scripts_of.field-0.items;
  said = c.in_ok-scripts_of.ensures;
  outcome = c.in_ok-outcome.outcome;
  gives = c.in_ok-outcome.ensures;
  ended = refl;
}
