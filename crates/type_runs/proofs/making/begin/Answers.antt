use Rattle.std.proofs.Common.{◌∙◌}
use Rattle.type_runs.proofs.making.begin.Goals as goal

pub returns : goal.returns
returns c = record {
  summary_is = c.of.ensures.meant ∙ c.none.ensures;
  lower_is = c.of.ensures.lower;
  extent_is = c.of.ensures.extent;
}
