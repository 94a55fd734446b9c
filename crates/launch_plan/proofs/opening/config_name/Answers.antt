use Rattle.launch_plan.proofs.OptionLaws.{name_again, is_reached}
use Rattle.std.proofs.Common.{◌∙◌}
use Rattle.launch_plan.proofs.opening.config_name.Goals as goal

pub returns-clause-found : goal.returns-clause-found
returns-clause-found c = is_reached c.args.words.now c.name_of.result c.name_of.ensures

pub returns-clause-only : goal.returns-clause-only
returns-clause-only c = λ name r. c.name_of.ensures ∙ name_again c.args.words.now name r
