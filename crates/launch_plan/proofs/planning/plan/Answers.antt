use Rattle.launch_plan.proofs.LaunchLaws.{is_found, is_only}
use Rattle.launch_plan.proofs.planning.plan.Goals as goal

pub returns-clause-found : goal.returns-clause-found
returns-clause-found c = is_found c.args.words.now _ c.plan_of.result c.plan_of.ensures

pub returns-clause-only : goal.returns-clause-only
returns-clause-only c = is_only c.args.words.now _ c.plan_of.result c.plan_of.ensures
