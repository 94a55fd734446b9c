-- FOR SPEED ALONE: each goal here is proved without this file, too; with it a wrong body is refused soon.
use Rattle.std.proofs.Common.{rules}
use Rattle.sessions.proofs.judgement.unmeant_of.Goals as goal

pub stale_of-requires : goal.stale_of-requires
stale_of-requires c = search rules

pub of_judging-requires : goal.of_judging-requires
of_judging-requires c = search rules

pub returns-in-StaleTarget-clause-exact : goal.returns-in-StaleTarget-clause-exact
returns-in-StaleTarget-clause-exact c = search rules

pub returns-in-StaleTarget-clause-fits : goal.returns-in-StaleTarget-clause-fits
returns-in-StaleTarget-clause-fits c = search rules

pub returns-in-StaleTarget-clause-none : goal.returns-in-StaleTarget-clause-none
returns-in-StaleTarget-clause-none c = search rules

pub returns-in_default : goal.returns-in_default
returns-in_default c = search rules
