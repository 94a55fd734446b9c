-- FOR SPEED ALONE: each goal here is proved without this file, too; with it a wrong body is refused soon.
use Rattle.std.proofs.Common.{rules}
use Rattle.communicators.proofs.question.compare_with.Goals as goal

pub number-requires : goal.number-requires
number-requires c = search rules

pub number-requires-in-Some : goal.number-requires-in-Some
number-requires-in-Some c = search rules

pub returns-then-number : goal.returns-then-number
returns-then-number c = search rules

pub comparison_of_groups-requires : goal.comparison_of_groups-requires
comparison_of_groups-requires c = search rules

pub returns-else-number : goal.returns-else-number
returns-else-number c = search rules

pub returns-in-None : goal.returns-in-None
returns-in-None c = search rules
