-- FOR SPEED ALONE: each goal here is proved without this file, too; with it a wrong body is refused soon.
use Rattle.std.proofs.Common.{rules}
use Rattle.point_to_point_calls.proofs.receives.answer_on_post.Goals as goal

pub basic-requires : goal.basic-requires
basic-requires c = search rules

pub count-requires : goal.count-requires
count-requires c = search rules

pub has_room-wanted-requires : goal.has_room-wanted-requires
has_room-wanted-requires c = search rules

pub answer_to-requires : goal.answer_to-requires
answer_to-requires c = search rules

pub returns-in-Some-clause-exact : goal.returns-in-Some-clause-exact
returns-in-Some-clause-exact c = search rules

pub returns-in-Some-clause-fits : goal.returns-in-Some-clause-fits
returns-in-Some-clause-fits c = search rules

pub returns-in-None-clause-exact : goal.returns-in-None-clause-exact
returns-in-None-clause-exact c = search rules

pub returns-in-None-clause-fits : goal.returns-in-None-clause-fits
returns-in-None-clause-fits c = search rules
