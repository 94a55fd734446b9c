-- FOR SPEED ALONE: each goal here is proved without this file, too; with it a wrong body is refused soon.
use Rattle.std.proofs.Common.{rules}
use Rattle.point_to_point_calls.proofs.receives.collection_on_post.Goals as goal

pub basic-requires : goal.basic-requires
basic-requires c = search rules

pub count-requires : goal.count-requires
count-requires c = search rules

pub has_room-wanted-requires : goal.has_room-wanted-requires
has_room-wanted-requires c = search rules

pub collection_on_match-requires : goal.collection_on_match-requires
collection_on_match-requires c = search rules

pub returns-in-Some-clause-ok : goal.returns-in-Some-clause-ok
returns-in-Some-clause-ok c = search rules

pub returns-in-Some-clause-err : goal.returns-in-Some-clause-err
returns-in-Some-clause-err c = search rules

pub returns-in-Some-clause-need : goal.returns-in-Some-clause-need
returns-in-Some-clause-need c = search rules

pub returns-in-None-clause-ok : goal.returns-in-None-clause-ok
returns-in-None-clause-ok c = search rules

pub returns-in-None-clause-err : goal.returns-in-None-clause-err
returns-in-None-clause-err c = search rules

pub returns-in-None-clause-need : goal.returns-in-None-clause-need
returns-in-None-clause-need c = search rules
