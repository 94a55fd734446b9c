-- FOR SPEED ALONE: each goal here is proved without this file, too; with it a wrong body is refused soon.
use Rattle.std.proofs.Common.{rules}
use Rattle.point_to_point.proofs.rank.Core.fault_of_frame.Goals as goal

pub fault_of_plane-requires : goal.fault_of_plane-requires
fault_of_plane-requires c = search rules

pub fault_of_plane-requires-in-RequestToSend : goal.fault_of_plane-requires-in-RequestToSend
fault_of_plane-requires-in-RequestToSend c = search rules

pub is_next-requires : goal.is_next-requires
is_next-requires c = search rules

pub bad_unless-requires : goal.bad_unless-requires
bad_unless-requires c = search rules

pub first_of-requires : goal.first_of-requires
first_of-requires c = search rules

pub is_offered-requires : goal.is_offered-requires
is_offered-requires c = search rules

pub bad_unless-requires-in-ClearToSend : goal.bad_unless-requires-in-ClearToSend
bad_unless-requires-in-ClearToSend c = search rules

pub is_due-requires : goal.is_due-requires
is_due-requires c = search rules

pub bad_unless-requires-in-Data : goal.bad_unless-requires-in-Data
bad_unless-requires-in-Data c = search rules

pub returns-in-Eager : goal.returns-in-Eager
returns-in-Eager c = search rules

pub returns-in-RequestToSend : goal.returns-in-RequestToSend
returns-in-RequestToSend c = search rules

pub returns-in-ClearToSend : goal.returns-in-ClearToSend
returns-in-ClearToSend c = search rules

pub returns-in-Data : goal.returns-in-Data
returns-in-Data c = search rules
