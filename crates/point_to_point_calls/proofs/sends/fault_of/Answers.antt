-- FOR SPEED ALONE: each goal here is proved without this file, too; with it a wrong body is refused soon.
use Rattle.std.proofs.Common.{rules}
use Rattle.point_to_point_calls.proofs.sends.fault_of.Goals as goal

pub differs_in_type-requires : goal.differs_in_type-requires
differs_in_type-requires c = search rules

pub is_above-requires : goal.is_above-requires
is_above-requires c = search rules

pub is_too_short-requires : goal.is_too_short-requires
is_too_short-requires c = search rules

pub is_no_tag-requires : goal.is_no_tag-requires
is_no_tag-requires c = search rules

pub is_no_target-requires : goal.is_no_target-requires
is_no_target-requires c = search rules
