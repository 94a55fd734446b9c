-- FOR SPEED ALONE: each goal here is proved without this file, too; with it a wrong body is refused soon.
use Rattle.std.proofs.Common.{rules}
use Rattle.collective_progress.proofs.rules.rule_broken.Goals as goal

pub is_other_type-requires : goal.is_other_type-requires
is_other_type-requires c = search rules

pub returns-then-is_other_type : goal.returns-then-is_other_type
returns-then-is_other_type c = search rules

pub record-entered-requires : goal.record-entered-requires
record-entered-requires c = search rules

pub block_bytes-requires : goal.block_bytes-requires
block_bytes-requires c = search rules

pub is_wrong_total-requires : goal.is_wrong_total-requires
is_wrong_total-requires c = search rules

pub is_rooted-requires : goal.is_rooted-requires
is_rooted-requires c = search rules

pub root_of-requires : goal.root_of-requires
root_of-requires c = search rules

pub returns-then-root_of-size : goal.returns-then-root_of-size
returns-then-root_of-size c = search rules

pub is_undefined-requires : goal.is_undefined-requires
is_undefined-requires c = search rules

pub returns-then-is_undefined : goal.returns-then-is_undefined
returns-then-is_undefined c = search rules

pub returns : goal.returns
returns c = search rules
