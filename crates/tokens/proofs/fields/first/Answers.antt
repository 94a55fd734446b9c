-- FOR SPEED ALONE: each goal here is proved without this file, too; with it a wrong body is refused soon.
use Rattle.std.proofs.Common.{rules}
use Rattle.tokens.specs.Fields.{first}
use Rattle.tokens.proofs.fields.first.Goals as goal

pub split_first-requires : goal.split_first-requires
unfolding first
split_first-requires c κs = search rules

pub as_bytes-requires : goal.as_bytes-requires
unfolding first
as_bytes-requires c = search rules

pub returns-in-Some-clause-gives : goal.returns-in-Some-clause-gives
unfolding first
returns-in-Some-clause-gives c = search rules

pub returns-in-Some-clause-err : goal.returns-in-Some-clause-err
unfolding first
returns-in-Some-clause-err c = search rules

pub returns-in-None-clause-gives : goal.returns-in-None-clause-gives
unfolding first
returns-in-None-clause-gives c = search rules

pub returns-in-None-clause-err : goal.returns-in-None-clause-err
unfolding first
returns-in-None-clause-err c = search rules
