-- FOR SPEED ALONE: each goal here is proved without this file, too; with it a wrong body is refused soon.
use Rattle.std.proofs.Common.{rules}
use Rattle.tokens.specs.Fields.{end_of_line}
use Rattle.tokens.proofs.fields.end_of_line.Goals as goal

pub is_empty-requires : goal.is_empty-requires
unfolding end_of_line
is_empty-requires c κs = search rules

pub returns-then-is_empty-clause-gives : goal.returns-then-is_empty-clause-gives
unfolding end_of_line
returns-then-is_empty-clause-gives c = search rules

pub returns-then-is_empty-clause-err : goal.returns-then-is_empty-clause-err
unfolding end_of_line
returns-then-is_empty-clause-err c = search rules

pub returns-else-is_empty-clause-gives : goal.returns-else-is_empty-clause-gives
unfolding end_of_line
returns-else-is_empty-clause-gives c = search rules

pub returns-else-is_empty-clause-err : goal.returns-else-is_empty-clause-err
unfolding end_of_line
returns-else-is_empty-clause-err c = search rules
