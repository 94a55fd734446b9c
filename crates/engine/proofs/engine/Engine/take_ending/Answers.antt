-- FOR SPEED ALONE: each goal here is proved without this file, too; with it a wrong body is refused soon.
use Rattle.std.proofs.Common.{rules}
use Rattle.engine.proofs.engine.Engine.take_ending.Goals as goal

pub is_none-requires : goal.is_none-requires
is_none-requires c = search rules

pub returns-then-is_none-clause-completion : goal.returns-then-is_none-clause-completion
returns-then-is_none-clause-completion c = search rules

pub returns-then-is_none-clause-rest : goal.returns-then-is_none-clause-rest
returns-then-is_none-clause-rest c = search rules

pub take-requires : goal.take-requires
take-requires c = search rules

pub completion_by-requires : goal.completion_by-requires
completion_by-requires c = search rules

pub returns-clause-completion : goal.returns-clause-completion
returns-clause-completion c = search rules

pub returns-clause-rest : goal.returns-clause-rest
returns-clause-rest c = search rules
