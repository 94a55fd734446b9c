-- FOR SPEED ALONE: each goal here is proved without this file, too; with it a wrong body is refused soon.
use Rattle.std.proofs.Common.{rules}
use Rattle.context_agreement.proofs.contexts.Contexts.is_full.Goals as goal

pub len-requires : goal.len-requires
len-requires c κs = search rules

pub returns-clause-full : goal.returns-clause-full
returns-clause-full c = search rules

pub returns-clause-never_more : goal.returns-clause-never_more
returns-clause-never_more c = search rules
