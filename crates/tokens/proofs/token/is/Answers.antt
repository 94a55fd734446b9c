-- FOR SPEED ALONE: each goal here is proved without this file, too; with it a wrong body is refused soon.
use Rattle.std.proofs.Common.{rules}
use Rattle.tokens.proofs.token.is.Goals as goal

pub eq-requires : goal.eq-requires
eq-requires c κs = search rules

pub returns : goal.returns
returns c = search rules
