-- FOR SPEED ALONE: each goal here is proved without this file, too; with it a wrong body is refused soon.
use Rattle.std.proofs.Common.{rules}
use Rattle.context_agreement.proofs.context.Context.of_self.Goals as goal

pub returns : goal.returns
returns c = search rules
