-- FOR SPEED ALONE: each goal here is proved without this file, too; with it a wrong body is refused soon.
use Rattle.std.proofs.Common.{rules}
use Rattle.world.proofs.quiet.are_quiet.Goals as goal

pub iter-requires : goal.iter-requires
iter-requires c κs = search rules

pub all-requires-clause-can : goal.all-requires-clause-can
all-requires-clause-can c = search rules

pub all-requires-clause-finite : goal.all-requires-clause-finite
all-requires-clause-finite c = search rules

pub all-requires-clause-callable : goal.all-requires-clause-callable
all-requires-clause-callable c = search rules

pub returns : goal.returns
returns c = search rules
