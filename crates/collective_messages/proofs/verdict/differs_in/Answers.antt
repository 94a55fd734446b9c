-- FOR SPEED ALONE: each goal here is proved without this file, too; with it a wrong body is refused soon.
use Rattle.std.proofs.Common.{rules}
use Rattle.collective_messages.proofs.verdict.differs_in.Goals as goal

pub iter-requires : goal.iter-requires
iter-requires c κs = search rules

pub any-requires-clause-can : goal.any-requires-clause-can
any-requires-clause-can c = search rules

pub any-requires-clause-finite : goal.any-requires-clause-finite
any-requires-clause-finite c = search rules

pub any-requires-clause-callable : goal.any-requires-clause-callable
any-requires-clause-callable c = search rules
