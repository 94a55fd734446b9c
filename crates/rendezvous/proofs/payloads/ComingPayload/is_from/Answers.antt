-- FOR SPEED ALONE: each goal here is proved without this file, too; with it a wrong body is refused soon.
use Rattle.std.proofs.Common.{rules}
use Rattle.rendezvous.proofs.payloads.ComingPayload.is_from.Goals as goal

pub returns-then-self-source : goal.returns-then-self-source
returns-then-self-source c = search rules

pub returns-else-self-source : goal.returns-else-self-source
returns-else-self-source c = search rules
