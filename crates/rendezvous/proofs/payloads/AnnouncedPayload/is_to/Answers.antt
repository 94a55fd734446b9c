-- FOR SPEED ALONE: each goal here is proved without this file, too; with it a wrong body is refused soon.
use Rattle.std.proofs.Common.{rules}
use Rattle.rendezvous.proofs.payloads.AnnouncedPayload.is_to.Goals as goal

pub returns-then-self-target : goal.returns-then-self-target
returns-then-self-target c = search rules

pub returns-else-self-target : goal.returns-else-self-target
returns-else-self-target c = search rules
