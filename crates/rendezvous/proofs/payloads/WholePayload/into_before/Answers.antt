-- FOR SPEED ALONE: each goal here is proved without this file, too; with it a wrong body is refused soon.
use Rattle.std.proofs.Common.{rules}
use Rattle.rendezvous.proofs.payloads.WholePayload.into_before.Goals as goal

pub truncate-requires : goal.truncate-requires
truncate-requires c = search rules

pub returns : goal.returns
returns c = search rules
