-- FOR SPEED ALONE: each goal here is proved without this file, too; with it a wrong body is refused soon.
use Rattle.std.proofs.Common.{rules}
use Rattle.rendezvous.proofs.transfers.Transfers.announce_payloads.Goals as goal

pub append-requires : goal.append-requires
append-requires c = search rules

pub unwrap-requires : goal.unwrap-requires
unwrap-requires c = search rules

pub drop-payloads-requires : goal.drop-payloads-requires
drop-payloads-requires c = search rules

pub returns-clause-state : goal.returns-clause-state
returns-clause-state c = search rules

pub returns-clause-coming : goal.returns-clause-coming
returns-clause-coming c = search rules
