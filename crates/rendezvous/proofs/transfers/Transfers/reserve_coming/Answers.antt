-- FOR SPEED ALONE: each goal here is proved without this file, too; with it a wrong body is refused soon.
use Rattle.std.proofs.Common.{rules}
use Rattle.rendezvous.proofs.transfers.Transfers.reserve_coming.Goals as goal

pub reserve-requires : goal.reserve-requires
reserve-requires c = search rules

pub map_err-requires : goal.map_err-requires
map_err-requires c = search rules

pub returns-clause-room : goal.returns-clause-room
returns-clause-room c = search rules

pub returns-clause-kept : goal.returns-clause-kept
returns-clause-kept c = search rules
