-- FOR SPEED ALONE: each goal here is proved without this file, too; with it a wrong body is refused soon.
use Rattle.std.proofs.Common.{rules}
use Rattle.collective_messages.proofs.entry.Entry.agrees.Goals as goal

pub record-requires : goal.record-requires
record-requires c = search rules

pub agrees-requires : goal.agrees-requires
agrees-requires c = search rules

pub returns : goal.returns
returns c = search rules
