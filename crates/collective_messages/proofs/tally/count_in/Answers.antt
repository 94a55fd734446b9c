-- FOR SPEED ALONE: each goal here is proved without this file, too; with it a wrong body is refused soon.
use Rattle.std.proofs.Common.{rules}
use Rattle.collective_messages.proofs.tally.count_in.Goals as goal

pub place_in-requires : goal.place_in-requires
place_in-requires c = search rules

pub get-requires : goal.get-requires
get-requires c κs = search rules

pub returns-in-None-get : goal.returns-in-None-get
returns-in-None-get c = search rules

pub returns-in-None : goal.returns-in-None
returns-in-None c = search rules
