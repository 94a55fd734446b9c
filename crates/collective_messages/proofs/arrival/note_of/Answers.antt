-- FOR SPEED ALONE: each goal here is proved without this file, too; with it a wrong body is refused soon.
use Rattle.std.proofs.Common.{rules}
use Rattle.collective_messages.proofs.arrival.note_of.Goals as goal

pub fits-requires : goal.fits-requires
fits-requires c = search rules

pub returns-then-not-fits : goal.returns-then-not-fits
returns-then-not-fits c = search rules

pub said_of-requires : goal.said_of-requires
said_of-requires c = search rules

pub returns-in-Ok-Some : goal.returns-in-Ok-Some
returns-in-Ok-Some c = search rules

pub returns-in-Ok-None : goal.returns-in-Ok-None
returns-in-Ok-None c = search rules

pub returns-in-Err : goal.returns-in-Err
returns-in-Err c = search rules
