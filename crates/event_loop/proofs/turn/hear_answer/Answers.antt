-- FOR SPEED ALONE: each goal here is proved without this file, too; with it a wrong body is refused soon.
use Rattle.std.proofs.Common.{rules}
use Rattle.event_loop.proofs.turn.hear_answer.Goals as goal

pub reply_of-requires : goal.reply_of-requires
reply_of-requires c = search rules

pub replace-requires : goal.replace-requires
replace-requires c κs = search rules

pub returns-in-Some : goal.returns-in-Some
returns-in-Some c = search rules

pub returns-in_default : goal.returns-in_default
returns-in_default c = search rules
