-- FOR SPEED ALONE: each goal here is proved without this file, too; with it a wrong body is refused soon.
use Rattle.std.proofs.Common.{rules}
use Rattle.script_calls.proofs.outcomes.error_of.Goals as goal

pub number-requires : goal.number-requires
number-requires c = search rules

pub returns-in-Ended : goal.returns-in-Ended
returns-in-Ended c = search rules

pub returns-in-Replaced : goal.returns-in-Replaced
returns-in-Replaced c = search rules

pub returns-in-Sent : goal.returns-in-Sent
returns-in-Sent c = search rules

pub returns-in-Received : goal.returns-in-Received
returns-in-Received c = search rules

pub returns-in-Cancelled : goal.returns-in-Cancelled
returns-in-Cancelled c = search rules

pub returns-in-Empty : goal.returns-in-Empty
returns-in-Empty c = search rules
