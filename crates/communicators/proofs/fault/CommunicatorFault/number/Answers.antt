-- FOR SPEED ALONE: each goal here is proved without this file, too; with it a wrong body is refused soon.
use Rattle.std.proofs.Common.{rules}
use Rattle.communicators.proofs.fault.CommunicatorFault.number.Goals as goal

pub number-requires : goal.number-requires
number-requires c = search rules

pub returns-in-Blocked : goal.returns-in-Blocked
returns-in-Blocked c = search rules

pub returns-in-NoCommunicator : goal.returns-in-NoCommunicator
returns-in-NoCommunicator c = search rules

pub returns-in-Entry : goal.returns-in-Entry
returns-in-Entry c = search rules

pub returns-in-Replaced : goal.returns-in-Replaced
returns-in-Replaced c = search rules

pub returns-in-Limit : goal.returns-in-Limit
returns-in-Limit c = search rules
