-- FOR SPEED ALONE: each goal here is proved without this file, too; with it a wrong body is refused soon.
use Rattle.std.proofs.Common.{rules}
use Rattle.engine.proofs.datagrams.says_nothing.Goals as goal

pub returns-then-heard : goal.returns-then-heard
returns-then-heard c = search rules

pub returns-in-Nothing : goal.returns-in-Nothing
returns-in-Nothing c = search rules

pub returns-in-Hands : goal.returns-in-Hands
returns-in-Hands c = search rules

pub returns-in-Acknowledges : goal.returns-in-Acknowledges
returns-in-Acknowledges c = search rules

pub returns-in-Repeats : goal.returns-in-Repeats
returns-in-Repeats c = search rules

pub returns-in-Holds : goal.returns-in-Holds
returns-in-Holds c = search rules

pub returns-in-Follows : goal.returns-in-Follows
returns-in-Follows c = search rules
