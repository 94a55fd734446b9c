-- FOR SPEED ALONE: each goal here is proved without this file, too; with it a wrong body is refused soon.
use Rattle.std.proofs.Common.{rules}
use Rattle.engine_calls.proofs.refusal.of_sessions.Goals as goal

pub returns-in-Rank : goal.returns-in-Rank
returns-in-Rank c = search rules

pub returns-in-Limit : goal.returns-in-Limit
returns-in-Limit c = search rules

pub returns-in-OutOfMemory : goal.returns-in-OutOfMemory
returns-in-OutOfMemory c = search rules

pub returns-in-Short : goal.returns-in-Short
returns-in-Short c = search rules

pub returns-in-Magic : goal.returns-in-Magic
returns-in-Magic c = search rules

pub returns-in-Version : goal.returns-in-Version
returns-in-Version c = search rules

pub returns-in-Kind : goal.returns-in-Kind
returns-in-Kind c = search rules

pub returns-in-Length : goal.returns-in-Length
returns-in-Length c = search rules

pub returns-in-ForeignJob : goal.returns-in-ForeignJob
returns-in-ForeignJob c = search rules

pub returns-in-NotForMe : goal.returns-in-NotForMe
returns-in-NotForMe c = search rules

pub returns-in-StaleSource : goal.returns-in-StaleSource
returns-in-StaleSource c = search rules

pub returns-in-StaleTarget : goal.returns-in-StaleTarget
returns-in-StaleTarget c = search rules

pub returns-in-BadFrame : goal.returns-in-BadFrame
returns-in-BadFrame c = search rules

pub returns-in-OutOfWindow : goal.returns-in-OutOfWindow
returns-in-OutOfWindow c = search rules

pub returns-in-ClockBack : goal.returns-in-ClockBack
returns-in-ClockBack c = search rules
