-- FOR SPEED ALONE: each goal here is proved without this file, too; with it a wrong body is refused soon.
use Rattle.std.proofs.Common.{rules}
use Rattle.printed_lines.proofs.answers.AnswerTextDisplay.fmt.Goals as goal

pub returns-in-Data-clause-writes : goal.returns-in-Data-clause-writes
returns-in-Data-clause-writes g c = search rules
