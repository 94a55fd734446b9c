-- FOR SPEED ALONE: each goal here is proved without this file, too; with it a wrong body is refused soon.
use Rattle.std.proofs.Common.{rules}
use Rattle.script_files.specs.LineWords.{said_words}
use Rattle.script_files.proofs.reading.said_words.Goals as goal

pub first-requires : goal.first-requires
unfolding said_words
first-requires c = search rules

pub branch-first-requires : goal.branch-first-requires
unfolding said_words
branch-first-requires c κs = search rules

pub from_residual-requires : goal.from_residual-requires
unfolding said_words
from_residual-requires c κs = search rules

pub returns-in_err-first : goal.returns-in_err-first
unfolding said_words
returns-in_err-first c = search rules

pub copies-requires : goal.copies-requires
unfolding said_words
copies-requires c = search rules

pub returns : goal.returns
unfolding said_words
returns c = search rules
