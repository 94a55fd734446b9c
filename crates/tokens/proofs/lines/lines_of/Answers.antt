-- FOR SPEED ALONE: each goal here is proved without this file, too; with it a wrong body is refused soon.
use Rattle.std.proofs.Common.{rules}
use Rattle.tokens.specs.Lines.{lines_of}
use Rattle.tokens.proofs.lines.lines_of.Goals as goal

pub is_empty-requires : goal.is_empty-requires
unfolding lines_of
is_empty-requires c κs = search rules

pub new-requires : goal.new-requires
unfolding lines_of
new-requires c κs = search rules

pub returns-then-is_empty : goal.returns-then-is_empty
unfolding lines_of
returns-then-is_empty c = search rules

pub without_end-requires : goal.without_end-requires
unfolding lines_of
without_end-requires c = search rules

pub split-requires : goal.split-requires
unfolding lines_of
split-requires c = search rules

pub returns : goal.returns
unfolding lines_of
returns c = search rules
