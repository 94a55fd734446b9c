-- FOR SPEED ALONE: each goal here is proved without this file, too; with it a wrong body is refused soon.
use Rattle.std.proofs.Common.{rules}
use Rattle.script_files.proofs.script.RankLines.next.Goals as goal

pub pop_front-requires : goal.pop_front-requires
pop_front-requires c κs = search rules

pub returns : goal.returns
returns c = search rules
