-- FOR SPEED ALONE: each goal here is proved without this file, too; with it a wrong body is refused soon.
use Rattle.std.proofs.Common.{rules}
use Rattle.engine.proofs.parts.Parts.take_news.Goals as goal

pub returns-clause-exact : goal.returns-clause-exact
returns-clause-exact c = search rules
