-- So does each frame that goes to a rank, and no frame meets none.
use Rattle.std.proofs.Common.{sym, ◌∙◌}
use Rattle.engine_calls.proofs.Limits.{none_by}
use Rattle.engine_calls.proofs.judgement.limit_to.Goals as goal

pub returns-in-Some : goal.returns-in-Some
returns-in-Some c = λ f is. c.limit_to_rank.ensures f (is ∙ c.in-Some.is)

pub returns-in-None : goal.returns-in-None
returns-in-None c = λ f is. sym (none_by c.args.sessions.now f (is ∙ c.in-None.is))
