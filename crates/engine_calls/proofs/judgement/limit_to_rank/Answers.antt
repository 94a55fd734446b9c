-- Each frame to the rank meets its limit.
use Rattle.std.proofs.Common.{Some, None, sym, ◌∙◌}
use Rattle.engine_calls.proofs.Limits.{met_by}
use Rattle.engine_calls.proofs.judgement.limit_to_rank.Goals as goal

pub returns-in-Some : goal.returns-in-Some
returns-in-Some c = λ f is.
    rw c.of_sessions.ensures
    (met_by c.args.sessions.now f c.args.rank (Some c.in-Some.limit) is
    (λ b. sym c.in-Some.is ∙ c.limit_to.ensures b))

pub returns-in-None : goal.returns-in-None
returns-in-None c = λ f is.
    met_by c.args.sessions.now f c.args.rank None is (λ b. sym c.in-None.is ∙ c.limit_to.ensures b)
