-- A wait for all is answered, or comes back for want of memory.
use Rattle.std.proofs.Common.{List, Option, subst}
use Rattle.engine_calls.proofs.ReplyLaws.{requests_answered, requests_lacking}
use Rattle.point_to_point.specs.Completions.{Waits, waited}
use Rattle.point_to_point_calls.specs.CoreCalls as core_calls
use Rattle.requests.specs.declared.awaited_requests.Awaited.TheVariants.{AllOf}
use Rattle.requests.specs.declared.table.Request.{Request}
use Rattle.engine_calls.proofs.waits.wait_for_all.Goals as goal

pub returns-in-Ok-clause-exact : goal.returns-in-Ok-clause-exact
returns-in-Ok-clause-exact c = λ g allowed.
    requests_answered c.args.core.now.state c.wait.new.self.state g (core_calls.Waitall c.args.list)
    (waited c.wait.result) c.reply_of_wait.result tt allowed
    (subst
    (λ (qs : List (Option Request)). Waits c.args.core.now.state (AllOf qs) (waited c.wait.result) c.wait.new.self.state)
    c.new-in-Ok.ensures c.wait.ensures.exact)
    c.reply_of_wait.ensures

pub returns-in-Err-clause-exact : goal.returns-in-Err-clause-exact
returns-in-Err-clause-exact c = λ g allowed.
    requests_lacking c.args.core.now.state g (core_calls.Waitall c.args.list) tt tt allowed
