-- A call on requests that breaks no rule is answered, and else refused.
use Rattle.std.proofs.Common.{refl, sym, ◌∙◌}
use Rattle.engine_calls.proofs.ReplyLaws.{fault_refused, requests_answered}
use Rattle.engine_calls.specs.Asks.{engine_of, groups_of}
use Rattle.engine_calls.specs.declared.call.Call.TheVariants as calls
use Rattle.point_to_point.specs.Completions.{waited}
use Rattle.point_to_point_calls.specs.CoreCalls as core_calls
use Rattle.engine_calls.proofs.waits.waitany.Goals as goal

pub returns-in-None-clause-exact : goal.returns-in-None-clause-exact
returns-in-None-clause-exact c =
    requests_answered c.args.core.now.state c.wait.new.self.state (groups_of c.args.communicators.now)
    (core_calls.Waitany c.args.list) (waited c.wait.result) c.reply_of_wait.result tt
    (λ rest s. sym (c.fault_of_list.ensures.any rest s) ∙ c.in-None.is) c.wait.ensures.exact c.reply_of_wait.ensures

pub returns-in-Some-clause-exact : goal.returns-in-Some-clause-exact
returns-in-Some-clause-exact c = λ rest s.
    fault_refused (engine_of c.args.core.now.state (groups_of c.args.communicators.now) rest s) (calls.Waitany c.args.list)
    c.in-Some.refused (calls.Waitany c.args.list) (sym (c.fault_of_list.ensures.any rest s) ∙ c.in-Some.is) refl
