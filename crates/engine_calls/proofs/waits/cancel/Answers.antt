-- A cancel that breaks no rule is taken, and else refused.
use Rattle.std.proofs.Common.{refl, sym, ◌∙◌}
use Rattle.engine_calls.proofs.ReplyLaws.{fault_refused, requests_answered}
use Rattle.engine_calls.specs.Asks.{engine_of, groups_of}
use Rattle.engine_calls.specs.declared.call.Call.TheVariants as calls
use Rattle.engine_calls.specs.declared.reply.Reply.TheVariants as replies
use Rattle.point_to_point_calls.specs.CoreCalls as core_calls
use Rattle.engine_calls.proofs.waits.cancel.Goals as goal

pub returns-in-None-clause-exact : goal.returns-in-None-clause-exact
returns-in-None-clause-exact c =
    requests_answered c.args.core.now.state c.cancel.new.self.state (groups_of c.args.communicators.now)
    (core_calls.Cancel c.args.request) core_calls.Accepted replies.Accepted tt
    (λ rest s. sym (c.fault_of_cancel.ensures rest s) ∙ c.in-None.is) (refl, c.cancel.ensures.exact) refl

pub returns-in-Some-clause-exact : goal.returns-in-Some-clause-exact
returns-in-Some-clause-exact c = λ rest s.
    fault_refused (engine_of c.args.core.now.state (groups_of c.args.communicators.now) rest s) (calls.Cancel c.args.request)
    c.in-Some.refused (calls.Cancel c.args.request) (sym (c.fault_of_cancel.ensures rest s) ∙ c.in-Some.is) refl
