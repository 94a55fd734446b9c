-- A wait for all that breaks no rule is answered, and else refused.
use Rattle.std.proofs.Common.{refl, sym, ◌∙◌}
use Rattle.engine_calls.proofs.ReplyLaws.{fault_refused}
use Rattle.engine_calls.specs.Asks.{engine_of, groups_of}
use Rattle.engine_calls.specs.declared.call.Call.TheVariants as calls
use Rattle.engine_calls.proofs.waits.waitall.Goals as goal

pub returns-in-None-clause-exact : goal.returns-in-None-clause-exact
returns-in-None-clause-exact c =
    c.wait_for_all.ensures.exact (groups_of c.args.communicators.now)
    (λ rest s. sym (c.fault_of_list.ensures.all rest s) ∙ c.in-None.is)

pub returns-in-Some-clause-exact : goal.returns-in-Some-clause-exact
returns-in-Some-clause-exact c = λ rest s.
    fault_refused (engine_of c.args.core.now.state (groups_of c.args.communicators.now) rest s) (calls.Waitall c.args.list)
    c.in-Some.refused (calls.Waitall c.args.list) (sym (c.fault_of_list.ensures.all rest s) ∙ c.in-Some.is) refl
