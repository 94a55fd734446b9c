-- While no earlier call is blocked, its own rule is the fault of a call on requests.
use Rattle.std.proofs.Common.{sym, ◌∙◌}
use Rattle.engine_calls.proofs.Asks.{busy_is, free_is}
use Rattle.engine_calls.specs.Asks.{engine_of, groups_of}
use Rattle.engine_calls.specs.declared.call.Call.TheVariants as calls
use Rattle.engine_calls.proofs.waits.fault_of_cancel.Goals as goal

pub returns-then-is_busy : goal.returns-then-is_busy
returns-then-is_busy c = λ rest s.
    sym (busy_is (engine_of c.args.core.now.state (groups_of c.args.communicators.now) rest s) (calls.Cancel c.args.request)
    (sym c.is_busy.ensures ∙ c.if-is_busy.true))

pub returns : goal.returns
returns c = λ rest s.
    c.fault_of_cancel.ensures ∙
    sym (free_is (engine_of c.args.core.now.state (groups_of c.args.communicators.now) rest s) (calls.Cancel c.args.request)
    (sym c.is_busy.ensures ∙ c.if-is_busy.false))
