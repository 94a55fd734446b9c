-- While no earlier call is blocked, its own rule is the fault of a call on requests.
use Rattle.std.proofs.Common.{sym, ◌∙◌}
use Rattle.engine_calls.proofs.Asks.{busy_is, free_is, none_blocked}
use Rattle.engine_calls.specs.Asks.{engine_of, groups_of}
use Rattle.engine_calls.specs.declared.call.Call.TheVariants as calls
use Rattle.engine_calls.proofs.waits.fault_of_wait.Goals as goal

pub returns-then-is_busy-clause-wait : goal.returns-then-is_busy-clause-wait
returns-then-is_busy-clause-wait c = λ rest s.
    sym (busy_is (engine_of c.args.core.now.state (groups_of c.args.communicators.now) rest s) (calls.Wait c.args.request)
    (sym c.is_busy.ensures ∙ c.if-is_busy.true))

pub returns-clause-wait : goal.returns-clause-wait
returns-clause-wait c = λ rest s.
    c.fault_of_wait.ensures ∙
    sym (free_is (engine_of c.args.core.now.state (groups_of c.args.communicators.now) rest s) (calls.Wait c.args.request)
    (sym c.is_busy.ensures ∙ c.if-is_busy.false))

pub returns-then-is_busy-clause-test : goal.returns-then-is_busy-clause-test
returns-then-is_busy-clause-test c = λ rest s.
    sym (busy_is (engine_of c.args.core.now.state (groups_of c.args.communicators.now) rest s) (calls.Test c.args.request)
    (sym c.is_busy.ensures ∙ c.if-is_busy.true))

pub returns-clause-test : goal.returns-clause-test
returns-clause-test c = λ rest s.
    c.fault_of_wait.ensures ∙
    sym (free_is (engine_of c.args.core.now.state (groups_of c.args.communicators.now) rest s) (calls.Test c.args.request)
    (sym c.is_busy.ensures ∙ c.if-is_busy.false))

pub returns-clause-free : goal.returns-clause-free
returns-clause-free c = λ none. none_blocked _ _ (sym c.is_busy.ensures ∙ c.if-is_busy.false)
