-- While no earlier call is blocked, its own rule is the fault of a call on requests.
use Rattle.std.proofs.Common.{sym, ◌∙◌}
use Rattle.engine_calls.proofs.Asks.{busy_is, free_is, none_blocked}
use Rattle.engine_calls.specs.Asks.{engine_of, groups_of}
use Rattle.engine_calls.specs.declared.call.Call.TheVariants as calls
use Rattle.engine_calls.proofs.waits.fault_of_list.Goals as goal

pub returns-then-is_busy-clause-any : goal.returns-then-is_busy-clause-any
returns-then-is_busy-clause-any c = λ rest s.
    sym (busy_is (engine_of c.args.core.now.state (groups_of c.args.communicators.now) rest s) (calls.Waitany c.args.list.now)
    (sym c.is_busy.ensures ∙ c.if-is_busy.true))

pub returns-clause-any : goal.returns-clause-any
returns-clause-any c = λ rest s.
    c.fault_of_list.ensures ∙
    sym (free_is (engine_of c.args.core.now.state (groups_of c.args.communicators.now) rest s) (calls.Waitany c.args.list.now)
    (sym c.is_busy.ensures ∙ c.if-is_busy.false))

pub returns-then-is_busy-clause-all : goal.returns-then-is_busy-clause-all
returns-then-is_busy-clause-all c = λ rest s.
    sym (busy_is (engine_of c.args.core.now.state (groups_of c.args.communicators.now) rest s) (calls.Waitall c.args.list.now)
    (sym c.is_busy.ensures ∙ c.if-is_busy.true))

pub returns-clause-all : goal.returns-clause-all
returns-clause-all c = λ rest s.
    c.fault_of_list.ensures ∙
    sym (free_is (engine_of c.args.core.now.state (groups_of c.args.communicators.now) rest s) (calls.Waitall c.args.list.now)
    (sym c.is_busy.ensures ∙ c.if-is_busy.false))

pub returns-clause-free : goal.returns-clause-free
returns-clause-free c = λ none. none_blocked _ _ (sym c.is_busy.ensures ∙ c.if-is_busy.false)
