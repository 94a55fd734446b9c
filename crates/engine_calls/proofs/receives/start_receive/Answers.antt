-- A receive is started, or comes back for want of memory.
use Rattle.engine_calls.proofs.ReplyLaws.{lacking, receive_started}
use Rattle.std.proofs.Common.{refl, sym, ◌∙◌}
use Rattle.point_to_point_calls.specs.CoreCalls as core_calls
use Rattle.engine_calls.proofs.receives.start_receive.Goals as goal

pub returns-in-Ok-make_way-clause-exact : goal.returns-in-Ok-make_way-clause-exact
returns-in-Ok-make_way-clause-exact c = λ g rest call same asked.
    receive_started c.args.core.now.state c.make_way.new.core.state c.receive.new.self.state c.args.sessions.now
    c.make_way.new.sessions c.args.judged.sought.routed c.in-Ok.group c.receive.result c.make_way.ensures.kept
    c.receive.ensures.exact c.in-Ok-make_way.ensures.sent g rest call (same ∙ sym c.in-Ok.ensures.ok) asked

pub returns-in-Err-clause-exact : goal.returns-in-Err-clause-exact
returns-in-Err-clause-exact c = λ g rest call same asked.
    lacking c.args.core.now.state c.make_way.new.core.state c.args.sessions.now c.make_way.new.sessions
    (core_calls.Irecv c.args.judged.sought.routed) c.in-Err.refused _ c.make_way.ensures.kept
    c.in-Err.ensures.unchanged c.in-Err.ensures.err tt refl g rest call asked
