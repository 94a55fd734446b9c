-- A send is started, or comes back for want of memory.
use Rattle.engine_calls.proofs.ReplyLaws.{lacking, send_started}
use Rattle.std.proofs.Common.{refl}
use Rattle.point_to_point_calls.specs.CoreCalls as core_calls
use Rattle.engine_calls.proofs.sends.start_send.Goals as goal

pub returns-in-Ok-clause-exact : goal.returns-in-Ok-clause-exact
returns-in-Ok-clause-exact c = λ g rest call asked.
    send_started c.args.core.now.state c.make_way.new.core.state c.send.new.self.state c.args.sessions.now
    c.make_way.new.sessions c.args.send.routed c.send.result c.make_way.ensures.kept c.send.ensures.exact
    c.in-Ok.ensures.sent g rest call asked

pub returns-in-Err-clause-exact : goal.returns-in-Err-clause-exact
returns-in-Err-clause-exact c = λ g rest call asked.
    lacking c.args.core.now.state c.make_way.new.core.state c.args.sessions.now c.make_way.new.sessions
    (core_calls.Isend c.args.send.routed) c.in-Err.refused _ c.make_way.ensures.kept c.in-Err.ensures.unchanged
    c.in-Err.ensures.err tt refl g rest call asked
