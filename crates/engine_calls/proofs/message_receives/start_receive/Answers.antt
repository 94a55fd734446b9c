-- The receive of a message is answered, or comes back for want of memory.
use Rattle.std.proofs.Common.{refl}
use Rattle.engine_calls.proofs.ReplyLaws.{lacking, message_received}
use Rattle.point_to_point.specs.Completions.{waited}
use Rattle.point_to_point_calls.specs.CoreCalls as core_calls
use Rattle.engine_calls.proofs.message_receives.start_receive.Goals as goal

pub returns-in-Ok-clause-exact : goal.returns-in-Ok-clause-exact
returns-in-Ok-clause-exact c = λ g rest call asked.
    message_received c.args.core.now.state c.make_way.new.core.state c.receive_message.new.self.state
    c.args.sessions.now c.make_way.new.sessions c.args.receive.message c.args.receive.into
    (waited c.receive_message.result) c.reply_of_wait.result c.make_way.ensures.kept c.receive_message.ensures.exact
    c.reply_of_wait.ensures c.in-Ok.ensures.sent g rest call asked

pub returns-in-Err-clause-exact : goal.returns-in-Err-clause-exact
returns-in-Err-clause-exact c = λ g rest call asked.
    lacking c.args.core.now.state c.make_way.new.core.state c.args.sessions.now c.make_way.new.sessions
    (core_calls.Mrecv c.args.receive.message c.args.receive.into) c.in-Err.refused _ c.make_way.ensures.kept
    c.in-Err.ensures.unchanged c.in-Err.ensures.err tt refl g rest call asked
