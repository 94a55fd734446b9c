-- The receive of a message that was judged is answered, or comes back.
use Rattle.std.proofs.Common.{ap}
use Rattle.engine_calls.proofs.ReplyLaws.{fault_refused}
use Rattle.engine_calls.proofs.Judged.{blank, message_back, message_of}
use Rattle.engine_calls.specs.Asks.{engine_of, groups_of}
use Rattle.engine_calls.specs.declared.call.Call.TheVariants as calls
use Rattle.requests.specs.declared.region.Region.{Region}
use Rattle.engine_calls.proofs.message_receives.mrecv.Goals as goal

pub start_receive-requires-clause-clear : goal.start_receive-requires-clause-clear
start_receive-requires-clause-clear c =
    (message_of (engine_of c.args.core.now.state (groups_of c.args.communicators.now) blank c.args.sessions.now) c.args.message c.args.into
    c.judge_message.result c.in-Ok.receive c.in-Ok.is (c.judge_message.ensures.judged blank)).clear

pub returns-in-Ok-clause-exact : goal.returns-in-Ok-clause-exact
returns-in-Ok-clause-exact c = λ rest.
    c.start_receive.ensures.exact (groups_of c.args.communicators.now) rest (calls.Mrecv c.args.message c.args.into)
    (message_of (engine_of c.args.core.now.state (groups_of c.args.communicators.now) rest c.args.sessions.now) c.args.message c.args.into
    c.judge_message.result c.in-Ok.receive c.in-Ok.is (c.judge_message.ensures.judged rest))

pub returns-in-Err-clause-exact : goal.returns-in-Err-clause-exact
returns-in-Err-clause-exact c = λ rest.
    let e = (engine_of c.args.core.now.state (groups_of c.args.communicators.now) rest c.args.sessions.now) in
    let back = message_back e c.args.message c.args.into c.judge_message.result c.in-Err.handed c.in-Err.is
    (c.judge_message.ensures.judged rest) in
    fault_refused e (calls.Mrecv c.args.message c.args.into) c.in-Err.handed.refused
    (calls.Mrecv c.args.message c.in-Err.handed.value) back.0
    (ap (λ (r : Region). calls.Mrecv c.args.message r) back.1)
