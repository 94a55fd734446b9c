-- A receive that was judged is started, or comes back.
use Rattle.std.proofs.Common.{ap}
use Rattle.engine_calls.proofs.ReplyLaws.{fault_refused}
use Rattle.engine_calls.proofs.Judged.{blank, receive_back, receive_of, receive_shares}
use Rattle.engine_calls.specs.Asks.{engine_of, groups_of}
use Rattle.engine_calls.specs.declared.call.Call.TheVariants as calls
use Rattle.point_to_point_calls.specs.declared.call.Receive.{Receive}
use Rattle.engine_calls.proofs.receives.irecv.Goals as goal

pub start_receive-requires-clause-group : goal.start_receive-requires-clause-group
start_receive-requires-clause-group c =
    receive_shares (engine_of c.args.core.now.state (groups_of c.args.communicators.now) blank c.args.sessions.now) c.args.receive c.in-Ok.judged
    (receive_of (engine_of c.args.core.now.state (groups_of c.args.communicators.now) blank c.args.sessions.now) c.args.receive
    c.judge_receive.result c.in-Ok.judged c.in-Ok.is (c.judge_receive.ensures.judged blank))

pub start_receive-requires-clause-clear : goal.start_receive-requires-clause-clear
start_receive-requires-clause-clear c =
    (receive_of (engine_of c.args.core.now.state (groups_of c.args.communicators.now) blank c.args.sessions.now) c.args.receive
    c.judge_receive.result c.in-Ok.judged c.in-Ok.is (c.judge_receive.ensures.judged blank)).0.clear

pub returns-in-Ok-clause-exact : goal.returns-in-Ok-clause-exact
returns-in-Ok-clause-exact c = λ rest.
    let judged = receive_of (engine_of c.args.core.now.state (groups_of c.args.communicators.now) rest c.args.sessions.now) c.args.receive
    c.judge_receive.result c.in-Ok.judged c.in-Ok.is (c.judge_receive.ensures.judged rest) in
    c.start_receive.ensures.exact (groups_of c.args.communicators.now) rest (calls.Irecv c.args.receive) judged.1 judged.0

pub returns-in-Err-clause-exact : goal.returns-in-Err-clause-exact
returns-in-Err-clause-exact c = λ rest.
    let e = (engine_of c.args.core.now.state (groups_of c.args.communicators.now) rest c.args.sessions.now) in
    let back = receive_back e c.args.receive c.judge_receive.result c.in-Err.handed c.in-Err.is
    (c.judge_receive.ensures.judged rest) in
    fault_refused e (calls.Irecv c.args.receive) c.in-Err.handed.refused (calls.Irecv c.in-Err.handed.value) back.0
    (ap (λ (v : Receive). calls.Irecv v) back.1)
