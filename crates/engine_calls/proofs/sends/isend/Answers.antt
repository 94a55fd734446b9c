-- A send that was judged is started, or comes back.
use Rattle.std.proofs.Common.{ap}
use Rattle.engine_calls.proofs.ReplyLaws.{fault_refused}
use Rattle.engine_calls.proofs.Judged.{blank, send_back, send_of}
use Rattle.engine_calls.specs.Asks.{engine_of, groups_of}
use Rattle.engine_calls.specs.declared.call.Call.TheVariants as calls
use Rattle.point_to_point_calls.specs.declared.call.Send.{Send}
use Rattle.engine_calls.proofs.sends.isend.Goals as goal

pub start_send-requires-clause-addressed : goal.start_send-requires-clause-addressed
start_send-requires-clause-addressed c =
    (send_of (engine_of c.args.core.now.state (groups_of c.args.communicators.now) blank c.args.sessions.now) c.args.send
    c.judge_send.result c.in-Ok.addressed c.in-Ok.is (c.judge_send.ensures blank)).1

pub start_send-requires-clause-clear : goal.start_send-requires-clause-clear
start_send-requires-clause-clear c =
    (send_of (engine_of c.args.core.now.state (groups_of c.args.communicators.now) blank c.args.sessions.now) c.args.send
    c.judge_send.result c.in-Ok.addressed c.in-Ok.is (c.judge_send.ensures blank)).0.clear

pub returns-in-Ok-clause-exact : goal.returns-in-Ok-clause-exact
returns-in-Ok-clause-exact c = λ rest.
    c.start_send.ensures.exact (groups_of c.args.communicators.now) rest (calls.Isend c.args.send)
    (send_of (engine_of c.args.core.now.state (groups_of c.args.communicators.now) rest c.args.sessions.now) c.args.send
    c.judge_send.result c.in-Ok.addressed c.in-Ok.is (c.judge_send.ensures rest)).0

pub returns-in-Err-clause-exact : goal.returns-in-Err-clause-exact
returns-in-Err-clause-exact c = λ rest.
    let e = (engine_of c.args.core.now.state (groups_of c.args.communicators.now) rest c.args.sessions.now) in
    let back = send_back e c.args.send c.judge_send.result c.in-Err.handed c.in-Err.is (c.judge_send.ensures rest) in
    fault_refused e (calls.Isend c.args.send) c.in-Err.handed.refused (calls.Isend c.in-Err.handed.value) back.0
    (ap (λ (v : Send). calls.Isend v) back.1)
