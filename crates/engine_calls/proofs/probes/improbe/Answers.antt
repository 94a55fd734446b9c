-- A matching probe that was judged is answered, or refused.
use Rattle.std.proofs.Common.{refl}
use Rattle.engine_calls.proofs.ReplyLaws.{fault_refused}
use Rattle.engine_calls.proofs.Judged.{blank, search_back, search_of, search_shares, search_unlimited}
use Rattle.engine_calls.specs.Asks.{engine_of, groups_of}
use Rattle.engine_calls.specs.declared.call.Call.TheVariants as calls
use Rattle.engine_calls.proofs.probes.improbe.Goals as goal

pub take_out-requires-clause-group : goal.take_out-requires-clause-group
take_out-requires-clause-group c =
    let e = engine_of c.args.core.now.state (groups_of c.args.communicators.now) blank c.args.sessions.now in
    search_shares e c.args.probe c.in-Ok.judged
    (search_of e c.args.probe c.judge_search.result c.in-Ok.judged c.in-Ok.is (c.judge_search.ensures.judged blank))

pub take_out-requires-clause-limit : goal.take_out-requires-clause-limit
take_out-requires-clause-limit c =
    let e = engine_of c.args.core.now.state (groups_of c.args.communicators.now) blank c.args.sessions.now in
    search_unlimited e c.args.probe c.in-Ok.judged
    (search_of e c.args.probe c.judge_search.result c.in-Ok.judged c.in-Ok.is (c.judge_search.ensures.judged blank)).0

pub returns-in-Ok-clause-exact : goal.returns-in-Ok-clause-exact
returns-in-Ok-clause-exact c = λ rest.
    let e = engine_of c.args.core.now.state (groups_of c.args.communicators.now) rest c.args.sessions.now in
    let judged = search_of e c.args.probe c.judge_search.result c.in-Ok.judged c.in-Ok.is
    (c.judge_search.ensures.judged rest) in
    c.take_out.ensures.exact (groups_of c.args.communicators.now) rest c.args.sessions.now (calls.Improbe c.args.probe)
    judged.1 judged.0

pub returns-in-Err-clause-exact : goal.returns-in-Err-clause-exact
returns-in-Err-clause-exact c = λ rest.
    let e = engine_of c.args.core.now.state (groups_of c.args.communicators.now) rest c.args.sessions.now in
    fault_refused e (calls.Improbe c.args.probe) c.in-Err.refused (calls.Improbe c.args.probe)
    (search_back e c.args.probe c.judge_search.result c.in-Err.refused c.in-Err.is (c.judge_search.ensures.judged rest))
    refl
