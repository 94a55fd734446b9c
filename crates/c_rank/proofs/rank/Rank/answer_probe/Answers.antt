use Rattle.std.proofs.Common.{◌≡◌, ap, subst}
use Rattle.engine_calls.specs.Calls.{CallGives}
use Rattle.engine_calls.specs.EngineState.{EngineState}
use Rattle.engine_calls.specs.declared.call.Call.TheVariants as calls
use Rattle.c_rank.proofs.AnswerLaws.{answers_probe}
use Rattle.c_rank.specs.State.{RankState}
use Rattle.c_rank.proofs.rank.Rank.answer_probe.Goals as goal

pub returns-clause-answers : goal.returns-clause-answers
returns-clause-answers c =
    let old = c.args.self.now in
    let mid : RankState = record old { engine = c.call-reply.new.self; received = c.self.inside.received } in
    let reply = c.call-reply.result in
    let engine : c.self.inside.engine ≡ old.engine = ap (λ (r : RankState). r.engine) c.self.view_is in
    let received : c.self.inside.received ≡ old.received = ap (λ (r : RankState). r.received) c.self.view_is in
    let gives : CallGives old.engine (calls.Iprobe c.args.probe) reply mid.engine =
    subst (λ (e : EngineState). CallGives e (calls.Iprobe c.args.probe) reply mid.engine) engine c.call-reply.ensures.exact in
    answers_probe old mid c.tell_reply.new.self c.args.probe reply c.type_found-basic.result c.tell_reply.result gives
    received c.tell_reply.ensures.engine c.type_found-basic.ensures c.tell_reply.ensures.tells
