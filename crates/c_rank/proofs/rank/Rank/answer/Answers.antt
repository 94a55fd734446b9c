use Rattle.std.proofs.Common.{refl, ◌≡◌, ap, subst}
use Rattle.engine_calls.specs.Calls.{CallGives}
use Rattle.engine_calls.specs.EngineState.{EngineState}
use Rattle.c_rank.proofs.AnswerLaws.{answers_call}
use Rattle.c_rank.specs.Calls.{type_out}
use Rattle.c_rank.specs.State.{RankState}
use Rattle.c_rank.proofs.rank.Rank.answer.Goals as goal

pub returns-clause-answers : goal.returns-clause-answers
returns-clause-answers c =
    let old = c.args.self.now in
    let mid : RankState = record old { engine = c.call-reply.new.self; received = c.self.inside.received } in
    let reply = c.call-reply.result in
    let engine : c.self.inside.engine ≡ old.engine = ap (λ (r : RankState). r.engine) c.self.view_is in
    let received : c.self.inside.received ≡ old.received = ap (λ (r : RankState). r.received) c.self.view_is in
    let gives : CallGives old.engine c.args.call reply mid.engine =
    subst (λ (e : EngineState). CallGives e c.args.call reply mid.engine) engine c.call-reply.ensures.exact in
    answers_call old mid c.tell_plain.new.self c.args.call reply (type_out mid.engine reply) c.tell_plain.result gives
    received c.tell_plain.ensures.engine refl c.tell_plain.ensures.tells
