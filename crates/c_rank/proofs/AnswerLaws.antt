-- What is told of a reply is an answer.
use Rattle.std.proofs.Common.{◌≡◌, sym, ap, subst, ◌∙◌, inl, inr, Option}
use Rattle.vocabulary.specs.declared.basic_type.BasicType.{BasicType}
use Rattle.engine.specs.Looks.{type_probed}
use Rattle.engine_calls.specs.Calls.{CallGives}
use Rattle.engine_calls.specs.EngineState.{EngineState}
use Rattle.engine_calls.specs.declared.call.Call.{Call}
use Rattle.engine_calls.specs.declared.call.Call.TheVariants as calls
use Rattle.engine_calls.specs.declared.reply.Reply.{Reply}
use Rattle.point_to_point_calls.specs.declared.call.Probe.{Probe}
use Rattle.c_rank.specs.Answers.{told_by}
use Rattle.c_rank.specs.Calls.{AnswersMeant, TellsReply, received_behind, type_out}
use Rattle.c_rank.specs.State.{RankState}
use Rattle.c_rank.specs.declared.meaning.Meant.TheVariants as meant
use Rattle.c_rank.specs.declared.records.AnswerRecord.{AnswerRecord}

-- what is told behind a call is told of the rank before it, whose data were the same
tells_over : (old mid new : RankState) (reply : Reply) (basic : Option BasicType) (a : AnswerRecord) →
    mid.received ≡ old.received → TellsReply mid reply basic a new → TellsReply old reply basic a new
tells_over old mid new reply basic a same (inl t) =
    inl (t.0, t.1 ∙ ap (received_behind (told_by reply basic).received) same)
tells_over old mid new reply basic a same (inr t) = inr (t.0, t.1, t.2 ∙ same)

-- a call was answered, and its reply told
pub answers_call : (old mid new : RankState) (call : Call) (reply : Reply) (basic : Option BasicType) (a : AnswerRecord) →
    CallGives old.engine call reply mid.engine → mid.received ≡ old.received → new.engine ≡ mid.engine →
    basic ≡ type_out mid.engine reply → TellsReply mid reply basic a new → AnswersMeant (meant.Call call) old a new
answers_call old mid new call reply basic a gives same engine is tells =
    let typed : basic ≡ type_out new.engine reply = is ∙ ap (λ (e : EngineState). type_out e reply) (sym engine) in (
      reply,
      (
        subst (λ (e : EngineState). CallGives old.engine call reply e) (sym engine) gives,
        tells_over old mid new reply (type_out new.engine reply) a same
            (subst (λ (b : Option BasicType). TellsReply mid reply b a new) typed tells),
      ),
    )

-- a probe was
pub answers_probe : (old mid new : RankState) (probe : Probe) (reply : Reply) (basic : Option BasicType)
    (a : AnswerRecord) →
    CallGives old.engine (calls.Iprobe probe) reply mid.engine → mid.received ≡ old.received →
    new.engine ≡ mid.engine → basic ≡ type_probed mid.engine probe → TellsReply mid reply basic a new →
    AnswersMeant (meant.Probe probe) old a new
answers_probe old mid new probe reply basic a gives same engine is tells =
    let typed : basic ≡ type_probed new.engine probe = is ∙ ap (λ (e : EngineState). type_probed e probe) (sym engine) in (
      reply,
      (
        subst (λ (e : EngineState). CallGives old.engine (calls.Iprobe probe) reply e) (sym engine) gives,
        tells_over old mid new reply (type_probed new.engine probe) a same
            (subst (λ (b : Option BasicType). TellsReply mid reply b a new) typed tells),
      ),
    )
