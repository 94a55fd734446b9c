-- A call that is taken has a reply, and what its runner is told is a copy of that.
use Rattle.std.proofs.Common.{◌≡◌, ◌∷◌, [], List, Option, Some, None, option_and_then, refl, sym, ap, ◌∙◌, subst}
use Rattle.std.proofs.lemmas.Option.{none-some}
use Rattle.engine_calls.specs.Calls.{IsTaken, fact_said}
use Rattle.engine_calls.specs.EngineState.{EngineState}
use Rattle.engine_calls.specs.declared.call.Call.{Call}
use Rattle.engine_calls.specs.declared.reply.Fact.{Fact}
use Rattle.engine_calls.specs.declared.reply.Fact.TheVariants as facts
use Rattle.engine_calls.specs.declared.reply.Reply.{Reply}
use Rattle.engine_calls.specs.declared.reply.Reply.TheVariants as replies
use Rattle.perfect_groups.specs.Calls as machine
use Rattle.perfect_groups.specs.Events.{Called}
use Rattle.observation.specs.EngineCalls.{call_seen, told_call}
use Rattle.observation.specs.Requests.{request_given}
use Rattle.requests.specs.declared.table.Request.{Request}
use Rattle.replies.specs.Copies.{IsCopyOf, IsCopyOfFact}
use Rattle.script_players.specs.Players.{AreAlike}
use Rattle.vocabulary.specs.declared.endpoint.Endpoint.{Endpoint}
use Rattle.world.specs.Steps.{TakesCall}

-- a copy says the same, and gives the same request
record SaysAs (reply copy : Reply) : Type 0 where
  pub taken : IsTaken reply → IsTaken copy
  pub seen : (e : Endpoint) (call : Call) → told_call e call (Some reply) ≡ told_call e call (Some copy)
  pub given : request_given copy ≡ request_given reply

itself : (reply copy : Reply) → copy ≡ reply → SaysAs reply copy
itself reply copy e = subst (SaysAs reply) (sym e) (record { taken = λ k. k; seen = λ x call. refl; given = refl })

fact_same : (f g : Fact) → IsCopyOfFact f g → fact_said f ≡ fact_said g
fact_same (facts.Number n) g h = ap fact_said (sym h)
fact_same (facts.Compares x) g h = ap fact_said (sym h)
fact_same (facts.Ranks a) (facts.Ranks b) h = ap machine.Ranks (sym h)
fact_same (facts.Ranks a) (facts.Number n) h = ap fact_said (sym h)
fact_same (facts.Ranks a) (facts.Compares x) h = ap fact_said (sym h)

fact_as : (f : Fact) (copy : Reply) → IsCopyOf (replies.Fact f) copy → SaysAs (replies.Fact f) copy
fact_as f (replies.Fact g) h =
    record {
      taken = λ k. tt;
      seen =
          λ e call. ap (λ (x : machine.Fact). Called e (call_seen call) (machine.OfFact x) ∷ []) (fact_same f g h);
      given =
          refl;
    }
fact_as f (replies.Started q) h = itself (replies.Fact f) (replies.Started q) h
fact_as f (replies.Done a) h = itself (replies.Fact f) (replies.Done a) h
fact_as f replies.Pending h = itself (replies.Fact f) replies.Pending h
fact_as f replies.Accepted h = itself (replies.Fact f) replies.Accepted h
fact_as f replies.Blocked h = itself (replies.Fact f) replies.Blocked h
fact_as f (replies.Left a) h = itself (replies.Fact f) (replies.Left a) h
fact_as f (replies.Probed found) h = itself (replies.Fact f) (replies.Probed found) h
fact_as f (replies.Matched found) h = itself (replies.Fact f) (replies.Matched found) h
fact_as f (replies.Refused why back) h = itself (replies.Fact f) (replies.Refused why back) h

says_as : (reply copy : Reply) → IsCopyOf reply copy → SaysAs reply copy
says_as (replies.Fact f) copy h = fact_as f copy h
says_as (replies.Started q) copy h = itself (replies.Started q) copy h
says_as (replies.Done a) copy h = itself (replies.Done a) copy h
says_as replies.Pending copy h = itself replies.Pending copy h
says_as replies.Accepted copy h = itself replies.Accepted copy h
says_as replies.Blocked copy h = itself replies.Blocked copy h
says_as (replies.Left a) copy h = itself (replies.Left a) copy h
says_as (replies.Probed found) copy h = itself (replies.Probed found) copy h
says_as (replies.Matched found) copy h = itself (replies.Matched found) copy h
says_as (replies.Refused why back) copy h = itself (replies.Refused why back) copy h

-- what the runner of a call that is taken is told
pub record Replies (gave told : Option Reply) : Type 0 where
  pub reply : Reply
  pub replied : told ≡ Some reply
  pub taken : IsTaken reply
  pub seen : (e : Endpoint) (call : Call) → told_call e call gave ≡ told_call e call (Some reply)
  pub given : (q : Request) → request_given reply ≡ Some q → option_and_then request_given gave ≡ Some q

pub replies_to : (old new : EngineState) (call : Call) (gave told : Option Reply) → TakesCall old call gave new →
    AreAlike gave told → Replies gave told
replies_to old new call None told g alike = absurd g
replies_to old new call (Some reply) None g alike = absurd (none-some reply alike)
replies_to old new call (Some reply) (Some copy) g alike =
    let s : SaysAs reply copy = says_as reply copy alike in
    record { reply = copy; replied = refl; taken = s.taken g.0; seen = s.seen; given = λ q is. sym s.given ∙ is }
