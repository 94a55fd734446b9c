-- A world of engines follows the pure network through every call that is taken: what is said of each kind of calls, put
-- together.
use Rattle.std.proofs.Common.{◌≡◌, ℕ, List, ◌++◌, Option, Some, subst, sym}
use Rattle.std.specs.Prelude.{slice_get}
use Rattle.collective_messages.specs.declared.entry.Entry as collectives
use Rattle.communicators.specs.declared.question.Question.{Question}
use Rattle.engine_calls.specs.Calls.{AskingGives, CallGives, CoreGives, IsAnswered, IsEntered, IsLooked, IsTaken}
use Rattle.engine_calls.specs.Calls.{IsTold, LookingGives}
use Rattle.engine_calls.specs.EngineState.{EngineState, completion_of}
use Rattle.engine_calls.specs.declared.call.Call.{Call}
use Rattle.engine_calls.specs.declared.call.Call.TheVariants as calls
use Rattle.point_to_point_calls.specs.declared.call.Probe.{Probe}
use Rattle.engine_calls.specs.declared.reply.Fact.{Fact}
use Rattle.engine_calls.specs.declared.reply.Reply.{Reply}
use Rattle.engine_calls.specs.declared.reply.Reply.TheVariants as replies
use Rattle.perfect_groups.specs.Events.{Entry}
use Rattle.proof_group_network.specs.Network.{Happening}
use Rattle.proof_network_bridge.proofs.RankEvents.{followed}
use Rattle.proof_network_bridge.proofs.Reasons.{IsAnsweredWith, IsLookedWith, answered, asked, entered, looked}
use Rattle.proof_network_bridge.specs.GoingOn.{CallsFollowOn, LeavesFollowedOn}
use Rattle.proof_network_bridge.specs.WorldViews.{IsFollowed}
use Rattle.observation.specs.EngineCalls.{told_call, told_completion}
use Rattle.vocabulary.specs.declared.envelope.Status.{Status}
use Rattle.vocabulary.specs.declared.message_limit.MessageLimit.{MessageLimit}

-- what a call leaves that was answered so
abbrev pub LeavesCalled : (n : ℕ) (limit : MessageLimit) → (before : List Happening) → List EngineState →
    List (ℕ × List ℕ) →
    (r : ℕ) → List Entry → (old mid : EngineState) → Call → Reply → Type 0
LeavesCalled n limit before engines datagrams r history old mid call reply =
    LeavesFollowedOn n limit before engines datagrams r mid
    (history ++
    (told_call old.sessions.place.endpoint call (Some reply) ++
    told_completion old.sessions.place.endpoint (completion_of mid)))

-- a call of point to point, or on requests
abbrev pub CoreCallsFollow : Type 0
CoreCallsFollow =
    (n r : ℕ) (engines : List EngineState) (datagrams : List (ℕ × List ℕ)) (history : List Entry)
    (old mid : EngineState) (call : Call) (reply : Reply) →
    (f : IsFollowed n engines datagrams history) → slice_get engines r ≡ Some old → IsTaken reply →
    CallGives old call reply mid → IsAnswered old call reply mid →
    LeavesCalled n f.limit f.happenings engines datagrams r history old mid call reply

-- the entry of a collective
abbrev pub EntriesFollow : Type 0
EntriesFollow =
    (n r : ℕ) (engines : List EngineState) (datagrams : List (ℕ × List ℕ)) (history : List Entry)
    (old mid : EngineState) (comm : Option ℕ) (x : collectives.Entry) (reply : Reply) →
    (f : IsFollowed n engines datagrams history) → slice_get engines r ≡ Some old → IsEntered old comm x reply mid →
    LeavesCalled n f.limit f.happenings engines datagrams r history old mid (calls.Enter comm x) reply

-- a question
abbrev pub QuestionsFollow : Type 0
QuestionsFollow =
    (n r : ℕ) (engines : List EngineState) (datagrams : List (ℕ × List ℕ)) (history : List Entry)
    (old mid : EngineState) (comm : Option ℕ) (q : Question) (fact : Fact) →
    (f : IsFollowed n engines datagrams history) → slice_get engines r ≡ Some old → IsTold old comm q fact mid →
    LeavesCalled n f.limit f.happenings engines datagrams r history old mid (calls.Ask comm q) (replies.Fact fact)

-- a probe that takes nothing out
abbrev pub LooksFollow : Type 0
LooksFollow =
    (n r : ℕ) (engines : List EngineState) (datagrams : List (ℕ × List ℕ)) (history : List Entry)
    (old mid : EngineState) (p : Probe) (found : Option Status) →
    (f : IsFollowed n engines datagrams history) → slice_get engines r ≡ Some old → IsLooked old p found mid →
    LeavesCalled n f.limit f.happenings engines datagrams r history old mid (calls.Iprobe p) (replies.Probed found)

-- a question that is taken is answered with a fact
told : QuestionsFollow →
    (n r : ℕ) (engines : List EngineState) (datagrams : List (ℕ × List ℕ)) (history : List Entry)
    (old mid : EngineState) (comm : Option ℕ) (q : Question) (reply : Reply) →
    (f : IsFollowed n engines datagrams history) → slice_get engines r ≡ Some old → IsTaken reply →
    AskingGives old comm q reply mid →
    LeavesCalled n f.limit f.happenings engines datagrams r history old mid (calls.Ask comm q) reply
told questions n r engines datagrams history old mid comm q reply f there taken gives =
    let a : IsAnsweredWith old comm q reply mid = asked old mid comm q reply taken gives in
    subst (λ (x : Reply). LeavesCalled n f.limit f.happenings engines datagrams r history old mid (calls.Ask comm q) x)
    (sym a.reply_is) (questions n r engines datagrams history old mid comm q a.fact f there a.told)

-- such a probe that is taken is answered with what it found
probed : LooksFollow →
    (n r : ℕ) (engines : List EngineState) (datagrams : List (ℕ × List ℕ)) (history : List Entry)
    (old mid : EngineState) (p : Probe) (reply : Reply) →
    (f : IsFollowed n engines datagrams history) → slice_get engines r ≡ Some old → IsTaken reply →
    LookingGives old p reply mid →
    LeavesCalled n f.limit f.happenings engines datagrams r history old mid (calls.Iprobe p) reply
probed looks n r engines datagrams history old mid p reply f there taken gives =
    let a : IsLookedWith old p reply mid = looked old mid p reply taken gives in
    subst (λ (x : Reply). LeavesCalled n f.limit f.happenings engines datagrams r history old mid (calls.Iprobe p) x)
    (sym a.reply_is) (looks n r engines datagrams history old mid p a.found f there a.looked)

-- ---- every call

pub calls_follow : CoreCallsFollow → EntriesFollow → QuestionsFollow → LooksFollow → CallsFollowOn
calls_follow core entries questions looks n limit r before engines datagrams history old mid call reply by there taken
    gives =
    go call gives
  where
    f : IsFollowed n engines datagrams history
    f = followed n limit before engines datagrams history by

    plain : (c : Call) → CallGives old c reply mid → CoreGives old c reply mid →
        LeavesCalled n limit before engines datagrams r history old mid c reply
    plain c given g =
        core n r engines datagrams history old mid c reply f there taken given (answered old mid c reply taken g)

    go : (c : Call) → CallGives old c reply mid →
        LeavesCalled n limit before engines datagrams r history old mid c reply
    go (calls.Isend s) g = plain (calls.Isend s) g g
    go (calls.Irecv v) g = plain (calls.Irecv v) g g
    go (calls.Wait q) g = plain (calls.Wait q) g g
    go (calls.Test q) g = plain (calls.Test q) g g
    go (calls.Waitany qs) g = plain (calls.Waitany qs) g g
    go (calls.Waitall qs) g = plain (calls.Waitall qs) g g
    go (calls.Cancel q) g = plain (calls.Cancel q) g g
    go (calls.Iprobe p) g = probed looks n r engines datagrams history old mid p reply f there taken g
    go (calls.Improbe p) g = plain (calls.Improbe p) g g
    go (calls.Mrecv q into) g = plain (calls.Mrecv q into) g g
    go (calls.Enter comm x) g =
        entries n r engines datagrams history old mid comm x reply f there (entered old mid comm x reply taken g)
    go (calls.Ask comm q) g = told questions n r engines datagrams history old mid comm q reply f there taken g
