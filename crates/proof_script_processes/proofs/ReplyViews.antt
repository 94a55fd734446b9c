-- A runner is told by the machine what its rank's engine tells it.
use Rattle.std.proofs.Common.{◌≡◌, ℕ, List, [], ◌∷◌, map, Option, Some, None, option_map, refl, ap, ap₂}
use Rattle.collective_steps.specs.declared.step.Ending.{Ending}
use Rattle.collective_steps.specs.declared.step.Ending.TheVariants as endings
use Rattle.communicators.specs.Questions.{comparison_of}
use Rattle.communicators.specs.declared.question.CommunicatorComparison.{CommunicatorComparison}
use Rattle.communicators.specs.declared.question.CommunicatorComparison.TheVariants as comparisons
use Rattle.engine_calls.specs.declared.call.Call.{Call}
use Rattle.engine_calls.specs.declared.reply.Fact.{Fact}
use Rattle.engine_calls.specs.declared.reply.Fact.TheVariants as facts
use Rattle.engine_calls.specs.declared.reply.Reply.{Reply}
use Rattle.engine_calls.specs.declared.reply.Reply.TheVariants as replies
use Rattle.interpreter.specs.NamesState.{NamesState}
use Rattle.observation.specs.Endings.{ending_is}
use Rattle.observation.specs.CoreCalls.{answer_seen, match_seen, outcome_seen, own_serial, request_by}
use Rattle.point_to_point_calls.specs.Refusals.{number_of_refusal}
use Rattle.point_to_point_calls.specs.declared.refusal.Refusal as lower
use Rattle.point_to_point_calls.specs.declared.refusal.Refusal.TheVariants as lowers
use Rattle.script_runner.specs.ScriptRanks.{Acts, heeds_by}
use Rattle.requests.specs.declared.answer.Answer.{Answer}
use Rattle.requests.specs.declared.answer.Answer.TheVariants as answers
use Rattle.requests.specs.declared.outcome.Failure.TheVariants as failures
use Rattle.requests.specs.declared.outcome.Outcome.{Outcome}
use Rattle.requests.specs.declared.outcome.Outcome.TheVariants as outcomes
use Rattle.requests.specs.declared.table.Request.{Request}
use Rattle.script_runner.specs.ScriptSteps.{ScriptState, does_after, next_of}
use Rattle.script_calls.specs.declared.pending.Pending.{Pending}
use Rattle.std.specs.Global.{Vec}
use Rattle.vocabulary.specs.declared.envelope.Status.{Status}
use Rattle.proof_script_processes.specs.PlainRequests.{plain_found, plain_request}
use Rattle.proof_script_processes.specs.ReplyViews.{RepliesAreHeard, told_of}
use Rattle.proof_script_processes.specs.Processes.{comparison_for, done_for, ending_for, found_for, next_told}
use Rattle.proof_script_processes.specs.Processes.{outcome_for, refusal_for, request_for, tells_ranks}

outcome_back : (o : Outcome) → outcome_for (outcome_seen o) ≡ o
outcome_back outcomes.Sent = refl
outcome_back (outcomes.Received status b) = refl
outcome_back (outcomes.Ended failures.WrongType status b) = refl
outcome_back (outcomes.Ended failures.Truncated status b) = refl
outcome_back (outcomes.Replaced b) = refl
outcome_back (outcomes.Cancelled b) = refl
outcome_back outcomes.Empty = refl

all_back : (os : List Outcome) → map outcome_for (map outcome_seen os) ≡ os
all_back [] = refl
all_back (o ∷ os) = ap₂ (λ (x : Outcome) (xs : List Outcome). x ∷ xs) (outcome_back o) (all_back os)

answer_back : (a : Answer) → done_for (answer_seen a) ≡ replies.Done a
answer_back (answers.One o) = ap (λ (x : Outcome). replies.Done (answers.One x)) (outcome_back o)
answer_back (answers.Index i o) = ap (λ (x : Outcome). replies.Done (answers.Index i x)) (outcome_back o)
answer_back answers.IndexUndefined = refl
answer_back (answers.All os) = ap (λ (xs : List Outcome). replies.Done (answers.All xs)) (all_back os)

request_back : (q : Option Request) → option_map request_for (request_by own_serial q) ≡ option_map plain_request q
request_back None = refl
request_back (Some q) = refl

found_back : (found : Option (Option Request × Status)) → found_for (match_seen found) ≡ plain_found found
found_back None = refl
found_back (Some found) = ap (λ (q : Option Request). Some (q, found.1)) (request_back found.0)

ending_back : (o : Ending) → ending_for (ending_is o) ≡ o
ending_back (endings.Left b) = refl
ending_back (endings.Comm place) = refl
ending_back endings.Replaced = refl
ending_back endings.Mismatch = refl

comparison_back : (c : CommunicatorComparison) → comparison_for (comparison_of c) ≡ c
comparison_back comparisons.Ident = refl
comparison_back comparisons.Congruent = refl
comparison_back comparisons.Similar = refl
comparison_back comparisons.Unequal = refl

number_back : (why : lower.Refusal) → refusal_for (number_of_refusal why) ≡ why
number_back lowers.Count = refl
number_back lowers.WrongType = refl
number_back lowers.Tag = refl
number_back lowers.Communicator = refl
number_back lowers.Rank = refl
number_back lowers.Request = refl
number_back lowers.Root = refl
number_back lowers.Operation = refl
number_back lowers.Replaced = refl
number_back lowers.Limit = refl
number_back lowers.OutOfMemory = refl
number_back lowers.Short = refl
number_back lowers.Magic = refl
number_back lowers.Version = refl
number_back lowers.Kind = refl
number_back lowers.Length = refl
number_back lowers.ForeignJob = refl
number_back lowers.NotForMe = refl
number_back lowers.StaleSource = refl
number_back lowers.StaleTarget = refl
number_back lowers.BadFrame = refl
number_back lowers.OutOfWindow = refl
number_back lowers.ClockBack = refl

ranks_heard : (p : Option Pending) (ranks : Vec ℕ) (names : NamesState) → tells_ranks p ranks.items names ≡
    heeds_by p (replies.Fact (facts.Ranks ranks)) names
ranks_heard None ranks names = refl
ranks_heard (Some p) ranks names = refl

facts_heard : (s : ScriptState) (call : Call) (f : Fact) → next_told s call (told_of (replies.Fact f)) ≡
    next_of s (Some (replies.Fact f))
facts_heard s call (facts.Number n) = refl
facts_heard s call (facts.Ranks ranks) =
    ap (λ (a : Acts). does_after s.lines a) (ranks_heard s.rank.pending ranks s.rank.names)
facts_heard s call (facts.Compares c) =
    ap (λ (x : CommunicatorComparison). next_of s (Some (replies.Fact (facts.Compares x)))) (comparison_back c)

pub replies_are_heard : RepliesAreHeard
replies_are_heard s call (replies.Started q) h = refl
replies_are_heard s call (replies.Done a) h = ap (λ (x : Reply). next_of s (Some x)) (answer_back a)
replies_are_heard s call replies.Pending h = refl
replies_are_heard s call replies.Accepted h = refl
replies_are_heard s call replies.Blocked h = refl
replies_are_heard s call (replies.Left o) h = ap (λ (x : Ending). next_of s (Some (replies.Left x))) (ending_back o)
replies_are_heard s call (replies.Fact f) h = facts_heard s call f
replies_are_heard s call (replies.Probed found) h = refl
replies_are_heard s call (replies.Matched found) h =
    ap (λ (x : Option (Option Request × Status)). next_of s (Some (replies.Matched x))) (found_back found)
replies_are_heard s call (replies.Refused why back) h =
    ap₂ (λ (x : lower.Refusal) (c : Call). next_of s (Some (replies.Refused x c))) (number_back why) h
