-- Each call that meets no rule and no limit of a rank's core is one of its core in the network.
use Rattle.std.proofs.Common.{◌≡◌, ℕ, List, Option, Some, None, refl}
use Rattle.requests.specs.declared.awaited_requests.Awaited.{Awaited}
use Rattle.requests.specs.declared.awaited_requests.Awaited.TheVariants as awaiteds
use Rattle.point_to_point_calls.specs.CoreCalls.{RoutedCall}
use Rattle.point_to_point_calls.specs.CoreCalls as calls
use Rattle.point_to_point_calls.specs.CoreCalls.{CoreReply}
use Rattle.point_to_point_calls.specs.Calls.{IsWithin}
use Rattle.point_to_point.specs.Calls.{Answers, fault_at, free_fault}
use Rattle.point_to_point.specs.CoreState.{CoreState}
use Rattle.proof_pure_network.specs.Claims.{ClaimsOnce}
use Rattle.proof_pure_network.specs.Core.{Core}
use Rattle.proof_engine_view.specs.CoreViews.{IsShown}
use Rattle.proof_engine_view.specs.Transfers.{Announcements}
use Rattle.proof_engine_matching.specs.Matches.{AnnouncementsAgree, ArrivalsMatch, OutcomesAgree, OwnOutcomesAgree}
use Rattle.proof_engine_matching.specs.Matches.{PostsMatch, TakesMatch}
use Rattle.proof_engine_steps.specs.Steps.{CallsAreShown, IsCalled}
use Rattle.proof_engine_steps.proofs.Cancels.{cancel_meant}
use Rattle.proof_engine_steps.proofs.CallMeanings.{meant_called}
use Rattle.proof_engine_steps.proofs.Messages.{messages_shown}
use Rattle.proof_engine_steps.proofs.OwnSends.{send_shown}
use Rattle.proof_engine_steps.proofs.Posts.{post_shown}
use Rattle.proof_engine_steps.proofs.Probes.{searches_shown}
use Rattle.proof_engine_steps.proofs.Waits.{test_meant, wait_meant}

-- what the laws of matching say, which a call rests on
record Matching : Type 0 where
  posts : PostsMatch
  arrivals : ArrivalsMatch
  takes : TakesMatch
  wholes : OutcomesAgree
  owns : OwnOutcomesAgree
  announced : AnnouncementsAgree

-- a call while no other is blocked
free_call : Matching →
    (links : Announcements) (old new : CoreState) (known : List ℕ) (core : Core) (call : RoutedCall) (reply : CoreReply)
    →
    IsShown links old known core → ClaimsOnce core → old.blocked ≡ None →
    IsWithin call → free_fault old call ≡ None → Answers old call reply new →
    IsCalled links old known core call reply new
free_call laws links old new known core (calls.Isend s) (calls.Started q) shown once free within fine answers =
    send_shown laws.arrivals laws.wholes links old new known core s q shown free within fine answers
free_call laws links old new known core (calls.Isend s) (calls.Refused e back) shown once free within fine answers =
    absurd answers
free_call laws links old new known core (calls.Isend s) (calls.Done a) shown once free within fine answers =
    absurd answers
free_call laws links old new known core (calls.Isend s) calls.Pending shown once free within fine answers =
    absurd answers
free_call laws links old new known core (calls.Isend s) calls.Accepted shown once free within fine answers =
    absurd answers
free_call laws links old new known core (calls.Isend s) (calls.Matched found) shown once free within fine answers =
    absurd answers
free_call laws links old new known core (calls.Isend s) calls.Blocked shown once free within fine answers =
    absurd answers
free_call laws links old new known core (calls.Irecv v) (calls.Started q) shown once free within fine answers =
    post_shown laws.posts laws.wholes laws.owns laws.announced links old new known core v q shown once free fine answers
free_call laws links old new known core (calls.Irecv v) (calls.Refused e back) shown once free within fine answers =
    absurd answers
free_call laws links old new known core (calls.Irecv v) (calls.Done a) shown once free within fine answers =
    absurd answers
free_call laws links old new known core (calls.Irecv v) calls.Pending shown once free within fine answers =
    absurd answers
free_call laws links old new known core (calls.Irecv v) calls.Accepted shown once free within fine answers =
    absurd answers
free_call laws links old new known core (calls.Irecv v) (calls.Matched found) shown once free within fine answers =
    absurd answers
free_call laws links old new known core (calls.Irecv v) calls.Blocked shown once free within fine answers =
    absurd answers
free_call laws links old new known core (calls.Wait q) reply shown once free within fine answers =
    meant_called links old new known core (calls.Wait q) reply refl
    (wait_meant links old new known core (awaiteds.One q) reply shown free fine answers)
free_call laws links old new known core (calls.Test q) reply shown once free within fine answers =
    meant_called links old new known core (calls.Test q) reply refl
    (test_meant links old new known core q reply shown free fine answers)
free_call laws links old new known core (calls.Waitany qs) reply shown once free within fine answers =
    meant_called links old new known core (calls.Waitany qs) reply refl
    (wait_meant links old new known core (awaiteds.AnyOf qs) reply shown free fine answers)
free_call laws links old new known core (calls.Waitall qs) reply shown once free within fine answers =
    meant_called links old new known core (calls.Waitall qs) reply refl
    (wait_meant links old new known core (awaiteds.AllOf qs) reply shown free fine answers)
free_call laws links old new known core (calls.Cancel q) reply shown once free within fine answers =
    meant_called links old new known core (calls.Cancel q) reply refl
    (cancel_meant links old new known core q reply shown free fine answers)
free_call laws links old new known core (calls.Improbe p) reply shown once free within fine answers =
    searches_shown laws.takes links old new known core p reply shown free fine answers
free_call laws links old new known core (calls.Mrecv q into) reply shown once free within fine answers =
    messages_shown laws.wholes laws.owns laws.announced links old new known core q into reply shown once free fine
    answers

-- each call that meets no rule keeps what a rank shows
pub calls_are_shown : PostsMatch → ArrivalsMatch → TakesMatch → OutcomesAgree → OwnOutcomesAgree → AnnouncementsAgree →
    CallsAreShown
calls_are_shown posts arrivals takes wholes owns announced links old new known core call reply shown once within fine
    answers = go old.blocked refl fine
  where
    go : (b : Option Awaited) → old.blocked ≡ b → fault_at b old call ≡ None →
        IsCalled links old known core call reply new
    go (Some a) e f = absurd cc
    go None e f =
        free_call (record {
          posts = posts;
          arrivals = arrivals;
          takes = takes;
          wholes = wholes;
          owns = owns;
          announced =
              announced;
        }) links old new known core call reply shown once e within f answers
