-- A call that starts nothing, by the machine's call that it is.
use Rattle.std.proofs.Common.{◌≡◌, ℕ, List, [], ◌∷◌, Option, Some, None, refl, sym, subst, ◌∙◌}
use Rattle.std.specs.List.{AllByRecursion}
use Rattle.datagram.specs.Spellings.{OutgoingText}
use Rattle.perfect_queues.specs.Calls as machine
use Rattle.perfect_queues.specs.Completions as completions
use Rattle.perfect_queues.specs.Events.{Called, Entry, call_and_reply, told}
use Rattle.vocabulary.specs.declared.endpoint.Endpoint.{Endpoint}
use Rattle.proof_pure_network.specs.Core.{Core, view}
use Rattle.proof_pure_network.specs.Engine.{called, core_ready, core_settled}
use Rattle.proof_pure_network.specs.Frames.{Frame}
use Rattle.proof_pure_network.specs.WaitingMessages.{blank}
use Rattle.point_to_point_calls.specs.CoreCalls.{RoutedCall}
use Rattle.point_to_point_calls.specs.CoreCalls.{CoreReply}
use Rattle.point_to_point_calls.specs.CoreCalls as replies
use Rattle.point_to_point.specs.Calls.{call_frame}
use Rattle.point_to_point.specs.CoreState.{CoreState}
use Rattle.point_to_point_calls.specs.Frames.{as_list}
use Rattle.proof_engine_view.specs.Faults.{queue_fault}
use Rattle.observation.specs.CoreCalls.{answer_seen, call_seen, match_seen, told_call}
use Rattle.proof_engine_view.specs.CoreViews.{IsShown}
use Rattle.proof_engine_view.specs.FrameViews.{AreSent, CanLeave, all_gone}
use Rattle.proof_engine_view.specs.Transfers.{Announcements, after_out}
use Rattle.proof_engine_steps.specs.Steps.{IsCalled}
use Rattle.proof_engine_steps.proofs.BlockedAnswers.{settled_is}
use Rattle.proof_engine_steps.proofs.UnchangedTransfers.{shown_quiet}

-- what is seen of the machine's call that was answered so
abbrev pub told_by : Endpoint → machine.Call → CoreReply → List Entry
told_by e c (replies.Started q) = Called e c (machine.Started q.serial) ∷ []
told_by e c (replies.Done a) = Called e c (machine.Done (answer_seen a)) ∷ []
told_by e c replies.Pending = Called e c machine.Pending ∷ []
told_by e c replies.Accepted = Called e c machine.Accepted ∷ []
told_by e c (replies.Matched found) = Called e c (machine.Done (completions.ForMatch (match_seen found))) ∷ []
told_by e c replies.Blocked = Called e c machine.Blocked ∷ []
told_by e c (replies.Refused why back) = []

-- it is what is seen of the rank's call
told_same : (e : Endpoint) (call : RoutedCall) (reply : CoreReply) → told_by e (call_seen call) reply ≡
    told_call e call (Some reply)
told_same e call (replies.Started q) = refl
told_same e call (replies.Done a) = refl
told_same e call replies.Pending = refl
told_same e call replies.Accepted = refl
told_same e call (replies.Matched found) = refl
told_same e call replies.Blocked = refl
told_same e call (replies.Refused why back) = refl

-- what a call leaves that the machine is told as this one
pub record IsMeant (links : Announcements) (old : CoreState) (known : List ℕ) (core : Core) (c : machine.Call)
    (reply : CoreReply) (new : CoreState) : Type 0 where
  pub fit : queue_fault old.place (view blank core) c ≡ None
  pub place : new.place ≡ old.place
  pub completion : new.completion ≡ old.completion
  pub shown : IsShown links new known (core_settled (called old.place.endpoint core c).core)
  pub sends : (called old.place.endpoint core c).out ≡ []
  pub tells :
      told old.place.endpoint (call_and_reply (view blank core) (Some c))
      (core_ready (called old.place.endpoint core c).core)
      ≡ told_by old.place.endpoint c reply

-- the rank's call is so
pub meant_called : (links : Announcements) (old new : CoreState) (known : List ℕ) (core : Core) (call : RoutedCall)
    (reply : CoreReply) → call_frame old call ≡ None → IsMeant links old known core (call_seen call) reply new →
    IsCalled links old known core call reply new
meant_called links old new known core call reply frame m =
    record {
      fit = m.fit;
      place = m.place;
      completion = m.completion;
      shown = subst (λ (out : List (Endpoint × Frame)). IsShown (after_out links out) new known settled) (sym m.sends)
          (shown_quiet links new known settled [] tt m.shown);
      settled = settled_is (called old.place.endpoint core (call_seen call)).core;
      sends = subst
          (λ (out : List (Endpoint × Frame)). AreSent (after_out links out)
          (all_gone known (as_list (call_frame old call))) out) (sym m.sends)
          (subst (λ (f : Option OutgoingText). AreSent (after_out links []) (all_gone known (as_list f)) [])
          (sym frame) tt);
      leaves = subst (λ (f : Option OutgoingText). AllByRecursion (CanLeave old.place) (as_list f)) (sym frame) tt;
      tells = m.tells ∙ told_same old.place.endpoint call reply;
    }
  where
    -- the core once it is settled
    settled : Core
    settled = core_settled (called old.place.endpoint core (call_seen call)).core
