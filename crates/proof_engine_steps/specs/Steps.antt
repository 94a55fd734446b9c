-- What an event of a rank's core is to its core in the pure network.
use Rattle.std.specs.Prelude.{◌≡◌, ◌<◌, ◌≤◌, true, nat_lt, List, [], ℕ, Option, Some, None, slice_get, slice_index}
use Rattle.std.specs.List.{AllByRecursion}
use Rattle.datagram.specs.Spellings.{FrameIsWithinFields, FrameText}
use Rattle.incarnation.specs.declared.place.Place.{Place}
use Rattle.incarnation.specs.Knowledge as knowing
use Rattle.point_to_point_calls.specs.CoreCalls.{RoutedCall}
use Rattle.point_to_point_calls.specs.CoreCalls.{CoreReply}
use Rattle.point_to_point_calls.specs.Calls.{IsWithin}
use Rattle.point_to_point.specs.Calls.{Answers, call_fault, call_frame}
use Rattle.point_to_point.specs.CoreState.{CoreState, opening}
use Rattle.point_to_point_calls.specs.Frames.{as_list}
use Rattle.point_to_point_calls.specs.FrameNews.{NewsText}
use Rattle.point_to_point.specs.Arrivals.{after_news, news_fault, news_frames}
use Rattle.point_to_point.specs.Completions.{after_wake}
use Rattle.vocabulary.specs.declared.endpoint.Endpoint.{Endpoint}
use Rattle.vocabulary.specs.declared.message_limit.MessageLimit.{MessageLimit}
use Rattle.perfect_queues.specs.Events.{call_and_reply, told}
use Rattle.proof_pure_network.specs.Claims.{ClaimsOnce}
use Rattle.proof_pure_network.specs.Core.{Core, Effect, effect, new_core, view}
use Rattle.proof_pure_network.specs.Engine.{called, came, core_ready, core_settled, met}
use Rattle.proof_pure_network.specs.Frames.{Frame}
use Rattle.proof_pure_network.specs.WaitingMessages.{blank}
use Rattle.proof_pure_network.specs.Jobs.{Job, is_collecting}
use Rattle.proof_engine_view.specs.Frames.{known_after}
use Rattle.proof_engine_view.specs.Faults.{queue_fault}
use Rattle.observation.specs.CoreCalls.{call_seen, told_call, told_completion}
use Rattle.proof_engine_view.specs.CoreViews.{IsSettled, IsShown}
use Rattle.proof_engine_view.specs.FrameViews.{AreSent, CanLeave, IsMeant, all_gone}
use Rattle.proof_engine_view.specs.Transfers.{Announcements, AnnouncementsGrow, after_out}

-- A core that starts, at whatever incarnation, holds what a new core of the network with its job's limit holds: nothing
-- was announced on its links, whatever was announced to it
abbrev pub OpeningIsShown : Type 0
OpeningIsShown =
    (p : Place) (limit : MessageLimit) (a : Announcements) → p.message_limit ≡ limit → p.endpoint.rank < p.size →
    ((d : Endpoint) → a.to d ≡ []) →
    IsShown a (opening p) (knowing.opening p).known (new_core limit p.endpoint)

-- and no call of it is blocked whose answer is ready
abbrev pub OpeningIsSettled : Type 0
OpeningIsSettled = (limit : MessageLimit) (e : Endpoint) → IsSettled (new_core limit e)

-- ---- calls

-- a call of the rank is the call of its core in the network
pub record IsCalled (a : Announcements) (old : CoreState) (known : List ℕ) (core : Core) (call : RoutedCall)
    (reply : CoreReply) (new : CoreState) : Type 0 where
  pub fit : queue_fault old.place (view blank core) (call_seen call) ≡ None
  -- it leaves the rank's place, and the answer of an earlier call
  pub place : new.place ≡ old.place
  pub completion : new.completion ≡ old.completion
  pub shown :
      IsShown (after_out a (called old.place.endpoint core (call_seen call)).out) new known
      (core_settled (called old.place.endpoint core (call_seen call)).core)
  pub settled : IsSettled (core_settled (called old.place.endpoint core (call_seen call)).core)
  -- the frame that the rank gives stands for the core's, once this is announced if it is an announcement
  pub sends :
      AreSent (after_out a (called old.place.endpoint core (call_seen call)).out)
      (all_gone known (as_list (call_frame old call)))
      (called old.place.endpoint core (call_seen call)).out
  pub leaves : AllByRecursion (CanLeave old.place) (as_list (call_frame old call))
  pub tells :
      told old.place.endpoint (call_and_reply (view blank core) (Some (call_seen call)))
      (core_ready (called old.place.endpoint core (call_seen call)).core)
      ≡ told_call old.place.endpoint call (Some reply)

-- Every call that meets no rule and no limit of a rank's core, and whose elements have the width of their type, is the
-- same call of its core in the network; of which the network's laws say that no two messages name one of its own sends
abbrev pub CallsAreShown : Type 0
CallsAreShown =
    (a : Announcements) (old new : CoreState) (known : List ℕ) (core : Core) (call : RoutedCall) (reply : CoreReply) →
    IsShown a old known core → ClaimsOnce core → IsWithin call → call_fault old call ≡ None →
    Answers old call reply new →
    IsCalled a old known core call reply new

-- ---- what is heard

-- what the network's core makes of a word of an endpoint: it learns what the word teaches, and takes the frame, if
-- there is one
abbrev pub heard_by_core : Core → Endpoint → Option Frame → Effect
heard_by_core core s None = effect (met core s) []
heard_by_core core s (Some f) = came (met core s) s f

-- What was heard comes from another rank of the job, from no incarnation before the known one, and is a lesson where
-- its incarnation is above that
pub record IsFromOther (old : CoreState) (known : List ℕ) (news : NewsText) : Type 0 where
  pub there : news.source.rank < old.place.size
  pub apart : news.source.rank ≡ old.place.endpoint.rank → ⊥
  pub fresh : slice_index known news.source.rank ≤ news.source.incarnation
  pub lesson : nat_lt (slice_index known news.source.rank) news.source.incarnation ≡ news.lesson

-- no two requests of the core collect one transfer
abbrev pub CollectsOnce : Core → Type 0
CollectsOnce core =
    (s : Endpoint) (k i j : ℕ) (x y : Job) → slice_get core.jobs i ≡ Some x → is_collecting s k x ≡ true →
    slice_get core.jobs j ≡ Some y → is_collecting s k y ≡ true → i ≡ j

-- nothing was announced to an endpoint that isn't known yet
abbrev pub NoneUntold : Announcements → (known : List ℕ) → Type 0
NoneUntold a known = (d : Endpoint) → slice_index known d.rank < d.incarnation → a.to d ≡ []

-- the fields of the frame that came, if one did, have their widths
abbrev pub IsWithinFields : Option FrameText → Type 0
IsWithinFields None = Unit {0}
IsWithinFields (Some f) = FrameIsWithinFields f

-- What was heard may come: it is from another rank, its frame stands for this one of the network, and the rank's core
-- refuses it by no rule
pub record MayCome (a : Announcements) (old : CoreState) (known : List ℕ) (core : Core) (news : NewsText)
    (frame : Option Frame) : Type 0 where
  pub other : IsFromOther old known news
  pub meant : IsMeant a news.source news.frame frame
  pub within : IsWithinFields news.frame
  pub taken : news_fault old news ≡ None
  -- of the network, what its laws say of each endpoint
  pub once : CollectsOnce core
  pub untold : NoneUntold a known

-- What is heard makes of the rank what it makes of its core in the network, before a blocked call is answered
pub record IsHeard (a : Announcements) (old : CoreState) (known : List ℕ) (core : Core) (news : NewsText)
    (frame : Option Frame) : Type 0 where
  pub place : (after_news old news).place ≡ old.place
  -- it answers no call
  pub completion : (after_news old news).completion ≡ old.completion
  pub shown :
      IsShown (after_out a (heard_by_core core news.source frame).out) (after_news old news)
      (known_after news.lesson known news.source)
      (heard_by_core core news.source frame).core
  -- the frames that the rank gives stand for the core's
  pub sends :
      AreSent (after_out a (heard_by_core core news.source frame).out)
      (all_gone (known_after news.lesson known news.source) (news_frames old news))
      (heard_by_core core news.source frame).out
  pub leaves : AllByRecursion (CanLeave old.place) (news_frames old news)

-- So it is with all that may come, whether it is a lesson or not, with a frame or without one, and whether or not the
-- answer of the blocked call was ready before
abbrev pub NewsAreShown : Type 0
NewsAreShown =
    (a : Announcements) (old : CoreState) (known : List ℕ) (core : Core) (news : NewsText) (frame : Option Frame) →
    IsShown a old known core → MayCome a old known core news frame → IsHeard a old known core news frame

-- ---- the blocked call is answered

-- The rank is woken as its core in the network is settled: both answer the blocked call where its answer is ready, and
-- alike
pub record IsWoken (a : Announcements) (c : CoreState) (known : List ℕ) (core : Core) : Type 0 where
  pub place : (after_wake c).place ≡ c.place
  pub shown : IsShown a (after_wake c) known (core_settled core)
  pub settled : IsSettled (core_settled core)
  pub tells : (e : Endpoint) → told e None (core_ready core) ≡ told_completion e (after_wake c).completion

-- So it is at a rank that owes no answer, once an event is over, however many frames were handed up in it
abbrev pub WakesAreShown : Type 0
WakesAreShown =
    (a : Announcements) (c : CoreState) (known : List ℕ) (core : Core) → IsShown a c known core → c.completion ≡ None →
    IsWoken a c known core

-- ---- what others announce

-- What other endpoints announce to it is nothing to what a rank holds
abbrev pub OthersMayAnnounce : Type 0
OthersMayAnnounce =
    (old new : Announcements) (c : CoreState) (known : List ℕ) (core : Core) → IsShown old c known core →
    AnnouncementsGrow old new → ((d : Endpoint) → new.to d ≡ old.to d) → IsShown new c known core
