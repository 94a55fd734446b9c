-- What is heard makes of a rank what it makes of its core in the network.
use Rattle.std.proofs.Common.{◌≡◌, ℕ, ◌<◌, Bool, true, false, List, [], Option, Some, None, refl, sym, ap, ◌∙◌, subst}
use Rattle.std.specs.List.{AllByRecursion}
use Rattle.std.proofs.lemmas.Option.{same_Some}
use Rattle.vocabulary.specs.declared.endpoint.Endpoint.{Endpoint}
use Rattle.incarnation.specs.declared.place.Place.{Place}
use Rattle.datagram.specs.declared.kinds.Plane.{Plane}
use Rattle.datagram.specs.declared.kinds.Plane.TheVariants.{PointToPoint, Collective}
use Rattle.datagram.specs.Spellings.{EagerText, FrameText, EagerFrame, RequestFrame, ClearFrame, DataFrame}
use Rattle.match_queues.specs.declared.envelope.Body.TheVariants as bodies
use Rattle.match_queues.specs.declared.envelope.Message.{Message}
use Rattle.datatypes.specs.Contents.{values_of}
use Rattle.vocabulary.specs.BasicTypes.{size_of}
use Rattle.requests.specs.declared.awaited_requests.Awaited.{Awaited}
use Rattle.point_to_point.specs.CoreState.{CoreState}
use Rattle.point_to_point_calls.specs.FrameNews.{NewsText, heard_fault, message_of, transfers_met}
use Rattle.point_to_point.specs.Arrivals.{after_any, after_news, called_for, news_frames, after_lesson}
use Rattle.point_to_point.specs.Sends as rank
use Rattle.rendezvous.specs.State as transfers
use Rattle.proof_pure_network.specs.Core.{Core, Effect}
use Rattle.proof_pure_network.specs.Engine as network
use Rattle.proof_pure_network.specs.Engine.{came}
use Rattle.proof_pure_network.specs.Frames.{Eager, Frame}
use Rattle.proof_pure_network.specs.Matches.{arrived}
use Rattle.proof_engine_view.specs.Frames.{endpoint_of, known_after, message_seen}
use Rattle.proof_engine_view.specs.Rows.{held_of}
use Rattle.proof_engine_view.specs.CoreViews.{IsBlocked, IsShown}
use Rattle.proof_engine_view.specs.FrameViews.{AreSent, CanLeave, IsMeant, all_gone}
use Rattle.proof_engine_view.specs.Transfers.{Announcements, Transfer}
use Rattle.proof_engine_matching.specs.Matches.{ArrivalsMatch, OutcomesAgree}
use Rattle.proof_engine_steps.specs.Steps.{CollectsOnce, IsWithinFields, MayCome, NewsAreShown, heard_by_core}
use Rattle.proof_engine_steps.proofs.MessageArrivals.{IsHeldAfter, Keeps, arrived_keeps, message_holds}
use Rattle.proof_engine_steps.proofs.DueData.{once_met}
use Rattle.proof_engine_steps.proofs.WordLessons.{met_holds}
use Rattle.proof_engine_steps.proofs.NamedRequests.{blocked_stays}
use Rattle.proof_engine_steps.proofs.SourceKnowledge.{source_known}
use Rattle.proof_engine_steps.proofs.UnchangedTransfers.{AreQuiet, sent_then, shown_quiet}
use Rattle.proof_engine_steps.proofs.FrameArrivals.{AnnouncementsAreTaken, AnswersAreTaken, HoldBoth, IsTaken, Meets}
use Rattle.proof_engine_steps.proofs.FrameArrivals.{MessagesAreTaken, PiecesAreTaken}
use Rattle.proof_engine_steps.proofs.BlockedRanks.{shown_with}

-- ---- A WHOLE MESSAGE

-- the frame of the network for which an eager frame stands
eager_is : (t : EagerText) (plane : Plane) (frame : Frame) → message_seen plane t ≡ Some frame →
    message_seen PointToPoint t ≡ Some frame
eager_is t PointToPoint frame h = h
eager_is t Collective frame h = absurd cc

-- what the core makes of it, by its message
eager_came : (from : Endpoint → List Transfer) (core : Core) (s : Endpoint) (t : EagerText) (frame : Frame) →
    message_seen t.plane t ≡ Some frame → came core s frame ≡ arrived core (held_of from (message_of s t))
unfolding message_of
eager_came from core s t frame h =
    let e : Eager t.context t.tag t.basic (values_of (size_of t.basic) t.elements) ≡ frame = same_Some (Eager t.context t.tag t.basic (values_of (size_of t.basic) t.elements)) frame (eager_is t t.plane frame h) in
    ap (came core s) (sym e)

-- its message is whole
eager_whole : (s : Endpoint) (t : EagerText) →
    (message_of s t).body ≡ bodies.Whole (record { basic = t.basic; values = values_of (size_of t.basic) t.elements })
unfolding message_of
eager_whole s t = refl

-- both take it
pub messages_are_taken : ArrivalsMatch → OutcomesAgree → MessagesAreTaken
messages_are_taken match agree links e known core s t frame meets =
    record {
      both = subst (λ (x : Effect). HoldBoth links (rank.after_message e m) known x.core) (sym same)
          (record {
            rows = a.left;
            holding = a.holding;
            awaited =
                blocked_stays meets.both.rows a.left (rank.after_message e m).blocked core.blocked
                (arrived core (held_of links.from m)).core.blocked
                (subst (λ (x : Option Awaited). IsBlocked meets.both.rows x core.blocked)
                (sym keeps.blocked) meets.both.awaited) a.blocked a.waits;
          });
      place = keeps.place;
      completion = keeps.completion;
      quiet = subst AreQuiet (sym none) tt;
      sends = subst (λ (out : List (Endpoint × Frame)). AreSent links [] out) (sym none) tt;
      leaves = tt;
    }
  where
    m : Message
    m = message_of s t

    keeps : Keeps e (rank.after_message e m)
    keeps = arrived_keeps e m

    a : IsHeldAfter links meets.both.rows (rank.after_message e m) known core (arrived core (held_of links.from m))
    a = message_holds match agree links e known core meets.both.rows m
        (record { basic = t.basic; values = values_of (size_of t.basic) t.elements })
        (eager_whole s t) meets.both.holding

    same : came core s frame ≡ arrived core (held_of links.from m)
    same = eager_came links.from core s t frame meets.stands

    none : (came core s frame).out ≡ []
    none = ap (λ (x : Effect). x.out) same ∙ a.sends

-- ---- ANY FRAME

-- The laws by which a rank takes what it hears, for each kind of frame
pub record AreTaken : Type 0 where
  pub messages : MessagesAreTaken
  pub announcements : AnnouncementsAreTaken
  pub answers : AnswersAreTaken
  pub pieces : PiecesAreTaken

-- what both hold once the frame came, if one did, and what goes out
record Hears (links : Announcements) (e : CoreState) (known : List ℕ) (core : Core) (s : Endpoint)
    (text : Option FrameText) (frame : Option Frame) : Type 0 where
  both : HoldBoth links (after_any e s text) known (heard_by_core core s frame).core
  place : (after_any e s text).place ≡ e.place
  completion : (after_any e s text).completion ≡ e.completion
  quiet : AreQuiet (heard_by_core core s frame).out
  sends : AreSent links (all_gone known (called_for e s text)) (heard_by_core core s frame).out
  leaves : AllByRecursion (CanLeave e.place) (called_for e s text)

-- a frame, by its kind
frame_taken : AreTaken →
    (links : Announcements) (e : CoreState) (known : List ℕ) (core : Core) (s : Endpoint) (text : FrameText)
    (frame : Frame) → Meets links e known core s text frame
    → IsTaken links e known core s text frame
frame_taken laws links e known core s (EagerFrame t) frame meets = laws.messages links e known core s t frame meets
frame_taken laws links e known core s (RequestFrame t) frame meets =
    laws.announcements links e known core s t frame meets
frame_taken laws links e known core s (ClearFrame t) frame meets = laws.answers links e known core s t frame meets
frame_taken laws links e known core s (DataFrame t) frame meets = laws.pieces links e known core s t frame meets

-- what comes after the lesson: who spoke is known, and no rule refuses the frame, if one came
record Comes (links : Announcements) (e : CoreState) (known : List ℕ) (core : Core) (s : Endpoint)
    (text : Option FrameText) (frame : Option Frame) : Type 0 where
  both : HoldBoth links e known (network.met core s)
  sender : s ≡ endpoint_of known s.rank
  there : s.rank < e.place.size
  apart : s.rank ≡ e.place.endpoint.rank → ⊥
  meant : IsMeant links s text frame
  within : IsWithinFields text
  taken : heard_fault e.transfers s.rank text ≡ None
  once : CollectsOnce (network.met core s)

any_taken : AreTaken →
    (links : Announcements) (e : CoreState) (known : List ℕ) (core : Core) (s : Endpoint) (text : Option FrameText)
    (frame : Option Frame) → Comes links e known core s text frame
    → Hears links e known core s text frame
any_taken laws links e known core s None None c =
    record { both = c.both; place = refl; completion = refl; quiet = tt; sends = tt; leaves = tt }
any_taken laws links e known core s None (Some frame) c = absurd c.meant
any_taken laws links e known core s (Some text) None c = absurd c.meant
any_taken laws links e known core s (Some text) (Some frame) c =
    let t : IsTaken links e known (network.met core s) s text frame = frame_taken laws links e known (network.met core s) s text frame (record {
      both = c.both;
      sender = c.sender;
      there = c.there;
      apart = c.apart;
      stands = c.meant;
      within = c.within;
      taken = c.taken;
      once = c.once;
    }) in
    record {
      both = t.both;
      place = t.place;
      completion = t.completion;
      quiet = t.quiet;
      sends = t.sends;
      leaves =
          t.leaves;
    }

-- ---- THE LESSON AND THE FRAME

-- the rank stays at its place
taught_place : (lesson : Bool) (c : CoreState) (s : Endpoint) → (after_lesson lesson c s).place ≡ c.place
taught_place true c s = refl
taught_place false c s = refl

-- and owes the answer that it owed
taught_completion : (lesson : Bool) (c : CoreState) (s : Endpoint) → (after_lesson lesson c s).completion ≡ c.completion
taught_completion true c s = refl
taught_completion false c s = refl

-- the frame meets the transfers that the lesson leaves
taught_transfers : (lesson : Bool) (c : CoreState) (s : Endpoint) → transfers_met lesson c.transfers s.rank ≡
    (after_lesson lesson c s).transfers
taught_transfers true c s = refl
taught_transfers false c s = refl

-- what comes once the lesson, if there was one, is learnt
news_come : (links : Announcements) (old : CoreState) (known : List ℕ) (core : Core) (news : NewsText)
    (frame : Option Frame) → IsShown links old known core →
    MayCome links old known core news frame →
    Comes links (after_lesson news.lesson old news.source) (known_after news.lesson known news.source) core
    news.source news.frame frame
news_come links old known core news frame shown may =
    record {
      both = met_holds links old known core news shown may.other may.untold;
      sender = sym (source_known old known news shown.width may.other);
      there = subst (λ (p : Place). s.rank < p.size) (sym (taught_place news.lesson old s)) may.other.there;
      apart = subst (λ (p : Place). s.rank ≡ p.endpoint.rank → ⊥) (sym (taught_place news.lesson old s))
          may.other.apart;
      meant = may.meant;
      within = may.within;
      taken = subst (λ (t : transfers.State). heard_fault t s.rank news.frame ≡ None)
          (taught_transfers news.lesson old s) may.taken;
      once = once_met core s may.once;
    }
  where
    s : Endpoint
    s = news.source

-- whatever is heard, both hold the same
pub news_are_shown : AreTaken → NewsAreShown
news_are_shown laws links old known core news frame shown may =
    record {
      place = h.place ∙ taught_place news.lesson old s;
      completion = h.completion ∙ taught_completion news.lesson old s;
      shown = shown_quiet links (after_news old news) learnt after.core after.out h.quiet
          (shown_with links (after_news old news) learnt after.core h.both.rows h.both.holding h.both.awaited);
      sends = sent_then links after.out (all_gone learnt (news_frames old news)) h.sends;
      leaves = subst (λ (p : Place). AllByRecursion (CanLeave p) (news_frames old news))
          (taught_place news.lesson old s) h.leaves;
    }
  where
    s : Endpoint
    s = news.source

    learnt : List ℕ
    learnt = known_after news.lesson known s

    after : Effect
    after = heard_by_core core s frame

    h : Hears links (after_lesson news.lesson old s) learnt core s news.frame frame
    h = any_taken laws links (after_lesson news.lesson old s) learnt core s news.frame frame
        (news_come links old known core news frame shown may)
