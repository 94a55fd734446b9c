-- The frames that the core calls for: they all go to the rank that spoke, and the sessions can send them.
use Rattle.std.proofs.Common.{◌≡◌, ℕ, ◌<◌, List, [], ◌∷◌, length, map, Option, Some, None, refl, sym, ap, subst, ◌∙◌}
use Rattle.std.specs.Prelude.{All}
use Rattle.std.specs.List.{AllByRecursion}
use Rattle.std.proofs.lemmas.List.Elements.{All-cons, All-nil}
use Rattle.vocabulary.specs.declared.endpoint.Endpoint.{Endpoint}
use Rattle.vocabulary.specs.BasicTypes.{size_of}
use Rattle.vocabulary.specs.MessageLimits.{frame_limit_of}
use Rattle.vocabulary.specs.declared.message_limit.MessageLimit.{MessageLimit}
use Rattle.datatypes.specs.Contents.{bytes_of}
use Rattle.datagram.specs.declared.kinds.Clearance.{Clearance}
use Rattle.datagram.specs.declared.kinds.Clearance.TheVariants.{Send, Drop}
use Rattle.datagram.specs.Spellings.{ClearFrame, DataFrame, EagerFrame, FrameText, RequestFrame, RequestText}
use Rattle.datagram.specs.Spellings.{OutgoingText, outgoing_text}
use Rattle.incarnation.specs.declared.place.Place.{Place}
use Rattle.match_queues.specs.Arrivals.{arrival_at}
use Rattle.match_queues.specs.declared.envelope.PostedReceive.{PostedReceive}
use Rattle.match_queues.specs.State.{receive_at, receive_for}
use Rattle.rendezvous.specs.declared.offer.Offer.{Offer}
use Rattle.rendezvous.specs.Pieces.{pieces_of}
use Rattle.rendezvous.specs.State.{offered}
use Rattle.requests.specs.declared.table.TableEntry.{TableEntry}
use Rattle.point_to_point.specs.CoreState.{CoreState}
use Rattle.datagram.specs.declared.frame.Outgoing.{Outgoing}
use Rattle.point_to_point_calls.specs.Frames.{as_list}
use Rattle.point_to_point_calls.specs.FrameNews.{CanGo, announced_of, data_frames, wanted_frames}
use Rattle.point_to_point.specs.Arrivals.{called_for, news_frames, after_lesson}
use Rattle.point_to_point_calls.specs.ReceiveMatches.{answer_on_arrival}
use Rattle.sessions.specs.declared.refusal.SessionRefusal as lower
use Rattle.sessions.specs.declared.refusal.SessionRefusal.TheVariants as lowers
use Rattle.sessions.specs.Refusals as lowest
use Rattle.sessions.specs.Events.{AreFor, CanSend, sendings}
use Rattle.sessions.specs.HeardBytes.{HeardText}
use Rattle.engine.specs.Datagrams.{frame_in, news_of, replies}

-- ---- to whom they go

-- all of these frames are for this rank
abbrev pub AreFramesFor : ℕ → List OutgoingText → Type 0
AreFramesFor rank fs = AllByRecursion (λ f. f.target ≡ rank) fs

pub data_are_for : (rank transfer : ℕ) (ps : List (ℕ × List ℕ)) → AreFramesFor rank (data_frames rank transfer ps)
data_are_for rank transfer [] = tt
data_are_for rank transfer (p ∷ ps) = (refl, data_are_for rank transfer ps)

wanted_are_for : (limit : MessageLimit) (rank : ℕ) (clearance : Clearance) (o : Option Offer) →
    AreFramesFor rank (wanted_frames limit rank clearance o)
wanted_are_for limit rank Drop o = tt
wanted_are_for limit rank Send None = tt
wanted_are_for limit rank Send (Some o) =
    data_are_for rank o.transfer
    (pieces_of (frame_limit_of limit) (bytes_of (size_of o.elements.basic) o.elements.values))

answer_is_for : (slots : List (Option TableEntry)) (r : Option PostedReceive) (s : Endpoint) (t : RequestText) →
    AreFramesFor s.rank (as_list (answer_on_arrival slots (arrival_at r (announced_of s t))))
unfolding announced_of
answer_is_for slots None s t = tt
answer_is_for slots (Some r) s t = (refl, tt)

called_are_for : (c : CoreState) (s : Endpoint) (f : Option FrameText) → AreFramesFor s.rank (called_for c s f)
called_are_for c s None = tt
called_are_for c s (Some (EagerFrame t)) = tt
called_are_for c s (Some (RequestFrame t)) =
    answer_is_for c.slots (receive_at c.queues.posted (receive_for (announced_of s t) c.queues.posted)) s t
called_are_for c s (Some (ClearFrame t)) =
    wanted_are_for c.place.message_limit s.rank t.clearance (offered c.transfers s.rank t.transfer)
called_are_for c s (Some (DataFrame t)) = tt

-- so many frames go to the rank that spoke
pub replies_are_for : (c : CoreState) (h : HeardText) (count : ℕ) → count ≡ length (news_frames c (news_of h)) →
    AreFor h.source.rank count (replies c h)
replies_are_for c h count is =
    record {
      each = called_are_for (after_lesson h.lesson c h.source) h.source (frame_in h.word);
      many = sym is;
    }

-- ---- the sessions can send them

pub can_send : (size : ℕ) (place : Place) (fs : List OutgoingText) → size ≡ place.size →
    AllByRecursion (CanGo size) fs →
    All (CanSend place) fs
can_send size place [] same go = All-nil (CanSend place)
can_send size place (f ∷ fs) same go =
    All-cons (CanSend place) f fs
    (record { there = subst (λ (n : ℕ). f.target < n) same go.0.there; fits = go.0.fits })
    (can_send size place fs same go.1)

-- what the program hands to the sessions says what the core calls for
pub outgoing_says : (c : CoreState) (h : HeardText) (os : List Outgoing) (fs : List Outgoing) →
    os ≡ fs →
    map outgoing_text fs ≡ news_frames c (news_of h) → sendings os ≡ replies c h
outgoing_says c h os fs same are = ap sendings same ∙ are

pub outgoing_can_go : (c : CoreState) (place : Place) (h : HeardText) (os : List Outgoing) → sendings os ≡ replies c h →
    c.place ≡ place →
    AllByRecursion (CanGo c.place.size) (news_frames c (news_of h)) → All (CanSend place) (sendings os)
outgoing_can_go c place h os says same go =
    subst (λ (fs : List OutgoingText). All (CanSend place) fs) (sym says)
    (can_send c.place.size place (news_frames c (news_of h)) (ap (λ (p : Place). p.size) same) go)

-- ---- what becomes of it

-- where there is no limit, only memory was wanting
pub only_memory : (l : Option lower.SessionRefusal) (e : lower.SessionRefusal) → l ≡ None → lowest.IsRefusal l e →
    e ≡ lowers.OutOfMemory
only_memory None e is refused = refused
only_memory (Some f) e is refused = absurd cc
