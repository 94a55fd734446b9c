-- What a frame meets at a rank that takes it, and what it leaves of the rank and of its core in the network, before a
-- blocked call is answered.
use Rattle.std.specs.Prelude.{◌≡◌, ℕ, ◌<◌, List, None}
use Rattle.std.specs.List.{AllByRecursion}
use Rattle.datagram.specs.Spellings.{ClearFrame, ClearText, DataFrame, DataText, EagerFrame, EagerText}
use Rattle.datagram.specs.Spellings.{FrameIsWithinFields, FrameText, RequestFrame, RequestText}
use Rattle.vocabulary.specs.declared.endpoint.Endpoint.{Endpoint}
use Rattle.point_to_point_calls.specs.FrameNews.{frame_fault}
use Rattle.point_to_point.specs.CoreState.{CoreState}
use Rattle.point_to_point.specs.Arrivals.{after_frame, frame_calls_for}
use Rattle.proof_pure_network.specs.Core.{Core}
use Rattle.proof_pure_network.specs.Engine.{came}
use Rattle.proof_pure_network.specs.Frames.{Frame}
use Rattle.proof_engine_view.specs.Frames.{endpoint_of}
use Rattle.proof_engine_view.specs.Rows.{Row}
use Rattle.proof_engine_view.specs.CoreViews.{IsBlocked}
use Rattle.proof_engine_view.specs.FrameViews.{AreSent, CanLeave, StandsFor, all_gone}
use Rattle.proof_engine_view.specs.Transfers.{Announcements}
use Rattle.proof_engine_steps.specs.Steps.{CollectsOnce}
use Rattle.proof_engine_steps.proofs.UnchangedTransfers.{AreQuiet}
use Rattle.proof_engine_steps.proofs.BlockedRanks.{Holding}

-- what a rank and its core hold before a blocked call is answered
pub record HoldBoth (links : Announcements) (e : CoreState) (known : List ℕ) (core : Core) : Type 0 where
  pub rows : List Row
  pub holding : Holding links e known core rows
  pub awaited : IsBlocked rows e.blocked core.blocked

-- A frame of another rank of the job, at the incarnation at which this one is known, comes once its lesson was learnt,
-- if it brought one; it stands for this frame of the network, and no rule refuses it
pub record Meets (links : Announcements) (e : CoreState) (known : List ℕ) (core : Core) (s : Endpoint)
    (text : FrameText) (frame : Frame) : Type 0 where
  pub both : HoldBoth links e known core
  pub sender : s ≡ endpoint_of known s.rank
  pub there : s.rank < e.place.size
  pub apart : s.rank ≡ e.place.endpoint.rank → ⊥
  pub stands : StandsFor (links.from s) (links.to s) text frame
  pub within : FrameIsWithinFields text
  pub taken : frame_fault e.transfers s.rank text ≡ None
  pub once : CollectsOnce core

-- both take it: they hold the same, what goes out announces nothing, and stands for the core's frames
pub record IsTaken (links : Announcements) (e : CoreState) (known : List ℕ) (core : Core) (s : Endpoint)
    (text : FrameText) (frame : Frame) : Type 0 where
  pub both : HoldBoth links (after_frame e s text) known (came core s frame).core
  pub place : (after_frame e s text).place ≡ e.place
  pub completion : (after_frame e s text).completion ≡ e.completion
  pub quiet : AreQuiet (came core s frame).out
  pub sends : AreSent links (all_gone known (frame_calls_for e s text)) (came core s frame).out
  pub leaves : AllByRecursion (CanLeave e.place) (frame_calls_for e s text)

-- so it is with each whole message
abbrev pub MessagesAreTaken : Type 0
MessagesAreTaken =
    (links : Announcements) (e : CoreState) (known : List ℕ) (core : Core) (s : Endpoint) (t : EagerText)
    (frame : Frame) →
    Meets links e known core s (EagerFrame t) frame → IsTaken links e known core s (EagerFrame t) frame

-- with each announcement
abbrev pub AnnouncementsAreTaken : Type 0
AnnouncementsAreTaken =
    (links : Announcements) (e : CoreState) (known : List ℕ) (core : Core) (s : Endpoint) (t : RequestText)
    (frame : Frame) →
    Meets links e known core s (RequestFrame t) frame → IsTaken links e known core s (RequestFrame t) frame

-- with each answer
abbrev pub AnswersAreTaken : Type 0
AnswersAreTaken =
    (links : Announcements) (e : CoreState) (known : List ℕ) (core : Core) (s : Endpoint) (t : ClearText)
    (frame : Frame) →
    Meets links e known core s (ClearFrame t) frame → IsTaken links e known core s (ClearFrame t) frame

-- and with each piece of data
abbrev pub PiecesAreTaken : Type 0
PiecesAreTaken =
    (links : Announcements) (e : CoreState) (known : List ℕ) (core : Core) (s : Endpoint) (t : DataText)
    (frame : Frame) →
    Meets links e known core s (DataFrame t) frame → IsTaken links e known core s (DataFrame t) frame
