-- For what the payloads of collectives stand that an engine announced, and those that come to it in pieces.
use Rattle.std.specs.Prelude.{◌≡◌, ℕ, ◌*◌, ◌<◌, ◌≤◌, List, Some, length, slice_get, take}
use Rattle.std.specs.List.{AllByRecursion}
use Rattle.collective_messages.specs.declared.message.CollectiveMessage.{CollectiveMessage}
use Rattle.rendezvous.specs.Payloads.{Announced, Coming}
use Rattle.rendezvous.specs.PayloadState as payloads
use Rattle.proof_engine_view.specs.Frames.{endpoint_of}
use Rattle.proof_group_network.specs.SessionContents.{Sessions}
use Rattle.proof_pure_network.specs.Announcements.{Begins}
use Rattle.proof_session_carrying.specs.Announcements.{LargeNotice, all_announced}
use Rattle.proof_session_carrying.specs.SessionViews.{Saying, bytes_of_message}
use Rattle.vocabulary.specs.Limits.{greatest_limit}
use Rattle.vocabulary.specs.MessageLimits.{frame_limit_of}
use Rattle.vocabulary.specs.declared.endpoint.Endpoint.{Endpoint}
use Rattle.vocabulary.specs.declared.message_limit.MessageLimit.{MessageLimit}

-- A session of s with d announced a notice under the number of a transfer; this message is the notice, and is too long
-- for a frame of a job with this limit
pub record IsLargeNotice (limit : MessageLimit) (sessions : Sessions) (said : Saying) (s d : Endpoint) (transfer : ℕ)
    (m : CollectiveMessage) : Type 0 where
  pub number : ℕ
  pub named : slice_get (all_announced sessions s d) transfer ≡ Some (LargeNotice number)
  pub there : slice_get (said s d) number ≡ Some m
  pub large : frame_limit_of limit < length (bytes_of_message m)

-- a payload that the endpoint announced is a notice of its session with the endpoint at which its rank is known
pub record IsAnnouncedPayload (limit : MessageLimit) (sessions : Sessions) (said : Saying) (own : Endpoint)
    (known : List ℕ) (a : Announced) : Type 0 where
  pub message : CollectiveMessage
  pub notice : IsLargeNotice limit sessions said own (endpoint_of known a.target) a.transfer message
  pub bytes : a.bytes ≡ bytes_of_message message
  -- it can be sent
  pub short : length a.bytes ≤ greatest_limit

-- a payload that comes to it is one of that endpoint's session with it, and its first pieces have come. It is cut by the
-- job's limit
pub record IsComingPayload (limit : MessageLimit) (sessions : Sessions) (said : Saying) (own : Endpoint)
    (known : List ℕ) (c : Coming) : Type 0 where
  pub limited : c.limit ≡ limit
  pub message : CollectiveMessage
  pub notice : IsLargeNotice limit sessions said (endpoint_of known c.source) own c.transfer message
  pub context : c.context ≡ message.context
  pub number : c.number ≡ message.number
  pub total : c.total ≡ length (bytes_of_message message)
  pub parts : ℕ
  pub some : parts * frame_limit_of limit < length (bytes_of_message message)
  pub bytes : c.bytes ≡ take (parts * frame_limit_of limit) (bytes_of_message message)

-- each that the endpoint keeps, where it knows the ranks at these incarnations
pub record ArePayloads (limit : MessageLimit) (sessions : Sessions) (said : Saying) (own : Endpoint) (known : List ℕ)
    (p : payloads.State) : Type 0 where
  pub announced : AllByRecursion (IsAnnouncedPayload limit sessions said own known) p.announced
  pub coming : AllByRecursion (IsComingPayload limit sessions said own known) p.coming

-- messages were said behind those that had been
abbrev pub SaidGrows : Saying → Saying → Type 0
SaidGrows old new = (s d : Endpoint) → Begins (old s d) (new s d)
