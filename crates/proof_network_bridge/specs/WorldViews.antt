-- What joins a world of engines to the pure network with communicators.
use Rattle.std.specs.Prelude.{◌≡◌, ℕ, zero, suc, ◌<◌, ◌≤◌, List, [], ◌∷◌, Some, None, slice_get}
use Rattle.datagram.specs.Spellings.{FrameText}
use Rattle.engine_calls.specs.EngineState.{EngineState, opening}
use Rattle.perfect_groups.specs.Events.{Entry}
use Rattle.proof_collective_steps.specs.MemberViews as collectives
use Rattle.proof_engine_view.specs.CoreViews.{IsShown}
use Rattle.proof_group_network.specs.SessionContents.{Sessions}
use Rattle.proof_group_network.specs.Network.{GroupNetwork, Happening, new_group_network, run}
use Rattle.link_truth.specs.Truth.{AreTrue}
use Rattle.link_truth.specs.Wire.{at, in_job, place_of}
use Rattle.endpoint_links.specs.Links.{LinksOf}
use Rattle.proof_pure_network.specs.Core.{new_core}
use Rattle.proof_pure_network.specs.Network.{here}
use Rattle.proof_session_carrying.specs.Announcements.{announcements_in}
use Rattle.proof_session_carrying.specs.SessionViews.{Saying}
use Rattle.proof_session_carrying.specs.EventLaws.{AreJoined}
use Rattle.proof_network_bridge.specs.Payloads.{ArePayloads}
use Rattle.vocabulary.specs.MessageLimits.{least}
use Rattle.vocabulary.specs.declared.endpoint.Endpoint.{Endpoint}
use Rattle.vocabulary.specs.declared.message_limit.MessageLimit.{MessageLimit}
pub use Rattle.observation.specs.Sessions.{sessions_in}

-- the engines of k ranks among n, from this rank on, at their first incarnations, in a job of this message limit
abbrev pub opening_engines : (l : MessageLimit) (n rank : ℕ) → ℕ → List EngineState
opening_engines l n rank zero = []
opening_engines l n rank (suc k) = opening (in_job l (place_of n (at rank 0))) ∷ opening_engines l n (suc rank) k

-- the limit of messages of these engines, which all have one: that of scripts where there is no engine
abbrev pub limit_in : List EngineState → MessageLimit
limit_in [] = least
limit_in (e ∷ es) = e.sessions.place.message_limit

-- an engine out of which everything was taken
pub record IsClean (e : EngineState) : Type 0 where
  pub out : e.sessions.out ≡ []
  pub completion : e.core.completion ≡ None
  pub ended : e.ended ≡ None

-- An engine holds what the core and the member of its rank's current endpoint hold: of point to point with what its
-- sessions know, under the numbers that these sessions give, whatever serials notices have there
pub record IsHeldBy (w : GroupNetwork) (sessions : Sessions) (r : ℕ) (e : EngineState) : Type 0 where
  pub queues : (serial : ℕ) →
      IsShown (announcements_in serial sessions (here w.net r)) e.core e.sessions.known (w.net.core (here w.net r))
  pub groups : collectives.IsShown (here w.net r) e.groups.collective e.groups.contexts (w.member (here w.net r)) None
  -- all parts of an engine stand at one place
  pub placed : e.core.place ≡ e.sessions.place

-- Sessions and datagrams tell of the texts that links carry; those stand for what the network's sessions carry, frames
-- of messages and these messages of collectives; and each engine holds what its rank's current endpoint holds
pub record IsJoined (n : ℕ) (engines : List EngineState) (datagrams : List (ℕ × List ℕ)) (w : GroupNetwork) : Type
    0 where
  pub texts : LinksOf FrameText
  pub links : AreTrue n (sessions_in engines) datagrams texts w.net.current
  pub sessions : Sessions
  pub said : Saying
  pub between : AreJoined w said texts sessions
  pub held : (r : ℕ) (e : EngineState) → slice_get engines r ≡ Some e → IsHeldBy w sessions r e
  pub clean : (r : ℕ) (e : EngineState) → slice_get engines r ≡ Some e → IsClean e
  -- the payloads of collectives that an engine keeps are notices of its sessions
  pub payloads : (r : ℕ) (e : EngineState) → slice_get engines r ≡ Some e →
      ArePayloads w.net.message_limit sessions said (here w.net r) e.sessions.known e.payloads
  -- each has the network's limit of messages
  pub limits : (r : ℕ) (e : EngineState) → slice_get engines r ≡ Some e →
      e.sessions.place.message_limit ≡ w.net.message_limit
  -- endpoints that are to come have done nothing
  pub unborn : (d : Endpoint) → w.net.current d.rank < d.incarnation → w.net.core d ≡ new_core w.net.message_limit d

-- the network of n ranks, in a job with this limit of messages, after these happenings
abbrev pub network_after : (n : ℕ) (limit : MessageLimit) → List Happening → GroupNetwork
network_after n limit happenings = run n happenings (new_group_network n limit)

-- A list of happenings leads to a network of at most 1,024 ranks that is joined to the world, and of which the same is
-- seen
pub record IsFollowed (n : ℕ) (engines : List EngineState) (datagrams : List (ℕ × List ℕ)) (history : List Entry) : Type
    0 where
  pub limit : MessageLimit
  pub happenings : List Happening
  pub few : n ≤ 1024
  pub joined : IsJoined n engines datagrams (network_after n limit happenings)
  pub seen : (network_after n limit happenings).history ≡ history
