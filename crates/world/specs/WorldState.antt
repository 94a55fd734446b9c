-- A world: its engines, every datagram that they emitted, and what happened.
use Rattle.std.specs.Prelude.{◌≡◌, ℕ, ◌*◌, ◌+◌, ◌<◌, ◌≤◌, Bool, ◌||◌, ◌==◌, nat_lt, List, [], length, All, Some}
use Rattle.std.specs.Prelude.{slice_get}
use Rattle.engine_calls.specs.EngineState.{EngineState}
use Rattle.proof_network_bridge.specs.WorldViews.{IsClean, limit_in, opening_engines}
use Rattle.vocabulary.specs.Limits.{most_ranks}
use Rattle.vocabulary.specs.MessageLimits.{least}
use Rattle.vocabulary.specs.declared.message_limit.MessageLimit.{MessageLimit}
use Rattle.world.specs.declared.event.HistoryEntry.{HistoryEntry}

-- a world
pub record WorldState : Type 0 where
  pub engines : List EngineState
  -- each datagram's target rank and bytes, by its number
  pub datagrams : List (ℕ × List ℕ)
  pub history : List HistoryEntry
  -- for how many datagrams and entries there is room, those that are there included
  pub datagram_room : ℕ
  pub entry_room : ℕ

-- there is room for what one event may add: 65 datagrams for each rank, and an entry
pub record HasRoom (w : WorldState) : Type 0 where
  pub datagrams : length w.datagrams + 65 * length w.engines ≤ w.datagram_room
  pub entries : length w.history + 1 ≤ w.entry_room

-- no world has so many ranks: 1 to 1,024 it has
abbrev pub is_outside : ℕ → Bool
is_outside n = (n == 0) || nat_lt most_ranks n

-- a world of n ranks with this limit of messages, in which nothing happened yet
abbrev pub opening_world_of : MessageLimit → ℕ → WorldState
opening_world_of l n = record {
  engines = opening_engines l n 0 n;
  datagrams = [];
  history =
      [];
  datagram_room = 0;
  entry_room = 0;
}

-- one with the limit of scripts
abbrev pub opening_world : ℕ → WorldState
opening_world n = opening_world_of least n

-- the engine is one of n, and everything was taken out of it
pub record StandsIn (n : ℕ) (e : EngineState) : Type 0 where
  pub size : e.sessions.place.size ≡ n
  pub clean : IsClean e

-- the engine is one of at most 1,024 ranks, and everything was taken out of it
pub record IsReady (e : EngineState) : Type 0 where
  pub there : e.sessions.place.endpoint.rank < e.sessions.place.size
  pub few : e.sessions.place.size ≤ most_ranks
  pub clean : IsClean e

-- the engine's place is that of rank r among n, in the world's job, which has this limit of messages
pub record IsPlaced (n : ℕ) (limit : MessageLimit) (r : ℕ) (e : EngineState) : Type 0 where
  pub limit_is : e.sessions.place.message_limit ≡ limit
  pub size : e.sessions.place.size ≡ n
  pub rank : e.sessions.place.endpoint.rank ≡ r
  pub job : e.sessions.place.job ≡ 1

-- each engine stands at its own rank
abbrev pub ArePlaced : List EngineState → Type 0
ArePlaced engines =
    (r : ℕ) (e : EngineState) → slice_get engines r ≡ Some e →
    IsPlaced (length engines) (limit_in engines) r e

-- a world's engines know how many they are
abbrev pub IsWorld : List EngineState → Type 0
IsWorld engines = (length engines ≤ most_ranks) × All (StandsIn (length engines)) engines
