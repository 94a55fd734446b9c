-- Which requests an engine gave: those of operations that it started, and messages that it took out of matching.
use Rattle.std.specs.Prelude.{◌≡◌, ◌≤◌, ◌⊎◌, List, [], ◌∷◌, Option, Some, None, option_and_then}
use Rattle.std.specs.List.{AllByRecursion}
use Rattle.vocabulary.specs.declared.endpoint.Endpoint.{Endpoint}
use Rattle.engine_calls.specs.declared.call.Call.{Call}
use Rattle.engine_calls.specs.declared.call.Call.TheVariants as calls
use Rattle.engine_calls.specs.EngineState.{EngineState}
use Rattle.proof_request_keys.specs.Keys.{IsNamed}
use Rattle.observation.specs.Requests.{request_given}
use Rattle.requests.specs.declared.table.Request.{Request}
use Rattle.world.specs.declared.event.HistoryEntry.{HistoryEntry}

-- the requests that a call names; none is the null request, or the message of the null process
abbrev pub requests_named : Call → List (Option Request)
requests_named (calls.Isend s) = []
requests_named (calls.Irecv v) = []
requests_named (calls.Wait q) = q ∷ []
requests_named (calls.Test q) = q ∷ []
requests_named (calls.Waitany qs) = qs
requests_named (calls.Waitall qs) = qs
requests_named (calls.Cancel q) = q ∷ []
requests_named (calls.Iprobe p) = []
requests_named (calls.Improbe p) = []
requests_named (calls.Mrecv q into) = q ∷ []
requests_named (calls.Enter comm x) = []
requests_named (calls.Ask comm q) = []

-- an entry of the history gives a request at an endpoint
pub record GivesRequest (entry : HistoryEntry) (x : Endpoint) (q : Request) : Type 0 where
  pub endpoint : entry.endpoint ≡ x
  pub gave : option_and_then request_given entry.reply ≡ Some q

-- some entry of the history gave the request at that endpoint
abbrev pub WasGiven : List HistoryEntry → Endpoint → Request → Type 0
WasGiven [] x q = ⊥
WasGiven (entry ∷ entries) x q = GivesRequest entry x q ⊎ WasGiven entries x q

-- so it is of a request, or there is none
abbrev pub WasGivenIf : List HistoryEntry → Endpoint → Option Request → Type 0
WasGivenIf history x None = Unit {0}
WasGivenIf history x (Some q) = WasGiven history x q

-- each request that a call names was given at that endpoint
abbrev pub NamesOwn : List HistoryEntry → Endpoint → Call → Type 0
NamesOwn history x call = AllByRecursion (WasGivenIf history x) (requests_named call)

-- ---- what its engine keeps of them

-- an entry is of no endpoint of this rank that is to come
abbrev pub IsPast : Endpoint → HistoryEntry → Type 0
IsPast x entry = entry.endpoint.rank ≡ x.rank → entry.endpoint.incarnation ≤ x.incarnation

-- no entry is of an endpoint of the engine's rank that is to come; and each request that the engine gave stands under
-- its key, as long as it stands
pub record AreNamed (history : List HistoryEntry) (e : EngineState) : Type 0 where
  pub past : AllByRecursion (IsPast e.sessions.place.endpoint) history
  pub named : (q : Request) → WasGiven history e.sessions.place.endpoint q → IsNamed e.core q
