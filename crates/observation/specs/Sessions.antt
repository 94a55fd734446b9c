-- The sessions of all engines of a world.
use Rattle.std.specs.Prelude.{List, map}
use Rattle.engine_calls.specs.EngineState.{EngineState}
use Rattle.sessions.specs.SessionsState.{SessionsState}

-- the sessions of these engines, rank by rank
abbrev pub sessions_in : List EngineState → List SessionsState
sessions_in engines = map (λ (e : EngineState). e.sessions) engines
