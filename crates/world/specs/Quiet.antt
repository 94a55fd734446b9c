-- When an engine is quiet towards another one.
use Rattle.std.specs.Prelude.{◌≡◌, true, List, All}
use Rattle.engine_calls.specs.EngineState.{EngineState}
use Rattle.incarnation.specs.Judgements.{is_other}
use Rattle.link_truth.specs.Quiet.{IsQuietTowards}

-- e's sessions are quiet towards d's rank, if they are different ranks of one job
abbrev pub IsQuietIfOther : EngineState → EngineState → Type 0
IsQuietIfOther e d =
    is_other e.sessions.place d.sessions.place.endpoint.rank ≡ true →
    is_other d.sessions.place e.sessions.place.endpoint.rank ≡ true →
    IsQuietTowards e.sessions.place.endpoint.rank d.sessions.place.endpoint.rank e.sessions d.sessions

-- each is quiet towards each
abbrev pub AreQuietIfOthers : List EngineState → Type 0
AreQuietIfOthers engines = All (λ e. All (IsQuietIfOther e) engines) engines
