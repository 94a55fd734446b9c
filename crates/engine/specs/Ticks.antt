-- What a tick does to the engine: to its sessions alone.
use Rattle.std.specs.Prelude.{◌≡◌, ℕ, Option, None, Result, Ok, Err, nat_lt, if◌then◌else◌}
use Rattle.point_to_point_calls.specs.declared.refusal.Refusal.{Refusal}
use Rattle.point_to_point_calls.specs.Refusals.{IsRefusal}
use Rattle.point_to_point_calls.specs.declared.refusal.Refusal.TheVariants as refusals
use Rattle.sessions.specs.Peers.{IsAnyDue, with_wait}
use Rattle.sessions.specs.Ticks as lower
use Rattle.engine_calls.specs.EngineState.{EngineState}
use Rattle.engine_calls.specs.Refusals.{fault_of_sessions}

-- the clock never goes back
abbrev pub clock_fault : EngineState → ℕ → Option Refusal
clock_fault e now = fault_of_sessions (lower.clock_fault e.sessions.clock now)

-- the frames that are due go out again
abbrev pub after_tick : EngineState → ℕ → EngineState
after_tick e now = record e { sessions = lower.after_tick e.sessions now }

-- frames to a rank of the job wait so long for their acknowledgements from now on
abbrev pub after_wait : EngineState → (rank wait : ℕ) → EngineState
after_wait e rank wait =
    if nat_lt rank e.sessions.place.size
    then record e { sessions = record e.sessions { peers = with_wait e.sessions.peers rank wait } } else e

-- a tick does this, unless the clock would go back, or else for want of memory, which only a frame that is due can
-- bring; a refusal changes nothing
abbrev pub TickGives : EngineState → ℕ → Result (Unit {0}) Refusal → EngineState → Type 0
TickGives old now (Ok x) new = (clock_fault old now ≡ None) × (new ≡ after_tick old now)
TickGives old now (Err e) new =
    (new ≡ old) × IsRefusal (clock_fault old now) e × (e ≡ refusals.OutOfMemory → IsAnyDue old.sessions.peers now)
