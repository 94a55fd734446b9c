-- Why stray bytes are refused.
use Rattle.std.specs.Prelude.{◌≡◌, ℕ, ◌==◌, ◌&&◌, Bool, nat_le, List, length, Result, Ok, Err, if◌then◌else◌}
use Rattle.datagram.specs.declared.refusal.DatagramRefusal as lowest
use Rattle.datagram.specs.Spellings.{DatagramText}
use Rattle.datagram.specs.ByteMeanings.{datagram_within, number_at}
use Rattle.engine.specs.Datagrams.{DatagramGives}
use Rattle.engine_calls.specs.EngineState.{EngineState}
use Rattle.point_to_point_calls.specs.declared.refusal.Refusal as lower
use Rattle.point_to_point_calls.specs.declared.refusal.Refusal.TheVariants as engines
use Rattle.point_to_point_calls.specs.Refusals.{of_datagram}
use Rattle.vocabulary.specs.declared.message_limit.MessageLimit.{MessageLimit}
use Rattle.world.specs.declared.refusal.WorldRefusal.{WorldRefusal}
use Rattle.world.specs.declared.refusal.WorldRefusal.TheVariants.{Engine, CarriesJob}

-- whether bytes 16 to 23 are there, and spell the world's job number
abbrev pub carries_job : List ℕ → Bool
carries_job bytes = nat_le 24 (length bytes) && (number_at 16 8 bytes == 1)

-- why bytes of another job than the world's are refused, by what they spell: they spell no datagram, or one of another
-- job
abbrev pub fault_of_text : Result DatagramText lowest.DatagramRefusal → WorldRefusal
fault_of_text (Err e) = Engine (of_datagram e)
fault_of_text (Ok d) = Engine engines.ForeignJob

-- why stray bytes are refused: they carry the world's job number (63), or by what they spell within the job's limit of
-- messages
abbrev pub stray_fault : (limit : MessageLimit) → List ℕ → WorldRefusal
stray_fault limit bytes = if carries_job bytes then CarriesJob else fault_of_text (datagram_within limit bytes)

-- whatever memory there is, the engine would refuse the bytes by this number, and stay as it was
abbrev pub EngineRefuses : EngineState → List ℕ → WorldRefusal → Type 0
EngineRefuses e bytes why =
    (result : Result (Unit {0}) lower.Refusal) (new : EngineState) → DatagramGives e bytes result new →
    (new ≡ e) × ((x : lower.Refusal) × (result ≡ Err x) × (why ≡ Engine x))
