-- Engines whose parts are the same.
use Rattle.std.proofs.Common.{◌≡◌, Option}
use Rattle.collective_steps.specs.declared.step.Ending.{Ending}
use Rattle.engine.specs.Parts.{engine_with}
use Rattle.engine.specs.declared.parts.Parts.{Parts}
use Rattle.engine_calls.specs.Asks.{groups_of}
use Rattle.engine_calls.specs.EngineState.{trimmed}
use Rattle.point_to_point.specs.CoreState as cores

-- each part is the same, but for empty places at the end of the table of requests
pub engine_same : (p q : Parts) (a b : Option Ending) → cores.trimmed p.core.state ≡ cores.trimmed q.core.state →
    groups_of p.communicators ≡ groups_of q.communicators → p.core.payloads.state ≡ q.core.payloads.state →
    p.sessions ≡ q.sessions → a ≡ b → trimmed (engine_with p a) ≡ trimmed (engine_with q b)
engine_same p q a b core groups payloads sessions ended =
    λ i. record {
      core = core i;
      groups = groups i;
      ended = ended i;
      payloads = payloads i;
      sessions = sessions i;
    }
