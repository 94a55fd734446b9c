-- A call leaves the rank at one place, by its core and by its sessions.
use Rattle.std.proofs.Common.{◌≡◌, None, sym, ◌∙◌}
use Rattle.point_to_point.specs.CoreState.{CoreState}
use Rattle.sessions.specs.SessionsState.{SessionsState}
use Rattle.engine_calls.proofs.Laws.{core_placed, core_stays}
use Rattle.engine_calls.specs.Asks.{engine_of, groups_of}
use Rattle.engine_calls.specs.Calls.{CoreGives}
use Rattle.engine_calls.specs.EngineState.{Rest}
use Rattle.engine_calls.specs.declared.call.Call.{Call}
use Rattle.engine_calls.specs.declared.reply.Reply.{Reply}
use Rattle.engine.specs.declared.parts.Parts.{Parts}

pub stays_placed : (p : Parts) (c : CoreState) (s : SessionsState) (call : Call) (reply : Reply) →
    ((rest : Rest) →
    CoreGives (engine_of p.core.state (groups_of p.communicators) rest p.sessions) call reply
    (engine_of c (groups_of p.communicators) rest s)) → c.place ≡ s.place
stays_placed p c s call reply gives =
    let rest : Rest = record { ended = None; payloads = p.core.payloads.state } in
    core_stays _ _ call reply (gives rest) ∙ (p.placed ∙ sym (core_placed _ _ call reply (gives rest)))
