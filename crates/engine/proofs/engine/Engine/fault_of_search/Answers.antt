use Rattle.std.proofs.Common.{sym, ◌∙◌}
use Rattle.engine.proofs.engine.Engine.fault_of_search.Goals.{in-Err, in-Ok}
use Rattle.engine.proofs.engine.Engine.fault_of_search.Goals as goal

pub returns : goal.returns
returns c =
    let i = c.self.inside in
    rw (← c.self.view_is)
    (elim c.match-judge_search.branch [
      | in-Ok w ↦ w.result-is
          ∙ sym (w.in-Ok.ensures.judged (record { ended = i.ended; payloads = i.parts.core.payloads.state })).0.allowed
      | in-Err w ↦ w.result-is
          ∙ sym (w.in-Err.ensures.judged (record { ended = i.ended; payloads = i.parts.core.payloads.state }))
    ])
