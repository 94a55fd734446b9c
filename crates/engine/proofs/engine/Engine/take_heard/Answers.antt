use Rattle.std.proofs.Common.{ap, ◌∙◌}
use Rattle.sessions.specs.HeardBytes.{heard_text}
use Rattle.engine_calls.specs.EngineState.{EngineState}
use Rattle.engine.proofs.TurnLaws.{heard_stays}
use Rattle.engine.proofs.engine.Engine.take_heard.Goals as goal

pub returns-in_err-ending-clause-placed : goal.returns-in_err-ending-clause-placed
returns-in_err-ending-clause-placed c =
    heard_stays c.self.inside.parts c.hear.new.self (heard_text c.args.heard) c.hear.result c.hear.ensures.exact
    ∙ ap (λ (e : EngineState). e.sessions.place) c.self.view_is
