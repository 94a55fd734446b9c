-- What isn't held any more leaves the room as it was; what is neither 30 nor 13 is 14.
use Rattle.std.proofs.Common.{◌≡◌, length, refl, subst, inr}
use Rattle.engine_calls.specs.EngineState.{EngineState}
use Rattle.engine.proofs.TurnLaws.{discard_within}
use Rattle.engine.proofs.WithoutMemory.{memory_alone}
use Rattle.engine.proofs.engine.Engine.discard_or_keep.Goals as goal

pub returns-in-BadFrame-clause-within : goal.returns-in-BadFrame-clause-within
returns-in-BadFrame-clause-within c =
    discard_within c.args.self.now c.discard.new.self c.args.source c.requires
    (subst (λ (e : EngineState). length e.sessions.peers ≡ e.sessions.place.size) c.self.view_is
    c.place-place.ensures.peers)
    c.discard.ensures

pub returns-in_default-clause-exact : goal.returns-in_default-clause-exact
returns-in_default-clause-exact c = λ is.
    (inr refl, memory_alone c.args.refused is c.in_default.not-BadFrame c.in_default.not-Limit, refl)
