-- Without memory the next frame is discarded or kept by the rule that it breaks, if it breaks one.
use Rattle.std.proofs.Common.{Some, subst}
use Rattle.engine_calls.specs.EngineState.{EngineState}
use Rattle.engine.specs.Datagrams.{turn_from}
use Rattle.engine.specs.HeldFrameEnds.{GoesOrStays, IsTurnRefusal}
use Rattle.engine.proofs.TurnLaws.{left_next}
use Rattle.engine.proofs.engine.Engine.leave.Goals as goal

pub returns-in-Some-clause-exact : goal.returns-in-Some-clause-exact
returns-in-Some-clause-exact c =
    left_next (turn_from c.args.self.now c.args.source) c.in-Some.refused c.discard_or_keep.result c.args.source
    c.args.self.now c.discard_or_keep.new.self c.in-Some.ensures.exact
    (subst (λ (e : EngineState). IsTurnRefusal c.in-Some.refused →
    GoesOrStays c.in-Some.refused c.discard_or_keep.result c.args.source e c.discard_or_keep.new.self)
    c.refuse_next.ensures.kept c.discard_or_keep.ensures.exact)
