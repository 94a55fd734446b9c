-- What follows can be heard, and its number isn't the last one.
use Rattle.std.proofs.Common.{◌<◌, length, sym, ap, subst, ◌∙◌, arith}
use Rattle.std.specs.Option.{is_some}
use Rattle.sessions.specs.HeardBytes.{heard_text}
use Rattle.engine_calls.specs.EngineState.{EngineState}
use Rattle.engine.proofs.TurnLaws.{can_hear, left, of_bytes}
use Rattle.engine.proofs.engine.Engine.spell_turn.Goals as goal

pub limit_of-requires-clause-can : goal.limit_of-requires-clause-can
limit_of-requires-clause-can c =
    let s = c.self.inside.parts.sessions in
    let within : c.args.source.rank < s.place.size = subst (λ (e : EngineState). c.args.source.rank < e.sessions.place.size) (sym c.self.view_is) c.requires.there in
    let there : c.args.source.rank < length s.peers = omega (arith, within, c.place-place.ensures.peers) in
    can_hear s c.args.source (heard_text c.args.heard)
    (of_bytes c.args.source c.args.bytes.now (heard_text c.args.heard) c.requires.turn) there

pub spell_behind-requires-clause-left : goal.spell_behind-requires-clause-left
spell_behind-requires-clause-left c =
    left c.self.inside.parts.sessions c.args.source (heard_text c.args.heard)
    (of_bytes c.args.source c.args.bytes.now (heard_text c.args.heard) c.requires.turn)
    (ap is_some (sym c.limit_of.ensures) ∙ sym c.if-is_some.ensures)
