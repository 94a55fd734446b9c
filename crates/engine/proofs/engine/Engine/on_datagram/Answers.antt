use Rattle.std.proofs.Common.{◌≡◌, Result, Ok, Err, OnOk, sym, subst}
use Rattle.point_to_point_calls.specs.declared.refusal.Refusal.{Refusal}
use Rattle.sessions.specs.Events.{taught_known}
use Rattle.sessions.specs.HeardBytes.{HeardText, heard_text}
use Rattle.engine.proofs.DatagramLaws.{heard_is_known, hearing_is, refusal_leaves, turned_away}
use Rattle.engine.specs.Datagrams.{HearingGives}
use Rattle.engine_calls.specs.EngineState.{EngineState}
use Rattle.engine.specs.Parts.{engine_with}
use Rattle.engine.proofs.engine.Engine.on_datagram.Goals as goal

pub returns-in-Ok-clause-exact : goal.returns-in-Ok-clause-exact
returns-in-Ok-clause-exact c =
    let h : HeardText = heard_text c.in-Ok.heard in
    rw (← c.self.view_is, c.in-Ok.ensures.exact)
    (subst (λ (e : EngineState). HearingGives (Ok h) e c.take_in-taken.result c.take_in-taken.new.self) (sym c.self.view_is)
    (hearing_is h c.args.self.now c.take_in-taken.new.self c.take_in-taken.result c.take_in-taken.ensures.taken
    c.take_in-taken.ensures.refused))

pub returns-in-Err-clause-exact : goal.returns-in-Err-clause-exact
returns-in-Err-clause-exact c =
    let i = c.self.inside in
    rw (← c.self.view_is, c.of_sessions.ensures, c.in-Err.ensures.exact)
    (turned_away (engine_with i.parts i.ended) c.refuse.new.self
    c.in-Err.unheard c.refuse.result c.refuse.ensures.exact)

pub returns-in-Ok-clause-known : goal.returns-in-Ok-clause-known
returns-in-Ok-clause-known c =
    let i = c.self.inside in
    let h : HeardText = heard_text c.in-Ok.heard in
    heard_is_known (engine_with i.parts i.ended) c.take_in-taken.new.self
    c.args.bytes.now h c.take_in-taken.result
    c.place-place.ensures.known c.in-Ok.ensures.exact
    (subst (λ (e : EngineState). OnOk c.take_in-taken.result (c.take_in-taken.new.self.sessions.known ≡
    taught_known h.lesson e.sessions.known h.source)) (sym c.self.view_is)
    c.take_in-taken.ensures.known)

pub returns-in-Ok-clause-unchanged : goal.returns-in-Ok-clause-unchanged
returns-in-Ok-clause-unchanged c =
    refusal_leaves c.args.self.now _ c.args.bytes.now c.take_in-taken.result (returns-in-Ok-clause-exact c)

pub returns-in-Err-clause-unchanged : goal.returns-in-Err-clause-unchanged
returns-in-Err-clause-unchanged c =
    let failed : Refusal → Result (Unit {0}) Refusal = λ r. Err r in
    refusal_leaves c.args.self.now _ c.args.bytes.now (failed c.of_sessions.result) (returns-in-Err-clause-exact c)
