-- The numbers are those of the core, once what was heard is learnt.
use Rattle.std.proofs.Common.{◌≡◌, ℕ, List, Option, map, ap, subst, ◌∙◌}
use Rattle.std.specs.Prelude.{IfErr, IfOk}
use Rattle.point_to_point_calls.specs.declared.refusal.Refusal.{Refusal}
use Rattle.rendezvous.specs.PayloadNumbers.{counted, with_lesson}
use Rattle.rendezvous.specs.State.{State}
use Rattle.rendezvous.specs.declared.transfers.Numbers.{Numbers}
use Rattle.sessions.specs.HeardBytes.{heard_option}
use Rattle.engine_calls.specs.Frames.{all_can_go, lesson_in, numbers_heard}
use Rattle.engine_calls.specs.Steps.{AreReady, IsLeftOut, written}
use Rattle.engine_calls.specs.declared.frames.WrittenStep.{WrittenStep}
use Rattle.engine_calls.proofs.frames.write_step.Goals as goal

pub returns-clause-ok : goal.returns-clause-ok
returns-clause-ok c =
    let h = heard_option c.args.heard.now in
    let base : with_lesson c.lesson_in.result c.transfers.result.now.state.numbers ≡
    numbers_heard c.args.core.now.state.transfers.numbers h =
    ap (λ (l : Option ℕ). with_lesson l c.transfers.result.now.state.numbers) c.lesson_in.ensures
    ∙ ap (λ (t : State). with_lesson (lesson_in h) t.numbers) c.transfers.ensures.state in
    subst
    (λ (n : List Numbers). IfOk c.write_each.result (λ (step : WrittenStep). AreReady c.args.place n c.args.messages.now
    (map written step.frames.items) step.announced.items (counted n step.announced.items)))
    base c.write_each.ensures.ok

pub returns-clause-err : goal.returns-clause-err
returns-clause-err c =
    let h = heard_option c.args.heard.now in
    let base : with_lesson c.lesson_in.result c.transfers.result.now.state.numbers ≡
    numbers_heard c.args.core.now.state.transfers.numbers h =
    ap (λ (l : Option ℕ). with_lesson l c.transfers.result.now.state.numbers) c.lesson_in.ensures
    ∙ ap (λ (t : State). with_lesson (lesson_in h) t.numbers) c.transfers.ensures.state in
    subst
    (λ (n : List Numbers). IfErr c.write_each.result
    (λ (e : Refusal). IsLeftOut (all_can_go c.args.place n c.args.messages.now) e))
    base c.write_each.ensures.err
