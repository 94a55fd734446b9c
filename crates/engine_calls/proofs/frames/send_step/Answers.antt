-- A step is sent.
use Rattle.std.proofs.Common.{map, ap, ◌∙◌}
use Rattle.incarnation.specs.declared.place.Place.{Place}
use Rattle.rendezvous.specs.PayloadNumbers.{counted}
use Rattle.sessions.specs.HeardBytes.{heard_option}
use Rattle.engine_calls.proofs.StepFrames.{written_send}
use Rattle.engine_calls.proofs.StepNumbers.{ready_left}
use Rattle.engine_calls.specs.Frames.{numbers_heard, step_numbers, step_payloads}
use Rattle.engine_calls.specs.Steps.{written}
use Rattle.engine_calls.proofs.frames.send_step.Goals as goal

pub send_written-requires-clause-go : goal.send_written-requires-clause-go
send_written-requires-clause-go c =
    let ns = numbers_heard c.args.core.now.state.transfers.numbers (heard_option c.args.heard) in
    written_send c.place-place.result c.args.sessions.now.place ns (counted ns c.in_ok-step.step.announced.items)
    c.args.messages.now
    (map written c.in_ok-step.step.frames.items) (map written c.deref.result.now) c.in_ok-step.step.announced.items
    c.place-place.ensures.place
    (ap (map written) c.deref.ensures.value) c.in_ok-step.ensures.ok

pub returns-clause-left : goal.returns-clause-left
returns-clause-left c =
    let ns = numbers_heard c.args.core.now.state.transfers.numbers (heard_option c.args.heard) in
    ready_left c.place-place.result ns (counted ns c.in_ok-step.step.announced.items) c.args.messages.now
    (map written c.in_ok-step.step.frames.items) c.in_ok-step.step.announced.items c.in_ok-step.ensures.ok

pub returns-clause-counted : goal.returns-clause-counted
returns-clause-counted c =
    let ns = numbers_heard c.args.core.now.state.transfers.numbers (heard_option c.args.heard) in
    c.in_ok-step.ensures.ok.numbers
    ∙ ap (λ (p : Place). step_numbers p.message_limit ns c.args.messages.now) c.place-place.ensures.place

pub returns-clause-announced : goal.returns-clause-announced
returns-clause-announced c =
    let ns = numbers_heard c.args.core.now.state.transfers.numbers (heard_option c.args.heard) in
    c.in_ok-step.ensures.ok.kept
    ∙ ap (λ (p : Place). step_payloads p.message_limit ns c.args.messages.now) c.place-place.ensures.place
