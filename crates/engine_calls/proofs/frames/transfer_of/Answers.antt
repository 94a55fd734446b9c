-- Each exit tells whether the message can go, and under which number.
use Rattle.std.proofs.Common.{ℕ, ◌<◌, ◌≤◌, sym, subst, ◌∙◌}
use Rattle.rendezvous.specs.PayloadNumbers.{counted, with_lesson}
use Rattle.engine_calls.proofs.StepNumbers.{announced_goes, announced_has, none_left, out_of_job, out_of_tags, too_long}
use Rattle.engine_calls.proofs.StepNumbers.{whole_goes, whole_has_none}
use Rattle.engine_calls.proofs.frames.transfer_of.Goals.{then-message-place-via-then-message-place}
use Rattle.engine_calls.proofs.frames.transfer_of.Goals.{then-message-place-via-else-message-place+then-message-gt-HIGHEST_TAG}
use Rattle.engine_calls.proofs.frames.transfer_of.Goals as goal

pub returns-then-message-place-clause-err : goal.returns-then-message-place-clause-err
returns-then-message-place-clause-err c =
    let ns = counted (with_lesson c.args.lesson c.args.transfers.now.state.numbers) c.args.announced.now in
    elim c.then-message-place.branch [
      | then-message-place-via-then-message-place w ↦
          out_of_job c.args.place ns c.args.message.now w.if-message-place.true
      | then-message-place-via-else-message-place+then-message-gt-HIGHEST_TAG w ↦
          out_of_tags c.args.place ns c.args.message.now w.if-message-gt-HIGHEST_TAG.true
    ]

pub returns-then-count-frame_bytes-clause-ok : goal.returns-then-count-frame_bytes-clause-ok
returns-then-count-frame_bytes-clause-ok c =
    whole_has_none c.args.place.message_limit (counted (with_lesson c.args.lesson c.args.transfers.now.state.numbers) c.args.announced.now)
    c.args.message.now c.args.count c.requires.count (subst (λ (n : ℕ). c.args.count ≤ n) c.frame_bytes.ensures.exact c.if-count-frame_bytes.true)

pub returns-then-count-frame_bytes-clause-goes : goal.returns-then-count-frame_bytes-clause-goes
returns-then-count-frame_bytes-clause-goes c =
    whole_goes c.args.place (counted (with_lesson c.args.lesson c.args.transfers.now.state.numbers) c.args.announced.now)
    c.args.message.now c.args.count c.requires.count c.if-message-place.false c.if-message-gt-HIGHEST_TAG.false
    (subst (λ (n : ℕ). c.args.count ≤ n) c.frame_bytes.ensures.exact c.if-count-frame_bytes.true)

pub returns-then-count-gt-GREATEST_LIMIT-clause-err : goal.returns-then-count-gt-GREATEST_LIMIT-clause-err
returns-then-count-gt-GREATEST_LIMIT-clause-err c =
    too_long c.args.place (counted (with_lesson c.args.lesson c.args.transfers.now.state.numbers) c.args.announced.now)
    c.args.message.now c.args.count c.requires.count c.if-count-gt-GREATEST_LIMIT.true

pub returns-in-Some-clause-ok : goal.returns-in-Some-clause-ok
returns-in-Some-clause-ok c =
    announced_has c.args.place.message_limit (counted (with_lesson c.args.lesson c.args.transfers.now.state.numbers) c.args.announced.now)
    c.args.message.now c.args.count c.in-Some.transfer c.requires.count (subst (λ (n : ℕ). n < c.args.count) c.frame_bytes.ensures.exact c.if-count-frame_bytes.false)
    (sym c.in-Some.is ∙ c.number_behind.ensures)

pub returns-in-Some-clause-goes : goal.returns-in-Some-clause-goes
returns-in-Some-clause-goes c =
    announced_goes c.args.place
    (counted (with_lesson c.args.lesson c.args.transfers.now.state.numbers) c.args.announced.now) c.args.message.now
    c.args.count c.in-Some.transfer c.requires.count c.if-message-place.false c.if-message-gt-HIGHEST_TAG.false
    (subst (λ (n : ℕ). n < c.args.count) c.frame_bytes.ensures.exact c.if-count-frame_bytes.false) c.if-count-gt-GREATEST_LIMIT.false (sym c.in-Some.is ∙ c.number_behind.ensures)

pub returns-in-None-clause-err : goal.returns-in-None-clause-err
returns-in-None-clause-err c =
    none_left c.args.place (counted (with_lesson c.args.lesson c.args.transfers.now.state.numbers) c.args.announced.now)
    c.args.message.now c.args.count c.requires.count (subst (λ (n : ℕ). n < c.args.count) c.frame_bytes.ensures.exact c.if-count-frame_bytes.false)
    c.if-count-gt-GREATEST_LIMIT.false (sym c.in-None.is ∙ c.number_behind.ensures)
