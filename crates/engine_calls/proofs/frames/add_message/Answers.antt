-- A message goes in a frame, is announced, or is left out.
use Rattle.std.proofs.Common.{◌≡◌, true, List, Some, None, Ok, Err, length, map, ap, sym, subst, ◌∙◌}
use Rattle.std.specs.Prelude.{OnOk, Result}
use Rattle.std.proofs.lemmas.Result.{IfErr-weaker, on_ok_weaker}
use Rattle.point_to_point_calls.specs.declared.refusal.Refusal.{Refusal}
use Rattle.point_to_point_calls.specs.declared.refusal.Refusal.TheVariants as refusals
use Rattle.rendezvous.specs.PayloadNumbers.{counted, with_lesson}
use Rattle.rendezvous.specs.Payloads.{Announced}
use Rattle.engine_calls.proofs.StepFrames.{few_bytes}
use Rattle.engine_calls.proofs.StepNumbers.{added_announced, added_whole, small_enough}
use Rattle.engine_calls.specs.Frames.{can_go, transfer_of}
use Rattle.engine_calls.specs.Steps.{IsLeftOut, written}
use Rattle.engine_calls.proofs.frames.add_message.Goals as goal

both_on : {T E : Type 0} (P Q : Type 0) (r : Result T E) → OnOk r P → OnOk r Q → OnOk r (P × Q)
both_on P Q (Ok x) p q = (p, q)
both_on P Q (Err e) p q = tt

pub add_whole-requires-clause-small : goal.add_whole-requires-clause-small
add_whole-requires-clause-small c =
    small_enough c.args.place.message_limit (counted (with_lesson c.args.lesson c.args.transfers.now.state.numbers) c.deref.result.now)
    c.args.message.now (length c.in_ok-bytes.bytes.items) (ap length c.in_ok-bytes.ensures.ok)
    (sym c.in-Ok-None.field-0-is ∙ c.in-Ok-None.ensures.ok)

pub add_announced-requires-clause-limit : goal.add_announced-requires-clause-limit
add_announced-requires-clause-limit c =
    few_bytes c.args.place
    (counted (with_lesson c.args.lesson c.args.transfers.now.state.numbers) c.deref.result.now)
    c.args.message.now (length c.in_ok-bytes.bytes.items) (ap length c.in_ok-bytes.ensures.ok) c.in-Ok-Some.ensures.goes

pub returns-in-Ok-None-clause-ok : goal.returns-in-Ok-None-clause-ok
returns-in-Ok-None-clause-ok c =
    let ns = with_lesson c.args.lesson c.args.transfers.now.state.numbers in
    let m = c.args.message.now in
    on_ok_weaker c.add_whole.result
    (added_whole c.args.place ns m (map written c.args.frames.now.items) (map written c.add_whole.new.frames.items)
    c.args.announced.now.items
    (subst (λ (ps : List Announced). can_go c.args.place (counted ns ps) m ≡ true) c.deref.ensures.value
    c.in-Ok-None.ensures.goes)
    (subst (λ (ps : List Announced). None ≡ transfer_of c.args.place.message_limit (counted ns ps) m) c.deref.ensures.value
    (sym c.in-Ok-None.field-0-is ∙ c.in-Ok-None.ensures.ok))
    c.in_ok-bytes.ensures.whole)
    c.add_whole.ensures.ok

pub returns-in-Ok-None-clause-err : goal.returns-in-Ok-None-clause-err
returns-in-Ok-None-clause-err c =
    let goes = can_go c.args.place
    (counted (with_lesson c.args.lesson c.args.transfers.now.state.numbers) c.args.announced.now.items)
    c.args.message.now in
    IfErr-weaker c.add_whole.result (λ (e : Refusal). e ≡ refusals.OutOfMemory) (λ (e : Refusal). IsLeftOut goes e)
    (λ e is. subst (λ (f : Refusal). IsLeftOut goes f) (sym is) tt) c.add_whole.ensures.err

pub returns-in-Ok-Some-clause-ok : goal.returns-in-Ok-Some-clause-ok
returns-in-Ok-Some-clause-ok c =
    let ns = with_lesson c.args.lesson c.args.transfers.now.state.numbers in
    let m = c.args.message.now in
    on_ok_weaker c.add_announced.result
    (λ both. added_announced c.args.place ns m c.in-Ok-Some.transfer (map written c.args.frames.now.items)
    (map written c.add_announced.new.frames.items) c.args.announced.now.items c.add_announced.new.announced.items
    (subst (λ (ps : List Announced). can_go c.args.place (counted ns ps) m ≡ true) c.deref.ensures.value
    c.in-Ok-Some.ensures.goes)
    (subst (λ (ps : List Announced). Some c.in-Ok-Some.transfer ≡ transfer_of c.args.place.message_limit (counted ns ps) m) c.deref.ensures.value
    (sym c.in-Ok-Some.field-0-is ∙ c.in-Ok-Some.ensures.ok))
    c.in_ok-bytes.ensures.whole both.0 both.1)
    (both_on _ _ c.add_announced.result c.add_announced.ensures.frames c.add_announced.ensures.announced)

pub returns-in-Ok-Some-clause-err : goal.returns-in-Ok-Some-clause-err
returns-in-Ok-Some-clause-err c =
    let goes = can_go c.args.place
    (counted (with_lesson c.args.lesson c.args.transfers.now.state.numbers) c.args.announced.now.items)
    c.args.message.now in
    IfErr-weaker c.add_announced.result (λ (e : Refusal). e ≡ refusals.OutOfMemory)
    (λ (e : Refusal). IsLeftOut goes e) (λ e is. subst (λ (f : Refusal). IsLeftOut goes f) (sym is) tt)
    c.add_announced.ensures.err

pub returns-in-Err-clause-err : goal.returns-in-Err-clause-err
returns-in-Err-clause-err c =
    subst
    (λ (ps : List Announced). IsLeftOut (can_go c.args.place
    (counted (with_lesson c.args.lesson c.args.transfers.now.state.numbers) ps) c.args.message.now) c.in-Err.refused)
    c.deref.ensures.value c.in-Err.ensures.err
