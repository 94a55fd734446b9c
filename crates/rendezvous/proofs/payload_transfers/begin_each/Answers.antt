-- Each begins under a number that is left.
use Rattle.std.proofs.Common.{◌≡◌, ℕ, ◌+◌, List, false, drop, sym, ap, subst, arith, ◌∙◌}
use Rattle.rendezvous.specs.PayloadNumbers.{AreLeft, counted}
use Rattle.rendezvous.specs.Payloads.{Announced}
use Rattle.rendezvous.specs.State.{is_full_to, with_begun}
use Rattle.rendezvous.specs.declared.transfers.Numbers.{Numbers}
use Rattle.rendezvous.proofs.PayloadNumbers.{all_counted, one_counted, one_left}
use Rattle.rendezvous.proofs.payload_transfers.begin_each.Goals as goal

pub begin-transfer-requires : goal.begin-transfer-requires
begin-transfer-requires c =
    let before = c.loop-payload in
    subst (λ (r : ℕ). is_full_to before.numbers.items r ≡ false)
    (sym (c.target.ensures ∙ ap (λ (p : Announced). p.target) c.payload-item.is))
    (one_left before.numbers.items c.args.payloads.now before.payload-index c.payload-item.result
    c.loop-payload-test.true before.invariant.left).0

pub loop-payload-preserved : goal.loop-payload-preserved
loop-payload-preserved c =
    let before = c.loop-payload in
    let ps = c.args.payloads.now in
    let i = before.payload-index in
    let d = c.payload-item.result in
    let begun = c.begin-transfer.ensures.counted
    ∙ ap (λ (r : ℕ). with_begun before.numbers.items r)
    (c.target.ensures ∙ ap (λ (p : Announced). p.target) c.payload-item.is) in
    record {
      begun = ap (λ (ns : List Numbers). counted ns (drop (i + 1) ps)) begun
          ∙ one_counted before.numbers.items ps i d c.loop-payload-test.true ∙ before.invariant.begun;
      left = subst (λ (ns : List Numbers). AreLeft ns (drop (i + 1) ps)) (sym begun)
          (one_left before.numbers.items ps i d c.loop-payload-test.true before.invariant.left).1;
    }

pub returns : goal.returns
returns c =
    let last = c.loop-payload in
    sym (all_counted last.numbers.items c.args.payloads.now last.payload-index
    (omega (arith, c.loop-payload-test.false))) ∙ last.invariant.begun
