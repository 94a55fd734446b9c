use Rattle.std.proofs.Common.{◌≡◌, ℕ, ◌<◌, List, length, get_or, set, ap, ◌∙◌, arith}
use Rattle.datatypes.proofs.CombinationLaws.{combined_to, combined_to-at, combined_to-more, combined_to-all, length-combined_to}
use Rattle.datatypes.proofs.combination.combine_each.Goals as goal

pub number-this-requires : goal.number-this-requires
number-this-requires g c =
    let f = g.P.PairOp.makes c.args.op.now in
    let old = c.args.all.now.values in
    let next = c.args.next.now.values in
    let k = c.loop-place.place in
    let same : length next ≡ length old = c.requires.like.len in
    let len : length c.loop-place.all.values ≡ length old = ap length c.loop-place.invariant.values ∙ length-combined_to f k old next same in
    omega arith

pub set_number-requires-clause-place : goal.set_number-requires-clause-place
set_number-requires-clause-place g c =
    let f = g.P.PairOp.makes c.args.op.now in
    let old = c.args.all.now.values in
    let next = c.args.next.now.values in
    let k = c.loop-place.place in
    let same : length next ≡ length old = c.requires.like.len in
    let len : length c.loop-place.all.values ≡ length old = ap length c.loop-place.invariant.values ∙ length-combined_to f k old next same in
    omega arith

pub loop-place-preserved : goal.loop-place-preserved
loop-place-preserved g c =
    let f = g.P.PairOp.makes c.args.op.now in
    let old = c.args.all.now.values in
    let next = c.args.next.now.values in
    let k = c.loop-place.place in
    let inv = c.loop-place.invariant in
    let same : length next ≡ length old = c.requires.like.len in
    let lt : k < length old = omega arith in
    let first : c.number-this.result ≡ get_or old k 0 =
    c.number-this.ensures.number ∙ ap (λ (t : List ℕ). get_or t k 0) inv.values ∙ combined_to-at f k old next same
    in
    let number : c.apply-number.result ≡ f (get_or old k 0) (get_or next k 0) =
    c.apply-number.ensures.made ∙ ap (λ (n : ℕ). f n c.number-that.result) first
    ∙ ap (f (get_or old k 0)) c.number-that.ensures.number
    in
    record {
      basic_is = ap (λ v. v.basic) c.set_number.ensures ∙ inv.basic_is;
      values = ap (λ v. v.values) c.set_number.ensures
          ∙ ap (λ (t : List ℕ). set t k c.apply-number.result) inv.values
          ∙ ap (set (combined_to f k old next) k) number
          ∙ combined_to-more f k old next same lt;
    }

pub returns : goal.returns
returns g c =
    let f = g.P.PairOp.makes c.args.op.now in
    let old = c.args.all.now.values in
    let next = c.args.next.now.values in
    let same : length next ≡ length old = c.requires.like.len in
    let k : c.loop-place.place ≡ length old = omega arith in
    let values : c.loop-place.all.values ≡ _ = c.loop-place.invariant.values ∙ combined_to-all f c.loop-place.place old next same k in
    λ t. record { basic = c.loop-place.invariant.basic_is t; values = values t }
