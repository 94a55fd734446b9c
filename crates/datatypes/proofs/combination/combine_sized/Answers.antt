use Rattle.std.proofs.Common.{◌≡◌, ℕ, ◌+◌, ◌<◌, ◌/◌, List, length, get_or, set, sym, ap, ◌∙◌, arith}
use Rattle.datatypes.specs.Contents.{values_of}
use Rattle.datatypes.specs.ContentLaws.{length-values_of, get_or-values_of}
use Rattle.datatypes.proofs.BufferSteps.{element_fits}
use Rattle.datatypes.proofs.CombinationLaws.{combined_to, combined_to-at, combined_to-more, combined_to-all}
use Rattle.datatypes.proofs.combination.combine_sized.Goals as goal

pub number_at-first-requires-clause-room : goal.number_at-first-requires-clause-room
number_at-first-requires-clause-room g c =
    let a = c.args in
    let same = ap (λ (n : ℕ). n / a.size) c.loop-place.invariant.len in
    let like = ap (λ (n : ℕ). n / a.size) c.requires.like in
    let lt : c.loop-place.place < length a.next.now / a.size = omega arith in
    element_fits a.size c.loop-place.all c.loop-place.place c.loop-place.invariant.whole
    (omega (arith, length-values_of a.size c.loop-place.all))

pub number_at-second-requires-clause-room : goal.number_at-second-requires-clause-room
number_at-second-requires-clause-room g c =
    let a = c.args in
    let same = ap (λ (n : ℕ). n / a.size) c.loop-place.invariant.len in
    let like = ap (λ (n : ℕ). n / a.size) c.requires.like in
    let lt : c.loop-place.place < length a.next.now / a.size = omega arith in
    element_fits a.size a.next.now c.loop-place.place c.requires.next
    (omega (arith, length-values_of a.size a.next.now))

pub put_number_at-requires-clause-place : goal.put_number_at-requires-clause-place
put_number_at-requires-clause-place g c =
    let a = c.args in
    let same = ap (λ (n : ℕ). n / a.size) c.loop-place.invariant.len in
    let like = ap (λ (n : ℕ). n / a.size) c.requires.like in
    let lt : c.loop-place.place < length a.next.now / a.size = omega arith in
    omega (arith, length-values_of a.size c.loop-place.all)

pub loop-place-preserved : goal.loop-place-preserved
loop-place-preserved g c =
    let a = c.args in
    let f = g.P.PairOp.makes a.op.now in
    let size = a.size in
    let old = values_of size a.all.now in
    let next = values_of size a.next.now in
    let k = c.loop-place.place in
    let inv = c.loop-place.invariant in
    let like = ap (λ (n : ℕ). n / size) c.requires.like in
    let there = ap (λ (n : ℕ). n / size) inv.len in
    let lo = length-values_of size a.all.now in
    let ln = length-values_of size a.next.now in
    let la = length-values_of size c.loop-place.all in
    let same : length next ≡ length old = omega arith in
    let below : k < length a.next.now / size = omega arith in
    let lt : k < length old = omega arith in
    let first : c.number_at-first.result ≡ get_or old k 0 =
    c.number_at-first.ensures ∙ sym (get_or-values_of size c.loop-place.all k (omega arith)) ∙
    ap (λ (t : List ℕ). get_or t k 0) inv.values ∙ combined_to-at f k old next same
    in
    let second : c.number_at-second.result ≡ get_or next k 0 = c.number_at-second.ensures ∙ sym (get_or-values_of size a.next.now k below) in
    let number : c.apply-number.result ≡ f (get_or old k 0) (get_or next k 0) =
    c.apply-number.ensures.made ∙ ap (λ (n : ℕ). f n c.number_at-second.result) first ∙ ap (f (get_or old k 0)) second
    in
    let values : values_of size c.put_number_at.new.bytes ≡ combined_to f (k + 1) old next =
    c.put_number_at.ensures.values
    ∙ ap (λ (t : List ℕ). set t k c.apply-number.result) inv.values
    ∙ ap (set (combined_to f k old next) k) number
    ∙ combined_to-more f k old next same lt
    in
    record { whole = c.put_number_at.ensures.whole; len = c.put_number_at.ensures.len ∙ inv.len; values = values }

pub returns-clause-values : goal.returns-clause-values
returns-clause-values g c =
    let a = c.args in
    let f = g.P.PairOp.makes a.op.now in
    let size = a.size in
    let old = values_of size a.all.now in
    let next = values_of size a.next.now in
    let like = ap (λ (n : ℕ). n / size) c.requires.like in
    let lo = length-values_of size a.all.now in
    let ln = length-values_of size a.next.now in
    let same : length next ≡ length old = omega arith in
    let k : c.loop-place.place ≡ length old = omega arith in
    c.loop-place.invariant.values ∙ combined_to-all f c.loop-place.place old next same k
