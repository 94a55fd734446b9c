use Rattle.std.proofs.Common.{◌≡◌, ℕ, ◌+◌, ◌*◌, ◌<◌, ◌≤◌, List, length, get_or, set, sym, ap, ◌∙◌, arith}
use Rattle.std.proofs.Math.Nat.{mul-le-mul_left}
use Rattle.std.proofs.lemmas.List.{length-set}
use Rattle.datatypes.specs.Contents.{values_of}
use Rattle.datatypes.specs.ContentLaws.{length-values_of, get_or-values_of, values_of-within}
use Rattle.datatypes.proofs.BufferSteps.{element_fits}
use Rattle.datatypes.proofs.PlaceLaws.{near_moved}
use Rattle.datatypes.proofs.FillLaws.{fill_more}
use Rattle.datatypes.proofs.packing.fill_elements.Goals as goal

pub overflow_add-place : goal.overflow_add-place
overflow_add-place c =
    let a = c.args in
    let size = a.copy.now.size in
    let xs = a.copy.now.offsets.now in
    let i = c.loop-i.i in
    let inv = c.loop-i.invariant in
    let old = values_of size a.out.now in
    let vs = values_of size a.bytes.now in
    let p = a.copy.now.from + get_or xs i 0 in
    let lt : i < length xs = omega arith in
    let low : p < length vs = near_moved a.copy.now.from i (length vs) xs lt c.requires.near in
    let fits = element_fits size a.bytes.now p c.requires.bytes low in
    let wide : p * 1 ≤ p * size = mul-le-mul_left p a.copy.now.low in
    let room : a.at + i < length old = omega (arith, c.requires.room) in
    let there = element_fits size a.out.now (a.at + i) c.requires.out room in
    let far : (a.at + i) * 1 ≤ (a.at + i) * size = mul-le-mul_left (a.at + i) a.copy.now.low in
    omega arith

pub overflow_add-at : goal.overflow_add-at
overflow_add-at c =
    let a = c.args in
    let size = a.copy.now.size in
    let xs = a.copy.now.offsets.now in
    let i = c.loop-i.i in
    let inv = c.loop-i.invariant in
    let old = values_of size a.out.now in
    let vs = values_of size a.bytes.now in
    let p = a.copy.now.from + get_or xs i 0 in
    let lt : i < length xs = omega arith in
    let low : p < length vs = near_moved a.copy.now.from i (length vs) xs lt c.requires.near in
    let fits = element_fits size a.bytes.now p c.requires.bytes low in
    let wide : p * 1 ≤ p * size = mul-le-mul_left p a.copy.now.low in
    let room : a.at + i < length old = omega (arith, c.requires.room) in
    let there = element_fits size a.out.now (a.at + i) c.requires.out room in
    let far : (a.at + i) * 1 ≤ (a.at + i) * size = mul-le-mul_left (a.at + i) a.copy.now.low in
    omega arith

pub number_at-number-requires-clause-room : goal.number_at-number-requires-clause-room
number_at-number-requires-clause-room c =
    let a = c.args in
    let size = a.copy.now.size in
    let xs = a.copy.now.offsets.now in
    let i = c.loop-i.i in
    let inv = c.loop-i.invariant in
    let old = values_of size a.out.now in
    let vs = values_of size a.bytes.now in
    let p = a.copy.now.from + get_or xs i 0 in
    let lt : i < length xs = omega arith in
    let low : p < length vs = near_moved a.copy.now.from i (length vs) xs lt c.requires.near in
    let fits = element_fits size a.bytes.now p c.requires.bytes low in
    let wide : p * 1 ≤ p * size = mul-le-mul_left p a.copy.now.low in
    let room : a.at + i < length old = omega (arith, c.requires.room) in
    let there = element_fits size a.out.now (a.at + i) c.requires.out room in
    let far : (a.at + i) * 1 ≤ (a.at + i) * size = mul-le-mul_left (a.at + i) a.copy.now.low in
    fits

pub put_number_at-requires-clause-fits : goal.put_number_at-requires-clause-fits
put_number_at-requires-clause-fits c =
    let a = c.args in
    let size = a.copy.now.size in
    let xs = a.copy.now.offsets.now in
    let i = c.loop-i.i in
    let inv = c.loop-i.invariant in
    let old = values_of size a.out.now in
    let vs = values_of size a.bytes.now in
    let p = a.copy.now.from + get_or xs i 0 in
    let lt : i < length xs = omega arith in
    let low : p < length vs = near_moved a.copy.now.from i (length vs) xs lt c.requires.near in
    let fits = element_fits size a.bytes.now p c.requires.bytes low in
    let wide : p * 1 ≤ p * size = mul-le-mul_left p a.copy.now.low in
    let room : a.at + i < length old = omega (arith, c.requires.room) in
    let there = element_fits size a.out.now (a.at + i) c.requires.out room in
    let far : (a.at + i) * 1 ≤ (a.at + i) * size = mul-le-mul_left (a.at + i) a.copy.now.low in
    let number : c.number_at-number.result ≡ get_or vs p 0 = c.number_at-number.ensures ∙ sym (get_or-values_of size a.bytes.now p (omega (arith, length-values_of size a.bytes.now))) in
    rw number (values_of-within size a.bytes.now c.requires.bytes.are_bytes p)

pub put_number_at-requires-clause-place : goal.put_number_at-requires-clause-place
put_number_at-requires-clause-place c =
    let a = c.args in
    let size = a.copy.now.size in
    let xs = a.copy.now.offsets.now in
    let i = c.loop-i.i in
    let inv = c.loop-i.invariant in
    let old = values_of size a.out.now in
    let vs = values_of size a.bytes.now in
    let p = a.copy.now.from + get_or xs i 0 in
    let lt : i < length xs = omega arith in
    let low : p < length vs = near_moved a.copy.now.from i (length vs) xs lt c.requires.near in
    let fits = element_fits size a.bytes.now p c.requires.bytes low in
    let wide : p * 1 ≤ p * size = mul-le-mul_left p a.copy.now.low in
    let room : a.at + i < length old = omega (arith, c.requires.room) in
    let there = element_fits size a.out.now (a.at + i) c.requires.out room in
    let far : (a.at + i) * 1 ≤ (a.at + i) * size = mul-le-mul_left (a.at + i) a.copy.now.low in
    omega (arith, inv.elements)

pub loop-i-preserved : goal.loop-i-preserved
loop-i-preserved c =
    let a = c.args in
    let size = a.copy.now.size in
    let xs = a.copy.now.offsets.now in
    let i = c.loop-i.i in
    let inv = c.loop-i.invariant in
    let old = values_of size a.out.now in
    let vs = values_of size a.bytes.now in
    let p = a.copy.now.from + get_or xs i 0 in
    let lt : i < length xs = omega arith in
    let low : p < length vs = near_moved a.copy.now.from i (length vs) xs lt c.requires.near in
    let fits = element_fits size a.bytes.now p c.requires.bytes low in
    let wide : p * 1 ≤ p * size = mul-le-mul_left p a.copy.now.low in
    let room : a.at + i < length old = omega (arith, c.requires.room) in
    let there = element_fits size a.out.now (a.at + i) c.requires.out room in
    let far : (a.at + i) * 1 ≤ (a.at + i) * size = mul-le-mul_left (a.at + i) a.copy.now.low in
    let number : c.number_at-number.result ≡ get_or vs p 0 = c.number_at-number.ensures ∙ sym (get_or-values_of size a.bytes.now p (omega (arith, length-values_of size a.bytes.now))) in
    let now = values_of size c.loop-i.out in
    let values : values_of size c.put_number_at.new.bytes ≡ set now (a.at + i) (get_or vs p 0) = c.put_number_at.ensures.values ∙ ap (set now (a.at + i)) number in
    record {
      whole = c.put_number_at.ensures.whole;
      len = c.put_number_at.ensures.len ∙ inv.len;
      elements = ap length values ∙ length-set now (a.at + i) (get_or vs p 0) ∙ inv.elements;
      values = values ∙ ap (λ (v : List ℕ). set v (a.at + i) (get_or vs p 0)) inv.values ∙
          fill_more old vs xs a.at a.copy.now.from i lt room;
    }
