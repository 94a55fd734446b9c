use Rattle.std.proofs.Common.{◌≡◌, ℕ, ◌+◌, ◌*◌, ◌<◌, ◌≤◌, List, length, get_or, set, sym, ap, ◌∙◌, arith}
use Rattle.std.proofs.Math.Nat.{mul-le-mul_left}
use Rattle.std.proofs.lemmas.List.{length-set}
use Rattle.datatypes.specs.Contents.{values_of}
use Rattle.datatypes.specs.ContentLaws.{length-values_of, get_or-values_of, values_of-within}
use Rattle.datatypes.proofs.BufferSteps.{element_fits}
use Rattle.datatypes.proofs.PlaceLaws.{near_moved, moved_more}
use Rattle.datatypes.proofs.unpacking.put_elements.Goals as goal

pub overflow_add-place : goal.overflow_add-place
overflow_add-place c =
    let a = c.args in
    let size = a.copy.now.size in
    let xs = a.copy.now.offsets.now in
    let i = c.loop-i.i in
    let inv = c.loop-i.invariant in
    let items = c.loop-i.bytes in
    let p = a.copy.now.from + get_or xs i 0 in
    let lt : i < length xs = omega arith in
    let low = near_moved a.copy.now.from i (length (values_of size a.bytes.now)) xs lt c.requires.near in
    let near : p < length (values_of size items) = omega (arith, inv.elements) in
    let fits = element_fits size items p inv.whole near in
    let wide : p * 1 ≤ p * size = mul-le-mul_left p a.copy.now.low in
    let within : a.start + i < length (values_of size a.message.now) = omega (arith, c.requires.start) in
    let there = element_fits size a.message.now (a.start + i) c.requires.message within in
    let far : (a.start + i) * 1 ≤ (a.start + i) * size = mul-le-mul_left (a.start + i) a.copy.now.low in
    omega arith

pub overflow_add-start : goal.overflow_add-start
overflow_add-start c =
    let a = c.args in
    let size = a.copy.now.size in
    let xs = a.copy.now.offsets.now in
    let i = c.loop-i.i in
    let inv = c.loop-i.invariant in
    let items = c.loop-i.bytes in
    let p = a.copy.now.from + get_or xs i 0 in
    let lt : i < length xs = omega arith in
    let low = near_moved a.copy.now.from i (length (values_of size a.bytes.now)) xs lt c.requires.near in
    let near : p < length (values_of size items) = omega (arith, inv.elements) in
    let fits = element_fits size items p inv.whole near in
    let wide : p * 1 ≤ p * size = mul-le-mul_left p a.copy.now.low in
    let within : a.start + i < length (values_of size a.message.now) = omega (arith, c.requires.start) in
    let there = element_fits size a.message.now (a.start + i) c.requires.message within in
    let far : (a.start + i) * 1 ≤ (a.start + i) * size = mul-le-mul_left (a.start + i) a.copy.now.low in
    omega arith

pub number_at-number-requires-clause-room : goal.number_at-number-requires-clause-room
number_at-number-requires-clause-room c =
    let a = c.args in
    let size = a.copy.now.size in
    let xs = a.copy.now.offsets.now in
    let i = c.loop-i.i in
    let inv = c.loop-i.invariant in
    let items = c.loop-i.bytes in
    let p = a.copy.now.from + get_or xs i 0 in
    let lt : i < length xs = omega arith in
    let low = near_moved a.copy.now.from i (length (values_of size a.bytes.now)) xs lt c.requires.near in
    let near : p < length (values_of size items) = omega (arith, inv.elements) in
    let fits = element_fits size items p inv.whole near in
    let wide : p * 1 ≤ p * size = mul-le-mul_left p a.copy.now.low in
    let within : a.start + i < length (values_of size a.message.now) = omega (arith, c.requires.start) in
    let there = element_fits size a.message.now (a.start + i) c.requires.message within in
    let far : (a.start + i) * 1 ≤ (a.start + i) * size = mul-le-mul_left (a.start + i) a.copy.now.low in
    there

pub put_number_at-requires-clause-fits : goal.put_number_at-requires-clause-fits
put_number_at-requires-clause-fits c =
    let a = c.args in
    let size = a.copy.now.size in
    let xs = a.copy.now.offsets.now in
    let i = c.loop-i.i in
    let inv = c.loop-i.invariant in
    let items = c.loop-i.bytes in
    let p = a.copy.now.from + get_or xs i 0 in
    let lt : i < length xs = omega arith in
    let low = near_moved a.copy.now.from i (length (values_of size a.bytes.now)) xs lt c.requires.near in
    let near : p < length (values_of size items) = omega (arith, inv.elements) in
    let fits = element_fits size items p inv.whole near in
    let wide : p * 1 ≤ p * size = mul-le-mul_left p a.copy.now.low in
    let within : a.start + i < length (values_of size a.message.now) = omega (arith, c.requires.start) in
    let there = element_fits size a.message.now (a.start + i) c.requires.message within in
    let far : (a.start + i) * 1 ≤ (a.start + i) * size = mul-le-mul_left (a.start + i) a.copy.now.low in
    let k = a.start + i in
    let ms = values_of size a.message.now in
    let number : c.number_at-number.result ≡ get_or ms k 0 = c.number_at-number.ensures ∙ sym (get_or-values_of size a.message.now k (omega (arith, length-values_of size a.message.now))) in
    rw number (values_of-within size a.message.now c.requires.message.are_bytes k)

pub put_number_at-requires-clause-place : goal.put_number_at-requires-clause-place
put_number_at-requires-clause-place c =
    let a = c.args in
    let size = a.copy.now.size in
    let xs = a.copy.now.offsets.now in
    let i = c.loop-i.i in
    let inv = c.loop-i.invariant in
    let items = c.loop-i.bytes in
    let p = a.copy.now.from + get_or xs i 0 in
    let lt : i < length xs = omega arith in
    let low = near_moved a.copy.now.from i (length (values_of size a.bytes.now)) xs lt c.requires.near in
    let near : p < length (values_of size items) = omega (arith, inv.elements) in
    let fits = element_fits size items p inv.whole near in
    let wide : p * 1 ≤ p * size = mul-le-mul_left p a.copy.now.low in
    let within : a.start + i < length (values_of size a.message.now) = omega (arith, c.requires.start) in
    let there = element_fits size a.message.now (a.start + i) c.requires.message within in
    let far : (a.start + i) * 1 ≤ (a.start + i) * size = mul-le-mul_left (a.start + i) a.copy.now.low in
    near

pub loop-i-preserved : goal.loop-i-preserved
loop-i-preserved c =
    let a = c.args in
    let size = a.copy.now.size in
    let xs = a.copy.now.offsets.now in
    let i = c.loop-i.i in
    let inv = c.loop-i.invariant in
    let items = c.loop-i.bytes in
    let p = a.copy.now.from + get_or xs i 0 in
    let lt : i < length xs = omega arith in
    let low = near_moved a.copy.now.from i (length (values_of size a.bytes.now)) xs lt c.requires.near in
    let near : p < length (values_of size items) = omega (arith, inv.elements) in
    let fits = element_fits size items p inv.whole near in
    let wide : p * 1 ≤ p * size = mul-le-mul_left p a.copy.now.low in
    let within : a.start + i < length (values_of size a.message.now) = omega (arith, c.requires.start) in
    let there = element_fits size a.message.now (a.start + i) c.requires.message within in
    let far : (a.start + i) * 1 ≤ (a.start + i) * size = mul-le-mul_left (a.start + i) a.copy.now.low in
    let k = a.start + i in
    let ms = values_of size a.message.now in
    let number : c.number_at-number.result ≡ get_or ms k 0 = c.number_at-number.ensures ∙ sym (get_or-values_of size a.message.now k (omega (arith, length-values_of size a.message.now))) in
    let vs = values_of size items in
    let m = get_or ms k 0 in
    let values : values_of size c.put_number_at.new.bytes ≡ set vs p m = c.put_number_at.ensures.values ∙ ap (set vs p) number in
    record {
      whole = c.put_number_at.ensures.whole;
      len = c.put_number_at.ensures.len ∙ inv.len;
      elements = ap length values ∙ length-set vs p m ∙ inv.elements;
      values = values ∙ ap (λ (v : List ℕ). set v p m) inv.values ∙
          sym (moved_more (values_of size a.bytes.now) xs ms a.copy.now.from a.start i lt within);
    }
