use Rattle.std.proofs.Common.{◌≡◌, ℕ, ◌+◌, ◌*◌, ◌/◌, ◌%◌, ◌<◌, ◌≤◌, List, length, take, drop, sym, ap, subst, ◌∙◌}
use Rattle.std.proofs.Common.{arith}
use Rattle.std.proofs.Math.Nat.{mod-lt, div-add-mod', mul-le-mul_left, mul-le-mul_right}
use Rattle.std.proofs.lemmas.Bool.{eqb-false}
use Rattle.std.proofs.lemmas.List.{length-take, take_all}
use Rattle.datatypes.specs.Contents.{values_of}
use Rattle.datatypes.specs.ContentLaws.{length-values_of}
use Rattle.derived_types.specs.Layouts.{extent_of, moved, places}
use Rattle.datatypes.specs.Transfers.{put_at, first_places, AreNear}
use Rattle.datatypes.proofs.BufferSteps.{element_fits}
use Rattle.datatypes.proofs.PlaceLaws.{near_copy_whole, near_part, near_moved, whole_more, part_more, first_split}
use Rattle.datatypes.proofs.PlaceLaws.{first_places-is}
use Rattle.derived_types.proofs.LayoutLaws.{length-copies_at}
use Rattle.datatypes.proofs.unpacking.put_sized.Goals as goal

pub overflow_mul-one : goal.overflow_mul-one
overflow_mul-one c =
    let a = c.args in
    let size = a.size in
    let xs = a.strided.now.offsets.now in
    let l = length xs in
    let ms = values_of size a.message.now in
    let elements = length (values_of size a.bytes.now) in
    let ne = eqb-false l 0 (sym c.is_empty.ensures ∙ c.if-is_empty.false) in
    let p : 0 < l = omega arith in
    let parts : a.count / l * l + a.count % l ≡ a.count = div-add-mod' a.count l in
    let k = c.loop-copy.copy in
    let by = k * extent_of xs in
    let some : k + 1 ≤ a.count / l = omega arith in
    let up : (k + 1) * l ≤ a.count / l * l = mul-le-mul_right l some in
    let room : k * l + l ≤ a.count = omega arith in
    let near = near_copy_whole a.count k elements xs room c.requires.near in
    let low = near_moved by 0 elements xs p near in
    let fits = element_fits size a.bytes.now by c.requires.bytes (omega arith) in
    let wide : by * 1 ≤ by * size = mul-le-mul_left by (omega (arith, c.requires.size, a.strided.now.low)) in
    let same : k * a.strided.now.extent ≡ by = ap (λ (e : ℕ). k * e) a.strided.now.extent_is in
    rw same (omega arith)

pub overflow_mul-copy : goal.overflow_mul-copy
overflow_mul-copy c =
    let a = c.args in
    let size = a.size in
    let xs = a.strided.now.offsets.now in
    let l = length xs in
    let ms = values_of size a.message.now in
    let elements = length (values_of size a.bytes.now) in
    let ne = eqb-false l 0 (sym c.is_empty.ensures ∙ c.if-is_empty.false) in
    let p : 0 < l = omega arith in
    let parts : a.count / l * l + a.count % l ≡ a.count = div-add-mod' a.count l in
    let k = c.loop-copy.copy in
    let by = k * extent_of xs in
    let some : k + 1 ≤ a.count / l = omega arith in
    let up : (k + 1) * l ≤ a.count / l * l = mul-le-mul_right l some in
    let room : k * l + l ≤ a.count = omega arith in
    omega arith

pub put_copy-requires-clause-start : goal.put_copy-requires-clause-start
put_copy-requires-clause-start c =
    let a = c.args in
    let size = a.size in
    let xs = a.strided.now.offsets.now in
    let l = length xs in
    let ms = values_of size a.message.now in
    let elements = length (values_of size a.bytes.now) in
    let ne = eqb-false l 0 (sym c.is_empty.ensures ∙ c.if-is_empty.false) in
    let p : 0 < l = omega arith in
    let parts : a.count / l * l + a.count % l ≡ a.count = div-add-mod' a.count l in
    let k = c.loop-copy.copy in
    let by = k * extent_of xs in
    let some : k + 1 ≤ a.count / l = omega arith in
    let up : (k + 1) * l ≤ a.count / l * l = mul-le-mul_right l some in
    let room : k * l + l ≤ a.count = omega arith in
    omega (arith, c.requires.count)

pub put_copy-requires-clause-near : goal.put_copy-requires-clause-near
put_copy-requires-clause-near c =
    let a = c.args in
    let size = a.size in
    let xs = a.strided.now.offsets.now in
    let l = length xs in
    let ms = values_of size a.message.now in
    let elements = length (values_of size a.bytes.now) in
    let ne = eqb-false l 0 (sym c.is_empty.ensures ∙ c.if-is_empty.false) in
    let p : 0 < l = omega arith in
    let parts : a.count / l * l + a.count % l ≡ a.count = div-add-mod' a.count l in
    let k = c.loop-copy.copy in
    let by = k * extent_of xs in
    let some : k + 1 ≤ a.count / l = omega arith in
    let up : (k + 1) * l ≤ a.count / l * l = mul-le-mul_right l some in
    let room : k * l + l ≤ a.count = omega arith in
    let near = near_copy_whole a.count k elements xs room c.requires.near in
    let here : AreNear (moved (k * a.strided.now.extent) xs) elements = subst (λ (e : ℕ). AreNear (moved (k * e) xs) elements) (sym a.strided.now.extent_is) near in
    subst (λ (n : ℕ). AreNear (moved (k * a.strided.now.extent) xs) n) (sym c.loop-copy.invariant.elements) here

pub loop-copy-preserved : goal.loop-copy-preserved
loop-copy-preserved c =
    let a = c.args in
    let size = a.size in
    let xs = a.strided.now.offsets.now in
    let l = length xs in
    let ms = values_of size a.message.now in
    let elements = length (values_of size a.bytes.now) in
    let ne = eqb-false l 0 (sym c.is_empty.ensures ∙ c.if-is_empty.false) in
    let p : 0 < l = omega arith in
    let parts : a.count / l * l + a.count % l ≡ a.count = div-add-mod' a.count l in
    let k = c.loop-copy.copy in
    let by = k * extent_of xs in
    let some : k + 1 ≤ a.count / l = omega arith in
    let up : (k + 1) * l ≤ a.count / l * l = mul-le-mul_right l some in
    let room : k * l + l ≤ a.count = omega arith in
    let inv = c.loop-copy.invariant in
    let old = values_of size a.bytes.now in
    let before = values_of size c.loop-copy.bytes in
    let part = take l (drop (k * l) ms) in
    let bytes = ap (λ (n : ℕ). n / size) c.put_copy.ensures.len in
    record {
      whole = c.put_copy.ensures.whole;
      len = c.put_copy.ensures.len ∙ inv.len;
      elements = length-values_of size c.put_copy.new.bytes ∙ bytes ∙ sym (length-values_of size c.loop-copy.bytes) ∙
          inv.elements;
      values = c.put_copy.ensures.values
          ∙ ap (λ (e : ℕ). put_at before (moved (k * e) xs) part) a.strided.now.extent_is
          ∙ ap (λ (t : List ℕ). put_at t (moved by xs) part) inv.values
          ∙ sym (whole_more old xs ms k (omega (arith, c.requires.count)));
    }

pub overflow_mul-part : goal.overflow_mul-part
overflow_mul-part c =
    let a = c.args in
    let size = a.size in
    let xs = a.strided.now.offsets.now in
    let l = length xs in
    let ms = values_of size a.message.now in
    let elements = length (values_of size a.bytes.now) in
    let ne = eqb-false l 0 (sym c.is_empty.ensures ∙ c.if-is_empty.false) in
    let p : 0 < l = omega arith in
    let parts : a.count / l * l + a.count % l ≡ a.count = div-add-mod' a.count l in
    let n = a.count / l in
    let r = a.count % l in
    let less : r < l = mod-lt a.count p in
    let by = n * extent_of xs in
    let near = near_part a.count n r elements xs (omega arith) (omega arith) c.requires.near in
    let low = near_moved by 0 elements (take r xs) (omega (arith, length-take r xs)) near in
    let fits = element_fits size a.bytes.now by c.requires.bytes (omega arith) in
    let wide : by * 1 ≤ by * size = mul-le-mul_left by (omega (arith, c.requires.size, a.strided.now.low)) in
    let same : n * a.strided.now.extent ≡ by = ap (λ (e : ℕ). n * e) a.strided.now.extent_is in
    rw same (omega arith)

pub put_elements-requires-clause-near : goal.put_elements-requires-clause-near
put_elements-requires-clause-near c =
    let a = c.args in
    let size = a.size in
    let xs = a.strided.now.offsets.now in
    let l = length xs in
    let ms = values_of size a.message.now in
    let elements = length (values_of size a.bytes.now) in
    let ne = eqb-false l 0 (sym c.is_empty.ensures ∙ c.if-is_empty.false) in
    let p : 0 < l = omega arith in
    let parts : a.count / l * l + a.count % l ≡ a.count = div-add-mod' a.count l in
    let n = a.count / l in
    let r = a.count % l in
    let less : r < l = mod-lt a.count p in
    let by = n * extent_of xs in
    let near = near_part a.count n r elements xs (omega arith) (omega arith) c.requires.near in
    let first = c.split_at.result.0.now in
    let here : AreNear (moved (n * a.strided.now.extent) (take r xs)) elements = subst (λ (e : ℕ). AreNear (moved (n * e) (take r xs)) elements) (sym a.strided.now.extent_is) near in
    let there : AreNear (moved (n * a.strided.now.extent) first) elements = subst (λ (t : List ℕ). AreNear (moved (n * a.strided.now.extent) t) elements) (sym c.split_at.ensures.front) here in
    subst (λ (m : ℕ). AreNear (moved (n * a.strided.now.extent) first) m) (sym c.loop-copy.invariant.elements) there

pub returns-then-rest-gt0-clause-values : goal.returns-then-rest-gt0-clause-values
returns-then-rest-gt0-clause-values c =
    let a = c.args in
    let size = a.size in
    let xs = a.strided.now.offsets.now in
    let l = length xs in
    let ms = values_of size a.message.now in
    let elements = length (values_of size a.bytes.now) in
    let ne = eqb-false l 0 (sym c.is_empty.ensures ∙ c.if-is_empty.false) in
    let p : 0 < l = omega arith in
    let parts : a.count / l * l + a.count % l ≡ a.count = div-add-mod' a.count l in
    let n = a.count / l in
    let r = a.count % l in
    let less : r < l = mod-lt a.count p in
    let by = n * extent_of xs in
    let near = near_part a.count n r elements xs (omega arith) (omega arith) c.requires.near in
    let inv = c.loop-copy.invariant in
    let old = values_of size a.bytes.now in
    let before = values_of size c.loop-copy.bytes in
    let first = c.split_at.result.0.now in
    let len : length first ≡ r = ap length c.split_at.ensures.front ∙ omega (arith, length-take r xs) in
    let is : c.loop-copy.copy ≡ n = omega arith in
    let lp = length-copies_at 0 n xs in
    let lm : length ms ≡ a.count = sym c.requires.count in
    let rest = drop (n * l) ms in
    c.put_elements.ensures.values
    ∙ ap (λ (m : ℕ). put_at before (moved (n * a.strided.now.extent) first) (take m rest)) len
    ∙ ap (λ (t : List ℕ). put_at before (moved (n * a.strided.now.extent) t) (take r rest)) c.split_at.ensures.front
    ∙ ap (λ (e : ℕ). put_at before (moved (n * e) (take r xs)) (take r rest)) a.strided.now.extent_is
    ∙ ap (λ (t : List ℕ). put_at t (moved by (take r xs)) (take r rest)) inv.values
    ∙ ap (λ (m : ℕ). put_at (put_at old (places m xs) (take (m * l) ms)) (moved by (take r xs)) (take r rest)) is
    ∙ sym (part_more old (places n xs) (moved by (take r xs)) ms (n * l) r lp (omega arith))
    ∙ ap (λ (t : List ℕ). put_at old t (take (n * l + r) ms)) (sym (first_split n r xs (omega arith)))
    ∙ ap (λ (t : List ℕ). put_at old (first_places (n * l + r) xs) t) (take_all (n * l + r) ms (omega arith))
    ∙ ap (λ (m : ℕ). put_at old (first_places m xs) ms) parts

pub returns-else-rest-gt0-clause-values : goal.returns-else-rest-gt0-clause-values
returns-else-rest-gt0-clause-values c =
    let a = c.args in
    let size = a.size in
    let xs = a.strided.now.offsets.now in
    let l = length xs in
    let ms = values_of size a.message.now in
    let elements = length (values_of size a.bytes.now) in
    let ne = eqb-false l 0 (sym c.is_empty.ensures ∙ c.if-is_empty.false) in
    let p : 0 < l = omega arith in
    let parts : a.count / l * l + a.count % l ≡ a.count = div-add-mod' a.count l in
    let n = a.count / l in
    let inv = c.loop-copy.invariant in
    let old = values_of size a.bytes.now in
    let is : c.loop-copy.copy ≡ n = omega arith in
    let lp = length-copies_at 0 n xs in
    let lm : length ms ≡ a.count = sym c.requires.count in
    inv.values
    ∙ ap (λ (m : ℕ). put_at old (places m xs) (take (m * l) ms)) is
    ∙ ap (put_at old (places n xs)) (take_all (n * l) ms (omega arith))
    ∙ ap (λ (t : List ℕ). put_at old t ms) (sym (take_all a.count (places n xs) (omega arith)))
    ∙ ap (λ (t : List ℕ). put_at old t ms) (sym (first_places-is n a.count xs (omega arith)))
