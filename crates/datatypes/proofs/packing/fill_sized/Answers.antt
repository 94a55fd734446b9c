use Rattle.std.proofs.Common.{◌≡◌, ℕ, suc, ◌+◌, ◌*◌, ◌/◌, ◌<◌, ◌≤◌, ◌++◌, List, length, take, drop, sym, ap, subst}
use Rattle.std.proofs.Common.{refl, ◌∙◌, arith}
use Rattle.std.proofs.Math.Nat.{suc-mul, mul-le-mul_left, mul-le-mul_right}
use Rattle.datatypes.specs.Contents.{values_of}
use Rattle.datatypes.specs.ContentLaws.{whole, length-values_of}
use Rattle.derived_types.specs.Layouts.{extent_of, moved, places}
use Rattle.datatypes.specs.Transfers.{elements_at, AreNear}
use Rattle.datatypes.proofs.BufferSteps.{element_fits}
use Rattle.datatypes.proofs.PlaceLaws.{near_moved}
use Rattle.datatypes.proofs.FillLaws.{near_copy_of, copy_filled, all_filled, none_filled}
use Rattle.datatypes.proofs.packing.fill_sized.Goals as goal

pub overflow_mul-copy : goal.overflow_mul-copy
overflow_mul-copy c =
    let a = c.args in
    let size = a.size in
    let positive : 1 ≤ size = omega (arith, c.requires.size, a.strided.now.low) in
    let xs = a.strided.now.offsets.now in
    let l = length xs in
    let k = c.loop-copy.copy in
    let inv = c.loop-copy.invariant in
    let old = values_of size a.out.now in
    let vs = values_of size a.bytes.now in
    let by = k * extent_of xs in
    let lt : k < a.copies = omega arith in
    let up : suc k * l ≤ a.copies * l = mul-le-mul_right l lt in
    let more = suc-mul k l in
    let room : k * l + l ≤ length old = omega (arith, c.requires.room) in
    let bytes = ap (λ (n : ℕ). n / size) inv.len in
    let elements : length (values_of size c.loop-copy.out) ≡ length old = length-values_of size c.loop-copy.out ∙ bytes ∙ sym (length-values_of size a.out.now) in
    let near = near_copy_of a.copies k (length vs) xs c.requires.some lt c.requires.near in
    let low = near_moved by 0 (length vs) xs c.requires.some near in
    let fits = element_fits size a.bytes.now by c.requires.bytes (omega arith) in
    let wide : by * 1 ≤ by * size = mul-le-mul_left by positive in
    let same : k * a.strided.now.extent ≡ by = ap (λ (e : ℕ). k * e) a.strided.now.extent_is in
    let counted = ap (λ (n : ℕ). n * size) (length-values_of size a.out.now) in
    let total = whole size a.out.now c.requires.out.no_rest in
    let stretched : k * l * 1 ≤ k * l * size = mul-le-mul_left (k * l) positive in
    let held : (k * l + l) * size ≤ length old * size = mul-le-mul_right size room in
    omega arith

pub overflow_mul-one : goal.overflow_mul-one
overflow_mul-one c =
    let a = c.args in
    let size = a.size in
    let positive : 1 ≤ size = omega (arith, c.requires.size, a.strided.now.low) in
    let xs = a.strided.now.offsets.now in
    let l = length xs in
    let k = c.loop-copy.copy in
    let inv = c.loop-copy.invariant in
    let old = values_of size a.out.now in
    let vs = values_of size a.bytes.now in
    let by = k * extent_of xs in
    let lt : k < a.copies = omega arith in
    let up : suc k * l ≤ a.copies * l = mul-le-mul_right l lt in
    let more = suc-mul k l in
    let room : k * l + l ≤ length old = omega (arith, c.requires.room) in
    let bytes = ap (λ (n : ℕ). n / size) inv.len in
    let elements : length (values_of size c.loop-copy.out) ≡ length old = length-values_of size c.loop-copy.out ∙ bytes ∙ sym (length-values_of size a.out.now) in
    let near = near_copy_of a.copies k (length vs) xs c.requires.some lt c.requires.near in
    let low = near_moved by 0 (length vs) xs c.requires.some near in
    let fits = element_fits size a.bytes.now by c.requires.bytes (omega arith) in
    let wide : by * 1 ≤ by * size = mul-le-mul_left by positive in
    let same : k * a.strided.now.extent ≡ by = ap (λ (e : ℕ). k * e) a.strided.now.extent_is in
    let counted = ap (λ (n : ℕ). n * size) (length-values_of size a.out.now) in
    let total = whole size a.out.now c.requires.out.no_rest in
    let stretched : k * l * 1 ≤ k * l * size = mul-le-mul_left (k * l) positive in
    let held : (k * l + l) * size ≤ length old * size = mul-le-mul_right size room in
    rw same (omega arith)

pub fill_elements-requires-clause-room : goal.fill_elements-requires-clause-room
fill_elements-requires-clause-room c =
    let a = c.args in
    let size = a.size in
    let positive : 1 ≤ size = omega (arith, c.requires.size, a.strided.now.low) in
    let xs = a.strided.now.offsets.now in
    let l = length xs in
    let k = c.loop-copy.copy in
    let inv = c.loop-copy.invariant in
    let old = values_of size a.out.now in
    let vs = values_of size a.bytes.now in
    let by = k * extent_of xs in
    let lt : k < a.copies = omega arith in
    let up : suc k * l ≤ a.copies * l = mul-le-mul_right l lt in
    let more = suc-mul k l in
    let room : k * l + l ≤ length old = omega (arith, c.requires.room) in
    let bytes = ap (λ (n : ℕ). n / size) inv.len in
    let elements : length (values_of size c.loop-copy.out) ≡ length old = length-values_of size c.loop-copy.out ∙ bytes ∙ sym (length-values_of size a.out.now) in
    let near = near_copy_of a.copies k (length vs) xs c.requires.some lt c.requires.near in
    let low = near_moved by 0 (length vs) xs c.requires.some near in
    let fits = element_fits size a.bytes.now by c.requires.bytes (omega arith) in
    let wide : by * 1 ≤ by * size = mul-le-mul_left by positive in
    let same : k * a.strided.now.extent ≡ by = ap (λ (e : ℕ). k * e) a.strided.now.extent_is in
    let counted = ap (λ (n : ℕ). n * size) (length-values_of size a.out.now) in
    let total = whole size a.out.now c.requires.out.no_rest in
    let stretched : k * l * 1 ≤ k * l * size = mul-le-mul_left (k * l) positive in
    let held : (k * l + l) * size ≤ length old * size = mul-le-mul_right size room in
    rw elements room

pub fill_elements-requires-clause-near : goal.fill_elements-requires-clause-near
fill_elements-requires-clause-near c =
    let a = c.args in
    let size = a.size in
    let positive : 1 ≤ size = omega (arith, c.requires.size, a.strided.now.low) in
    let xs = a.strided.now.offsets.now in
    let l = length xs in
    let k = c.loop-copy.copy in
    let inv = c.loop-copy.invariant in
    let old = values_of size a.out.now in
    let vs = values_of size a.bytes.now in
    let by = k * extent_of xs in
    let lt : k < a.copies = omega arith in
    let up : suc k * l ≤ a.copies * l = mul-le-mul_right l lt in
    let more = suc-mul k l in
    let room : k * l + l ≤ length old = omega (arith, c.requires.room) in
    let bytes = ap (λ (n : ℕ). n / size) inv.len in
    let elements : length (values_of size c.loop-copy.out) ≡ length old = length-values_of size c.loop-copy.out ∙ bytes ∙ sym (length-values_of size a.out.now) in
    let near = near_copy_of a.copies k (length vs) xs c.requires.some lt c.requires.near in
    let low = near_moved by 0 (length vs) xs c.requires.some near in
    let fits = element_fits size a.bytes.now by c.requires.bytes (omega arith) in
    let wide : by * 1 ≤ by * size = mul-le-mul_left by positive in
    let same : k * a.strided.now.extent ≡ by = ap (λ (e : ℕ). k * e) a.strided.now.extent_is in
    let counted = ap (λ (n : ℕ). n * size) (length-values_of size a.out.now) in
    let total = whole size a.out.now c.requires.out.no_rest in
    let stretched : k * l * 1 ≤ k * l * size = mul-le-mul_left (k * l) positive in
    let held : (k * l + l) * size ≤ length old * size = mul-le-mul_right size room in
    subst (λ (e : ℕ). AreNear (moved (k * e) xs) (length vs)) (sym a.strided.now.extent_is) near

pub loop-copy-preserved : goal.loop-copy-preserved
loop-copy-preserved c =
    let a = c.args in
    let size = a.size in
    let positive : 1 ≤ size = omega (arith, c.requires.size, a.strided.now.low) in
    let xs = a.strided.now.offsets.now in
    let l = length xs in
    let k = c.loop-copy.copy in
    let inv = c.loop-copy.invariant in
    let old = values_of size a.out.now in
    let vs = values_of size a.bytes.now in
    let by = k * extent_of xs in
    let lt : k < a.copies = omega arith in
    let up : suc k * l ≤ a.copies * l = mul-le-mul_right l lt in
    let more = suc-mul k l in
    let room : k * l + l ≤ length old = omega (arith, c.requires.room) in
    let bytes = ap (λ (n : ℕ). n / size) inv.len in
    let elements : length (values_of size c.loop-copy.out) ≡ length old = length-values_of size c.loop-copy.out ∙ bytes ∙ sym (length-values_of size a.out.now) in
    let near = near_copy_of a.copies k (length vs) xs c.requires.some lt c.requires.near in
    let low = near_moved by 0 (length vs) xs c.requires.some near in
    let fits = element_fits size a.bytes.now by c.requires.bytes (omega arith) in
    let wide : by * 1 ≤ by * size = mul-le-mul_left by positive in
    let same : k * a.strided.now.extent ≡ by = ap (λ (e : ℕ). k * e) a.strided.now.extent_is in
    let counted = ap (λ (n : ℕ). n * size) (length-values_of size a.out.now) in
    let total = whole size a.out.now c.requires.out.no_rest in
    let stretched : k * l * 1 ≤ k * l * size = mul-le-mul_left (k * l) positive in
    let held : (k * l + l) * size ≤ length old * size = mul-le-mul_right size room in
    let now = values_of size c.loop-copy.out in
    let part = elements_at vs (moved by xs) in
    record {
      whole = c.fill_elements.ensures.whole;
      len = c.fill_elements.ensures.len ∙ inv.len;
      values = c.fill_elements.ensures.values
          ∙ ap (λ (e : ℕ). take (k * l) now ++ elements_at vs (moved (k * e) xs) ++ drop (k * l + l) now)
          a.strided.now.extent_is
          ∙ ap (λ (t : List ℕ). take (k * l) t ++ part ++ drop (k * l + l) t) inv.values
          ∙ copy_filled old vs xs k;
    }

pub returns-clause-values : goal.returns-clause-values
returns-clause-values c =
    let a = c.args in
    let is : c.loop-copy.copy ≡ a.copies = omega arith in
    c.loop-copy.invariant.values
    ∙ ap (λ (k : ℕ). elements_at (values_of a.size a.bytes.now) (places k a.strided.now.offsets.now) ++
    drop (k * length a.strided.now.offsets.now) (values_of a.size a.out.now)) is
    ∙ all_filled (values_of a.size a.out.now)
    (elements_at (values_of a.size a.bytes.now) (places a.copies a.strided.now.offsets.now)) (a.copies * length a.strided.now.offsets.now)
    c.requires.room

pub loop-copy-init : goal.loop-copy-init
loop-copy-init c = record {
  whole = c.requires.out;
  len = refl;
  values = none_filled (values_of c.args.size c.args.out.now) (values_of c.args.size c.args.bytes.now)
      c.args.strided.now.offsets.now;
}
