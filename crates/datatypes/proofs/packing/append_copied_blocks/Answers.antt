use Rattle.std.proofs.Common.{◌≡◌, ◌*◌, ◌++◌, ℕ, List, length, sym, ap, subst, ◌∙◌, arith}
use Rattle.std.proofs.lemmas.List.{append-nil, append_assoc}
use Rattle.std.proofs.lemmas.List.Concat.{flat_map-append}
use Rattle.derived_types.specs.Layouts.{extent_of, moved, places}
use Rattle.derived_types.proofs.LayoutLaws.{copies_at-none}
use Rattle.datatypes.specs.Contents.{values_of}
use Rattle.datatypes.specs.Transfers.{AreNear}
use Rattle.datatypes.specs.Pieces.{piece_at, pieces_of}
use Rattle.datatypes.proofs.PlaceLaws.{near_moved, places_suc}
use Rattle.datatypes.proofs.FillLaws.{near_copy_of}
use Rattle.datatypes.proofs.BlockLaws.{block_in_bytes}
use Rattle.datatypes.proofs.packing.append_copied_blocks.Goals as goal

pub loop-number-init : goal.loop-number-init
loop-number-init c =
    let a = c.args in
    sym (ap (λ (t : List ℕ). a.out.now.items ++ pieces_of a.strided.now.size a.bytes.now t) (copies_at-none 0 a.strided.now.offsets.now) ∙
    append-nil a.out.now.items)

pub overflow_mul-one : goal.overflow_mul-one
overflow_mul-one c =
    let a = c.args in
    let xs = a.strided.now.offsets.now in
    let k = c.loop-number.number in
    let by = k * extent_of xs in
    let elements = length (values_of a.strided.now.size a.bytes.now) in
    let near = near_copy_of a.copies k elements xs c.requires.some (omega arith) c.requires.near in
    let low = near_moved by 0 elements xs c.requires.some near in
    let fits = block_in_bytes a.strided.now.size a.bytes.now by 0 a.strided.now.low c.requires.bytes (omega arith) in
    let within = fits.0 in
    let wide = fits.1 in
    let same : k * a.strided.now.extent ≡ by = ap (λ (e : ℕ). k * e) a.strided.now.extent_is in
    rw same (omega arith)

pub append_blocks-requires-clause-near : goal.append_blocks-requires-clause-near
append_blocks-requires-clause-near c =
    let a = c.args in
    let xs = a.strided.now.offsets.now in
    let k = c.loop-number.number in
    let elements = length (values_of a.strided.now.size a.bytes.now) in
    let near = near_copy_of a.copies k elements xs c.requires.some (omega arith) c.requires.near in
    subst (λ (e : ℕ). AreNear (moved (k * e) xs) elements) (sym a.strided.now.extent_is) near

pub loop-number-preserved : goal.loop-number-preserved
loop-number-preserved c =
    let a = c.args in
    let xs = a.strided.now.offsets.now in
    let k = c.loop-number.number in
    let bytes = a.bytes.now in
    let front = pieces_of a.strided.now.size bytes (places k xs) in
    let here = pieces_of a.strided.now.size bytes (moved (k * a.strided.now.extent) xs) in
    c.in_ok-append_blocks.ensures
    ∙ ap (λ (t : List ℕ). t ++ here) c.loop-number.invariant
    ∙ append_assoc a.out.now.items front here
    ∙ ap (λ (e : ℕ). a.out.now.items ++ (front ++ pieces_of a.strided.now.size bytes (moved (k * e) xs))) a.strided.now.extent_is
    ∙ ap (λ (t : List ℕ). a.out.now.items ++ t)
    (sym (flat_map-append (λ (place : ℕ). piece_at a.strided.now.size bytes place) (places k xs) (moved (k * extent_of xs) xs)))
    ∙ ap (λ (t : List ℕ). a.out.now.items ++ pieces_of a.strided.now.size bytes t) (sym (places_suc k xs))
