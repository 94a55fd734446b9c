use Rattle.std.proofs.Common.{◌≡◌, ◌+◌, ◌*◌, ◌++◌, ℕ, List, length, get_or, take, drop, sym, ap, ◌∙◌, arith}
use Rattle.std.proofs.lemmas.List.{append_assoc}
use Rattle.datatypes.specs.Contents.{values_of}
use Rattle.datatypes.specs.Pieces.{pieces_of}
use Rattle.derived_types.specs.Layouts.{moved}
use Rattle.datatypes.proofs.BlockLaws.{block_there, block_near, block_in_bytes, block_piece}
use Rattle.datatypes.proofs.packing.append_blocks.Goals as goal

pub overflow_mul-first : goal.overflow_mul-first
overflow_mul-first c =
    let xs = c.args.copy.now.offsets.now in
    let there = block_there c.args.block c.loop-number.number (length xs) (omega arith) in
    omega arith

pub bounds-copy-number : goal.bounds-copy-number
bounds-copy-number c =
    let xs = c.args.copy.now.offsets.now in
    let there = block_there c.args.block c.loop-number.number (length xs) (omega arith) in
    omega arith

pub overflow_add-first : goal.overflow_add-first
overflow_add-first c =
    let a = c.args in
    let size = a.copy.now.size in
    let xs = a.copy.now.offsets.now in
    let k = c.loop-number.number in
    let there = block_there a.block k (length xs) (omega arith) in
    let near = block_near a.block k a.copy.now.from (length (values_of size a.bytes.now)) xs c.requires.blocks c.requires.block there c.requires.near in
    let at = a.copy.now.from + get_or xs (k * a.block) 0 in
    let fits = block_in_bytes size a.bytes.now at a.block a.copy.now.low c.requires.bytes near in
    let within = fits.0 in
    let wide = fits.1 in
    omega arith

pub overflow_mul-first-in-loop-number : goal.overflow_mul-first-in-loop-number
overflow_mul-first-in-loop-number c =
    let a = c.args in
    let size = a.copy.now.size in
    let xs = a.copy.now.offsets.now in
    let k = c.loop-number.number in
    let there = block_there a.block k (length xs) (omega arith) in
    let near = block_near a.block k a.copy.now.from (length (values_of size a.bytes.now)) xs c.requires.blocks c.requires.block there c.requires.near in
    let at = a.copy.now.from + get_or xs (k * a.block) 0 in
    let fits = block_in_bytes size a.bytes.now at a.block a.copy.now.low c.requires.bytes near in
    let within = fits.0 in
    let wide = fits.1 in
    omega arith

pub overflow_mul-block : goal.overflow_mul-block
overflow_mul-block c =
    let a = c.args in
    let size = a.copy.now.size in
    let xs = a.copy.now.offsets.now in
    let k = c.loop-number.number in
    let there = block_there a.block k (length xs) (omega arith) in
    let near = block_near a.block k a.copy.now.from (length (values_of size a.bytes.now)) xs c.requires.blocks c.requires.block there c.requires.near in
    let at = a.copy.now.from + get_or xs (k * a.block) 0 in
    let fits = block_in_bytes size a.bytes.now at a.block a.copy.now.low c.requires.bytes near in
    let within = fits.0 in
    let wide = fits.1 in
    omega arith

pub run-requires : goal.run-requires
run-requires c =
    let a = c.args in
    let size = a.copy.now.size in
    let xs = a.copy.now.offsets.now in
    let k = c.loop-number.number in
    let there = block_there a.block k (length xs) (omega arith) in
    let near = block_near a.block k a.copy.now.from (length (values_of size a.bytes.now)) xs c.requires.blocks c.requires.block there c.requires.near in
    let at = a.copy.now.from + get_or xs (k * a.block) 0 in
    let fits = block_in_bytes size a.bytes.now at a.block a.copy.now.low c.requires.bytes near in
    let within = fits.0 in
    let wide = fits.1 in
    omega arith

pub loop-number-preserved : goal.loop-number-preserved
loop-number-preserved c =
    let a = c.args in
    let size = a.copy.now.size in
    let xs = a.copy.now.offsets.now in
    let k = c.loop-number.number in
    let there = block_there a.block k (length xs) (omega arith) in
    let at = a.copy.now.from + get_or xs (k * a.block) 0 in
    let front = pieces_of size a.bytes.now (moved a.copy.now.from (take (k * a.block) xs)) in
    let here = take (a.block * size) (drop (at * size) a.bytes.now) in
    let next : k * a.block + a.block ≡ (k + 1) * a.block = omega arith in
    c.in_ok-extend_from_slice.ensures.items
    ∙ ap (λ (t : List ℕ). c.loop-number.out.items ++ t) c.run.ensures
    ∙ ap (λ (t : List ℕ). t ++ here) c.loop-number.invariant
    ∙ append_assoc a.out.now.items front here
    ∙ ap (λ (t : List ℕ). a.out.now.items ++ t)
    (sym (block_piece size a.block k a.copy.now.from a.bytes.now xs c.requires.blocks there))
    ∙ ap (λ (n : ℕ). a.out.now.items ++ pieces_of size a.bytes.now (moved a.copy.now.from (take n xs))) next
