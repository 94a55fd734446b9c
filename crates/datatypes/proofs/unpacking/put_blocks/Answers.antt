use Rattle.std.proofs.Common.{◌≡◌, ◌+◌, ◌*◌, ◌/◌, ◌≤◌, ℕ, List, length, get_or, take, drop, sym, ap, subst, ◌∙◌, arith}
use Rattle.std.specs.List.{range_with_len}
use Rattle.datatypes.specs.Contents.{values_of, AreWhole}
use Rattle.datatypes.specs.ContentLaws.{length-values_of}
use Rattle.datatypes.specs.Transfers.{put_at}
use Rattle.derived_types.specs.Layouts.{moved}
use Rattle.datatypes.proofs.BlockLaws.{block_there, block_near, block_in_bytes, block_put, blocks_more, with_run-len}
use Rattle.datatypes.proofs.unpacking.put_blocks.Goals as goal

pub overflow_add-place : goal.overflow_add-place
overflow_add-place c =
    let a = c.args in
    let size = a.copy.now.size in
    let xs = a.copy.now.offsets.now in
    let ms = values_of size a.message.now in
    let k = c.loop-number.number in
    let n = k * a.block in
    let inv = c.loop-number.invariant in
    let items = c.loop-number.bytes in
    let there = block_there a.block k (length xs) (omega arith) in
    let at = a.copy.now.from + get_or xs n 0 in
    let near = block_near a.block k a.copy.now.from (length (values_of size a.bytes.now)) xs c.requires.blocks c.requires.block there c.requires.near in
    let room : at + a.block ≤ length (values_of size items) = omega (arith, inv.elements) in
    let fits = block_in_bytes size items at a.block a.copy.now.low inv.whole room in
    let within = fits.0 in
    let wide = fits.1 in
    let held : a.start + n + a.block ≤ length ms = omega (arith, c.requires.start) in
    let source = block_in_bytes size a.message.now (a.start + n) a.block a.copy.now.low c.requires.message held in
    let inside = source.0 in
    let long = source.1 in
    omega arith

pub overflow_add-start : goal.overflow_add-start
overflow_add-start c =
    let a = c.args in
    let size = a.copy.now.size in
    let xs = a.copy.now.offsets.now in
    let ms = values_of size a.message.now in
    let k = c.loop-number.number in
    let n = k * a.block in
    let inv = c.loop-number.invariant in
    let items = c.loop-number.bytes in
    let there = block_there a.block k (length xs) (omega arith) in
    let at = a.copy.now.from + get_or xs n 0 in
    let near = block_near a.block k a.copy.now.from (length (values_of size a.bytes.now)) xs c.requires.blocks c.requires.block there c.requires.near in
    let room : at + a.block ≤ length (values_of size items) = omega (arith, inv.elements) in
    let fits = block_in_bytes size items at a.block a.copy.now.low inv.whole room in
    let within = fits.0 in
    let wide = fits.1 in
    let held : a.start + n + a.block ≤ length ms = omega (arith, c.requires.start) in
    let source = block_in_bytes size a.message.now (a.start + n) a.block a.copy.now.low c.requires.message held in
    let inside = source.0 in
    let long = source.1 in
    omega arith

pub overflow_mul-start : goal.overflow_mul-start
overflow_mul-start c =
    let a = c.args in
    let size = a.copy.now.size in
    let xs = a.copy.now.offsets.now in
    let ms = values_of size a.message.now in
    let k = c.loop-number.number in
    let n = k * a.block in
    let inv = c.loop-number.invariant in
    let items = c.loop-number.bytes in
    let there = block_there a.block k (length xs) (omega arith) in
    let at = a.copy.now.from + get_or xs n 0 in
    let near = block_near a.block k a.copy.now.from (length (values_of size a.bytes.now)) xs c.requires.blocks c.requires.block there c.requires.near in
    let room : at + a.block ≤ length (values_of size items) = omega (arith, inv.elements) in
    let fits = block_in_bytes size items at a.block a.copy.now.low inv.whole room in
    let within = fits.0 in
    let wide = fits.1 in
    let held : a.start + n + a.block ≤ length ms = omega (arith, c.requires.start) in
    let source = block_in_bytes size a.message.now (a.start + n) a.block a.copy.now.low c.requires.message held in
    let inside = source.0 in
    let long = source.1 in
    omega arith

pub overflow_mul-block : goal.overflow_mul-block
overflow_mul-block c =
    let a = c.args in
    let size = a.copy.now.size in
    let xs = a.copy.now.offsets.now in
    let ms = values_of size a.message.now in
    let k = c.loop-number.number in
    let n = k * a.block in
    let inv = c.loop-number.invariant in
    let items = c.loop-number.bytes in
    let there = block_there a.block k (length xs) (omega arith) in
    let at = a.copy.now.from + get_or xs n 0 in
    let near = block_near a.block k a.copy.now.from (length (values_of size a.bytes.now)) xs c.requires.blocks c.requires.block there c.requires.near in
    let room : at + a.block ≤ length (values_of size items) = omega (arith, inv.elements) in
    let fits = block_in_bytes size items at a.block a.copy.now.low inv.whole room in
    let within = fits.0 in
    let wide = fits.1 in
    let held : a.start + n + a.block ≤ length ms = omega (arith, c.requires.start) in
    let source = block_in_bytes size a.message.now (a.start + n) a.block a.copy.now.low c.requires.message held in
    let inside = source.0 in
    let long = source.1 in
    omega arith

pub run-piece-requires : goal.run-piece-requires
run-piece-requires c =
    let a = c.args in
    let size = a.copy.now.size in
    let xs = a.copy.now.offsets.now in
    let ms = values_of size a.message.now in
    let k = c.loop-number.number in
    let n = k * a.block in
    let inv = c.loop-number.invariant in
    let items = c.loop-number.bytes in
    let there = block_there a.block k (length xs) (omega arith) in
    let at = a.copy.now.from + get_or xs n 0 in
    let near = block_near a.block k a.copy.now.from (length (values_of size a.bytes.now)) xs c.requires.blocks c.requires.block there c.requires.near in
    let room : at + a.block ≤ length (values_of size items) = omega (arith, inv.elements) in
    let fits = block_in_bytes size items at a.block a.copy.now.low inv.whole room in
    let within = fits.0 in
    let wide = fits.1 in
    let held : a.start + n + a.block ≤ length ms = omega (arith, c.requires.start) in
    let source = block_in_bytes size a.message.now (a.start + n) a.block a.copy.now.low c.requires.message held in
    let inside = source.0 in
    let long = source.1 in
    omega arith

pub overflow_mul-place-in-loop-number : goal.overflow_mul-place-in-loop-number
overflow_mul-place-in-loop-number c =
    let a = c.args in
    let size = a.copy.now.size in
    let xs = a.copy.now.offsets.now in
    let ms = values_of size a.message.now in
    let k = c.loop-number.number in
    let n = k * a.block in
    let inv = c.loop-number.invariant in
    let items = c.loop-number.bytes in
    let there = block_there a.block k (length xs) (omega arith) in
    let at = a.copy.now.from + get_or xs n 0 in
    let near = block_near a.block k a.copy.now.from (length (values_of size a.bytes.now)) xs c.requires.blocks c.requires.block there c.requires.near in
    let room : at + a.block ≤ length (values_of size items) = omega (arith, inv.elements) in
    let fits = block_in_bytes size items at a.block a.copy.now.low inv.whole room in
    let within = fits.0 in
    let wide = fits.1 in
    let held : a.start + n + a.block ≤ length ms = omega (arith, c.requires.start) in
    let source = block_in_bytes size a.message.now (a.start + n) a.block a.copy.now.low c.requires.message held in
    let inside = source.0 in
    let long = source.1 in
    omega arith

pub copy_within-requires : goal.copy_within-requires
copy_within-requires c =
    let a = c.args in
    let size = a.copy.now.size in
    let xs = a.copy.now.offsets.now in
    let ms = values_of size a.message.now in
    let k = c.loop-number.number in
    let n = k * a.block in
    let inv = c.loop-number.invariant in
    let items = c.loop-number.bytes in
    let there = block_there a.block k (length xs) (omega arith) in
    let at = a.copy.now.from + get_or xs n 0 in
    let near = block_near a.block k a.copy.now.from (length (values_of size a.bytes.now)) xs c.requires.blocks c.requires.block there c.requires.near in
    let room : at + a.block ≤ length (values_of size items) = omega (arith, inv.elements) in
    let fits = block_in_bytes size items at a.block a.copy.now.low inv.whole room in
    let within = fits.0 in
    let wide = fits.1 in
    let held : a.start + n + a.block ≤ length ms = omega (arith, c.requires.start) in
    let source = block_in_bytes size a.message.now (a.start + n) a.block a.copy.now.low c.requires.message held in
    let inside = source.0 in
    let long = source.1 in
    let put = block_put size at (a.start + n) a.block items a.message.now a.copy.now.low inv.whole c.requires.message inside within c.run-piece.result.now c.run-piece.ensures in
    omega (arith, put.0)

pub loop-number-preserved : goal.loop-number-preserved
loop-number-preserved c =
    let a = c.args in
    let size = a.copy.now.size in
    let xs = a.copy.now.offsets.now in
    let ms = values_of size a.message.now in
    let k = c.loop-number.number in
    let n = k * a.block in
    let inv = c.loop-number.invariant in
    let items = c.loop-number.bytes in
    let there = block_there a.block k (length xs) (omega arith) in
    let at = a.copy.now.from + get_or xs n 0 in
    let near = block_near a.block k a.copy.now.from (length (values_of size a.bytes.now)) xs c.requires.blocks c.requires.block there c.requires.near in
    let room : at + a.block ≤ length (values_of size items) = omega (arith, inv.elements) in
    let fits = block_in_bytes size items at a.block a.copy.now.low inv.whole room in
    let within = fits.0 in
    let wide = fits.1 in
    let held : a.start + n + a.block ≤ length ms = omega (arith, c.requires.start) in
    let source = block_in_bytes size a.message.now (a.start + n) a.block a.copy.now.low c.requires.message held in
    let inside = source.0 in
    let long = source.1 in
    let next : n + a.block ≡ (k + 1) * a.block = omega arith in
    let put = block_put size at (a.start + n) a.block items a.message.now a.copy.now.low inv.whole c.requires.message inside within c.run-piece.result.now c.run-piece.ensures in
    let room_left : at * size + length c.run-piece.result.now ≤ length items = omega (arith, put.0) in
    let len : length c.copy_within.new.bytes ≡ length items = ap length c.copy_within.ensures ∙ with_run-len (at * size) items c.run-piece.result.now room_left in
    let bytes = ap (λ (m : ℕ). m / size) len in
    let part = take a.block (drop (a.start + n) ms) in
    let old = values_of size a.bytes.now in
    record {
      whole = subst (AreWhole size) (sym c.copy_within.ensures) put.1;
      len = len ∙ inv.len;
      elements = length-values_of size c.copy_within.new.bytes ∙ bytes ∙ sym (length-values_of size items) ∙
          inv.elements;
      values = ap (values_of size) c.copy_within.ensures
          ∙ put.2
          ∙ ap (λ (t : List ℕ). put_at t (range_with_len at a.block) part) inv.values
          ∙ blocks_more a.block k a.copy.now.from a.start old xs ms c.requires.blocks there c.requires.start
          ∙ ap (λ (m : ℕ). put_at old (moved a.copy.now.from (take m xs)) (take m (drop a.start ms))) next;
    }
