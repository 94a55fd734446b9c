-- Layouts that are made of blocks of places that follow one another.
use Rattle.std.proofs.Common.{◌≡◌, ℕ, zero, suc, ◌+◌, ◌*◌, ◌/◌, ◌<◌, ◌≤◌, List, ◌++◌, length, get_or, take, drop, sym}
use Rattle.std.proofs.Common.{ap, subst, ◌∙◌, arith}
use Rattle.std.specs.List.{range_with_len}
use Rattle.std.proofs.Math.Nat.{add-mul, div-add-mod', mul-div_cancel, mul-le-mul_left, mul-le-mul_right}
use Rattle.std.proofs.Math.Seq.{take-add}
use Rattle.std.proofs.lemmas.List.{length-append, length-take, length-drop, drop-drop, map-append, get_or-drop}
use Rattle.std.proofs.lemmas.List.{get_or-take}
use Rattle.std.proofs.lemmas.List.Concat.{flat_map-append}
use Rattle.std.proofs.lemmas.List.FromFn.{get_or-range_with_len}
use Rattle.derived_types.specs.Layouts.{moved}
use Rattle.datatypes.specs.Contents.{values_of, AreWhole}
use Rattle.datatypes.specs.ContentLaws.{whole, length-values_of, values_of-take, values_of-drop}
use Rattle.datatypes.specs.Pieces.{piece_at, pieces_of, AreBlocks}
use Rattle.datatypes.specs.Transfers.{put_at, AreNear}
use Rattle.derived_types.proofs.LayoutLaws.{length-moved}
use Rattle.datatypes.proofs.BufferSteps.{AreWhole-drop}
use Rattle.datatypes.proofs.PlaceLaws.{near_moved, part_more, AreWhole-take}
use Rattle.datatypes.proofs.RunLaws.{moved_run, pieces_range, with_run, with_run-is}

-- a block that is counted is there
pub block_there : (block number len : ℕ) → number < len / block → number * block + block ≤ len
block_there block number len lt =
    let m : (number + 1) * block ≤ len / block * block = mul-le-mul_right block (omega arith) in
    let parts = div-add-mod' len block in
    omega arith

-- so many elements from a place on, in bytes
pub block_in_bytes : (size : ℕ) (bytes : List ℕ) (at count : ℕ) → 1 ≤ size → AreWhole size bytes →
    at + count ≤ length (values_of size bytes)
    → (at * size + count * size ≤ length bytes) × (at ≤ at * size)
block_in_bytes size bytes at count h w le =
    let all = whole size bytes w.no_rest in
    let counted = ap (λ (k : ℕ). k * size) (length-values_of size bytes) in
    let m : (at + count) * size ≤ length (values_of size bytes) * size = mul-le-mul_right size le in
    let split = add-mul at count size in
    let wide : at * 1 ≤ at * size = mul-le-mul_left at h in
    (omega arith, omega arith)

-- one block more
pub moved_block : (block number from : ℕ) (xs : List ℕ) → AreBlocks block xs → number * block + block ≤ length xs
    → moved from (take (number * block + block) xs) ≡ moved from (take (number * block) xs) ++
    range_with_len (from + get_or xs (number * block) 0) block
moved_block block number from xs w le =
    let n = number * block in
    let o = get_or xs n 0 in
    ap (moved from) (take-add n block xs ∙ ap (λ (t : List ℕ). take n xs ++ t) (w.run number le))
    ∙ map-append (λ (p : ℕ). from + p) (take n xs) (range_with_len o block)
    ∙ ap (λ (t : List ℕ). moved from (take n xs) ++ t) (moved_run from o block)

-- a block ends where the buffer does, or before
pub block_near : (block number from elements : ℕ) (xs : List ℕ) → AreBlocks block xs → 0 < block →
    number * block + block ≤ length xs → AreNear (moved from xs) elements
    → from + get_or xs (number * block) 0 + block ≤ elements
block_near zero number from elements xs w p le near = absurd (omega arith)
block_near (suc b) number from elements xs w p le near =
    let n = number * suc b in
    let o = get_or xs n 0 in
    let low : from + get_or xs (n + b) 0 < elements = near_moved from (n + b) elements xs (omega arith) near in
    let last : get_or xs (n + b) 0 ≡ o + b =
    sym (get_or-drop n xs b 0)
    ∙ sym (get_or-take (suc b) (drop n xs) b 0 (omega arith))
    ∙ ap (λ (t : List ℕ). get_or t b 0) (w.run number le)
    ∙ get_or-range_with_len o (suc b) b 0 (omega arith)
    in
    omega arith

pub block_piece : (size block number from : ℕ) (bytes xs : List ℕ) → AreBlocks block xs →
    number * block + block ≤ length xs
    → pieces_of size bytes (moved from (take (number * block + block) xs))
    ≡ pieces_of size bytes (moved from (take (number * block) xs)) ++
    take (block * size) (drop ((from + get_or xs (number * block) 0) * size) bytes)
block_piece size block number from bytes xs w le =
    let n = number * block in
    let at = from + get_or xs n 0 in
    ap (pieces_of size bytes) (moved_block block number from xs w le)
    ∙ flat_map-append (λ (place : ℕ). piece_at size bytes place) (moved from (take n xs)) (range_with_len at block)
    ∙ ap (λ (t : List ℕ). pieces_of size bytes (moved from (take n xs)) ++ t) (pieces_range size bytes at block)

-- ---- blocks that are put at their places

-- the elements of a part of a message
pub block_read : (size at count : ℕ) (message : List ℕ) → 0 < size → AreWhole size message →
    at * size + count * size ≤ length message
    → AreWhole size (take (count * size) (drop (at * size) message))
    × (values_of size (take (count * size) (drop (at * size) message)) ≡ take count (drop at (values_of size message)))
block_read size at count message h w le =
    let rest = drop (at * size) message in
    let len = length-drop (at * size) message in
    let wr : AreWhole size rest = AreWhole-drop size message at h w (omega arith) in (
      AreWhole-take size rest count h wr (omega arith),
      (values_of-take size rest count h (omega arith) ∙
          ap (take count) (values_of-drop size message at h (omega arith))),
    )

pub with_run-len : (at : ℕ) (bytes message : List ℕ) → at + length message ≤ length bytes →
    length (with_run at bytes (length message) message) ≡ length bytes
with_run-len at bytes message le =
    omega (
      arith,
      length-append (take at bytes ++ message) (drop (at + length message) bytes),
      length-append (take at bytes) message,
      length-take at bytes,
      length-drop (at + length message) bytes,
    )

-- a part of a message over a run of places
pub block_put : (size to at count : ℕ) (bytes message : List ℕ) → 0 < size → AreWhole size bytes → AreWhole size message
    → at * size + count * size ≤ length message → to * size + count * size ≤ length bytes
    → (piece : List ℕ) → piece ≡ take (count * size) (drop (at * size) message)
    → (length piece ≡ count * size)
    × AreWhole size (with_run (to * size) bytes (length piece) piece)
    × (values_of size (with_run (to * size) bytes (length piece) piece) ≡
    put_at (values_of size bytes) (range_with_len to count) (take count (drop at (values_of size message))))
block_put size to at count bytes message h w wm from room piece e =
    let read = block_read size at count message h wm from in
    let wp : AreWhole size piece = subst (AreWhole size) (sym e) read.0 in
    let len : length piece ≡ count * size = ap length e ∙ omega (arith, length-take (count * size) (drop (at * size) message), length-drop (at * size) message) in
    let vs : values_of size piece ≡ take count (drop at (values_of size message)) = ap (values_of size) e ∙ read.1 in
    let many : length (values_of size piece) ≡ count = length-values_of size piece ∙ ap (λ (n : ℕ). n / size) len ∙ mul-div_cancel count h in
    let put = with_run-is size bytes piece to h w wp (omega arith) in (
      len,
      put.0,
      (put.1
          ∙ ap (λ (n : ℕ). put_at (values_of size bytes) (range_with_len to n) (values_of size piece)) many
          ∙ ap (put_at (values_of size bytes) (range_with_len to count)) vs),
    )

-- the elements put at the places of one block more
pub blocks_more : (block number from start : ℕ) (values xs ms : List ℕ) → AreBlocks block xs →
    number * block + block ≤ length xs → start + length xs ≤ length ms
    → put_at (put_at values (moved from (take (number * block) xs)) (take (number * block) (drop start ms)))
    (range_with_len (from + get_or xs (number * block) 0) block) (take block (drop (start + number * block) ms))
    ≡ put_at values (moved from (take (number * block + block) xs)) (take (number * block + block) (drop start ms))
blocks_more block number from start values xs ms w le room =
    let n = number * block in
    let ns = drop start ms in
    let front = moved from (take n xs) in
    let part = range_with_len (from + get_or xs n 0) block in
    let len : length front ≡ n = omega (arith, length-moved from (take n xs), length-take n xs) in
    let there : n ≤ length ns = omega (arith, length-drop start ms) in
    sym (ap (λ (t : List ℕ). put_at values t (take (n + block) ns)) (moved_block block number from xs w le)
    ∙ part_more values front part ns n block len there
    ∙ ap (λ (t : List ℕ). put_at (put_at values front (take n ns)) part (take block t)) (drop-drop n start ms))
