-- The constructors of derived types, by the maps that they give (MPI 3.1, 4.1.2 to 4.1.4, 4.1.7 and 4.1.10).
use Rattle.std.specs.Prelude.{ℕ, ◌/◌, ◌%◌, ◌==◌, ℤ, pos, ◌+ℤ◌, ◌*ℤ◌, Bool, List, [], ◌∷◌, map, filter}
use Rattle.std.specs.Prelude.{reverse}
use Rattle.std.specs.List.{range_with_len}
use Rattle.type_maps.specs.declared.blocks.Block.{Block}
use Rattle.type_maps.specs.declared.blocks.Dimension.{Dimension}
use Rattle.type_maps.specs.declared.blocks.Distribution.{Distribution}
use Rattle.type_maps.specs.Maps.{Map, copied, joined_all, places}
use Rattle.type_maps.specs.Summaries.{extent}

-- so many copies of a map, from a byte on, one behind the other: each an extent behind the one before it
abbrev pub block : ℤ → ℕ → Map → Map
block at count m = copied (places at count (extent m)) m

abbrev pub contiguous : ℕ → Map → Map
contiguous count m = block (pos 0) count m

-- so many blocks, each so many bytes behind the one before it
abbrev pub hvector : ℕ → ℕ → ℤ → Map → Map
hvector count blocklength stride m = copied (places (pos 0) count stride) (contiguous blocklength m)

-- the same with the stride counted in extents
abbrev pub vector : ℕ → ℕ → ℤ → Map → Map
vector count blocklength stride m = hvector count blocklength (stride *ℤ extent m) m

-- a block of each map: its length, and the byte at which it begins
abbrev pub struct_of : List (Block × Map) → Map
struct_of parts = joined_all (map (λ (p : Block × Map). block p.0.at p.0.length p.1) parts)

-- blocks of one map, at bytes
abbrev pub blocks_with : List Block → Map → List (Block × Map)
blocks_with blocks m = map (λ b. (b, m)) blocks

abbrev pub hindexed : List Block → Map → Map
hindexed blocks m = struct_of (blocks_with blocks m)

-- the same with the places counted in extents
abbrev pub block_in_bytes : ℤ → Block → Block
block_in_bytes ext b = record { length = b.length; at = b.at *ℤ ext }

abbrev pub blocks_in_bytes : ℤ → List Block → List Block
blocks_in_bytes ext blocks = map (block_in_bytes ext) blocks

abbrev pub indexed : List Block → Map → Map
indexed blocks m = hindexed (blocks_in_bytes (extent m) blocks) m

-- blocks of one length
abbrev pub blocks_of : ℕ → List ℤ → List Block
blocks_of blocklength at = map (λ place. record { length = blocklength; at = place }) at

abbrev pub hindexed_block : ℕ → List ℤ → Map → Map
hindexed_block blocklength at m = hindexed (blocks_of blocklength at) m

abbrev pub indexed_block : ℕ → List ℤ → Map → Map
indexed_block blocklength at m = indexed (blocks_of blocklength at) m

-- the same data, with both bounds marked anew (4.1.7)
abbrev pub resized : ℤ → ℤ → Map → Map
resized lower extent m = record {
  elements = m.elements;
  lower_marks = lower ∷ [];
  upper_marks = (lower +ℤ extent) ∷ [];
}

-- the same map (4.1.10)
abbrev pub dup : Map → Map
dup m = m

-- a part of a row (4.1.3): of `size` copies those from `start` on, `subsize` many; its extent is that of all copies
abbrev pub part_of_row : Dimension → Map → Map
part_of_row d m = resized (pos 0) (pos d.size *ℤ extent m) (block (pos d.start *ℤ extent m) d.subsize m)

-- a part of an array: the dimensions are given from the one whose elements lie next to each other on
abbrev pub part_of_rows : List Dimension → Map → Map
part_of_rows [] m = m
part_of_rows (d ∷ ds) m = part_of_rows ds (part_of_row d m)

-- in Fortran's order the first dimension is that one, in C's order the last
abbrev pub subarray_fortran : List Dimension → Map → Map
subarray_fortran dimensions m = part_of_rows dimensions m

abbrev pub subarray_c : List Dimension → Map → Map
subarray_c dimensions m = part_of_rows (reverse dimensions) m

-- which of a dimension's indices a process has (4.1.4): blocks of so many go round the processes
abbrev pub is_own : Distribution → ℕ → Bool
is_own d index = (index / d.block) % d.processes == d.process

abbrev pub own_indices : Distribution → List ℕ
own_indices d = filter (is_own d) (range_with_len 0 d.size)

-- one dimension of a distributed array: a copy for each index; its extent is that of all indices
abbrev pub part_of_dimension : Distribution → Map → Map
part_of_dimension d m = resized (pos 0) (pos d.size *ℤ extent m)
    (copied (map (λ index. pos index *ℤ extent m) (own_indices d)) m)

abbrev pub part_of_dimensions : List Distribution → Map → Map
part_of_dimensions [] m = m
part_of_dimensions (d ∷ ds) m = part_of_dimensions ds (part_of_dimension d m)
