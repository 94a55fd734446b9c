-- Which indices of a dimension a process has, block by block, as MPI 3.1, 4.1.4 writes them out.
use Rattle.std.specs.Prelude.{◌≡◌, ℕ, zero, suc, ◌+◌, ◌*◌, ◌<◌, ◌≤◌, min, List, [], ◌++◌}
use Rattle.std.specs.List.{range_with_len}
use Rattle.type_maps.specs.declared.blocks.Distribution.{Distribution}
use Rattle.type_maps.specs.Constructors.{own_indices}

-- so many blocks of so many indices, each a round behind the one before it
abbrev pub blocks_from : ℕ → ℕ → ℕ → ℕ → List ℕ
blocks_from a length round zero = []
blocks_from a length round (suc k) = range_with_len a length ++ blocks_from (a + round) length round k

-- a process has a block in each whole round behind the begin of its first one, and then what is left of one; or none
pub record OwnIndicesAreBlocks : Type 0 where
  pub blocks : (d : Distribution) (k over : ℕ) → 0 < d.block → d.process < d.processes →
      over ≤ d.processes * d.block → d.size ≡ d.process * d.block + (k * (d.processes * d.block) + over) →
      own_indices d ≡ blocks_from (d.process * d.block) d.block (d.processes * d.block) k ++
      range_with_len (d.process * d.block + k * (d.processes * d.block)) (min over d.block)
  pub none : (d : Distribution) → 0 < d.block → d.process < d.processes → d.size ≤ d.process * d.block → own_indices d
      ≡ []
