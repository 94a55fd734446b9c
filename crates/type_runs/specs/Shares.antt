-- Which indices of a dimension a process has (MPI 3.1, 4.1.4), as blocks and a part of one.
use Rattle.std.specs.Prelude.{◌≡◌, ◌⊎◌, ℕ, ◌+◌, ◌*◌, ◌/◌, ◌%◌, ◌<◌, ◌^◌, min, ◌++◌}
use Rattle.std.specs.List.{range_with_len}
use Rattle.type_maps.specs.declared.blocks.Distribution.{Distribution}
use Rattle.type_maps.specs.Constructors.{own_indices}
use Rattle.type_maps.specs.Distributions.{blocks_from}
use Rattle.type_runs.specs.declared.shares.Share.{Share}

-- the whole blocks of a number of rounds, and what is left of one
abbrev pub parts_of : ℕ → ℕ → ℕ → Share
parts_of left block round = record { blocks = left / round; rest = min (left % round) block }

-- the process is one of them, blocks have indices, and a round is within 64 bits
pub record HasShare (d : Distribution) : Type 0 where
  pub block : 0 < d.block
  pub process : d.process < d.processes
  pub round : d.block * d.processes < 2 ^ 64

-- so many blocks, each a round behind the one before it, and a part of a further one are the indices that it has
abbrev pub AreOwn : Distribution → Share → Type 0
AreOwn d s = own_indices d ≡ blocks_from (d.process * d.block) d.block (d.processes * d.block) s.blocks ++
    range_with_len (d.process * d.block + s.blocks * (d.processes * d.block)) s.rest

-- the number is 0, and the share is told; or there is none, and nothing is
abbrev pub ShareTells : Distribution → (old_blocks new_blocks old_rest new_rest number : ℕ) → Type 0
ShareTells d b blocks r rest number =
    ((number ≡ 0) × AreOwn d (record { blocks = blocks; rest = rest })) ⊎
    ((number ≡ 96) × (HasShare d → ⊥) × (blocks ≡ b) × (rest ≡ r))
