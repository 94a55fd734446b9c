-- Members of a struct, and the blocks of maps that they stand for.
use Rattle.std.specs.Prelude.{◌≡◌, ℕ, List, length, slice_get, Some}
use Rattle.type_maps.specs.declared.blocks.Block.{Block}
use Rattle.type_maps.specs.declared.indexed.Member.{Member}
use Rattle.type_maps.specs.Maps.{Map}
use Rattle.type_maps.specs.Types.{IsTypeOf}

-- each member is a block of a type of the map
pub record AreMembers (parts : List (Block × Map)) (members : List Member) : Type 0 where
  pub length_is : length parts ≡ length members
  pub block : (k : ℕ) (p : Block × Map) (x : Member) → slice_get parts k ≡ Some p → slice_get members k ≡ Some x → p.0
      ≡ x.block
  pub item : (k : ℕ) (p : Block × Map) (x : Member) → slice_get parts k ≡ Some p → slice_get members k ≡ Some x →
      IsTypeOf p.1 x.item.now
