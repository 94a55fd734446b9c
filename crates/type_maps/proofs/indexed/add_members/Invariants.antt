use Rattle.std.proofs.Common.{List, take}
use Rattle.type_maps.specs.declared.blocks.Block.{Block}
use Rattle.type_maps.specs.Maps.{Map}
use Rattle.type_maps.specs.Members.{AreMembers}
use Rattle.type_maps.specs.Types.{IsBuilt, after_blocks}
use Rattle.type_maps.proofs.indexed.add_members.Given as goal

abbrev pub invariant-loop-member : goal.invariant-loop-member
invariant-loop-member l = (m : Map) (parts : List (Block × Map)) → IsBuilt m l.initial.made → AreMembers parts
    l.members →
    IsBuilt (after_blocks m (take l.member-index parts)) l.made
