use Rattle.type_maps.proofs.OwnIndices as indices
use Rattle.type_maps.proofs.laws.own_indices_are_blocks.Goals as goal

pub returns : goal.returns
returns c = indices.own_indices_are_blocks
