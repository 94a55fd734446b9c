use Rattle.std.proofs.Common.{length}
use Rattle.type_maps.proofs.datatype.Datatype.+subarray.Given as goal

abbrev pub decreases-subarray : goal.decreases-subarray
decreases-subarray l = length l.dimensions.now
