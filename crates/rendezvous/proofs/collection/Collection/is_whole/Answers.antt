-- FOR SPEED ALONE: each goal here is proved without this file, too; with it a wrong body is refused soon.
use Rattle.std.proofs.Common.{rules}
use Rattle.rendezvous.proofs.collection.Collection.is_whole.Goals as goal

pub len-requires : goal.len-requires
len-requires c κs = search rules

pub returns : goal.returns
returns c = search rules
