use Rattle.std.proofs.Common.{refl}
use Rattle.vocabulary.specs.BasicTypes.{size_of}
use Rattle.datatypes.specs.ContentLaws.{sizes, values_of-nil}
use Rattle.datatypes.proofs.store.Store.reserved.Goals as goal

pub returns : goal.returns
returns c = rw (c.in_ok-bytes.ensures.items, values_of-nil (size_of c.args.basic) (sizes c.args.basic).positive) refl
