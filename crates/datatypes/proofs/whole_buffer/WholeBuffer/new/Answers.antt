use Rattle.std.proofs.Common.{refl}
use Rattle.vocabulary.specs.BasicTypes.{size_of}
use Rattle.datatypes.specs.ContentLaws.{sizes, values_of-nil, none_whole}
use Rattle.datatypes.proofs.whole_buffer.WholeBuffer.new.Goals as goal

pub invariant_of-result : goal.invariant_of-result
invariant_of-result c = rw c.new.ensures.items (none_whole (size_of c.args.basic) (sizes c.args.basic).positive)

pub returns : goal.returns
returns c = rw (c.new.ensures.items, values_of-nil (size_of c.args.basic) (sizes c.args.basic).positive) refl
