use Rattle.std.proofs.Common.{◌≡◌, take}
use Rattle.derived_types.specs.Layouts.{indexed_offsets}
use Rattle.derived_types.specs.Spans.{span_of, unless_far}
use Rattle.derived_types.proofs.layout.Layout.judge_indexed.Given as goal

abbrev pub invariant-loop-block : goal.invariant-loop-block
invariant-loop-block l = l.all ≡ unless_far (span_of (indexed_offsets (take l.block-index l.blocks) l.self.offsets))
