use Rattle.launch_plan.specs.Configuration.{is_blank}
use Rattle.launch_plan.proofs.CutLaws.{cut_is, place_within}
use Rattle.launch_plan.proofs.cut.first_piece.Goals as goal

pub cut_at-requires : goal.cut_at-requires
cut_at-requires c = place_within is_blank c.args.line.now c.first_blank.result c.first_blank.ensures

pub returns : goal.returns
returns c = cut_is is_blank c.args.line.now c.first_blank.result c.cut_at.result c.first_blank.ensures c.cut_at.ensures
