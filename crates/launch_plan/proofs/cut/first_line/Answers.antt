use Rattle.launch_plan.specs.Configuration.{is_line_end}
use Rattle.launch_plan.proofs.CutLaws.{cut_is, place_within}
use Rattle.launch_plan.proofs.cut.first_line.Goals as goal

pub cut_at-requires : goal.cut_at-requires
cut_at-requires c = place_within is_line_end c.args.text.now c.first_line_end.result c.first_line_end.ensures

pub returns : goal.returns
returns c =
    cut_is is_line_end c.args.text.now c.first_line_end.result c.cut_at.result c.first_line_end.ensures c.cut_at.ensures
