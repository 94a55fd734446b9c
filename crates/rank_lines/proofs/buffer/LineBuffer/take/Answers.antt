use Rattle.std.proofs.Common.{rules, ap, ◌∙◌}
use Rattle.rank_lines.proofs.LineLaws.{taken_by}
use Rattle.rank_lines.proofs.buffer.LineBuffer.take.Goals as goal

pub returns : goal.returns
returns c =
    taken_by c.args.self.now c.args.more.now c.split_at.result.0.now c.split_at.result.1.now _ _
    c.replace-lines.result.items c.whole_length.result c.whole_length.ensures c.split_at.ensures.front
    c.split_at.ensures.back (search rules) (search rules) (search rules) (search rules)
