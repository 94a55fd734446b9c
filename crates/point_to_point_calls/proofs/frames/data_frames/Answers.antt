-- The frames say what the pieces do.
use Rattle.std.proofs.Common.{ap, ◌∙◌}
use Rattle.std.specs.Prelude.{map}
use Rattle.datatypes.proofs.RunLaws.{if_ok}
use Rattle.point_to_point_calls.specs.FrameNews.{framed}
use Rattle.point_to_point_calls.proofs.Pieces.{frames_are}
use Rattle.point_to_point_calls.proofs.frames.data_frames.Goals as goal

pub returns-clause-ok : goal.returns-clause-ok
returns-clause-ok c =
    if_ok c.frames_of.result
    (λ fs made. frames_are c.args.rank c.args.offer.now.transfer fs.items c.in-Ok.pieces.items _
    (made ∙ ap (map (framed c.args.rank c.args.offer.now.transfer)) c.deref.ensures.value) c.in-Ok.ensures)
    c.frames_of.ensures.ok
