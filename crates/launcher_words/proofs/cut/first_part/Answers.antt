use Rattle.launcher_words.specs.Cuts.{is_byte}
use Rattle.launcher_words.proofs.CutLaws.{cut_is, place_within}
use Rattle.launcher_words.proofs.cut.first_part.Goals as goal

pub cut_at-requires : goal.cut_at-requires
cut_at-requires c = place_within (is_byte c.args.end) c.args.text.now c.first_place.result c.first_place.ensures

pub returns : goal.returns
returns c =
    cut_is (is_byte c.args.end) c.args.text.now c.first_place.result c.cut_at.result c.first_place.ensures
    c.cut_at.ensures
