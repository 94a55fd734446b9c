use Rattle.std.proofs.Common.{rules, w64}
use mir.Val.{SFits}
use Rattle.type_maps.proofs.Gives.{padded_gives}
use Rattle.type_maps.proofs.summary.Summary.padded_upper.Goals as goal

pub returns : goal.returns
returns c =
    let fu : SFits w64 c.data_upper-upper.result = search rules in
    let fl : SFits w64 c.lower.result = search rules in
    let fd : SFits w64 c.in_ok-distance.distance = search rules in
    let ff : SFits w64 c.from.result = search rules in
    padded_gives c.args.self.now c.data_upper-upper.result c.lower.result c.in_ok-distance.distance c.from.result
    c.padding.result c.sum.result fu fl fd ff c.data_upper-upper.ensures c.lower.ensures c.in_ok-distance.ensures
    c.padding.ensures c.from.ensures c.sum.ensures
