use Rattle.type_maps.specs.Refusals.{PlacesFit}
use Rattle.type_maps.proofs.Gives.{copied_gives}
use Rattle.type_maps.proofs.summary.Summary.copied.Goals as goal

pub returns : goal.returns
returns c = copied_gives c.args.at.now.count c.args.at.now.at c.args.at.now.stride (PlacesFit c.args.at.now)
    c.args.self.now
    c.in_ok-hull.hull c.spread.result c.requires c.in_ok-hull.ensures c.spread.ensures
