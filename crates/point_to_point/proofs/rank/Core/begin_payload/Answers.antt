-- There are numbers for each rank, as before.
use Rattle.std.proofs.Common.{◌∙◌}
use Rattle.std.proofs.lemmas.List.{length-set}
use Rattle.point_to_point.proofs.rank.Core.begin_payload.Goals as goal

pub invariant_of-self : goal.invariant_of-self
invariant_of-self c =
    let before = c.self.invariant in
    rw c.begin_payload.ensures.state (record {
      width = length-set _ _ _ ∙ before.width;
      answerable = before.answerable;
      offers = before.offers;
      taken = before.taken;
    })
