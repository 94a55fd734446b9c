-- There are numbers for each rank, as before.
use Rattle.std.proofs.Common.{◌∙◌}
use Rattle.rendezvous.proofs.PayloadNumbers.{counted_length}
use Rattle.point_to_point.proofs.rank.Core.announce_payloads.Goals as goal

pub invariant_of-self : goal.invariant_of-self
invariant_of-self c =
    let before = c.self.invariant in
    rw c.announce_payloads.ensures.state (record {
      width = counted_length _ c.args.payloads.items ∙ before.width;
      answerable = before.answerable;
      offers = before.offers;
      taken = before.taken;
    })
