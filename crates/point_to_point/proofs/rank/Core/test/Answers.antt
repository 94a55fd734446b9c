-- Requests that are used up leave the messages that were taken out.
use Rattle.std.proofs.Common.{refl}
use Rattle.requests.specs.declared.awaited_requests.Awaited.TheVariants.{One}
use Rattle.point_to_point.proofs.TakenMessages.{kept_on_completion}
use Rattle.point_to_point.proofs.rank.Core.test.Goals as goal

pub invariant_of-self : goal.invariant_of-self
invariant_of-self c =
    kept_on_completion _ _ _ _ c.self.invariant c.self.inside.requests c.complete.new.self
    (One c.args.request) c.complete.result refl c.complete.ensures
