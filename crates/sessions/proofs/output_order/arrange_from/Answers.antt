use Rattle.std.proofs.Common.{refl}
use Rattle.sessions.proofs.ListEnds.{in_order}
use Rattle.sessions.proofs.output_order.arrange_from.Goals as goal

pub returns : goal.returns
returns c = in_order _ _ c.arrange.new.out _ c.requires refl c.arrange.ensures.same c.arrange.ensures.order
