-- The frame meets the limit of its rank.
use Rattle.std.proofs.Common.{Option, option_map, ap}
use Rattle.datagram.specs.declared.frame.Outgoing.{Outgoing}
use Rattle.point_to_point_calls.specs.Frames.{addressed}
use Rattle.engine_calls.proofs.judgement.limit_of_frame.Goals as goal

pub returns-in-Some : goal.returns-in-Some
returns-in-Some c =
    c.limit_to_rank.ensures (addressed c.args.frame)
    (ap (λ (o : Option Outgoing). option_map (λ t. t.target) (addressed o)) c.in-Some.is)
