use Rattle.std.proofs.Common.{arith}
use Rattle.reliable_link.specs.SenderState.{new_frame}
use Rattle.reliable_link.proofs.Fresh.{kept_pushed, new_is_fresh}
use Rattle.reliable_link.proofs.open_sender.OpenSender.accept.Goals as goal

pub invariant_of-self : goal.invariant_of-self
invariant_of-self c =
    kept_pushed c.self.inside.wait c.push.result c.self.inside.lowest c.self.inside.clock c.self.inside.settled c.self.inside.frames _
    (new_frame c.args.bytes c.self.inside.clock) c.push.ensures.ok c.push.ensures.err (omega arith)
    (λ some. new_is_fresh c.self.inside.wait some c.args.bytes c.self.inside.clock) c.self.invariant
