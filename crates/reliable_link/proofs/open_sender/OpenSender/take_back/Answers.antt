use Rattle.std.proofs.Common.{arith}
use Rattle.reliable_link.proofs.Fresh.{kept_front}
use Rattle.reliable_link.proofs.open_sender.OpenSender.take_back.Goals as goal

pub invariant_of-self : goal.invariant_of-self
invariant_of-self c = kept_front c.self.inside.wait c.self.inside.lowest c.self.inside.clock _ _ c.self.inside.frames _ c.pop_back.ensures
    (omega arith) c.self.invariant
