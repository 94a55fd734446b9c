use Rattle.std.proofs.Common.{refl, sym, ◌∙◌}
use Rattle.reliable_link.proofs.Fresh.{kept_waiting, no_shorter}
use Rattle.reliable_link.proofs.open_sender.OpenSender.set_wait.Goals as goal

pub invariant_of-self : goal.invariant_of-self
invariant_of-self c =
    kept_waiting c.self.inside.wait c.args.wait c.self.inside.lowest c.self.inside.clock c.self.inside.settled
    c.still_settled-self-inside.result c.self.inside.frames
    (λ t. no_shorter c.self.inside.wait c.args.wait c.self.inside.settled _ refl (sym c.still_settled-self-inside.ensures ∙ t))
    c.self.invariant
