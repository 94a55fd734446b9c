use Rattle.std.proofs.Common.{sym}
use Rattle.reliable_link.proofs.Fresh.{kept_noted}
use Rattle.reliable_link.proofs.open_sender.OpenSender.mark.Goals as goal

pub invariant_of-self : goal.invariant_of-self
invariant_of-self c =
    kept_noted c.self.inside.wait c.self.inside.lowest c.self.inside.clock c.args.held c.self.inside.settled c.still_settled-settled.result
    c.self.inside.frames _ c.first_is_held.result (sym c.first_is_held.ensures) c.still_settled-settled.ensures
    c.note.ensures c.self.invariant
