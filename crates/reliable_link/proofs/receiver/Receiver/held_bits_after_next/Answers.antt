use Rattle.std.proofs.Common.{◌-◌, ◌%◌, ℕ, drop, ap, ◌∙◌}
use Rattle.reliable_link.specs.ReceiverState.{ReceiverState, advanced, held_bits}
use Rattle.reliable_link.proofs.Bits.{bits_behind_first}
use Rattle.reliable_link.proofs.receiver.Receiver.held_bits_after_next.Goals as goal

pub returns-clause-exact : goal.returns-clause-exact
returns-clause-exact c =
    ap (λ (n : ℕ). n - n % 2) c.bits-bits.ensures.exact ∙ bits_behind_first (drop 1 c.self.inside.held)
    ∙ ap (λ (r : ReceiverState). held_bits (advanced r)) c.self.view_is
