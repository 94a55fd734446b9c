use Rattle.std.proofs.Common.{sym, refl, ◌∙◌}
use Rattle.reliable_link.proofs.Idle.{is_idle, idle_waits}
use Rattle.reliable_link.proofs.sender.Sender.set_wait.Goals as goal

pub returns-in-None : goal.returns-in-None
returns-in-None c =
    sym (is_idle c.self.inside.begun c.self.inside.clock c.args.wait _ refl c.in-None.is)
    ∙ idle_waits c.self.inside.clock c.self.inside.wait c.args.self.now c.args.wait
    (is_idle c.self.inside.begun c.self.inside.clock c.self.inside.wait c.args.self.now c.self.view_is c.in-None.is)
