use Rattle.std.proofs.Common.{◌≡◌, ◌-◌, ◌∙◌, arith}
use Rattle.reliable_link.proofs.Senders.{frames_left, left_whichever}
use Rattle.reliable_link.proofs.open_sender.OpenSender.kept_after.Goals as goal

pub returns-then-n-self-clause-exact : goal.returns-then-n-self-clause-exact
returns-then-n-self-clause-exact c =
    let none : c.len-kept.result ≡ c.len-kept.result - (c.args.n - c.self.inside.lowest) = omega arith in
    none ∙ frames_left _ _ c.args.n c.len-kept.result c.self.view_is c.requires (omega arith)

pub returns-then-n-self-clause-marked : goal.returns-then-n-self-clause-marked
returns-then-n-self-clause-marked c =
    let none : c.len-kept.result ≡ c.len-kept.result - (c.args.n - c.self.inside.lowest) = omega arith in
    left_whichever c.args.self.now c.args.n c.len-kept.result
    (none ∙ frames_left _ _ c.args.n c.len-kept.result c.self.view_is c.requires (omega arith))

pub returns-clause-exact : goal.returns-clause-exact
returns-clause-exact c = frames_left _ _ c.args.n c.len-kept.result c.self.view_is c.requires (omega arith)

pub returns-clause-marked : goal.returns-clause-marked
returns-clause-marked c =
    left_whichever c.args.self.now c.args.n _
    (frames_left _ _ c.args.n c.len-kept.result c.self.view_is c.requires (omega arith))
