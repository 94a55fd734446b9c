use Rattle.std.proofs.Common.{arith, sym, ap, length, ◌+◌, ◌-◌}
use Rattle.std.proofs.lemmas.List.{length-drop}
use Rattle.reliable_link.specs.SenderState.{SenderState, out_end}
use Rattle.reliable_link.proofs.Senders.{is_passed, acknowledged}
use Rattle.reliable_link.proofs.Fresh.{kept_heeded}
use Rattle.reliable_link.proofs.open_sender.OpenSender.pass.Goals as goal

pub returns-then-n-self : goal.returns-then-n-self
returns-then-n-self c =
    sym (is_passed c.args.self.now c.args.n (omega (arith, ap (λ (s : SenderState). s.lowest) c.self.view_is)))

pub returns : goal.returns
returns c =
    acknowledged _ _ c.args.n (c.self.inside.lowest + c.out_of.result - c.args.n) c.out_of-out.result _ c.self.view_is
    (omega arith) (omega arith) (omega (arith, ap length c.drop_front.ensures))
    (rw c.drop_front.ensures at c.mark_between.ensures)

pub invariant_of-self : goal.invariant_of-self
invariant_of-self c =
    kept_heeded c.self.inside.wait c.self.inside.lowest c.args.n c.self.inside.clock _ c.out_of-out.result _ c.self.inside.frames _
    (omega arith) (omega (arith, ap out_end c.self.view_is)) (omega arith)
    (omega (arith, ap length c.drop_front.ensures, length-drop (c.args.n - c.self.inside.lowest) c.self.inside.frames))
    (rw c.drop_front.ensures at c.mark_between.ensures) c.self.invariant
