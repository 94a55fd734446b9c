use Rattle.std.proofs.Common.{rules, refl, ◌≡◌, [], ◌∷◌, subst, ◌∙◌}
use Rattle.std.specs.Prelude.{None}
use Rattle.outgoing_datagrams.specs.HandedDatagrams.{HandsOn, kept_in}
use Rattle.outgoing_datagrams.proofs.HandedSteps.{hands_joined, none_behind, one_fewer}
use Rattle.outgoing_datagrams.proofs.KeptSteps.{keeps_joined}
use Rattle.outgoing_datagrams.proofs.sending.Sending.pass_all.Goals as goal

pub returns-in-Some-clause-hands : goal.returns-in-Some-clause-hands
returns-in-Some-clause-hands c =
    let going = c.in-Some.going in
    hands_joined c.args.self.now.kept c.loop.self.kept c.pass.new.self.kept c.args.self.now.waiting c.loop.self.waiting
    c.pass.new.self.waiting [] ((going.target, going.bytes) ∷ []) c.loop.invariant.0 c.in-Some.ensures.hands

pub loop-preserved : goal.loop-preserved
loop-preserved c =
    let none : c.pass.result ≡ None = search rules in
    let l = c.loop in
    let after = c.pass.new.self in
    let hands = subst (λ o. HandsOn l.self.kept l.self.waiting (kept_in o) after.kept after.waiting) none c.pass.ensures.hands in (
      hands_joined c.args.self.now.kept l.self.kept after.kept c.args.self.now.waiting l.self.waiting after.waiting [] []
          l.invariant.0 hands,
      c.pass.ensures.time ∙ l.invariant.1,
      one_fewer l.self.waiting after.waiting l.counter c.len-end.result (c.pass.ensures.passed none) l.invariant.2
          (search rules),
      λ empty.
          absurd (none_behind l.self c.args.self.now l.counter c.len-end.result (l.invariant.3 empty) empty l.invariant.2
          (search rules)),
      keeps_joined c.args.self.now l.self after c.args.self.now.waiting l.self.waiting after.waiting l.invariant.1
          l.invariant.0 l.invariant.4 c.pass.ensures.keeps,
    )

pub returns-in-Some-clause-keeps : goal.returns-in-Some-clause-keeps
returns-in-Some-clause-keeps c =
    let l = c.loop in
    keeps_joined c.args.self.now l.self c.pass.new.self c.args.self.now.waiting l.self.waiting c.pass.new.self.waiting
    l.invariant.1 l.invariant.0 l.invariant.4 c.in-Some.ensures.keeps

pub returns-in_err-next-clause-stays : goal.returns-in_err-next-clause-stays
returns-in_err-next-clause-stays c =
    let none : c.from_residual.result ≡ None = search rules in
    λ empty. (none, c.loop.invariant.3 empty)

pub returns-in-Some-clause-stays : goal.returns-in-Some-clause-stays
returns-in-Some-clause-stays c =
    let l = c.loop in
    λ empty.
    absurd (none_behind l.self c.args.self.now l.counter c.len-end.result (l.invariant.3 empty) empty l.invariant.2
    (search rules))

pub returns-clause-stays : goal.returns-clause-stays
returns-clause-stays c = λ empty. (refl, c.loop.invariant.3 empty)
