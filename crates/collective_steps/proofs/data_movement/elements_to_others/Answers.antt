-- The others are those that aren't the rank itself.
use Rattle.std.proofs.Common.{◌≡◌, ℕ, List, map, ap, ◌∙◌, subst, IfOk}
use Rattle.collective_messages.specs.declared.message.MessageContent.TheVariants as given
use Rattle.collective_steps.specs.Steps.{message_to}
use Rattle.collective_messages.specs.declared.message.CollectiveMessage.{CollectiveMessage}
use Rattle.payload.specs.declared.payload.Direction.TheVariants.{FromRoot}
use Rattle.collective_steps.proofs.Others.{to_others_is}
use Rattle.collective_steps.proofs.data_movement.elements_to_others.Goals as goal

pub returns : goal.returns
returns c =
    let i = c.args.inside.now in
    let said = given.Elements FromRoot c.args.elements.now in
    subst (λ (xs : List CollectiveMessage). IfOk c.elements_to_each.result (λ messages. messages.items ≡ xs))
    (ap (λ (rs : List ℕ). map (λ r. message_to i said r) rs) (c.deref.ensures.value ∙ c.in_ok-others.ensures)
    ∙ to_others_is c.args.own i (λ r. said) c.args.ranks.now)
    c.elements_to_each.ensures
