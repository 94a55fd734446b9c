-- The others are those that aren't the rank itself.
use Rattle.std.proofs.Common.{◌≡◌, ℕ, List, map, ap, ◌∙◌, subst, IfOk}
use Rattle.collective_steps.specs.Steps.{given_of, message_to, mine}
use Rattle.collective_messages.specs.declared.message.CollectiveMessage.{CollectiveMessage}
use Rattle.collective_steps.proofs.Others.{to_others_is}
use Rattle.collective_steps.proofs.contents.groups_to_others.Goals as goal

pub returns : goal.returns
returns c =
    let i = c.args.inside.now in
    let made = c.args.made.now in
    subst (λ (xs : List CollectiveMessage). IfOk c.groups_to_each.result (λ messages. messages.items ≡ xs))
    (ap (λ (rs : List ℕ). map (λ r. message_to i (given_of (mine r made)) r) rs) (c.deref.ensures.value ∙
    c.in_ok-others.ensures)
    ∙ to_others_is c.args.own i (λ r. given_of (mine r made)) c.args.ranks.now)
    c.groups_to_each.ensures
