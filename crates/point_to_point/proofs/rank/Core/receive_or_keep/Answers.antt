-- The message that comes is answerable, and those that were taken out stay.
use Rattle.std.proofs.Common.{sym, subst}
use Rattle.point_to_point.specs.CoreState.{Held, IsAnswerable}
use Rattle.point_to_point.proofs.CoreLaws.{kept_on_arrival, kept_on_collection}
use Rattle.point_to_point.proofs.TakenMessages.{kept_on_announcement, kept_on_answer, kept_on_finish}
use Rattle.point_to_point.proofs.rank.Core.receive_or_keep.Goals as goal

pub invariant_of-self-in-Whole : goal.invariant_of-self-in-Whole
invariant_of-self-in-Whole c =
    rw (c.finish.ensures, c.arrive.ensures.state) (kept_on_finish _ _ _ _
    (kept_on_arrival _ _ _ _ _ c.self.invariant
    (subst (λ (h : Held). IsAnswerable h.state.place.size c.args.message c.args.message.body)
    (sym c.self.view_is) c.requires.answerable)) _ _ _)

pub invariant_of-self-in-Own : goal.invariant_of-self-in-Own
invariant_of-self-in-Own c =
    rw (c.finish_send.ensures, c.finish-in-Own.ensures, c.arrive.ensures.state)
    (kept_on_answer _ _ _ _ (kept_on_finish _ _ _ _
    (kept_on_arrival _ _ _ _ _ c.self.invariant
    (subst (λ (h : Held). IsAnswerable h.state.place.size c.args.message c.args.message.body)
    (sym c.self.view_is) c.requires.answerable)) _ _ _) _)

pub invariant_of-self-in-Some : goal.invariant_of-self-in-Some
invariant_of-self-in-Some c =
    rw (c.announce.ensures, c.collect.ensures.state, c.arrive.ensures.state)
    (kept_on_announcement _ _ _ _ (kept_on_collection _ _ _ _ _
    (kept_on_arrival _ _ _ _ _ c.self.invariant
    (subst (λ (h : Held). IsAnswerable h.state.place.size c.args.message c.args.message.body)
    (sym c.self.view_is) c.requires.answerable))) _ _ _)

pub invariant_of-self-in_default-collection : goal.invariant_of-self-in_default-collection
invariant_of-self-in_default-collection c =
    rw (c.announce.ensures, c.arrive.ensures.state) (kept_on_announcement _ _ _ _
    (kept_on_arrival _ _ _ _ _ c.self.invariant
    (subst (λ (h : Held). IsAnswerable h.state.place.size c.args.message c.args.message.body)
    (sym c.self.view_is) c.requires.answerable)) _ _ _)
