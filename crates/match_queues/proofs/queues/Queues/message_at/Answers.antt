-- The place was found among those that the queues hold.
use Rattle.std.proofs.Common.{ℕ, Option, ap, sym, ◌∙◌}
use Rattle.match_queues.specs.Slots.{standing}
use Rattle.match_queues.specs.State.{Held, place_for}
use Rattle.match_queues.proofs.Steps.{found_message}
use Rattle.match_queues.proofs.queues.Queues.message_at.Goals as goal

pub returns-clause-none : goal.returns-clause-none
returns-clause-none c = λ e. c.at.ensures ∙ ap (λ (o : Option ℕ). standing c.self.inside.unexpected.slots o) e

pub returns-clause-exact : goal.returns-clause-exact
returns-clause-exact c = λ r at.
    found_message r c.self.inside.unexpected.slots c.args.self.now.state.unexpected c.args.found _ c.at.ensures
    (at ∙ sym (ap (λ (h : Held). place_for r h.places) c.self.view_is))
    (ap (λ (h : Held). h.state.unexpected) c.self.view_is)
