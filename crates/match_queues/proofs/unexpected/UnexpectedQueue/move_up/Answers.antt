use Rattle.std.proofs.Common.{ap, ◌∙◌}
use Rattle.match_queues.specs.declared.envelope.Message.{Message}
use Rattle.match_queues.specs.Slots.{Slots, somes}
use Rattle.match_queues.proofs.SlotLemmas.{somes-filter}
use Rattle.match_queues.proofs.unexpected.UnexpectedQueue.move_up.Goals as goal

pub returns : goal.returns
returns c = ap somes c.move_up-filed.ensures.slots ∙ somes-filter c.self.inside.slots.items ∙
    ap (λ (s : Slots Message). somes s.slots) c.self.view_is
