use Rattle.std.proofs.Common.{rules}
use Rattle.std.proofs.lemmas.List.Sorted.{IsNonDecreasingBy-from_sort_by_key}
use Rattle.sessions.specs.OutgoingOrder.{order_of}
use Rattle.sessions.proofs.output_order.arrange.Goals as goal

pub returns-clause-order : goal.returns-clause-order
returns-clause-order c =
    IsNonDecreasingBy-from_sort_by_key order_of _ c.sort_unstable_by_key.ensures.sorted (λ a r q k. search rules)
