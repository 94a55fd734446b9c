use Rattle.std.proofs.Common.{arith}
use Rattle.datagram.proofs.Grammar.{is_found_within, is_only_within, is_within_limit}
use Rattle.datagram.proofs.reading.read_within.Goals as goal

pub returns-clause-found : goal.returns-clause-found
returns-clause-found c = is_found_within _ _ _ (λ i. omega (arith, c.type_inv.bytes i)) c.datagram_within.ensures

pub returns-clause-within : goal.returns-clause-within
returns-clause-within c = is_within_limit _ _ _ c.datagram_within.ensures

pub returns-clause-only : goal.returns-clause-only
returns-clause-only c = is_only_within _ _ _ c.datagram_within.ensures
