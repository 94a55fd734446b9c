use Rattle.std.proofs.Common.{arith}
use Rattle.payload.proofs.Grammar.{is_found, is_only}
use Rattle.payload.proofs.reading.read_payload.Goals as goal

pub returns-clause-found : goal.returns-clause-found
returns-clause-found c = is_found _ _ (λ i. omega (arith, c.type_inv.bytes i)) c.payload_of.ensures

pub returns-clause-only : goal.returns-clause-only
returns-clause-only c = is_only _ _ c.payload_of.ensures
