-- Where no limit is told, none is met.
use Rattle.engine_calls.proofs.Limits.{is_unlimited}
use Rattle.engine.proofs.outgoing_payloads.carry_out.Goals as goal

pub carry_out_judged-requires-clause-limit : goal.carry_out_judged-requires-clause-limit
carry_out_judged-requires-clause-limit c = is_unlimited _ c.requires.limit
