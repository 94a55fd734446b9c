use Rattle.proof_engine_faults.proofs.OrderlyEngines.{calls_keep_order, completions_keep_order, datagrams_keep_order}
use Rattle.proof_engine_faults.proofs.OrderlyEngines.{new_engines_stay_orderly, out_keeps_order, ticks_keep_order}
use Rattle.proof_engine_faults.proofs.OrderlyEngines.{waits_keep_order}
use Rattle.proof_engine_faults.proofs.law.engines_stay_orderly.Goals as goal

pub returns-clause-new : goal.returns-clause-new
returns-clause-new c = new_engines_stay_orderly

pub returns-clause-calls : goal.returns-clause-calls
returns-clause-calls c = calls_keep_order

pub returns-clause-datagrams : goal.returns-clause-datagrams
returns-clause-datagrams c = datagrams_keep_order

pub returns-clause-ticks : goal.returns-clause-ticks
returns-clause-ticks c = ticks_keep_order

pub returns-clause-out : goal.returns-clause-out
returns-clause-out c = out_keeps_order

pub returns-clause-completions : goal.returns-clause-completions
returns-clause-completions c = completions_keep_order

pub returns-clause-waits : goal.returns-clause-waits
returns-clause-waits c = waits_keep_order
