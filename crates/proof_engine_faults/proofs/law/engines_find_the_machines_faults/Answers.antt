use Rattle.proof_engine_faults.proofs.CallFaults.{own_judgements, own_refusals, own_takings}
use Rattle.proof_engine_faults.proofs.Orderly.{engines_of_worlds_are_orderly, new_engines_are_orderly}
use Rattle.proof_engine_faults.proofs.law.engines_find_the_machines_faults.Goals as goal

pub returns-clause-refused : goal.returns-clause-refused
returns-clause-refused c = own_refusals

pub returns-clause-taken : goal.returns-clause-taken
returns-clause-taken c = own_takings

pub returns-clause-judged : goal.returns-clause-judged
returns-clause-judged c = own_judgements

pub returns-clause-new : goal.returns-clause-new
returns-clause-new c = new_engines_are_orderly

pub returns-clause-worlds : goal.returns-clause-worlds
returns-clause-worlds c = engines_of_worlds_are_orderly
