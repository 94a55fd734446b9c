use Rattle.proof_engine_steps.proofs.TransferCounts.{
  numbers_are_counts,
  transfers_from_are_counted,
  transfers_to_are_counted,
}
use Rattle.proof_engine_steps.proofs.numbers.transfers_are_counted.Goals as goal

pub returns-clause-numbers : goal.returns-clause-numbers
returns-clause-numbers c = numbers_are_counts

pub returns-clause-to : goal.returns-clause-to
returns-clause-to c = transfers_to_are_counted

pub returns-clause-from : goal.returns-clause-from
returns-clause-from c = transfers_from_are_counted
