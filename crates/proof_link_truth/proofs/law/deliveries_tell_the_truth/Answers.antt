use Rattle.proof_link_truth.proofs.Deliveries.{deliveries_begin, discards_are_true, turns_are_true}
use Rattle.proof_link_truth.proofs.Deliveries.{turns_tell_the_truth}
use Rattle.proof_link_truth.proofs.OrderLaws.{order_is_free}
use Rattle.proof_link_truth.proofs.law.deliveries_tell_the_truth.Goals as goal

pub returns-clause-begin : goal.returns-clause-begin
returns-clause-begin c = deliveries_begin

pub returns-clause-heard : goal.returns-clause-heard
returns-clause-heard c = turns_tell_the_truth

pub returns-clause-turns : goal.returns-clause-turns
returns-clause-turns c = turns_are_true

pub returns-clause-discards : goal.returns-clause-discards
returns-clause-discards c = discards_are_true

pub returns-clause-order : goal.returns-clause-order
returns-clause-order c = order_is_free
