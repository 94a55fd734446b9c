use Rattle.proof_link_truth.proofs.Datagrams.{hearing_is_true}
use Rattle.proof_link_truth.proofs.Idle.{idle_holds_nothing, idle_is_still}
use Rattle.proof_link_truth.proofs.Openings.{opening_is_true}
use Rattle.proof_link_truth.proofs.Refusals.{refusals_are_true}
use Rattle.proof_link_truth.proofs.Restarts.{restarts_are_true}
use Rattle.proof_link_truth.proofs.Sendings.{events_are_true, rest_is_true}
use Rattle.proof_link_truth.proofs.Ticks.{ticks_are_true}
use Rattle.proof_link_truth.proofs.law.datagrams_tell_the_truth.Goals as goal

pub returns-clause-opening : goal.returns-clause-opening
returns-clause-opening c = opening_is_true

pub returns-clause-hearing : goal.returns-clause-hearing
returns-clause-hearing c = hearing_is_true

pub returns-clause-events : goal.returns-clause-events
returns-clause-events c = events_are_true

pub returns-clause-rest : goal.returns-clause-rest
returns-clause-rest c = rest_is_true

pub returns-clause-refusals : goal.returns-clause-refusals
returns-clause-refusals c = refusals_are_true

pub returns-clause-ticks : goal.returns-clause-ticks
returns-clause-ticks c = ticks_are_true

pub returns-clause-restarts : goal.returns-clause-restarts
returns-clause-restarts c = restarts_are_true

pub returns-clause-idle : goal.returns-clause-idle
returns-clause-idle c = idle_is_still

pub returns-clause-empty : goal.returns-clause-empty
returns-clause-empty c = idle_holds_nothing
