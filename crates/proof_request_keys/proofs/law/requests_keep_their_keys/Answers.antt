use Rattle.proof_request_keys.proofs.Engines.{calls_keep_keys, datagrams_keep_keys, given_are_named, named_are_own}
use Rattle.proof_request_keys.proofs.Engines.{ticks_keep_keys}
use Rattle.proof_request_keys.proofs.law.requests_keep_their_keys.Goals as goal

pub returns-clause-calls : goal.returns-clause-calls
returns-clause-calls c = calls_keep_keys

pub returns-clause-given : goal.returns-clause-given
returns-clause-given c = given_are_named

pub returns-clause-datagrams : goal.returns-clause-datagrams
returns-clause-datagrams c = datagrams_keep_keys

pub returns-clause-ticks : goal.returns-clause-ticks
returns-clause-ticks c = ticks_keep_keys

pub returns-clause-own : goal.returns-clause-own
returns-clause-own c = named_are_own
