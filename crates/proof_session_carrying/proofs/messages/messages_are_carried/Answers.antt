use Rattle.proof_session_carrying.proofs.MessageSteps.{messages_are_carried, others_are_carried}
use Rattle.proof_session_carrying.proofs.MessageSteps.{queue_calls_are_carried, still_texts_are_quiet}
use Rattle.proof_session_carrying.proofs.messages.messages_are_carried.Goals as goal

pub returns-clause-calls : goal.returns-clause-calls
returns-clause-calls c = queue_calls_are_carried

pub returns-clause-messages : goal.returns-clause-messages
returns-clause-messages c = messages_are_carried

pub returns-clause-others : goal.returns-clause-others
returns-clause-others c = others_are_carried

pub returns-clause-still : goal.returns-clause-still
returns-clause-still c = still_texts_are_quiet
