use Rattle.proof_session_carrying.proofs.NoticeMessages.{brought_arrives, notices_arrive}
use Rattle.proof_session_carrying.proofs.SessionViews.{handed_is_carried, next_stands, out_is_carried, still_is_still}
use Rattle.proof_session_carrying.proofs.law.sessions_carry.Goals as goal

pub returns-clause-out : goal.returns-clause-out
returns-clause-out c = out_is_carried

pub returns-clause-next : goal.returns-clause-next
returns-clause-next c = next_stands

pub returns-clause-handed : goal.returns-clause-handed
returns-clause-handed c = handed_is_carried

pub returns-clause-still : goal.returns-clause-still
returns-clause-still c = still_is_still

pub returns-clause-arrive : goal.returns-clause-arrive
returns-clause-arrive c = notices_arrive

pub returns-clause-messages : goal.returns-clause-messages
returns-clause-messages c = brought_arrives
