-- The message is the payload's.
use Rattle.sessions.specs.HeardBytes.{heard_text}
use Rattle.engine.proofs.LastPiece.{message_back, message_taken}
use Rattle.engine.proofs.parts.Parts.take_last.Goals as goal

pub returns-in-Ok-clause-exact : goal.returns-in-Ok-clause-exact
returns-in-Ok-clause-exact c =
    message_taken (heard_text c.args.heard) c.args.whole _ c.args.self.now c.take_message.new.self c.in-Ok.ending
    c.received_whole-message.ensures c.in-Ok.ensures.exact

pub returns-in-Err-clause-exact : goal.returns-in-Err-clause-exact
returns-in-Err-clause-exact c =
    message_back (heard_text c.args.heard) c.args.whole _ c.args.self.now c.take_message.new.self c.in-Err.refused
    c.put_back.new.self c.received_whole-message.ensures c.in-Err.ensures.exact c.put_back.ensures.others
    c.put_back.ensures.state
