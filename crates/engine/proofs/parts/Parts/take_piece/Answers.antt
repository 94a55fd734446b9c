-- The message of a whole payload is taken in beside the others, or the payload is put back.
use Rattle.std.proofs.Common.{Err, Ok, sym, ◌∙◌}
use Rattle.datagram.specs.Spellings.{data_text}
use Rattle.sessions.specs.HeardBytes.{heard_text}
use Rattle.engine.proofs.LastPiece.{last_given, next_given}
use Rattle.engine.proofs.parts.Parts.take_piece.Goals as goal

pub returns-in-Some-clause-exact : goal.returns-in-Some-clause-exact
returns-in-Some-clause-exact c =
    last_given (heard_text c.args.heard) (data_text c.args.piece) c.in-Some.whole c.args.self.now
    c.take_whole.new.self c.take_last.new.self c.take_last.result
    (sym c.is_due.ensures ∙ c.if-not-is_due.false) c.in-Some.ensures.whole
    c.take_whole.ensures.others c.in-Some.ensures.state
    c.in-Some.ensures.back c.requires.lesson c.take_last.ensures.exact

pub returns-in-Ok-clause-exact : goal.returns-in-Ok-clause-exact
returns-in-Ok-clause-exact c =
    next_given (heard_text c.args.heard) (data_text c.args.piece) c.args.self.now c.take_whole.new.self
    c.take_next.new.self (Ok tt) (sym c.is_due.ensures ∙ c.if-not-is_due.false) c.in-None.ensures.whole
    c.in-None.ensures.kept c.in-Ok.ensures.exact

pub returns-in-Err-clause-exact : goal.returns-in-Err-clause-exact
returns-in-Err-clause-exact c =
    next_given (heard_text c.args.heard) (data_text c.args.piece) c.args.self.now c.take_whole.new.self
    c.take_next.new.self (Err c.in-Err.refused) (sym c.is_due.ensures ∙ c.if-not-is_due.false)
    c.in-None.ensures.whole c.in-None.ensures.kept c.in-Err.ensures.exact
