-- What is heard is what its notice says.
use Rattle.std.proofs.Common.{Err, None, Ok, Some, sym, ap, ◌∙◌}
use Rattle.datagram.specs.Spellings.{clear_text, data_text, eager_text, request_text}
use Rattle.sessions.specs.HeardBytes.{heard_text}
use Rattle.engine.proofs.DatagramLaws.{as_heard, as_message}
use Rattle.engine.specs.Datagrams.{OfAnnouncement, OfAnswer, OfMessage, OfPiece, notice_text, received}
use Rattle.engine.specs.declared.notice_kinds.Notice.{Notice}
use Rattle.engine.proofs.parts.Parts.hear.Goals as goal

pub returns-in-Some-Message-clause-exact : goal.returns-in-Some-Message-clause-exact
returns-in-Some-Message-clause-exact c =
    let h = heard_text c.args.heard in
    let t = eager_text c.in-Some-Message.message in
    as_heard (Some (OfMessage t)) c.args.self.now c.take_message.new.self c.take_message.result h
    (sym (ap (λ (n : Notice). Some (notice_text n)) c.in-Some-Message.field-0-is) ∙ c.in-Some-Message.ensures)
    (as_message h t (received c.received_in.result) c.args.self.now c.take_message.new.self c.take_message.result
    c.received_in.ensures c.take_message.ensures.exact)

pub returns-in-Some-Announcement-clause-exact : goal.returns-in-Some-Announcement-clause-exact
returns-in-Some-Announcement-clause-exact c =
    as_heard (Some (OfAnnouncement (request_text c.in-Some-Announcement.request))) c.args.self.now
    c.take_announcement.new.self c.take_announcement.result (heard_text c.args.heard)
    (sym (ap (λ (n : Notice). Some (notice_text n)) c.in-Some-Announcement.field-0-is) ∙
    c.in-Some-Announcement.ensures)
    c.take_announcement.ensures.exact

pub returns-in-Some-Piece-clause-exact : goal.returns-in-Some-Piece-clause-exact
returns-in-Some-Piece-clause-exact c =
    as_heard (Some (OfPiece (data_text c.in-Some-Piece.piece))) c.args.self.now c.take_piece.new.self
    c.take_piece.result (heard_text c.args.heard)
    (sym (ap (λ (n : Notice). Some (notice_text n)) c.in-Some-Piece.field-0-is) ∙ c.in-Some-Piece.ensures)
    c.take_piece.ensures.exact

pub returns-in-None-clause-exact : goal.returns-in-None-clause-exact
returns-in-None-clause-exact c =
    as_heard None c.args.self.now c.take_news.new.self c.take_news.result (heard_text c.args.heard)
    c.in-None.ensures c.take_news.ensures.exact

pub returns-in-Ok-clause-exact : goal.returns-in-Ok-clause-exact
returns-in-Ok-clause-exact c =
    as_heard (Some (OfAnswer (clear_text c.in-Some-Answer.answer))) c.args.self.now c.take_answer.new.self (Ok None)
    (heard_text c.args.heard)
    (sym (ap (λ (n : Notice). Some (notice_text n)) c.in-Some-Answer.field-0-is) ∙ c.in-Some-Answer.ensures)
    c.in-Ok.ensures.exact

pub returns-in-Err-clause-exact : goal.returns-in-Err-clause-exact
returns-in-Err-clause-exact c =
    as_heard (Some (OfAnswer (clear_text c.in-Some-Answer.answer))) c.args.self.now c.take_answer.new.self
    (Err c.in-Err.refused) (heard_text c.args.heard)
    (sym (ap (λ (n : Notice). Some (notice_text n)) c.in-Some-Answer.field-0-is) ∙ c.in-Some-Answer.ensures)
    c.in-Err.ensures.exact
