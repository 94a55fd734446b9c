-- What is heard is refused as what its notice says.
use Rattle.std.proofs.Common.{None, Some, refl, sym, subst, ap, ◌∙◌}
use Rattle.datagram.specs.Spellings.{clear_text, data_text, eager_text, request_text}
use Rattle.incarnation.specs.declared.place.Place.{Place}
use Rattle.sessions.specs.HeardBytes.{heard_text}
use Rattle.engine.proofs.WithoutMemory.{by_notice, piece_refused, unread}
use Rattle.engine.specs.Datagrams.{OfAnnouncement, OfAnswer, OfMessage, OfPiece, notice_text, whole_in}
use Rattle.engine.specs.HeldFrameEnds.{WhyUnread}
use Rattle.engine.specs.Parts.{engine_by}
use Rattle.engine.specs.declared.notice_kinds.Notice.{Notice}
use Rattle.engine.proofs.refused_turns.refusal_of.Goals as goal

pub returns-in-Some-Message-clause-exact : goal.returns-in-Some-Message-clause-exact
returns-in-Some-Message-clause-exact c = λ groups ended.
    let h = heard_text c.args.heard in
    let t = eager_text c.in-Some-Message.message in
    let e = engine_by c.args.core.now.state c.args.core.now.payloads.state c.args.sessions.now groups ended in
    by_notice (Some (OfMessage t)) e h c.refusal_of_message.result
    (sym (ap (λ (n : Notice). Some (notice_text n)) c.in-Some-Message.field-0-is) ∙ c.in-Some-Message.ensures) (
      unread e h (whole_in t) t.elements c.refusal_of_message.result refl
          (subst (λ (p : Place). WhyUnread p.size t.elements c.refusal_of_message.result) c.place.ensures.place
          c.refusal_of_message.ensures),
      refl,
    )

pub returns-in-Some-Announcement-clause-exact : goal.returns-in-Some-Announcement-clause-exact
returns-in-Some-Announcement-clause-exact c = λ groups ended.
    let h = heard_text c.args.heard in
    let e = engine_by c.args.core.now.state c.args.core.now.payloads.state c.args.sessions.now groups ended in
    by_notice (Some (OfAnnouncement (request_text c.in-Some-Announcement.request))) e h
    c.refusal_of_announcement.result
    (sym (ap (λ (n : Notice). Some (notice_text n)) c.in-Some-Announcement.field-0-is) ∙
    c.in-Some-Announcement.ensures)
    (c.refusal_of_announcement.ensures, refl)

pub returns-in-Some-Answer-clause-exact : goal.returns-in-Some-Answer-clause-exact
returns-in-Some-Answer-clause-exact c = λ groups ended.
    let h = heard_text c.args.heard in
    let e = engine_by c.args.core.now.state c.args.core.now.payloads.state c.args.sessions.now groups ended in
    by_notice (Some (OfAnswer (clear_text c.in-Some-Answer.answer))) e h c.refusal_of_answer.result
    (sym (ap (λ (n : Notice). Some (notice_text n)) c.in-Some-Answer.field-0-is) ∙ c.in-Some-Answer.ensures)
    (c.refusal_of_answer.ensures, refl)

pub returns-in-Some-Piece-clause-exact : goal.returns-in-Some-Piece-clause-exact
returns-in-Some-Piece-clause-exact c = λ groups ended.
    let h = heard_text c.args.heard in
    let t = data_text c.in-Some-Piece.piece in
    let e = engine_by c.args.core.now.state c.args.core.now.payloads.state c.args.sessions.now groups ended in
    by_notice (Some (OfPiece t)) e h c.refusal_of_piece.result
    (sym (ap (λ (n : Notice). Some (notice_text n)) c.in-Some-Piece.field-0-is) ∙ c.in-Some-Piece.ensures)
    (piece_refused e h t c.refusal_of_piece.result (c.refusal_of_piece.ensures.exact c.args.core.now.state groups ended))

pub returns-in-None-clause-exact : goal.returns-in-None-clause-exact
returns-in-None-clause-exact c = λ groups ended.
    let h = heard_text c.args.heard in
    let e = engine_by c.args.core.now.state c.args.core.now.payloads.state c.args.sessions.now groups ended in
    by_notice None e h c.refusal_of_news.result c.in-None.ensures
    (c.requires.something, c.refusal_of_news.ensures, refl)
