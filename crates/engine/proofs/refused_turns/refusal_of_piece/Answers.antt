-- Data that are due are refused as their message is, or for the sessions' limit or want of memory.
use Rattle.std.proofs.Common.{[], Option, Some, None, sym, subst, ◌∙◌}
use Rattle.datagram.specs.Spellings.{data_text}
use Rattle.incarnation.specs.declared.place.Place.{Place}
use Rattle.point_to_point_calls.specs.Refusals.{IsRefusal}
use Rattle.point_to_point_calls.specs.declared.refusal.Refusal.{Refusal}
use Rattle.sessions.specs.HeardBytes.{heard_text}
use Rattle.engine.proofs.WithoutMemory.{due, not_due, of_nobody, unread}
use Rattle.engine.specs.HeldFrameEnds.{WhyUnread}
use Rattle.engine.specs.Parts.{engine_by}
use Rattle.engine.proofs.refused_turns.refusal_of_piece.Goals as goal

pub returns-then-not-is_due-clause-exact : goal.returns-then-not-is_due-clause-exact
returns-then-not-is_due-clause-exact c = λ core groups ended.
    not_due (engine_by core c.args.core.now.payloads.state c.args.sessions.now groups ended) (heard_text c.args.heard)
    (data_text c.args.piece) (sym c.is_due.ensures ∙ c.if-not-is_due.true)

pub returns-in_default-clause-exact : goal.returns-in_default-clause-exact
returns-in_default-clause-exact c = λ core groups ended.
    due (engine_by core c.args.core.now.payloads.state c.args.sessions.now groups ended) (heard_text c.args.heard)
    (data_text c.args.piece) None c.or_memory.result (sym c.is_due.ensures ∙ c.if-not-is_due.false)
    c.in_default.ensures.whole
    (subst (λ (o : Option Refusal). IsRefusal o c.or_memory.result)
    (c.limit_of.ensures [] (of_nobody c.args.heard.source.rank)) c.or_memory.ensures)

pub returns-clause-exact : goal.returns-clause-exact
returns-clause-exact c = λ core groups ended.
    let e = engine_by core c.args.core.now.payloads.state c.args.sessions.now groups ended in
    let h = heard_text c.args.heard in
    due e h (data_text c.args.piece) (Some c.in-Some.whole.whole) c.refusal_of_message-refusal.result
    (sym c.is_due.ensures ∙ c.if-not-is_due.false) c.in-Some.ensures.whole
    (unread e h c.in-Some.whole.whole c.bytes.result.now c.refusal_of_message-refusal.result c.bytes.ensures
    (subst (λ (p : Place). WhyUnread p.size c.bytes.result.now c.refusal_of_message-refusal.result)
    c.place.ensures.place c.refusal_of_message-refusal.ensures))
