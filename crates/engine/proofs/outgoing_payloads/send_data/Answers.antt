-- The data go out on the answer, or the limit or want of memory stops them.
use Rattle.std.proofs.Common.{All, List, Some, sym, ap, subst, ◌∙◌}
use Rattle.std.proofs.lemmas.Result.{err_from_is_err_and}
use Rattle.datagram.specs.Spellings.{OutgoingText}
use Rattle.incarnation.specs.declared.place.Place.{Place}
use Rattle.sessions.specs.Events.{CanSend, event_limit, sendings}
use Rattle.sessions.specs.HeardBytes.{heard_text}
use Rattle.engine.proofs.PayloadPieces.{data_can_go, data_go_at, limit_met, memory_wanting, on_ok}
use Rattle.engine.specs.Datagrams.{data_sent}
use Rattle.engine_calls.specs.Refusals.{fault_of_sessions}
use Rattle.engine.proofs.outgoing_payloads.send_data.Goals as goal

pub returns-in-Some-clause-err : goal.returns-in-Some-clause-err
returns-in-Some-clause-err c =
    let r = c.args.heard.source.rank in
    limit_met _ c.in-Some.met
    (sym (c.limit_of.ensures (data_sent c.args.sessions.now.place.message_limit r c.args.transfer c.args.bytes.now)
    (data_go_at c.place.result c.args.sessions.now.place r c.args.transfer c.count_of.result c.args.bytes.now
    c.place.ensures.place c.count_of.ensures)) ∙ c.in-Some.is)

pub returns-in_err-frames-clause-err : goal.returns-in_err-frames-clause-err
returns-in_err-frames-clause-err c =
    let r = c.args.heard.source.rank in
    let p = err_from_is_err_and c.from_residual.result c.from_residual.ensures.1 in
    let none = sym (c.limit_of.ensures (data_sent c.args.sessions.now.place.message_limit r c.args.transfer c.args.bytes.now) (data_go_at c.place.result c.args.sessions.now.place r c.args.transfer c.count_of.result c.args.bytes.now
    c.place.ensures.place c.count_of.ensures))
    ∙ c.in_default.is in
    rw (p.1, none) (p.2 ∙ c.in_err-frames.ensures.err)

pub carry_out-requires-clause-go : goal.carry_out-requires-clause-go
carry_out-requires-clause-go c =
    let says = ap sendings c.deref.ensures.value ∙ c.in_ok-frames.ensures.ok
    ∙ ap (λ (p : Place). data_sent p.message_limit c.args.heard.source.rank c.args.transfer c.args.bytes.now) c.place.ensures.place in
    subst (λ (fs : List OutgoingText). All (CanSend c.args.sessions.now.place) fs) (sym says)
    (data_can_go c.args.sessions.now.place c.args.sessions.now.place.message_limit c.args.heard.source.rank
    c.args.transfer c.args.bytes.now c.requires.there)

pub carry_out-requires-clause-limit : goal.carry_out-requires-clause-limit
carry_out-requires-clause-limit c =
    let r = c.args.heard.source.rank in
    let says = ap sendings c.deref.ensures.value ∙ c.in_ok-frames.ensures.ok
    ∙ ap (λ (p : Place). data_sent p.message_limit c.args.heard.source.rank c.args.transfer c.args.bytes.now) c.place.ensures.place in
    ap (λ (fs : List OutgoingText). fault_of_sessions
    (event_limit c.args.sessions.now (Some (heard_text c.args.heard)) fs))
    says
    ∙ sym (c.limit_of.ensures (data_sent c.args.sessions.now.place.message_limit r c.args.transfer c.args.bytes.now)
    (data_go_at c.place.result c.args.sessions.now.place r c.args.transfer c.count_of.result c.args.bytes.now
    c.place.ensures.place c.count_of.ensures))
    ∙ c.in_default.is

pub returns-clause-none : goal.returns-clause-none
returns-clause-none c =
    let r = c.args.heard.source.rank in
    on_ok c.carry_out.result
    (sym (c.limit_of.ensures (data_sent c.args.sessions.now.place.message_limit r c.args.transfer c.args.bytes.now)
    (data_go_at c.place.result c.args.sessions.now.place r c.args.transfer c.count_of.result c.args.bytes.now
    c.place.ensures.place c.count_of.ensures)) ∙ c.in_default.is)

pub returns-clause-err : goal.returns-clause-err
returns-clause-err c =
    let r = c.args.heard.source.rank in
    memory_wanting _ c.carry_out.result
    (sym (c.limit_of.ensures (data_sent c.args.sessions.now.place.message_limit r c.args.transfer c.args.bytes.now)
    (data_go_at c.place.result c.args.sessions.now.place r c.args.transfer c.count_of.result c.args.bytes.now
    c.place.ensures.place c.count_of.ensures)) ∙ c.in_default.is)
    c.carry_out.ensures.err
