use Rattle.std.proofs.Common.{[], ◌∷◌, sym, ◌∙◌}
use Rattle.datagram.specs.Spellings.{request_text}
use Rattle.sessions.specs.HeardBytes.{heard_text}
use Rattle.engine.proofs.PayloadPieces.{answer_is_for, mode_fault}
use Rattle.engine.specs.Datagrams.{answer_to}
use Rattle.engine.proofs.outgoing_payloads.fault_of_announcement.Goals as goal

pub returns : goal.returns
returns c =
    let h = heard_text c.args.heard in
    let t = request_text c.args.request in
    c.limit_of.ensures (answer_to h t ∷ []) (answer_is_for h t) ∙
    mode_fault c.args.request.mode _ _ c.in_default.not-Synchronous (sym c.is_next.ensures ∙ c.if-not-is_next.false)
