use Rattle.std.proofs.Common.{sym, ◌∙◌}
use Rattle.std.proofs.lemmas.Result.{IfOk-weaker}
use Rattle.simulation.proofs.RankLaws.{reply_made}
use Rattle.simulation.proofs.ranks.RankNames.hear_reply.Goals as goal

-- src/ranks.rt:58:5
pub returns-in-Ok : goal.returns-in-Ok
returns-in-Ok c = IfOk-weaker c.hear.result _ _
    (λ heard h. reply_made c.args.pending c.in-Ok.copy c.args.reply.now c.args.self.now c.hear.new.self heard
    (sym c.is_blocked.ensures ∙ c.if-is_blocked.false) c.in-Ok.ensures h.0 h.1) c.hear.ensures
