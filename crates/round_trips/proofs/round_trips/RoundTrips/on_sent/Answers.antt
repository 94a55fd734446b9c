use Rattle.std.proofs.Common.{sym, ◌∙◌}
use Rattle.round_trips.proofs.KindLaws.{sent_unread}
use Rattle.round_trips.proofs.round_trips.RoundTrips.on_sent.Goals as goal

pub returns-then-not-may_be : goal.returns-then-not-may_be
returns-then-not-may_be c =
    sent_unread c.args.self.now c.args.bytes.now c.args.now (sym c.may_be.ensures ∙ c.if-not-may_be.true)
