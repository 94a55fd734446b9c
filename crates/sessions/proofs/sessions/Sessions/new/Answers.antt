use Rattle.std.proofs.Common.{sym, ◌∙◌}
use Rattle.sessions.proofs.PeerLemmas.{sound_new}
use Rattle.sessions.proofs.sessions.Sessions.new.Goals as goal

pub invariant_of-result : goal.invariant_of-result
invariant_of-result c =
    rw (c.in-Ok.ensures.ok, c.in_ok-peers.ensures.ok)
    (sound_new c.args.place (sym c.fault_of_place.ensures ∙ c.in_default.is))
