-- PROOF, and for speed: the goals answered by `search rules` are proved without this file, too.
use Rattle.std.proofs.Common.{◌<◌, sym, subst, rules}
use Rattle.point_to_point.specs.CoreState.{Held}
use Rattle.point_to_point.proofs.CoreLaws.{kept_on_begin}
use Rattle.point_to_point.proofs.TakenMessages.{kept_on_start}
use Rattle.point_to_point.proofs.rank.Core.offer.Goals as goal

pub start-request-requires-clause-room : goal.start-request-requires-clause-room
start-request-requires-clause-room c = search rules

pub start-request-requires-clause-serial : goal.start-request-requires-clause-serial
start-request-requires-clause-serial c = search rules

pub begin_send-transfer-requires-clause-room : goal.begin_send-transfer-requires-clause-room
begin_send-transfer-requires-clause-room c = search rules

pub begin_send-transfer-requires-clause-number : goal.begin_send-transfer-requires-clause-number
begin_send-transfer-requires-clause-number c = search rules

pub invariant_of-self : goal.invariant_of-self
invariant_of-self c =
    rw c.begin_send-transfer.ensures.state
    (kept_on_begin _ _ _ _ _ _ _ (kept_on_start _ _ _ _ c.self.invariant _ _ _ tt c.start-request.ensures.entry)
    (subst (λ (h : Held). c.args.rank < h.state.place.size) (sym c.self.view_is) c.requires.there) c.requires.limit)

pub returns-clause-exact : goal.returns-clause-exact
returns-clause-exact c = search rules

pub returns-clause-placed : goal.returns-clause-placed
returns-clause-placed c = search rules
