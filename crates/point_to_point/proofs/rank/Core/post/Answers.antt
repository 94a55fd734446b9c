-- The message that the receive finds is taken out of those that are kept.
use Rattle.std.proofs.Common.{sym, subst}
use Rattle.point_to_point.proofs.CoreLaws.{kept_on_post}
use Rattle.point_to_point.proofs.TakenMessages.{Holds, kept_on_start, post_holds}
use Rattle.point_to_point.proofs.rank.Core.post.Goals as goal

pub invariant_of-self : goal.invariant_of-self
invariant_of-self c =
    kept_on_start _ _ _ _ (rw c.post-found.ensures.state (kept_on_post _ _ _ _ _ c.self-2.invariant)) _ _ _
    (subst (Holds c.self-2.inside.place.size) (sym c.progress_on_post-progress.ensures)
    (post_holds c.self-2.inside.place.size (record { into = c.new-into.result; group = c.args.routed.group })
    c.post-found.result)) c.start-request.ensures.entry
