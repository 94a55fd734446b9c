-- The frame of a send goes to the rank that it was addressed to, which is one of the job's.
use Rattle.std.proofs.Common.{◌≡◌, ◌<◌, ℕ, Option, sym, ap₂, subst, ◌∙◌}
use Rattle.std.specs.Prelude.{IfSome}
use Rattle.incarnation.specs.declared.place.Place.{Place}
use Rattle.point_to_point_calls.specs.SendRules.{destination, rank_to}
use Rattle.point_to_point_calls.specs.declared.refusal.Refusal.{Refusal}
use Rattle.point_to_point_calls.proofs.SendLaws.{rank_is_there}
use Rattle.point_to_point.specs.Calls.{call_frame}
use Rattle.point_to_point_calls.specs.CoreCalls as core_calls
use Rattle.requests.specs.Regions.{sent_from}
use Rattle.engine_calls.proofs.Limits.{target_is}
use Rattle.engine_calls.specs.Frames.{frame_limit}
use Rattle.engine_calls.specs.Refusals.{first_fault}
use Rattle.engine_calls.proofs.sends.limit_of_send.Goals as goal

pub limit_to-requires : goal.limit_to-requires
limit_to-requires c =
    let s = c.args.send.now.routed in
    let same = c.rank_to.ensures ∙ ap₂ rank_to c.place.ensures c.requires.addressed.destination_is in
    subst (λ (o : Option ℕ). IfSome o (λ (r : ℕ). r < c.args.sessions.now.place.size)) (sym same)
    (subst
    (λ (p : Place). IfSome
    (rank_to c.args.core.now.state.place (destination s.route.named s.send.tag s.route.context))
    (λ (r : ℕ). r < p.size)) c.requires.place
    (rank_is_there c.args.core.now.state.place s c.requires.arguments))

pub returns-in-None : goal.returns-in-None
returns-in-None c =
    let s = c.args.send.now.routed in
    let core = c.args.core.now.state in
    subst
    (λ (o : Option Refusal). c.limit_to.result ≡
    first_fault o (frame_limit c.args.sessions.now (call_frame core (core_calls.Isend s))))
    (sym c.in-None.is ∙ c.limit_of_send.ensures)
    (c.limit_to.ensures _
    (target_is core.place core.transfers s.send.mode (destination s.route.named s.send.tag s.route.context)
    (sent_from s.send.from)
    ∙ sym (c.rank_to.ensures ∙ ap₂ rank_to c.place.ensures c.requires.addressed.destination_is)))
