-- The fault of a call on world.
use Rattle.std.proofs.Common.{◌∙◌, Bool, false, [], ◌∷◌, ap}
use Rattle.perfect_queues.specs.Refusals.{first_fault, is_count_wrong, is_held, is_rank_wrong, is_request_wrong}
use Rattle.perfect_queues.specs.Refusals.{is_tag_wrong, is_type_wrong, standing}
use Rattle.std.specs.Prelude.{◌||◌, slice_get}
use Rattle.vocabulary.specs.declared.message_limit.MessageLimit.{MessageLimit}
use Rattle.proof_engine_view.specs.Faults.{WorldFault, queue_fault_by}

pub world_fault : WorldFault
world_fault p l c same fine =
    ap
    (λ (b : Bool).
    first_fault (
    (is_held l.blocked || is_request_wrong (λ k. standing (slice_get l.requests k)) c, 6) ∷
    (b, 4) ∷
    (is_type_wrong c, 2) ∷
    (is_count_wrong l.message_limit c, 1) ∷
    (is_tag_wrong c, 3) ∷
    (is_rank_wrong p.size c, 5) ∷
    (false, 7) ∷ (false, 9) ∷ (false, 11) ∷ []))
    fine
    ∙ ap (λ (limit : MessageLimit). queue_fault_by p.size limit (is_held l.blocked)
    (λ k. standing (slice_get l.requests k)) c)
    same
