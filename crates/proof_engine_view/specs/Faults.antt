-- The fault that the machine of perfect queues finds with a call, but for the rule on its communicator (4): a rank's
-- queues hold messages and receives in whatever contexts, and whether the caller holds a communicator isn't theirs to
-- say.
use Rattle.std.specs.Prelude.{◌≡◌, ℕ, Bool, false, ◌||◌, [], ◌∷◌, Option, slice_get}
use Rattle.incarnation.specs.declared.place.Place.{Place}
use Rattle.perfect_queues.specs.Calls.{Call}
use Rattle.perfect_queues.specs.Refusals.{Standing, fault, first_fault, is_communicator_wrong, is_count_wrong, is_held}
use Rattle.perfect_queues.specs.Refusals.{is_rank_wrong, is_request_wrong, is_tag_wrong, is_type_wrong, standing}
use Rattle.perfect_queues.specs.State.{Local}
use Rattle.vocabulary.specs.declared.message_limit.MessageLimit.{MessageLimit}

-- by whether an earlier call is blocked, and what may be done with each request: the first of 6, 2, 1, 3 and 5 that
-- holds
abbrev pub queue_fault_by : (n : ℕ) (limit : MessageLimit) (is_blocked : Bool) → (ℕ → Standing) → Call → Option ℕ
queue_fault_by n limit is_blocked f c =
    first_fault (
    (is_blocked || is_request_wrong f c, 6) ∷
    (false, 4) ∷
    (is_type_wrong c, 2) ∷
    (is_count_wrong limit c, 1) ∷
    (is_tag_wrong c, 3) ∷
    (is_rank_wrong n c, 5) ∷
    (false, 7) ∷ (false, 9) ∷ (false, 11) ∷ [])

-- by the caller's own part, in the job of its place
abbrev pub queue_fault : Place → Local → Call → Option ℕ
queue_fault p l c =
    queue_fault_by p.size p.message_limit (is_held l.blocked) (λ k. standing (slice_get l.requests k)) c

-- On world it is the machine's fault
abbrev pub WorldFault : Type 0
WorldFault =
    (p : Place) (l : Local) (c : Call) → l.message_limit ≡ p.message_limit → is_communicator_wrong c ≡ false →
    fault p.size l c ≡ queue_fault p l c
