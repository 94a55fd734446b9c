-- How many bytes a message of the job may have has no influence on the bytes of a datagram.
use Rattle.std.proofs.Common.{◌≡◌, ℕ, refl, ap, ◌∙◌}
use Rattle.datagram.specs.Spellings.{FrameText}
use Rattle.incarnation.specs.declared.place.Place.{Place}
use Rattle.link_truth.specs.Wire.{in_job}
use Rattle.reliable_link.specs.ReceiverState.{ReceiverState}
use Rattle.sessions.specs.Spellings.{ack_bytes, ack_of, frame_bytes, reset_bytes}
use Rattle.vocabulary.specs.declared.endpoint.Endpoint.{Endpoint}
use Rattle.vocabulary.specs.declared.message_limit.MessageLimit.{MessageLimit}

ack_in_job : (l : MessageLimit) (p : Place) (t : Endpoint) (r : ReceiverState) → ack_of (in_job l p) t r ≡ ack_of p t r
unfolding ack_bytes
ack_in_job l p t r = refl

reset_in_job : (l : MessageLimit) (p : Place) (t : Endpoint) → reset_bytes (in_job l p) t ≡ reset_bytes p t
unfolding reset_bytes
reset_in_job l p t = refl

frame_in_job : (l : MessageLimit) (p : Place) (t : Endpoint) (f : FrameText) (k : ℕ) →
    frame_bytes (in_job l p) t f k ≡ frame_bytes p t f k
unfolding frame_bytes
frame_in_job l p t f k = refl

-- what a place that is another one but for its limit acknowledges
pub ack_is : (p q : Place) (t : Endpoint) (r : ReceiverState) → p ≡ in_job p.message_limit q →
    ack_of p t r ≡ ack_of q t r
ack_is p q t r is = ap (λ (x : Place). ack_of x t r) is ∙ ack_in_job p.message_limit q t r

pub reset_is : (p q : Place) (t : Endpoint) → p ≡ in_job p.message_limit q → reset_bytes p t ≡ reset_bytes q t
reset_is p q t is = ap (λ (x : Place). reset_bytes x t) is ∙ reset_in_job p.message_limit q t

pub frame_is : (p q : Place) (t : Endpoint) (f : FrameText) (k : ℕ) → p ≡ in_job p.message_limit q →
    frame_bytes p t f k ≡ frame_bytes q t f k
frame_is p q t f k is = ap (λ (x : Place). frame_bytes x t f k) is ∙ frame_in_job p.message_limit q t f k
