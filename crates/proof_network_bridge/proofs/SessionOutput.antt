-- What a rank's core gives is what its sessions are to send.
use Rattle.std.proofs.Common.{◌≡◌, ℕ, List, [], ◌∷◌, refl, ap}
use Rattle.std.specs.List.{AllByRecursion}
use Rattle.std.proofs.lemmas.Bool.{ne_eqb}
use Rattle.vocabulary.specs.declared.endpoint.Endpoint.{Endpoint}
use Rattle.vocabulary.specs.declared.message_limit.MessageLimit.{MessageLimit}
use Rattle.datagram.specs.Spellings.{FrameText, OutgoingText}
use Rattle.proof_engine_view.specs.FrameViews.{CanLeave, all_gone, gone_to}
use Rattle.proof_link_truth.specs.Events.{MaySendAll, all_addressed}
use Rattle.link_truth.specs.Wire.{in_job, place_of}

-- what can leave a rank may be sent
pub may_send : (n : ℕ) (l : MessageLimit) (own : Endpoint) (fs : List OutgoingText) →
    AllByRecursion (CanLeave (in_job l (place_of n own))) fs →
    MaySendAll n own.rank fs
may_send n l own [] all = tt
may_send n l own (f ∷ fs) all = (
  record {
    there = all.0.there;
    apart = ne_eqb f.target own.rank all.0.apart;
    carried =
        record { fits = all.0.fits; width = all.0.width };
  },
  may_send n l own fs all.1,
)

-- it goes to the known endpoints
pub all_same : (known : List ℕ) (fs : List OutgoingText) → all_addressed known fs ≡ all_gone known fs
all_same known [] = refl
all_same known (f ∷ fs) = ap (λ (ts : List (Endpoint × FrameText)). gone_to known f ∷ ts) (all_same known fs)
