-- What others learned is told, rank by rank.
use Rattle.std.proofs.Common.{◌≡◌, ℕ, ◌+◌, ◌<◌, ◌++◌, List, length, map, take, drop, ap, ◌∙◌, arith}
use Rattle.std.proofs.lemmas.List.{get_or_default, length-append, length-drop, length-map, length-take}
use Rattle.std.proofs.lemmas.List.Edits.{map_over_more}
use Rattle.std.proofs.Math.ListN.{get_or, set}
use Rattle.round_trips.specs.Trips.{with_estimate}
use Rattle.round_trips.specs.declared.estimate.Estimate.{Estimate}
use Rattle.round_trips.specs.declared.round_trip.RoundTrip.{RoundTrip}

-- one more was
pub learned_more : (estimate : Estimate) (xs ys : List RoundTrip) (i : ℕ) (d e : RoundTrip) → i < length xs →
    ys ≡ map (λ t. with_estimate t estimate) (take i xs) ++ drop i xs → e ≡ with_estimate (get_or ys i d) estimate →
    set ys i e ≡ map (λ t. with_estimate t estimate) (take (i + 1) xs) ++ drop (i + 1) xs
learned_more estimate xs ys i d e within is new =
    let f : RoundTrip → RoundTrip = λ t. with_estimate t estimate in
    let long : length ys ≡ length xs = omega (
      arith,
      within,
      ap length is,
      length-append (map f (take i xs)) (drop i xs),
      length-map (take i xs) f,
      length-take i xs,
      length-drop i xs,
    ) in
    let there : get_or ys i d ≡ get_or ys i (get_or ys i d) =
    get_or_default ys i d (get_or ys i d) (omega (arith, within, long)) in
    ap (λ (t : RoundTrip). set ys i t) new
    ∙ map_over_more f xs ys i (get_or ys i d) within is there
