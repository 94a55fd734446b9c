-- What is deferred is asked for, rank by rank.
use Rattle.std.proofs.Common.{◌≡◌, ℕ, ◌+◌, ◌<◌, ◌++◌, List, length, map, take, drop, ap, ◌∙◌, arith}
use Rattle.std.proofs.lemmas.List.{get_or_default, length-append, length-drop, length-map, length-take}
use Rattle.std.proofs.lemmas.List.Edits.{map_over_more}
use Rattle.std.proofs.Math.ListN.{get_or, set}
use Rattle.congestion_windows.specs.Flights.{settled}
use Rattle.congestion_windows.specs.declared.flight.Flight.{Flight}

-- one more was
pub settled_more : (xs ys : List Flight) (i : ℕ) (d e : Flight) → i < length xs →
    ys ≡ map settled (take i xs) ++ drop i xs → e ≡ settled (get_or ys i d) →
    set ys i e ≡ map settled (take (i + 1) xs) ++ drop (i + 1) xs
settled_more xs ys i d e within is new =
    let long : length ys ≡ length xs = omega (
      arith,
      within,
      ap length is,
      length-append (map settled (take i xs)) (drop i xs),
      length-map (take i xs) settled,
      length-take i xs,
      length-drop i xs,
    ) in
    let there : get_or ys i d ≡ get_or ys i (get_or ys i d) =
    get_or_default ys i d (get_or ys i d) (omega (arith, within, long)) in
    ap (λ (f : Flight). set ys i f) new
    ∙ map_over_more settled xs ys i (get_or ys i d) within is there
