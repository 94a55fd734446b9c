-- The numbers of transfers once payloads of collectives are announced.
use Rattle.std.specs.Prelude.{◌≡◌, ℕ, ◌==◌, false, List, [], ◌∷◌, Option, Some, None, count_by, option_map, slice_get}
use Rattle.std.specs.Prelude.{slice_set, if◌then◌else◌}
use Rattle.rendezvous.specs.Payloads.{Announced}
use Rattle.rendezvous.specs.State.{fresh, is_full_to, next_to, with_begun}
use Rattle.rendezvous.specs.declared.transfers.Numbers.{Numbers}

-- with a lesson of a rank, if there is one, its session starts anew
abbrev pub with_lesson : (lesson : Option ℕ) → List Numbers → List Numbers
with_lesson None ns = ns
with_lesson (Some rank) ns = slice_set ns rank fresh

-- the numbers once each of these payloads has begun its transfer
abbrev pub counted : List Numbers → List Announced → List Numbers
counted ns [] = ns
counted ns (p ∷ ps) = counted (with_begun ns p.target) ps

-- how many of them go to a rank
abbrev pub count_to : (rank : ℕ) → List Announced → ℕ
count_to rank ps = count_by (λ (p : Announced). p.target == rank) ps

-- one after the other, a number is left for each
abbrev pub AreLeft : List Numbers → List Announced → Type 0
AreLeft ns [] = Unit {0}
AreLeft ns (p ∷ ps) = (is_full_to ns p.target ≡ false) × AreLeft (with_begun ns p.target) ps

-- how many transfers to a rank have begun, where there is such a rank
abbrev pub begun_at : List Numbers → (rank : ℕ) → Option ℕ
begun_at ns rank = option_map (λ (n : Numbers). n.begun) (slice_get ns rank)

-- the number of the next transfer to a rank, where one is left
abbrev pub number_left : List Numbers → (rank : ℕ) → Option ℕ
number_left ns rank = if is_full_to ns rank then None else Some (next_to ns rank)
