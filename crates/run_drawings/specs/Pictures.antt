-- What happens to the arrows of a picture.
use Rattle.std.specs.Prelude.{◌≡◌, ◌≤◌, ℕ, List, [], ◌∷◌, ◌++◌, length, Some, slice_get, slice_set}
use Rattle.run_drawings.specs.declared.picture.Arrival.{Arrival}
use Rattle.run_drawings.specs.declared.picture.Arrow.{Arrow}
use Rattle.run_drawings.specs.declared.picture.Emission.{Emission}

-- a datagram goes out in this row: its arrow is the next one, and it came nowhere yet
pub record IsEmitted (emission : Emission) (row : ℕ) (old new : List Arrow) : Type 0 where
  pub arrow : Arrow
  pub added : new ≡ old ++ arrow ∷ []
  pub from : arrow.source ≡ emission.source
  pub to : arrow.target ≡ emission.target
  pub carries : arrow.load ≡ emission.load
  pub says : arrow.words ≡ emission.words
  pub begins : arrow.row ≡ row
  pub comes : arrow.arrivals.items ≡ []

-- an arrow as it was, but that the datagram came once more
pub record HasComeAgain (arrival : Arrival) (old new : Arrow) : Type 0 where
  pub from : new.source ≡ old.source
  pub to : new.target ≡ old.target
  pub carries : new.load ≡ old.load
  pub says : new.words ≡ old.words
  pub resent : new.is_resent ≡ old.is_resent
  pub begins : new.row ≡ old.row
  pub comes : new.arrivals.items ≡ old.arrivals.items ++ arrival ∷ []

-- a datagram comes
pub data IsArrived (number : ℕ) (arrival : Arrival) (old new : List Arrow) : Type 0 where
  -- there is an arrow of this number: it has one more arrival behind the others, and no other arrow changes
  There :
      (before after : Arrow) → slice_get old number ≡ Some before → HasComeAgain arrival before after →
      new ≡ slice_set old number after → IsArrived number arrival old new
  -- there is none
  Nowhere : length old ≤ number → new ≡ old → IsArrived number arrival old new
