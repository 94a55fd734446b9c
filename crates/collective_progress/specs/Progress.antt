-- What a rank keeps beside the notes of the collective that it is in, so that a message costs no look at them all.
use Rattle.std.specs.Prelude.{◌≡◌, ◌≤◌, ◌+◌, ◌==◌, ◌&&◌, ◌||◌, ℕ, Bool, true, false, List, length, take, replicate}
use Rattle.std.specs.Prelude.{position, slice_get, slice_set, Option, Some, None, if◌then◌else◌}
use Rattle.collective_messages.specs.Notes.{differs_in, found_in, have_entered, is_differing, is_found, is_of}
use Rattle.collective_messages.specs.Notes.{member_at, result_place, tells_entry, tells_result}
use Rattle.collective_messages.specs.declared.entry.Inside.{Inside}
use Rattle.collective_messages.specs.declared.note.Note.{Note}
use Rattle.vocabulary.specs.declared.endpoint.Endpoint.{Endpoint}

-- So many notes were looked at, the oldest; at the slot of each rank whose word is awaited, where the first note of its
-- word stands; so many of these ranks, from the first on, are known to have entered; whether a note speaks of a
-- difference, and whether one finds it; where the first result stands
pub record Seen : Type 0 where
  pub count : ℕ
  pub places : List (Option ℕ)
  pub entered : ℕ
  pub differs : Bool
  pub found : Bool
  pub result : Option ℕ

-- nothing was looked at, and so many slots are free
abbrev pub unseen : (slots : ℕ) → Seen
unseen slots = record {
  count = 0;
  places = replicate slots None;
  entered = 0;
  differs = false;
  found = false;
  result =
      None;
}

-- ---- slots

-- whether this rank stands here
abbrev pub is_that : (rank : ℕ) → Option ℕ → Bool
is_that r None = false
is_that r (Some x) = x == r

-- the slot of a rank: its own number where it stands there, as in `world` and its copies, and else where it stands
-- first
abbrev pub slot : (ranks : List ℕ) → (rank : ℕ) → Option ℕ
slot ranks r = if is_that r (slice_get ranks r) then Some r else position (λ x. x == r) ranks

-- ---- what it tells

-- of these notes it tells what they tell themselves
pub record IsOf (i : Inside) (notes : List Note) (p : Seen) : Type 0 where
  pub count : p.count ≡ length notes
  pub places : (r s : ℕ) (o : Option ℕ) → slot i.role.feeders r ≡ Some s → slice_get p.places s ≡ Some o
      → position (tells_entry i.context i.number (member_at i.incarnation r)) notes ≡ o
  pub differs : p.differs ≡ differs_in i.context i.number i.entry notes
  pub found : p.found ≡ found_in i.context i.number i.entry notes
  pub result : p.result ≡ result_place i.context i.number notes

-- it tells of the oldest of these notes
pub record IsProgress (i : Inside) (notes : List Note) (p : Seen) : Type 0 where
  pub within : p.count ≤ length notes
  pub seen : IsOf i (take p.count notes) p

-- so many of those for whom the rank at `own` waits are known to have entered
pub record AreFirst (own : Endpoint) (i : Inside) (notes : List Note) (count : ℕ) : Type 0 where
  pub within : count ≤ length i.role.feeders
  pub known : have_entered own i.incarnation i.context i.number notes (take count i.role.feeders) ≡ true

-- both
pub record IsKept (own : Endpoint) (i : Inside) (notes : List Note) (p : Seen) : Type 0 where
  pub progress : IsProgress i notes p
  pub first : AreFirst own i notes p.entered

-- the same of the collective that a rank is in, if it is in one
abbrev pub IsKeptOf : (own : Endpoint) → Option Inside → List Note → Seen → Type 0
IsKeptOf own None notes p = Unit {0}
IsKeptOf own (Some i) notes p = IsKept own i notes p

-- ---- one more note

-- this place, or the new one
abbrev pub or_here : Option ℕ → (here : Bool) → (at : ℕ) → Option ℕ
or_here (Some p) here at = Some p
or_here None here at = if here then Some at else None

-- a free place is taken
abbrev pub filled : (slot at : ℕ) → Option (Option ℕ) → List (Option ℕ) → List (Option ℕ)
filled s at (Some None) places = slice_set places s (Some at)
filled s at (Some (Some p)) places = places
filled s at None places = places

-- the same, where there is a slot
abbrev pub filled_at : (slot : Option ℕ) → (at : ℕ) → List (Option ℕ) → List (Option ℕ)
filled_at None at places = places
filled_at (Some s) at places = filled s at (slice_get places s) places

-- the places once a note was looked at that stands here
abbrev pub places_with : Inside → Note → (at : ℕ) → List (Option ℕ) → List (Option ℕ)
places_with i n at places =
    if tells_entry i.context i.number (member_at i.incarnation n.sender.rank) n then
    filled_at (slot i.role.feeders n.sender.rank) at places else places

-- all once one more note was looked at
abbrev pub looked : Inside → Note → Seen → Seen
looked i n p =
    record {
      count = p.count + 1;
      places = places_with i n p.count p.places;
      entered = p.entered;
      differs = p.differs || (is_of i.context i.number n && is_differing i.entry n);
      found = p.found || (is_of i.context i.number n && is_found i.entry n);
      result = or_here p.result (tells_result i.context i.number n) p.count;
    }
