-- Laws that follow from the definitions of layouts, and show that they hold together.
use Rattle.std.specs.Prelude.{◌≡◌, ℕ, ◌+◌, ◌*◌, ◌<◌, ◌≤◌, false, List, [], ◌∷◌, ◌++◌, length, take, drop, Some, nat_eq}
use Rattle.std.specs.Prelude.{nat_lt, slice_get}
use Rattle.std.specs.Set.{is_member}
use Rattle.layouts.specs.Buffers.{elements_at, put_at, room_for}
use Rattle.layouts.specs.Layouts.{extent_of, has_repeats, places}

-- Element k of copy i stands i extents behind its offset, and so many places are there as all copies have elements
-- (4.1.2)
pub record StandInOrder (copies : ℕ) (offsets : List ℕ) : Type 0 where
  pub size_is : length (places copies offsets) ≡ copies * length offsets
  pub element : (i k o : ℕ) → i < copies → slice_get offsets k ≡ Some o →
      slice_get (places copies offsets) (i * length offsets + k) ≡ Some (i * extent_of offsets + o)

-- whatever the layout and the number of copies
abbrev pub ElementsStandInOrder : Type 0
ElementsStandInOrder = (copies : ℕ) (offsets : List ℕ) → StandInOrder copies offsets

-- Copies of a layout that names no place twice don't meet: then no place of all copies is named twice (4.1.11)
abbrev pub CopiesDontMeet : Type 0
CopiesDontMeet = (copies : ℕ) (offsets : List ℕ) → has_repeats offsets ≡ false → has_repeats (places copies offsets) ≡
    false

-- n elements of a basic type take the first n places: a buffer is too short for them where it has fewer elements, they
-- are its first n, and once values were put there it begins with the values and goes on as it was
pub record TakesFirstPlaces (n : ℕ) (buffer values : List ℕ) : Type 0 where
  pub room : length (places n (0 ∷ [])) ≡ n
  pub too_short : nat_lt (length buffer) (room_for (places n (0 ∷ []))) ≡ nat_lt (length buffer) n
  pub sent : n ≤ length buffer → elements_at buffer (places n (0 ∷ [])) ≡ take n buffer
  pub buffer_is : length values ≤ n → n ≤ length buffer →
      put_at buffer (places n (0 ∷ [])) values ≡ values ++ drop (length values) buffer

-- Elements of a basic type stand one behind the other from the buffer's start on, whatever their number (3.2.4)
abbrev pub BasicTypeTakesFirstPlaces : Type 0
BasicTypeTakesFirstPlaces = (n : ℕ) (buffer values : List ℕ) → TakesFirstPlaces n buffer values

-- A message changes only its own places, as many as it has values, and each of these holds its value (3.2.4)
pub record WritesItsPlaces (at buffer values : List ℕ) : Type 0 where
  pub length_is : length (put_at buffer at values) ≡ length buffer
  pub others : (o : ℕ) → is_member nat_eq (take (length values) at) o ≡ false →
      slice_get (put_at buffer at values) o ≡ slice_get buffer o
  pub own_places : (j o x : ℕ) → has_repeats at ≡ false → o < length buffer → slice_get at j ≡ Some o →
      slice_get values j ≡ Some x → slice_get (put_at buffer at values) o ≡ Some x

-- Whatever the places, the buffer and the values: only as many places change as there are values (3.2.4)
abbrev pub ShorterMessageWritesItsPlaces : Type 0
ShorterMessageWritesItsPlaces = (at buffer values : List ℕ) → WritesItsPlaces at buffer values

-- What stands at places after it was put there is what was put there, where no place is named twice
abbrev pub WhatWasSentIsReceived : Type 0
WhatWasSentIsReceived =
    (at buffer values : List ℕ) → has_repeats at ≡ false → room_for at ≤ length buffer → length values ≡ length at →
    elements_at (put_at buffer at values) at ≡ values

-- Two layouts of 4.1.2: every third element, twice; and blocks of two and one from 1 and 5 on
pub record ExamplesStand : Type 0 where
  -- the extent is from the first to the last element
  pub extent : extent_of (0 ∷ 3 ∷ []) ≡ 4
  -- two copies
  pub places_are : places 2 (0 ∷ 3 ∷ []) ≡ 0 ∷ 3 ∷ 4 ∷ 7 ∷ []
  -- what one copy sends
  pub sent : elements_at (1 ∷ 2 ∷ 3 ∷ 4 ∷ []) (places 1 (0 ∷ 3 ∷ [])) ≡ 1 ∷ 4 ∷ []
  -- what a message of two elements leaves, which is shorter than the one copy that it is received through
  pub received :
      put_at (0 ∷ 0 ∷ 0 ∷ 0 ∷ 0 ∷ 0 ∷ []) (places 1 (1 ∷ 2 ∷ 5 ∷ [])) (7 ∷ 8 ∷ []) ≡ 0 ∷ 7 ∷ 8 ∷ 0 ∷ 0 ∷ 0 ∷ []
  pub block_extent : extent_of (1 ∷ 2 ∷ 5 ∷ []) ≡ 5
