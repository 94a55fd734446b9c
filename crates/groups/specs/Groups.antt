-- What groups hold, and the groups that are made of them: filters and positions (MPI 3.1, 6.3).
use Rattle.std.specs.Prelude.{ℕ, ◌==◌, ◌<◌, nat_eq, Bool, not, Option, List, ◌++◌, All, map, filter, position}
use Rattle.std.specs.Prelude.{slice_get, slice_index, length, option_and_then}
use Rattle.std.specs.List.{list_any, IsDistinct, range_with_len}

-- a rank is among the ranks of a list
abbrev pub is_member : List ℕ → ℕ → Bool
is_member ranks rank = list_any (λ member. rank == member) ranks

-- no rank stands in a list twice
abbrev pub HasNoRepeats : List ℕ → Type 0
HasNoRepeats ranks = IsDistinct nat_eq ranks

-- every position is one of the group's
abbrev pub ArePositions : List ℕ → List ℕ → Type 0
ArePositions group positions = All (λ position. position < length group) positions

-- the first group's members, then those of the second that are not in the first
abbrev pub union_of : List ℕ → List ℕ → List ℕ
union_of first second = first ++ filter (λ rank. not (is_member first rank)) second

-- the first group's members that are in the second
abbrev pub intersection_of : List ℕ → List ℕ → List ℕ
intersection_of first second = filter (is_member second) first

-- the first group's members that are not in the second
abbrev pub difference_of : List ℕ → List ℕ → List ℕ
difference_of first second = filter (λ rank. not (is_member second rank)) first

-- the members at these positions, in the order of the positions
abbrev pub members_at : List ℕ → List ℕ → List ℕ
members_at group positions = map (slice_index group) positions

-- the positions of a group that a list doesn't name, as they rise
abbrev pub other_positions : List ℕ → List ℕ → List ℕ
other_positions group positions =
    filter (λ position. not (is_member positions position)) (range_with_len 0 (length group))

-- the members at all other positions, in the group's order
abbrev pub members_elsewhere : List ℕ → List ℕ → List ℕ
members_elsewhere group positions = members_at group (other_positions group positions)

-- where a rank stands in a group
abbrev pub position_of : List ℕ → ℕ → Option ℕ
position_of group rank = position (λ member. member == rank) group

-- where the member at a position of the first group stands in the second
abbrev pub translation : List ℕ → List ℕ → ℕ → Option ℕ
translation first second place = option_and_then (position_of second) (slice_get first place)
