-- What a process knows of the ranks of its job, and what learning makes of it.
use Rattle.std.specs.Prelude.{ℕ, List, replicate, slice_index, slice_set, max}
use Rattle.incarnation.specs.declared.place.Place.{Place}

-- the place of the process, and the incarnation at which it knows each rank, by rank
pub record Knowledge : Type 0 where
  pub place : Place
  pub known : List ℕ

-- the incarnation at which a rank is known
abbrev pub known_at : Knowledge → ℕ → ℕ
known_at k rank = slice_index k.known rank

-- at the start: itself at its own incarnation, every other rank at 0
abbrev pub opening : Place → Knowledge
opening place = record {
  place = place;
  known = slice_set (replicate place.size 0) place.endpoint.rank place.endpoint.incarnation;
}

-- the rank is known at the greater of what it was known at and this incarnation
abbrev pub after_learn : Knowledge → ℕ → ℕ → Knowledge
after_learn k rank incarnation =
    record k { known = slice_set k.known rank (max (known_at k rank) incarnation) }
