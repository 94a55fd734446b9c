-- Which ranks lines are for at their first incarnations.
use Rattle.std.specs.Prelude.{ℕ, Bool, true, not, ◌&&◌, ◌||◌, ◌==◌, nat_le, nat_lt, Option, Some, None}
use Rattle.std.specs.List.{list_all, list_any}
use Rattle.script_files.specs.declared.audience.Audience.{Audience}
use Rattle.script_files.specs.declared.audience.Audience.TheVariants as audiences
use Rattle.script_files.specs.declared.audience.AudienceMember.{AudienceMember}

-- the first incarnation is meant where none is named
abbrev pub is_first : Option ℕ → Bool
is_first None = true
is_first (Some incarnation) = incarnation == 0

-- a rank of the job at its first incarnation
abbrev pub is_meant : (size : ℕ) → AudienceMember → Bool
is_meant size member = nat_lt member.rank size && is_first member.incarnation

-- this rank
abbrev pub is_meant_as : (rank size : ℕ) → AudienceMember → Bool
is_meant_as rank size member = is_meant size member && (member.rank == rank)

-- no lower one
abbrev pub is_not_below : (rank size : ℕ) → AudienceMember → Bool
is_not_below rank size member = not (is_meant size member) || nat_le rank member.rank

-- the rank is the lowest that lines with this audience are for
abbrev pub is_lowest_of : (rank size : ℕ) → Audience → Bool
is_lowest_of rank size audiences.All = rank == 0
is_lowest_of rank size (audiences.Ranks members) =
    list_any (is_meant_as rank size) members && list_all (is_not_below rank size) members
