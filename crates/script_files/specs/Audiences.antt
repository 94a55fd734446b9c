-- Whom lines are for.
use Rattle.std.specs.Prelude.{ℕ, Bool, true, ◌&&◌, ◌==◌, List, Option, Some, None}
use Rattle.std.specs.List.{list_any}
use Rattle.script_files.specs.declared.audience.AudienceMember.{AudienceMember}
use Rattle.script_files.specs.declared.audience.Audience.{Audience}
use Rattle.script_files.specs.declared.audience.Audience.TheVariants as audiences

-- whether an incarnation is meant, where one is named
abbrev pub is_incarnation : ℕ → Option ℕ → Bool
is_incarnation incarnation None = true
is_incarnation incarnation (Some one) = one == incarnation

-- whether a rank at an incarnation is meant
abbrev pub is_member : (rank incarnation : ℕ) → AudienceMember → Bool
is_member rank incarnation member = (member.rank == rank) && is_incarnation incarnation member.incarnation

-- whether it is one of those that are named
abbrev pub is_one_of : (rank incarnation : ℕ) → List AudienceMember → Bool
is_one_of rank incarnation members = list_any (is_member rank incarnation) members

-- whether lines for this audience are for it
abbrev pub includes : (rank incarnation : ℕ) → Audience → Bool
includes rank incarnation audiences.All = true
includes rank incarnation (audiences.Ranks members) = is_one_of rank incarnation members
