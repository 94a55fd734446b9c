-- The incarnations of a rank, one after the other.
use Rattle.std.specs.Prelude.{ℕ, ◌+◌, ◌==◌, Result, Ok, Err, if◌then◌else◌}
use Rattle.vocabulary.specs.Endpoints.{last_incarnation}
use Rattle.incarnation.specs.declared.refusal.IncarnationRefusal.{IncarnationRefusal}
use Rattle.incarnation.specs.declared.refusal.IncarnationRefusal.TheVariants.{Limit}

-- the next higher one, which the last one lacks
abbrev pub incarnation_after : ℕ → Result ℕ IncarnationRefusal
incarnation_after i = if i == last_incarnation then Err Limit else Ok (i + 1)
