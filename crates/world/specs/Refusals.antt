-- The numbers under which a world refuses.
use Rattle.std.specs.Prelude.{ℕ}
use Rattle.point_to_point_calls.specs.Refusals as lower
use Rattle.world.specs.declared.refusal.WorldRefusal.{WorldRefusal}
use Rattle.world.specs.declared.refusal.WorldRefusal.TheVariants.{Engine, NoSuchRank, NoSuchDatagram, CarriesJob}

-- the number of a refusal; an engine's is its own
abbrev pub number_of_refusal : WorldRefusal → ℕ
number_of_refusal (Engine e) = lower.number_of_refusal e
number_of_refusal NoSuchRank = 61
number_of_refusal NoSuchDatagram = 62
number_of_refusal CarriesJob = 63
