-- The buffer of a region, as the machine is handed it.
use Rattle.std.proofs.Common.{◌≡◌, refl}
use Rattle.datatypes.specs.Contents.{Contents}
use Rattle.requests.specs.Regions.{handed_by, handed_of}
use Rattle.requests.specs.declared.region.Places.{Places}
use Rattle.requests.specs.declared.region.Places.TheVariants.{All, Copies}
use Rattle.requests.specs.declared.region.Region.{Region}

-- whatever the places are, it is the same buffer
same_buffer : (b : Contents) (p : Places) → (handed_by b p).buffer ≡ b
same_buffer b All = refl
same_buffer b (Copies layout copies) = refl

pub handed_buffer : (r : Region) → (handed_of r).buffer ≡ r.buffer
handed_buffer r = same_buffer r.buffer r.places
