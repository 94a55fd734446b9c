use Rattle.std.proofs.Common.{◌≡◌, subst}
use Rattle.type_maps.specs.declared.places.Places.{Places}
use Rattle.type_maps.specs.Maps.{copied_numbers, places_of}
use Rattle.type_runs.proofs.RunLaws.{copied_run}
use Rattle.type_runs.proofs.records.RunRecord.copied.Goals as goal

pub returns : goal.returns
returns c = λ bodies bytes is.
    copied_run bodies c.args.self.now c.with_places.result c.as_row.result c.args.at.now c.in_ok-places.places bytes is
    (subst (λ (x : Places). copied_numbers (places_of c.args.at.now) (places_of x) ≡ places_of c.in_ok-places.places)
    c.places.ensures c.in_ok-places.ensures)
    c.with_places.ensures c.as_row.ensures
