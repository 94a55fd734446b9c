use Rattle.type_maps.proofs.EntryLaws.{at_other_places}
use Rattle.type_maps.proofs.entry.first_of_copies.Goals as goal

pub returns : goal.returns
returns c =
    let h = c.in_ok-first.ensures.cases in
    at_other_places c.args.old.now c.in_ok-first.first.now c.with_places.result c.in_ok-first.rest.now c.args.items
    c.args.at.now
    c.places.result c.in_ok-places.places h.0 c.if-items-ne1.false c.places.ensures c.in_ok-places.ensures
    c.with_places.ensures
