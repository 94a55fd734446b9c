-- PROOF, and for speed: the goals answered by `search rules` are proved without this file, too.
use Rattle.std.proofs.Common.{rules, ◌≡◌, Some, sym, ap, ◌∙◌}
use Rattle.std.proofs.lemmas.List.Quantifiers.{position-Some}
use Rattle.std.proofs.lemmas.Option.{slice_get-get_or}
use Rattle.rendezvous.specs.Offers.{is_to, offer_for, offer_at}
use Rattle.rendezvous.proofs.transfers.take_offer.Goals as goal

pub as_slice-requires : goal.as_slice-requires
as_slice-requires c κs = search rules

pub place_of_offer-requires : goal.place_of_offer-requires
place_of_offer-requires c = search rules

pub remove-requires : goal.remove-requires
remove-requires c = search rules

pub returns-in-Some-clause-rest : goal.returns-in-Some-clause-rest
returns-in-Some-clause-rest c = search rules

pub returns-in-Some-clause-bound : goal.returns-in-Some-clause-bound
returns-in-Some-clause-bound c = search rules

pub returns-in-Some-clause-capacity : goal.returns-in-Some-clause-capacity
returns-in-Some-clause-capacity c = search rules

pub returns-in-None-clause-taken : goal.returns-in-None-clause-taken
returns-in-None-clause-taken c = search rules

pub returns-in-None-clause-rest : goal.returns-in-None-clause-rest
returns-in-None-clause-rest c = search rules

pub returns-in-None-clause-bound : goal.returns-in-None-clause-bound
returns-in-None-clause-bound c = search rules

pub returns-in-None-clause-capacity : goal.returns-in-None-clause-capacity
returns-in-None-clause-capacity c = search rules

pub returns-in-Some-clause-taken : goal.returns-in-Some-clause-taken
returns-in-Some-clause-taken c =
    let offers = c.args.offers.now.items in
    let place = c.in-Some.place in
    let at : offer_for c.args.target c.args.transfer offers ≡ Some place =
    sym (c.place_of_offer.ensures ∙ ap (offer_for c.args.target c.args.transfer) c.as_slice.ensures.value) ∙
    c.in-Some.is in
    let there = (position-Some (is_to c.args.target c.args.transfer) offers place c.remove.result at).0 in
    ap Some c.remove.ensures.value ∙ sym (ap (offer_at offers) at ∙ slice_get-get_or offers place c.remove.result there)
