use Rattle.rendezvous.proofs.OfferLaws.{answered_once}
use Rattle.rendezvous.proofs.laws.offers_are_handed_out_once.Goals as goal

pub returns : goal.returns
returns c = answered_once
