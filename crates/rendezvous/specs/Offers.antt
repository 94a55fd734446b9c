-- Messages that a rank announced, the oldest first.
use Rattle.std.specs.Prelude.{ℕ, ◌==◌, ◌&&◌, Bool, List, Option, Some, None, position, remove, slice_get}
use Rattle.rendezvous.specs.declared.offer.Offer.{Offer}

-- whether an offer is the transfer to a rank that has this number
abbrev pub is_to : (target transfer : ℕ) → Offer → Bool
is_to target transfer o = (o.target == target) && (o.transfer == transfer)

-- the place of that transfer, where it is offered
abbrev pub offer_for : (target transfer : ℕ) → List Offer → Option ℕ
offer_for target transfer os = position (is_to target transfer) os

-- the offer at a place, where one was found
abbrev pub offer_at : List Offer → Option ℕ → Option Offer
offer_at os (Some i) = slice_get os i
offer_at os None = None

-- the offers without that at a place, where one was found
abbrev pub without_offer : List Offer → Option ℕ → List Offer
without_offer os (Some i) = remove os i
without_offer os None = os
