-- What the judgement of a header says of its two endpoints.
use Rattle.std.proofs.Common.{◌≡◌, ℕ, ◌<◌, Ok, arith}
use Rattle.std.proofs.lemmas.Grind.{common_steps}
use Rattle.vocabulary.specs.declared.endpoint.Endpoint.{Endpoint}
use Rattle.datagram.specs.declared.datagram.Header.{Header}
use Rattle.incarnation.specs.declared.judgement.Judgement.TheVariants.{Current, Learn}
use Rattle.incarnation.specs.Judgements.{judgement}
use Rattle.incarnation.specs.Knowledge.{Knowledge, known_at}

-- endpoints of one rank at one incarnation are one
pub same_endpoint : (a b : Endpoint) → a.rank ≡ b.rank → a.incarnation ≡ b.incarnation → a ≡ b
same_endpoint a b r i = λ j. record { rank = r j; incarnation = i j }

-- the header is meant for this endpoint, and comes from the known one
pub record IsCurrent (k : Knowledge) (h : Header) : Type 0 where
  pub target_rank : h.target.rank ≡ k.place.endpoint.rank
  pub target_incarnation : h.target.incarnation ≡ k.place.endpoint.incarnation
  pub known : h.source.incarnation ≡ known_at k h.source.rank

pub is_current : (k : Knowledge) (h : Header) → judgement k h ≡ Ok Current → IsCurrent k h
unfolding judgement
is_current k h current = record {
  target_rank = grind (arith, common_steps, current);
  target_incarnation = grind (arith, common_steps, current);
  known = grind (arith, common_steps, current);
}

-- the header is meant for this endpoint, and comes from a later one than the known one
pub record IsLater (k : Knowledge) (h : Header) : Type 0 where
  pub target_rank : h.target.rank ≡ k.place.endpoint.rank
  pub target_incarnation : h.target.incarnation ≡ k.place.endpoint.incarnation
  pub above : known_at k h.source.rank < h.source.incarnation

pub is_later : (k : Knowledge) (h : Header) (incarnation : ℕ) → judgement k h ≡ Ok (Learn incarnation) → IsLater k h
unfolding judgement
is_later k h incarnation learn = record {
  target_rank = grind (arith, common_steps, learn);
  target_incarnation = grind (arith, common_steps, learn);
  above = grind (arith, common_steps, learn);
}
