-- Lemmas on what learning leaves.
use Rattle.std.proofs.Common.{arith, ◌≡◌, ℕ, zero, suc, ◌<◌, ◌≤◌, List, [], ◌∷◌, length, Ok, Err, max}
use Rattle.std.proofs.lemmas.Grind.{common_steps}
use Rattle.std.proofs.lemmas.List.{get_or-set_same}
use Rattle.std.specs.Prelude.{slice_index, slice_set}
use Rattle.datagram.specs.declared.datagram.Header.{Header}
use Rattle.incarnation.specs.declared.refusal.IncarnationRefusal.TheVariants.{StaleSource}
use Rattle.incarnation.specs.declared.judgement.Judgement.TheVariants.{Current, Learn}
use Rattle.incarnation.specs.Knowledge.{Knowledge, known_at, after_learn}
use Rattle.incarnation.specs.Judgements.{judgement}
use Rattle.incarnation.specs.Lessons.{KnownNeverFalls, StaleSourcesStayStale, WhatIsHandledIsKnown}

-- a number that is no less is written: no number falls
none_falls : (xs : List ℕ) (i j y : ℕ) → slice_index xs i ≤ y → slice_index xs j ≤ slice_index (slice_set xs i y) j
none_falls [] i j y h = omega arith
none_falls (x ∷ xs) zero zero y h = h
none_falls (x ∷ xs) zero (suc j) y h = omega arith
none_falls (x ∷ xs) (suc i) zero y h = omega arith
none_falls (x ∷ xs) (suc i) (suc j) y h = none_falls xs i j y h

-- one learn lets no rank fall
none_falls_once : (k : Knowledge) (rank incarnation other : ℕ) →
    known_at k other ≤ known_at (after_learn k rank incarnation) other
none_falls_once k rank incarnation other =
    none_falls k.known rank other (max (known_at k rank) incarnation) (omega arith)

pub known_never_falls : KnownNeverFalls
known_never_falls k [] rank = omega arith
known_never_falls k (l ∷ ls) rank =
    omega (
      arith,
      none_falls_once k l.rank l.incarnation rank,
      known_never_falls (after_learn k l.rank l.incarnation) ls rank,
    )

-- one learn leaves a former source a former source
stale_once : (k : Knowledge) (rank incarnation : ℕ) (h : Header)
    → judgement k h ≡ Err StaleSource → judgement (after_learn k rank incarnation) h ≡ Err StaleSource
unfolding judgement
stale_once k rank incarnation h stale =
    let higher = none_falls_once k rank incarnation h.source.rank in
    grind (arith, common_steps, stale, higher)

pub stale_sources_stay_stale : StaleSourcesStayStale
stale_sources_stay_stale k [] h stale = stale
stale_sources_stay_stale k (l ∷ ls) h stale =
    stale_sources_stay_stale (after_learn k l.rank l.incarnation) ls h (stale_once k l.rank l.incarnation h stale)

-- a datagram that teaches nothing comes from where its rank is known
current_is_known : (k : Knowledge) (h : Header) → judgement k h ≡ Ok Current →
    known_at k h.source.rank ≡ h.source.incarnation
unfolding judgement
current_is_known k h current = grind (arith, common_steps, current)

-- a datagram that teaches comes from a rank of the job, from above where that is known
record Teaches (k : Knowledge) (h : Header) (incarnation : ℕ) : Type 0 where
  there : h.source.rank < k.place.size
  taught : h.source.incarnation ≡ incarnation
  above : known_at k h.source.rank < incarnation

teaches : (k : Knowledge) (h : Header) (incarnation : ℕ) → judgement k h ≡ Ok (Learn incarnation) →
    Teaches k h incarnation
unfolding judgement
teaches k h incarnation learn = record {
  there = grind (arith, common_steps, learn);
  taught = grind (arith, common_steps, learn);
  above = grind (arith, common_steps, learn);
}

-- what was learnt is known
learnt_is_known : (k : Knowledge) (h : Header) (incarnation : ℕ) → length k.known ≡ k.place.size →
    Teaches k h incarnation
    → known_at (after_learn k h.source.rank incarnation) h.source.rank ≡ h.source.incarnation
learnt_is_known k h incarnation fits teaches =
    let is : known_at (after_learn k h.source.rank incarnation) h.source.rank ≡ max (known_at k h.source.rank) incarnation =
    get_or-set_same k.known h.source.rank (max (known_at k h.source.rank) incarnation) 0
    (omega (arith, fits, teaches.there)) in
    omega (arith, is, teaches.taught, teaches.above)

-- a datagram that taught what is known now teaches nothing more
learnt_is_current : (k : Knowledge) (h : Header) (incarnation : ℕ) → judgement k h ≡ Ok (Learn incarnation)
    → known_at (after_learn k h.source.rank incarnation) h.source.rank ≡ h.source.incarnation
    → judgement (after_learn k h.source.rank incarnation) h ≡ Ok Current
unfolding judgement
learnt_is_current k h incarnation learn known = grind (arith, common_steps, learn, known)

pub what_is_handled_is_known : WhatIsHandledIsKnown
what_is_handled_is_known k h Current fits current = record { known = current_is_known k h current; current = current }
what_is_handled_is_known k h (Learn incarnation) fits learn =
    let known = learnt_is_known k h incarnation fits (teaches k h incarnation learn) in
    record { known = known; current = learnt_is_current k h incarnation learn known }
