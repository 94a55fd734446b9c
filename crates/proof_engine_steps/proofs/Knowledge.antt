-- What a rank and its core know of the ranks.
use Rattle.std.proofs.Common.{◌≡◌, ℕ, zero, suc, ◌<◌, Bool, true, false, List, length, max, if◌then◌else◌, ◌==◌}
use Rattle.std.proofs.Common.{slice_index, slice_set, replicate, refl, sym, ap, ◌∙◌, subst, arith}
use Rattle.std.proofs.lemmas.Bool.{eqb-false, eqb-true}
use Rattle.std.proofs.lemmas.List.{get_or-set_other, get_or-set_same, length-replicate, length-set}
use Rattle.incarnation.specs.declared.place.Place.{Place}
use Rattle.vocabulary.specs.declared.message_limit.MessageLimit.{MessageLimit}
use Rattle.perfect_queues.specs.State.{knows_at_first, with_number}
use Rattle.proof_pure_network.specs.Core.{Core}

-- what a core knows: the incarnation of each rank, and the job's limit
abbrev pub knows : Core → (ℕ → ℕ) × MessageLimit
knows core = (core.known, core.message_limit)

-- both know each rank at the same incarnation, and the rank itself at its own; and both have one limit
pub record IsKnown (p : Place) (known : List ℕ) (at : (ℕ → ℕ) × MessageLimit) : Type 0 where
  pub width : length known ≡ p.size
  pub same : (r : ℕ) → at.0 r ≡ slice_index known r
  pub limited : at.1 ≡ p.message_limit
  pub itself : slice_index known p.endpoint.rank ≡ p.endpoint.incarnation

-- at the start every rank is known at 0
zero_everywhere : (n i : ℕ) → slice_index (replicate n 0) i ≡ 0
zero_everywhere zero i = refl
zero_everywhere (suc n) zero = refl
zero_everywhere (suc n) (suc i) = zero_everywhere n i

-- at the start: the rank itself is known at its own incarnation
pub opening_known : (p : Place) → p.endpoint.rank < p.size →
    IsKnown p (slice_set (replicate p.size 0) p.endpoint.rank p.endpoint.incarnation)
    (knows_at_first p.endpoint, p.message_limit)
opening_known p inside =
    record {
      width = length-set (replicate p.size 0) p.endpoint.rank p.endpoint.incarnation ∙ length-replicate p.size 0;
      same = λ r. same r (r == p.endpoint.rank) refl;
      limited = refl;
      itself = own;
    }
  where
    own : slice_index (slice_set (replicate p.size 0) p.endpoint.rank p.endpoint.incarnation) p.endpoint.rank ≡
        p.endpoint.incarnation
    own = get_or-set_same (replicate p.size 0) p.endpoint.rank p.endpoint.incarnation 0
        (subst (λ (n : ℕ). p.endpoint.rank < n) (sym (length-replicate p.size 0)) inside)

    same : (r : ℕ) (b : Bool) → (r == p.endpoint.rank) ≡ b →
        (if b then p.endpoint.incarnation else 0) ≡
        slice_index (slice_set (replicate p.size 0) p.endpoint.rank p.endpoint.incarnation) r
    same r true e =
        sym (ap (slice_index (slice_set (replicate p.size 0) p.endpoint.rank p.endpoint.incarnation))
        (eqb-true r p.endpoint.rank e) ∙ own)
    same r false e =
        sym (get_or-set_other (replicate p.size 0) p.endpoint.rank r p.endpoint.incarnation 0
        (eqb-false r p.endpoint.rank e) ∙ zero_everywhere p.size r)

-- the greater of two numbers
greater : (a b : ℕ) → a < b → max a b ≡ b
greater a b h = omega arith

-- another rank is learnt at a later incarnation
pub learnt_known : (p : Place) (known : List ℕ) (at : (ℕ → ℕ) × MessageLimit) (r i : ℕ) → IsKnown p known at →
    r < p.size →
    (r ≡ p.endpoint.rank → ⊥) → slice_index known r < i →
    IsKnown p (slice_set known r (max (slice_index known r) i)) (with_number at.0 r i, at.1)
learnt_known p known at r i h inside apart later =
    record {
      width = length-set known r (max (slice_index known r) i) ∙ h.width;
      same = λ x. same x (x == r) refl;
      limited = h.limited;
      itself = get_or-set_other known r p.endpoint.rank (max (slice_index known r) i) 0 (λ e. apart (sym e)) ∙ h.itself;
    }
  where
    written : slice_index (slice_set known r (max (slice_index known r) i)) r ≡ i
    written = get_or-set_same known r (max (slice_index known r) i) 0 (subst (λ (n : ℕ). r < n) (sym h.width) inside) ∙
        greater (slice_index known r) i later

    same : (x : ℕ) (b : Bool) → (x == r) ≡ b →
        (if b then i else at.0 x) ≡ slice_index (slice_set known r (max (slice_index known r) i)) x
    same x true e = sym (ap (slice_index (slice_set known r (max (slice_index known r) i))) (eqb-true x r e) ∙ written)
    same x false e = h.same x ∙ sym (get_or-set_other known r x (max (slice_index known r) i) 0 (eqb-false x r e))
