-- The example keeps to the rules.
use Rattle.std.proofs.Common.{◌≡◌, ℕ, zero, suc, ◌<◌, ◌==◌, ◌&&◌, false, [], ◌∷◌, Some, refl, subst, arith}
use Rattle.std.specs.Prelude.{slice_get}
use Rattle.std.proofs.lemmas.Bool.{and_parts, and_right, eqb-true}
use Rattle.std.proofs.lemmas.Option.{same_Some}
use Rattle.layouts.specs.Layouts.{copies_at}
use Rattle.perfect_queues.specs.Receives.{Receive, accepts}
use Rattle.perfect_queues.specs.Refusals.{world}
use Rattle.perfect_queues.specs.Requests.{Posted}
use Rattle.proof_late_posting.specs.Example.{ExampleIsExplored, of_any, second}
use Rattle.proof_late_posting.specs.Ties.{IsApart, NoneMeets, named}
use Rattle.vocabulary.specs.MessageLimits.{frame_limit_of, limit_of}

tags_differ : IsApart (of_any 7) (of_any 9)
tags_differ m h =
    let parts = and_parts (world == m.context) (9 == m.tag) h in
    subst (λ t. ((world == m.context) && (7 == t)) ≡ false) (eqb-true 9 m.tag parts.1)
    (and_right (world == m.context) false refl)

unmet : NoneMeets (Some (of_any 7) ∷ []) 1 (of_any 9)
unmet zero q less h =
    subst (λ v. IsApart v (of_any 9)) (same_Some (of_any 7) q (same_Some (Some (of_any 7)) (Some q) h)) tags_differ
unmet (suc j) q less h = absurd (omega arith)

not_first : (j : ℕ) (q : Receive) → j < 1 →
    slice_get (Posted (of_any 9) ∷ Posted (named (of_any 7) 2) ∷ []) j ≡ Some (Posted q) → accepts q second ≡ false
not_first zero q less h =
    subst (λ v. accepts v second ≡ false)
    (let e : Posted (of_any 9) ≡ Posted q = same_Some (Posted (of_any 9)) (Posted q) h in
    let f : of_any 9 ≡ q = cc in f)
    refl
not_first (suc j) q less h = absurd (omega arith)

pub example_is_explored : ExampleIsExplored
unfolding copies_at limit_of frame_limit_of
example_is_explored = (
  (record { inside = omega arith; current = refl; fit = refl; steps = tt }, λ e. absurd cc),
  (
    (record { inside = omega arith; current = refl; fit = refl; steps = tt }, unmet, tt),
    (
      (record { inside = omega arith; current = refl; fit = refl; steps = tt }, tt, tt),
      (
        (record { inside = omega arith; current = refl; fit = refl; steps = tt }, tt, tt),
        (
          (
            record {
              inside = omega arith;
              current = refl;
              fit = refl;
              steps = (
                record {
                  pending = refl;
                  stands = refl;
                  accepted = refl;
                  no_earlier_receive = λ j q less h. not_first j q less h;
                  no_earlier_message = tt;
                },
                tt,
                (refl, tt, tt),
              );
            },
            record { is_kept = refl; is_one = refl; unwanted = λ j q less h. absurd (omega arith) },
            (tt, tt),
          ),
          (
            (record { inside = omega arith; current = refl; fit = refl; steps = tt }, refl, tt),
            tt,
          ),
        ),
      ),
    ),
  ),
)
