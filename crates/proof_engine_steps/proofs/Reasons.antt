-- Reasons why calls are refused, whatever the call is.
use Rattle.std.proofs.Common.{◌≡◌, Bool, true, false, [], ◌∷◌, Some, None, if◌then◌else◌, sym, subst, inl}
use Rattle.perfect_queues.specs.Refusals.{first_fault}
use Rattle.proof_pure_network.specs.Core.{Core}
use Rattle.point_to_point_calls.specs.CoreCalls.{RoutedCall}
use Rattle.point_to_point_calls.specs.declared.refusal.Refusal.{Refusal}
use Rattle.point_to_point_calls.specs.declared.refusal.Refusal.TheVariants as refusals
use Rattle.point_to_point.specs.CoreState.{CoreState}
use Rattle.proof_engine_steps.specs.Refusals.{HasReason}
use Rattle.observation.specs.Reasons.{IsOutOfRoom}

-- THE MACHINE'S RULES

-- the rule on types is the first that is broken
pub type_fault : (a b c d e f : Bool) → a ≡ false → b ≡ false → c ≡ true →
    first_fault ((a, 6) ∷ (b, 4) ∷ (c, 2) ∷ (d, 1) ∷ (e, 3) ∷ (f, 5) ∷ (false, 7) ∷ (false, 9) ∷ (false, 11) ∷ []) ≡
    Some 2
type_fault a b c d e f ha hb hc = rw (ha, hb, hc)

-- the rule on counts is the first that is broken
pub count_fault : (a b c d e f : Bool) → a ≡ false → b ≡ false → c ≡ false → d ≡ true →
    first_fault ((a, 6) ∷ (b, 4) ∷ (c, 2) ∷ (d, 1) ∷ (e, 3) ∷ (f, 5) ∷ (false, 7) ∷ (false, 9) ∷ (false, 11) ∷ []) ≡
    Some 1
count_fault a b c d e f ha hb hc hd = rw (ha, hb, hc, hd)

-- the rule on tags is the first that is broken
pub tag_fault : (a b c d e f : Bool) → a ≡ false → b ≡ false → c ≡ false → d ≡ false → e ≡ true →
    first_fault ((a, 6) ∷ (b, 4) ∷ (c, 2) ∷ (d, 1) ∷ (e, 3) ∷ (f, 5) ∷ (false, 7) ∷ (false, 9) ∷ (false, 11) ∷ []) ≡
    Some 3
tag_fault a b c d e f ha hb hc hd he = rw (ha, hb, hc, hd, he)

-- the rule on ranks is the first that is broken
pub rank_fault : (a b c d e f : Bool) → a ≡ false → b ≡ false → c ≡ false → d ≡ false → e ≡ false → f ≡ true →
    first_fault ((a, 6) ∷ (b, 4) ∷ (c, 2) ∷ (d, 1) ∷ (e, 3) ∷ (f, 5) ∷ (false, 7) ∷ (false, 9) ∷ (false, 11) ∷ []) ≡
    Some 5
rank_fault a b c d e f ha hb hc hd he hf = rw (ha, hb, hc, hd, he, hf)

-- BOTH

-- where a rule was broken, the refusal is by it
pub reason_is : (old : CoreState) (core : Core) (call : RoutedCall) (x y : Refusal) → Some x ≡ Some y →
    HasReason old core call x → HasReason old core call y
reason_is old core call x y h r = let e : x ≡ y = cc in subst (λ (z : Refusal). HasReason old core call z) e r

-- where no rule was broken, it is the limit
pub limit_met : (b : Bool) (why : Refusal) → (if b then Some refusals.Limit else None) ≡ Some why → IsOutOfRoom why
limit_met true why h = let e : refusals.Limit ≡ why = cc in inl (sym e)
limit_met false why h = absurd cc
