-- The engines of a world at its start.
use Rattle.std.proofs.Common.{◌≡◌, ℕ, zero, suc, ◌+◌, List, [], ◌∷◌, ◌++◌, ap, ◌∙◌, arith}
use Rattle.engine_calls.specs.EngineState.{EngineState, opening}
use Rattle.proof_network_bridge.specs.WorldViews.{opening_engines}
use Rattle.vocabulary.specs.declared.message_limit.MessageLimit.{MessageLimit}
use Rattle.link_truth.specs.Wire.{at, in_job, place_of}

one_more : (l : MessageLimit) (n a k : ℕ) →
    opening_engines l n a (suc k) ≡ opening_engines l n a k ++ opening (in_job l (place_of n (at (a + k) 0))) ∷ []
one_more l n a zero = ap (λ (r : ℕ). opening (in_job l (place_of n (at r 0))) ∷ []) (omega arith)
one_more l n a (suc k) =
    ap (λ (es : List EngineState). opening (in_job l (place_of n (at a 0))) ∷ es)
    (one_more l n (suc a) k ∙
    ap (λ (r : ℕ). opening_engines l n (suc a) k ++ opening (in_job l (place_of n (at r 0))) ∷ [])
    (omega arith))

-- the engine of the next rank stands behind
pub opening_more : (l : MessageLimit) (n k : ℕ) →
    opening_engines l n 0 (k + 1) ≡ opening_engines l n 0 k ++ opening (in_job l (place_of n (at k 0))) ∷ []
opening_more l n k =
    let e : k + 1 ≡ suc k = omega arith in
    let f : 0 + k ≡ k = omega arith in
    ap (λ (j : ℕ). opening_engines l n 0 j) e ∙ one_more l n 0 k ∙
    ap (λ (r : ℕ). opening_engines l n 0 k ++ opening (in_job l (place_of n (at r 0))) ∷ []) f
