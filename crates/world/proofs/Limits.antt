-- The engines of a world keep their limit of messages.
use Rattle.std.proofs.Common.{◌≡◌, ℕ, List, [], ◌∷◌, ◌++◌, length, Some, refl, ◌∙◌, arith}
use Rattle.std.specs.Prelude.{slice_get}
use Rattle.engine_calls.specs.EngineState.{EngineState}
use Rattle.perfect_groups.specs.Events as machine
use Rattle.proof_group_network.proofs.NetworkInvariant.{run_limit_with_groups}
use Rattle.proof_group_network.specs.Network.{Happening, new_group_network}
use Rattle.vocabulary.specs.declared.message_limit.MessageLimit.{MessageLimit}
use Rattle.proof_network_bridge.specs.GoingOn.{Happened, IsFollowedBy, IsFollowedOn, Stands}
use Rattle.proof_network_bridge.specs.WorldViews.{limit_in}

-- what engines follow has their limit, where there is one
pub limit_by : (n : ℕ) (limit : MessageLimit) (happenings : List Happening) (engines : List EngineState)
    (d : List (ℕ × List ℕ))
    (h : List machine.Entry) (e : EngineState) → IsFollowedBy n limit happenings engines d h →
    slice_get engines 0 ≡ Some e → limit_in engines ≡ limit
limit_by n limit happenings [] d h e f is = absurd cc
limit_by n limit happenings (x ∷ xs) d h e f is =
    f.joined.limits 0 x refl ∙ run_limit_with_groups n happenings (new_group_network n limit)

pub limit_on : (n : ℕ) (limit : MessageLimit) (r : ℕ) (before : List Happening) (engines : List EngineState)
    (d : List (ℕ × List ℕ))
    (h : List machine.Entry) (e : EngineState) → IsFollowedOn n limit r before engines d h →
    slice_get engines 0 ≡ Some e → limit_in engines ≡ limit
limit_on n limit r before engines d h e (Stands f) is = limit_by n limit before engines d h e f is
limit_on n limit r before engines d h e (Happened x at f) is = limit_by n limit (before ++ x ∷ []) engines d h e f is

-- as many engines as there were have the limit that those had, where the first one says so
pub limit_new : (old new : List EngineState) → length new ≡ length old →
    ((e : EngineState) → slice_get new 0 ≡ Some e → limit_in new ≡ limit_in old) → limit_in new ≡ limit_in old
limit_new [] [] size same = refl
limit_new (o ∷ os) [] size same = absurd (omega (arith, size))
limit_new [] (x ∷ xs) size same = absurd (omega (arith, size))
limit_new (o ∷ os) (x ∷ xs) size same = same x refl
