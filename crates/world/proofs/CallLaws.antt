-- What an engine is left with by a call, by whether it was refused.
use Rattle.std.proofs.Common.{◌≡◌, Some, None, sym, subst, ◌∙◌}
use Rattle.std.proofs.lemmas.Option.{same_Some}
use Rattle.engine_calls.specs.Calls.{CallGives, IsTaken, RefusedLeaves}
use Rattle.engine_calls.specs.EngineState.{EngineState}
use Rattle.engine_calls.specs.declared.call.Call.{Call}
use Rattle.engine_calls.specs.declared.reply.Reply.{Reply}
use Rattle.engine_calls.specs.declared.reply.Reply.TheVariants as replies
use Rattle.point_to_point_calls.specs.declared.refusal.Refusal.{Refusal}
use Rattle.world.specs.Views.{refusal_of}

-- a reply that is no refusal is that of a call that was taken
pub is_taken : (r : Reply) → refusal_of r ≡ None → IsTaken r
is_taken (replies.Refused why back) is = absurd cc
is_taken (replies.Started request) is = tt
is_taken (replies.Done answer) is = tt
is_taken replies.Pending is = tt
is_taken replies.Accepted is = tt
is_taken replies.Blocked is = tt
is_taken (replies.Left ending) is = tt
is_taken (replies.Fact fact) is = tt
is_taken (replies.Probed found) is = tt
is_taken (replies.Matched found) is = tt

-- a call that is refused hands itself back, and leaves the engine as it was
pub refused_call : (old new : EngineState) (call : Call) (r : Reply) (why e : Refusal) → refusal_of r ≡ Some why →
    e ≡ why → CallGives old call r new → RefusedLeaves r old new →
    (new ≡ old) × ((back : Call) × CallGives old call (replies.Refused e back) old)
refused_call old new call (replies.Refused x back) why e is same gives leaves = (
  leaves,
  (
    back,
    subst (λ (n : EngineState). CallGives old call (replies.Refused e back) n) leaves
        (subst (λ (w : Refusal). CallGives old call (replies.Refused w back) new) (same_Some _ _ is ∙ sym same) gives),
  ),
)
refused_call old new call (replies.Started request) why e is same gives leaves = absurd cc
refused_call old new call (replies.Done answer) why e is same gives leaves = absurd cc
refused_call old new call replies.Pending why e is same gives leaves = absurd cc
refused_call old new call replies.Accepted why e is same gives leaves = absurd cc
refused_call old new call replies.Blocked why e is same gives leaves = absurd cc
refused_call old new call (replies.Left ending) why e is same gives leaves = absurd cc
refused_call old new call (replies.Fact fact) why e is same gives leaves = absurd cc
refused_call old new call (replies.Probed found) why e is same gives leaves = absurd cc
refused_call old new call (replies.Matched found) why e is same gives leaves = absurd cc
