-- What is so of a buffer that is lent.
use Rattle.std.proofs.Common.{◌≡◌, ℕ, List, Option, Some, None, sym, ◌∙◌, ap, subst}
use Rattle.std.specs.Prelude.{option_and_then, IfSome, IfNone}
use Rattle.std.specs.Option.{option_flatten}
use Rattle.datatypes.specs.Contents.{Contents}
use Rattle.script_calls.specs.Tables.{Entry, value_at, with_value}
use Rattle.script_calls.proofs.TableLaws.{set_same}
use Rattle.interpreter.specs.NamesState.{NamesState}
use Rattle.interpreter.specs.StatementCalls.{LendGives}

lent : (t : NamesState) (name : List ℕ) (r : Option (Option Contents)) (after : List (Entry (Option Contents))) →
    r ≡ value_at t.buffers name →
    IfSome r (λ _. after ≡ with_value t.buffers name None) → IfNone r (after ≡ t.buffers) →
    LendGives t name (option_flatten r) (record t { buffers = after })
lent t name None after before set same = (
  ap (option_and_then (λ (slot : Option Contents). slot)) (sym before),
  ap (λ (entries : List (Entry (Option Contents))). record t { buffers = entries }) same,
)
lent t name (Some None) after before set same = (
  ap (option_and_then (λ (slot : Option Contents). slot)) (sym before),
  ap (λ (entries : List (Entry (Option Contents))). record t { buffers = entries })
      (set ∙ set_same t.buffers name None (sym before)),
)
lent t name (Some (Some buffer)) after before set same = (
  ap (option_and_then (λ (slot : Option Contents). slot)) (sym before),
  ap (λ (entries : List (Entry (Option Contents))). record t { buffers = entries }) set,
)

-- the same, where t is what is seen of the fields
pub lends : (t s : NamesState) → t ≡ s →
    (name : List ℕ) (r : Option (Option Contents)) (after : List (Entry (Option Contents))) →
    r ≡ value_at t.buffers name → IfSome r (λ _. after ≡ with_value t.buffers name None) →
    IfNone r (after ≡ t.buffers) →
    LendGives s name (option_flatten r) (record t { buffers = after })
lends t s seen name r after before set same =
    subst (λ (x : NamesState). LendGives x name (option_flatten r) (record t { buffers = after })) seen
    (lent t name r after before set same)
