-- Operations whose result depends on the order of its terms.
use Rattle.std.specs.Prelude.{◌≡◌, ◌≢◌, ℕ, ◌<◌, false}
use Rattle.vocabulary.specs.declared.basic_type.BasicType.{BasicType}
use Rattle.vocabulary.specs.declared.operation.Operation.{Operation}
use Rattle.vocabulary.specs.Operations.{is_associative}
use Rattle.datatypes.specs.Elements.{numbers_of}
use Rattle.reductions.specs.Operations.{combined}

-- three elements of which the first two taken together first, and the last two, come to different ones
pub record DependsOnOrder (op : Operation) (basic : BasicType) : Type 0 where
  pub a : ℕ
  pub b : ℕ
  pub c : ℕ
  pub a_is : a < numbers_of basic
  pub b_is : b < numbers_of basic
  pub c_is : c < numbers_of basic
  pub differ : combined op basic (combined op basic a b) c ≢ combined op basic a (combined op basic b c)

-- What isn't taken for associative depends on the order. That all else is associative, `reductions` says.
abbrev pub EachOperationIsToldApart : Type 0
EachOperationIsToldApart =
    (op : Operation) (basic : BasicType) → is_associative op basic ≡ false → DependsOnOrder op basic
