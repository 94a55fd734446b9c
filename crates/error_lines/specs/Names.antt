-- The names of operations, as scripts have them.
use Rattle.std.specs.Prelude.{ℕ, List, codes}
use Rattle.vocabulary.specs.declared.operation.Operation.{Operation}
use Rattle.vocabulary.specs.declared.operation.Operation.TheVariants as operations

abbrev pub operation_name : Operation → List ℕ
operation_name operations.Max = codes "max"
operation_name operations.Min = codes "min"
operation_name operations.Sum = codes "sum"
operation_name operations.Prod = codes "prod"
operation_name operations.Land = codes "land"
operation_name operations.Lor = codes "lor"
operation_name operations.Lxor = codes "lxor"
operation_name operations.Band = codes "band"
operation_name operations.Bor = codes "bor"
operation_name operations.Bxor = codes "bxor"
operation_name operations.Affine = codes "affine"
