-- The operations of reductions, the codes that stand for them, and on which types they are defined (MPI 3.1, 5.9.2).
use Rattle.std.specs.Prelude.{ℕ, ◌==◌, Bool, true, false, not, Option, Some, None, if◌then◌else◌}
use Rattle.vocabulary.specs.declared.basic_type.BasicType.{BasicType}
use Rattle.vocabulary.specs.declared.basic_type.BasicType.TheVariants.{Uint64, Byte}
use Rattle.vocabulary.specs.BasicTypes.{is_float, is_integer}
use Rattle.vocabulary.specs.declared.operation.Operation.{Operation}
use Rattle.vocabulary.specs.declared.operation.Operation.TheVariants.{Max, Min, Sum, Prod, Land, Lor, Lxor, Band, Bor}
use Rattle.vocabulary.specs.declared.operation.Operation.TheVariants.{Bxor, Affine}

-- the code of an operation in the record of a collective; 0 stands for none
abbrev pub operation_code : Operation → ℕ
operation_code Max = 1
operation_code Min = 2
operation_code Sum = 3
operation_code Prod = 4
operation_code Land = 5
operation_code Lor = 6
operation_code Lxor = 7
operation_code Band = 8
operation_code Bor = 9
operation_code Bxor = 10
operation_code Affine = 11

-- the operation that has a code
abbrev pub operation_at : ℕ → Option Operation
operation_at code =
    if code == 1 then Some Max else
    (if code == 2 then Some Min else (if code == 3 then Some Sum else
    (if code == 4 then Some Prod else
    (if code == 5 then Some Land else (if code == 6 then Some Lor else
    (if code == 7 then Some Lxor else
    (if code == 8 then Some Band else (if code == 9 then Some Bor else
    (if code == 10 then Some Bxor else (if code == 11 then Some Affine else None))))))))))

-- Whether the operation is defined on the type: the logical ones on integers; bit by bit on integers and bytes; the maps
-- on numbers of 64 bits; MAX, MIN, SUM and PROD on integers and floats
abbrev pub is_defined : Operation → BasicType → Bool
is_defined Land basic = is_integer basic
is_defined Lor basic = is_integer basic
is_defined Lxor basic = is_integer basic
is_defined Band basic = not (is_float basic)
is_defined Bor basic = not (is_float basic)
is_defined Bxor basic = not (is_float basic)
is_defined Affine Uint64 = true
is_defined Affine basic = false
is_defined op Byte = false
is_defined op basic = true

-- Whether the operation is associative on the type: each is, but for the sum and the product of floats, which are rounded
abbrev pub is_associative : Operation → BasicType → Bool
is_associative Sum basic = not (is_float basic)
is_associative Prod basic = not (is_float basic)
is_associative op basic = true
