-- The operations of a reduction, on the numbers of elements (MPI 3.1, 5.9.2).
use Rattle.std.specs.Prelude.{ℕ, ◌+◌, ◌-◌, ◌*◌, ◌/◌, ◌%◌, ◌^◌, ◌==◌, nat_lt, Bool, true, false, bit_and, bit_or}
use Rattle.std.specs.Prelude.{bit_xor, if◌then◌else◌, to_bits, from_bits}
use Rattle.std.specs.Float.Ieee.{Float, Format, binary32, binary64, nan_bits, add, mul, top}
use Rattle.vocabulary.specs.declared.basic_type.BasicType.{BasicType}
use Rattle.vocabulary.specs.declared.basic_type.BasicType.TheVariants.{Int8, Int16, Int32, Int64, Uint8, Uint16, Uint32}
use Rattle.vocabulary.specs.declared.basic_type.BasicType.TheVariants.{Uint64, Byte, Float32, Float64}
use Rattle.vocabulary.specs.declared.operation.Operation.{Operation}
use Rattle.vocabulary.specs.declared.operation.Operation.TheVariants.{Max, Min, Sum, Prod, Land, Lor, Lxor, Band, Bor, Bxor}
use Rattle.vocabulary.specs.declared.operation.Operation.TheVariants.{Affine}
use Rattle.datatypes.specs.Elements.{has_sign, numbers_of}
pub use Rattle.vocabulary.specs.Operations.{is_associative, is_defined}

-- the place of an element in the order of its type: that of a signed type is moved up by half the range, so that no
-- value is below zero
abbrev pub order_of : BasicType → ℕ → ℕ
order_of basic a =
    if has_sign basic
    then (if nat_lt a (numbers_of basic / 2) then a + numbers_of basic / 2 else a - numbers_of basic / 2)
    else a

-- the greater of two by their places in an order
abbrev pub greater_by : (ℕ → ℕ) → ℕ → ℕ → ℕ
greater_by order a b = if nat_lt (order a) (order b) then b else a

-- the lesser of two by their places in an order
abbrev pub lesser_by : (ℕ → ℕ) → ℕ → ℕ → ℕ
lesser_by order a b = if nat_lt (order b) (order a) then b else a

-- 1 where both are true, and else 0; all but 0 is true
abbrev pub logical_and : ℕ → ℕ → ℕ
logical_and a b = if a == 0 then 0 else (if b == 0 then 0 else 1)

-- 1 where one is true, and else 0
abbrev pub logical_or : ℕ → ℕ → ℕ
logical_or a b = if a == 0 then (if b == 0 then 0 else 1) else 1

-- 1 where just one is true, and else 0
abbrev pub logical_xor : ℕ → ℕ → ℕ
logical_xor a b = if a == 0 then (if b == 0 then 0 else 1) else (if b == 0 then 1 else 0)

-- The high half a and the low half b stand for the map x -> a * x + b modulo 2^32; the first map is applied first.
abbrev pub map_after : ℕ → ℕ → ℕ
map_after first second =
    first / 2 ^ 32 * (second / 2 ^ 32) % 2 ^ 32 * 2 ^ 32
    + (second / 2 ^ 32 * (first % 2 ^ 32) + second % 2 ^ 32) % 2 ^ 32

-- ---- floats, as the patterns of their bits

-- the place of a pattern in the order of IEEE 754, in which -0 stands below 0 (its totalOrder)
abbrev pub total_order : Format → ℕ → ℕ
total_order f bits = if nat_lt bits (top f) then bits + top f else (2 * top f - 1) - bits

-- the same with each NaN above all: by it the greater is IEEE 754-2019's `maximum`
abbrev pub nan_above : Format → ℕ → ℕ
nan_above f bits = if nan_bits f bits then 2 * top f else total_order f bits

-- and with each NaN below all: by it the lesser is its `minimum`
abbrev pub nan_below : Format → ℕ → ℕ
nan_below f bits = if nan_bits f bits then 0 else total_order f bits + 1

-- what an operation on floats makes of two patterns; a NaN that it makes is the quiet one without a sign
abbrev pub in_floats : (f : Format) → (Float → Float → Float) → ℕ → ℕ → ℕ
in_floats f op a b = to_bits f (op (from_bits f a) (from_bits f b))

-- ---- by type

-- the order by which the greater is found
abbrev pub order_above : BasicType → ℕ → ℕ
order_above Float32 = nan_above binary32
order_above Float64 = nan_above binary64
order_above basic = order_of basic

-- and the one by which the lesser is found
abbrev pub order_below : BasicType → ℕ → ℕ
order_below Float32 = nan_below binary32
order_below Float64 = nan_below binary64
order_below basic = order_of basic

-- the sum: of integers in two's complement, which wraps; of floats IEEE 754's, rounded to the nearest, ties to even
abbrev pub sum_in : BasicType → ℕ → ℕ → ℕ
sum_in Float32 a b = in_floats binary32 (add binary32) a b
sum_in Float64 a b = in_floats binary64 (add binary64) a b
sum_in basic a b = (a + b) % numbers_of basic

-- and the product
abbrev pub product_in : BasicType → ℕ → ℕ → ℕ
product_in Float32 a b = in_floats binary32 (mul binary32) a b
product_in Float64 a b = in_floats binary64 (mul binary64) a b
product_in basic a b = (a * b) % numbers_of basic

-- what the operation makes of two elements
unfoldable pub combined : Operation → BasicType → ℕ → ℕ → ℕ
combined Max basic a b = greater_by (order_above basic) a b
combined Min basic a b = lesser_by (order_below basic) a b
combined Sum basic a b = sum_in basic a b
combined Prod basic a b = product_in basic a b
combined Land basic a b = logical_and a b
combined Lor basic a b = logical_or a b
combined Lxor basic a b = logical_xor a b
combined Band basic a b = bit_and a b
combined Bor basic a b = bit_or a b
combined Bxor basic a b = bit_xor a b
combined Affine basic a b = map_after a b

-- the operations by number
abbrev pub operation_of : ℕ → Operation
operation_of number =
    if number == 1 then Max else
    (if number == 2 then Min else
    (if number == 3 then Sum else
    (if number == 4 then Prod else
    (if number == 5 then Land else
    (if number == 6 then Lor else
    (if number == 7 then Lxor else
    (if number == 8 then Band else (if number == 9 then Bor else (if number == 10 then Bxor else (Affine))))))))))
