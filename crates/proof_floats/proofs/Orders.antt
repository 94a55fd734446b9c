-- Terms whose order counts: of sums 1, a float from which on floats are 2 apart, and its opposite; of products the
-- half of what is too large, 2 and a half.
use Rattle.std.proofs.Common.{◌≡◌, ℕ, true, false, lit<}
use lib.Ieee.{to_bits, add, mul, sum, round, units, odd, size, span, climb, of_bits, of_fields}
use lib.Count.{count_trailing_zeros}
use Rattle.vocabulary.specs.declared.basic_type.BasicType.{BasicType}
use Rattle.vocabulary.specs.declared.basic_type.BasicType.TheVariants.{Int8, Int16, Int32, Int64, Uint8, Uint16, Uint32}
use Rattle.vocabulary.specs.declared.basic_type.BasicType.TheVariants.{Uint64, Byte, Float32, Float64}
use Rattle.vocabulary.specs.declared.operation.Operation.{Operation}
use Rattle.vocabulary.specs.declared.operation.Operation.TheVariants.{Max, Min, Sum, Prod, Land, Lor, Lxor, Band, Bor}
use Rattle.vocabulary.specs.declared.operation.Operation.TheVariants.{Bxor}
use Rattle.vocabulary.specs.declared.operation.Operation.TheVariants.{Affine}
use Rattle.vocabulary.specs.Operations.{is_associative}
use Rattle.reductions.specs.Operations.{combined}
use Rattle.proof_floats.specs.Dependence.{DependsOnOrder}

sum_32 : DependsOnOrder Sum Float32
unfolding combined to_bits add sum round units odd size span climb of_bits of_fields count_trailing_zeros
sum_32 =
    record {
      a = 0x3f80_0000;
      b = 0x4b80_0000;
      c = 0xcb80_0000;
      a_is = lit< tt;
      b_is = lit< tt;
      c_is = lit< tt;
      differ = λ same. cc;
    }

sum_64 : DependsOnOrder Sum Float64
unfolding combined to_bits add sum round units odd size span climb of_bits of_fields count_trailing_zeros
sum_64 =
    record {
      a = 0x3ff0_0000_0000_0000;
      b = 0x4340_0000_0000_0000;
      c = 0xc340_0000_0000_0000;
      a_is = lit< tt;
      b_is = lit< tt;
      c_is = lit< tt;
      differ = λ same. cc;
    }

product_32 : DependsOnOrder Prod Float32
unfolding combined to_bits mul round units odd size span climb of_bits of_fields count_trailing_zeros
product_32 =
    record {
      a = 0x7f00_0000;
      b = 0x4000_0000;
      c = 0x3f00_0000;
      a_is = lit< tt;
      b_is = lit< tt;
      c_is = lit< tt;
      differ = λ same. cc;
    }

product_64 : DependsOnOrder Prod Float64
unfolding combined to_bits mul round units odd size span climb of_bits of_fields count_trailing_zeros
product_64 =
    record {
      a = 0x7fe0_0000_0000_0000;
      b = 0x4000_0000_0000_0000;
      c = 0x3fe0_0000_0000_0000;
      a_is = lit< tt;
      b_is = lit< tt;
      c_is = lit< tt;
      differ = λ same. cc;
    }

no_other : {op : Operation} {basic : BasicType} → true ≡ false → DependsOnOrder op basic
no_other is = absurd (apart is)
  where
    apart : true ≡ false → ⊥
    apart h = cc

pub told_apart : (op : Operation) (basic : BasicType) → is_associative op basic ≡ false → DependsOnOrder op basic
told_apart Sum Float32 is = sum_32
told_apart Sum Float64 is = sum_64
told_apart Sum Int8 is = no_other is
told_apart Sum Int16 is = no_other is
told_apart Sum Int32 is = no_other is
told_apart Sum Int64 is = no_other is
told_apart Sum Uint8 is = no_other is
told_apart Sum Uint16 is = no_other is
told_apart Sum Uint32 is = no_other is
told_apart Sum Uint64 is = no_other is
told_apart Sum Byte is = no_other is
told_apart Prod Float32 is = product_32
told_apart Prod Float64 is = product_64
told_apart Prod Int8 is = no_other is
told_apart Prod Int16 is = no_other is
told_apart Prod Int32 is = no_other is
told_apart Prod Int64 is = no_other is
told_apart Prod Uint8 is = no_other is
told_apart Prod Uint16 is = no_other is
told_apart Prod Uint32 is = no_other is
told_apart Prod Uint64 is = no_other is
told_apart Prod Byte is = no_other is
told_apart Max basic is = no_other is
told_apart Min basic is = no_other is
told_apart Land basic is = no_other is
told_apart Lor basic is = no_other is
told_apart Lxor basic is = no_other is
told_apart Band basic is = no_other is
told_apart Bor basic is = no_other is
told_apart Bxor basic is = no_other is
told_apart Affine basic is = no_other is
