-- Lengths of rows that are folded.
use Rattle.std.proofs.Common.{◌≡◌, ℕ, suc, ◌*◌, ◌/◌, ◌%◌, ◌==◌, Bool, true, false, List, [], ◌∷◌, ◌++◌, length, drop}
use Rattle.std.proofs.Common.{if◌then◌else◌, refl, sym, ap, ◌∙◌, arith}
use Rattle.std.proofs.lemmas.List.{append-nil, drop_all}
use Rattle.vocabulary.specs.BasicTypes.{size_of}
use Rattle.vocabulary.specs.declared.basic_type.BasicType.{BasicType}
use Rattle.datatypes.specs.Contents.{bytes_of}
use Rattle.datatypes.specs.Combinations.{IsLike, combined_values}
use Rattle.datatypes.specs.ContentLaws.{length-bytes_of, length-values_of, whole}
use Rattle.c_rank.specs.Elements.{elements_of, other_order, turned, whole_len}
use Rattle.c_rank.proofs.ByteOrderLaws.{length-turned_to}

-- whole elements in the other order are as many bytes
length-other_order : (size : ℕ) (bytes : List ℕ) → length bytes % size ≡ 0 →
    length (other_order size bytes) ≡ length bytes
length-other_order size bytes no_rest = go (size == 1)
  where
    go : (b : Bool) → length (if b then bytes else turned size bytes) ≡ length bytes
    go true = refl
    go false = length-turned_to size bytes (length bytes / size) ∙ sym (whole size bytes no_rest)

length-elements : (basic : BasicType) (bytes : List ℕ) → length bytes % size_of basic ≡ 0 →
    length (elements_of basic bytes).values ≡ length bytes / size_of basic
length-elements basic bytes no_rest =
    length-values_of (size_of basic) (other_order (size_of basic) bytes)
    ∙ ap (λ (n : ℕ). n / size_of basic) (length-other_order (size_of basic) bytes no_rest)

-- two rows of one length have equally many elements
pub rows_are_like : (basic : BasicType) (low high : List ℕ) → length low ≡ length high →
    length low % size_of basic ≡ 0 → IsLike basic (elements_of basic low).values (elements_of basic high)
rows_are_like basic low high same no_rest =
    record {
      basic_is = refl;
      len = length-elements basic high (ap (λ (n : ℕ). n % size_of basic) (sym same) ∙ no_rest)
          ∙ ap (λ (n : ℕ). n / size_of basic) (sym same) ∙ sym (length-elements basic low no_rest);
    }

length-combined : (f : ℕ → ℕ → ℕ) (xs ys : List ℕ) → length ys ≡ length xs →
    length (combined_values f xs ys) ≡ length xs
length-combined f [] ys e = refl
length-combined f (x ∷ xs) [] e = absurd (omega arith)
length-combined f (x ∷ xs) (y ∷ ys) e = ap suc (length-combined f xs ys (omega arith))

-- what two rows are folded to has as many bytes as each
pub length-folded : (f : ℕ → ℕ → ℕ) (basic : BasicType) (low high : List ℕ) → length low ≡ length high →
    length low % size_of basic ≡ 0 →
    length (bytes_of (size_of basic) (combined_values f (elements_of basic low).values (elements_of basic high).values))
    ≡ length high
length-folded f basic low high same no_rest =
    length-bytes_of (size_of basic) (combined_values f (elements_of basic low).values (elements_of basic high).values)
    ∙ ap (λ (n : ℕ). n * size_of basic) (length-combined f (elements_of basic low).values
    (elements_of basic high).values (rows_are_like basic low high same no_rest).len
    ∙ length-elements basic low no_rest)
    ∙ sym (whole (size_of basic) low no_rest) ∙ same

-- whole elements that fill what they are put over
pub put_over_all : (size : ℕ) (from old new : List ℕ) (len : ℕ) → length from % size ≡ 0 → length from ≡ length old →
    len ≡ whole_len size (length from) → new ≡ other_order size from ++ drop len old → new ≡ other_order size from
put_over_all size from old new len no_rest same is made =
    made
    ∙ ap (λ (t : List ℕ). other_order size from ++ t) (drop_all len old (omega (arith, all, is, same)))
    ∙ append-nil (other_order size from)
  where
    go : (b : Bool) → (if b then length from else length from / size * size) ≡ length from
    go true = refl
    go false = sym (whole size from no_rest)

    all : whole_len size (length from) ≡ length from
    all = go (size == 1)
