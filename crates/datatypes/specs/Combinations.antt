-- Elements of two buffers made into one, place by place.
use Rattle.std.specs.Prelude.{◌≡◌, ℕ, List, [], ◌∷◌, length}
use Rattle.vocabulary.specs.declared.basic_type.BasicType.{BasicType}
use Rattle.datatypes.specs.Contents.{Contents}

-- two members' elements combined, element by element
abbrev pub combined_values : (ℕ → ℕ → ℕ) → List ℕ → List ℕ → List ℕ
combined_values f [] ys = []
combined_values f (x ∷ xs) [] = []
combined_values f (x ∷ xs) (y ∷ ys) = f x y ∷ combined_values f xs ys

-- elements of this type, as many as these
pub record IsLike (basic : BasicType) (values : List ℕ) (member : Contents) : Type 0 where
  pub basic_is : member.basic ≡ basic
  pub len : length member.values ≡ length values
