-- What a fold of two rows of elements gives.
use Rattle.std.specs.Prelude.{◌≡◌, ◌⊎◌, ◌==◌, ◌%◌, ◌&&◌, ℕ, Bool, false, List, length, if◌then◌else◌}
use Rattle.std.specs.Prelude.{Option, Some, None, Result, Ok, Err}
use Rattle.datatypes.specs.Contents.{bytes_of}
use Rattle.datatypes.specs.Combinations.{combined_values}
use Rattle.vocabulary.specs.BasicTypes.{size_of, type_at}
use Rattle.vocabulary.specs.Operations.{is_associative, is_defined, operation_at}
use Rattle.vocabulary.specs.declared.basic_type.BasicType.{BasicType}
use Rattle.vocabulary.specs.declared.operation.Operation.{Operation}
use Rattle.reductions.specs.Operations.{combined}
use Rattle.c_rank.specs.Elements.{elements_of, other_order}

-- the bytes of what the operation makes of the elements at each place, the one of `low` first; all in the machine's
-- order
abbrev pub folded_bytes : Operation → BasicType → (low high : List ℕ) → List ℕ
folded_bytes op basic low high =
    other_order (size_of basic) (bytes_of (size_of basic)
    (combined_values (combined op basic) (elements_of basic low).values (elements_of basic high).values))

-- both are whole elements, and equally many, or the number is 1
abbrev pub fold_of_whole : Operation → BasicType → (low high : List ℕ) → Result (List ℕ) ℕ
fold_of_whole op basic low high =
    if (length low == length high) && (length low % size_of basic == 0)
    then Ok (folded_bytes op basic low high)
    else Err 1

-- the operation is defined on the type, or the number is 9
abbrev pub typed_fold : Operation → BasicType → (low high : List ℕ) → Result (List ℕ) ℕ
typed_fold op basic low high = if is_defined op basic then fold_of_whole op basic low high else Err 9

abbrev pub operation_fold : Option Operation → BasicType → (low high : List ℕ) → Result (List ℕ) ℕ
operation_fold None basic low high = Err 9
operation_fold (Some op) basic low high = typed_fold op basic low high

-- a code names a type, or the number is 2
abbrev pub fold_meant : Option BasicType → Option Operation → (low high : List ℕ) → Result (List ℕ) ℕ
fold_meant None op low high = Err 2
fold_meant (Some basic) op low high = operation_fold op basic low high

-- the number is 0 and the bytes are there, or it is 14, for want of memory, or that of why there is no fold; then
-- nothing has changed
abbrev pub FoldGives : Result (List ℕ) ℕ → (old : List ℕ) → (number : ℕ) → (new : List ℕ) → Type 0
FoldGives (Ok bytes) old number new = ((number ≡ 0) × (new ≡ bytes)) ⊎ ((number ≡ 14) × (new ≡ old))
FoldGives (Err fault) old number new = (number ≡ fault) × (new ≡ old)

-- of the operation and the type that two codes name
abbrev pub Folds : (operation basic : ℕ) → (low old : List ℕ) → (number : ℕ) → (new : List ℕ) → Type 0
Folds operation basic low old number new =
    FoldGives (fold_meant (type_at basic) (operation_at operation) low old) old number new

-- whether an operation is associative on a type's elements
abbrev pub regroups_on : Option Operation → Option BasicType → Bool
regroups_on None basic = false
regroups_on (Some op) None = false
regroups_on (Some op) (Some basic) = is_associative op basic

-- those that two codes name
abbrev pub regroups : (operation basic : ℕ) → Bool
regroups operation basic = regroups_on (operation_at operation) (type_at basic)
