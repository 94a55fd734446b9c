-- What is copied out of the data of an answer.
use Rattle.std.specs.Prelude.{
  ◌≡◌,
  ◌+◌,
  ◌-◌,
  ◌*◌,
  ◌^◌,
  ◌++◌,
  ℕ,
  List,
  length,
  drop,
  min,
  slice_range,
  Option,
  Some,
  None,
}
use Rattle.datatypes.specs.Contents.{bytes_of}
use Rattle.vocabulary.specs.BasicTypes.{size_of}
use Rattle.c_rank.specs.Elements.{other_order, whole_len}
use Rattle.c_rank.specs.declared.rank.ReceivedData.{ReceivedData}

-- the bytes of so many elements, as far as 64 bits can tell them
abbrev pub bytes_for : (count size : ℕ) → ℕ
bytes_for count size = min (count * size) (2 ^ 64 - 1)

-- how many bytes there are
abbrev pub data_len : ReceivedData → ℕ
data_len d = min (length (bytes_of (size_of d.buffer.basic) d.buffer.values)) (bytes_for d.count (size_of d.buffer.basic))

-- the first of them that is copied
abbrev pub taken_from : ReceivedData → (first : ℕ) → ℕ
taken_from d first = min (data_len d) (bytes_for first (size_of d.buffer.basic))

-- the bytes from there on, as many as fit
abbrev pub taken_part : ReceivedData → (first room : ℕ) → List ℕ
taken_part d first room =
    slice_range (bytes_of (size_of d.buffer.basic) d.buffer.values) (taken_from d first)
    (taken_from d first + min (data_len d - taken_from d first) room)

-- the whole elements among them stand in front, in the machine's order, and their bytes are counted
abbrev pub Takes : ReceivedData → (first : ℕ) → (old new : List ℕ) → ℕ → Type 0
Takes d first old new len =
    (len ≡ whole_len (size_of d.buffer.basic) (length (taken_part d first (length old))))
    × (new ≡ other_order (size_of d.buffer.basic) (taken_part d first (length old)) ++ drop len old)

-- where there are no data, nothing is copied
abbrev pub TakesOf : Option ReceivedData → (first : ℕ) → (old new : List ℕ) → ℕ → Type 0
TakesOf None first old new len = (len ≡ 0) × (new ≡ old)
TakesOf (Some d) first old new len = Takes d first old new len
