-- Elements as the machine keeps them, the lowest byte of each first, and as buffers keep them, the highest first.
use Rattle.std.specs.Prelude.{ℕ, zero, suc, ◌*◌, ◌/◌, ◌==◌, List, [], ◌++◌, length, drop, replicate, if◌then◌else◌}
use Rattle.byteorder.specs.Endian.{big_bytes, little_number}
use Rattle.datatypes.specs.Contents.{Contents, values_of}
use Rattle.vocabulary.specs.BasicTypes.{size_of}
use Rattle.vocabulary.specs.declared.basic_type.BasicType.{BasicType}

-- the element at a place, its bytes in the opposite order: the number that they are with the lowest first, as bytes with
-- the highest first
abbrev pub turned_at : (size : ℕ) → List ℕ → (place : ℕ) → List ℕ
turned_at size bytes place = big_bytes size (little_number size (drop (place * size) bytes))

-- the first elements, the bytes of each in the opposite order
abbrev pub turned_to : (size : ℕ) → List ℕ → (count : ℕ) → List ℕ
turned_to size bytes zero = []
turned_to size bytes (suc count) = turned_to size bytes count ++ turned_at size bytes count

-- all of them
abbrev pub turned : (size : ℕ) → List ℕ → List ℕ
turned size bytes = turned_to size bytes (length bytes / size)

-- elements in the other order of their bytes; single bytes have none
abbrev pub other_order : (size : ℕ) → List ℕ → List ℕ
other_order size bytes = if size == 1 then bytes else turned size bytes

-- how many bytes the whole elements among so many bytes have
abbrev pub whole_len : (size bytes : ℕ) → ℕ
whole_len size bytes = if size == 1 then bytes else bytes / size * size

-- the elements whose bytes these are, in the machine's order
abbrev pub elements_of : BasicType → List ℕ → Contents
elements_of basic bytes =
    record { basic = basic; values = values_of (size_of basic) (other_order (size_of basic) bytes) }

-- so many elements whose bytes are 0
abbrev pub zeros : BasicType → (count : ℕ) → Contents
zeros basic count = record { basic = basic; values = values_of (size_of basic) (replicate (count * size_of basic) 0) }
