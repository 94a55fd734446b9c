-- Packing and unpacking (MPI 3.1, 4.1.11 and 4.2): what data become in a message, and where a message goes; how much of
-- a type a shorter message is.
use Rattle.std.specs.Prelude.{◌≡◌, ℕ, zero, suc, ◌-◌, ◌==◌, ◌/◌, ◌%◌, ◌≤◌, ◌<◌, nat_lt, ◌||◌, Bool}
use Rattle.std.specs.Prelude.{false, ℤ, pos, negsuc}
use Rattle.std.specs.Prelude.{Option, None, Some, List, [], ◌∷◌, map, take, length, if◌then◌else◌}
use Rattle.type_maps.specs.Maps.{Element, Map, bytes_of, moved_numbers}
use Rattle.type_maps.specs.Summaries.{size_of}

-- memory: the byte at each address
abbrev pub Memory : Type 0
Memory = ℤ → ℕ

abbrev pub is_same : ℤ → ℤ → Bool
is_same (pos a) (pos b) = a == b
is_same (pos a) (negsuc b) = false
is_same (negsuc a) (pos b) = false
is_same (negsuc a) (negsuc b) = a == b

-- the bytes at addresses, in their order
abbrev pub packed : Memory → List ℤ → List ℕ
packed memory at = map memory at

-- memory with one byte put
abbrev pub put : Memory → ℤ → ℕ → Memory
put memory at byte address = if is_same at address then byte else memory address

-- a message put at addresses, in order, as far as both go
abbrev pub unpacked : Memory → List ℤ → List ℕ → Memory
unpacked memory at [] = memory
unpacked memory [] (b ∷ bs) = memory
unpacked memory (x ∷ xs) (b ∷ bs) = unpacked (put memory x b) xs bs

abbrev pub is_among : ℤ → List ℤ → Bool
is_among x [] = false
is_among x (y ∷ ys) = is_same y x || is_among x ys

-- no address twice: such types alone may be received through (4.1.11)
abbrev pub IsApart : List ℤ → Type 0
IsApart [] = Unit {0}
IsApart (x ∷ xs) = (is_among x xs ≡ false) × IsApart xs

-- the addresses of a map's data, from a buffer's address on
abbrev pub addresses : ℤ → Map → List ℤ
addresses buffer m = moved_numbers buffer (bytes_of m.elements)

abbrev pub one_more : Option ℕ → Option ℕ
one_more None = None
one_more (Some n) = Some (suc n)

-- how many elements the first bytes of a map's data are, where they end with an element
abbrev pub elements_in : ℕ → List Element → Option ℕ
elements_in zero es = Some 0
elements_in (suc n) [] = None
elements_in (suc n) (e ∷ es) =
    if nat_lt (suc n) e.basic.size then None else one_more (elements_in (suc n - e.basic.size) es)

-- no element without a byte
abbrev pub HaveBytes : List Element → Type 0
HaveBytes [] = Unit {0}
HaveBytes (e ∷ es) = (0 < e.basic.size) × HaveBytes es

-- how many whole items so many bytes are, of items of so many bytes (4.1.11): of an item without data only none are any
abbrev pub whole_items : ℕ → ℕ → Option ℕ
whole_items bytes size =
    if size == 0
    then (if bytes == 0 then Some 0 else None)
    else (if bytes % size == 0 then Some (bytes / size) else None)

-- what messages carry
pub record PackingHolds : Type 0 where
  -- what was put at addresses is what stands there, where no address is named twice
  pub round : (memory : Memory) (at : List ℤ) (bytes : List ℕ) → IsApart at → length bytes ≡ length at →
      packed (unpacked memory at bytes) at ≡ bytes
  -- all else stays: a shorter message changes no address but its own first ones
  pub others : (memory : Memory) (at : List ℤ) (bytes : List ℕ) (x : ℤ) → is_among x (take (length bytes) at) ≡ false →
      unpacked memory at bytes x ≡ memory x
  -- what is put back where it was taken changes nothing, whatever the addresses
  pub again : (memory : Memory) (at : List ℤ) (x : ℤ) → unpacked memory at (packed memory at) x ≡ memory x

-- so many whole elements are as many, in bytes: MPI_Get_elements tells the number that was sent (4.1.11)
pub record ElementsAreCounted : Type 0 where
  pub whole : (es : List Element) (k : ℕ) → k ≤ length es → HaveBytes es → elements_in (size_of (take k es)) es ≡ Some k
