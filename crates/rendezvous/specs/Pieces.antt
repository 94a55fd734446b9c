-- The pieces in which data go: as many bytes each as a frame of the job has at most, and the last one what is left (our
-- own).
use Rattle.std.specs.Prelude.{ℕ, ◌+◌, ◌*◌, ◌-◌, ◌/◌, ◌%◌, ◌==◌, ◌&&◌, nat_lt, min, Bool, List, map, length, take, drop}
use Rattle.std.specs.List.{range_with_len}

-- the first bytes of a list, as many as one piece has
abbrev pub first_piece : (size : ℕ) → List ℕ → List ℕ
first_piece size bytes = take (min (length bytes) size) bytes

-- the piece with a number, from 0: the place of its first byte in the data, and its bytes
abbrev pub piece_at : (size : ℕ) → List ℕ → (number : ℕ) → ℕ × List ℕ
piece_at size bytes number = (number * size, first_piece size (drop (number * size) bytes))

-- in how many pieces the data go
abbrev pub piece_count : (size : ℕ) → List ℕ → ℕ
piece_count size bytes = length bytes / size + min 1 (length bytes % size)

-- the pieces of so many bytes each, in order
abbrev pub pieces_of : (size : ℕ) → List ℕ → List (ℕ × List ℕ)
pieces_of size bytes = map (piece_at size bytes) (range_with_len 0 (piece_count size bytes))

-- how many bytes the next piece has, where so many of all bytes have come
abbrev pub due_of : (size total have : ℕ) → ℕ
due_of size total have = min (total - have) size

-- whether these bytes from this place on are the next piece, where so many of all bytes have come; no piece is empty
abbrev pub is_next_piece : (size total have offset : ℕ) → List ℕ → Bool
is_next_piece size total have offset piece = nat_lt 0 (length piece) && (offset == have) &&
    (length piece == due_of size total have)
