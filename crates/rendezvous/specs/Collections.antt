-- A message that comes in pieces.
use Rattle.std.specs.Prelude.{◌≡◌, ℕ, ◌==◌, ◌&&◌, ◌*◌, ◌≤◌, ◌%◌, Bool, List, [], ◌++◌, length}
use Rattle.vocabulary.specs.declared.basic_type.BasicType.{BasicType}
use Rattle.vocabulary.specs.BasicTypes.{size_of}
use Rattle.vocabulary.specs.MessageLimits.{frame_limit_of}
use Rattle.vocabulary.specs.declared.message_limit.MessageLimit.{MessageLimit}
use Rattle.rendezvous.specs.Pieces.{due_of, is_next_piece}

-- the job's limit, by which it is cut; whose message it is and under which number, the key of the request that waits for it, the type of its elements, how
-- many bytes were announced, and those that have come
pub record Collecting : Type 0 where
  pub limit : MessageLimit
  pub source : ℕ
  pub transfer : ℕ
  pub request : ℕ
  pub basic : BasicType
  pub total : ℕ
  pub bytes : List ℕ

-- a message of so many elements that a rank announced, of which nothing has come
abbrev pub beginning : MessageLimit → (source transfer request : ℕ) → BasicType → (count : ℕ) → Collecting
beginning limit source transfer request basic count = record {
  limit = limit;
  source = source;
  transfer = transfer;
  request = request;
  basic = basic;
  total = count * size_of basic;
  bytes = [];
}

-- no more bytes came than were announced, these are whole elements, and there is room for all of them
pub record IsBounded (basic : BasicType) (total : ℕ) (bytes : List ℕ) (capacity : ℕ) : Type 0 where
  pub within : length bytes ≤ total
  pub room : total ≤ capacity
  pub elements : total % size_of basic ≡ 0

-- whether it is the transfer from a rank that has this number
abbrev pub is_from : (source transfer : ℕ) → Collecting → Bool
is_from source transfer c = (c.source == source) && (c.transfer == transfer)

-- how many bytes the next piece has
abbrev pub due_bytes : Collecting → ℕ
due_bytes c = due_of (frame_limit_of c.limit) c.total (length c.bytes)

-- whether these bytes from this place on are its next piece
abbrev pub is_next_data : Collecting → (offset : ℕ) → List ℕ → Bool
is_next_data c offset piece = is_next_piece (frame_limit_of c.limit) c.total (length c.bytes) offset piece

-- with one more piece
abbrev pub with_piece : Collecting → List ℕ → Collecting
with_piece c piece = record c { bytes = c.bytes ++ piece }

-- whether all bytes have come
abbrev pub is_whole : Collecting → Bool
is_whole c = length c.bytes == c.total
