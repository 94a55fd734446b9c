-- A payload that was announced, and one that comes in pieces.
use Rattle.std.specs.Prelude.{ℕ, ◌==◌, ◌&&◌, ◌≤◌, Bool, List, ◌++◌, length, take}
use Rattle.vocabulary.specs.MessageLimits.{frame_limit_of}
use Rattle.vocabulary.specs.declared.message_limit.MessageLimit.{MessageLimit}
use Rattle.rendezvous.specs.Pieces.{is_next_piece}

-- a payload that this rank announced: the rank to which it goes, the number of its transfer in the session with that,
-- and its bytes
pub record Announced : Type 0 where
  pub target : ℕ
  pub transfer : ℕ
  pub bytes : List ℕ

-- a payload that comes: the job's limit, by which it is cut; from which rank, and under which number of a transfer; the context and the number of its
-- collective; how many bytes were announced, and those that have come
pub record Coming : Type 0 where
  pub limit : MessageLimit
  pub source : ℕ
  pub transfer : ℕ
  pub context : ℕ
  pub number : ℕ
  pub total : ℕ
  pub bytes : List ℕ

-- no more bytes came than were announced, and there is room for all of them
pub record IsBounded (total : ℕ) (bytes : List ℕ) (capacity : ℕ) : Type 0 where
  pub within : length bytes ≤ total
  pub room : total ≤ capacity

-- a payload all of whose bytes have come: the context and the number of its collective, and the bytes
pub record Whole : Type 0 where
  pub context : ℕ
  pub number : ℕ
  pub bytes : List ℕ

-- a payload that was taken out with its last piece: the place at which it stood, what it was before that piece, and
-- what it says
pub record Taken : Type 0 where
  pub place : ℕ
  pub before : Coming
  pub whole : Whole

-- whether a payload is the transfer to a rank that has this number
abbrev pub is_to : (target transfer : ℕ) → Announced → Bool
is_to target transfer a = (a.target == target) && (a.transfer == transfer)

-- whether it is the transfer from a rank that has this number
abbrev pub is_from : (source transfer : ℕ) → Coming → Bool
is_from source transfer c = (c.source == source) && (c.transfer == transfer)

-- whether these bytes from this place on are its next piece
abbrev pub is_next_data : Coming → (offset : ℕ) → List ℕ → Bool
is_next_data c offset piece = is_next_piece (frame_limit_of c.limit) c.total (length c.bytes) offset piece

-- with one more piece
abbrev pub with_piece : Coming → List ℕ → Coming
with_piece c piece = record c { bytes = c.bytes ++ piece }

-- whether all bytes have come
abbrev pub is_whole : Coming → Bool
is_whole c = length c.bytes == c.total

-- what it is then
abbrev pub whole_of : Coming → Whole
whole_of c = record { context = c.context; number = c.number; bytes = c.bytes }

-- with no more than its first bytes, so many
abbrev pub cut_to : ℕ → Coming → Coming
cut_to count c = record c { bytes = take count c.bytes }
