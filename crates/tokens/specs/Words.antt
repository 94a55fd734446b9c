-- What a word is.
use Rattle.std.specs.Prelude.{ℕ, Bool, false, not, nat_le, nat_lt, ◌&&◌, ◌||◌, ◌==◌, length, slice_index, codes, Option}
use Rattle.std.specs.Prelude.{Some, None, if◌then◌else◌}
use Rattle.std.specs.List.{list_all}
use Rattle.std.specs.Str.{bytes_eq}
use Rattle.vocabulary.specs.BasicTypes.{is_float}
use Rattle.vocabulary.specs.declared.basic_type.BasicType.{BasicType}
use Rattle.vocabulary.specs.declared.basic_type.BasicType.TheVariants.{Int8, Int16, Int32, Int64, Uint8, Uint16, Uint32}
use Rattle.vocabulary.specs.declared.basic_type.BasicType.TheVariants.{Uint64, Byte, Float32, Float64}
use Rattle.tokens.specs.Grammar.{Word}

-- a lower-case letter
abbrev pub is_letter : ℕ → Bool
is_letter byte = nat_le 97 byte && nat_le byte 122

-- a lower-case letter or a digit
abbrev pub is_name_byte : ℕ → Bool
is_name_byte byte = is_letter byte || (nat_le 48 byte && nat_le byte 57)

-- the basic type that the word names
unfoldable pub basic_type_of : Word → Option BasicType
basic_type_of word =
    if bytes_eq word (codes "int8") then Some Int8
    else (if bytes_eq word (codes "int16") then Some Int16
    else (if bytes_eq word (codes "int32") then Some Int32
    else (if bytes_eq word (codes "int64") then Some Int64
    else (if bytes_eq word (codes "uint8") then Some Uint8
    else (if bytes_eq word (codes "uint16") then Some Uint16
    else (if bytes_eq word (codes "uint32") then Some Uint32
    else (if bytes_eq word (codes "uint64") then Some Uint64
    else (if bytes_eq word (codes "byte") then Some Byte
    else (if bytes_eq word (codes "float32") then Some Float32
    else (if bytes_eq word (codes "float64") then Some Float64
    else None))))))))))

-- whether the word of a type is no name; those of floats are names, too
abbrev pub is_reserved_type : Option BasicType → Bool
is_reserved_type None = false
is_reserved_type (Some basic) = not (is_float basic)

-- a word that stands for itself
unfoldable pub is_reserved : Word → Bool
is_reserved word =
    bytes_eq word (codes "world") || bytes_eq word (codes "self") || bytes_eq word (codes "null")
    || is_reserved_type (basic_type_of word)

-- a name
unfoldable pub is_name : Word → Bool
is_name word =
    if length word == 0 || nat_lt 16 (length word) then false
    else is_letter (slice_index word 0) && list_all is_name_byte word && not (is_reserved word)
