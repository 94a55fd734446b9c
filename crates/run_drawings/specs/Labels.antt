-- The texts that stand in a drawing, byte by byte.
use Rattle.std.specs.Prelude.{ℕ, ◌==◌, ◌&&◌, nat_le, List, [], ◌∷◌, ◌++◌, length, take, codes, Bool, true, false}
use Rattle.std.specs.Prelude.{if◌then◌else◌}
use Rattle.std.specs.List.{flat_map}
use Rattle.std.specs.Fmt.{decimal}
use Rattle.printed_lines.specs.Answers.{load_text}
use Rattle.printed_lines.specs.declared.emissions.LoadText.{LoadText}

-- a byte as it stands in an SVG: `&`, `<` and `>` by their names, and `?` for what isn't printable ASCII
abbrev pub escaped_byte : ℕ → List ℕ
escaped_byte byte =
    if byte == 38 then codes "&amp;" else
    if byte == 60 then codes "&lt;" else
    if byte == 62 then codes "&gt;" else
    if nat_le 32 byte && nat_le byte 126 then byte ∷ [] else codes "?"

abbrev pub escaped : List ℕ → List ℕ
escaped bytes = flat_map escaped_byte bytes

-- the first bytes, and ` ..` where there are more
abbrev pub shortened : (bytes : List ℕ) (most : ℕ) → List ℕ
shortened bytes most = if nat_le (length bytes) most then escaped bytes else escaped (take most bytes) ++ codes " .."

-- ` again` of a frame that went out before
abbrev pub again_text : Bool → List ℕ
again_text true = codes " again"
again_text false = []

-- the words of an arrow, or where there are none `D: KIND SEQ`
abbrev pub arrow_front : (number : ℕ) (load : LoadText) (words : List ℕ) → List ℕ
arrow_front number load [] = decimal number ++ codes ": " ++ load_text load
arrow_front number load (byte ∷ bytes) = escaped (byte ∷ bytes)

abbrev pub arrow_label_text : (number : ℕ) (load : LoadText) (words : List ℕ) (is_resent : Bool) → List ℕ
arrow_label_text number load words is_resent = arrow_front number load words ++ again_text is_resent

-- the words of an arrow, or where there are none `D`
abbrev pub arrival_front : (number : ℕ) (words : List ℕ) → List ℕ
arrival_front number [] = decimal number
arrival_front number (byte ∷ bytes) = escaped (byte ∷ bytes)

-- with what it was refused stands behind that
abbrev pub refusal_label_text : (number : ℕ) (words answer : List ℕ) → List ℕ
refusal_label_text number words [] = arrival_front number words
refusal_label_text number words (byte ∷ bytes) = arrival_front number words ++ codes ": " ++ escaped (byte ∷ bytes)
