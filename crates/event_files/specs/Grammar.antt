-- The grammar of files of events: which words ask for what.
use Rattle.std.specs.Prelude.{◌≡◌, ◌⊎◌, ℕ, ◌+◌, ◌*◌, ◌<◌, ◌≤◌, List, [], ◌∷◌, codes}
use Rattle.statements.specs.Grammar.{Spells}
use Rattle.tokens.specs.Grammar.{Word, IsNumeral, IsCapped}
use Rattle.event_files.specs.declared.file.EventStatement.{EventStatement}
use Rattle.event_files.specs.declared.file.EventStatement.TheVariants as statements

-- a lower-case hexadecimal digit, and its value
abbrev pub IsDigit : ℕ → ℕ → Type 0
IsDigit byte value = ((byte ≡ 48 + value) × (value < 10)) ⊎ ((byte ≡ 87 + value) × (10 ≤ value) × (value < 16))

-- two digits for each byte, the higher one first
abbrev pub AreBytes : Word → List ℕ → Type 0
AreBytes [] [] = Unit {0}
AreBytes [] (x ∷ xs) = ⊥
AreBytes (a ∷ []) xs = ⊥
AreBytes (a ∷ b ∷ word) [] = ⊥
AreBytes (a ∷ b ∷ word) (x ∷ xs) = (high low : ℕ) × IsDigit a high × IsDigit b low × (x ≡ 16 * high + low) ×
    AreBytes word xs

-- what the words of a line ask for
abbrev pub SpellsStatement : List Word → EventStatement → Type 0
SpellsStatement words (statements.Rank rank action) = (number : Word) × (rest : List Word) × (words ≡ number ∷ rest) ×
    IsCapped 65535 number rank × Spells rest action
SpellsStatement words (statements.Deliver datagram) = (number : Word) × (words ≡ codes "deliver" ∷ number ∷ []) ×
    IsCapped 18446744073709551615 number datagram
SpellsStatement words (statements.Tick rank now) =
    (number time : Word) × (words ≡ codes "tick" ∷ number ∷ time ∷ []) × IsCapped 65535 number rank ×
    IsNumeral time now × (now ≤ 18446744073709551615)
SpellsStatement words (statements.Stray rank bytes) =
    (number hex : Word) × (words ≡ codes "stray" ∷ number ∷ hex ∷ []) × IsCapped 65535 number rank × AreBytes hex bytes
SpellsStatement words (statements.Restart rank) = (number : Word) × (words ≡ codes "restart" ∷ number ∷ []) ×
    IsCapped 65535 number rank

-- `world N`, N from 1 to 1,024
abbrev pub IsWorld : List Word → ℕ → Type 0
IsWorld words size = (number : Word) × (words ≡ codes "world" ∷ number ∷ []) × IsNumeral number size × (1 ≤ size) ×
    (size ≤ 1024)
