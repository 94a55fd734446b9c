-- The hosts of an allocation of LSF or Grid Engine.
use Rattle.std.specs.Prelude.{ℕ, ◌==◌, List, [], ◌∷◌, ◌++◌, map, codes, if◌then◌else◌}
use Rattle.host_files.specs.Lines.{Word, words_of}

-- a line's end in place of each space
abbrev pub turned : ℕ → ℕ
turned byte = if byte == 32 then 10 else byte

abbrev pub spaced_lines : List ℕ → List ℕ
spaced_lines hosts = map turned hosts

-- a host, with as many slots as its second word says; what stands behind is left out
abbrev pub grid_line : List Word → List ℕ
grid_line [] = 10 ∷ []
grid_line (name ∷ []) = name ++ 10 ∷ []
grid_line (name ∷ slots ∷ words) = name ++ codes " slots=" ++ slots ++ 10 ∷ []

abbrev pub grid_lines : List (List ℕ) → List ℕ
grid_lines [] = []
grid_lines (line ∷ lines) = grid_line (words_of line) ++ grid_lines lines
