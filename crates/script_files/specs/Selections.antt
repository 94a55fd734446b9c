-- Which lines of a script are for one rank.
use Rattle.std.specs.Prelude.{◌≡◌, ℕ, Bool, true, List, [], ◌∷◌, ◌++◌, Option, Some, None, if◌then◌else◌}
use Rattle.script_files.specs.declared.script.Item.{Item}
use Rattle.script_files.specs.declared.script.Item.TheVariants as items
use Rattle.script_files.specs.declared.script.ScriptLine.{ScriptLine}
use Rattle.script_files.specs.declared.script.RankLine.{RankLine}
use Rattle.script_files.specs.Audiences.{includes}

-- whether the lines behind this one are for the rank, where this one is or isn't
abbrev pub is_meant_behind : (rank incarnation : ℕ) → Bool → Item → Bool
is_meant_behind rank incarnation here (items.On audience) = includes rank incarnation audience
is_meant_behind rank incarnation here (items.Does statement) = here

-- a line, where lines are for the rank
abbrev pub kept : Bool → RankLine → List RankLine
kept here line = if here then line ∷ [] else []

-- what a line of this number asks of the rank
abbrev pub asked : Bool → ℕ → Item → List RankLine
asked here number (items.On audience) = []
asked here number (items.Does statement) = kept here (record { number = number; statement = statement })

-- the lines for a rank at an incarnation, where those before the first `on` are for it or aren't
unfoldable pub said_for : (rank incarnation : ℕ) → Bool → List ScriptLine → List RankLine
said_for rank incarnation here [] = []
said_for rank incarnation here (line ∷ lines) = asked here line.number line.item ++
    said_for rank incarnation (is_meant_behind rank incarnation here line.item) lines

-- the lines of a script for a rank at an incarnation: those before the first `on` are for all
abbrev pub lines_for : (rank incarnation : ℕ) → List ScriptLine → List RankLine
lines_for rank incarnation lines = said_for rank incarnation true lines

-- the first of the lines that were left is answered, and those behind it are left
abbrev pub FirstOf : List RankLine → Option RankLine → List RankLine → Type 0
FirstOf old None new = (old ≡ []) × (new ≡ [])
FirstOf old (Some line) new = old ≡ line ∷ new
