-- The words of a launch with the sets of the configuration file in place of its name.
use Rattle.std.specs.Prelude.{ℕ, ◌-◌, List, [], ◌∷◌, ◌++◌, length, take, Option, Some, None}
use Rattle.launch_keeper.specs.Words.{Word}
use Rattle.launch_plan.specs.Options.{nothing_given, opening_of, name_in}
use Rattle.launch_plan.specs.Grammar.{colon}
use Rattle.launch_plan.specs.Configuration.{lines_of}

-- these lines of words, each behind a `:`
abbrev pub sets_behind_colons : List (List Word) → List Word
sets_behind_colons [] = []
sets_behind_colons (line ∷ lines) = (colon ∷ line) ++ sets_behind_colons lines

-- these lines of words, with `:` between two of them
abbrev pub sets_joined : List (List Word) → List Word
sets_joined [] = []
sets_joined (line ∷ lines) = line ++ sets_behind_colons lines

-- where a file is named by the last two words and can be read, its sets stand in their place
abbrev pub spelled_by : Option Word → List Word → Option (List ℕ) → List Word
spelled_by (Some name) words (Some bytes) = take (length words - 2) words ++ sets_joined (lines_of bytes)
spelled_by (Some name) words None = words
spelled_by None words config = words

-- the words, with the sets of the file that they name in place of its name
abbrev pub spelled_out : List Word → Option (List ℕ) → List Word
spelled_out words config = spelled_by (name_in (opening_of nothing_given words)) words config
