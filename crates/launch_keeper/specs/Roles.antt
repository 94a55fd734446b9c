-- The words that start the keeper of a rank.
use Rattle.std.specs.Prelude.{ℕ, List, [], ◌∷◌, codes, Option, Some, None, if◌then◌else◌}
use Rattle.std.specs.Str.{bytes_eq}
use Rattle.std.specs.Fmt.{decimal}
use Rattle.launch_keeper.specs.declared.role.KeeperRole.{KeeperRole}
use Rattle.numerals.specs.Numbers.{number_between}
use Rattle.launch_keeper.specs.Words.{Word}

-- the word `-keeper`, the rank, and the words of the launch
abbrev pub keeper_words : ℕ → List Word → List Word
keeper_words rank words = codes "-keeper" ∷ decimal rank ∷ words

-- which rank is kept, and the words of the launch
pub record KeptText : Type 0 where
  pub rank : ℕ
  pub words : List Word

-- what a keeper's words say, apart from where they lie in memory
abbrev pub kept_text : Option KeeperRole → Option KeptText
kept_text None = None
kept_text (Some kept) = Some (record { rank = kept.rank; words = kept.words.now })

-- the rank of a keeper's second word
abbrev pub kept_by : Option ℕ → List Word → Option KeptText
kept_by None words = None
kept_by (Some rank) words = Some (record { rank = rank; words = words })

-- what the words say, where they are a keeper's
unfoldable pub kept_of : List Word → Option KeptText
kept_of [] = None
kept_of (first ∷ []) = None
kept_of (first ∷ number ∷ rest) = if bytes_eq first (codes "-keeper") then
    kept_by (number_between number 0 1023) rest else None
