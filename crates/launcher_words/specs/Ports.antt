-- Ranges of ports as texts.
use Rattle.std.specs.Prelude.{ℕ, ◌≤◌, List, ◌∷◌, ◌++◌}
use Rattle.std.specs.Fmt.{decimal}
use Rattle.launcher_words.specs.declared.ports.PortRange.{PortRange}

-- ports from 1 on, in order
pub record IsRange (range : PortRange) : Type 0 where
  pub least : 1 ≤ range.first
  pub order : range.first ≤ range.last
  pub most : range.last ≤ 65535

-- `first-last`
abbrev pub range_text : PortRange → List ℕ
range_text range = decimal range.first ++ 45 ∷ decimal range.last
