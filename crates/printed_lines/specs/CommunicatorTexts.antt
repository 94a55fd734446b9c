-- The texts of what is told of communicators.
use Rattle.std.specs.Prelude.{ℕ, List, [], ◌∷◌, ◌++◌, codes, Option, Some, None}
use Rattle.std.specs.List.{flat_map}
use Rattle.std.specs.Fmt.{decimal}
use Rattle.printed_lines.specs.declared.communicators.ComparisonText.{ComparisonText}
use Rattle.printed_lines.specs.declared.communicators.ComparisonText.TheVariants as comparisons

-- a place among the rank's communicators, or none
abbrev pub communicator_text : Option ℕ → List ℕ
communicator_text None = codes "comm null"
communicator_text (Some place) = codes "comm " ++ decimal place

-- `rank R of N`
abbrev pub position_text : (rank size : ℕ) → List ℕ
position_text rank size = codes "rank " ++ decimal rank ++ codes " of " ++ decimal size

-- a space and the rank, for each
abbrev pub further_members_text : List ℕ → List ℕ
further_members_text ranks = flat_map (λ rank. codes " " ++ decimal rank) ranks

-- the ranks, a space between two
abbrev pub members_text : List ℕ → List ℕ
members_text [] = []
members_text (rank ∷ ranks) = decimal rank ++ further_members_text ranks

-- how two communicators compare
abbrev pub comparison_text : ComparisonText → List ℕ
comparison_text comparisons.Ident = codes "ident"
comparison_text comparisons.Congruent = codes "congruent"
comparison_text comparisons.Similar = codes "similar"
comparison_text comparisons.Unequal = codes "unequal"
