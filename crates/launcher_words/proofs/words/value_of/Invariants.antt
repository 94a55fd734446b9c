-- The value is the first one in the words that are left.
use Rattle.std.proofs.Common.{◌≡◌}
use Rattle.std.specs.Option.{option_copied}
use Rattle.launcher_words.specs.Cuts.{is_byte, parts_left}
use Rattle.launcher_words.specs.Words.{first_value, value_of}
use Rattle.launcher_words.proofs.CutLaws.{left_len}
use Rattle.launcher_words.proofs.words.value_of.Given as goal

abbrev pub invariant-loop-left : goal.invariant-loop-left
invariant-loop-left l =
    first_value l.key (parts_left (is_byte l.end) (option_copied l.left)) ≡ value_of l.key l.end l.line

abbrev pub decreases-loop-left : goal.decreases-loop-left
decreases-loop-left l = left_len (option_copied l.left)
