-- The word that was found and those that are left are all words.
use Rattle.std.proofs.Common.{◌≡◌}
use Rattle.std.specs.Prelude.{filter}
use Rattle.std.specs.Option.{option_copied}
use Rattle.launcher_words.specs.Cuts.{is_byte, parts_left}
use Rattle.launcher_words.specs.Lengths.{is_nonempty, only_of, only_word}
use Rattle.launcher_words.proofs.CutLaws.{left_len}
use Rattle.launcher_words.proofs.lengths.only_word.Given as goal

abbrev pub invariant-loop-left : goal.invariant-loop-left
invariant-loop-left l =
    only_of (option_copied l.found) (filter is_nonempty (parts_left (is_byte 32) (option_copied l.left)))
    ≡ only_word l.text

abbrev pub decreases-loop-left : goal.decreases-loop-left
decreases-loop-left l = left_len (option_copied l.left)
