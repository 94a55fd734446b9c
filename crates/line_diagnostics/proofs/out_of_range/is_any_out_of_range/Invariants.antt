use Rattle.std.proofs.Common.{◌≡◌, drop}
use Rattle.std.specs.List.{list_any}
use Rattle.line_diagnostics.specs.Faults.{is_out_of_range}
use Rattle.line_diagnostics.proofs.out_of_range.is_any_out_of_range.Given as goal

abbrev pub invariant-loop-word : goal.invariant-loop-word
invariant-loop-word l = list_any (is_out_of_range l.basic) (drop l.word-index l.words) ≡
    list_any (is_out_of_range l.basic) l.words
