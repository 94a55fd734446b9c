-- What is nearest so far is known.
use Rattle.std.proofs.Common.{IfSome, IsTrue}
use Rattle.run_words.specs.Symbols.{is_known}
use Rattle.run_words.proofs.nearest.nearest_option.Given as goal

abbrev pub invariant-loop-name : goal.invariant-loop-name
invariant-loop-name l = IfSome l.nearest (λ name. IsTrue (is_known name.now))
