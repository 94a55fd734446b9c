-- What the words that are left make of the host is what all words make of it.
use Rattle.std.proofs.Common.{◌≡◌, drop, map}
use Rattle.host_files.specs.Lines.{host_in, shown, with_options}
use Rattle.host_files.proofs.line.host_in.Given as goal

abbrev pub invariant-loop-word : goal.invariant-loop-word
invariant-loop-word l =
    with_options (shown l.host) (map (λ word. word.now) (drop l.word-index l.options))
    ≡ host_in l.first (map (λ word. word.now) l.options)
