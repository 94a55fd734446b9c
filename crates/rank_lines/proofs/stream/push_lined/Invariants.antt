use Rattle.std.proofs.Common.{◌≡◌, ◌++◌, drop}
use Rattle.rank_lines.specs.Streams.{lined}
use Rattle.rank_lines.proofs.stream.push_lined.Given as goal

abbrev pub invariant-loop-byte : goal.invariant-loop-byte
invariant-loop-byte l = l.text.items ++ lined l.mark l.fresh (drop l.byte-index l.bytes) ≡ l.fn.text.items ++
    lined l.mark l.begins l.bytes
