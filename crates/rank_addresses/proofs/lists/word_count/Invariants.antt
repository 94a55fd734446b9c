-- The commas so far and the parts that are left are all parts.
use Rattle.std.proofs.Common.{◌≡◌, ◌+◌, ◌≤◌, drop, length}
use Rattle.std.specs.List.{slice_split}
use Rattle.rank_addresses.specs.HostLists.{is_comma}
use Rattle.rank_addresses.proofs.lists.word_count.Given as goal

abbrev pub invariant-loop-byte : goal.invariant-loop-byte
invariant-loop-byte l =
    (l.commas + length (slice_split is_comma (drop l.byte-index l.text)) ≡ length (slice_split is_comma l.text))
    × (l.commas ≤ l.byte-index)
