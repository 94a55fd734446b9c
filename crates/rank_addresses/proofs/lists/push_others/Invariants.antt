-- The text so far, and what the addresses add that are left, are the whole text.
use Rattle.std.proofs.Common.{◌≡◌, ◌++◌, drop}
use Rattle.rank_addresses.specs.HostLists.{behind_first}
use Rattle.rank_addresses.proofs.lists.push_others.Given as goal

abbrev pub invariant-loop-host : goal.invariant-loop-host
invariant-loop-host l =
    l.text.items ++ behind_first (drop l.host-index l.others) ≡ l.fn.text.items ++ behind_first l.others
