-- The words so far write the addresses so far.
use Rattle.std.proofs.Common.{take, map}
use Rattle.rank_addresses.specs.HostLists.{IsHostList}
use Rattle.rank_addresses.proofs.lists.addresses_in.Given as goal

abbrev pub invariant-loop-word : goal.invariant-loop-word
invariant-loop-word l = IsHostList (map (λ word. word.now) (take l.word-index l.words)) l.hosts.items
