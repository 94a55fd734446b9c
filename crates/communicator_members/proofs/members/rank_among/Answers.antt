-- PROOF, and for speed: the goals answered by `search rules` are proved without this file, too.
use Rattle.std.proofs.Common.{rules}
use Rattle.communicator_members.proofs.InGroups.{found_is, none_is, rank_within}
use Rattle.communicator_members.proofs.members.rank_among.Goals as goal

pub place_of-requires : goal.place_of-requires
place_of-requires c = search (rules, found_is, none_is, rank_within)

pub returns-in-Some-clause-exact : goal.returns-in-Some-clause-exact
returns-in-Some-clause-exact c = search (rules, found_is, none_is, rank_within)

pub returns-in-Some-clause-within : goal.returns-in-Some-clause-within
returns-in-Some-clause-within c = search (rules, found_is, none_is, rank_within)

pub returns-in-None-clause-exact : goal.returns-in-None-clause-exact
returns-in-None-clause-exact c = search (rules, found_is, none_is, rank_within)

pub returns-in-None-clause-within : goal.returns-in-None-clause-within
returns-in-None-clause-within c = search (rules, found_is, none_is, rank_within)
