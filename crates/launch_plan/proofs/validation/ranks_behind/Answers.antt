-- PROOF, and for speed: the goals answered by `search rules` are proved without this file, too.
use Rattle.std.proofs.Common.{rules}
use Rattle.launch_plan.proofs.JudgingLaws.{behind_alone, behind_fault, behind_more, behind_words}
use Rattle.launch_plan.proofs.validation.ranks_behind.Goals as goal

pub ranks_of_words-requires : goal.ranks_of_words-requires
ranks_of_words-requires c = search (rules, behind_words, behind_fault, behind_alone, behind_more)

pub ranks_of_file-requires : goal.ranks_of_file-requires
ranks_of_file-requires c = search (rules, behind_words, behind_fault, behind_alone, behind_more)

pub branch-ranks-requires : goal.branch-ranks-requires
branch-ranks-requires c κs = search (rules, behind_words, behind_fault, behind_alone, behind_more)

pub from_residual-requires : goal.from_residual-requires
from_residual-requires c κs = search (rules, behind_words, behind_fault, behind_alone, behind_more)

pub returns-in_err-ranks-in-Some : goal.returns-in_err-ranks-in-Some
returns-in_err-ranks-in-Some c = search (rules, behind_words, behind_fault, behind_alone, behind_more)

pub is_empty-requires : goal.is_empty-requires
is_empty-requires c κs = search (rules, behind_words, behind_fault, behind_alone, behind_more)

pub returns-in-None : goal.returns-in-None
returns-in-None c = search (rules, behind_words, behind_fault, behind_alone, behind_more)

pub returns-then-is_empty : goal.returns-then-is_empty
returns-then-is_empty c = search (rules, behind_words, behind_fault, behind_alone, behind_more)

pub returns-else-is_empty : goal.returns-else-is_empty
returns-else-is_empty c = search (rules, behind_words, behind_fault, behind_alone, behind_more)
