-- The law, by induction on the calls.
use Rattle.context_agreement.proofs.ContextLaws.{none_twice, none_of_two, none_of_the_first, draws_are_asked}
use Rattle.context_agreement.proofs.laws.contexts_are_given_once.Goals as goal

pub returns-clause-none_twice : goal.returns-clause-none_twice
returns-clause-none_twice c = none_twice

pub returns-clause-none_of_two : goal.returns-clause-none_of_two
returns-clause-none_of_two c = none_of_two

pub returns-clause-none_of_the_first : goal.returns-clause-none_of_the_first
returns-clause-none_of_the_first c = none_of_the_first

pub returns-clause-draws_are_asked : goal.returns-clause-draws_are_asked
returns-clause-draws_are_asked c = draws_are_asked
