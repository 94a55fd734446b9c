use Rattle.rendezvous.proofs.NumberLaws.{counted, alike}
use Rattle.rendezvous.proofs.FoundLaws.{found}
use Rattle.rendezvous.proofs.laws.numbers_are_counted_alike.Goals as goal

pub returns-clause-counted : goal.returns-clause-counted
returns-clause-counted c = counted

pub returns-clause-alike : goal.returns-clause-alike
returns-clause-alike c = alike

pub returns-clause-found : goal.returns-clause-found
returns-clause-found c = found
