-- FOR SPEED ALONE: each goal here is proved without this file, too; with it a wrong body is refused soon.
use Rattle.std.proofs.Common.{rules}
use Rattle.delayed_acknowledgements.proofs.delayed.sent_before.Goals as goal

pub branch-former-requires : goal.branch-former-requires
branch-former-requires c κs = search rules

pub from_residual-requires : goal.from_residual-requires
from_residual-requires c κs = search rules

pub returns-in_err-former-clause-lost : goal.returns-in_err-former-clause-lost
returns-in_err-former-clause-lost c = search rules

pub returns-in_err-former-clause-covered : goal.returns-in_err-former-clause-covered
returns-in_err-former-clause-covered c = search rules

pub returns-in_err-former-clause-other : goal.returns-in_err-former-clause-other
returns-in_err-former-clause-other c = search rules

pub covers-requires : goal.covers-requires
covers-requires c = search rules

pub returns-then-covers-clause-lost : goal.returns-then-covers-clause-lost
returns-then-covers-clause-lost c = search rules

pub returns-then-covers-clause-covered : goal.returns-then-covers-clause-covered
returns-then-covers-clause-covered c = search rules

pub returns-then-covers-clause-other : goal.returns-then-covers-clause-other
returns-then-covers-clause-other c = search rules

pub returns-clause-lost : goal.returns-clause-lost
returns-clause-lost c = search rules

pub returns-clause-covered : goal.returns-clause-covered
returns-clause-covered c = search rules

pub returns-clause-other : goal.returns-clause-other
returns-clause-other c = search rules
