-- FOR SPEED ALONE: each goal here is proved without this file, too; with it a wrong body is refused soon.
use Rattle.std.proofs.Common.{rules}
use Rattle.tokens.proofs.name.Name.is.Goals as goal

pub as_bytes-requires : goal.as_bytes-requires
as_bytes-requires c = search rules

pub as_bytes-requires-2 : goal.as_bytes-requires-2
as_bytes-requires-2 c = search rules

pub is-requires : goal.is-requires
is-requires c = search rules

pub returns : goal.returns
returns c = search rules
