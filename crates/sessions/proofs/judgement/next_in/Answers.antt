use Rattle.std.proofs.Common.{rules}
use Rattle.sessions.proofs.judgement.next_in.Goals as goal

pub returns-then-anew : goal.returns-then-anew
returns-then-anew c = search rules
