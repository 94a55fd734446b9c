use Rattle.std.proofs.Common.{◌≡◌, drop}
use Rattle.interpreter.specs.StatementCalls.{requests_named}
use Rattle.interpreter.proofs.SeveralLaws.{found_before}
use Rattle.interpreter.proofs.names.Names.requests_named.Given as goal

abbrev pub invariant-loop-requested : goal.invariant-loop-requested
invariant-loop-requested l = found_before l.requests.items (requests_named l.self (drop l.requested-index l.several)) ≡
    requests_named l.self l.several
