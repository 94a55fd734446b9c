use Rattle.std.proofs.Common.{◌≡◌, drop}
use Rattle.line_diagnostics.specs.Lacks.{lacks_requests}
use Rattle.line_diagnostics.proofs.lacks.lacks_requests.Given as goal

abbrev pub invariant-loop-requested : goal.invariant-loop-requested
invariant-loop-requested g l =
    lacks_requests (g.H.Holder.held l.names) (drop l.requested-index l.several) ≡
    lacks_requests (g.H.Holder.held l.names) l.several
