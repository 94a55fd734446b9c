-- How many are used up so far, and that there is room for the outcomes of the others.
use Rattle.std.proofs.Common.{◌≡◌, drop}
use Rattle.std.specs.Vec.{vec_len, vec_capacity}
use Rattle.requests.proofs.Apart.{Goes}
use Rattle.requests.proofs.completion.end_each.Given as goal

abbrev pub invariant-loop-request : goal.invariant-loop-request
invariant-loop-request l = record {
  goes : Goes l.initial.table l.table l.outcomes.items l.requests (drop l.request-index l.requests);
  count : vec_len l.outcomes ≡ l.request-index;
  room : vec_capacity l.outcomes ≡ vec_capacity l.initial.outcomes;
}
