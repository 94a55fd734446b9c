-- The other members among the ranks so far.
use Rattle.std.proofs.Common.{◌≡◌, take, filter}
use Rattle.std.specs.Prelude.{not}
use Rattle.collective_messages.specs.Notes.{member_at}
use Rattle.vocabulary.specs.Endpoints.{is_same}
use Rattle.collective_steps.proofs.contents.others.Given as goal

abbrev pub invariant-loop-rank : goal.invariant-loop-rank
invariant-loop-rank l =
    l.others.items ≡ filter (λ r. not (is_same (member_at l.inside.incarnation r) l.own)) (take l.rank-index l.ranks)
