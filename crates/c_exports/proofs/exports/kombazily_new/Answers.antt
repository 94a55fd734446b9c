use Rattle.std.proofs.Common.{◌≡◌, ap, ◌∙◌, Option, Some}
use Rattle.c_rank.specs.State.{RankState}
use Rattle.c_exports.proofs.exports.kombazily_new.Goals as goal

-- the option of a rank
abbrev some_rank : RankState → Option RankState
some_rank r = Some r

pub returns-in-Ok-new-clause-made : goal.returns-in-Ok-new-clause-made
returns-in-Ok-new-clause-made c = λ none made. (
  c.in-Ok.made,
  (c.put.ensures ∙ ap some_rank c.in-Ok-new.ensures.ok, c.in-Ok.ensures.opening),
)
