-- As many and all there: the same members.
use Rattle.std.proofs.Common.{◌≡◌, ◌∙◌, sym, ap, length, arith, rules, List, ℕ, subst}
use Rattle.std.proofs.lemmas.Bool.{both_ways}
use Rattle.groups.specs.Comparisons.{HaveSameMembers}
use Rattle.groups.proofs.ComparisonLaws.{HaveSameMembers-included, list_all-same, length-same, pointwise-same}
use Rattle.groups.proofs.group.Group.compare.Goals as goal
use Rattle.groups.proofs.group.Group.compare.Goals.{else-first-second-via-then-first-second+else-holds_all}
use Rattle.groups.proofs.group.Group.compare.Goals.{else-first-second-via-else-first-second}

pub returns-then-holds_all : goal.returns-then-holds_all
returns-then-holds_all c = (
  λ same. both_ways _ (sym c.eq.ensures ∙ c.if-eq.false)
      (pointwise-same _ _ (c.ranks-first.ensures.ranks ∙ same ∙ sym c.ranks-second.ensures.ranks)),
  rw (← c.ranks-first.ensures.ranks, ← c.ranks-second.ensures.ranks)
      (HaveSameMembers-included c.ranks-first.result.now c.ranks-second.result.now c.ranks-first.ensures.apart
      c.ranks-second.ensures.apart
      c.if-first-second.true (sym c.holds_all.ensures ∙ c.if-holds_all.true)),
)

pub returns-else-first-second : goal.returns-else-first-second
returns-else-first-second c =
    let first = c.ranks-first in
    let second = c.ranks-second in
    rw (← first.ensures.ranks, ← second.ensures.ranks)
    (λ same. elim c.else-first-second.branch [
      | else-first-second-via-then-first-second+else-holds_all w ↦ both_ways _ (sym w.holds_all.ensures ∙
          w.if-holds_all.false) (list_all-same first.result.now second.result.now same)
      | else-first-second-via-else-first-second w ↦ w.if-first-second.false
          (length-same first.result.now second.result.now first.ensures.apart second.ensures.apart same)
    ])
