-- A rank that was seen comes twice, and one that was not is seen then.
use Rattle.std.proofs.Common.{sym, ◌∙◌, refl}
use Rattle.std.proofs.lemmas.Bool.{false≢true}
use Rattle.groups.proofs.RankSetLemmas.{marks_more}
use Rattle.groups.proofs.Repeats.{apart_more, repeated, nothing_seen}
use Rattle.groups.proofs.distinct.has_no_repeats.Goals as goal

pub loop-rank-init : goal.loop-rank-init
loop-rank-init c = nothing_seen _ c.new-seen.ensures

pub returns-then-contains : goal.returns-then-contains
returns-then-contains c =
    let seen = c.loop-rank.invariant in (
      λ h. absurd (false≢true h),
      λ apart. absurd (repeated c.args.ranks.now c.loop-rank.rank-index c.loop-rank-test.true
          (sym (seen.marked _) ∙ sym c.contains.ensures ∙ c.if-contains.true) apart),
    )

pub loop-rank-preserved : goal.loop-rank-preserved
loop-rank-preserved c =
    let seen = c.loop-rank.invariant in
    record {
      marked = marks_more c.loop-rank.seen.words c.insert.new.self.words c.args.ranks.now c.loop-rank.rank-index _
          c.loop-rank-test.true refl seen.marked c.insert.ensures;
      apart = apart_more c.args.ranks.now c.loop-rank.rank-index c.loop-rank-test.true seen.apart
          (sym (seen.marked _) ∙ sym c.contains.ensures ∙ c.if-contains.false);
    }
