-- One more note was looked at.
use Rattle.std.proofs.Common.{◌≡◌, ◌<◌, ◌+◌, ◌∙◌, ℕ, ap, arith, get_or, length, subst, sym}
use Rattle.std.proofs.lemmas.Grind.{common_steps}
use Rattle.collective_progress.specs.Progress.{IsKept, Seen}
use Rattle.collective_progress.proofs.NoteLaws.{looked_next}
use Rattle.collective_progress.proofs.counts.look_at_all.Goals as goal

pub loop-count-preserved : goal.loop-count-preserved
loop-count-preserved c =
    let own = c.args.own in
    let i = c.args.inside.now in
    let notes = c.args.notes.now in
    let p = c.loop-count.progress in
    let n = c.index-notes-count.result in
    let count : c.loop-count.count ≡ p.count = c.loop-count.invariant.1 in
    let lt : p.count < length notes = grind (arith, common_steps) in
    let at : n ≡ get_or notes p.count n = grind (arith, common_steps) in (
      subst (λ (q : Seen). IsKept own i notes q) (sym c.look_at.ensures)
          (looked_next own i notes n p lt at c.loop-count.invariant.0),
      ap (λ (k : ℕ). k + 1) count ∙ sym (ap (λ (q : Seen). q.count) c.look_at.ensures),
    )
