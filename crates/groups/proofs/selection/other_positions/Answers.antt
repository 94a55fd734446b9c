-- One more position, which is listed or isn't.
use Rattle.std.proofs.Common.{◌≡◌, ◌∙◌, sym, ap, ◌++◌, ◌∷◌, [], get_or, arith}
use Rattle.groups.proofs.Repeats.{length-le_from_apart}
use Rattle.groups.proofs.Selections.{pushed_elsewhere, passed_over}
use Rattle.groups.proofs.selection.other_positions.Goals as goal
use Rattle.groups.proofs.selection.other_positions.Goals.{then-not-contains+in_ok-push, else-not-contains}

pub overflow_cast-position : goal.overflow_cast-position
overflow_cast-position c = omega (arith, length-le_from_apart c.args.ranks.now c.requires c.type_inv.ranks)

pub loop-position-preserved : goal.loop-position-preserved
loop-position-preserved c =
    let ranks = c.args.ranks.now in
    let positions = c.args.positions.now in
    let i = c.loop-position.position in
    let asked = sym (c.of-listed.ensures i) ∙ sym c.contains.ensures in
    elim c.if-not-contains.branch [
      | then-not-contains+in_ok-push w ↦
          rw w.selected-is
          (w.in_ok-push.ensures.ok ∙ ap (λ xs. xs ++ get_or ranks i 0 ∷ []) c.loop-position.invariant
          ∙ pushed_elsewhere ranks positions i (asked ∙ w.if-not-contains.true))
      | else-not-contains w ↦
          rw w.selected-is (c.loop-position.invariant ∙ passed_over ranks positions i (asked ∙ w.if-not-contains.false))
    ]
