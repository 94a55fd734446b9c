use Rattle.std.proofs.Common.{rules, w64, ◌++◌, ◌≤◌, List, length, take, sym, subst, arith}
use Rattle.std.proofs.Math.IntN.{ℤ}
use Rattle.std.proofs.lemmas.Int.{to_z-of_z}
use mir.Val.{SFits}
use Rattle.type_maps.specs.Maps.{moved_numbers}
use Rattle.type_runs.specs.Runs.{Are}
use Rattle.type_runs.proofs.MakingLaws.{moved_once}
use Rattle.type_runs.proofs.adding.put_copies.Goals as goal

pub returns-then-may_move-clause-put : goal.returns-then-may_move-clause-put
returns-then-may_move-clause-put c = λ bodies bytes more a b nz named size.
    let g : SFits w64 c.args.at.now.at = search rules in
    let within : c.append_moved.result ≤ length c.append_moved.new.into = grind (
      arith,
      c.append_moved.ensures.most,
      c.append_moved.ensures.length,
      c.if-used-into.false,
      c.if-into-used.false,
    ) in (
      subst (λ (xs : List ℤ). Are bodies (take c.append_moved.result c.append_moved.new.into) (bytes ++ xs))
          (sym (moved_once c.args.at.now more c.if-at-eq1.true))
          (subst (λ (z : ℤ). Are bodies (take c.append_moved.result c.append_moved.new.into)
          (bytes ++ moved_numbers z more))
          (to_z-of_z w64 c.args.at.now.at g) (c.append_moved.ensures.runs bodies bytes more a b)),
      within,
    )

pub returns-else-at-eq1-clause-put : goal.returns-else-at-eq1-clause-put
returns-else-at-eq1-clause-put c = λ bodies bytes more a b nz named size.
    let within : c.append.result ≤ length c.append.new.into = grind (
      arith,
      c.append.ensures.most,
      c.append.ensures.length,
      c.if-used-into.false,
    ) in (
      c.append.ensures.runs bodies bytes _ a (c.copies_of.ensures bodies more b nz named size),
      within,
    )
