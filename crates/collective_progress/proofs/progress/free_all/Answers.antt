-- One more slot is free.
use Rattle.std.proofs.Common.{◌≡◌, ◌<◌, ◌≤◌, ◌∙◌, Option, None, ℕ, arith, length}
use Rattle.std.proofs.lemmas.Grind.{common_steps}
use Rattle.std.proofs.lemmas.List.{length-set}
use Rattle.collective_progress.proofs.NoteLaws.{freed_all, freed_more}
use Rattle.collective_progress.proofs.progress.free_all.Goals as goal

pub loop-slot-preserved : goal.loop-slot-preserved
loop-slot-preserved c =
    let xs = c.loop-slot.places.items in
    let k = c.loop-slot.slot in
    let lt : k < length xs = grind (arith, common_steps) in
    (freed_more xs k lt c.loop-slot.invariant.0, length-set xs k None ∙ c.loop-slot.invariant.1)

pub returns : goal.returns
returns c =
    let xs = c.loop-slot.places.items in
    let k = c.loop-slot.slot in
    let le : length c.args.places.now.items ≤ k = grind (arith, common_steps) in
    freed_all xs k (length c.args.places.now.items) c.loop-slot.invariant.1 le c.loop-slot.invariant.0
