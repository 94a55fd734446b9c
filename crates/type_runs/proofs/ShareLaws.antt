-- What a process has of a dimension, as whole blocks and a part of one.
use Rattle.std.proofs.Common.{◌≡◌, ℕ, zero, suc, ◌+◌, ◌*◌, ◌/◌, ◌%◌, ◌<◌, ◌≤◌, sym, ◌∙◌, ap, subst}
use Rattle.std.proofs.Common.{arith}
use Rattle.std.proofs.lemmas.Nat.{div-add-mod', mod_below}
use Rattle.type_maps.specs.declared.blocks.Distribution.{Distribution}
use Rattle.type_maps.proofs.OwnIndices.{own_indices_are_blocks}
use Rattle.type_runs.specs.Shares.{AreOwn, parts_of}

few : (over round : ℕ) → over < round → over ≤ round
few over round h = omega (arith, h)

swapped : (a b : ℕ) → a * b ≡ b * a
swapped a b = omega arith

positive : (a b : ℕ) → 0 < a → 0 < b → 0 < a * b
positive zero b h k = absurd (omega (arith, h))
positive (suc a) zero h k = absurd (omega (arith, k))
positive (suc a) (suc b) h k = omega arith

above : (p q : ℕ) → p < q → 0 < q
above p q h = omega (arith, h)

pub own_parts : (d : Distribution) (left round : ℕ) → 0 < d.block → d.process < d.processes → round ≡ d.block *
    d.processes → d.size ≡ d.process * d.block + left → AreOwn d (parts_of left d.block round)
own_parts d left round some there is size =
    subst (λ (r : ℕ). AreOwn d (parts_of left d.block r)) (sym (is ∙ swapped d.block d.processes))
    (own_indices_are_blocks.blocks d (left / (d.processes * d.block)) (left % (d.processes * d.block)) some there
    (few (left % (d.processes * d.block)) (d.processes * d.block) (mod_below left (d.processes * d.block)
    (positive d.processes d.block (above d.process d.processes there) some)))
    (size ∙ ap (λ (x : ℕ). d.process * d.block + x) (sym (div-add-mod' left (d.processes * d.block)))))
