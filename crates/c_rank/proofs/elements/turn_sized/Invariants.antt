use Rattle.std.proofs.Common.{◌≡◌, ◌*◌, ◌++◌, length, drop}
use Rattle.c_rank.specs.Elements.{turned_to}
use Rattle.c_rank.proofs.elements.turn_sized.Given as goal

abbrev pub invariant-loop-place : goal.invariant-loop-place
invariant-loop-place l =
    (l.into ≡ turned_to l.size l.from l.place ++ drop (l.place * l.size) l.fn.into)
    × (length l.into ≡ length l.fn.into)
