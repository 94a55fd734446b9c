use Rattle.std.proofs.Common.{◌*◌, ◌-◌, length, take, drop, arith}
use Rattle.byteorder.specs.Numbers.{little_from-lt}
use Rattle.datatypes.specs.ContentLaws.{IsBytes-drop, IsBytes-take}
use Rattle.c_rank.proofs.elements.turn_one.Goals as goal

pub write_uint-requires-clause-fits : goal.write_uint-requires-clause-fits
write_uint-requires-clause-fits c =
    let a = c.args in
    let at = a.place * a.size in
    let rest = drop at a.from.now in
    rw c.read_uint-number.ensures (little_from-lt 0 a.size (take (length a.from.now - at) rest)
    (IsBytes-take (length a.from.now - at) rest (IsBytes-drop at a.from.now (λ i. omega (arith, c.type_inv.from i)))))
