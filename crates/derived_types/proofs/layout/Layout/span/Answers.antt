use Rattle.std.proofs.Common.{arith}
use Rattle.derived_types.proofs.LayoutLaws.{lowest_of-le-highest_of}
use Rattle.derived_types.proofs.layout.Layout.span.Goals as goal

pub returns-clause-order : goal.returns-clause-order
returns-clause-order c =
    let k = c.self.invariant in
    let l = k.lowest_is in
    let h = k.highest_is in
    let le = lowest_of-le-highest_of c.self.inside.offsets.items in
    omega arith

pub returns-clause-near : goal.returns-clause-near
returns-clause-near c =
    let k = c.self.invariant in
    let h = k.highest_is in
    let w = k.within.highest in
    omega arith
