-- What is given is divided out, and the rest is factors.
use Rattle.std.proofs.Common.{refl, subst, ℕ, ◌/◌}
use Rattle.cartesian_grids.specs.Balance.{Balanced, wanted}
use Rattle.cartesian_grids.proofs.BalanceProofs.{balanced_product, refused_above, refused_factors, refused_rest}
use Rattle.cartesian_grids.proofs.balance.balance_sizes.Goals as goal

pub returns-in_default-clause-refused : goal.returns-in_default-clause-refused
returns-in_default-clause-refused c = λ _.
    (refl, λ fs h e. let d = c.in_default.ensures in refused_above c.args.sizes.now fs c.args.nodes c.requires.0 d h e)

pub returns-then-nodes-given-eq0-clause-balanced : goal.returns-then-nodes-given-eq0-clause-balanced
returns-then-nodes-given-eq0-clause-balanced c = λ h.
    let f = c.search.ensures.found h in
    let g = c.in-Some.ensures in
    let P : ℕ → Type 0 = λ x. Balanced (c.args.nodes / x) c.args.nodes (wanted c.args.sizes.now) f.0 in
    (f.0, (f.1.0, (subst P g.0 f.1.1, balanced_product c.args.sizes.now f.0 c.search.new.sizes c.args.nodes c.in-Some.given g.0 c.if-nodes-given-eq0.true f.1.0 f.1.1)))

pub returns-then-nodes-given-eq0-clause-refused : goal.returns-then-nodes-given-eq0-clause-refused
returns-then-nodes-given-eq0-clause-refused c = λ h.
    let f = c.search.ensures.none h in
    let g = c.in-Some.ensures in
    (f.0, λ fs l e. refused_factors c.args.sizes.now fs c.args.nodes c.in-Some.given c.requires.0 g.0 g.1 f.1 l e)

pub returns-else-nodes-given-eq0-clause-refused : goal.returns-else-nodes-given-eq0-clause-refused
returns-else-nodes-given-eq0-clause-refused c = λ _.
    (refl, λ fs l e. refused_rest c.args.sizes.now fs c.args.nodes c.in-Some.given c.in-Some.ensures.0 c.if-nodes-given-eq0.false l e)
