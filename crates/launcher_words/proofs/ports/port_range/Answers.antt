use Rattle.std.proofs.Common.{◌≡◌, ℕ, Option, Some, None, ◌∙◌, sym, arith}
use Rattle.launcher_words.proofs.RangeLaws.{ends_of_range, no_range, not_in_order, same_range}
use Rattle.launcher_words.proofs.ports.port_range.Goals as goal

pub returns-in_default-clause-read : goal.returns-in_default-clause-read
returns-in_default-clause-read c = λ range may is.
    absurd (no_range c.args.text.now range c.in_default.ensures may is)

pub returns-in-Some-Some-clause-read : goal.returns-in-Some-Some-clause-read
returns-in-Some-Some-clause-read c = λ range may is.
    let p = ends_of_range c.args.text.now c.in-Some.first.now c.in-Some.last.now range c.in-Some.ensures may is in
    same_range c.in-Some-Some.first c.in-Some-Some.last range
    (c.in-Some-Some.ensures.read range.first may.least p.most p.front)
    (c.in-Some-Some.ensures'.read range.last p.least may.most p.behind)

pub returns-in_default-2-clause-read : goal.returns-in_default-2-clause-read
returns-in_default-2-clause-read c = λ range may is.
    let p = ends_of_range c.args.text.now c.in-Some.first.now c.in-Some.last.now range c.in-Some.ensures may is in
    absurd (not_in_order c.in-Some-Some.first c.in-Some-Some.last range
    (c.in-Some-Some.ensures.read range.first may.least p.most p.front)
    (c.in-Some-Some.ensures'.read range.last p.least may.most p.behind) (omega (arith, c.if-first-last.false)) may)

pub returns-in_default-2-2-clause-read : goal.returns-in_default-2-2-clause-read
returns-in_default-2-2-clause-read c = λ range may is.
    let p = ends_of_range c.args.text.now c.in-Some.first.now c.in-Some.last.now range c.in-Some.ensures may is in
    let none : ◌≡◌ {A = Option ℕ} None (Some range.last) =
    c.in_default-2.ensures'.read range.last p.least may.most p.behind in
    absurd cc

pub returns-in_default-2-3-clause-read : goal.returns-in_default-2-3-clause-read
returns-in_default-2-3-clause-read c = λ range may is.
    let p = ends_of_range c.args.text.now c.in-Some.first.now c.in-Some.last.now range c.in-Some.ensures may is in
    let none : ◌≡◌ {A = Option ℕ} None (Some range.first) =
    sym c.in_default-2.is-0 ∙ c.port_in.ensures.read range.first may.least p.most p.front in
    absurd cc
