use Rattle.std.proofs.Common.{◌≡◌, ℕ, Option, Some, None, ◌∙◌, sym}
use Rattle.launcher_words.proofs.PlaceLaws.{no_first_tail, parts_of_first, same_tail}
use Rattle.launcher_words.proofs.place.first_tail_in.Goals as goal

pub returns-in_default-clause-read : goal.returns-in_default-clause-read
returns-in_default-clause-read c = λ port job may is.
    absurd (no_first_tail c.args.text.now port job c.in_default.ensures may is)

pub returns-in-Some-Some-clause-read : goal.returns-in-Some-Some-clause-read
returns-in-Some-Some-clause-read c = λ port job may is.
    let p = parts_of_first c.args.text.now c.in-Some.port.now c.in-Some.job.now port job c.in-Some.ensures may is in
    same_tail c.in-Some-Some.port port (Some c.in-Some-Some.job) job
    (c.in-Some-Some.ensures.read port may.least may.most p.front)
    (c.in-Some-Some.ensures'.read p.number p.fits p.behind ∙ sym p.is)

pub returns-in_default-2-clause-read : goal.returns-in_default-2-clause-read
returns-in_default-2-clause-read c = λ port job may is.
    let p = parts_of_first c.args.text.now c.in-Some.port.now c.in-Some.job.now port job c.in-Some.ensures may is in
    let none : ◌≡◌ {A = Option ℕ} None (Some p.number) = c.in_default-2.ensures'.read p.number p.fits p.behind in
    absurd cc

pub returns-in_default-2-2-clause-read : goal.returns-in_default-2-2-clause-read
returns-in_default-2-2-clause-read c = λ port job may is.
    let p = parts_of_first c.args.text.now c.in-Some.port.now c.in-Some.job.now port job c.in-Some.ensures may is in
    let none : ◌≡◌ {A = Option ℕ} None (Some port) =
    sym c.in_default-2.is-0 ∙ c.port_in.ensures.read port may.least may.most p.front in
    absurd cc
