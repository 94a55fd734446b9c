-- By what was looked at, or by the rest.
use Rattle.std.proofs.Common.{◌≡◌, ◌∙◌, ◌||◌, Bool, ap, arith, drop, sym}
use Rattle.std.proofs.lemmas.Grind.{common_steps}
use Rattle.collective_messages.specs.Notes.{found_in}
use Rattle.collective_progress.proofs.NoteLaws.{found_is}
use Rattle.collective_progress.proofs.progress.Progress.has_found_difference.Goals as goal

pub returns-then-difference_found : goal.returns-then-difference_found
returns-then-difference_found c =
    let i = c.args.inside.now in
    let p = c.args.self.now in
    let rest = found_in i.context i.number i.entry (drop p.count c.args.notes.now) in
    c.if-difference_found.true
    ∙ sym (found_is i c.args.notes.now p c.requires ∙
    ap (λ (b : Bool). b || rest) (sym c.difference_found.ensures ∙ c.if-difference_found.true))

pub returns-else-difference_found : goal.returns-else-difference_found
returns-else-difference_found c =
    let i = c.args.inside.now in
    let p = c.args.self.now in
    let rest = found_in i.context i.number i.entry (drop p.count c.args.notes.now) in
    let is : c.found_in.result ≡ rest = grind (arith, common_steps) in
    is ∙ sym (found_is i c.args.notes.now p c.requires ∙
    ap (λ (b : Bool). b || rest) (sym c.difference_found.ensures ∙ c.if-difference_found.false))
