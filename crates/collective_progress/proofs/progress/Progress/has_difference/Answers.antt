-- By what was looked at, or by the rest.
use Rattle.std.proofs.Common.{◌≡◌, ◌∙◌, ◌||◌, Bool, ap, arith, drop, sym}
use Rattle.std.proofs.lemmas.Grind.{common_steps}
use Rattle.collective_messages.specs.Notes.{differs_in}
use Rattle.collective_progress.proofs.NoteLaws.{differs_is}
use Rattle.collective_progress.proofs.progress.Progress.has_difference.Goals as goal

pub returns-then-difference_seen : goal.returns-then-difference_seen
returns-then-difference_seen c =
    let i = c.args.inside.now in
    let p = c.args.self.now in
    let rest = differs_in i.context i.number i.entry (drop p.count c.args.notes.now) in
    c.if-difference_seen.true
    ∙ sym (differs_is i c.args.notes.now p c.requires ∙
    ap (λ (b : Bool). b || rest) (sym c.difference_seen.ensures ∙ c.if-difference_seen.true))

pub returns-else-difference_seen : goal.returns-else-difference_seen
returns-else-difference_seen c =
    let i = c.args.inside.now in
    let p = c.args.self.now in
    let rest = differs_in i.context i.number i.entry (drop p.count c.args.notes.now) in
    let is : c.differs_in.result ≡ rest = grind (arith, common_steps) in
    is ∙ sym (differs_is i c.args.notes.now p c.requires ∙
    ap (λ (b : Bool). b || rest) (sym c.difference_seen.ensures ∙ c.if-difference_seen.false))
