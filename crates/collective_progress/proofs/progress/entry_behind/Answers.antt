-- The place among the rest, behind those before the start.
use Rattle.std.proofs.Common.{◌≡◌, ◌+◌, ◌∙◌, Some, None, arith, ap, drop, option_map, position, sym}
use Rattle.std.proofs.lemmas.Grind.{common_steps}
use Rattle.collective_messages.specs.Notes.{tells_entry}
use Rattle.collective_progress.proofs.Places.{position_behind}
use Rattle.collective_progress.proofs.progress.entry_behind.Goals as goal

pub returns-in-Some : goal.returns-in-Some
returns-in-Some c =
    let rest : position (tells_entry c.args.context c.args.number c.args.member) (drop c.args.start c.args.notes.now) ≡ Some c.in-Some.place = grind (arith, common_steps) in
    sym (position_behind (tells_entry c.args.context c.args.number c.args.member) c.args.notes.now c.args.start
    c.requires.start c.requires.before ∙ ap (option_map (λ x. c.args.start + x)) rest)

pub returns-in-None : goal.returns-in-None
returns-in-None c =
    let rest : position (tells_entry c.args.context c.args.number c.args.member) (drop c.args.start c.args.notes.now) ≡ None = grind (arith, common_steps) in
    sym (position_behind (tells_entry c.args.context c.args.number c.args.member) c.args.notes.now c.args.start
    c.requires.start c.requires.before ∙ ap (option_map (λ x. c.args.start + x)) rest)
