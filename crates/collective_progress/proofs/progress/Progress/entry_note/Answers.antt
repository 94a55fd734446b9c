-- It stands at its place.
use Rattle.std.proofs.Common.{◌≡◌, ◌∙◌, Some, arith, position, sym}
use Rattle.std.proofs.lemmas.Grind.{common_steps}
use Rattle.collective_messages.specs.Notes.{member_at, tells_entry}
use Rattle.collective_progress.proofs.Places.{found_there}
use Rattle.collective_progress.proofs.progress.Progress.entry_note.Goals as goal

pub returns-in-Some : goal.returns-in-Some
returns-in-Some c =
    let i = c.args.inside.now in
    let at : position (tells_entry i.context i.number (member_at i.incarnation c.args.rank)) c.args.notes.now ≡ Some c.in-Some.place = grind (arith, common_steps) in
    c.note_there.ensures ∙
    sym (found_there (tells_entry i.context i.number (member_at i.incarnation c.args.rank)) c.args.notes.now
    c.in-Some.place at)
