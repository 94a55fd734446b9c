-- What a rank does that is in a collective.
use Rattle.std.specs.Prelude.{ℕ, Bool, true, false, Option, Some, None, List, if◌then◌else◌}
pub use Rattle.collective_messages.specs.Members.{is_at, is_first, is_that_member}
use Rattle.collective_messages.specs.Notes.{differs_in, have_entered, result_place}
use Rattle.collective_messages.specs.declared.entry.Inside.{Inside}
use Rattle.collective_messages.specs.declared.note.Note.{Note}
use Rattle.collective_messages.specs.declared.verdict.Verdict.{Verdict}
use Rattle.collective_messages.specs.declared.verdict.Verdict.TheVariants.{Stays, Breaks, Waits, Decides, Hears}
use Rattle.vocabulary.specs.declared.endpoint.Endpoint.{Endpoint}

-- where those have entered for whom it waits: it leaves by that, or by what was told, or waits to be told
abbrev pub verdict_told : (decides : Bool) → (told : Option ℕ) → Verdict
verdict_told true told = Decides
verdict_told false None = Waits
verdict_told false (Some place) = Hears place

-- what a rank does: it leaves with 12 on a difference, and stays until those have entered for whom it waits
abbrev pub verdict : Endpoint → Inside → List Note → Verdict
verdict own i notes =
    if differs_in i.context i.number i.entry notes then Breaks else
    (if have_entered own i.incarnation i.context i.number notes i.role.feeders
    then verdict_told i.role.decides (result_place i.context i.number notes) else Stays)
