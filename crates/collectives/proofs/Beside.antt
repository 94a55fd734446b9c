-- What is kept beside the notes of the present collective stays right.
use Rattle.std.proofs.Common.{ℕ, Bool, true, false, List, [], ◌∷◌, Option, Some, None, if◌then◌else◌}
use Rattle.collective_messages.specs.declared.entry.Inside.{Inside}
use Rattle.collective_messages.specs.declared.note.Note.{Note}
use Rattle.collective_progress.specs.Progress.{IsKeptOf, Seen, unseen}
use Rattle.collective_progress.proofs.NoteLaws.{kept_behind, told_kept, unseen_kept}
use Rattle.collectives.specs.Calls.{is_ended, kept_with, present_met}
use Rattle.collectives.specs.State.{told_in}
use Rattle.context_agreement.specs.Communicators.{ContextsState}
use Rattle.vocabulary.specs.declared.endpoint.Endpoint.{Endpoint}

-- where a note is kept behind them, or none
pub note_beside : (own : Endpoint) (present : Option Inside) (notes : List Note) (n : Option Note) (p : Seen)
    → IsKeptOf own present notes p → IsKeptOf own present (kept_with notes n) p
note_beside own None notes n p is = tt
note_beside own (Some i) notes None p is = is
note_beside own (Some i) notes (Some n) p is = kept_behind own i notes (n ∷ []) p is

-- where the rank has told
pub told_beside : (own : Endpoint) (present : Option Inside) (notes : List Note) (p : Seen) →
    IsKeptOf own present notes p
    → IsKeptOf own (told_in present) notes p
told_beside own None notes p is = tt
told_beside own (Some i) notes p is = told_kept own i notes p is

-- where a lesson may have ended the collective
pub met_beside : (own : Endpoint) (present : Option Inside) (h : ContextsState) (lesson : Option Endpoint)
    (notes : List Note) (p : Seen) → IsKeptOf own present notes p → IsKeptOf own (present_met present h lesson) notes p
met_beside own present h None notes p is = is
met_beside own present h (Some source) notes p is = by (is_ended source.rank source.incarnation h present)
  where
    by : (t : Bool) → IsKeptOf own (if t then None else present) notes p
    by true = tt
    by false = is

-- where the rank has just entered
pub entered_beside : (own : Endpoint) (i : Inside) (notes : List Note) (slots : ℕ)
    → IsKeptOf own (Some i) notes (unseen slots)
entered_beside own i notes slots = unseen_kept own i notes slots
