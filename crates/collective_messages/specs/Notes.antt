-- What a message of a collective tells its receiver.
use Rattle.std.specs.Prelude.{ℕ, Bool, true, false, ◌==◌, ◌&&◌, ◌||◌, not, List, Option, Some, None, position}
use Rattle.std.specs.Prelude.{slice_get, filter, if◌then◌else◌}
use Rattle.std.specs.List.{list_any, list_all}
use Rattle.collective_messages.specs.Entries.{agrees, no_choice}
use Rattle.collective_messages.specs.declared.entry.Entry.{Entry}
use Rattle.collective_messages.specs.declared.note.Note.{Note}
use Rattle.collective_messages.specs.declared.note.NoteContent.{NoteContent}
use Rattle.collective_messages.specs.declared.note.NoteContent.TheVariants.{RecordsDiffer, Nothing, Elements, Context}
use Rattle.collective_messages.specs.declared.note.NoteContent.TheVariants.{NullCommunicator, NewGroup}
use Rattle.collective_messages.specs.declared.note.NoteContent.TheVariants as said
use Rattle.payload.specs.declared.payload.Choice.{Choice}
use Rattle.payload.specs.declared.payload.Direction.{Direction}
use Rattle.payload.specs.declared.payload.Direction.TheVariants.{TowardsRoot, FromRoot}
use Rattle.vocabulary.specs.Endpoints.{is_same}
use Rattle.vocabulary.specs.declared.endpoint.Endpoint.{Endpoint}

-- ---- one message

-- whether a message is of a collective
abbrev pub is_of : (context number : ℕ) → Note → Bool
is_of c k n = (n.context == c) && (n.number == k)

-- whether it says that records differ
abbrev pub is_difference : NoteContent → Bool
is_difference RecordsDiffer = true
is_difference _ = false

-- whether a message goes towards the root
abbrev pub is_towards : Direction → Bool
is_towards TowardsRoot = true
is_towards FromRoot = false

-- whether it says that its sender has entered
abbrev pub is_entry : NoteContent → Bool
is_entry RecordsDiffer = false
is_entry (Nothing way) = is_towards way
is_entry (Elements way elements) = is_towards way
is_entry (Context c) = false
is_entry (said.Choice choice) = true
is_entry NullCommunicator = false
is_entry (NewGroup c ranks) = false

-- whether it says with what its receiver leaves
abbrev pub is_result : NoteContent → Bool
is_result RecordsDiffer = false
is_result (Nothing way) = not (is_towards way)
is_result (Elements way elements) = not (is_towards way)
is_result (Context c) = true
is_result (said.Choice choice) = false
is_result NullCommunicator = true
is_result (NewGroup c ranks) = true

-- what its sender asks for in a split
abbrev pub choice_said : NoteContent → Choice
choice_said RecordsDiffer = no_choice
choice_said (Nothing way) = no_choice
choice_said (Elements way elements) = no_choice
choice_said (Context c) = no_choice
choice_said (said.Choice choice) = choice
choice_said NullCommunicator = no_choice
choice_said (NewGroup c ranks) = no_choice

-- whether it speaks of a difference: told outright, or by another record
abbrev pub is_differing : Entry → Note → Bool
is_differing e n = is_difference n.said || not (agrees e n.entered)

-- whether a difference is found in its record, and not only told
abbrev pub is_found : Entry → Note → Bool
is_found e n = not (is_difference n.said) && not (agrees e n.entered)

-- whether it tells that a member has entered a collective
abbrev pub tells_entry : (context number : ℕ) → Endpoint → Note → Bool
tells_entry c k x n = is_of c k n && (is_same n.sender x && is_entry n.said)

-- whether it tells with what its receiver leaves a collective
abbrev pub tells_result : (context number : ℕ) → Note → Bool
tells_result c k n = is_of c k n && is_result n.said

-- ---- the messages that are kept

-- whether what is kept of a collective speaks of a difference
abbrev pub differs_in : (context number : ℕ) → Entry → List Note → Bool
differs_in c k e notes = list_any (λ n. is_of c k n && is_differing e n) notes

-- whether a difference is found in it
abbrev pub found_in : (context number : ℕ) → Entry → List Note → Bool
found_in c k e notes = list_any (λ n. is_of c k n && is_found e n) notes

-- whether it tells that a member has entered
abbrev pub is_told : (context number : ℕ) → List Note → Endpoint → Bool
is_told c k notes x = list_any (tells_entry c k x) notes

-- a member of a communicator whose members have this incarnation
abbrev pub member_at : (incarnation rank : ℕ) → Endpoint
member_at incarnation r = record { rank = r; incarnation = incarnation }

-- whether a member has entered, as the rank at `own` knows it
abbrev pub is_known : (own : Endpoint) → (context number : ℕ) → List Note → Endpoint → Bool
is_known own c k notes x = is_same x own || is_told c k notes x

-- whether all members have entered, as the rank at `own` knows it
abbrev pub have_entered : (own : Endpoint) → (incarnation context number : ℕ) → List Note → (ranks : List ℕ) → Bool
have_entered own incarnation c k notes ranks = list_all (λ r. is_known own c k notes (member_at incarnation r)) ranks

-- where the result stands, where it was told
abbrev pub result_place : (context number : ℕ) → List Note → Option ℕ
result_place c k notes = position (tells_result c k) notes

-- what the message at a place asks for
abbrev pub choice_of_note : Option Note → Choice
choice_of_note None = no_choice
choice_of_note (Some n) = choice_said n.said

-- the first message that tells that a member has entered
abbrev pub note_at : List Note → Option ℕ → Option Note
note_at notes None = None
note_at notes (Some i) = slice_get notes i

-- what a member asks for in a split, as the rank at `own`, which asks for `mine`, knows it
abbrev pub choice_known : (own : Endpoint) → (mine : Choice) → (context number : ℕ) → List Note → Endpoint → Choice
choice_known own mine c k notes x =
    if is_same x own then mine else choice_of_note (note_at notes (position (tells_entry c k x) notes))

-- what is kept once a collective was left
abbrev pub without : (context number : ℕ) → List Note → List Note
without c k notes = filter (λ n. not (is_of c k n)) notes
