-- What a rank enters a collective with (MPI 3.1, 5.3 to 5.9 and 6.4.2).
use Rattle.std.specs.Prelude.{ℕ, length, Bool, true, false, Option, Some, None, pos}
use Rattle.collective_messages.specs.Ways.{is_same_record}
use Rattle.collective_messages.specs.declared.entry.Entry.{Entry}
use Rattle.collective_messages.specs.declared.entry.Entry.TheVariants.{Barrier, Bcast, Gather, Scatter, Reduce}
use Rattle.collective_messages.specs.declared.entry.Entry.TheVariants.{Allreduce, Dup, Split}
use Rattle.datatypes.specs.Contents.{Contents}
use Rattle.payload.specs.declared.payload.Choice.{Choice}
use Rattle.payload.specs.declared.record.Elements.{Elements}
use Rattle.payload.specs.declared.record.Record.{Record}
use Rattle.payload.specs.declared.record.Record.TheVariants as records
use Rattle.payload.specs.declared.record.Rooted.{Rooted}

-- of which type elements are, and how many
abbrev pub elements_in : Contents → Elements
elements_in b = record { basic = b.basic; count = length b.values }

-- the same, and the member that is their root
abbrev pub rooted_at : (root : ℕ) → Contents → Rooted
rooted_at root b = record { elements = elements_in b; root = root }

-- the record that all members have to agree on
abbrev pub record_of : Entry → Record
record_of Barrier = records.Barrier
record_of (Bcast root b) = records.Bcast (rooted_at root b)
record_of (Gather root b) = records.Gather (rooted_at root b)
record_of (Scatter r b) = records.Scatter r
record_of (Reduce o root b) = records.Reduce o (rooted_at root b)
record_of (Allreduce o b) = records.Allreduce o (elements_in b)
record_of Dup = records.Dup
record_of (Split choice) = records.Split

-- whether a record agrees with what was entered
abbrev pub agrees : Entry → Record → Bool
agrees e r = is_same_record (record_of e) r

-- whether a collective makes communicators
abbrev pub is_making : Entry → Bool
is_making Barrier = false
is_making (Bcast root b) = false
is_making (Gather root b) = false
is_making (Scatter r b) = false
is_making (Reduce o root b) = false
is_making (Allreduce o b) = false
is_making Dup = true
is_making (Split choice) = true

-- no colour, and key 0
abbrev pub no_choice : Choice
no_choice = record { colour = None; key = pos 0 }

-- what the rank asks for in a split
abbrev pub own_choice : Entry → Choice
own_choice Barrier = no_choice
own_choice (Bcast root b) = no_choice
own_choice (Gather root b) = no_choice
own_choice (Scatter r b) = no_choice
own_choice (Reduce o root b) = no_choice
own_choice (Allreduce o b) = no_choice
own_choice Dup = no_choice
own_choice (Split choice) = choice

-- the elements that the rank handed in, where it handed in any
abbrev pub own_elements : Entry → Option Contents
own_elements Barrier = None
own_elements (Bcast root b) = Some b
own_elements (Gather root b) = Some b
own_elements (Scatter r b) = b
own_elements (Reduce o root b) = Some b
own_elements (Allreduce o b) = Some b
own_elements Dup = None
own_elements (Split choice) = None
