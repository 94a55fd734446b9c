-- A message that came, as what is kept of it.
use Rattle.std.specs.Prelude.{◌≡◌, ℕ, Bool, false, Option, Some, None, Result, Ok, Err, List, nat_le, option_map}
use Rattle.std.specs.List.{list_any}
use Rattle.collective_messages.specs.declared.note.Note.{Note}
use Rattle.collective_messages.specs.declared.note.NoteContent.{NoteContent}
use Rattle.collective_messages.specs.declared.note.NoteContent.TheVariants as said
use Rattle.collective_messages.specs.declared.refusal.CollectiveRefusal.{CollectiveRefusal}
use Rattle.collective_messages.specs.declared.refusal.CollectiveRefusal.TheVariants as refusals
use Rattle.datatypes.specs.Contents.{values_of}
use Rattle.groups.specs.Groups.{HasNoRepeats}
use Rattle.payload.specs.Spellings.{PartFits, PartText, PayloadText, Differing, NothingMore, ElementsText, ContextText}
use Rattle.payload.specs.Spellings.{ChoiceText, NullText, GroupText, elements_of}
use Rattle.payload.specs.declared.record.Record.{Record}
use Rattle.vocabulary.specs.BasicTypes.{size_of}
use Rattle.vocabulary.specs.declared.endpoint.Endpoint.{Endpoint}

-- the ranks in the bytes of a group, two bytes each
abbrev pub ranks_in : List ℕ → List ℕ
ranks_in bytes = values_of 2 bytes

-- what a message says, where it has a record that fits
abbrev pub said_of : Record → PartText → Option NoteContent
said_of r Differing = Some said.RecordsDiffer
said_of r (NothingMore way) = Some (said.Nothing way)
said_of r (ElementsText way bytes) =
    option_map (λ e. said.Elements way (record { basic = e.basic; values = values_of (size_of e.basic) bytes }))
    (elements_of r)
said_of r (ContextText c) = Some (said.Context c)
said_of r (ChoiceText choice) = Some (said.Choice choice)
said_of r NullText = Some said.NullCommunicator
said_of r (GroupText c bytes) = Some (said.NewGroup c (ranks_in bytes))

-- what is kept of a message
abbrev pub note_of : Endpoint → (context number : ℕ) → PayloadText → Option Note
note_of sender c k p =
    option_map (λ s. record { sender = sender; context = c; number = k; entered = p.record_is; said = s })
    (said_of p.record_is p.part)

-- whether a message tells of a group that names no rank twice
abbrev pub NamesOnce : PartText → Type 0
NamesOnce (GroupText c bytes) = HasNoRepeats (ranks_in bytes)
NamesOnce _ = Unit {0}

-- whether what a message carries names a rank that a job of so many ranks lacks: one of the group that it tells of
abbrev pub names_beyond : (size : ℕ) → PartText → Bool
names_beyond size (GroupText c bytes) = list_any (λ r. nat_le size r) (ranks_in bytes)
names_beyond size _ = false

-- whether a message brings what has to be copied: elements or a group
abbrev pub BringsACopy : PartText → Type 0
BringsACopy (ElementsText way bytes) = Unit {0}
BringsACopy (GroupText c bytes) = Unit {0}
BringsACopy _ = ⊥

-- what the part of a message that fits says, where its group names no rank twice; want of memory comes only where it is
-- copied
abbrev pub SaidGives : Record → PartText → Result (Option NoteContent) CollectiveRefusal → Type 0
SaidGives r p (Ok (Some s)) = NamesOnce p × (said_of r p ≡ Some s)
SaidGives r p (Ok None) = NamesOnce p → ⊥
SaidGives r p (Err refusals.OutOfMemory) = BringsACopy p
SaidGives r p (Err _) = ⊥

-- What is made of a message: a note; nothing where its group names a rank twice, so that it stands for no communicator;
-- a refusal for want of memory for what has to be copied, or where its part doesn't fit its record
abbrev pub ArrivalGives : Endpoint → (context number : ℕ) → PayloadText → Result (Option Note) CollectiveRefusal →
    Type 0
ArrivalGives sender c k p (Ok (Some n)) = PartFits p.record_is p.part × NamesOnce p.part ×
    (note_of sender c k p ≡ Some n)
ArrivalGives sender c k p (Ok None) = PartFits p.record_is p.part × (NamesOnce p.part → ⊥)
ArrivalGives sender c k p (Err refusals.OutOfMemory) = PartFits p.record_is p.part × BringsACopy p.part
ArrivalGives sender c k p (Err refusals.BadFrame) = PartFits p.record_is p.part → ⊥
ArrivalGives sender c k p (Err _) = ⊥
