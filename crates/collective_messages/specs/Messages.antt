-- What a rank tells the other members of a communicator.
use Rattle.collective_messages.specs.declared.message.MessageContent.{MessageContent}
use Rattle.collective_messages.specs.declared.message.MessageContent.TheVariants as given
use Rattle.collective_messages.specs.declared.message.CollectiveMessage.{CollectiveMessage}
use Rattle.datatypes.specs.Contents.{AreWithin, bytes_of}
use Rattle.vocabulary.specs.BasicTypes.{size_of}
use Rattle.payload.specs.Spellings.{PartFits, PartText, PayloadText, Differing, NothingMore, ElementsText, ContextText}
use Rattle.payload.specs.Spellings.{ChoiceText, NullText, GroupText}

-- what a part says
abbrev pub part_said : MessageContent → PartText
part_said given.RecordsDiffer = Differing
part_said (given.Nothing way) = NothingMore way
part_said (given.Elements way elements) = ElementsText way (bytes_of (size_of elements.basic) elements.values)
part_said (given.Context c) = ContextText c
part_said (given.Choice choice) = ChoiceText choice
part_said given.NullCommunicator = NullText
part_said (given.NewGroup c ranks) = GroupText c (bytes_of (size_of ranks.basic) ranks.values)

-- what a message says
abbrev pub says : CollectiveMessage → PayloadText
says m = record { record_is = m.entered; part = part_said m.given }

-- each element that a message carries, and each rank, is within its type: a buffer keeps it so
abbrev pub IsWithinType : MessageContent → Type 0
IsWithinType (given.Elements way elements) = AreWithin (size_of elements.basic) elements.values
IsWithinType (given.NewGroup c ranks) = AreWithin (size_of ranks.basic) ranks.values
IsWithinType _ = Unit {0}

-- a message can be written: its part fits its record
abbrev pub IsFitting : CollectiveMessage → Type 0
IsFitting m = PartFits m.entered (part_said m.given)
