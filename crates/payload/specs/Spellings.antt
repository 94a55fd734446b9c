-- What a message of a collective says, apart from where it lies in memory, and its one spelling (our own format).
use Rattle.std.specs.Prelude.{◌≡◌, ℕ, ◌*◌, ◌%◌, ◌<◌, ◌≤◌, ◌^◌, List, [], ◌∷◌, ◌++◌, length, Option, Some, None}
use Rattle.std.specs.Prelude.{FitsSigned}
use Rattle.std.specs.Int.{cast_unsigned, w32}
use Rattle.byteorder.specs.Endian.{big_bytes}
use Rattle.vocabulary.specs.BasicTypes.{code_of, size_of}
use Rattle.payload.specs.declared.record.Elements.{Elements}
use Rattle.payload.specs.declared.record.Record.{Record}
use Rattle.payload.specs.declared.record.Record.TheVariants as records
use Rattle.payload.specs.declared.kind.CollectiveKind.{CollectiveKind}
use Rattle.payload.specs.declared.kind.CollectiveKind.TheVariants as kinds
use Rattle.payload.specs.declared.kind.Phase.{Phase}
use Rattle.payload.specs.declared.kind.Phase.TheVariants as phases
use Rattle.payload.specs.declared.payload.Direction.{Direction}
use Rattle.payload.specs.declared.payload.Direction.TheVariants as directions
use Rattle.payload.specs.declared.payload.Choice.{Choice}
use Rattle.payload.specs.declared.payload.PayloadContent.{PayloadContent}
use Rattle.payload.specs.declared.payload.PayloadContent.TheVariants as parts
use Rattle.payload.specs.declared.payload.Payload.{Payload}
use Rattle.payload.specs.Codes.{kind_code, phase_code}
use Rattle.vocabulary.specs.Operations.{operation_code}

-- what a message carries beside the record: of elements and ranks the bytes
pub data PartText : Type 0 where
  Differing : PartText
  NothingMore : Direction → PartText
  ElementsText : Direction → List ℕ → PartText
  ContextText : ℕ → PartText
  ChoiceText : Choice → PartText
  NullText : PartText
  GroupText : ℕ → List ℕ → PartText

-- what a message says
pub record PayloadText : Type 0 where
  pub record_is : Record
  pub part : PartText

-- ---- what a value of the program says

-- what a part says
abbrev pub part_text : PayloadContent → PartText
part_text parts.RecordsDiffer = Differing
part_text (parts.Nothing way) = NothingMore way
part_text (parts.Elements way bytes) = ElementsText way bytes.now
part_text (parts.Context context) = ContextText context
part_text (parts.Choice choice) = ChoiceText choice
part_text parts.NullCommunicator = NullText
part_text (parts.NewGroup group) = GroupText group.context group.ranks.now

-- what a payload says
abbrev pub payload_text : Payload → PayloadText
payload_text p = record { record_is = p.entered; part = part_text p.part }

-- ---- the fields of a record, each a number; 0 where the kind has none

-- the kind of a record
abbrev pub kind_of : Record → CollectiveKind
kind_of records.Barrier = kinds.Barrier
kind_of (records.Bcast r) = kinds.Bcast
kind_of (records.Gather r) = kinds.Gather
kind_of (records.Scatter r) = kinds.Scatter
kind_of (records.Reduce o r) = kinds.Reduce
kind_of (records.Allreduce o e) = kinds.Allreduce
kind_of records.Dup = kinds.Dup
kind_of records.Split = kinds.Split

-- the elements that a record speaks of
abbrev pub elements_of : Record → Option Elements
elements_of records.Barrier = None
elements_of (records.Bcast r) = Some r.elements
elements_of (records.Gather r) = Some r.elements
elements_of (records.Scatter r) = Some r.elements
elements_of (records.Reduce o r) = Some r.elements
elements_of (records.Allreduce o e) = Some e
elements_of records.Dup = None
elements_of records.Split = None

-- the code of the operation
abbrev pub operation_field : Record → ℕ
operation_field records.Barrier = 0
operation_field (records.Bcast r) = 0
operation_field (records.Gather r) = 0
operation_field (records.Scatter r) = 0
operation_field (records.Reduce o r) = operation_code o
operation_field (records.Allreduce o e) = operation_code o
operation_field records.Dup = 0
operation_field records.Split = 0

-- the root's rank in the communicator
abbrev pub root_field : Record → ℕ
root_field records.Barrier = 0
root_field (records.Bcast r) = r.root
root_field (records.Gather r) = r.root
root_field (records.Scatter r) = r.root
root_field (records.Reduce o r) = r.root
root_field (records.Allreduce o e) = 0
root_field records.Dup = 0
root_field records.Split = 0

-- the code of the basic type
abbrev pub type_code : Option Elements → ℕ
type_code None = 0
type_code (Some e) = code_of e.basic

-- how many elements there are
abbrev pub count_field : Option Elements → ℕ
count_field None = 0
count_field (Some e) = e.count

-- the phase of a message
abbrev pub way_phase : Direction → Phase
way_phase directions.TowardsRoot = phases.TowardsRoot
way_phase directions.FromRoot = phases.FromRoot

-- the phase of a part
abbrev pub phase_of : PartText → Phase
phase_of Differing = phases.RecordsDiffer
phase_of (NothingMore way) = way_phase way
phase_of (ElementsText way bytes) = way_phase way
phase_of (ContextText context) = phases.FromRoot
phase_of (ChoiceText choice) = phases.TowardsRoot
phase_of NullText = phases.FromRoot
phase_of (GroupText context ranks) = phases.FromRoot

-- ---- the rules of the format beside the widths of its fields

-- as many bytes as the elements have
abbrev pub AreElements : Option Elements → List ℕ → Type 0
AreElements None bytes = ⊥
AreElements (Some e) bytes = length bytes ≡ e.count * size_of e.basic

-- a barrier says nothing more either way, a copy says nothing more towards member 0
abbrev pub SaysNothing : Record → Direction → Type 0
SaysNothing records.Barrier way = Unit {0}
SaysNothing records.Dup way = way ≡ directions.TowardsRoot
SaysNothing (records.Bcast r) way = ⊥
SaysNothing (records.Gather r) way = ⊥
SaysNothing (records.Scatter r) way = ⊥
SaysNothing (records.Reduce o r) way = ⊥
SaysNothing (records.Allreduce o e) way = ⊥
SaysNothing records.Split way = ⊥

-- the ranks of a new group: at least one, two bytes each
pub record AreRanks (ranks : List ℕ) : Type 0 where
  pub some : 2 ≤ length ranks
  pub whole : length ranks % 2 ≡ 0

-- a part that a message with this record carries
abbrev pub PartFits : Record → PartText → Type 0
PartFits r Differing = Unit {0}
PartFits r (NothingMore way) = SaysNothing r way
PartFits r (ElementsText way bytes) = AreElements (elements_of r) bytes
PartFits r (ContextText context) = r ≡ records.Dup
PartFits r (ChoiceText choice) = r ≡ records.Split
PartFits r NullText = r ≡ records.Split
PartFits r (GroupText context ranks) = (r ≡ records.Split) × AreRanks ranks

-- ---- the widths of the fields, which every value of the program keeps by its types

-- a colour has four bytes
abbrev pub ColourIsWithin : Option ℕ → Type 0
ColourIsWithin None = Unit {0}
ColourIsWithin (Some colour) = colour < 2 ^ 32

-- a context has eight bytes, a colour and a key four each
abbrev pub PartIsWithin : PartText → Type 0
PartIsWithin Differing = Unit {0}
PartIsWithin (NothingMore way) = Unit {0}
PartIsWithin (ElementsText way bytes) = Unit {0}
PartIsWithin (ContextText context) = context < 2 ^ 64
PartIsWithin (ChoiceText choice) = ColourIsWithin choice.colour × FitsSigned w32 choice.key
PartIsWithin NullText = Unit {0}
PartIsWithin (GroupText context ranks) = context < 2 ^ 64

-- a root and a count have four bytes each
pub record RecordIsWithin (r : Record) : Type 0 where
  pub root : root_field r < 2 ^ 32
  pub count : count_field (elements_of r) < 2 ^ 32

-- ---- what may be spelled: the widths and the rules together
pub record PayloadFits (p : PayloadText) : Type 0 where
  pub record_width : RecordIsWithin p.record_is
  pub width : PartIsWithin p.part
  pub part : PartFits p.record_is p.part

-- ---- the spelling; `big_bytes n x` is the number x in n bytes, the highest first

-- a choice: whether there is a colour, the colour or 0, and the key in two's complement
abbrev pub colour_spelling : Option ℕ → List ℕ
colour_spelling None = 0 ∷ big_bytes 4 0
colour_spelling (Some colour) = 1 ∷ big_bytes 4 colour

-- what comes after the record
abbrev pub part_spelling : PartText → List ℕ
part_spelling Differing = []
part_spelling (NothingMore way) = []
part_spelling (ElementsText way bytes) = bytes
part_spelling (ContextText context) = big_bytes 8 context
part_spelling (ChoiceText choice) = colour_spelling choice.colour ++ big_bytes 4 (cast_unsigned w32 choice.key)
part_spelling NullText = []
part_spelling (GroupText context ranks) = big_bytes 8 context ++ ranks

-- the 16 bytes of a record in a message of this phase: kind, operation, basic type, phase, root, count, and four bytes
-- 0
unfoldable pub record_spelling : Record → Phase → List ℕ
record_spelling r phase =
    kind_code (kind_of r) ∷ operation_field r ∷ type_code (elements_of r) ∷ phase_code phase
    ∷ (big_bytes 4 (root_field r) ++ (big_bytes 4 (count_field (elements_of r)) ++ big_bytes 4 0))

-- a message: its record, and then its part
unfoldable pub spelling : PayloadText → List ℕ
spelling p = record_spelling p.record_is (phase_of p.part) ++ part_spelling p.part
