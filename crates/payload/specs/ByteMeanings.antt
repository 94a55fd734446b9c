-- What bytes say, field by field; there is one fault.
use Rattle.std.specs.Prelude.{◌≡◌, ℕ, ◌*◌, ◌%◌, ◌==◌, List, length, drop, slice_index, Option, Some, None, Result, Ok}
use Rattle.std.specs.Prelude.{Err, Bool, nat_le, if◌then◌else◌}
use Rattle.std.specs.Int.{cast_signed, w32}
use Rattle.byteorder.specs.Endian.{big_number}
use Rattle.vocabulary.specs.BasicTypes.{size_of, type_at}
use Rattle.payload.specs.declared.refusal.PayloadRefusal.{PayloadRefusal}
use Rattle.payload.specs.declared.refusal.PayloadRefusal.TheVariants.{OutOfMemory, BadFrame}
use Rattle.payload.specs.declared.record.Elements.{Elements}
use Rattle.payload.specs.declared.record.Rooted.{Rooted}
use Rattle.payload.specs.declared.record.Record.{Record}
use Rattle.payload.specs.declared.record.Record.TheVariants as records
use Rattle.payload.specs.declared.kind.CollectiveKind.{CollectiveKind}
use Rattle.payload.specs.declared.kind.CollectiveKind.TheVariants as kinds
use Rattle.payload.specs.declared.kind.Phase.{Phase}
use Rattle.payload.specs.declared.kind.Phase.TheVariants as phases
use Rattle.payload.specs.declared.payload.Direction.{Direction}
use Rattle.payload.specs.declared.payload.Direction.TheVariants as directions
use Rattle.payload.specs.declared.reading.Fields.{Fields}
use Rattle.payload.specs.Codes.{kind_at, phase_at}
use Rattle.vocabulary.specs.Operations.{operation_at}
use Rattle.payload.specs.Spellings.{PartText, Differing, NothingMore, ElementsText, ContextText, ChoiceText, NullText}
use Rattle.payload.specs.Spellings.{GroupText, PayloadText}

infixl 10 ◌>>=◌
-- a step after a step that gave something
abbrev pub ◌>>=◌ : {A B : Type 0} → Option A → (A → Option B) → Option B
(Some x) >>= f = f x
None >>= f = None

-- something, where the test holds
abbrev pub given : {A : Type 0} → Bool → Option A → Option A
given test next = if test then next else None

-- what a function returned, seen by view, is what reading gives; the one fault is that there is nothing
abbrev pub Gives : {X Y : Type 0} → (X → Y) → Result X PayloadRefusal → Option Y → Type 0
Gives view (Ok x) read = read ≡ Some (view x)
Gives view (Err BadFrame) read = read ≡ None
Gives view (Err OutOfMemory) read = ⊥

-- the number in n bytes from place i
abbrev pub number_at : ℕ → ℕ → List ℕ → ℕ
number_at i n bytes = big_number n (drop i bytes)

-- ---- the record

-- the fields of a record, which stand in bytes 1, 2 and 4 to 11
abbrev pub fields_of : List ℕ → Fields
fields_of bytes = record {
  operation = slice_index bytes 1;
  basic = slice_index bytes 2;
  root = number_at 4 4 bytes;
  count = number_at 8 4 bytes;
}

-- a record of a kind that has no fields
unfoldable pub without_fields : Record → Fields → Option Record
without_fields r f =
    given (f.operation == 0) (given (f.basic == 0) (given (f.root == 0) (given (f.count == 0) (Some r))))

-- the elements that the fields name
unfoldable pub elements_in : Fields → Option Elements
elements_in f = type_at f.basic >>= λ basic. Some (record { basic = basic; count = f.count })

-- elements and their root, without an operation
unfoldable pub rooted_in : Fields → Option Rooted
rooted_in f = given (f.operation == 0) (elements_in f >>= λ e. Some (record { elements = e; root = f.root }))

-- a reduction to a root
unfoldable pub reduce_in : Fields → Option Record
reduce_in f =
    operation_at f.operation >>= λ operation.
    elements_in f >>= λ e.
    Some (records.Reduce operation (record { elements = e; root = f.root }))

-- a reduction to all members
unfoldable pub allreduce_in : Fields → Option Record
allreduce_in f =
    operation_at f.operation >>= λ operation.
    elements_in f >>= λ e.
    given (f.root == 0) (Some (records.Allreduce operation e))

-- the record of this kind that the fields say
unfoldable pub record_in : CollectiveKind → Fields → Option Record
record_in kinds.Barrier f = without_fields records.Barrier f
record_in kinds.Bcast f = rooted_in f >>= λ r. Some (records.Bcast r)
record_in kinds.Gather f = rooted_in f >>= λ r. Some (records.Gather r)
record_in kinds.Scatter f = rooted_in f >>= λ r. Some (records.Scatter r)
record_in kinds.Reduce f = reduce_in f
record_in kinds.Allreduce f = allreduce_in f
record_in kinds.Dup f = without_fields records.Dup f
record_in kinds.Split f = without_fields records.Split f

-- ---- what comes after the record

-- the elements, where they are as many bytes as the record says
unfoldable pub elements_from : Direction → Elements → List ℕ → Option PartText
elements_from way e body = given (length body == e.count * size_of e.basic) (Some (ElementsText way body))

-- nothing more
unfoldable pub nothing_from : PartText → List ℕ → Option PartText
nothing_from part body = given (length body == 0) (Some part)

-- the colour, by the byte that says whether there is one
unfoldable pub colour_from : ℕ → ℕ → Option (Option ℕ)
colour_from given_byte colour =
    if given_byte == 1 then Some (Some colour)
    else (if given_byte == 0 then given (colour == 0) (Some None) else None)

-- what a member asks for in a split: nine bytes
unfoldable pub choice_from : List ℕ → Option PartText
choice_from body =
    given (length body == 9)
    (colour_from (slice_index body 0) (number_at 1 4 body) >>= λ colour.
    Some (ChoiceText (record { colour = colour; key = cast_signed w32 (number_at 5 4 body) })))

-- the context of a copy: eight bytes
unfoldable pub context_from : List ℕ → Option PartText
context_from body = given (length body == 8) (Some (ContextText (number_at 0 8 body)))

-- what a member gets of a split: nothing, or eight bytes of context and at least one rank of two bytes
unfoldable pub group_from : List ℕ → Option PartText
group_from body =
    if length body == 0 then Some NullText
    else given (nat_le 10 (length body))
    (given (length body % 2 == 0) (Some (GroupText (number_at 0 8 body) (drop 8 body))))

-- what goes towards the root
unfoldable pub towards_root : Record → List ℕ → Option PartText
towards_root records.Barrier body = nothing_from (NothingMore directions.TowardsRoot) body
towards_root (records.Bcast r) body = elements_from directions.TowardsRoot r.elements body
towards_root (records.Gather r) body = elements_from directions.TowardsRoot r.elements body
towards_root (records.Scatter r) body = elements_from directions.TowardsRoot r.elements body
towards_root (records.Reduce o r) body = elements_from directions.TowardsRoot r.elements body
towards_root (records.Allreduce o e) body = elements_from directions.TowardsRoot e body
towards_root records.Dup body = nothing_from (NothingMore directions.TowardsRoot) body
towards_root records.Split body = choice_from body

-- what comes from the root
unfoldable pub from_root : Record → List ℕ → Option PartText
from_root records.Barrier body = nothing_from (NothingMore directions.FromRoot) body
from_root (records.Bcast r) body = elements_from directions.FromRoot r.elements body
from_root (records.Gather r) body = elements_from directions.FromRoot r.elements body
from_root (records.Scatter r) body = elements_from directions.FromRoot r.elements body
from_root (records.Reduce o r) body = elements_from directions.FromRoot r.elements body
from_root (records.Allreduce o e) body = elements_from directions.FromRoot e body
from_root records.Dup body = context_from body
from_root records.Split body = group_from body

-- what a message of this phase and record carries
unfoldable pub part_in : Phase → Record → List ℕ → Option PartText
part_in phases.TowardsRoot r body = towards_root r body
part_in phases.FromRoot r body = from_root r body
part_in phases.RecordsDiffer r body = nothing_from Differing body

-- ---- all of it

-- the record in the first 16 bytes, whose last four are 0
unfoldable pub head_of : List ℕ → Option Record
head_of bytes =
    given (nat_le 16 (length bytes))
    (given (number_at 12 4 bytes == 0)
    (kind_at (slice_index bytes 0) >>= λ kind. record_in kind (fields_of bytes)))

-- what the bytes say
unfoldable pub payload_of : List ℕ → Option PayloadText
payload_of bytes =
    head_of bytes >>= λ r.
    phase_at (slice_index bytes 3) >>= λ phase.
    part_in phase r (drop 16 bytes) >>= λ part.
    Some (record { record_is = r; part = part })
