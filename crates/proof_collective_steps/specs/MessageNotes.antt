-- What goes out of a rank's collectives can be read where it comes: whoever gets it makes a note of it, unless memory
-- is lacking.
use Rattle.std.specs.Prelude.{◌≡◌, ℕ, ◌<◌, ◌≤◌, true, false, List, Option, Some, None, slice_get}
use Rattle.std.specs.List.{AllByRecursion}
use Rattle.collective_messages.specs.Arrivals.{NamesOnce}
use Rattle.collective_messages.specs.Messages.{IsWithinType, part_said}
use Rattle.collective_messages.specs.declared.message.MessageContent.{MessageContent}
use Rattle.collective_messages.specs.declared.message.CollectiveMessage.{CollectiveMessage}
use Rattle.collective_messages.specs.declared.note.Note.{Note}
use Rattle.collectives.specs.Calls.{inside_of}
use Rattle.collective_messages.specs.declared.entry.Entry.{Entry}
use Rattle.collectives.specs.State.{State}
use Rattle.collective_steps.specs.Steps.{IsPrepared, IsPreparedEntry, Prepared}
use Rattle.collective_steps.specs.declared.step.Ending.{Ending}
use Rattle.context_agreement.specs.Communicators.{ContextsState}
use Rattle.context_agreement.specs.declared.communicator.Communicator as held
use Rattle.groups.specs.Groups.{HasNoRepeats}
use Rattle.payload.specs.Spellings.{PartFits}
use Rattle.payload.specs.declared.record.Record.{Record}
use Rattle.perfect_groups.specs.Communicators.{Communicator, is_member}
use Rattle.proof_collective_steps.specs.MemberViews.{IsShown}
use Rattle.proof_group_network.specs.Notices.{Member}
use Rattle.proof_group_network.specs.NoticesStand.{IsOfWorld}
use Rattle.vocabulary.specs.Endpoints.{is_same}
use Rattle.vocabulary.specs.declared.endpoint.Endpoint.{Endpoint}

-- what a message gives is of the kind of its record, names no rank twice, and is within its type
pub record IsReadable (r : Record) (g : MessageContent) : Type 0 where
  pub fits : PartFits r (part_said g)
  pub once : NamesOnce (part_said g)
  pub within : IsWithinType g

-- a message goes to another rank of a world of n, at the sender's incarnation, which can read it
pub record IsSendable (n : ℕ) (own : Endpoint) (m : CollectiveMessage) : Type 0 where
  pub there : m.target.rank < n
  pub alike : m.target.incarnation ≡ own.incarnation
  pub other : is_same m.target own ≡ false
  pub readable : IsReadable m.entered m.given

-- a communicator of ranks of world, none of them twice
pub record IsDistinct (n : ℕ) (c : held.Communicator) : Type 0 where
  pub once : HasNoRepeats c.group
  pub there : AllByRecursion (λ r. r < n) c.group

-- what a rank holds is of world, where its member's is
abbrev pub HeldIsDistinct : Type 0
HeldIsDistinct =
    (n : ℕ) (e : Endpoint) (s : State) (h : ContextsState) (m : Member) (before : Option Ending) →
    IsShown e s h m before →
    AllByRecursion (IsOfWorld n) m.membership.held → AllByRecursion (IsDistinct n) h.held

-- Each element that goes out is within its type, as buffers keep it
abbrev pub AreWithinTypes : List CollectiveMessage → Type 0
AreWithinTypes ms = AllByRecursion (λ (m : CollectiveMessage). IsWithinType m.given) ms

-- what goes out where a rank that is shown enters, as one of the members
abbrev pub EntriesAreSendable : Type 0
EntriesAreSendable =
    (n : ℕ) (e : Endpoint) (s : State) (h : ContextsState) (m : Member) (place : ℕ) (x : Entry) (c : Communicator)
    (step : Prepared) →
    n ≤ 65536 → IsShown e s h m None → AllByRecursion (IsDistinct n) h.held → slice_get m.membership.held place ≡
    Some c → is_member e c.members ≡ true →
    IsPreparedEntry s.own (inside_of s h place x) h s.kept step → AreWithinTypes step.messages →
    AllByRecursion (IsSendable n e) step.messages

-- what goes out where it does something of itself, whatever notes it goes by
abbrev pub StepsAreSendable : Type 0
StepsAreSendable =
    (n : ℕ) (e : Endpoint) (s : State) (h : ContextsState) (m : Member) (before : Option Ending) (notes : List Note)
    (step : Prepared) →
    n ≤ 65536 → IsShown e s h m before → AllByRecursion (IsDistinct n) h.held →
    IsPrepared s.own s.present h notes step → AreWithinTypes step.messages →
    AllByRecursion (IsSendable n e) step.messages
