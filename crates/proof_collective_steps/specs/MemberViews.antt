-- When what a rank keeps of collectives and communicators stands for its member of the pure network.
use Rattle.std.specs.Prelude.{◌≡◌, ℕ, Bool, ◌≤◌, map, Option, Some, None, slice_get}
use Rattle.collectives.specs.State.{State, members_incarnation}
use Rattle.collective_messages.specs.Entries.{record_of}
use Rattle.collective_messages.specs.Roles.{role_of}
use Rattle.collective_messages.specs.Tallies.{count_in}
use Rattle.collective_messages.specs.declared.entry.Inside as code
use Rattle.collective_steps.specs.declared.step.Ending as steps
use Rattle.collective_steps.specs.declared.step.Ending.TheVariants as endings
use Rattle.context_agreement.specs.Communicators.{ContextsState}
use Rattle.context_agreement.specs.Numbers.{number_of}
use Rattle.context_agreement.specs.declared.communicator.Communicator as held
use Rattle.groups.specs.Groups.{HasNoRepeats}
use Rattle.perfect_groups.specs.Membership.{Comm, Ending, Failed, Inside, Left, Out, Present}
use Rattle.proof_collective_steps.specs.Counterparts.{AreNoted, HandsIn, communicator_of, part_of}
use Rattle.proof_group_network.specs.Notices.{Member}
use Rattle.vocabulary.specs.declared.endpoint.Endpoint.{Endpoint}
pub use Rattle.observation.specs.Endings.{ending_is}

-- the rank at e is in a collective of a communicator that it holds, and whose members have its own incarnation
pub record IsInside (e : Endpoint) (h : ContextsState) (i : code.Inside) (p : Option Present) : Type 0 where
  pub comm : held.Communicator
  pub at_place : slice_get h.held i.place ≡ Some comm
  pub context : i.context ≡ number_of comm.context
  pub incarnation : i.incarnation ≡ members_incarnation e i.context
  pub own : e.incarnation ≡ i.incarnation
  -- no rank is a member twice, and what was handed in broke no rule
  pub once : HasNoRepeats comm.group
  pub hands : HandsIn e comm.group i.entry
  -- it is what its communicator makes it
  pub role : i.role ≡ role_of e i.incarnation comm.group (record_of i.entry)
  pub is : p ≡ Some (Inside (communicator_of e comm) i.number (part_of i.entry))

-- the collective that the rank is in, or none
abbrev pub IsPresent : (e : Endpoint) → ContextsState → Option code.Inside → Option Present → Type 0
IsPresent e h None p = p ≡ None
IsPresent e h (Some i) p = IsInside e h i p

-- the member has told its word where the rank has
abbrev pub HasTold : Option code.Inside → (told : Bool) → Type 0
HasTold None told = Unit {0}
HasTold (Some i) told = told ≡ i.told

-- the same once the present event has given an ending, where it has: the network keeps it until the event is settled
abbrev pub HasEnded : (e : Endpoint) → ContextsState → (given : Option steps.Ending) → Option code.Inside →
    Option Present → Type 0
HasEnded e h None i p = IsPresent e h i p
HasEnded e h (Some x) i p = (i ≡ None) × (p ≡ Some (Out (ending_is x)))

-- what the rank at e keeps stands for its member, where the present event has given this ending or none
pub record IsShown (e : Endpoint) (s : State) (h : ContextsState) (m : Member) (given : Option steps.Ending) : Type
    0 where
  pub own : s.own ≡ e
  pub rank : h.rank ≡ e.rank
  pub incarnation : h.incarnation ≡ e.incarnation
  pub serial : m.serial ≡ h.next_serial
  -- serials 0 and 1 are those of world and self
  pub two : 2 ≤ h.next_serial
  pub held : m.membership.held ≡ map (communicator_of e) h.held
  pub count : (c : ℕ) → m.membership.count c ≡ count_in s.tallies c
  pub present : HasEnded e h given s.present m.membership.present
  pub told : HasTold s.present m.told
  pub kept : AreNoted e s.kept m.kept

-- an event gives one ending: the one that it has given, or else this
abbrev pub or_given : (before after : Option steps.Ending) → Option steps.Ending
or_given None x = x
or_given (Some y) x = Some y
