-- The refusals of the sessions, of communicators and of collectives, as the engine's.
use Rattle.std.specs.Prelude.{Option, Some, None}
use Rattle.collective_progress.specs.declared.rules.Rule.{Rule}
use Rattle.collective_progress.specs.declared.rules.Rule.TheVariants as entry_faults
use Rattle.collective_messages.specs.declared.refusal.CollectiveRefusal as notes
use Rattle.collective_messages.specs.declared.refusal.CollectiveRefusal.TheVariants as notes_refusals
use Rattle.communicators.specs.declared.fault.CommunicatorFault as rules
use Rattle.communicators.specs.declared.fault.CommunicatorFault.TheVariants as rule_faults
use Rattle.point_to_point_calls.specs.declared.refusal.Refusal.{Refusal}
use Rattle.point_to_point_calls.specs.declared.refusal.Refusal.TheVariants.{Communicator, Count, Operation, Rank}
use Rattle.point_to_point_calls.specs.declared.refusal.Refusal.TheVariants.{Replaced, Request, Root, WrongType, Limit}
use Rattle.point_to_point_calls.specs.declared.refusal.Refusal.TheVariants.{OutOfMemory, Short, Magic, Version, Kind}
use Rattle.point_to_point_calls.specs.declared.refusal.Refusal.TheVariants.{Length, ForeignJob, NotForMe, StaleSource}
use Rattle.point_to_point_calls.specs.declared.refusal.Refusal.TheVariants.{StaleTarget, BadFrame, OutOfWindow}
use Rattle.point_to_point_calls.specs.declared.refusal.Refusal.TheVariants.{ClockBack}
use Rattle.sessions.specs.declared.refusal.SessionRefusal as lower
use Rattle.sessions.specs.declared.refusal.SessionRefusal.TheVariants as lowers

-- a refusal of the sessions
abbrev pub of_sessions : lower.SessionRefusal → Refusal
of_sessions lowers.Rank = Rank
of_sessions lowers.Limit = Limit
of_sessions lowers.OutOfMemory = OutOfMemory
of_sessions lowers.Short = Short
of_sessions lowers.Magic = Magic
of_sessions lowers.Version = Version
of_sessions lowers.Kind = Kind
of_sessions lowers.Length = Length
of_sessions lowers.ForeignJob = ForeignJob
of_sessions lowers.NotForMe = NotForMe
of_sessions lowers.StaleSource = StaleSource
of_sessions lowers.StaleTarget = StaleTarget
of_sessions lowers.BadFrame = BadFrame
of_sessions lowers.OutOfWindow = OutOfWindow
of_sessions lowers.ClockBack = ClockBack

-- a rule or limit of the sessions, where one is broken
abbrev pub fault_of_sessions : Option lower.SessionRefusal → Option Refusal
fault_of_sessions None = None
fault_of_sessions (Some e) = Some (of_sessions e)

-- the first of two
abbrev pub first_fault : Option Refusal → Option Refusal → Option Refusal
first_fault (Some e) other = Some e
first_fault None other = other

-- a rule that what a rank enters a collective with breaks
abbrev pub of_entry_rule : Rule → Refusal
of_entry_rule entry_faults.WrongType = WrongType
of_entry_rule entry_faults.WrongCount = Count
of_entry_rule entry_faults.NoRoot = Root
of_entry_rule entry_faults.NotDefined = Operation

-- a rule that a call breaks by its communicator, or a limit that it meets there
abbrev pub of_rule : rules.CommunicatorFault → Refusal
of_rule rule_faults.Blocked = Request
of_rule rule_faults.NoCommunicator = Communicator
of_rule (rule_faults.Entry rule) = of_entry_rule rule
of_rule rule_faults.Replaced = Replaced
of_rule rule_faults.Limit = Limit

-- a refusal of collectives
abbrev pub of_collectives : notes.CollectiveRefusal → Refusal
of_collectives notes_refusals.NoCommunicator = Communicator
of_collectives notes_refusals.Blocked = Request
of_collectives notes_refusals.Limit = Limit
of_collectives notes_refusals.OutOfMemory = OutOfMemory
of_collectives notes_refusals.BadFrame = BadFrame
