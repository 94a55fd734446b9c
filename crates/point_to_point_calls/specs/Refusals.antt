-- The number of each refusal, and what a call or an event may be refused with.
use Rattle.std.specs.Prelude.{◌≡◌, ℕ, Option, Some, None}
use Rattle.datagram.specs.declared.refusal.DatagramRefusal as lower
use Rattle.datagram.specs.declared.refusal.DatagramRefusal.TheVariants as lowers
use Rattle.point_to_point_calls.specs.declared.refusal.Refusal.{Refusal}
use Rattle.point_to_point_calls.specs.declared.refusal.Refusal.TheVariants.{Count, WrongType, Tag, Communicator, Rank}
use Rattle.point_to_point_calls.specs.declared.refusal.Refusal.TheVariants.{Request, Root, Operation, Replaced, Limit}
use Rattle.point_to_point_calls.specs.declared.refusal.Refusal.TheVariants.{OutOfMemory, Short, Magic, Version, Kind}
use Rattle.point_to_point_calls.specs.declared.refusal.Refusal.TheVariants.{Length, ForeignJob, NotForMe, StaleSource}
use Rattle.point_to_point_calls.specs.declared.refusal.Refusal.TheVariants.{StaleTarget, BadFrame, OutOfWindow}
use Rattle.point_to_point_calls.specs.declared.refusal.Refusal.TheVariants.{ClockBack}

-- the number that a call or an event answers
abbrev pub number_of_refusal : Refusal → ℕ
number_of_refusal Count = 1
number_of_refusal WrongType = 2
number_of_refusal Tag = 3
number_of_refusal Communicator = 4
number_of_refusal Rank = 5
number_of_refusal Request = 6
number_of_refusal Root = 7
number_of_refusal Operation = 9
number_of_refusal Replaced = 11
number_of_refusal Limit = 13
number_of_refusal OutOfMemory = 14
number_of_refusal Short = 21
number_of_refusal Magic = 22
number_of_refusal Version = 23
number_of_refusal Kind = 24
number_of_refusal Length = 25
number_of_refusal ForeignJob = 26
number_of_refusal NotForMe = 27
number_of_refusal StaleSource = 28
number_of_refusal StaleTarget = 29
number_of_refusal BadFrame = 30
number_of_refusal OutOfWindow = 31
number_of_refusal ClockBack = 41

-- the refusal of bytes that are no datagram
abbrev pub of_datagram : lower.DatagramRefusal → Refusal
of_datagram lowers.OutOfMemory = OutOfMemory
of_datagram lowers.Short = Short
of_datagram lowers.Magic = Magic
of_datagram lowers.Version = Version
of_datagram lowers.Kind = Kind
of_datagram lowers.Length = Length
of_datagram lowers.BadFrame = BadFrame

-- A refusal is by the first rule that is broken; where none is, only for want of memory.
abbrev pub IsRefusal : Option Refusal → Refusal → Type 0
IsRefusal (Some fault) refused = refused ≡ fault
IsRefusal None refused = refused ≡ OutOfMemory
