-- What is known of calls, and of what is made ready for them.
use Rattle.std.specs.Prelude.{◌≡◌, ◌<◌, ◌^◌, Option, Some, None}
use Rattle.vocabulary.specs.BasicTypes.{size_of}
use Rattle.datatypes.specs.Contents.{AreWithin, Contents}
use Rattle.requests.specs.declared.region.Places.TheVariants as places
use Rattle.requests.specs.declared.table.Request.{Request}
use Rattle.requests.specs.Regions.{sent_from}
use Rattle.point_to_point_calls.specs.CoreCalls.{RoutedCall}
use Rattle.point_to_point_calls.specs.CoreCalls as calls
use Rattle.point_to_point_calls.specs.CoreCalls.{CoreReply}
use Rattle.point_to_point_calls.specs.declared.call.RoutedSend.{RoutedSend}

-- each element that a call sends has the width of its type, and its context has 64 bits
abbrev pub IsWithin : RoutedCall → Type 0
IsWithin (calls.Isend s) =
    AreWithin (size_of s.send.from.buffer.basic) ((sent_from s.send.from).values) × (s.route.context < 2 ^ 64)
IsWithin (calls.Irecv v) = Unit {0}
IsWithin (calls.Wait q) = Unit {0}
IsWithin (calls.Test q) = Unit {0}
IsWithin (calls.Waitany qs) = Unit {0}
IsWithin (calls.Waitall qs) = Unit {0}
IsWithin (calls.Cancel q) = Unit {0}
IsWithin (calls.Improbe p) = Unit {0}
IsWithin (calls.Mrecv q into) = Unit {0}

-- what a call starts, what it takes out or receives, and the outcomes of several requests, take memory; all else is
-- answered without
abbrev pub NeedsMemory : RoutedCall → Type 0
NeedsMemory (calls.Isend s) = Unit {0}
NeedsMemory (calls.Irecv v) = Unit {0}
NeedsMemory (calls.Wait q) = ⊥
NeedsMemory (calls.Test q) = ⊥
NeedsMemory (calls.Waitany qs) = ⊥
NeedsMemory (calls.Waitall qs) = Unit {0}
NeedsMemory (calls.Cancel q) = ⊥
NeedsMemory (calls.Improbe p) = Unit {0}
NeedsMemory (calls.Mrecv q into) = Unit {0}

-- ---- what is made ready for it

-- the data of a send stand in its buffer, or were packed
abbrev pub IsPacked : RoutedSend → Option Contents → Type 0
IsPacked s None = s.send.from.places ≡ places.All
IsPacked s (Some elements) = elements ≡ sent_from s.send.from

-- ---- the answer

-- an operation is started under the request that is answered (MPI 3.1, 3.7.2)
abbrev pub Starts : (Request → Type 0) → CoreReply → Type 0
Starts started (calls.Started r) = started r
Starts started (calls.Refused e back) = ⊥
Starts started (calls.Done a) = ⊥
Starts started calls.Pending = ⊥
Starts started calls.Accepted = ⊥
Starts started (calls.Matched m) = ⊥
Starts started calls.Blocked = ⊥
