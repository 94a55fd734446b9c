-- Which rules of the world itself an event breaks, whatever its engines hold.
use Rattle.std.specs.Prelude.{ℕ, nat_le, List, Option, Some, None, option_map, slice_get, if◌then◌else◌}
use Rattle.vocabulary.specs.declared.message_limit.MessageLimit.{MessageLimit}
use Rattle.world.specs.declared.event.Event.{Event}
use Rattle.world.specs.declared.event.Event.TheVariants as events
use Rattle.world.specs.declared.refusal.WorldRefusal.{WorldRefusal}
use Rattle.world.specs.declared.refusal.WorldRefusal.TheVariants.{NoSuchDatagram, NoSuchRank}
use Rattle.world.specs.Strays.{stray_fault}

-- the rank that an event comes to; a delivery comes to the one that its datagram was emitted to, if there is such a
-- datagram
abbrev pub target_of : (datagrams : List (ℕ × List ℕ)) → Event → Option ℕ
target_of datagrams (events.Call rank call) = Some rank
target_of datagrams (events.Deliver number) = option_map (λ (d : ℕ × List ℕ). d.0) (slice_get datagrams number)
target_of datagrams (events.Stray rank bytes) = Some rank
target_of datagrams (events.Tick rank now) = Some rank
target_of datagrams (events.Restart rank) = Some rank

-- 62 where there is no such datagram, and 61 where no rank of so many is the one that the event comes to
abbrev pub target_fault : (size : ℕ) → (target : Option ℕ) → Option WorldRefusal
target_fault size None = Some NoSuchDatagram
target_fault size (Some rank) = if nat_le size rank then Some NoSuchRank else None

-- stray bytes are refused at every rank, and nothing else is
abbrev pub bytes_fault : (limit : MessageLimit) → Event → Option WorldRefusal
bytes_fault limit (events.Call rank call) = None
bytes_fault limit (events.Deliver number) = None
bytes_fault limit (events.Stray rank bytes) = Some (stray_fault limit bytes)
bytes_fault limit (events.Tick rank now) = None
bytes_fault limit (events.Restart rank) = None

-- the first of two faults
abbrev pub first_fault : Option WorldRefusal → Option WorldRefusal → Option WorldRefusal
first_fault None later = later
first_fault (Some fault) later = Some fault

-- the first rule of a world of so many ranks that an event breaks, in a job with this limit of messages
abbrev pub event_fault : (size : ℕ) (limit : MessageLimit) → (datagrams : List (ℕ × List ℕ)) → Event →
    Option WorldRefusal
event_fault size limit datagrams event =
    first_fault (target_fault size (target_of datagrams event)) (bytes_fault limit event)
