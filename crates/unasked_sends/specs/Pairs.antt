-- A rank that sends to another one, which takes the messages in the order in which they were sent.
use Rattle.std.specs.Prelude.{ℕ, ◌==◌, ◌+◌, ◌≤◌, max, Bool, true, false, List, [], ◌∷◌, ◌++◌, if◌then◌else◌}
use Rattle.unasked_sends.specs.Counts.{counted, course, weight}
use Rattle.unasked_sends.specs.declared.counts.Course.{Course}
use Rattle.unasked_sends.specs.declared.counts.Course.TheVariants.{Announced, AtOnce, Synchronous}
use Rattle.unasked_sends.specs.declared.counts.SentRecord.{SentRecord}

-- A message in the queue between the two: its send is at its end, and it counts so many bytes; or it was announced, when
-- so many had been sent by sends of the first kind
pub data Message : Type 0 where
  Counts : (bytes : ℕ) → Message
  Tells : (mark : ℕ) → Message

-- what the sender counts, the queue, and the marks of the announced messages that were taken out of it
pub record Pair : Type 0 where
  pub counts : SentRecord
  pub queue : List Message
  pub taken : List ℕ

-- nothing was sent
abbrev pub opening : Pair
opening = record { counts = record { sent = 0; received = 0 }; queue = []; taken = [] }

-- What happens: a standard send of so many bytes; a send that is announced whatever waits, as a synchronous one; the
-- receiver takes the first message; the sender learns of the end of an announced one with this mark that was taken
pub data Happening : Type 0 where
  Sends : (bytes : ℕ) → Happening
  Announces : Happening
  Takes : Happening
  Learns : (mark : ℕ) → Happening

-- the message of a standard send that goes so
abbrev pub message_of : Course → (bytes : ℕ) → SentRecord → Message
message_of AtOnce bytes r = Counts (weight bytes)
message_of Announced bytes r = Tells r.sent
message_of Synchronous bytes r = Tells r.sent

-- behind a standard send that goes so
abbrev pub sent_by : Course → (bytes : ℕ) → Pair → Pair
sent_by c bytes p =
    record {
      counts = counted c bytes p.counts;
      queue = p.queue ++ message_of c bytes p.counts ∷ [];
      taken = p.taken;
    }

-- with this queue, whose first message was taken
abbrev pub taken_from : List Message → Pair → Pair
taken_from [] p = p
taken_from (Counts bytes ∷ queue) p = record { counts = p.counts; queue = queue; taken = p.taken }
taken_from (Tells mark ∷ queue) p = record { counts = p.counts; queue = queue; taken = mark ∷ p.taken }

-- whether a message with this mark was taken
abbrev pub is_in : List ℕ → ℕ → Bool
is_in [] mark = false
is_in (m ∷ marks) mark = if m == mark then true else is_in marks mark

-- what is known then
abbrev pub learned : Bool → (mark : ℕ) → Pair → Pair
learned false mark p = p
learned true mark p =
    record {
      counts = record { sent = p.counts.sent; received = max p.counts.received mark };
      queue = p.queue;
      taken = p.taken;
    }

abbrev pub after : (frame bound : ℕ) → Happening → Pair → Pair
after frame bound (Sends bytes) p = sent_by (course frame bound bytes p.counts) bytes p
after frame bound Announces p = sent_by Announced 0 p
after frame bound Takes p = taken_from p.queue p
after frame bound (Learns mark) p = learned (is_in p.taken mark) mark p

abbrev pub after_all : (frame bound : ℕ) → List Happening → Pair → Pair
after_all frame bound [] p = p
after_all frame bound (h ∷ hs) p = after_all frame bound hs (after frame bound h p)

-- how many bytes the messages count that are in the receiver's memory though nobody has asked for them
abbrev pub waits : List Message → ℕ
waits [] = 0
waits (Counts bytes ∷ queue) = bytes + waits queue
waits (Tells mark ∷ queue) = waits queue

-- WHAT WAITS STAYS WITHIN THE BOUND, whatever happens
abbrev pub WhatWaitsStaysWithin : Type 0
WhatWaitsStaysWithin =
    (frame bound : ℕ) (hs : List Happening) → waits (after_all frame bound hs opening).queue ≤ bound
