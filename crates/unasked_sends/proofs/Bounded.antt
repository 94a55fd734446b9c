-- What waits is what was sent and not taken; what is known to have been received was taken.
use Rattle.std.proofs.Common.{◌≡◌, ◌==◌, ℕ, ◌+◌, ◌-◌, ◌≤◌, ◌&&◌, Bool, true, false, List, [], ◌∷◌, ◌++◌}
use Rattle.std.specs.Prelude.{if◌then◌else◌}
use Rattle.std.proofs.Common.{refl, sym, ap, subst, arith, nat_le, nat_lt}
use Rattle.std.proofs.lemmas.Bool.{eqb-true, leb-true}
use Rattle.unasked_sends.specs.Counts.{course, has_room, weight}
use Rattle.unasked_sends.specs.Pairs.{Announces, Counts, Happening, Learns, Message, Pair, Sends, Takes, Tells}
use Rattle.unasked_sends.specs.Pairs.{WhatWaitsStaysWithin, after, after_all, is_in, learned, opening}
use Rattle.unasked_sends.specs.Pairs.{sent_by, taken_from, waits}
use Rattle.unasked_sends.specs.declared.counts.Course.{Course}
use Rattle.unasked_sends.specs.declared.counts.Course.TheVariants.{Announced, AtOnce, Synchronous}
use Rattle.unasked_sends.specs.declared.counts.SentRecord.{SentRecord}

same_number : (m n : ℕ) → (m == n) ≡ true → m ≡ n
same_number m n e = eqb-true m n e

both : (a b : Bool) → (a && b) ≡ true → b ≡ true
both true b e = e
both false b e = absurd cc

-- where one more may wait no more than the bound does
has_within : (bound bytes : ℕ) (r : SentRecord) → has_room bound bytes r ≡ true →
    r.sent + weight bytes - r.received ≤ bound
has_within bound bytes r e =
    let few : nat_le (r.sent + weight bytes - r.received) bound ≡ true =
    both (nat_lt (r.sent + weight bytes) 18446744073709551616) (nat_le (r.sent + weight bytes - r.received) bound) e in
    leb-true (r.sent + weight bytes - r.received) bound few

-- a send goes at once only then
at_once_has_room : (frame bound bytes : ℕ) (r : SentRecord) → course frame bound bytes r ≡ AtOnce →
    has_room bound bytes r ≡ true
at_once_has_room frame bound bytes r e = go (nat_lt frame bytes) (has_room bound bytes r) e
  where
    go : (long room : Bool) → (if long then Announced else (if room then AtOnce else Synchronous)) ≡ AtOnce →
        room ≡ true
    go true room e = absurd cc
    go false true e = refl
    go false false e = absurd cc

-- where so many bytes were taken, the queue leads to what was sent, and each mark in it tells what stands before it
abbrev IsQueued : (taken : ℕ) → List Message → (sent : ℕ) → Type 0
IsQueued taken [] sent = taken ≡ sent
IsQueued taken (Counts bytes ∷ queue) sent = IsQueued (taken + bytes) queue sent
IsQueued taken (Tells mark ∷ queue) sent = (mark ≡ taken) × IsQueued taken queue sent

abbrev AreUpTo : (most : ℕ) → List ℕ → Type 0
AreUpTo most [] = Unit {0}
AreUpTo most (m ∷ ms) = (m ≤ most) × AreUpTo most ms

-- so many bytes were taken
record IsKept (bound taken : ℕ) (p : Pair) : Type 0 where
  queued : IsQueued taken p.queue p.counts.sent
  told : AreUpTo taken p.taken
  received : p.counts.received ≤ taken
  within : p.counts.sent - p.counts.received ≤ bound

waits_is : (taken : ℕ) (queue : List Message) (sent : ℕ) → IsQueued taken queue sent → taken + waits queue ≡ sent
waits_is taken [] sent e = omega (arith, e)
waits_is taken (Counts bytes ∷ queue) sent h = omega (arith, waits_is (taken + bytes) queue sent h)
waits_is taken (Tells mark ∷ queue) sent h = waits_is taken queue sent h.1

counts_more : (taken : ℕ) (queue : List Message) (sent bytes : ℕ) → IsQueued taken queue sent →
    IsQueued taken (queue ++ Counts bytes ∷ []) (sent + bytes)
counts_more taken [] sent bytes e = ap (λ n. n + bytes) e
counts_more taken (Counts b ∷ queue) sent bytes h = counts_more (taken + b) queue sent bytes h
counts_more taken (Tells mark ∷ queue) sent bytes h = (h.0, counts_more taken queue sent bytes h.1)

tells_more : (taken : ℕ) (queue : List Message) (sent : ℕ) → IsQueued taken queue sent →
    IsQueued taken (queue ++ Tells sent ∷ []) sent
tells_more taken [] sent e = (sym e, e)
tells_more taken (Counts b ∷ queue) sent h = tells_more (taken + b) queue sent h
tells_more taken (Tells mark ∷ queue) sent h = (h.0, tells_more taken queue sent h.1)

up_to_more : (most more : ℕ) (ms : List ℕ) → most ≤ more → AreUpTo most ms → AreUpTo more ms
up_to_more most more [] le h = tt
up_to_more most more (m ∷ ms) le h = (omega (arith, le, h.0), up_to_more most more ms le h.1)

by_test : (most mark m : ℕ) (ms : List ℕ) (t : Bool) → (m == mark) ≡ t → m ≤ most →
    (is_in ms mark ≡ true → mark ≤ most) → (if t then true else is_in ms mark) ≡ true → mark ≤ most
by_test most mark m ms true same le rest e = subst (λ n. n ≤ most) (same_number m mark same) le
by_test most mark m ms false other le rest e = rest e

is_up_to : (most mark : ℕ) (ms : List ℕ) → AreUpTo most ms → is_in ms mark ≡ true → mark ≤ most
is_up_to most mark [] h e = absurd cc
is_up_to most mark (m ∷ ms) h e =
    by_test most mark m ms (m == mark) refl h.0 (λ f. is_up_to most mark ms h.1 f) e

abbrev Kept : (bound : ℕ) → Pair → Type 0
Kept bound p = (taken : ℕ) × IsKept bound taken p

-- behind a send that goes so
sent : (bound bytes : ℕ) (p : Pair) (c : Course) → (c ≡ AtOnce → has_room bound bytes p.counts ≡ true) →
    Kept bound p → Kept bound (sent_by c bytes p)
sent bound bytes p AtOnce room (taken, k) = (
  taken,
  record {
    queued = counts_more taken p.queue p.counts.sent (weight bytes) k.queued;
    told = k.told;
    received = k.received;
    within = has_within bound bytes p.counts (room refl);
  },
)
sent bound bytes p Announced room (taken, k) = (
  taken,
  record {
    queued = tells_more taken p.queue p.counts.sent k.queued;
    told = k.told;
    received = k.received;
    within = k.within;
  },
)
sent bound bytes p Synchronous room (taken, k) = (
  taken,
  record {
    queued = tells_more taken p.queue p.counts.sent k.queued;
    told = k.told;
    received = k.received;
    within = k.within;
  },
)

taken_one : (bound : ℕ) (p : Pair) (queue : List Message) → p.queue ≡ queue → Kept bound p →
    Kept bound (taken_from queue p)
taken_one bound p [] e k = k
taken_one bound p (Counts bytes ∷ queue) e (taken, k) = (
  taken + bytes,
  record {
    queued = subst (λ q. IsQueued taken q p.counts.sent) e k.queued;
    told = up_to_more taken (taken + bytes) p.taken (omega arith) k.told;
    received = omega (arith, k.received);
    within = k.within;
  },
)
taken_one bound p (Tells mark ∷ queue) e (taken, k) =
    let q : (mark ≡ taken) × IsQueued taken queue p.counts.sent =
    subst (λ q. IsQueued taken q p.counts.sent) e k.queued in (
      taken,
      record { queued = q.1; told = (omega (arith, q.0), k.told); received = k.received; within = k.within },
    )

learned_one : (bound mark : ℕ) (p : Pair) (t : Bool) → is_in p.taken mark ≡ t → Kept bound p →
    Kept bound (learned t mark p)
learned_one bound mark p false e k = k
learned_one bound mark p true e (taken, k) = (
  taken,
  record {
    queued = k.queued;
    told = k.told;
    received = omega (arith, k.received, is_up_to taken mark p.taken k.told e);
    within = omega (arith, k.within);
  },
)

one : (frame bound : ℕ) (h : Happening) (p : Pair) → Kept bound p → Kept bound (after frame bound h p)
one frame bound (Sends bytes) p k =
    sent bound bytes p (course frame bound bytes p.counts) (at_once_has_room frame bound bytes p.counts) k
one frame bound Announces p k = sent bound 0 p Announced (λ e. absurd cc) k
one frame bound Takes p k = taken_one bound p p.queue refl k
one frame bound (Learns mark) p k = learned_one bound mark p (is_in p.taken mark) refl k

all : (frame bound : ℕ) (hs : List Happening) (p : Pair) → Kept bound p → Kept bound (after_all frame bound hs p)
all frame bound [] p k = k
all frame bound (h ∷ hs) p k = all frame bound hs (after frame bound h p) (one frame bound h p k)

within : (bound : ℕ) (p : Pair) → Kept bound p → waits p.queue ≤ bound
within bound p (taken, k) =
    omega (arith, waits_is taken p.queue p.counts.sent k.queued, k.received, k.within)

pub bounded : WhatWaitsStaysWithin
bounded frame bound hs =
    within bound (after_all frame bound hs opening) (all frame bound hs opening (
      0,
      record { queued = refl; told = tt; received = omega arith; within = omega arith },
    ))
