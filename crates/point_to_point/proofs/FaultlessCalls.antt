-- What is known of a call that breaks no rule and meets no limit.
use Rattle.std.proofs.Common.{◌≡◌, ◌≤◌, ◌*◌, length, sym, Bool, false, true, Option, Some, None, refl, subst, arith}
use Rattle.std.specs.Prelude.{IfSome, if◌then◌else◌, ℕ, ◌<◌}
use Rattle.std.proofs.lemmas.Grind.{common_steps}
use Rattle.perfect_queues.specs.Buffers.{differs_in_type, is_too_short}
use Rattle.requests.specs.declared.awaited_requests.Awaited.{Awaited}
use Rattle.vocabulary.specs.BasicTypes.{size_of}
use Rattle.vocabulary.specs.Limits.{greatest_limit}
use Rattle.datatypes.specs.Contents.{Contents}
use Rattle.requests.specs.Regions.{CanReceive, handed_of, is_unfit_to_receive, sent_from}
use Rattle.requests.specs.Table.{is_full}
use Rattle.point_to_point_calls.specs.CoreCalls.{RoutedCall}
use Rattle.point_to_point_calls.specs.CoreCalls.{Isend, Irecv, Mrecv}
use Rattle.point_to_point_calls.specs.declared.call.RoutedReceive.{RoutedReceive}
use Rattle.point_to_point_calls.specs.declared.call.RoutedSend.{RoutedSend}
use Rattle.point_to_point_calls.specs.declared.refusal.Refusal.{Refusal}
use Rattle.point_to_point_calls.specs.declared.refusal.Refusal.TheVariants as refusals
use Rattle.point_to_point.specs.Calls.{call_fault, fault_at, free_fault}
use Rattle.point_to_point.specs.CoreState.{CoreState}
use Rattle.point_to_point.specs.Receives.{receive_fault}
use Rattle.point_to_point.specs.Messages.{message_fault, region_rule}
use Rattle.point_to_point_calls.specs.FrameNews.{first_of}
use Rattle.requests.specs.declared.region.Region.{Region}
use Rattle.requests.specs.declared.table.Request.{Request}
use Rattle.rendezvous.specs.State.{State, is_full_to}
use Rattle.point_to_point_calls.specs.SendRules.{announced_to, destination, is_announced, or_worn_out, rank_to}
use Rattle.point_to_point_calls.specs.SendRules.{send_fault}
use Rattle.point_to_point.specs.Sends.{or_full}
use Rattle.point_to_point_calls.proofs.SendLaws.{long_enough, rank_is_there, same_type, within_greatest}

-- nothing else was found while no earlier call is blocked
unblocked : (a : Option Awaited) (c : CoreState) (call : RoutedCall) → fault_at a c call ≡ None → free_fault c call ≡
    None
unblocked None c call none = none
unblocked (Some a) c call none = absurd cc

-- no rule was broken where not even the limit is met
no_rule : (fault : Option Refusal) (c : CoreState) → or_full fault c ≡ None → fault ≡ None
no_rule None c none = refl
no_rule (Some fault) c none = absurd cc

-- nor was one where a transfer can begin
no_limit : (fault : Option Refusal) (rank : Option ℕ) (t : State) → or_worn_out fault rank t ≡ None → fault ≡ None
no_limit None rank t none = refl
no_limit (Some fault) rank t none = absurd cc

-- a transfer can begin, where one is needed
left_to : (b : Bool) (rank : ℕ) (t : State) → is_full_to t.numbers rank ≡ b → or_worn_out None (Some rank) t ≡ None →
    b ≡ false
left_to false rank t is none = refl
left_to true rank t is none = absurd (grind (arith, is, none))

-- so it is of a send
left_of : (fault : Option Refusal) (to : Option ℕ) (rank : ℕ) (t : State) → to ≡ Some rank →
    or_worn_out fault to t ≡ None → is_full_to t.numbers rank ≡ false
left_of (Some fault) to rank t is none = absurd cc
left_of None None rank t is none = absurd cc
left_of None (Some other) rank t is none =
    subst (λ (r : ℕ). is_full_to t.numbers r ≡ false) (same_some other rank is)
    (left_to (is_full_to t.numbers other) other t refl none)
  where
    same_some : (a b : ℕ) → Some a ≡ Some b → a ≡ b
    same_some a b e = cc

-- a send breaks no rule
free_send : (c : CoreState) (s : RoutedSend) → free_fault c (Isend s) ≡ None → send_fault c.place s ≡ None
free_send c s none =
    no_rule (send_fault c.place s) c
    (no_limit (or_full (send_fault c.place s) c) (announced_to c.place s) c.transfers none)

-- the same of a call
sendable : (c : CoreState) (s : RoutedSend) → call_fault c (Isend s) ≡ None → send_fault c.place s ≡ None
sendable c s none = free_send c s (unblocked c.blocked c (Isend s) none)

-- a transfer can begin to the rank to which its message is announced
pub announces : (c : CoreState) (s : RoutedSend) (rank : ℕ) → free_fault c (Isend s) ≡ None →
    announced_to c.place s ≡ Some rank → is_full_to c.transfers.numbers rank ≡ false
announces c s rank none is =
    left_of (or_full (send_fault c.place s) c) (announced_to c.place s) rank c.transfers is none

there_if : (b : Bool) (o : Option ℕ) (n rank : ℕ) → (if b then o else None) ≡ Some rank → IfSome o (λ (r : ℕ). r < n) →
    rank < n
there_if true None n rank is there = absurd cc
there_if true (Some r) n rank is there = subst (λ (k : ℕ). k < n) (same_some r rank is) there
  where
    same_some : (a b : ℕ) → Some a ≡ Some b → a ≡ b
    same_some a b e = cc
there_if false o n rank is there = absurd cc

-- what it offers goes to a rank of the job
pub offer_is_there : (c : CoreState) (s : RoutedSend) (rank : ℕ) → free_fault c (Isend s) ≡ None →
    announced_to c.place s ≡ Some rank → rank < c.place.size
offer_is_there c s rank none is =
    there_if (is_announced c.place.message_limit s.send.mode (sent_from s.send.from))
    (rank_to c.place (destination s.route.named s.send.tag s.route.context))
    c.place.size rank is (rank_is_there c.place s (free_send c s none))

-- and is within the limit of a message
pub offer_is_within : (c : CoreState) (s : RoutedSend) (elements : Contents) → free_fault c (Isend s) ≡ None →
    elements ≡ sent_from s.send.from →
    length elements.values * size_of elements.basic ≤ greatest_limit
offer_is_within c s elements none same =
    subst (λ (e : Contents). length e.values * size_of e.basic ≤ greatest_limit) (sym same)
    (within_greatest c.place s (free_send c s none))

-- it breaks no other rule
pub allowed_send : (c : CoreState) (s : RoutedSend) → call_fault c (Isend s) ≡ None → free_fault c (Isend s) ≡ None
allowed_send c s none = unblocked c.blocked c (Isend s) none

-- a send's buffer and layout are of one basic type
pub send_types : (c : CoreState) (s : RoutedSend) → call_fault c (Isend s) ≡ None →
    differs_in_type (handed_of s.send.from) ≡ false
send_types c s none = same_type c.place s (sendable c s none)

-- its buffer is long enough
pub send_room : (c : CoreState) (s : RoutedSend) → call_fault c (Isend s) ≡ None → is_too_short (handed_of s.send.from)
    ≡ false
send_room c s none = long_enough c.place s (sendable c s none)

-- and its request can be started
pub send_starts : (c : CoreState) (s : RoutedSend) → call_fault c (Isend s) ≡ None → is_full c.slots c.serial ≡ false
send_starts c s none =
    not_full (send_fault c.place s) c
    (no_limit (or_full (send_fault c.place s) c) (announced_to c.place s) c.transfers
    (unblocked c.blocked c (Isend s) none))
  where
    full_by : (b : Bool) → (if b then Some refusals.Limit else None) ≡ None → b ≡ false
    full_by true h = absurd cc
    full_by false h = refl

    not_full : (fault : Option Refusal) (c : CoreState) → or_full fault c ≡ None → is_full c.slots c.serial ≡ false
    not_full None c h = full_by (is_full c.slots c.serial) h
    not_full (Some e) c h = absurd cc

-- its frame goes to a rank of the job
pub send_there : (c : CoreState) (s : RoutedSend) → call_fault c (Isend s) ≡ None →
    IfSome (rank_to c.place (destination s.route.named s.send.tag s.route.context)) (λ (rank : ℕ). rank < c.place.size)
send_there c s none = rank_is_there c.place s (sendable c s none)

-- a receive's types and places fit
fit : (c : CoreState) (v : RoutedReceive) → receive_fault c v ≡ None → is_unfit_to_receive (handed_of v.receive.into) ≡
    false
unfolding receive_fault
fit c v none = grind (arith, common_steps, none)

-- its buffer is long enough
enough : (c : CoreState) (v : RoutedReceive) → receive_fault c v ≡ None → is_too_short (handed_of v.receive.into) ≡
    false
unfolding receive_fault
enough c v none = grind (arith, common_steps, none)

-- a request can be started
free : (c : CoreState) (v : RoutedReceive) → receive_fault c v ≡ None → is_full c.slots c.serial ≡ false
unfolding receive_fault
free c v none = grind (arith, common_steps, none)

-- data can be received where a receive wants them
pub receive_fits : (c : CoreState) (v : RoutedReceive) → call_fault c (Irecv v) ≡ None → CanReceive v.receive.into
receive_fits c v none =
    let rules = unblocked c.blocked c (Irecv v) none in
    record { types = fit c v rules; room = enough c v rules }

-- and into the region of the receive of a message
pub message_fits : (c : CoreState) (q : Option Request) (into : Region) → call_fault c (Mrecv q into) ≡ None →
    CanReceive into
unfolding region_rule
message_fits c q into none =
    let rules = unblocked c.blocked c (Mrecv q into) none in
    let region : region_rule into ≡ None = second (message_fault c q) (region_rule into) rules in
    record { types = grind (arith, common_steps, region); room = grind (arith, common_steps, region) }
  where
    second : (a b : Option Refusal) → first_of a b ≡ None → b ≡ None
    second None b h = h
    second (Some e) b h = absurd cc

-- its request can be started
pub receive_starts : (c : CoreState) (v : RoutedReceive) → call_fault c (Irecv v) ≡ None →
    is_full c.slots c.serial ≡ false
receive_starts c v none = free c v (unblocked c.blocked c (Irecv v) none)

-- while it is allowed no earlier call is blocked
pub none_blocked : (c : CoreState) (q : Option Request) (into : Region) → call_fault c (Mrecv q into) ≡ None →
    c.blocked ≡ None
none_blocked c q into none = blocked_by c.blocked none
  where
    blocked_by : (a : Option Awaited) → fault_at a c (Mrecv q into) ≡ None → a ≡ None
    blocked_by None h = refl
    blocked_by (Some a) h = absurd cc
