-- What a call does to the core.
use Rattle.std.specs.Prelude.{◌≡◌, ◌<◌, ℕ, true, IfSome, List, Option, Some, None, option_map, is_some}
use Rattle.datagram.specs.Spellings.{FrameFits, OutgoingText, frame_text}
use Rattle.datatypes.specs.Contents.{Contents}
use Rattle.match_queues.specs.State.{place_for}
use Rattle.match_queues.specs.declared.envelope.Message.{Message}
use Rattle.match_queues.specs.declared.envelope.PostedReceive.{PostedReceive}
use Rattle.vocabulary.specs.declared.envelope.Source.{Source}
use Rattle.vocabulary.specs.declared.envelope.Source.TheVariants as sources
use Rattle.requests.specs.declared.awaited_requests.Awaited.{Awaited}
use Rattle.requests.specs.declared.awaited_requests.Awaited.TheVariants.{One, AnyOf, AllOf}
use Rattle.point_to_point_calls.specs.CoreCalls.{RoutedCall}
use Rattle.point_to_point_calls.specs.CoreCalls as calls
use Rattle.point_to_point_calls.specs.CoreCalls.{CoreReply}
use Rattle.point_to_point_calls.specs.declared.call.RoutedReceive.{RoutedReceive}
use Rattle.point_to_point_calls.specs.declared.call.RoutedProbe.{RoutedProbe}
use Rattle.point_to_point_calls.specs.declared.call.SoughtProbe.{SoughtProbe}
use Rattle.point_to_point_calls.specs.declared.call.SoughtReceive.{SoughtReceive}
use Rattle.point_to_point_calls.specs.declared.call.RoutedSend.{RoutedSend}
use Rattle.point_to_point_calls.specs.Frames.{addressed}
use Rattle.point_to_point_calls.specs.declared.refusal.Refusal.{Refusal}
use Rattle.point_to_point_calls.specs.declared.refusal.Refusal.TheVariants as refusals
use Rattle.point_to_point.specs.CoreState.{CoreState, Held, CanStart}
use Rattle.rendezvous.specs.Collections.{Collecting}
use Rattle.point_to_point_calls.specs.ReceiveMatches.{collection_on_post, posted_by}
use Rattle.point_to_point.specs.Receives.{found_by, receive_fault, receive_frame, receive_rule, IsReceiving}
use Rattle.incarnation.specs.declared.place.Place.{Place}
use Rattle.point_to_point_calls.specs.FrameNews.{first_of}
use Rattle.point_to_point_calls.specs.SendRules.{send_fault, destination, is_to_itself, announced_to, or_worn_out}
use Rattle.point_to_point_calls.specs.SendRules.{rank_to}
use Rattle.point_to_point.specs.Sends.{or_full, frame_of, IsSending}
use Rattle.point_to_point.specs.Messages.{Receives, Searches, collection_on_message, found_for, message_fault}
use Rattle.point_to_point.specs.Messages.{message_frame, probe_rule, probed_by, region_rule, search_limit}
use Rattle.point_to_point.specs.Completions.{cancel_fault, wait_fault, Cancels, Tests, Waits}
use Rattle.point_to_point_calls.specs.Calls.{IsPacked, Starts}

-- the first rule or limit that a call meets while no earlier one is blocked
abbrev pub free_fault : CoreState → RoutedCall → Option Refusal
free_fault c (calls.Isend s) = or_worn_out (or_full (send_fault c.place s) c) (announced_to c.place s) c.transfers
free_fault c (calls.Irecv v) = receive_fault c v
free_fault c (calls.Wait q) = wait_fault c (One q)
free_fault c (calls.Test q) = wait_fault c (One q)
free_fault c (calls.Waitany qs) = wait_fault c (AnyOf qs)
free_fault c (calls.Waitall qs) = wait_fault c (AllOf qs)
free_fault c (calls.Cancel q) = cancel_fault c q
free_fault c (calls.Improbe p) =
    first_of (probe_rule c.place.size p.route.named p.probe.tag) (search_limit p.route.named c p)
free_fault c (calls.Mrecv q into) = first_of (message_fault c q) (region_rule into)

-- while an earlier call is blocked, every call is refused
abbrev pub fault_at : Option Awaited → CoreState → RoutedCall → Option Refusal
fault_at (Some a) c call = Some refusals.Request
fault_at None c call = free_fault c call

-- the first rule or limit of the core's that a call meets
abbrev pub call_fault : CoreState → RoutedCall → Option Refusal
call_fault c call = fault_at c.blocked c call

-- ITS RULES APART FROM ITS LIMITS

-- the fault of a call by its requests (6), while no earlier one is blocked
abbrev pub free_request_fault : CoreState → RoutedCall → Option Refusal
free_request_fault c (calls.Isend s) = None
free_request_fault c (calls.Irecv v) = None
free_request_fault c (calls.Wait q) = wait_fault c (One q)
free_request_fault c (calls.Test q) = wait_fault c (One q)
free_request_fault c (calls.Waitany qs) = wait_fault c (AnyOf qs)
free_request_fault c (calls.Waitall qs) = wait_fault c (AllOf qs)
free_request_fault c (calls.Cancel q) = cancel_fault c q
free_request_fault c (calls.Improbe p) = None
free_request_fault c (calls.Mrecv q into) = message_fault c q

-- while an earlier call is blocked, it is that (6)
abbrev pub request_fault_at : Option Awaited → CoreState → RoutedCall → Option Refusal
request_fault_at (Some a) c call = Some refusals.Request
request_fault_at None c call = free_request_fault c call

-- the fault of a call by its requests, or by an earlier call that is blocked (6)
abbrev pub request_fault : CoreState → RoutedCall → Option Refusal
request_fault c call = request_fault_at c.blocked c call

-- the fault of a call by what it hands in: the first of 2, 1, 3 and 5
abbrev pub argument_fault : Place → RoutedCall → Option Refusal
argument_fault p (calls.Isend s) = send_fault p s
argument_fault p (calls.Irecv v) = receive_rule p.size v
argument_fault p (calls.Wait q) = None
argument_fault p (calls.Test q) = None
argument_fault p (calls.Waitany qs) = None
argument_fault p (calls.Waitall qs) = None
argument_fault p (calls.Cancel q) = None
argument_fault p (calls.Improbe q) = probe_rule p.size q.route.named q.probe.tag
argument_fault p (calls.Mrecv q into) = region_rule into

-- the limit that a call meets (13): no request can be started, or no transfer to a rank where its message is announced
abbrev pub limit_fault : CoreState → RoutedCall → Option Refusal
limit_fault c (calls.Isend s) = or_worn_out (or_full None c) (announced_to c.place s) c.transfers
limit_fault c (calls.Irecv v) = or_full None c
limit_fault c (calls.Wait q) = None
limit_fault c (calls.Test q) = None
limit_fault c (calls.Waitany qs) = None
limit_fault c (calls.Waitall qs) = None
limit_fault c (calls.Cancel q) = None
limit_fault c (calls.Improbe p) = search_limit p.route.named c p
limit_fault c (calls.Mrecv q into) = None

-- A call meets its rules on requests, then those on what it hands in, and then the limits
abbrev pub IsCutFault : CoreState → RoutedCall → Type 0
IsCutFault c call =
    call_fault c call ≡ first_of (request_fault c call) (first_of (argument_fault c.place call) (limit_fault c call))

-- ITS FRAME

-- the frame that a call gives to another rank
abbrev pub call_frame : CoreState → RoutedCall → Option OutgoingText
call_frame c (calls.Isend s) = frame_of c s
call_frame c (calls.Irecv v) = receive_frame v.route.named c v
call_frame c (calls.Wait q) = None
call_frame c (calls.Test q) = None
call_frame c (calls.Waitany qs) = None
call_frame c (calls.Waitall qs) = None
call_frame c (calls.Cancel q) = None
call_frame c (calls.Improbe p) = None
call_frame c (calls.Mrecv q into) = message_frame c q into

-- to which other rank it goes
abbrev pub call_rank : CoreState → RoutedCall → Option ℕ
call_rank c (calls.Isend s) = rank_to c.place (destination s.route.named s.send.tag s.route.context)
call_rank c (calls.Irecv v) = option_map (λ f. f.target) (receive_frame v.route.named c v)
call_rank c (calls.Wait q) = None
call_rank c (calls.Test q) = None
call_rank c (calls.Waitany qs) = None
call_rank c (calls.Waitall qs) = None
call_rank c (calls.Cancel q) = None
call_rank c (calls.Improbe p) = None
call_rank c (calls.Mrecv q into) = option_map (λ f. f.target) (message_frame c q into)

-- ---- what is made ready for it

-- a receive that may be posted has room in the queue
abbrev pub CanPost : Source → Held → Type 0
CanPost sources.Any h = 0 < h.receives
CanPost (sources.Rank rank) h = 0 < h.receives
CanPost sources.Null h = Unit {0}

-- what a receive from this source begins to collect, where the message that it finds is announced and wanted
abbrev pub collection_on_receive : Source → CoreState → (key : ℕ) → RoutedReceive → Option Collecting
collection_on_receive sources.Any c key v =
    collection_on_post c.place.message_limit v.receive.into key (found_by c v)
collection_on_receive (sources.Rank rank) c key v =
    collection_on_post c.place.message_limit v.receive.into key (found_by c v)
collection_on_receive sources.Null c key v = None

-- what a receive begins to collect, if it does: this is the place for its data, and it can be kept
pub record CanCollect (c : Option Collecting) (h : Held) (ready : Option Collecting) : Type 0 where
  pub place : ready ≡ c
  pub room : is_some c ≡ true → 0 < h.collections

-- a matching probe has a place for the message that it finds
abbrev pub CanSearch : Source → Held → RoutedProbe → Type 0
CanSearch sources.Null h q = Unit {0}
CanSearch sources.Any h q = is_some (found_for h.state sources.Any q.probe.tag q.route.context) ≡ true → CanStart h
CanSearch (sources.Rank rank) h q =
    is_some (found_for h.state (sources.Rank rank) q.probe.tag q.route.context) ≡ true → CanStart h

-- a send can be started, with its data packed or not: there is a place for its request, for its message where that comes
-- to the own rank, and for its offer where it is announced
pub record CanSend (h : Held) (s : RoutedSend) (packed : Option Contents) : Type 0 where
  pub start : CanStart h
  pub packed_is : IsPacked s packed
  pub own : is_to_itself h.state.place s ≡ true → 0 < h.messages
  pub offer : is_some (announced_to h.state.place s) ≡ true → 0 < h.offers

-- a receive can be started: there is a place for its request, in the queue, and for the data that it collects
pub record CanReceiveNow (h : Held) (v : RoutedReceive) (ready : Option Collecting) : Type 0 where
  pub start : CanStart h
  pub post : CanPost v.route.named h
  pub collect : CanCollect (collection_on_receive v.route.named h.state h.vacant v) h ready

-- ---- what is found for it

-- where the message stands that such a receive would take now; from the null process it takes none
abbrev pub sought_at : Source → PostedReceive → List (Option Message) → Option ℕ
sought_at sources.Any r places = place_for r places
sought_at (sources.Rank rank) r places = place_for r places
sought_at sources.Null r places = None

-- this is the message that a receive would take now, and the frame that answers it
pub record IsSought (h : Held) (v : SoughtReceive) : Type 0 where
  pub found_is : v.found ≡ sought_at v.routed.route.named (posted_by 0 v.routed) h.places
  pub answer_is : addressed v.answer ≡ receive_frame v.routed.route.named h.state v.routed
  pub fits : IfSome v.answer (λ a. FrameFits (frame_text a.frame))
  pub there : IfSome v.answer (λ a. a.target < h.state.place.size)

-- this is the message that a probe finds now
abbrev pub IsSoughtProbe : Held → SoughtProbe → Type 0
IsSoughtProbe h p =
    p.found ≡
    sought_at p.routed.route.named (probed_by p.routed.route.named p.routed.probe.tag p.routed.route.context) h.places

-- ---- the answer

-- what a call that breaks no rule answers and leaves
abbrev pub Answers : CoreState → RoutedCall → CoreReply → CoreState → Type 0
Answers old (calls.Isend s) reply new = Starts (λ r. IsSending old s r new) reply
Answers old (calls.Irecv v) reply new = Starts (λ r. IsReceiving old v r new) reply
Answers old (calls.Wait q) reply new = Waits old (One q) reply new
Answers old (calls.Test q) reply new = Tests old q reply new
Answers old (calls.Waitany qs) reply new = Waits old (AnyOf qs) reply new
Answers old (calls.Waitall qs) reply new = Waits old (AllOf qs) reply new
Answers old (calls.Cancel q) reply new = Cancels old q reply new
Answers old (calls.Improbe p) reply new = Searches old p reply new
Answers old (calls.Mrecv q into) reply new = Receives old q into reply new
