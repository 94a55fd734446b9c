-- The fault of a call, cut into its rules on requests, its rules on what it hands in, and its limits.
use Rattle.std.proofs.Common.{◌≡◌, ℕ, Bool, true, false, cond, Option, Some, None, refl, sym, ap, ◌∙◌}
use Rattle.perfect_queues.specs.Buffers.{is_too_short}
use Rattle.perfect_queues.specs.Refusals.{is_source_beyond, is_tag_above}
use Rattle.requests.specs.declared.awaited_requests.Awaited.{Awaited}
use Rattle.requests.specs.Regions.{handed_of, is_unfit_to_receive}
use Rattle.requests.specs.Table.{is_full}
use Rattle.rendezvous.specs.State.{State}
use Rattle.point_to_point_calls.specs.CoreCalls.{RoutedCall}
use Rattle.point_to_point_calls.specs.CoreCalls as calls
use Rattle.point_to_point_calls.specs.declared.call.RoutedReceive.{RoutedReceive}
use Rattle.point_to_point_calls.specs.declared.refusal.Refusal.{Refusal}
use Rattle.point_to_point_calls.specs.declared.refusal.Refusal.TheVariants.{WrongType, Count, Tag, Rank, Limit}
use Rattle.point_to_point_calls.specs.FrameNews.{first_of}
use Rattle.point_to_point_calls.specs.SendRules.{announced_to, or_worn_out, send_fault}
use Rattle.point_to_point.specs.Calls.{IsCutFault, argument_fault, call_fault, fault_at, free_fault, limit_fault}
use Rattle.point_to_point.specs.Calls.{request_fault, request_fault_at}
use Rattle.point_to_point.specs.CoreState.{CoreState}
use Rattle.point_to_point.specs.Messages.{message_fault, region_rule}
use Rattle.point_to_point.specs.Receives.{receive_fault, receive_rule}
use Rattle.point_to_point.specs.Sends.{or_full}

-- a send's rules stand before its limits
send_so : (fault : Option Refusal) (c : CoreState) (rank : Option ℕ) (t : State) →
    or_worn_out (or_full fault c) rank t ≡ first_of fault (or_worn_out (or_full None c) rank t)
send_so None c rank t = refl
send_so (Some fault) c rank t = refl

by_tests : (a b d e f : Bool) →
    cond a (Some WrongType) (cond b (Some Count) (cond d (Some Tag) (cond e (Some Rank) (cond f (Some Limit) None))))
    ≡ first_of (cond a (Some WrongType) (cond b (Some Count) (cond d (Some Tag) (cond e (Some Rank) None))))
    (cond f (Some Limit) None)
by_tests true b d e f = refl
by_tests false true d e f = refl
by_tests false false true e f = refl
by_tests false false false true f = refl
by_tests false false false false f = refl

-- so do a receive's
receive_so : (c : CoreState) (v : RoutedReceive) →
    receive_fault c v ≡ first_of (receive_rule c.place.size v) (or_full None c)
unfolding receive_fault receive_rule
receive_so c v =
    by_tests (is_unfit_to_receive (handed_of v.receive.into)) (is_too_short (handed_of v.receive.into))
    (is_tag_above v.receive.tag)
    (is_source_beyond c.place.size v.route.named)
    (is_full c.slots c.serial)

last_none : (o : Option Refusal) → o ≡ first_of o None
last_none None = refl
last_none (Some e) = refl

-- while no earlier call is blocked
free_so : (c : CoreState) (call : RoutedCall) →
    free_fault c call ≡
    first_of (request_fault_at None c call) (first_of (argument_fault c.place call) (limit_fault c call))
free_so c (calls.Isend s) = send_so (send_fault c.place s) c (announced_to c.place s) c.transfers
free_so c (calls.Irecv v) = receive_so c v
free_so c (calls.Wait q) = last_none _
free_so c (calls.Test q) = last_none _
free_so c (calls.Waitany qs) = last_none _
free_so c (calls.Waitall qs) = last_none _
free_so c (calls.Cancel q) = last_none _
free_so c (calls.Improbe p) = refl
free_so c (calls.Mrecv q into) =
    ap (λ (o : Option Refusal). first_of (message_fault c q) o) (last_none (region_rule into))

cut_at : (a : Option Awaited) (c : CoreState) (call : RoutedCall) →
    fault_at a c call ≡
    first_of (request_fault_at a c call) (first_of (argument_fault c.place call) (limit_fault c call))
cut_at None c call = free_so c call
cut_at (Some a) c call = refl

-- a call meets its rules on requests, those on what it hands in, and the limits, in this order
pub cut : (c : CoreState) (call : RoutedCall) → IsCutFault c call
cut c call = cut_at c.blocked c call

rest_given : (c : CoreState) (call : RoutedCall) (a : Option Refusal) → request_fault c call ≡ a →
    call_fault c call ≡ first_of a (first_of (argument_fault c.place call) (limit_fault c call))
rest_given c call a is =
    cut c call ∙ ap (λ (o : Option Refusal). first_of o (first_of (argument_fault c.place call) (limit_fault c call)))
    is

-- the rule on requests is the fault, where it is broken
pub by_request : (c : CoreState) (call : RoutedCall) (e : Refusal) → request_fault c call ≡ Some e →
    Some e ≡ call_fault c call
by_request c call e is = sym (rest_given c call (Some e) is)

-- and else what is found beyond
pub by_rest : (c : CoreState) (call : RoutedCall) (o : Option Refusal) → request_fault c call ≡ None →
    o ≡ first_of (argument_fault c.place call) (limit_fault c call) → o ≡ call_fault c call
by_rest c call o none is = is ∙ sym (rest_given c call None none)
