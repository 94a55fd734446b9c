-- When a call of the core is clear; and that it is so with any group.
use Rattle.std.proofs.Common.{◌≡◌, ℕ, Bool, true, false, cond, List, Option, Some, None, refl, sym, ap, ◌∙◌}
use Rattle.vocabulary.specs.declared.envelope.Source.{Source}
use Rattle.vocabulary.specs.declared.envelope.Source.TheVariants as sources
use Rattle.incarnation.specs.declared.place.Place.{Place}
use Rattle.point_to_point_calls.specs.Calls.{IsWithin}
use Rattle.point_to_point_calls.specs.FrameNews.{first_of}
use Rattle.point_to_point_calls.specs.SendRules.{announced_to, or_worn_out}
use Rattle.point_to_point_calls.specs.CoreCalls.{RoutedCall}
use Rattle.point_to_point_calls.specs.CoreCalls as calls
use Rattle.point_to_point_calls.specs.declared.call.RoutedProbe.{RoutedProbe}
use Rattle.point_to_point_calls.specs.declared.call.RoutedReceive.{RoutedReceive}
use Rattle.point_to_point_calls.specs.declared.refusal.Refusal.{Refusal}
use Rattle.point_to_point_calls.specs.declared.refusal.Refusal.TheVariants.{WrongType, Count, Tag, Rank, Limit}
use Rattle.perfect_queues.specs.Buffers.{is_too_short}
use Rattle.perfect_queues.specs.Refusals.{is_source_beyond, is_tag_above}
use Rattle.point_to_point.specs.Calls.{argument_fault, call_fault, call_frame, fault_at, limit_fault, request_fault}
use Rattle.point_to_point.specs.Calls.{request_fault_at}
use Rattle.point_to_point.specs.CoreState.{CoreState}
use Rattle.point_to_point.specs.Messages.{message_fault, probe_rule, region_rule, search_limit}
use Rattle.point_to_point.specs.Receives.{receive_fault, receive_frame, receive_rule}
use Rattle.point_to_point.specs.Sends.{or_full}
use Rattle.requests.specs.Regions.{handed_of, is_unfit_to_receive}
use Rattle.requests.specs.Table.{is_full}
use Rattle.requests.specs.declared.awaited_requests.Awaited.{Awaited}
use Rattle.sessions.specs.SessionsState.{SessionsState}
use Rattle.engine_calls.specs.Asks.{IsClear, asked_fault, with_group}
use Rattle.engine_calls.specs.Frames.{frame_limit}
use Rattle.engine_calls.specs.Refusals.{first_fault}

-- ---- no rule and no limit

by_tests : (a b d e f : Bool) →
    cond a (Some WrongType) (cond b (Some Count) (cond d (Some Tag) (cond e (Some Rank) None))) ≡ None →
    cond f (Some Limit) None ≡ None →
    cond a (Some WrongType) (cond b (Some Count) (cond d (Some Tag) (cond e (Some Rank) (cond f (Some Limit) None)))) ≡
    None
by_tests true b d e f rule limit = absurd cc
by_tests false true d e f rule limit = absurd cc
by_tests false false true e f rule limit = absurd cc
by_tests false false false true f rule limit = absurd cc
by_tests false false false false f rule limit = limit

receive_allowed : (c : CoreState) (v : RoutedReceive) → receive_rule c.place.size v ≡ None → or_full None c ≡ None →
    receive_fault c v ≡ None
unfolding receive_rule receive_fault
receive_allowed c v rule limit =
    by_tests (is_unfit_to_receive (handed_of v.receive.into)) (is_too_short (handed_of v.receive.into))
    (is_tag_above v.receive.tag)
    (is_source_beyond c.place.size v.route.named)
    (is_full c.slots c.serial) rule limit

both_none : (a b : Option Refusal) → a ≡ None → b ≡ None → first_of a b ≡ None
both_none None b first second = second
both_none (Some e) b first second = absurd cc

allowed_at : (a : Option Awaited) (c : CoreState) (q : RoutedCall) → request_fault_at a c q ≡ None →
    argument_fault c.place q ≡ None →
    limit_fault c q ≡ None → fault_at a c q ≡ None
allowed_at (Some a) c q free arguments limit = absurd cc
allowed_at None c (calls.Isend s) free arguments limit =
    ap (λ (o : Option Refusal). or_worn_out (or_full o c) (announced_to c.place s) c.transfers) arguments ∙ limit
allowed_at None c (calls.Irecv v) free arguments limit = receive_allowed c v arguments limit
allowed_at None c (calls.Wait q) free arguments limit = free
allowed_at None c (calls.Test q) free arguments limit = free
allowed_at None c (calls.Waitany qs) free arguments limit = free
allowed_at None c (calls.Waitall qs) free arguments limit = free
allowed_at None c (calls.Cancel q) free arguments limit = free
allowed_at None c (calls.Improbe p) free arguments limit =
    both_none (probe_rule c.place.size p.route.named p.probe.tag) (search_limit p.route.named c p) arguments limit
allowed_at None c (calls.Mrecv message into) free arguments limit =
    both_none (message_fault c message) (region_rule into) free arguments

-- a call that breaks no rule and meets no limit of the core's is allowed there
pub allowed_by : (c : CoreState) (q : RoutedCall) → request_fault c q ≡ None → argument_fault c.place q ≡ None →
    limit_fault c q ≡ None →
    call_fault c q ≡ None
allowed_by c q free arguments limit = allowed_at c.blocked c q free arguments limit

-- where the first of four is none, all of them are
record AreNone (a r l f : Option Refusal) : Type 0 where
  arguments : a ≡ None
  limit : l ≡ None
  frame : f ≡ None

are_none : (a r l f : Option Refusal) → first_fault a (first_fault r (first_fault l f)) ≡ None → AreNone a r l f
are_none None None None f is = record { arguments = refl; limit = refl; frame = is }
are_none None None (Some e) f is = absurd cc
are_none None (Some e) l f is = absurd cc
are_none (Some e) r l f is = absurd cc

pub is_clear : (c : CoreState) (s : SessionsState) (rule : Option Refusal) (q : RoutedCall) → request_fault c q ≡ None →
    None ≡ asked_fault c s rule q →
    IsClear c s q
is_clear c s rule q free none =
    let are : AreNone (argument_fault c.place q) rule (limit_fault c q) (frame_limit s (call_frame c q)) =
    are_none (argument_fault c.place q) rule (limit_fault c q) (frame_limit s (call_frame c q)) (sym none) in
    (allowed_by c q free are.arguments are.limit, are.frame)

-- ---- the group has no part in it

rule_same : (size : ℕ) (v : RoutedReceive) (group : Option (List ℕ)) → receive_rule size (record v { group = group }) ≡
    receive_rule size v
unfolding receive_rule
rule_same size v group = refl

pub arguments_same : (p : Place) (group : Option (List ℕ)) (q : RoutedCall) → argument_fault p (with_group group q) ≡
    argument_fault p q
arguments_same p group (calls.Isend s) = refl
arguments_same p group (calls.Irecv v) = rule_same p.size v group
arguments_same p group (calls.Wait q) = refl
arguments_same p group (calls.Test q) = refl
arguments_same p group (calls.Waitany qs) = refl
arguments_same p group (calls.Waitall qs) = refl
arguments_same p group (calls.Cancel q) = refl
arguments_same p group (calls.Improbe q) = refl
arguments_same p group (calls.Mrecv message into) = refl

fault_same : (c : CoreState) (v : RoutedReceive) (group : Option (List ℕ)) →
    receive_fault c (record v { group = group }) ≡ receive_fault c v
unfolding receive_fault
fault_same c v group = refl

search_by : (source : Source) (c : CoreState) (p : RoutedProbe) (group : Option (List ℕ)) →
    search_limit source c (record p { group = group }) ≡ search_limit source c p
search_by sources.Any c p group = refl
search_by (sources.Rank r) c p group = refl
search_by sources.Null c p group = refl

faults_at : (a : Option Awaited) (c : CoreState) (group : Option (List ℕ)) (q : RoutedCall) →
    fault_at a c (with_group group q) ≡ fault_at a c q
faults_at (Some a) c group q = refl
faults_at None c group (calls.Isend s) = refl
faults_at None c group (calls.Irecv v) = fault_same c v group
faults_at None c group (calls.Wait q) = refl
faults_at None c group (calls.Test q) = refl
faults_at None c group (calls.Waitany qs) = refl
faults_at None c group (calls.Waitall qs) = refl
faults_at None c group (calls.Cancel q) = refl
faults_at None c group (calls.Improbe p) =
    ap (first_of (probe_rule c.place.size p.route.named p.probe.tag)) (search_by p.route.named c p group)
faults_at None c group (calls.Mrecv message into) = refl

frame_by : (source : Source) (c : CoreState) (v : RoutedReceive) (group : Option (List ℕ)) →
    receive_frame source c (record v { group = group }) ≡ receive_frame source c v
frame_by sources.Any c v group = refl
frame_by (sources.Rank r) c v group = refl
frame_by sources.Null c v group = refl

pub frames_same : (c : CoreState) (group : Option (List ℕ)) (q : RoutedCall) → call_frame c (with_group group q) ≡
    call_frame c q
frames_same c group (calls.Isend s) = refl
frames_same c group (calls.Irecv v) = frame_by v.route.named c v group
frames_same c group (calls.Wait q) = refl
frames_same c group (calls.Test q) = refl
frames_same c group (calls.Waitany qs) = refl
frames_same c group (calls.Waitall qs) = refl
frames_same c group (calls.Cancel q) = refl
frames_same c group (calls.Improbe p) = refl
frames_same c group (calls.Mrecv message into) = refl

pub limits_same : (c : CoreState) (group : Option (List ℕ)) (q : RoutedCall) → limit_fault c (with_group group q) ≡
    limit_fault c q
limits_same c group (calls.Isend s) = refl
limits_same c group (calls.Irecv v) = refl
limits_same c group (calls.Wait q) = refl
limits_same c group (calls.Test q) = refl
limits_same c group (calls.Waitany qs) = refl
limits_same c group (calls.Waitall qs) = refl
limits_same c group (calls.Cancel q) = refl
limits_same c group (calls.Improbe p) = search_by p.route.named c p group
limits_same c group (calls.Mrecv message into) = refl

-- what is clear is so with any group
pub clear_same : (c : CoreState) (s : SessionsState) (group : Option (List ℕ)) (q : RoutedCall) → IsClear c s q →
    IsClear c s (with_group group q)
clear_same c s group q clear =
    (faults_at c.blocked c group q ∙ clear.0, ap (frame_limit s) (frames_same c group q) ∙ clear.1)

-- and each element has its width
pub within_same : (group : Option (List ℕ)) (q : RoutedCall) → IsWithin q → IsWithin (with_group group q)
within_same group (calls.Isend s) within = within
within_same group (calls.Irecv v) within = tt
within_same group (calls.Wait q) within = tt
within_same group (calls.Test q) within = tt
within_same group (calls.Waitany qs) within = tt
within_same group (calls.Waitall qs) within = tt
within_same group (calls.Cancel q) within = tt
within_same group (calls.Improbe p) within = tt
within_same group (calls.Mrecv message into) within = tt
