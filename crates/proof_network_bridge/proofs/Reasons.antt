-- What an engine refuses it refuses for a reason of the network's too, and what it takes has no fault there.
use Rattle.std.proofs.Common.{◌≡◌, ℕ, Bool, true, false, ◌||◌, List, Option, Some, None, refl, sym, ap, ◌∙◌, subst}
use Rattle.std.proofs.Common.{is_some, arith}
use Rattle.std.specs.Prelude.{slice_get}
use Rattle.collective_messages.specs.declared.entry.Entry as collective
use Rattle.communicators.specs.declared.question.Question.{Question}
use Rattle.engine_calls.specs.Calls.{AskingGives, CallGives, CoreGives, EnteringGives, IsAnswered, IsEntered, IsLooked}
use Rattle.engine_calls.specs.Calls.{IsRefused, IsTaken, IsTold, LookingGives, WhyRefused}
use Rattle.engine_calls.specs.EngineState.{EngineState, member_of}
use Rattle.engine_calls.specs.Faults.{broken, fault_of, free_fault, is_busy}
use Rattle.engine_calls.specs.Refusals.{first_fault}
use Rattle.engine_calls.specs.declared.call.Call.{Call}
use Rattle.engine_calls.specs.declared.call.Call.TheVariants as calls
use Rattle.point_to_point_calls.specs.declared.call.Probe.{Probe}
use Rattle.engine_calls.specs.declared.reply.Fact.{Fact}
use Rattle.engine_calls.specs.declared.reply.Reply.{Reply}
use Rattle.engine_calls.specs.declared.reply.Reply.TheVariants as replies
use Rattle.incarnation.specs.declared.place.Place.{Place}
use Rattle.perfect_groups.specs.Calls as machine
use Rattle.perfect_groups.specs.Events.{Entry}
use Rattle.perfect_groups.specs.Faults.{fault, fault_by, is_within}
use Rattle.perfect_queues.specs.Refusals.{standing}
use Rattle.proof_collective_steps.specs.MemberViews as collectives
use Rattle.observation.specs.Reasons.{IsReason}
use Rattle.proof_engine_view.specs.Transfers.{Announcements}
use Rattle.proof_session_carrying.specs.Announcements.{announcements_in}
use Rattle.proof_group_network.proofs.NetworkInvariant.{run_limit_with_groups}
use Rattle.proof_group_network.proofs.NetworkRest.{is_run_of_groups}
use Rattle.proof_group_network.proofs.NoticesStand.{notices_stand}
use Rattle.proof_group_network.specs.Network.{new_group_network}
use Rattle.proof_group_network.specs.Network.{GroupNetwork}
use Rattle.proof_group_network.specs.Notices.{Member}
use Rattle.proof_network_bridge.proofs.RankEvents.{IsHeldAs, held_at}
use Rattle.proof_network_bridge.proofs.Members.{are_in_world, busy_same, held_same, within_same}
use Rattle.proof_network_bridge.proofs.Refusals.{by_rule, free_faultless, free_reason}
use Rattle.proof_network_bridge.proofs.RoutedFaults.{IsFree}
use Rattle.proof_network_bridge.proofs.Worlds.{place_is}
use Rattle.proof_network_bridge.specs.Alone.{EnginesAreRanks, EnginesJudgeAsTheMachine, EnginesRefuseAsTheMachine}
use Rattle.proof_network_bridge.specs.Alone.{EnginesTakeNoFault, IsRank}
use Rattle.observation.specs.Faults.{IsFaultless}
use Rattle.proof_network_bridge.specs.WorldViews.{IsFollowed, network_after}
use Rattle.observation.specs.EngineCalls.{call_meant, call_seen}
use Rattle.proof_pure_network.specs.Core.{Core, view}
use Rattle.proof_pure_network.specs.WaitingMessages.{blank}
use Rattle.proof_pure_network.specs.Network.{here}
use Rattle.proof_queue_calls.specs.Halves.{AreInWorld}
use Rattle.point_to_point_calls.specs.declared.refusal.Refusal.{Refusal}
use Rattle.point_to_point_calls.specs.declared.refusal.Refusal.TheVariants as refusals
use Rattle.requests.specs.declared.awaited_requests.Awaited.{Awaited}
use Rattle.vocabulary.specs.declared.endpoint.Endpoint.{Endpoint}
use Rattle.vocabulary.specs.declared.envelope.Status.{Status}

-- ---- WHAT A CALL GAVE

-- a call of point to point, or on requests, that was taken was answered
pub answered : (old new : EngineState) (call : Call) (reply : Reply) → IsTaken reply → CoreGives old call reply new →
    IsAnswered old call reply new
answered old new call (replies.Refused why back) taken gives = absurd taken
answered old new call (replies.Started q) taken gives = gives
answered old new call (replies.Done o) taken gives = gives
answered old new call replies.Pending taken gives = gives
answered old new call replies.Accepted taken gives = gives
answered old new call replies.Blocked taken gives = gives
answered old new call (replies.Left o) taken gives = gives
answered old new call (replies.Fact f) taken gives = gives
answered old new call (replies.Probed found) taken gives = gives
answered old new call (replies.Matched found) taken gives = gives

-- a collective that was taken was entered
pub entered : (old new : EngineState) (comm : Option ℕ) (x : collective.Entry) (reply : Reply) → IsTaken reply →
    EnteringGives old comm x reply new → IsEntered old comm x reply new
entered old new comm x (replies.Refused why back) taken gives = absurd taken
entered old new comm x (replies.Started q) taken gives = gives
entered old new comm x (replies.Done o) taken gives = gives
entered old new comm x replies.Pending taken gives = gives
entered old new comm x replies.Accepted taken gives = gives
entered old new comm x replies.Blocked taken gives = gives
entered old new comm x (replies.Left o) taken gives = gives
entered old new comm x (replies.Fact f) taken gives = gives
entered old new comm x (replies.Probed found) taken gives = gives
entered old new comm x (replies.Matched found) taken gives = gives

-- a question that was taken was answered with a fact
pub record IsAnsweredWith (old : EngineState) (comm : Option ℕ) (q : Question) (reply : Reply)
    (new : EngineState) : Type 0 where
  pub fact : Fact
  pub reply_is : reply ≡ replies.Fact fact
  pub told : IsTold old comm q fact new

pub asked : (old new : EngineState) (comm : Option ℕ) (q : Question) (reply : Reply) → IsTaken reply →
    AskingGives old comm q reply new → IsAnsweredWith old comm q reply new
asked old new comm q (replies.Refused why back) taken gives = absurd taken
asked old new comm q (replies.Started r) taken gives = absurd gives
asked old new comm q (replies.Done o) taken gives = absurd gives
asked old new comm q replies.Pending taken gives = absurd gives
asked old new comm q replies.Accepted taken gives = absurd gives
asked old new comm q replies.Blocked taken gives = absurd gives
asked old new comm q (replies.Left o) taken gives = absurd gives
asked old new comm q (replies.Probed found) taken gives = absurd gives
asked old new comm q (replies.Matched found) taken gives = absurd gives
asked old new comm q (replies.Fact f) taken gives = record { fact = f; reply_is = refl; told = gives }

-- a probe that takes nothing out, and that was taken, was answered with what it found
pub record IsLookedWith (old : EngineState) (p : Probe) (reply : Reply) (new : EngineState) : Type 0 where
  pub found : Option Status
  pub reply_is : reply ≡ replies.Probed found
  pub looked : IsLooked old p found new

pub looked : (old new : EngineState) (p : Probe) (reply : Reply) → IsTaken reply → LookingGives old p reply new →
    IsLookedWith old p reply new
looked old new p (replies.Refused why back) taken gives = absurd taken
looked old new p (replies.Started r) taken gives = absurd gives
looked old new p (replies.Done o) taken gives = absurd gives
looked old new p replies.Pending taken gives = absurd gives
looked old new p replies.Accepted taken gives = absurd gives
looked old new p replies.Blocked taken gives = absurd gives
looked old new p (replies.Left o) taken gives = absurd gives
looked old new p (replies.Fact f) taken gives = absurd gives
looked old new p (replies.Matched found) taken gives = absurd gives
looked old new p (replies.Probed found) taken gives = record { found = found; reply_is = refl; looked = gives }

-- whatever was taken met no rule and no limit
allowed : (old new : EngineState) (call : Call) (reply : Reply) → IsTaken reply → CallGives old call reply new →
    fault_of old call ≡ None
allowed old new (calls.Isend s) reply taken gives = (answered old new (calls.Isend s) reply taken gives).allowed
allowed old new (calls.Irecv v) reply taken gives = (answered old new (calls.Irecv v) reply taken gives).allowed
allowed old new (calls.Wait q) reply taken gives = (answered old new (calls.Wait q) reply taken gives).allowed
allowed old new (calls.Test q) reply taken gives = (answered old new (calls.Test q) reply taken gives).allowed
allowed old new (calls.Waitany qs) reply taken gives = (answered old new (calls.Waitany qs) reply taken gives).allowed
allowed old new (calls.Waitall qs) reply taken gives = (answered old new (calls.Waitall qs) reply taken gives).allowed
allowed old new (calls.Cancel q) reply taken gives = (answered old new (calls.Cancel q) reply taken gives).allowed
allowed old new (calls.Iprobe p) reply taken gives = (looked old new p reply taken gives).looked.allowed
allowed old new (calls.Improbe p) reply taken gives = (answered old new (calls.Improbe p) reply taken gives).allowed
allowed old new (calls.Mrecv q into) reply taken gives =
    (answered old new (calls.Mrecv q into) reply taken gives).allowed
allowed old new (calls.Enter comm x) reply taken gives = (entered old new comm x reply taken gives).allowed
allowed old new (calls.Ask comm q) reply taken gives = (asked old new comm q reply taken gives).told.allowed

-- what was refused was so for its first rule or limit, or for want of room
refused : (old new : EngineState) (call : Call) (why : Refusal) (back : Call) →
    CallGives old call (replies.Refused why back) new → IsRefused old call why back new
refused old new (calls.Isend s) why back gives = gives
refused old new (calls.Irecv v) why back gives = gives
refused old new (calls.Wait q) why back gives = gives
refused old new (calls.Test q) why back gives = gives
refused old new (calls.Waitany qs) why back gives = gives
refused old new (calls.Waitall qs) why back gives = gives
refused old new (calls.Cancel q) why back gives = gives
refused old new (calls.Iprobe p) why back gives = gives
refused old new (calls.Improbe p) why back gives = gives
refused old new (calls.Mrecv q into) why back gives = gives
refused old new (calls.Enter comm x) why back gives = gives
refused old new (calls.Ask comm q) why back gives = gives

-- ---- AN ENGINE OF THE WORLD

-- neither of two tests holds
neither : (a b : Bool) → (a || b) ≡ false → (a ≡ false) × (b ≡ false)
neither true b h = absurd cc
neither false b h = (refl, h)

none_there : (o : Option Awaited) → is_some o ≡ false → o ≡ None
none_there None h = refl
none_there (Some x) h = absurd cc

-- what it holds, while no earlier call of it is blocked
free_at : (a : Announcements) (own : Endpoint) (e : EngineState) (core : Core) (m : Member) → IsHeldAs a own e core m →
    is_busy e ≡ false → AreInWorld e.core.place.size m.membership →
    core.message_limit ≡ e.core.place.message_limit → IsFree a e core m.membership
free_at a own e core m h idle inside limit =
    let two = neither (is_some e.core.blocked) (is_within (member_of e.groups).present) idle in
    record {
      shown = h.queues;
      idle = none_there e.core.blocked two.0;
      apart = within_same own e.groups m h.groups ∙ two.1;
      held = held_same own e.groups m h.groups;
      known = λ t r. h.queues.known_alike r t;
      inside = inside;
      placed = h.placed;
      limit = limit;
    }

-- its communicators are of ranks of world
inside_world : (n r : ℕ) (engines : List EngineState) (datagrams : List (ℕ × List ℕ)) (history : List Entry)
    (e : EngineState) (f : IsFollowed n engines datagrams history) → slice_get engines r ≡ Some e →
    AreInWorld e.core.place.size
    ((network_after n f.limit f.happenings).member (here (network_after n f.limit f.happenings).net r)).membership
inside_world n r engines datagrams history e f there =
    let w : GroupNetwork = network_after n f.limit f.happenings in
    let place = place_is n r engines datagrams w e f.joined there in
    let size : e.core.place.size ≡ n = ap (λ (p : Place). p.size) ((f.joined.held r e there).placed ∙ place.1) in
    subst (λ (k : ℕ). AreInWorld k (w.member (here w.net r)).membership) (sym size)
    (are_in_world n (w.member (here w.net r)).membership
    ((notices_stand n f.limit f.happenings (omega (arith, f.few))).held r place.0))

-- and its core has the limit of messages of its job
limit_world : (n r : ℕ) (engines : List EngineState) (datagrams : List (ℕ × List ℕ)) (history : List Entry)
    (e : EngineState) (f : IsFollowed n engines datagrams history) → slice_get engines r ≡ Some e →
    ((network_after n f.limit f.happenings).net.core
    (here (network_after n f.limit f.happenings).net r)).message_limit ≡
    e.core.place.message_limit
limit_world n r engines datagrams history e f there =
    let w : GroupNetwork = network_after n f.limit f.happenings in
    (is_run_of_groups n f.limit f.happenings (omega (arith, f.few))).limits (here w.net r)
    ∙ sym (run_limit_with_groups n f.happenings (new_group_network n f.limit))
    ∙ sym (f.joined.limits r e there)
    ∙ ap (λ (p : Place). p.message_limit) (sym (f.joined.held r e there).placed)

-- while an earlier call is blocked, the machine's first fault is 6
busy_fault : (a : Announcements) (own : Endpoint) (e : EngineState) (core : Core) (m : Member) (c : machine.Call) →
    IsHeldAs a own e core m → is_busy e ≡ true →
    fault own (view blank core) m.membership c ≡ Some 6
busy_fault a own e core m c h busy =
    ap (λ (b : Bool). fault_by core.message_limit b (λ k. standing (slice_get (view blank core).requests k)) own
    core.known m.membership c)
    (busy_same a own e core m h.queues h.groups ∙ busy)

-- ---- AN ENGINE ALONE

-- a call that an engine refuses has the fault of its own part of the machine; or that finds none, and the number is 13
-- or 14
refused_alone : (a : Announcements) (own : Endpoint) (e mid : EngineState) (core : Core) (m : Member) (call back : Call)
    (why : Refusal) → IsHeldAs a own e core m → AreInWorld e.core.place.size m.membership →
    core.message_limit ≡ e.core.place.message_limit → CallGives e call (replies.Refused why back) mid →
    IsReason (fault own (view blank core) m.membership (call_meant e.core call)) why
refused_alone a own e mid core m call back why h inside limit gives =
    go (is_busy e) refl (refused e mid call why back gives).reason
  where
    go : (b : Bool) → is_busy e ≡ b →
        WhyRefused (first_fault (broken b refusals.Request) (free_fault e call)) e call why →
        IsReason (fault own (view blank core) m.membership (call_meant e.core call)) why
    go true busy because =
        by_rule (fault own (view blank core) m.membership (call_meant e.core call)) refusals.Request why because
        (busy_fault a own e core m (call_meant e.core call) h busy)
    go false idle because =
        free_reason a own e core m.membership call why (free_at a own e core m h idle inside limit) h.groups.own because

-- a call that meets no rule and no limit has no fault there, and names no request of another engine
allowed_alone : (a : Announcements) (own : Endpoint) (e : EngineState) (core : Core) (m : Member) (call : Call) →
    IsHeldAs a own e core m → AreInWorld e.core.place.size m.membership →
    core.message_limit ≡ e.core.place.message_limit → fault_of e call ≡ None →
    IsFaultless (fault own (view blank core) m.membership (call_seen call)) e.core call
allowed_alone a own e core m call h inside limit fine = go (is_busy e) refl fine
  where
    go : (b : Bool) → is_busy e ≡ b → first_fault (broken b refusals.Request) (free_fault e call) ≡ None →
        IsFaultless (fault own (view blank core) m.membership (call_seen call)) e.core call
    go true busy none = absurd cc
    go false idle none =
        free_faultless a own e core m.membership call (free_at a own e core m h idle inside limit) h.groups.own none

-- a rank holds what its core and its member hold
rank_holds : (e : EngineState) (core : Core) (m : Member) → (r : IsRank e core m) →
    IsHeldAs r.announced e.sessions.place.endpoint e core m
rank_holds e core m r = record { queues = r.queues; groups = r.groups; placed = r.placed }

pub engines_refuse_as_the_machine : EnginesRefuseAsTheMachine
engines_refuse_as_the_machine e mid core m call back why r gives =
    refused_alone r.announced e.sessions.place.endpoint e mid core m call back why (rank_holds e core m r) r.inside
    r.limit gives

pub engines_judge_as_the_machine : EnginesJudgeAsTheMachine
engines_judge_as_the_machine e core m call r fine =
    allowed_alone r.announced e.sessions.place.endpoint e core m call (rank_holds e core m r) r.inside r.limit fine

pub engines_take_no_fault : EnginesTakeNoFault
engines_take_no_fault e mid core m call reply r taken gives =
    engines_judge_as_the_machine e core m call r (allowed e mid call reply taken gives)

-- ---- AN ENGINE OF A WORLD

-- it is a rank
pub engines_are_ranks : EnginesAreRanks
engines_are_ranks n r engines datagrams history e f there =
    let w : GroupNetwork = network_after n f.limit f.happenings in
    let own : Endpoint = here w.net r in
    let h : IsHeldAs (announcements_in 0 f.joined.sessions own) own e (w.net.core own) (w.member own) = held_at n r engines datagrams w e f.joined there 0 in
    let endpoint : own ≡ e.sessions.place.endpoint = sym (ap (λ (p : Place). p.endpoint) (place_is n r engines datagrams w e f.joined there).1) in
    record {
      core = w.net.core own;
      member = w.member own;
      rank = record {
        announced = announcements_in 0 f.joined.sessions own;
        queues = h.queues;
        groups = subst
            (λ (x : Endpoint). collectives.IsShown x e.groups.collective e.groups.contexts (w.member own) None) endpoint
            h.groups;
        placed = h.placed;
        inside = inside_world n r engines datagrams history e f there;
        limit = limit_world n r engines datagrams history e f there;
      };
    }

-- a call that the engine refuses has the network's first fault, by its number; or the network finds none, and the
-- number is 13 or 14
pub refused_reason : (n r : ℕ) (engines : List EngineState) (datagrams : List (ℕ × List ℕ)) (history : List Entry)
    (e mid : EngineState) (call back : Call) (why : Refusal) →
    (f : IsFollowed n engines datagrams history) → slice_get engines r ≡ Some e →
    CallGives e call (replies.Refused why back) mid →
    IsReason (fault (here (network_after n f.limit f.happenings).net r)
    (view blank ((network_after n f.limit f.happenings).net.core (here (network_after n f.limit f.happenings).net r)))
    ((network_after n f.limit f.happenings).member (here (network_after n f.limit f.happenings).net r)).membership
    (call_meant e.core call)) why
refused_reason n r engines datagrams history e mid call back why f there gives =
    let w : GroupNetwork = network_after n f.limit f.happenings in
    let own : Endpoint = here w.net r in
    refused_alone (announcements_in 0 f.joined.sessions own) own e mid (w.net.core own) (w.member own) call back why
    (held_at n r engines datagrams w e f.joined there 0)
    (inside_world n r engines datagrams history e f there) (limit_world n r engines datagrams history e f there) gives

-- a call that meets no rule and no limit has no fault there, and names no request of another engine
pub allowed_faultless : (n r : ℕ) (engines : List EngineState) (datagrams : List (ℕ × List ℕ)) (history : List Entry)
    (e : EngineState) (call : Call) → (f : IsFollowed n engines datagrams history) →
    slice_get engines r ≡ Some e → fault_of e call ≡ None →
    IsFaultless
    (fault (here (network_after n f.limit f.happenings).net r)
    (view blank ((network_after n f.limit f.happenings).net.core (here (network_after n f.limit f.happenings).net r)))
    ((network_after n f.limit f.happenings).member (here (network_after n f.limit f.happenings).net r)).membership
    (call_seen call))
    e.core call
allowed_faultless n r engines datagrams history e call f there fine =
    let w : GroupNetwork = network_after n f.limit f.happenings in
    let own : Endpoint = here w.net r in
    allowed_alone (announcements_in 0 f.joined.sessions own) own e (w.net.core own) (w.member own) call
    (held_at n r engines datagrams w e f.joined there 0)
    (inside_world n r engines datagrams history e f there) (limit_world n r engines datagrams history e f there) fine

-- so has one that it takes
pub taken_faultless : (n r : ℕ) (engines : List EngineState) (datagrams : List (ℕ × List ℕ)) (history : List Entry)
    (e mid : EngineState) (call : Call) (reply : Reply) →
    (f : IsFollowed n engines datagrams history) → slice_get engines r ≡ Some e → IsTaken reply →
    CallGives e call reply mid →
    IsFaultless
    (fault (here (network_after n f.limit f.happenings).net r)
    (view blank ((network_after n f.limit f.happenings).net.core (here (network_after n f.limit f.happenings).net r)))
    ((network_after n f.limit f.happenings).member (here (network_after n f.limit f.happenings).net r)).membership
    (call_seen call))
    e.core call
taken_faultless n r engines datagrams history e mid call reply f there taken gives =
    allowed_faultless n r engines datagrams history e call f there (allowed e mid call reply taken gives)
