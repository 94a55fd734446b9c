-- A call on world is judged and taken as the call of queues that it is, and is seen as that.
use Rattle.std.proofs.Common.{◌≡◌, ℕ, List, Option, Some, None, option_map, refl, sym, ap, subst, ◌∙◌, slice_get}
use Rattle.perfect_groups.proofs.CallProofs.{world_is_as_before}
use Rattle.perfect_groups.specs.CallLaws.{IsAsOnWorld}
use Rattle.perfect_groups.specs.Calls.{OfRequests, Reply, entry_of, queue_call, queue_reply, reply_at_once}
use Rattle.perfect_groups.specs.Communicators.{world_of}
use Rattle.perfect_groups.specs.Events.{call_and_reply, ready_by, told_of}
use Rattle.perfect_groups.specs.Faults.{fault}
use Rattle.perfect_groups.specs.Membership.{Membership}
use Rattle.perfect_queues.specs.Buffers.{Handed}
use Rattle.perfect_queues.specs.Calls as queues
use Rattle.perfect_queues.specs.Completions as completions
use Rattle.perfect_queues.specs.Completions.{Awaited, Unanswered}
use Rattle.perfect_queues.specs.Events as queue_events
use Rattle.perfect_queues.specs.Receives.{Probe, Receive}
use Rattle.perfect_queues.specs.Refusals as refusals
use Rattle.perfect_queues.specs.Refusals.{world}
use Rattle.perfect_queues.specs.State.{Local}
use Rattle.vocabulary.specs.declared.endpoint.Endpoint.{Endpoint}
use Rattle.vocabulary.specs.declared.envelope.Source.{Source}
use Rattle.proof_network_bridge.specs.OnWorld.{IsOnWorld, call_on_world, entries_on_world}

-- a receive on world is what its source, tag and buffer say
pub receive_is : (source : Source) (tag : Option ℕ) (context : ℕ) (group : Option (List ℕ)) (into : Handed) →
    context ≡ world → group ≡ None →
    ◌≡◌ {A = Receive} (record { source = source; tag = tag; context = world; group = None; into = into })
    (record { source = source; tag = tag; context = context; group = group; into = into })
receive_is source tag context group into c g =
    subst (λ (x : ℕ). ◌≡◌ {A = Receive}
    (record { source = source; tag = tag; context = world; group = None; into = into })
    (record { source = source; tag = tag; context = x; group = group; into = into })) (sym c)
    (subst (λ (x : Option (List ℕ)). ◌≡◌ {A = Receive}
    (record { source = source; tag = tag; context = world; group = None; into = into })
    (record { source = source; tag = tag; context = world; group = x; into = into })) (sym g) refl)

-- and a probe on world is what its source and tag say
pub probe_is : (source : Source) (tag : Option ℕ) (context : ℕ) (group : Option (List ℕ)) → context ≡ world →
    group ≡ None →
    ◌≡◌ {A = Probe} (record { source = source; tag = tag; context = world; group = None })
    (record { source = source; tag = tag; context = context; group = group })
probe_is source tag context group c g =
    subst (λ (x : ℕ). ◌≡◌ {A = Probe} (record { source = source; tag = tag; context = world; group = None })
    (record { source = source; tag = tag; context = x; group = group })) (sym c)
    (subst (λ (x : Option (List ℕ)). ◌≡◌ {A = Probe}
    (record { source = source; tag = tag; context = world; group = None })
    (record { source = source; tag = tag; context = world; group = x })) (sym g) refl)

-- calls that name requests alone
requests_as_before : (n : ℕ) (e : Endpoint) (l : Local) (m : Membership) → m.present ≡ None →
    ((a : Awaited) → fault e l m (call_on_world (queues.Wait a)) ≡ refusals.fault n l (queues.Wait a))
    × ((r : Option ℕ) → fault e l m (call_on_world (queues.Test r)) ≡ refusals.fault n l (queues.Test r))
    × ((r : Option ℕ) → fault e l m (call_on_world (queues.Cancel r)) ≡ refusals.fault n l (queues.Cancel r))
requests_as_before n e l m none =
    (λ a. waits a l.blocked refl, λ r. tests r l.blocked refl, λ r. cancels r l.blocked refl)
  where
    waits : (a : Awaited) (o : Option Unanswered) → l.blocked ≡ o → fault e l m (call_on_world (queues.Wait a)) ≡
        refusals.fault n l (queues.Wait a)
    waits a None free = rw (none, free) refl
    waits a (Some b) busy = rw (none, busy) refl

    tests : (r : Option ℕ) (o : Option Unanswered) → l.blocked ≡ o → fault e l m (call_on_world (queues.Test r)) ≡
        refusals.fault n l (queues.Test r)
    tests r None free = rw (none, free) refl
    tests r (Some b) busy = rw (none, busy) refl

    cancels : (r : Option ℕ) (o : Option Unanswered) → l.blocked ≡ o → fault e l m (call_on_world (queues.Cancel r)) ≡
        refusals.fault n l (queues.Cancel r)
    cancels r None free = rw (none, free) refl
    cancels r (Some b) busy = rw (none, busy) refl

-- whoever is in no collective, and holds world first
pub world_call : (n : ℕ) (e : Endpoint) (l : Local) (m : Membership) (q : queues.Call) → m.present ≡ None →
    slice_get m.held 0 ≡ Some (world_of n) → IsOnWorld q → IsAsOnWorld n e l m (call_on_world q) q
world_call n e l m (queues.Isend mode context to tag from) none held is =
    subst (λ (x : ℕ). IsAsOnWorld n e l m (call_on_world (queues.Isend mode context to tag from))
    (queues.Isend mode x to tag from)) (sym is)
    ((world_is_as_before n e l m none held).0 mode to tag from)
world_call n e l m (queues.Irecv p) none held is =
    subst (λ (x : Receive). IsAsOnWorld n e l m (call_on_world (queues.Irecv p)) (queues.Irecv x))
    (receive_is p.source p.tag p.context p.group p.into is.0 is.1)
    ((world_is_as_before n e l m none held).1 p.source p.tag p.into)
world_call n e l m (queues.Wait a) none held is =
    record { judged = (requests_as_before n e l m none).0 a; taken = λ h. refl }
world_call n e l m (queues.Test r) none held is =
    record { judged = (requests_as_before n e l m none).1 r; taken = λ h. refl }
world_call n e l m (queues.Cancel r) none held is =
    record { judged = (requests_as_before n e l m none).2 r; taken = λ h. refl }
world_call n e l m (queues.Iprobe q) none held is =
    subst (λ (x : Probe). IsAsOnWorld n e l m (call_on_world (queues.Iprobe q)) (queues.Iprobe x))
    (probe_is q.source q.tag q.context q.group is.0 is.1)
    ((world_is_as_before n e l m none held).2 q.source q.tag).0
world_call n e l m (queues.Improbe q) none held is =
    subst (λ (x : Probe). IsAsOnWorld n e l m (call_on_world (queues.Improbe q)) (queues.Improbe x))
    (probe_is q.source q.tag q.context q.group is.0 is.1)
    ((world_is_as_before n e l m none held).2 q.source q.tag).1
world_call n e l m (queues.Mrecv message into) none held is = (world_is_as_before n e l m none held).3 message into

-- it enters nothing
pub enters_nothing : (m : Membership) (q : queues.Call) → entry_of m (call_on_world q) ≡ None
enters_nothing m (queues.Isend mode context to tag from) = refl
enters_nothing m (queues.Irecv p) = refl
enters_nothing m (queues.Wait a) = refl
enters_nothing m (queues.Test r) = refl
enters_nothing m (queues.Cancel r) = refl
enters_nothing m (queues.Iprobe q) = refl
enters_nothing m (queues.Improbe q) = refl
enters_nothing m (queues.Mrecv message into) = refl

-- what it answers at once
pub reply_is : (e : Endpoint) (l : Local) (m : Membership) (q : queues.Call) → queue_call m (call_on_world q) ≡ Some q →
    reply_at_once e l m (call_on_world q) ≡ option_map OfRequests (queues.immediate_reply l q)
reply_is e l m (queues.Isend mode context to tag from) is = ap (queue_reply l) is
reply_is e l m (queues.Irecv p) is = ap (queue_reply l) is
reply_is e l m (queues.Wait a) is = refl
reply_is e l m (queues.Test r) is = refl
reply_is e l m (queues.Cancel r) is = refl
reply_is e l m (queues.Iprobe q) is = ap (queue_reply l) is
reply_is e l m (queues.Improbe q) is = ap (queue_reply l) is
reply_is e l m (queues.Mrecv message into) is = refl

-- what is seen of it
told_on_world : (e : Endpoint) (q : queues.Call) (o : Option queues.Reply) (a : Option (completions.Answer × List ℕ)) →
    told_of e (Some (call_on_world q, option_map OfRequests o)) (ready_by None a) ≡
    entries_on_world (queue_events.told e (Some (q, o)) a)
told_on_world e q (Some r) a = refl
told_on_world e q None (Some (x, ks)) = refl
told_on_world e q None None = refl

pub call_told : (e : Endpoint) (l : Local) (m : Membership) (q : queues.Call)
    (a : Option (completions.Answer × List ℕ)) → queue_call m (call_on_world q) ≡ Some q →
    told_of e (call_and_reply e l m (Some (call_on_world q))) (ready_by None a) ≡
    entries_on_world (queue_events.told e (queue_events.call_and_reply l (Some q)) a)
call_told e l m q a is =
    ap (λ (o : Option Reply). told_of e (Some (call_on_world q, o)) (ready_by None a)) (reply_is e l m q is) ∙
    told_on_world e q (queues.immediate_reply l q) a

-- and of an event without a call
pub word_told : (e : Endpoint) (a : Option (completions.Answer × List ℕ)) → told_of e None (ready_by None a) ≡
    entries_on_world (queue_events.told e None a)
word_told e (Some (x, ks)) = refl
word_told e None = refl
