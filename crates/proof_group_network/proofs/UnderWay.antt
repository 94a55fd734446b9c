-- What holds while an event of a network with communicators and collectives is under way.
use Rattle.std.proofs.Common.{◌≡◌, ℕ, zero, suc, ◌+◌, ◌≤◌, ◌<◌, Bool, true, false, ◌&&◌, ◌||◌, not, List, []}
use Rattle.std.proofs.Common.{◌∷◌, length, Option, Some, None, if◌then◌else◌, slice_get, nat_le}
use Rattle.std.proofs.Common.{nat_lt, refl, sym, ap, ap₂, ◌∙◌, subst, arith}
use Rattle.std.proofs.lemmas.Bool.{ltb-true, leb-true}
use Rattle.perfect_queues.specs.Calls as queues
use Rattle.perfect_groups.proofs.GroupRuns.{entry_held}
use Rattle.perfect_groups.specs.Calls.{Call, Reply, entry_of, queue_call}
use Rattle.perfect_groups.specs.Collectives.{Part}
use Rattle.perfect_groups.specs.Communicators.{Communicator}
use Rattle.perfect_groups.specs.Events.{Entry, answered_present, call_and_reply, call_fault}
use Rattle.perfect_groups.specs.Events.{ended_with, groups_start, ready_by, told_of}
use Rattle.perfect_groups.specs.Machine.{Machine, all_learnt, machine_opening}
use Rattle.perfect_groups.specs.Membership.{Groups, with_member}
use Rattle.perfect_groups.specs.Results.{is_making}
use Rattle.perfect_groups.specs.Runs.{after_run}
use Rattle.perfect_groups.specs.Soundness.{IsReal, IsThere}
use Rattle.perfect_queues.specs.Calls.{after_settling, ready_answer}
use Rattle.perfect_queues.specs.Events.{start}
use Rattle.perfect_queues.specs.State.{Local, with_local}
use Rattle.perfect_queues.specs.Steps.{Learn, learns}
use Rattle.proof_group_network.proofs.GroupEvents.{enter_groups, enter_honest, learned_groups, learned_honest}
use Rattle.proof_group_network.proofs.GroupEvents.{noted_groups, noted_honest, settled_groups, settled_honest}
use Rattle.proof_group_network.proofs.GroupSteps.{attempt_tried}
use Rattle.proof_group_network.proofs.Verdicts.{Tried}
use Rattle.proof_group_network.proofs.GroupInvariant.{Honest, put_same}
use Rattle.proof_group_network.proofs.NetworkMoves.{NetworkFollows, NetworkMidway, NetworkSeen, asked_learns}
use Rattle.proof_group_network.proofs.NetworkMoves.{came_learns, group_seen_more}
use Rattle.proof_group_network.proofs.NetworkMoves.{group_settle_follows, mid_call, mid_group, mid_queue}
use Rattle.proof_group_network.proofs.NetworkMoves.{replies_same}
use Rattle.proof_group_network.proofs.NoticeTruth.{IsTrue}
use Rattle.proof_group_network.specs.Network.{GroupNetwork, attempt_at}
use Rattle.proof_group_network.specs.Network.{call_queues, enter_at, groups_by, groups_in, has_serials}
use Rattle.proof_group_network.specs.Network.{hear_word, made_in, note_at}
use Rattle.proof_group_network.specs.Network.{note_some, noticed_on, put_member, settle_event, take_call}
use Rattle.proof_group_network.specs.Notices.{Member, Notice, attempt, is_first, member_learned, noted}
use Rattle.vocabulary.specs.Endpoints.{is_same}
use Rattle.vocabulary.specs.declared.endpoint.Endpoint.{Endpoint}
use Rattle.perfect_queues.specs.Completions as completions
use Rattle.proof_pure_network.specs.Contract.{Asked, Came, Work, taken_in}
use Rattle.proof_pure_network.specs.Core.{Core, view}
use Rattle.proof_pure_network.specs.Engine.{called, came, core_ready, core_settled, learned, met}
use Rattle.proof_pure_network.specs.Frames.{Frame, Values}
use Rattle.proof_pure_network.specs.WaitingMessages.{blank}
use Rattle.proof_pure_network.specs.Links.{accept_all, handed_on}
use Rattle.proof_pure_network.specs.Network.{Network, call_at, hand_at, hand_some, with_core}
use Rattle.proof_pure_network.proofs.CallInvariant.{call_logged, call_sane, call_spelled, heard_at}
use Rattle.proof_pure_network.proofs.DueSends.{call_due, hand_due, hear_due, settle_due}
use Rattle.proof_pure_network.proofs.EngineWork.{call_work, came_work, learn_local, view_settled}
use Rattle.proof_pure_network.proofs.EventInvariant.{answers_hold, asked_blank, hand_sane}
use Rattle.proof_pure_network.proofs.EventInvariant.{hear_sane, settle_sane}
use Rattle.proof_pure_network.proofs.FlowInvariant.{call_flows, hand_flows, hear_flows, settle_flows}
use Rattle.proof_pure_network.proofs.Honest.{IsLogged, called_honest, came_honest, met_honest}
use Rattle.proof_pure_network.proofs.Honest.{settled_honest as core_settled_honest}
use Rattle.proof_pure_network.proofs.HonestValues.{IsHonest}
use Rattle.proof_pure_network.proofs.Invariants.{Due, Extends, Flows, Sane, Spoken, all_at, views, views_with}
use Rattle.proof_pure_network.proofs.JobLemmas.{ready_core}
use Rattle.proof_pure_network.proofs.Joins.{Joined, Worked, ask_worked, hand_worked, hear_worked}
use Rattle.proof_pure_network.proofs.Knowledge.{came_known}
use Rattle.proof_pure_network.proofs.Pairs.{core_here}
use Rattle.proof_pure_network.proofs.Simulation.{is_stale}
use Rattle.proof_pure_network.proofs.SpeakerInvariant.{call_spoken, hand_spoken, hear_spoken, settle_spoken}
use Rattle.proof_pure_network.proofs.Tellings.{IsKnown}
use Rattle.vocabulary.specs.declared.message_limit.MessageLimit.{MessageLimit}

pub record NetworkKept (n : ℕ) (V : Values) (w : GroupNetwork) : Type 0 where
  pub sane : Sane V w.net
  pub spoken : Spoken w.net
  pub due : Due w.net
  pub flows : Flows V w.net
  pub honest : Honest n (groups_in w) (λ x. (w.member x).kept) w.notices
  -- no incarnation is above the last
  pub lasting : (r : ℕ) → w.net.current r ≤ 65535
  pub seen : NetworkSeen V n w.net.message_limit w.history (views V w.net) w.net.link w.net.current (groups_in w)

-- an event at e is under way since w0
pub record NetworkDoing (n : ℕ) (V : Values) (w0 w : GroupNetwork) (e : Endpoint) (call : Option Call) : Type 0 where
  pub sane : Sane V w.net
  pub spoken : Spoken w.net
  pub due : Due w.net
  pub flows : Flows V w.net
  pub honest : Honest n (groups_in w) (λ x. (w.member x).kept) w.notices
  pub before : NetworkSeen V n w0.net.message_limit w.history (views V w0.net) w0.net.link w0.net.current (groups_in w0)
  pub mid : NetworkMidway V (after_run (machine_opening n w0.net.message_limit) before.events) e call (views V w.net)
      w.net.link
      w.net.current (groups_in w)

-- WHAT A RANK DOES OF ITSELF

pub attempt_doing : (n : ℕ) (V : Values) (w0 w : GroupNetwork) (e : Endpoint) (call : Option Call) → n ≤ 65536 →
    IsReal e → NetworkDoing n V w0 w e call → NetworkDoing n V w0 (attempt_at w e) e call
attempt_doing n V w0 w e call le real d =
    record {
      sane = d.sane;
      spoken = d.spoken;
      due = d.due;
      flows = d.flows;
      honest = t.honest;
      before = d.before;
      mid = mid_group V (after_run (machine_opening n w0.net.message_limit) d.before.events) e call (views V w.net)
          w.net.link w.net.current
          (groups_in w) (groups_in (attempt_at w e)) d.mid t.move;
    }
  where
    t : Tried n w.member w.entered w.made w.notices e (attempt e (w.member e)).member
        (made_in w.made e (w.member e) (w.member e).membership.present) (attempt e (w.member e)).out
    t = attempt_tried n w.member w.entered w.made w.notices e le real d.honest

-- NOTICES COME

pub note_doing : (n : ℕ) (V : Values) (w0 w : GroupNetwork) (e a : Endpoint) (call : Option Call) (i : ℕ) (x : Notice) →
    n ≤ 65536 → IsReal e → slice_get (w.notices a e).accepted i ≡ Some x → NetworkDoing n V w0 w e call →
    NetworkDoing n V w0 (note_at w e a i (Some x)) e call
note_doing n V w0 w e a call i x le real next d = attempt_doing n V w0 w1 e call le real d1
  where
    w1 : GroupNetwork
    w1 = record w { member = put_member w.member e (noted (w.member e) a x); notices = noticed_on w.notices a e i }

    is : IsTrue n (groups_in w) a e x
    is = all_at (IsTrue n (groups_in w) a e) (w.notices a e).accepted i x (d.honest.told a e) next

    d1 : NetworkDoing n V w0 w1 e call
    d1 =
        record {
          sane = d.sane;
          spoken = d.spoken;
          due = d.due;
          flows = d.flows;
          honest = noted_honest n w.member w.entered w.made w.notices e a i x real is d.honest;
          before = d.before;
          mid = subst
              (λ (g : Groups). NetworkMidway V (after_run (machine_opening n w0.net.message_limit) d.before.events) e
              call
              (views V w.net) w.net.link w.net.current g) (noted_groups w.member w.entered w.made e a x) d.mid;
        }

pub note_some_doing : (n : ℕ) (V : Values) (w0 : GroupNetwork) (more : List ℕ) (w : GroupNetwork) (e a : Endpoint)
    (call : Option Call) → n ≤ 65536 → IsReal e → NetworkDoing n V w0 w e call →
    NetworkDoing n V w0 (note_some w e a more) e call
note_some_doing n V w0 [] w e a call le real d = d
note_some_doing n V w0 (i ∷ more) w e a call le real d =
    go (slice_get (w.notices a e).accepted i) refl (λ w1 d1. note_some_doing n V w0 more w1 e a call le real d1)
  where
    go : (o : Option Notice) → slice_get (w.notices a e).accepted i ≡ o →
        ((w1 : GroupNetwork) → NetworkDoing n V w0 w1 e call → NetworkDoing n V w0 (note_some w1 e a more) e call) →
        NetworkDoing n V w0 (note_some (note_at w e a i o) e a more) e call
    go None h ih = ih w d
    go (Some x) h ih = ih (note_at w e a i (Some x)) (note_doing n V w0 w e a call i x le real h d)

-- A WORD IS HEARD

pub hear_doing_with_groups : (n : ℕ) (V : Values) (w0 w : GroupNetwork) (e a : Endpoint) (call : Option Call) →
    e.incarnation ≡ w.net.current e.rank → a.incarnation ≤ w.net.current a.rank → IsReal e →
    NetworkDoing n V w0 w e call → NetworkDoing n V w0 (hear_word w e a) e call
hear_doing_with_groups n V w0 w e a call now below real d =
    record {
      sane = hear_sane V w.net e a now below d.sane;
      due = hear_due V w.net e a d.sane d.due;
      flows = hear_flows V w.net e a d.sane d.due (met_honest V e (w.net.core e) a (d.sane.cores e)).jobs d.flows;
      spoken = hear_spoken w.net e a d.spoken;
      honest = honest (nat_lt ((w.net.core e).known a.rank) a.incarnation);
      before = d.before;
      mid = subst
          (λ (locals : Endpoint → Local). NetworkMidway V s e call locals w.net.link w.net.current
          (groups_in (hear_word w e a))) (sym (views_with V w.net.core e (met (w.net.core e) a)))
          (mid (nat_lt ((w.net.core e).known a.rank) a.incarnation) refl);
    }
  where
    s : Machine
    s = after_run (machine_opening n w0.net.message_limit) d.before.events

    r : ℕ
    r = a.rank

    i : ℕ
    i = a.incarnation

    heard : Bool → Member
    heard t = if t then member_learned (w.member e) r i else w.member e

    honest : (t : Bool) →
        Honest n (groups_by (put_member w.member e (heard t)) w.entered w.made)
        (λ x. (put_member w.member e (heard t) x).kept) w.notices
    honest true = learned_honest n w.member w.entered w.made w.notices e r i real d.honest
    honest false =
        subst (λ (ms : Endpoint → Member). Honest n (groups_by ms w.entered w.made) (λ x. (ms x).kept) w.notices)
        (sym (put_same w.member e)) d.honest

    core' : Bool → Core
    core' t = if t then learned (w.net.core e) r i else w.net.core e

    mid : (t : Bool) → nat_lt ((w.net.core e).known r) i ≡ t →
        NetworkMidway V s e call (with_local (views V w.net) e (view V (core' t))) w.net.link w.net.current
        (groups_by (put_member w.member e (heard t)) w.entered w.made)
    mid true h =
        mid_queue V s e call (views V w.net) (with_local (views V w.net) e (view V (core' true))) w.net.link w.net.link
        w.net.current (groups_in w) (groups_by (put_member w.member e (heard true)) w.entered w.made) ((r, i) ∷
        []) d.mid
        (hear_worked V _ (views V w.net) w.net.link w.net.current a e (view V (core' true)) [] d.mid.joined below
        (record {
          steps = Learn r i ∷ [];
          allowed = (ltb-true ((w.net.core e).known r) i h, tt);
          by =
              ((refl, refl), tt);
          leaves = learn_local V (w.net.core e) r i;
          gives = refl;
        }))
        (learned_groups w.member w.entered w.made e r i)
    mid false h =
        mid_queue V s e call (views V w.net) (with_local (views V w.net) e (view V (core' false))) w.net.link w.net.link
        w.net.current (groups_in w) (groups_by (put_member w.member e (heard false)) w.entered w.made) [] d.mid
        (hear_worked V _ (views V w.net) w.net.link w.net.current a e (view V (core' false)) [] d.mid.joined below
        (record { steps = []; allowed = tt; by = tt; leaves = refl; gives = refl }))
        (ap (λ (ms : Endpoint → Member). groups_by ms w.entered w.made) (sym (put_same w.member e)))

-- MESSAGES COME

abbrev pub with_net : GroupNetwork → Network → GroupNetwork
with_net w net = record w { net = net }

pub hand_doing_with_groups : (n : ℕ) (V : Values) (w0 w : GroupNetwork) (e a : Endpoint) (call : Option Call)
    (f : Frame) → e.incarnation ≡ w.net.current e.rank → is_same a e ≡ false → is_stale (w.net.core e).known a ≡ false →
    IsKnown (w.net.core e).known a →
    slice_get (w.net.link a e).accepted (w.net.link a e).handed ≡ Some f → NetworkDoing n V w0 w e call →
    NetworkDoing n V w0 (with_net w (hand_at w.net e a (Some f))) e call
hand_doing_with_groups n V w0 w e a call f now apart live heard next d =
    record {
      sane = hand_sane V w.net e a f now apart next d.sane;
      due = hand_due V w.net e a f apart next d.sane d.due;
      flows = hand_flows V w.net e a f apart next d.sane
          (came_honest V e (w.net.core e) a f honest (d.sane.cores e)).jobs d.flows;
      spoken = hand_spoken w.net e a f heard d.spoken;
      honest = d.honest;
      before = d.before;
      mid = subst
          (λ (locals : Endpoint → Local). NetworkMidway V s e call locals
          (accept_all (handed_on w.net.link a e) e (came (w.net.core e) a f).out) w.net.current (groups_in w))
          (sym (views_with V w.net.core e (came (w.net.core e) a f).core))
          (mid_queue V s e call (views V w.net) (with_local (views V w.net) e (view V (came (w.net.core e) a f).core))
          w.net.link (accept_all (handed_on w.net.link a e) e (came (w.net.core e) a f).out) w.net.current
          (groups_in w) (groups_in w) (learns work.steps) d.mid
          (hand_worked V _ (views V w.net) w.net.link w.net.current a e f (view V (came (w.net.core e) a f).core)
          (came (w.net.core e) a f).out d.mid.joined live next
          (answers_hold V w.net _ a e f apart next d.sane d.mid.joined) work)
          (ap (λ (ls : List (ℕ × ℕ)). all_learnt (groups_in w) e ls)
          (came_learns e a f (taken_in V e (view V (w.net.core e)) (Came a f)) work.steps work.by)));
    }
  where
    s : Machine
    s = after_run (machine_opening n w0.net.message_limit) d.before.events

    honest : IsHonest V a f
    honest = all_at (IsHonest V a) (w.net.link a e).accepted (w.net.link a e).handed f (d.sane.frames a e) next

    work : Work V e (view V (w.net.core e)) (Came a f) (view V (came (w.net.core e) a f).core)
        (came (w.net.core e) a f).out
    work = came_work V e (w.net.core e) a f honest (d.sane.cores e) (d.sane.none_fits e)

pub hand_some_with_groups : (n : ℕ) (V : Values) (w0 : GroupNetwork) (frames : ℕ) (w : GroupNetwork) (e a : Endpoint)
    (call : Option Call) → e.incarnation ≡ w.net.current e.rank → is_same a e ≡ false →
    is_stale (w.net.core e).known a ≡ false → IsKnown (w.net.core e).known a →
    NetworkDoing n V w0 w e call → NetworkDoing n V w0 (with_net w (hand_some w.net e a frames)) e call
hand_some_with_groups n V w0 zero w e a call now apart live heard d = d
hand_some_with_groups n V w0 (suc frames) w e a call now apart live heard d =
    go (slice_get (w.net.link a e).accepted (w.net.link a e).handed) refl
    (λ w1 n1 l1 h1 d1. hand_some_with_groups n V w0 frames w1 e a call n1 apart l1 h1 d1)
  where
    go : (o : Option Frame) → slice_get (w.net.link a e).accepted (w.net.link a e).handed ≡ o →
        ((w1 : GroupNetwork) → e.incarnation ≡ w1.net.current e.rank → is_stale (w1.net.core e).known a ≡ false →
        IsKnown (w1.net.core e).known a → NetworkDoing n V w0 w1 e call →
        NetworkDoing n V w0 (with_net w1 (hand_some w1.net e a frames)) e call) →
        NetworkDoing n V w0 (with_net w (hand_some (hand_at w.net e a o) e a frames)) e call
    go None h ih = ih w now live heard d
    go (Some f) h ih =
        ih (with_net w (hand_at w.net e a (Some f))) now (still (λ g. is_stale g a ≡ false) live)
        (still (λ g. IsKnown g a) heard) (hand_doing_with_groups n V w0 w e a call f now apart live heard h d)
      where
        still : (P : (ℕ → ℕ) → Type 0) → P (w.net.core e).known →
            P (with_core w.net.core e (came (w.net.core e) a f).core e).known
        still P x = subst (λ (core : Core). P core.known) (sym (core_here w.net.core e (came (w.net.core e) a f).core))
            (subst P (sym (came_known (w.net.core e) a f)) x)

-- A CALL

pub serials_fit : (e : Endpoint) (m : Member) (c : Communicator) (p : Part) → has_serials e m (Some (c, p)) ≡ true →
    is_making p.record_is.kind ≡ true → is_first e c.members ≡ true → m.serial + length c.members ≤ 4294967296
serials_fit e m c p h mk f =
    leb-true (m.serial + length c.members) 4294967296 (go (is_making p.record_is.kind) (is_first e c.members) mk f h)
  where
    go : (a b : Bool) → a ≡ true → b ≡ true → (not (a && b) || nat_le (m.serial + length c.members) 4294967296) ≡ true →
        nat_le (m.serial + length c.members) 4294967296 ≡ true
    go true true x y h = h
    go true false x y h = absurd (grind arith)
    go false b x y h = absurd (grind arith)

-- queues and links after a call
record QueuesAfter (V : Values) (s : Machine) (w : Network) (e : Endpoint) (o : Option queues.Call) : Type 0 where
  pub sane : Sane V (call_queues w e o)
  pub spoken : Spoken (call_queues w e o)
  pub due : Due (call_queues w e o)
  pub flows : Flows V (call_queues w e o)
  pub worked : Worked V (start s.queues e o) e (views V (call_queues w e o)) (call_queues w e o).link
      (call_queues w e o).current []

queues_after : (V : Values) (s : Machine) (w : Network) (e : Endpoint) (o : Option queues.Call) →
    e.incarnation ≡ w.current e.rank → Extends V (call_queues w e o) → Sane V w → Spoken w → Due w → Flows V w →
    Joined V s.queues (views V w) w.link w.current → QueuesAfter V s w e o
queues_after V s w e None now x sane spoken due flows j =
    record {
      sane = sane;
      spoken = spoken;
      due = due;
      flows = flows;
      worked =
          record { steps = []; taken = tt; learns_are = refl; joined = j };
    }
queues_after V s w e (Some c) now x sane spoken due flows j =
    record {
      sane = call_sane V w e c now is sane;
      due = call_due V w e c sane due;
      flows = call_flows V w e c sane (called_honest V e (w.core e) c is (sane.cores e)).jobs flows;
      spoken = call_spoken w e c spoken;
      worked = subst
          (λ (ls : List (ℕ × ℕ)). Worked V (start s.queues e (Some c)) e (views V (call_at w e c))
          (call_at w e c).link w.current ls)
          (asked_learns e c (taken_in V e (view V (w.core e)) (Asked c)) work.steps work.by)
          (subst (λ (locals : Endpoint → Local). Worked V (start s.queues e (Some c)) e locals
          (call_at w e c).link w.current (learns work.steps))
          (sym (views_with V w.core e (called e (w.core e) c).core))
          (ask_worked V s.queues (views V w) w.link w.current e c (view V (called e (w.core e) c).core)
          (called e (w.core e) c).out j (heard_at V w e now sane) (call_spelled V e (w.core e) c is) work));
    }
  where
    is : IsLogged V e (w.core e) c
    is = call_logged V w e c sane x

    work : Work V e (view V (w.core e)) (Asked c) (view V (called e (w.core e) c).core) (called e (w.core e) c).out
    work = call_work V e (w.core e) c (sane.cores e) (sane.own e) (sane.none_fits e)

pub call_doing_with_groups : (n : ℕ) (V : Values) (w : GroupNetwork) (e : Endpoint) (c : Call) → n ≤ 65536 → IsReal e →
    e.incarnation ≡ w.net.current e.rank → has_serials e (w.member e) (entry_of (w.member e).membership c) ≡ true →
    Extends V (call_queues w.net e (queue_call (w.member e).membership c)) → NetworkKept n V w →
    NetworkDoing n V w (take_call w e c) e (Some c)
call_doing_with_groups n V w e c le real now fits x k =
    attempt_doing n V w (enter_at w1 e (entry_of (w.member e).membership c)) e (Some c) le real
    (entered (entry_of (w.member e).membership c) refl fits)
  where
    s : Machine
    s = after_run (machine_opening n w.net.message_limit) k.seen.events

    q : Option queues.Call
    q = queue_call (w.member e).membership c

    w1 : GroupNetwork
    w1 = record w { net = call_queues w.net e q }

    a : QueuesAfter V s w.net e q
    a = queues_after V s w.net e q now x k.sane k.spoken k.due k.flows k.seen.joined

    asked : queue_call (s.groups.of e) c ≡ q
    asked = ap (λ (g : Groups). queue_call (g.of e) c) k.seen.groups_are

    starts : (o : Option (Communicator × Part)) → entry_of (w.member e).membership c ≡ o →
        groups_start s.groups e (entry_of (s.groups.of e) c) ≡ groups_start (groups_in w) e o
    starts o h = ap (λ (g : Groups). groups_start g e (entry_of (g.of e) c)) k.seen.groups_are ∙
        ap (λ (y : Option (Communicator × Part)). groups_start (groups_in w) e y) h

    entered : (o : Option (Communicator × Part)) → entry_of (w.member e).membership c ≡ o →
        has_serials e (w.member e) o ≡ true → NetworkDoing n V w (enter_at w1 e o) e (Some c)
    entered None h f =
        record {
          sane = a.sane;
          spoken = a.spoken;
          due = a.due;
          flows = a.flows;
          honest = k.honest;
          before = k.seen;
          mid = mid_call V s e c q (views V w1.net) w1.net.link w1.net.current (groups_in w) asked
              (starts None h) a.worked;
        }
    entered (Some t) h f =
        record {
          sane = a.sane;
          spoken = a.spoken;
          due = a.due;
          flows = a.flows;
          honest = enter_honest n w.member w.entered w.made w.notices e t.0 t.1 there
              (serials_fit e (w.member e) t.0 t.1 f) k.honest;
          before = k.seen;
          mid = mid_call V s e c q (views V w1.net) w1.net.link w1.net.current (groups_in (enter_at w1 e (Some t)))
              asked (starts (Some t) h ∙ enter_groups w.member w.entered w.made e t.0 t.1) a.worked;
        }
      where
        there : IsThere n w.made t.0
        there = let u = entry_held (w.member e).membership c t h in all_at (IsThere n w.made)
            (w.member e).membership.held u.0 t.0 (k.honest.sound.held e real) u.1

-- THE SETTLING

pub settle_kept_with_groups : (n : ℕ) (V : Values) (w0 w : GroupNetwork) (e : Endpoint) (call : Option Call) →
    IsReal e → NetworkDoing n V w0 w e call → e.rank < n → w.net.current ≡ w0.net.current →
    w.net.message_limit ≡ w0.net.message_limit →
    ((r : ℕ) → w0.net.current r ≤ 65535) → e.incarnation ≡ w.net.current e.rank →
    call_fault e (view V (w0.net.core e)) (w0.member e).membership call ≡ None →
    NetworkKept n V (settle_event w e (call_and_reply e (view blank (w0.net.core e)) (w0.member e).membership call))
settle_kept_with_groups n V w0 w e call real d lt cur limit lasting now fit =
    record {
      sane = settle_sane V w.net e w.net.history now d.sane;
      due = settle_due V w.net e w.net.history d.sane d.due;
      flows = settle_flows V w.net e w.net.history d.sane (core_settled_honest V e (w.net.core e) (d.sane.cores e)).jobs
          d.flows;
      spoken = settle_spoken w.net e w.net.history d.spoken;
      honest = settled_honest n w.member w.entered w.made w.notices e real d.honest;
      lasting = λ r. subst (λ (u : ℕ → ℕ). u r ≤ 65535) (sym cur) (lasting r);
      seen = subst (λ (l : MessageLimit). NetworkSeen V n l w'.history (views V w'.net) w'.net.link w'.net.current (groups_in w'))
          (sym limit)
          (group_seen_more V n w0.net.message_limit w.history (views V w0.net) (views V w'.net) w0.net.link w.net.link
          w0.net.current
          w.net.current (groups_in w0) (groups_in w')
          (told_of e (call_and_reply e (view blank (w0.net.core e)) (w0.member e).membership call)
          (ready_by (ended_with (w.member e).membership.present) (core_ready (w.net.core e)))) d.before
          (subst (λ (locals : Endpoint → Local). NetworkFollows V n s locals w.net.link w.net.current
          (groups_in w') told') (sym (views_with V w.net.core e (core_settled (w.net.core e))))
          (subst (λ (l : Local). NetworkFollows V n s (with_local (views V w.net) e l) w.net.link w.net.current
          (groups_in w') told') (sym (view_settled V (w.net.core e)))
          (subst (λ (g : Groups). NetworkFollows V n s
          (with_local (views V w.net) e (after_settling (view V (w.net.core e)))) w.net.link w.net.current g told')
          (settled_groups w.member w.entered w.made e)
          (subst (λ (es : List Entry). NetworkFollows V n s
          (with_local (views V w.net) e (after_settling (view V (w.net.core e)))) w.net.link w.net.current settled
          es) same_told
          (group_settle_follows V n s call (views V w.net) (views V w0.net) w0.net.link w.net.link w.net.current
          (groups_in w0) (groups_in w) e joined d.before.groups_are d.mid lt now fit))))));
    }
  where
    s : Machine
    s = after_run (machine_opening n w0.net.message_limit) d.before.events

    w' : GroupNetwork
    w' = settle_event w e (call_and_reply e (view blank (w0.net.core e)) (w0.member e).membership call)

    settled : Groups
    settled =
        record (groups_in w) {
          of =
              with_member (λ x. (w.member x).membership) e
              (record (w.member e).membership { present = answered_present (w.member e).membership.present });
        }

    told' : List Entry
    told' = told_of e (call_and_reply e (view blank (w0.net.core e)) (w0.member e).membership call)
        (ready_by (ended_with (w.member e).membership.present) (core_ready (w.net.core e)))

    joined : Joined V s.queues (views V w0.net) w0.net.link w.net.current
    joined = subst (λ (u : ℕ → ℕ). Joined V s.queues (views V w0.net) w0.net.link u) (sym cur) d.before.joined

    asked_is : (c : Option Call) → call_and_reply e (view V (w0.net.core e)) (w0.member e).membership c ≡
        call_and_reply e (view blank (w0.net.core e)) (w0.member e).membership c
    asked_is None = refl
    asked_is (Some c) =
        ap (λ (r : Option Reply). Some (c, r))
        (replies_same e (view V (w0.net.core e)) (view blank (w0.net.core e)) (w0.member e).membership c
        (λ y. asked_blank V (w0.net.core e) y))

    same_told : told_of e (call_and_reply e (view V (w0.net.core e)) (w0.member e).membership call)
        (ready_by (ended_with (w.member e).membership.present) (ready_answer (view V (w.net.core e)))) ≡ told'
    same_told =
        ap₂ (λ (x : Option (Call × Option Reply)) (y : Option (completions.Answer × List ℕ)). told_of e x
        (ready_by (ended_with (w.member e).membership.present) y)) (asked_is call) (ready_core V (w.net.core e))
