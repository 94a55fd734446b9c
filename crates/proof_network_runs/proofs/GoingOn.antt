-- A run goes on with each happening, by one event of the machine or none, at the happening's own endpoint.
use Rattle.std.proofs.Common.{◌≡◌, ℕ, suc, ◌<◌, ◌≤◌, Bool, true, false, ◌&&◌, not, List, [], ◌∷◌, ◌++◌, Option, Some}
use Rattle.std.proofs.Common.{None, if◌then◌else◌, ◌==◌, slice_get, nat_le, nat_lt, is_none, refl, sym, ap, ap₂, ◌∙◌}
use Rattle.std.proofs.Common.{subst, append_assoc, append-nil, arith}
use Rattle.std.proofs.lemmas.Bool.{and_parts, leb-true, ltb-true}
use Rattle.perfect_groups.proofs.LimitLaws.{limit_is_of_job}
use Rattle.perfect_groups.proofs.GroupRuns.{one_group_for_each_context}
use Rattle.perfect_groups.specs.Calls.{Call, entry_of, queue_call}
use Rattle.perfect_groups.specs.Collectives.{Part}
use Rattle.perfect_groups.specs.Communicators.{Communicator}
use Rattle.perfect_groups.specs.Events.{At, Entry, Event, IsEvent, Restart, Restarted, after_event, call_and_reply}
use Rattle.perfect_groups.specs.Events.{call_fault, ended_with, entries, ready_by, told_of}
use Rattle.perfect_groups.specs.Faults.{fault}
use Rattle.perfect_groups.specs.Machine.{Machine, machine_opening}
use Rattle.perfect_groups.specs.Membership.{Groups}
use Rattle.perfect_groups.specs.Runs.{IsRun, after_run, seen}
use Rattle.perfect_groups.specs.Soundness.{IsAmong}
use Rattle.perfect_queues.specs.Calls as queues
use Rattle.perfect_queues.specs.Messages.{Message}
use Rattle.perfect_queues.specs.State.{with_number}
use Rattle.proof_group_network.proofs.UnderWay.{NetworkDoing, NetworkKept, call_doing_with_groups}
use Rattle.proof_group_network.proofs.NetworkInvariant.{happens_extends_with_groups, new_kept_with_groups, real_of}
use Rattle.proof_group_network.proofs.NetworkInvariant.{run_kept_with_groups, word_current, word_doing}
use Rattle.proof_group_network.proofs.NetworkLive.{Live, new_live, run_live}
use Rattle.proof_group_network.proofs.NetworkMoves.{NetworkMidway, group_fault_blank, group_fault_same}
use Rattle.proof_group_network.proofs.NetworkRest.{quiet_left}
use Rattle.proof_group_network.specs.Network.{Ask, GroupNetwork, Happening, IsRunOfGroups, Restarts, Word, ask}
use Rattle.proof_group_network.specs.Network.{call_queues, enter_at, groups_in, happens, has_serials, hear_word}
use Rattle.proof_group_network.specs.Network.{is_heard_at, is_taken, new_group_network, note_at, note_some, run}
use Rattle.proof_group_network.specs.Network.{settle_event, take_call, word}
use Rattle.proof_group_network.specs.Notices.{Notice}
use Rattle.proof_pure_network.proofs.EventInvariant.{none_of}
use Rattle.proof_pure_network.proofs.Invariants.{Extends, views}
use Rattle.proof_pure_network.proofs.Joins.{Joined}
use Rattle.proof_pure_network.proofs.Rest.{quiet_finds, quiet_rest}
use Rattle.proof_pure_network.proofs.RunInvariant.{apart_of, not_true}
use Rattle.proof_pure_network.proofs.Simulation.{is_stale}
use Rattle.proof_pure_network.specs.Core.{new_core, view}
use Rattle.proof_pure_network.specs.Engine.{core_ready}
use Rattle.proof_pure_network.specs.Frames.{Values}
use Rattle.proof_pure_network.specs.WaitingMessages.{blank}
use Rattle.proof_pure_network.specs.Network.{Network, hand_some, here}
use Rattle.vocabulary.specs.Endpoints.{is_same}
use Rattle.vocabulary.specs.declared.endpoint.Endpoint.{Endpoint}
use Rattle.proof_network_runs.proofs.Ends.{joined_is, seen_ends}
use Rattle.proof_network_runs.proofs.Events.{Follows, event_follows}
use Rattle.proof_network_runs.proofs.Values.{IsSaneByAll, same_machine}
use Rattle.proof_network_runs.specs.Runs.{EachHasARun, GoesOnWith, GoesWith, HappeningsGoOn, HasARun, IsAt, NoneIsARun}
use Rattle.proof_network_runs.specs.Runs.{OneGroupAlongRuns, RunsShowAll, after, machine_by, machine_in, rank_of}
use Rattle.proof_network_runs.specs.Runs.{values_in}
use Rattle.vocabulary.specs.declared.message_limit.MessageLimit.{MessageLimit}

-- ---- ONE EVENT

-- an event of the machine at an endpoint leads from what a network stands for to what the next one stands for, and as
-- much is seen
record EventAt (n : ℕ) (V : Values) (s : Machine) (w w' : GroupNetwork) (e : Endpoint) : Type 0 where
  pub event : Event
  pub own : IsAt e event
  pub allowed : IsEvent n s event
  pub history : w'.history ≡ w.history ++ entries s event
  pub leads : after_event s event ≡ machine_by V w'

-- what a happening is to the machine: nothing at all, or one event
data StepAt (n : ℕ) (V : Values) (s : Machine) (w w' : GroupNetwork) (e : Endpoint) : Type 0 where
  Stands : w' ≡ w → StepAt n V s w w' e
  Goes : EventAt n V s w w' e → StepAt n V s w w' e

-- an event that is under way since a network, once it is settled
doing_event : (n : ℕ) (V : Values) (s : Machine) (w0 w : GroupNetwork) (e : Endpoint) (call : Option Call) →
    s ≡ machine_by V w0 → w.history ≡ w0.history → w.net.current ≡ w0.net.current → e.rank < n →
    e.incarnation ≡ w.net.current e.rank → call_fault e (view V (w0.net.core e)) (w0.member e).membership call ≡ None →
    NetworkKept n V w0 → NetworkDoing n V w0 w e call →
    EventAt n V s w0 (settle_event w e (call_and_reply e (view blank (w0.net.core e)) (w0.member e).membership call)) e
doing_event n V s w0 w e call is before cur lt now fit k d =
    record {
      event = event;
      own = refl;
      allowed = f.allowed;
      history = ap₂ (λ (old new : List Entry). old ++ new) before (sym f.tells);
      leads = joined_is V w' (after_event s event) f.joined f.groups_are;
    }
  where
    there : after_run (machine_opening n w0.net.message_limit) d.before.events ≡ s
    there = seen_ends V n w0.net.message_limit w.history w0 d.before ∙ sym is

    mid : NetworkMidway V s e call (views V w.net) w.net.link w.net.current (groups_in w)
    mid = subst (λ (m : Machine). NetworkMidway V m e call (views V w.net) w.net.link w.net.current (groups_in w)) there
        d.mid

    joined : Joined V s.queues (views V w0.net) w0.net.link w.net.current
    joined =
        subst (λ (u : ℕ → ℕ). Joined V s.queues (views V w0.net) w0.net.link u) (sym cur)
        (subst (λ (m : Machine). Joined V m.queues (views V w0.net) w0.net.link w0.net.current)
        (seen_ends V n w0.net.message_limit w0.history w0 k.seen ∙ sym is) k.seen.joined)

    event : Event
    event = At e call mid.moves

    w' : GroupNetwork
    w' = settle_event w e (call_and_reply e (view blank (w0.net.core e)) (w0.member e).membership call)

    told : List Entry
    told = told_of e (call_and_reply e (view blank (w0.net.core e)) (w0.member e).membership call)
        (ready_by (ended_with (w.member e).membership.present) (core_ready (w.net.core e)))

    f : Follows V n s event (views V w'.net) w.net.link w.net.current (groups_in w') told
    f = event_follows n V s w0 w e call joined (ap (λ (m : Machine). m.groups) is) mid lt now fit

-- ---- A CALL

entered_history : (w : GroupNetwork) (e : Endpoint) (o : Option (Communicator × Part)) →
    (enter_at w e o).history ≡ w.history
entered_history w e None = refl
entered_history w e (Some t) = refl

entered_current : (w : GroupNetwork) (e : Endpoint) (o : Option (Communicator × Part)) →
    (enter_at w e o).net.current ≡ w.net.current
entered_current w e None = refl
entered_current w e (Some t) = refl

called_current : (w : Network) (e : Endpoint) (o : Option queues.Call) → (call_queues w e o).current ≡ w.current
called_current w e None = refl
called_current w e (Some c) = refl

called_extends : (V : Values) (w : GroupNetwork) (e : Endpoint) (c : Call) → Extends V (ask w e c).net →
    Extends V (call_queues w.net e (queue_call (w.member e).membership c))
called_extends V w e c x = go (entry_of (w.member e).membership c) x
  where
    w1 : GroupNetwork
    w1 = record w { net = call_queues w.net e (queue_call (w.member e).membership c) }

    go : (o : Option (Communicator × Part)) → Extends V (enter_at w1 e o).net → Extends V w1.net
    go None x = x
    go (Some t) x = x

ask_event : (n : ℕ) (V : Values) (s : Machine) (w : GroupNetwork) (e : Endpoint) (c : Call) → s ≡ machine_by V w →
    n ≤ 65536 → e.rank < n → e.incarnation ≡ w.net.current e.rank →
    fault e (view blank (w.net.core e)) (w.member e).membership c ≡ None →
    has_serials e (w.member e) (entry_of (w.member e).membership c) ≡ true → Extends V (ask w e c).net →
    NetworkKept n V w →
    EventAt n V s w (ask w e c) e
ask_event n V s w e c is le lt now fit fits x k =
    doing_event n V s w (take_call w e c) e (Some c) is
    (entered_history w1 e (entry_of (w.member e).membership c)) same lt (now ∙ ap (λ (u : ℕ → ℕ). u e.rank) (sym same))
    (group_fault_blank V (w.net.core e) e (w.member e).membership c ∙ fit) k
    (call_doing_with_groups n V w e c le (real_of n w.net.current e le k.lasting lt now) now fits
    (called_extends V w e c x) k)
  where
    w1 : GroupNetwork
    w1 = record w { net = call_queues w.net e (queue_call (w.member e).membership c) }

    same : (take_call w e c).net.current ≡ w.net.current
    same = entered_current w1 e (entry_of (w.member e).membership c) ∙
        called_current w.net e (queue_call (w.member e).membership c)

-- ---- A WORD

noted_history : (more : List ℕ) (w : GroupNetwork) (e a : Endpoint) → (note_some w e a more).history ≡ w.history
noted_history [] w e a = refl
noted_history (i ∷ more) w e a = go (slice_get (w.notices a e).accepted i) (λ w1. noted_history more w1 e a)
  where
    go : (o : Option Notice) → ((w1 : GroupNetwork) → (note_some w1 e a more).history ≡ w1.history) →
        (note_some (note_at w e a i o) e a more).history ≡ w.history
    go None ih = ih w
    go (Some x) ih = ih (note_at w e a i (Some x))

word_event : (n : ℕ) (V : Values) (s : Machine) (w : GroupNetwork) (e a : Endpoint) (frames : ℕ) (notices : List ℕ) →
    s ≡ machine_by V w → n ≤ 65536 → e.rank < n → e.incarnation ≡ w.net.current e.rank →
    is_same a e ≡ false → a.incarnation ≤ w.net.current a.rank → is_stale (w.net.core e).known a ≡ false →
    NetworkKept n V w → EventAt n V s w (word w e a frames notices) e
word_event n V s w e a frames notices is le lt now apart below live k =
    doing_event n V s w (note_some w1 e a notices) e None is (noted_history notices w1 e a) same lt
    (now ∙ ap (λ (u : ℕ → ℕ). u e.rank) (sym same)) refl k
    (word_doing n V w e a frames notices le lt now apart below live k)
  where
    w1 : GroupNetwork
    w1 = record (hear_word w e a) { net = hand_some (hear_word w e a).net e a frames }

    same : (note_some w1 e a notices).net.current ≡ w.net.current
    same = word_current w e a frames notices

-- ---- ANY HAPPENING

-- the network once a rank was started anew
abbrev anew : GroupNetwork → (rank : ℕ) → GroupNetwork
anew w r = record w {
  net = record w.net { current = with_number w.net.current r (suc (w.net.current r)) };
  history =
      w.history ++ Restarted r ∷ [];
}

restart_event : (n : ℕ) (V : Values) (s : Machine) (w : GroupNetwork) (r : ℕ) → s ≡ machine_by V w → r < n →
    w.net.current r < 65535 → EventAt n V s w (anew w r) (here w.net r)
restart_event n V s w r is lt few = record {
  event = Restart r;
  own = refl;
  allowed = (lt, subst (λ (m : Machine). m.queues.current r < 65535) (sym is) few);
  history = refl;
  leads = ap (λ (m : Machine). after_event m (Restart r)) is;
}

happening_step : (n : ℕ) (V : Values) (s : Machine) (w : GroupNetwork) (h : Happening) → s ≡ machine_by V w →
    n ≤ 65536 → Extends V (happens n w h).net → NetworkKept n V w →
    StepAt n V s w (happens n w h) (here w.net (rank_of h))
happening_step n V s w (Ask r c) is le x k = go (is_taken n w e c) refl x
  where
    e : Endpoint
    e = here w.net r

    go : (t : Bool) → is_taken n w e c ≡ t → Extends V (if t then ask w e c else w).net →
        StepAt n V s w (if t then ask w e c else w) e
    go false h x = Stands refl
    go true h x =
        let p = and_parts (nat_lt r n) (is_none (fault e (view blank (w.net.core e)) (w.member e).membership c) && has_serials e (w.member e) (entry_of (w.member e).membership c)) h in
        let q = and_parts (is_none (fault e (view blank (w.net.core e)) (w.member e).membership c)) (has_serials e (w.member e) (entry_of (w.member e).membership c)) p.1 in
        Goes (ask_event n V s w e c is le (ltb-true r n p.0) refl
        (none_of (fault e (view blank (w.net.core e)) (w.member e).membership c) q.0) q.1 x k)
happening_step n V s w (Word a r frames notices) is le x k = go (nat_lt r n && is_heard_at w.net a (here w.net r)) refl
  where
    e : Endpoint
    e = here w.net r

    go : (t : Bool) → (nat_lt r n && is_heard_at w.net a e) ≡ t →
        StepAt n V s w (if t then word w e a frames notices else w) e
    go false h = Stands refl
    go true h =
        let p = and_parts (nat_lt r n) (is_heard_at w.net a e) h in
        let q = and_parts (not (a.rank == r)) (nat_le a.incarnation (w.net.current a.rank) && not (nat_lt a.incarnation ((w.net.core e).known a.rank))) p.1 in
        let u = and_parts (nat_le a.incarnation (w.net.current a.rank)) (not (nat_lt a.incarnation ((w.net.core e).known a.rank))) q.1 in
        Goes (word_event n V s w e a frames notices is le (ltb-true r n p.0) refl (apart_of a r (w.net.current r) q.0)
        (leb-true a.incarnation (w.net.current a.rank) u.0)
        (not_true (nat_lt a.incarnation ((w.net.core e).known a.rank)) u.1) k)
happening_step n V s w (Restarts r) is le x k = go (nat_lt r n && nat_lt (w.net.current r) 65535) refl
  where
    go : (t : Bool) → (nat_lt r n && nat_lt (w.net.current r) 65535) ≡ t →
        StepAt n V s w (if t then anew w r else w) (here w.net r)
    go false h = Stands refl
    go true h =
        let p = and_parts (nat_lt r n) (nat_lt (w.net.current r) 65535) h in Goes
        (restart_event n V s w r is (ltb-true r n p.0) (ltb-true (w.net.current r) 65535 p.1))

-- ---- RUNS

-- one event more
more_allowed : (n : ℕ) (s : Machine) (vs : List Event) (v : Event) → IsRun n s vs → IsEvent n (after_run s vs) v →
    IsRun n s (vs ++ v ∷ [])
more_allowed n s [] v r a = (a, tt)
more_allowed n s (u ∷ vs) v r a = (r.0, more_allowed n (after_event s u) vs v r.1 a)

after_more : (s : Machine) (vs : List Event) (v : Event) → after_run s (vs ++ v ∷ []) ≡ after_event (after_run s vs) v
after_more s [] v = refl
after_more s (u ∷ vs) v = after_more (after_event s u) vs v

seen_more : (s : Machine) (vs : List Event) (v : Event) → seen s (vs ++ v ∷ []) ≡ seen s vs ++
    entries (after_run s vs) v
seen_more s [] v = append-nil (entries s v)
seen_more s (u ∷ vs) v = rw (seen_more (after_event s u) vs v, append_assoc)

happened_last : (n : ℕ) (hs : List Happening) (h : Happening) (w : GroupNetwork) →
    run n (hs ++ h ∷ []) w ≡ happens n (run n hs w) h
happened_last n [] h w = refl
happened_last n (g ∷ gs) h w = happened_last n gs h (happens n w g)

-- a network is sane by all values that say what was sent
sane_by_all : (n : ℕ) (limit : MessageLimit) (hs : List Happening) → n ≤ 65536 → IsSaneByAll (after n limit hs).net
sane_by_all n limit hs le U x =
    (run_kept_with_groups n U hs (new_group_network n limit) le x (new_kept_with_groups n limit U)).sane

pub happenings_go_on : HappeningsGoOn
happenings_go_on n limit hs h vs le g = go step
  where
    w : GroupNetwork
    w = after n limit hs

    w' : GroupNetwork
    w' = happens n w h

    V : Values
    V = values_in w'.net

    before : Extends V w.net
    before = happens_extends_with_groups n V w h (λ s k lt. refl)

    s : Machine
    s = after_run (machine_opening n limit) vs

    step : StepAt n V s w w' (here w.net (rank_of h))
    step =
        happening_step n V s w h
        (g.ends ∙ same_machine w (values_in w.net) V (λ s k lt. refl) before (sane_by_all n limit hs le)) le
        (λ s k lt. refl)
        (run_kept_with_groups n V hs (new_group_network n limit) le before (new_kept_with_groups n limit V))

    last : after n limit (hs ++ h ∷ []) ≡ w'
    last = happened_last n hs h (new_group_network n limit)

    go : StepAt n V s w w' (here w.net (rank_of h)) → GoesOnWith n limit (hs ++ h ∷ []) vs (here w.net (rank_of h))
    go (Stands still) =
        let same : after n limit (hs ++ h ∷ []) ≡ w = last ∙ still in
        record {
          more = [];
          own = tt;
          one = tt;
          goes = subst (λ (es : List Event). GoesWith n limit (hs ++ h ∷ []) es) (sym (append-nil vs))
              (record {
                allowed = g.allowed;
                tells = g.tells ∙ ap (λ (x : GroupNetwork). x.history) (sym same);
                ends = g.ends ∙ ap machine_in (sym same);
              });
        }
    go (Goes v) =
        record {
          more = v.event ∷ [];
          own = (v.own, tt);
          one = tt;
          goes = record {
            allowed = more_allowed n (machine_opening n limit) vs v.event g.allowed v.allowed;
            tells = seen_more (machine_opening n limit) vs v.event ∙
                ap (λ (es : List Entry). es ++ entries s v.event) g.tells ∙ sym v.history ∙
                ap (λ (x : GroupNetwork). x.history) (sym last);
            ends = after_more (machine_opening n limit) vs v.event ∙ v.leads ∙ ap machine_in (sym last);
          };
        }

-- ---- the empty run

pub none_is_a_run : NoneIsARun
none_is_a_run n limit = record {
  allowed = tt;
  tells = refl;
  ends = joined_is (values_in (new_group_network n limit).net) (new_group_network n limit) (machine_opening n limit)
      (record {
        each =
            λ x. record {
              requests = refl;
              blocked = refl;
              known = refl;
              message_limit = refl;
              queue =
                  λ s c. nothing (is_stale (new_core limit x).known s);
            };
        fit =
            record { own = λ y c. refl; fits = λ y z. omega arith };
        now = refl;
      }) refl;
}
  where
    nothing : (t : Bool) → ◌≡◌ {A = List Message} [] ([] ++ (if t then [] else []))
    nothing true = refl
    nothing false = refl

-- ---- some run for all

goes_on_by : (n : ℕ) (limit : MessageLimit) (first more : List Happening) (vs : List Event) → n ≤ 65536 → GoesWith n limit first vs →
    HasARun n limit (first ++ more)
goes_on_by n limit first [] vs le g =
    record { events = vs; goes = subst (λ (hs : List Happening). GoesWith n limit hs vs) (sym (append-nil first)) g }
goes_on_by n limit first (h ∷ hs) vs le g =
    let next : GoesOnWith n limit (first ++ h ∷ []) vs (here (after n limit first).net (rank_of h)) = happenings_go_on n limit first h vs le g in
    subst (λ (xs : List Happening). HasARun n limit xs) (append_assoc first (h ∷ []) hs)
    (goes_on_by n limit (first ++ h ∷ []) hs (vs ++ next.more) le next.goes)

pub each_has_a_run : EachHasARun
each_has_a_run n limit hs le = goes_on_by n limit [] hs [] le (none_is_a_run n limit)

-- ---- what it shows

pub runs_show_all : RunsShowAll
runs_show_all n limit hs vs le g = record { shown = shown; by = refl }
  where
    w : GroupNetwork
    w = after n limit hs

    V : Values
    V = values_in w.net

    k : NetworkKept n V w
    k = run_kept_with_groups n V hs (new_group_network n limit) le (λ s i lt. refl) (new_kept_with_groups n limit V)

    l : Live n w
    l = run_live n V hs (new_group_network n limit) le (λ s i lt. refl) (new_kept_with_groups n limit V)
        (new_live n limit)

    ends : Machine
    ends = after_run (machine_opening n limit) vs

    joined : Joined V ends.queues (views V w.net) w.net.link w.net.current
    joined = subst (λ (m : Machine). Joined V m.queues (views V w.net) w.net.link w.net.current)
        (seen_ends V n w.net.message_limit w.history w k.seen ∙ sym g.ends) k.seen.joined

    groups_are : ends.groups ≡ groups_in w
    groups_are = ap (λ (m : Machine). m.groups) g.ends

    shown : IsRunOfGroups n limit w
    shown =
        record {
          events = vs;
          run = g.allowed;
          tells = g.tells;
          current = λ r. ap (λ (f : ℕ → ℕ). f r) joined.now;
          knows = λ e x. ap (λ (f : ℕ → ℕ). f x) (joined.each e).known;
          limits = λ e. sym (joined.each e).message_limit ∙ limit_is_of_job n limit vs e;
          groups = groups_are;
          faults = λ e c. group_fault_same _ _ _ e (ends.groups.of e) c (joined.each e) ∙
              (ap (λ (x : Groups). fault e (view V (w.net.core e)) (x.of e) c) groups_are ∙
              group_fault_blank V (w.net.core e) e (w.member e).membership c);
          quiet = quiet_rest V w.net ends.queues
              (record { sane = k.sane; spoken = k.spoken; due = k.due; flows = k.flows; joined = joined });
          finds = quiet_finds V w.net ends.queues
              (record { sane = k.sane; spoken = k.spoken; due = k.due; flows = k.flows; joined = joined });
          leaves = quiet_left n V w ends k l groups_are (λ x r. ap (λ (f : ℕ → ℕ). f r) (joined.each x).known)
              (λ r. ap (λ (f : ℕ → ℕ). f r) joined.now);
        }

-- ---- one group for each context

pub one_group_along_runs : OneGroupAlongRuns
one_group_along_runs n limit hs later vs more x y a b le g g' rx ry ha hb same =
    one_group_for_each_context n limit vs more x y a b le g'.allowed rx ry
    (subst (λ (m : Machine). IsAmong a (m.groups.of x).held) (sym g.ends) ha)
    (subst (λ (m : Machine). IsAmong b (m.groups.of y).held) (sym g'.ends) hb) same
