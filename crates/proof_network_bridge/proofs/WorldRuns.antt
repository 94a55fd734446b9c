-- A run of the machine of queues and groups that is seen to be on world alone is a run of the machine of perfect
-- queues.
use Rattle.std.proofs.Common.{◌≡◌, ℕ, Bool, true, false, List, [], ◌∷◌, ◌++◌, Option, Some, None, if◌then◌else◌}
use Rattle.std.proofs.Common.{option_map, slice_get, refl, sym, ap, subst, ◌∙◌}
use Rattle.std.specs.List.{AllByRecursion}
use Rattle.std.proofs.lemmas.Option.{same_Some}
use Rattle.perfect_groups.specs.CallLaws.{IsAsOnWorld}
use Rattle.perfect_groups.specs.Calls.{Answer, ByCollective, ByRequests, Call, OfCollective, OfFact, OfRequests, Reply}
use Rattle.perfect_groups.specs.Calls.{queue_call}
use Rattle.perfect_groups.specs.Collectives.{Part}
use Rattle.perfect_groups.specs.Communicators.{Communicator}
use Rattle.perfect_groups.specs.Events.{At, Called, Completed, Entry, Event, IsEvent, Restart, Restarted, after_event}
use Rattle.perfect_groups.specs.Events.{answered_member, call_and_reply, ended_with, entries, groups_start}
use Rattle.perfect_groups.specs.Events.{machine_start, ready_at, ready_by, told_of}
use Rattle.perfect_groups.specs.Faults.{on_world}
use Rattle.perfect_groups.specs.Machine.{AreMoves, Differs, InQueues, Leaves, Machine, Move, after_move, after_moves}
use Rattle.perfect_groups.specs.Machine.{groups_after, learnt_member, machine_opening}
use Rattle.perfect_groups.specs.Membership.{Groups, Inside, Membership, fresh_member, with_member}
use Rattle.perfect_groups.specs.Runs.{IsRun, after_run, seen}
use Rattle.perfect_queues.proofs.EndpointLemmas.{same_eq}
use Rattle.perfect_queues.specs.Calls as queues
use Rattle.perfect_queues.specs.Completions as completions
use Rattle.perfect_queues.specs.Events as queue_events
use Rattle.perfect_queues.specs.Receives.{Probe, Receive}
use Rattle.perfect_queues.specs.Refusals as refusals
use Rattle.perfect_queues.specs.Runs as queue_runs
use Rattle.perfect_queues.specs.State.{Local, State}
use Rattle.perfect_queues.specs.Steps.{AreSteps, Finish, FinishSend, Learn, Match, See, Step, TakeOut, steps_at}
use Rattle.vocabulary.specs.Endpoints.{is_same}
use Rattle.vocabulary.specs.declared.endpoint.Endpoint.{Endpoint}
use Rattle.proof_network_bridge.specs.OnWorld.{IsEntryOnWorld, IsOnWorld, RunsOnWorldAreOfQueues, call_on_world}
use Rattle.proof_network_bridge.specs.OnWorld.{entries_on_world, entry_on_world}
use Rattle.proof_network_bridge.proofs.WorldCalls.{call_told, enters_nothing, probe_is, receive_is, word_told}
use Rattle.proof_network_bridge.proofs.WorldCalls.{world_call}

-- ---- what is seen on world is seen of one call

call_back : (q : queues.Call) → IsOnWorld q → on_world (call_on_world q) ≡ Some q
call_back (queues.Isend mode context to tag from) is = ap (λ (x : ℕ). Some (queues.Isend mode x to tag from)) (sym is)
call_back (queues.Irecv p) is =
    ap (λ (x : Receive). Some (queues.Irecv x)) (receive_is p.source p.tag p.context p.group p.into is.0 is.1)
call_back (queues.Wait a) is = refl
call_back (queues.Test r) is = refl
call_back (queues.Cancel r) is = refl
call_back (queues.Iprobe q) is =
    ap (λ (x : Probe). Some (queues.Iprobe x)) (probe_is q.source q.tag q.context q.group is.0 is.1)
call_back (queues.Improbe q) is =
    ap (λ (x : Probe). Some (queues.Improbe x)) (probe_is q.source q.tag q.context q.group is.0 is.1)
call_back (queues.Mrecv message into) is = refl

-- what an entry says of queues
abbrev in_queues : Entry → Option queue_events.Entry
in_queues (Called e c (OfRequests r)) = option_map (λ (q : queues.Call). queue_events.Called e q r) (on_world c)
in_queues (Called e c (OfCollective o)) = None
in_queues (Called e c (OfFact f)) = None
in_queues (Completed e (ByRequests a)) = Some (queue_events.Completed e a)
in_queues (Completed e (ByCollective o)) = None
in_queues (Restarted r) = Some (queue_events.Restarted r)

entry_back : (x : queue_events.Entry) → IsEntryOnWorld x → in_queues (entry_on_world x) ≡ Some x
entry_back (queue_events.Called e q r) is =
    ap (λ (o : Option queues.Call). option_map (λ (y : queues.Call). queue_events.Called e y r) o) (call_back q is)
entry_back (queue_events.Completed e a) is = refl
entry_back (queue_events.Restarted r) is = refl

entry_same : (x y : queue_events.Entry) → IsEntryOnWorld x → IsEntryOnWorld y → entry_on_world x ≡ entry_on_world y →
    x ≡ y
entry_same x y ix iy h = same_Some x y (sym (entry_back x ix) ∙ (ap in_queues h ∙ entry_back y iy))

-- a history begins with these entries, and goes on as the rest does
record IsFront (front : List queue_events.Entry) (rest : List Entry) (history : List queue_events.Entry) : Type 0 where
  pub later : List queue_events.Entry
  pub is : history ≡ front ++ later
  pub rest_is : rest ≡ entries_on_world later
  pub all : AllByRecursion IsEntryOnWorld later

front_one : (y : queue_events.Entry) (rest : List Entry) (h : List queue_events.Entry) → IsEntryOnWorld y →
    AllByRecursion IsEntryOnWorld h → entry_on_world y ∷ rest ≡ entries_on_world h → IsFront (y ∷ []) rest h
front_one y rest [] iy all is = absurd cc
front_one y rest (x ∷ h) iy all is =
    let first : entry_on_world y ≡ entry_on_world x = cc in
    let after : rest ≡ entries_on_world h = cc in
    record {
      later = h;
      is = ap (λ (z : queue_events.Entry). z ∷ h) (sym (entry_same y x iy all.0 first));
      rest_is =
          after;
      all = all.1;
    }

front_word : (e : Endpoint) (o : Option (completions.Answer × List ℕ)) (rest : List Entry)
    (h : List queue_events.Entry) → AllByRecursion IsEntryOnWorld h →
    entries_on_world (queue_events.told e None o) ++ rest ≡ entries_on_world h →
    IsFront (queue_events.told e None o) rest h
front_word e None rest h all is = record { later = h; is = refl; rest_is = is; all = all }
front_word e (Some (a, ks)) rest h all is = front_one (queue_events.Completed e a) rest h tt all is

front_call : (e : Endpoint) (q : queues.Call) (r : Option queues.Reply) (o : Option (completions.Answer × List ℕ))
    (rest : List Entry) (h : List queue_events.Entry) → IsOnWorld q → AllByRecursion IsEntryOnWorld h →
    entries_on_world (queue_events.told e (Some (q, r)) o) ++ rest ≡ entries_on_world h →
    IsFront (queue_events.told e (Some (q, r)) o) rest h
front_call e q (Some x) o rest h on all is = front_one (queue_events.Called e q x) rest h on all is
front_call e q None (Some (a, ks)) rest h on all is =
    front_one (queue_events.Called e q (queues.Done a)) rest h on all is
front_call e q None None rest h on all is = front_one (queue_events.Called e q queues.Blocked) rest h on all is

-- ---- which call it was

-- a call on world
record IsNamed (c : Call) : Type 0 where
  pub named : queues.Call
  pub on : IsOnWorld named
  pub is : c ≡ call_on_world named

first_call : (e : Endpoint) (c : Call) (r : Reply) (rest : List Entry) (h : List queue_events.Entry) →
    AllByRecursion IsEntryOnWorld h → Called e c r ∷ rest ≡ entries_on_world h → IsNamed c
first_call e c r rest [] all is = absurd cc
first_call e c r rest (queue_events.Called d q x ∷ h) all is = record { named = q; on = all.0; is = cc }
first_call e c r rest (queue_events.Completed d a ∷ h) all is =
    absurd (let first : Called e c r ≡ Completed d (ByRequests a) = cc in cc)
first_call e c r rest (queue_events.Restarted d ∷ h) all is = absurd (let first : Called e c r ≡ Restarted d = cc in cc)

call_named : (e : Endpoint) (c : Call) (r : Option Reply) (a : Option Answer) (rest : List Entry)
    (h : List queue_events.Entry) → AllByRecursion IsEntryOnWorld h → told_of e (Some (c, r)) a ++ rest ≡
    entries_on_world h → IsNamed c
call_named e c (Some x) a rest h all is = first_call e c x rest h all is
call_named e c None (Some (ByRequests x)) rest h all is = first_call e c (OfRequests (queues.Done x)) rest h all is
call_named e c None (Some (ByCollective o)) rest h all is = first_call e c (OfCollective o) rest h all is
call_named e c None None rest h all is = first_call e c (OfRequests queues.Blocked) rest h all is

-- ---- steps

-- nobody holds a communicator beside world and its own, or is in a collective
abbrev IsPlain : (n : ℕ) → Machine → Type 0
IsPlain n s = (x : Endpoint) → s.groups.of x ≡ fresh_member n x

put_fresh : (n : ℕ) (of : Endpoint → Membership) (e : Endpoint) (m : Membership) →
    ((x : Endpoint) → of x ≡ fresh_member n x) → m ≡ fresh_member n e →
    (x : Endpoint) → with_member of e m x ≡ fresh_member n x
put_fresh n of e m old is x = go (is_same x e) refl
  where
    go : (t : Bool) → is_same x e ≡ t → (if t then m else of x) ≡ fresh_member n x
    go true h = is ∙ ap (fresh_member n) (sym (same_eq x e h))
    go false h = old x

step_plain : (n : ℕ) (g : Groups) (e : Endpoint) (x : Step) → ((y : Endpoint) → g.of y ≡ fresh_member n y) →
    (y : Endpoint) → (groups_after g e x).of y ≡ fresh_member n y
step_plain n g e (Match k p earlier m later) old y = old y
step_plain n g e (Finish k p m) old y = old y
step_plain n g e (FinishSend k d) old y = old y
step_plain n g e (See q earlier m later) old y = old y
step_plain n g e (TakeOut q earlier m later) old y = old y
step_plain n g e (Learn r i) old y =
    put_fresh n g.of e (learnt_member r i (g.of e)) old (ap (learnt_member r i) (old e)) y

-- who is in no collective doesn't leave one
not_inside : (n : ℕ) (s : Machine) (e : Endpoint) (c : Communicator) (k : ℕ) (p : Part) → IsPlain n s →
    (s.groups.of e).present ≡ Some (Inside c k p) → ⊥
not_inside n s e c k p plain inside = go (sym (ap (λ (m : Membership). m.present) (plain e)) ∙ inside)
  where
    go : None ≡ Some (Inside c k p) → ⊥
    go h = cc

-- the moves are steps of the queues
record AreOfQueues (n : ℕ) (s : Machine) (e : Endpoint) (moves : List Move) : Type 0 where
  pub steps : List Step
  pub taken : AreSteps s.queues e steps
  pub ends : steps_at s.queues e steps ≡ (after_moves s e moves).queues
  pub plain : IsPlain n (after_moves s e moves)

moves_of_queues : (n : ℕ) (s : Machine) (e : Endpoint) (moves : List Move) → IsPlain n s → AreMoves s e moves →
    AreOfQueues n s e moves
moves_of_queues n s e [] plain may = record { steps = []; taken = tt; ends = refl; plain = plain }
moves_of_queues n s e (InQueues x ∷ moves) plain may =
    let rest : AreOfQueues n (after_move s e (InQueues x)) e moves = moves_of_queues n (after_move s e (InQueues x)) e moves (step_plain n s.groups e x plain) may.1 in
    record { steps = x ∷ rest.steps; taken = (may.0.0, may.0.1, rest.taken); ends = rest.ends; plain = rest.plain }
moves_of_queues n s e (Leaves c k p ps ∷ moves) plain may = absurd (not_inside n s e c k p plain may.0.inside)
moves_of_queues n s e (Differs c k p a b pa pb ∷ moves) plain may = absurd (not_inside n s e c k p plain may.0.inside)

-- ---- an event

-- the event of the queues that it is
record IsFollowedBy (n : ℕ) (s : Machine) (v : Event) (rest : List Entry) (h : List queue_events.Entry) : Type 0 where
  pub event : queue_events.Event
  pub allowed : queue_events.IsEvent n s.queues event
  pub ends : queue_events.after_event s.queues event ≡ (after_event s v).queues
  pub plain : IsPlain n (after_event s v)
  pub front : IsFront (queue_events.entries s.queues event) rest h

settled_plain : (n : ℕ) (s : Machine) (e : Endpoint) → IsPlain n s →
    (x : Endpoint) → with_member s.groups.of e (answered_member (s.groups.of e)) x ≡ fresh_member n x
settled_plain n s e plain =
    put_fresh n s.groups.of e (answered_member (s.groups.of e)) plain (ap answered_member (plain e))

-- no ending is ready
ready_plain : (n : ℕ) (s : Machine) (e : Endpoint) → IsPlain n s →
    ready_at s e ≡ ready_by None (queues.ready_answer (s.queues.at e))
ready_plain n s e plain =
    ap (λ (m : Membership). ready_by (ended_with m.present) (queues.ready_answer (s.queues.at e))) (plain e)

follow_word : (n : ℕ) (s : Machine) (e : Endpoint) (moves : List Move) (rest : List Entry)
    (h : List queue_events.Entry) → IsPlain n s → IsEvent n s (At e None moves) → AllByRecursion IsEntryOnWorld h →
    entries s (At e None moves) ++ rest ≡ entries_on_world h → IsFollowedBy n s (At e None moves) rest h
follow_word n s e moves rest h plain ok all is =
    record {
      event = queue_events.At e None m.steps;
      allowed = record { inside = ok.inside; current = ok.current; fit = refl; steps = m.taken };
      ends = ap (λ (x : State). queue_events.settle x e) m.ends;
      plain = settled_plain n mid e m.plain;
      front = subst (λ (x : State). IsFront (queue_events.told e None (queues.ready_answer (x.at e))) rest h)
          (sym m.ends)
          (front_word e answer rest h all
          (sym (ap (λ (xs : List Entry). xs ++ rest) (ap (told_of e None) (ready_plain n mid e m.plain) ∙
          word_told e answer)) ∙ is));
    }
  where
    m : AreOfQueues n s e moves
    m = moves_of_queues n s e moves plain ok.moves

    mid : Machine
    mid = after_moves s e moves

    answer : Option (completions.Answer × List ℕ)
    answer = queues.ready_answer (mid.queues.at e)

follow_call : (n : ℕ) (s : Machine) (e : Endpoint) (q : queues.Call) (moves : List Move) (rest : List Entry)
    (h : List queue_events.Entry) → IsPlain n s → IsOnWorld q → AllByRecursion IsEntryOnWorld h →
    IsEvent n s (At e (Some (call_on_world q)) moves) → entries s (At e (Some (call_on_world q)) moves) ++ rest ≡
    entries_on_world h → IsFollowedBy n s (At e (Some (call_on_world q)) moves) rest h
follow_call n s e q moves rest h plain on all ok is =
    record {
      event = queue_events.At e (Some q) m.steps;
      allowed =
          record {
            inside = ok.inside;
            current = ok.current;
            fit = fit;
            steps =
                subst (λ (o : Option queues.Call). AreSteps (queue_events.start s.queues e o) e m.steps) taken m.taken;
          };
      ends = ap (λ (x : State). queue_events.settle x e) steps_end;
      plain = settled_plain n mid e m.plain;
      front = subst
          (λ (x : State). IsFront
          (queue_events.told e (queue_events.call_and_reply l (Some q)) (queues.ready_answer (x.at e))) rest h)
          (sym steps_end)
          (front_call e q (queues.immediate_reply l q) answer rest h on all
          (sym (ap (λ (xs : List Entry). xs ++ rest)
          (ap (told_of e (call_and_reply e l g (Some (call_on_world q)))) (ready_plain n mid e m.plain) ∙
          call_told e l g q answer taken)) ∙ is));
    }
  where
    l : Local
    l = s.queues.at e

    g : Membership
    g = s.groups.of e

    same : IsAsOnWorld n e l g (call_on_world q) q
    same = world_call n e l g q (ap (λ (x : Membership). x.present) (plain e))
        (ap (λ (x : Membership). slice_get x.held 0) (plain e)) on

    fit : refusals.fault n l q ≡ None
    fit = sym same.judged ∙ ok.fit

    taken : queue_call g (call_on_world q) ≡ Some q
    taken = same.taken fit

    began : Machine
    began = machine_start s e (Some (call_on_world q))

    began_plain : IsPlain n began
    began_plain x = ap (λ (o : Option (Communicator × Part)). (groups_start s.groups e o).of x) (enters_nothing g q) ∙
        plain x

    m : AreOfQueues n began e moves
    m = moves_of_queues n began e moves began_plain ok.moves

    mid : Machine
    mid = after_moves began e moves

    answer : Option (completions.Answer × List ℕ)
    answer = queues.ready_answer (mid.queues.at e)

    steps_end : steps_at (queue_events.start s.queues e (Some q)) e m.steps ≡ mid.queues
    steps_end = ap (λ (o : Option queues.Call). steps_at (queue_events.start s.queues e o) e m.steps) (sym taken) ∙
        m.ends

follow_event : (n : ℕ) (s : Machine) (v : Event) (rest : List Entry) (h : List queue_events.Entry) → IsPlain n s →
    IsEvent n s v → AllByRecursion IsEntryOnWorld h → entries s v ++ rest ≡ entries_on_world h →
    IsFollowedBy n s v rest h
follow_event n s (Restart r) rest h plain ok all is =
    record {
      event = queue_events.Restart r;
      allowed = ok;
      ends = refl;
      plain = plain;
      front =
          front_one (queue_events.Restarted r) rest h tt all is;
    }
follow_event n s (At e None moves) rest h plain ok all is = follow_word n s e moves rest h plain ok all is
follow_event n s (At e (Some c) moves) rest h plain ok all is =
    let named : IsNamed c = call_named e c _ _ rest h all is in
    subst (λ (x : Call). IsEvent n s (At e (Some x) moves) → entries s (At e (Some x) moves) ++ rest ≡
    entries_on_world h → IsFollowedBy n s (At e (Some x) moves) rest h) (sym named.is)
    (follow_call n s e named.named moves rest h plain named.on all) ok is

-- ---- runs

-- from any state
record IsRunFrom (n : ℕ) (s : State) (history : List queue_events.Entry) (now : State) : Type 0 where
  pub events : List queue_events.Event
  pub run : queue_runs.IsRun n s events
  pub tells : queue_runs.seen s events ≡ history
  pub ends : queue_runs.after_run s events ≡ now

nothing_seen : (h : List queue_events.Entry) → [] ≡ entries_on_world h → [] ≡ h
nothing_seen [] is = refl
nothing_seen (x ∷ h) is = absurd cc

follow : (n : ℕ) (vs : List Event) (s : Machine) (h : List queue_events.Entry) → IsPlain n s → IsRun n s vs →
    seen s vs ≡ entries_on_world h → AllByRecursion IsEntryOnWorld h → IsRunFrom n s.queues h (after_run s vs).queues
follow n [] s h plain run is all = record { events = []; run = tt; tells = nothing_seen h is; ends = refl }
follow n (v ∷ vs) s h plain run is all =
    let f : IsFollowedBy n s v (seen (after_event s v) vs) h = follow_event n s v (seen (after_event s v) vs) h plain run.0 all is in
    let rest : IsRunFrom n (after_event s v).queues f.front.later (after_run (after_event s v) vs).queues = follow n vs (after_event s v) f.front.later f.plain run.1 f.front.rest_is f.front.all in
    record {
      events = f.event ∷ rest.events;
      run = (f.allowed, subst (λ (x : State). queue_runs.IsRun n x rest.events) (sym f.ends) rest.run);
      tells = ap (λ (x : State). queue_events.entries s.queues f.event ++ queue_runs.seen x rest.events) f.ends
          ∙ (ap (λ (es : List queue_events.Entry). queue_events.entries s.queues f.event ++ es) rest.tells ∙
          sym f.front.is);
      ends = ap (λ (x : State). queue_runs.after_run x rest.events) f.ends ∙ rest.ends;
    }

pub runs_on_world_are_of_queues : RunsOnWorldAreOfQueues
runs_on_world_are_of_queues n limit events history run is all =
    let f : IsRunFrom n (machine_opening n limit).queues history (after_run (machine_opening n limit) events).queues = follow n events (machine_opening n limit) history (λ x. refl) run is all in
    record { events = f.events; run = f.run; tells = f.tells; ends = f.ends }
