-- Settling an event gives just the answer that accounts give, and so each event tells what they give.
use Rattle.std.proofs.Common.{◌≡◌, ℕ, zero, suc, ◌<◌, ◌≤◌, Bool, true, false, ◌&&◌, ◌||◌, List, [], ◌∷◌, ◌++◌, length}
use Rattle.std.proofs.Common.{Option, Some, None, if◌then◌else◌, ◌==◌, slice_get, option_and_then, option_map, refl}
use Rattle.std.proofs.Common.{sym, ap, ap₂, ◌∙◌, subst, arith}
use Rattle.std.proofs.lemmas.Bool.{eqb-true, eq-eqb}
use Rattle.std.proofs.lemmas.Option.{same_Some}
use Rattle.perfect_groups.proofs.GroupRuns.{Standing, call_orderly, event_stands, start_stands}
use Rattle.perfect_groups.specs.Calls.{Answer, ByCollective, ByRequests, Call, Cancel, Enter, Improbe, Inquire, Iprobe}
use Rattle.perfect_groups.specs.Calls.{Irecv, Isend, Mrecv, OfFact, OfRequests, Reply, Test, Wait, fact_of, held_at}
use Rattle.perfect_groups.specs.Calls.{in_world, queue_reply, receive_on, reply_at_once}
use Rattle.perfect_groups.specs.Collectives.{Part}
use Rattle.perfect_groups.specs.Communicators.{Communicator, first_endpoint}
use Rattle.perfect_groups.specs.Events.{At, Called, Completed, Entry, Event, IsEvent, Restart, after_event}
use Rattle.perfect_groups.specs.Events.{answered_member, answered_present, as_reply, call_fault, ended_with, entries}
use Rattle.perfect_groups.specs.Events.{machine_settle, machine_start, ready_at, ready_by, told_of}
use Rattle.perfect_groups.specs.Faults.{is_within, wrong_communicator, wrong_count, wrong_incarnation, wrong_operation}
use Rattle.perfect_groups.specs.Faults.{wrong_rank, wrong_request, wrong_root, wrong_tag, wrong_type}
use Rattle.perfect_groups.specs.Machine.{AreMoves, Machine, Move, after_moves, machine_opening}
use Rattle.perfect_groups.specs.Membership.{Ending, Groups, Membership, Present, with_member}
use Rattle.perfect_groups.specs.Runs.{IsRun, after_run, seen}
use Rattle.perfect_groups.specs.Soundness.{IsReal}
use Rattle.perfect_queues.specs.Calls as queues
use Rattle.perfect_queues.specs.Calls.{Accepted, Blocked, Done, Pending, Started, after_answer, after_settling}
use Rattle.perfect_queues.specs.Calls.{ready_answer}
use Rattle.perfect_queues.specs.Completions as completions
use Rattle.perfect_queues.specs.Completions.{Unanswered, outcome_at}
use Rattle.perfect_queues.specs.Refusals.{first_fault, is_held, standing}
use Rattle.perfect_queues.specs.Requests.{Request, all_changed}
use Rattle.perfect_queues.specs.State.{Local, State, put}
use Rattle.vocabulary.specs.MessageLimits.{least}
use Rattle.vocabulary.specs.declared.endpoint.Endpoint.{Endpoint}
use Rattle.one_meaning.specs.Accounts.{Account, Accounts, Answered, Entered, ForRequests, InCollective, Waiting}
use Rattle.one_meaning.specs.Accounts.{after_call, after_queue_part, answer_to, answered_wait, at_once, awaited_of}
use Rattle.one_meaning.specs.Accounts.{gone, in_context, judged, local_of, membership_of, opened, present_of, sent_to}
use Rattle.one_meaning.specs.Courses.{RecordsAgree}
use Rattle.proof_one_meaning.specs.AccountViews.{HasQueues, HaveGroups, HaveQueues, IsCovered, IsFilled, IsInsideBy}
use Rattle.proof_one_meaning.specs.AccountViews.{WereMade, given_at, member_with, with_account}
use Rattle.proof_one_meaning.specs.Histories.{AgreeAlong, AreCovered, AreJustified, AtOnce, Blocks, IsReady, Justifies}
use Rattle.proof_one_meaning.specs.Histories.{RunsAreJustified, after_all, after_seen, answer_at, answer_by, given}
use Rattle.proof_one_meaning.specs.Histories.{given_so, has_called, has_heard}
use Rattle.proof_one_meaning.proofs.Events.{HasLeftSo, Linked, MovesTo, StaysSo, moves_follow, quiet_groups}
use Rattle.proof_one_meaning.proofs.Events.{start_linked, unchanged}
use Rattle.one_meaning.proofs.AnswerLaws.{grew_not}
use Rattle.proof_one_meaning.proofs.CallJudgements.{at_once_so, judged_so}
use Rattle.proof_one_meaning.proofs.QueueAccounts.{IsAnsweredSo, answered_so, put_has}

-- SETTLING

-- what a settling comes to: nothing is ready, and accounts say the same; or what is ready is the answer by accounts,
-- and they say what it leaves
pub data SettlesTo (n : ℕ) (all : Accounts) (s : Machine) (r : ℕ) : Type 0 where
  Quietly : ready_at s (first_endpoint r) ≡ None → Linked n all (machine_settle s (first_endpoint r)) r None →
      SettlesTo n all s r
  Gives : (t : Answered) → ready_at s (first_endpoint r) ≡ Some t.0 → answer_at all r ≡ Some t →
      Linked n (with_account all r t.1) (machine_settle s (first_endpoint r)) r None → SettlesTo n all s r

-- an endpoint's part that is put where it stood
put_same : (all : Accounts) (s : State) (r : ℕ) (l : Local) → HaveQueues all s → l ≡ s.at (first_endpoint r) →
    HaveQueues all (put s (first_endpoint r) l)
put_same all s r l h e =
    subst (λ (y : Accounts). HaveQueues y (put s (first_endpoint r) l)) (unchanged all r)
    (put_has all s r l (all r) h refl (subst (λ (x : Local). HasQueues r x (all r) (sent_to all r)) (sym e) (h.each r)))

-- a member that is put where it stood, or that was given an ending which is answered now
settled_groups : (n : ℕ) (all : Accounts) (g : Groups) (r : ℕ) (o : Option Ending) (m : Membership) →
    HaveGroups n all g r o → m ≡ membership_of (all r) →
    HaveGroups n all (record g { of = with_member g.of (first_endpoint r) m }) r None
settled_groups n all g r o m h e =
    record {
      member = member;
      free = λ x is. absurd (nothing x is);
      entered = h.entered;
      filled = h.filled;
      inside = λ x. inside_same (all x).waiting x (all x).serial (h.inside x);
      were_made = λ c k cs is. made_same c k cs (h.were_made c k cs is);
      made_all = h.made_all;
      serial = h.serial;
    }
  where
    nothing : (x : Ending) → ◌≡◌ {A = Option Ending} None (Some x) → ⊥
    nothing x e = grind arith

    g' : Groups
    g' = record g { of = with_member g.of (first_endpoint r) m }

    elsewhere : (x : ℕ) → (x == r) ≡ false → (o : Option Ending) → given_at r o x ≡ None
    elsewhere x u None = refl
    elsewhere x u (Some y) = ap (λ (b : Bool). if b then Some y else None) u

    member : (x : ℕ) → with_member g.of (first_endpoint r) m (first_endpoint x) ≡ membership_of (all x)
    member x = go (x == r) refl
      where
        go : (b : Bool) → (x == r) ≡ b → (if b && (0 == 0) then m else g.of (first_endpoint x)) ≡ membership_of (all x)
        go true u = e ∙ ap (λ (y : ℕ). membership_of (all y)) (sym (eqb-true x r u))
        go false u = h.member x ∙ ap (member_with (all x)) (elsewhere x u o)

    inside_same : (w : Option Waiting) (x i : ℕ) → IsInsideBy n all g x i w → IsInsideBy n all g' x i w
    inside_same None x i f = tt
    inside_same (Some (ForRequests w)) x i f = tt
    inside_same (Some (InCollective c k p)) x i f = record { there = f.there; filled = f.filled; entry = f.entry }

    made_same : (c k : ℕ) (cs : List Communicator) → WereMade n all g c k cs → WereMade n all g' c k cs
    made_same c k cs w =
        record {
          comm = w.comm;
          there = w.there;
          context = w.context;
          maker = w.maker;
          others = w.others;
          members = w.members;
          parts = w.parts;
          all_entered = w.all_entered;
          part = w.part;
          making = w.making;
          agreeing = w.agreeing;
          entry = w.entry;
          entry_is = w.entry_is;
          made_is = w.made_is;
        }

not_ended : (w : Option Waiting) → ended_with (present_of w) ≡ None
not_ended None = refl
not_ended (Some (ForRequests w)) = refl
not_ended (Some (InCollective c k p)) = refl

present_answered : (w : Option Waiting) → answered_present (present_of w) ≡ present_of w
present_answered None = refl
present_answered (Some (ForRequests w)) = refl
present_answered (Some (InCollective c k p)) = refl

-- accounts say the same so far
settle_so : (n : ℕ) (all : Accounts) (s : Machine) (r : ℕ) → Linked n all s r None → SettlesTo n all s r
settle_so n all s r h = go (ready_answer l) refl
  where
    e : Endpoint
    e = first_endpoint r

    l : Local
    l = s.queues.at e

    present : (s.groups.of e).present ≡ present_of (all r).waiting
    present = ap (λ (m : Membership). m.present) (h.groups.member r)

    no_ending : ended_with (s.groups.of e).present ≡ None
    no_ending = ap ended_with present ∙ not_ended (all r).waiting

    ready : (o : Option (completions.Answer × List ℕ)) → ready_answer l ≡ o → ready_at s e ≡ ready_by None o
    ready o u = ap₂ ready_by no_ending u

    same_member : answered_member (s.groups.of e) ≡ membership_of (all r)
    same_member =
        ap answered_member (h.groups.member r)
        ∙ ap (λ (p : Option Present). record {
          held = (all r).held;
          count = λ c. length (in_context c (all r).entered);
          present = p;
        }) (present_answered (all r).waiting)

    groups : HaveGroups n all (machine_settle s e).groups r None
    groups = settled_groups n all s.groups r None (answered_member (s.groups.of e)) h.groups same_member

    go : (o : Option (completions.Answer × List ℕ)) → ready_answer l ≡ o → SettlesTo n all s r
    go None u =
        Quietly (ready None u)
        (record {
          queues = put_same all s.queues r (after_settling l) h.queues (ap (after_answer l) u);
          groups =
              groups;
        })
    go (Some t) u =
        Gives (answered_wait (all r) t) (ready (Some t) u) answer
        (record {
          queues = put_has all s.queues r (after_settling l) (answered_wait (all r) t).1 h.queues refl
              (subst (λ (x : Local). HasQueues r x (answered_wait (all r) t).1 (sent_to all r))
              (sym (ap (after_answer l) u)) so.after);
          groups = quiet_groups n all (machine_settle s e).groups r (answered_wait (all r) t).1 groups
              (grew_not (all r) (answered_wait (all r) t).1 refl refl) refl refl refl
              (subst Rattle.proof_one_meaning.proofs.Events.IsOfNoCollective (sym so.waiting) tt) tt;
        })
      where
        so : IsAnsweredSo r l (all r) (sent_to all r) t
        so = answered_so r l (all r) (sent_to all r) (h.queues.each r) t u

        answer : answer_at all r ≡ Some (answered_wait (all r) t)
        answer = ap (answer_by all r) so.waiting ∙ ap (option_map (answered_wait (all r))) so.answer

-- a rank has left a collective
settle_left : (n : ℕ) (all : Accounts) (s : Machine) (r : ℕ) (c : Communicator) (k : ℕ) (p : Part) (t : Answered)
    (end : Ending) → (all r).waiting ≡ Some (InCollective c k p) →
    answer_to all r (all r) (InCollective c k p) ≡ Some t → t.0 ≡ ByCollective end → t.1.waiting ≡ None →
    Linked n (with_account all r t.1) s r (Some end) → SettlesTo n all s r
settle_left n all s r c k p t end waits answer told free h =
    Gives t (ready ∙ ap (λ (a : Answer). Some a) (sym told)) (ap (answer_by all r) waits ∙ answer)
    (record {
      queues = put_same all' s.queues r (after_settling l) h.queues (ap (after_answer l) not_ready);
      groups =
          settled_groups n all' s.groups r (Some end) (answered_member (s.groups.of e)) h.groups same_member;
    })
  where
    e : Endpoint
    e = first_endpoint r

    l : Local
    l = s.queues.at e

    all' : Accounts
    all' = with_account all r t.1

    own : all' r ≡ t.1
    own = ap (λ (b : Bool). if b then t.1 else all r) (eq-eqb r r refl)

    member : s.groups.of e ≡ member_with (all' r) (Some end)
    member = h.groups.member r ∙ ap (λ (b : Bool). member_with (all' r) (if b then Some end else None))
        (eq-eqb r r refl)

    not_ready : ready_answer l ≡ None
    not_ready =
        ap (λ (b : Option Unanswered). option_and_then (completions.answer_to (outcome_at l.requests)) b)
        ((h.queues.each r).blocked ∙ ap (λ (a : Account). awaited_of a.waiting) own ∙ ap awaited_of free)

    ready : ready_at s e ≡ Some (ByCollective end)
    ready = ap (λ (m : Membership). ready_by (ended_with m.present) (ready_answer l)) member

    same_member : answered_member (s.groups.of e) ≡ membership_of (all' r)
    same_member =
        ap answered_member member
        ∙ ap (λ (p : Option Present). record {
          held =
              (all' r).held;
          count = λ c. length (in_context c (all' r).entered);
          present = p;
        })
        (sym (ap (λ (a : Account). present_of a.waiting) own ∙ ap present_of free))

settles : (n : ℕ) (all : Accounts) (s : Machine) (r : ℕ) → MovesTo n all s r → SettlesTo n all s r
settles n all s r (StaysSo h) = settle_so n all s r h
settles n all s r (HasLeftSo c k p t end waits answer told free h) =
    settle_left n all s r c k p t end waits answer told free h

-- A CALL

-- a call without a fault finds its caller waiting for nothing
held_none : (w : Option Waiting) → is_held (awaited_of w) ≡ false → is_within (present_of w) ≡ false → w ≡ None
held_none None h i = refl
held_none (Some (ForRequests w)) h i = absurd (grind arith)
held_none (Some (InCollective c k p)) h i = absurd (grind arith)

or_parts : (a b : Bool) → (a || b) ≡ false → (a ≡ false) × (b ≡ false)
or_parts false false h = (refl, refl)
or_parts true b h = absurd (grind arith)
or_parts false true h = absurd (grind arith)

first_test : (a : Bool) (x : ℕ) (rest : List (Bool × ℕ)) → first_fault ((a, x) ∷ rest) ≡ None → a ≡ false
first_test false x rest h = refl
first_test true x rest h = absurd (grind arith)

pub idle_call : (r : ℕ) (a : Account) (call : Call) → judged r a call ≡ None → a.waiting ≡ None
idle_call r a call h =
    let tests = or_parts blocked wrong (first_test (blocked || wrong) 6 rest h) in
    let parts = or_parts (is_held (awaited_of a.waiting)) (is_within (present_of a.waiting)) tests.0 in
    held_none a.waiting parts.0 parts.1
  where
    m : Membership
    m = membership_of a

    blocked : Bool
    blocked = is_held (awaited_of a.waiting) || is_within (present_of a.waiting)

    wrong : Bool
    wrong = wrong_request (λ k. standing (slice_get (local_of r a).requests k)) call

    rest : List (Bool × ℕ)
    rest =
        (wrong_communicator m call, 4) ∷ (wrong_type (first_endpoint r) m call, 2) ∷
        (wrong_count least (first_endpoint r) m call, 1) ∷ (wrong_tag call, 3) ∷ (wrong_rank m call, 5) ∷
        (wrong_root m call, 7) ∷
        (wrong_operation call, 9) ∷ (wrong_incarnation (local_of r a).known m call, 11) ∷ []

-- a call that is answered at once leaves its caller waiting for nothing, and gives nothing
pub record IsDoneAtOnce (all : Accounts) (r : ℕ) (call : Call) (reply : Reply) : Type 0 where
  pub waits : (after_call r (all r) call).waiting ≡ None
  pub heard : has_heard (has_called all r call) r reply ≡ has_called all r call

pub done_at_once : (all : Accounts) (r : ℕ) (call : Call) (reply : Reply) → IsCovered call → (all r).waiting ≡ None →
    at_once r (all r) call ≡ Some reply → IsDoneAtOnce all r call reply
done_at_once all r (Isend mode comm to tag from) reply c idle is = go (held_at (membership_of (all r)) comm) refl is
  where
    go : (o : Option Communicator) → held_at (membership_of (all r)) comm ≡ o →
        queue_reply (local_of r (all r)) (option_map (λ c. queues.Isend mode c.context (in_world c to) tag from) o) ≡
        Some reply → IsDoneAtOnce all r (Isend mode comm to tag from) reply
    go None u i = absurd (grind arith)
    go (Some d) u i =
        let e : OfRequests (Started (length (all_changed gone (all r).started (all r).used))) ≡ reply = same_Some (OfRequests (Started (length (all_changed gone (all r).started (all r).used)))) reply i in
        record {
          waits = ap
              (λ (o : Option Communicator).
              (after_queue_part r (all r)
              (option_map (λ c. queues.Isend mode c.context (in_world c to) tag from) o)).waiting) u ∙ idle;
          heard = subst (λ (x : Reply). has_heard (has_called all r (Isend mode comm to tag from)) r x ≡
              has_called all r (Isend mode comm to tag from)) e refl;
        }
done_at_once all r (Irecv comm source tag into) reply c idle is = go (held_at (membership_of (all r)) comm) refl is
  where
    go : (o : Option Communicator) → held_at (membership_of (all r)) comm ≡ o →
        queue_reply (local_of r (all r)) (option_map (λ c. queues.Irecv (receive_on c source tag into)) o) ≡
        Some reply → IsDoneAtOnce all r (Irecv comm source tag into) reply
    go None u i = absurd (grind arith)
    go (Some d) u i =
        let e : OfRequests (Started (length (all_changed gone (all r).started (all r).used))) ≡ reply = same_Some (OfRequests (Started (length (all_changed gone (all r).started (all r).used)))) reply i in
        record {
          waits = ap
              (λ (o : Option Communicator).
              (after_queue_part r (all r) (option_map (λ c. queues.Irecv (receive_on c source tag into)) o)).waiting) u
              ∙ idle;
          heard = subst (λ (x : Reply). has_heard (has_called all r (Irecv comm source tag into)) r x ≡
              has_called all r (Irecv comm source tag into)) e refl;
        }
done_at_once all r (Wait w) reply c idle is = absurd (grind arith)
done_at_once all r (Test x) reply c idle is = absurd c
done_at_once all r (Cancel x) reply c idle is = absurd c
done_at_once all r (Iprobe comm source tag) reply c idle is = absurd c
done_at_once all r (Improbe comm source tag) reply c idle is = absurd c
done_at_once all r (Mrecv message into) reply c idle is = absurd c
done_at_once all r (Enter comm x) reply c idle is = absurd (grind arith)
done_at_once all r (Inquire comm q) reply c idle is = go (held_at (membership_of (all r)) comm) is
  where
    go : (o : Option Communicator) →
        option_map (λ c. OfFact (fact_of (first_endpoint r) (membership_of (all r)) c q)) o ≡ Some reply →
        IsDoneAtOnce all r (Inquire comm q) reply
    go None i = absurd (grind arith)
    go (Some d) i =
        let e : OfFact (fact_of (first_endpoint r) (membership_of (all r)) d q) ≡ reply = same_Some (OfFact (fact_of (first_endpoint r) (membership_of (all r)) d q)) reply i in
        record {
          waits = idle;
          heard = subst (λ (x : Reply). has_heard (has_called all r (Inquire comm q)) r x ≡
              has_called all r (Inquire comm q)) e refl;
        }

-- EVENTS

-- what an event tells: nothing, and accounts say the same; or one entry, which accounts give, and they say what it
-- leaves
pub data EventTells (n : ℕ) (all : Accounts) (s : Machine) (v : Event) : Type 0 where
  Silent : entries s v ≡ [] → ((r : ℕ) → Linked n all (after_event s v) r None) → EventTells n all s v
  Tells : (y : Entry) → entries s v ≡ y ∷ [] → Justifies all y →
      ((r : ℕ) → Linked n (after_seen all y) (after_event s v) r None) → EventTells n all s v

-- where no ending was given, it is no matter which rank is spoken of
relinked : (n : ℕ) (all : Accounts) (s : Machine) (r : ℕ) → Linked n all s r None → (x : ℕ) → Linked n all s x None
relinked n all s r h x =
    record {
      queues = h.queues;
      groups = record {
        member = h.groups.member;
        free = λ o is. absurd (nothing o is);
        entered = h.groups.entered;
        filled = h.groups.filled;
        inside = h.groups.inside;
        were_made = h.groups.were_made;
        made_all = h.groups.made_all;
        serial = h.groups.serial;
      };
    }
  where
    nothing : (x : Ending) → ◌≡◌ {A = Option Ending} None (Some x) → ⊥
    nothing x e = grind arith

given_is : (all : Accounts) (r : ℕ) (t : Answered) → answer_at all r ≡ Some t → given all r ≡ with_account all r t.1
given_is all r t h = ap (given_so all r) h

-- an event without a call
without_call : (n : ℕ) (all : Accounts) (s : Machine) (r : ℕ) (xs : List Move) →
    SettlesTo n all (after_moves s (first_endpoint r) xs) r → EventTells n all s (At (first_endpoint r) None xs)
without_call n all s r xs (Quietly u h) =
    Silent (ap (told_of (first_endpoint r) None) u)
    (relinked n all (machine_settle (after_moves s (first_endpoint r) xs) (first_endpoint r)) r h)
without_call n all s r xs (Gives t u a h) =
    Tells (Completed (first_endpoint r) t.0) (ap (told_of (first_endpoint r) None) u)
    (record { first = refl; answered = t; answer = a; told = refl })
    (relinked n (given all r) (machine_settle (after_moves s (first_endpoint r) xs) (first_endpoint r)) r
    (subst (λ (x : Accounts). Linked n x (machine_settle (after_moves s (first_endpoint r) xs) (first_endpoint r)) r
    None) (sym (given_is all r t a)) h))

-- an answer as a reply gives it
as_reply_gives : (all : Accounts) (r : ℕ) (a : Answer) → has_heard all r (as_reply a) ≡ given all r
as_reply_gives all r (ByRequests a) = refl
as_reply_gives all r (ByCollective o) = refl

-- an event with a call
with_call : (n : ℕ) (all : Accounts) (s : Machine) (r : ℕ) (call : Call) (xs : List Move) → Linked n all s r None →
    IsCovered call → judged r (all r) call ≡ None →
    SettlesTo n (has_called all r call)
    (after_moves (machine_start s (first_endpoint r) (Some call)) (first_endpoint r) xs) r →
    EventTells n all s (At (first_endpoint r) (Some call) xs)
with_call n all s r call xs h cover fit settled = go (at_once r (all r) call) refl settled
  where
    e : Endpoint
    e = first_endpoint r

    idle : (all r).waiting ≡ None
    idle = idle_call r (all r) call fit

    all1 : Accounts
    all1 = has_called all r call

    after : Machine
    after = after_moves (machine_start s e (Some call)) e xs

    reply_is : reply_at_once e (s.queues.at e) (s.groups.of e) call ≡ at_once r (all r) call
    reply_is =
        at_once_so r (s.queues.at e) (s.groups.of e) (all r) (sent_to all r) (h.queues.each r) (h.groups.member r) call
        cover

    told : (o : Option Reply) → at_once r (all r) call ≡ o → (a : Option Answer) → ready_at after e ≡ a →
        entries s (At e (Some call) xs) ≡ told_of e (Some (call, o)) a
    told o u a v = ap₂ (λ (o : Option Reply) (a : Option Answer). told_of e (Some (call, o)) a) (reply_is ∙ u) v

    own : all1 r ≡ after_call r (all r) call
    own = ap (λ (b : Bool). if b then after_call r (all r) call else all r) (eq-eqb r r refl)

    none_ready : (after_call r (all r) call).waiting ≡ None → (t : Answered) → answer_at all1 r ≡ Some t → ⊥
    none_ready w t u =
        let k : ◌≡◌ {A = Option Answered} None (Some t) = sym (ap (answer_by all1 r) (ap (λ (a : Account). a.waiting) own ∙ w)) ∙ u in
        grind arith

    go : (o : Option Reply) → at_once r (all r) call ≡ o → SettlesTo n all1 after r →
        EventTells n all s (At e (Some call) xs)
    go (Some reply) u (Quietly v k) =
        let done = done_at_once all r call reply cover idle u in
        Tells (Called e call reply) (told (Some reply) u None v)
        (record { first = refl; idle = idle; fit = fit; replied = AtOnce u done.heard })
        (relinked n (has_heard all1 r reply) (machine_settle after e) r
        (subst (λ (x : Accounts). Linked n x (machine_settle after e) r None) (sym done.heard) k))
    go (Some reply) u (Gives t v a k) = absurd (none_ready (done_at_once all r call reply cover idle u).waits t a)
    go None u (Quietly v k) =
        Tells (Called e call (OfRequests Blocked)) (told None u None v)
        (record { first = refl; idle = idle; fit = fit; replied = Blocks u refl })
        (relinked n all1 (machine_settle after e) r k)
    go None u (Gives t v a k) =
        Tells (Called e call (as_reply t.0)) (told None u (Some t.0) v)
        (record { first = refl; idle = idle; fit = fit; replied = IsReady u t a refl })
        (relinked n (has_heard all1 r (as_reply t.0)) (machine_settle after e) r
        (subst (λ (x : Accounts). Linked n x (machine_settle after e) r None)
        (sym (as_reply_gives all1 r t.0 ∙ given_is all1 r t a)) k))

-- what is asked of an event's call, where it has one: it is covered, and once it is made records agree
abbrev CallIsFine : Accounts → (rank : ℕ) → Option Call → Type 0
CallIsFine all r None = Unit {0}
CallIsFine all r (Some call) = IsCovered call × (judged r (all r) call ≡ None → RecordsAgree (has_called all r call))

event_at : (n : ℕ) (all : Accounts) (s : Machine) (r : ℕ) (o : Option Call) (xs : List Move) → n ≤ 65536 →
    Standing n s → Linked n all s r None → RecordsAgree all → CallIsFine all r o →
    IsEvent n s (At (first_endpoint r) o xs) → EventTells n all s (At (first_endpoint r) o xs)
event_at n all s r o xs le stands h agrees fine i = go o fine i.fit i.moves
  where
    e : Endpoint
    e = first_endpoint r

    real : IsReal e
    real = (let lt : r < n = i.inside in omega (arith, lt), omega arith)

    go : (o : Option Call) → CallIsFine all r o → call_fault e (s.queues.at e) (s.groups.of e) o ≡ None →
        AreMoves (machine_start s e o) e xs → EventTells n all s (At e o xs)
    go None f fit moves =
        without_call n all s r xs
        (settles n all (after_moves s e xs) r (moves_follow n all s r xs le real stands.orderly agrees h moves))
    go (Some call) f fit moves =
        let so : judged r (all r) call ≡ None = sym (judged_so r (s.queues.at e) (s.groups.of e) (all r) (sent_to all r) (h.queues.each r) (h.groups.member r) call) ∙ fit in
        let begun = start_linked n all s r call h stands.orderly real f.0 (idle_call r (all r) call so) in
        with_call n all s r call xs h f.0 so
        (settles n (has_called all r call) (after_moves (machine_start s e (Some call)) e xs) r
        (moves_follow n (has_called all r call) (machine_start s e (Some call)) r xs le real
        (call_orderly n s e (Some call) real stands.orderly).orderly (f.1 so) begun moves))

-- an event at whatever endpoint
abbrev AtAny : (n : ℕ) → Accounts → Machine → Option Call → List Move → Endpoint → Type 0
AtAny n all s o xs e = IsEvent n s (At e o xs) → EventTells n all s (At e o xs)

pub event_tells : (n : ℕ) (all : Accounts) (s : Machine) (e : Endpoint) (o : Option Call) (xs : List Move) → n ≤ 65536 →
    Standing n s → Linked n all s e.rank None → RecordsAgree all → CallIsFine all e.rank o →
    IsEvent n s (At e o xs) → EventTells n all s (At e o xs)
event_tells n all s e o xs le stands h agrees fine i =
    subst (AtAny n all s o xs) (sym first) (event_at n all s e.rank o xs le stands h agrees fine) i
  where
    first : e ≡ first_endpoint e.rank
    first = λ t. record { rank = e.rank; incarnation = (i.current ∙ h.queues.current e.rank) t }

-- RUNS

-- a call tells itself
call_told : (e : Endpoint) (c : Call) (r : Option Reply) (o : Option Answer) →
    (reply : Reply) × (told_of e (Some (c, r)) o ≡ Called e c reply ∷ [])
call_told e c (Some r) o = (r, refl)
call_told e c None (Some a) = (as_reply a, refl)
call_told e c None None = (OfRequests Blocked, refl)

-- where the history is fine, so is the event's call that it tells
fine_of : (all : Accounts) (s : Machine) (e : Endpoint) (o : Option Call) (xs : List Move) (rest : List Entry) →
    AreCovered (entries s (At e o xs) ++ rest) → AgreeAlong all (entries s (At e o xs) ++ rest) →
    CallIsFine all e.rank o
fine_of all s e None xs rest c a = tt
fine_of all s e (Some call) xs rest c a =
    let t = call_told e call (reply_at_once e (s.queues.at e) (s.groups.of e) call) (ready_at (after_moves (machine_start s e (Some call)) e xs) e) in
    let covered : AreCovered ((Called e call t.0 ∷ []) ++ rest) = subst (λ (vs : List Entry). AreCovered (vs ++ rest)) t.1 c in
    let agree : AgreeAlong all ((Called e call t.0 ∷ []) ++ rest) = subst (λ (vs : List Entry). AgreeAlong all (vs ++ rest)) t.1 a in
    (covered.0, agree.0)

pub record Follows (n : ℕ) (all : Accounts) (vs : List Entry) (end : Machine) : Type 0 where
  pub justified : AreJustified all vs
  pub linked : (r : ℕ) → Linked n (after_all all vs) end r None

pub run_follows : (n : ℕ) (events : List Event) (all : Accounts) (s : Machine) → n ≤ 65536 → Standing n s →
    ((r : ℕ) → Linked n all s r None) → RecordsAgree all → IsRun n s events →
    AreCovered (seen s events) → AgreeAlong all (seen s events) → Follows n all (seen s events) (after_run s events)
run_follows n [] all s le stands h agrees run c a = record { justified = tt; linked = h }
run_follows n (Restart r ∷ events) all s le stands h agrees run c a = absurd c.0
run_follows n (At e o xs ∷ events) all s le stands h agrees run c a =
    go (event_tells n all s e o xs le stands (h e.rank) agrees
    (fine_of all s e o xs (seen (after_event s v) events) c a) run.0)
    (λ next k g cc aa. run_follows n events next (after_event s v) le (event_stands n s v le run.0 stands).after k g
    run.1 cc aa) c a
  where
    v : Event
    v = At e o xs

    go : EventTells n all s v →
        ((next : Accounts) → ((r : ℕ) → Linked n next (after_event s v) r None) → RecordsAgree next →
        AreCovered (seen (after_event s v) events) → AgreeAlong next (seen (after_event s v) events) →
        Follows n next (seen (after_event s v) events) (after_run (after_event s v) events)) →
        AreCovered (entries s v ++ seen (after_event s v) events) →
        AgreeAlong all (entries s v ++ seen (after_event s v) events) →
        Follows n all (entries s v ++ seen (after_event s v) events) (after_run (after_event s v) events)
    go (Silent u k) f c a =
        subst (λ (ys : List Entry). Follows n all (ys ++ seen (after_event s v) events)
        (after_run (after_event s v) events)) (sym u)
        (f all k agrees (subst (λ (ys : List Entry). AreCovered (ys ++ seen (after_event s v) events)) u c)
        (subst (λ (ys : List Entry). AgreeAlong all (ys ++ seen (after_event s v) events)) u a))
    go (Tells y u j k) f c a =
        let covered : AreCovered (y ∷ seen (after_event s v) events) = subst (λ (ys : List Entry). AreCovered (ys ++ seen (after_event s v) events)) u c in
        let along : AgreeAlong all (y ∷ seen (after_event s v) events) = subst (λ (ys : List Entry). AgreeAlong all (ys ++ seen (after_event s v) events)) u a in
        let later = along.1 j in
        let rest = f (after_seen all y) k later.0 covered.1 later.1 in
        subst (λ (ys : List Entry). Follows n all (ys ++ seen (after_event s v) events)
        (after_run (after_event s v) events)) (sym u)
        (record { justified = (j, rest.justified); linked = rest.linked })

-- THE START

pub opening_linked : (n : ℕ) (r : ℕ) → 0 < n → Linked n (opened n) (machine_opening n least) r None
opening_linked n r some =
    record {
      queues = record {
        current = λ x. refl;
        each = λ x. record {
          known = refl;
          limit = refl;
          blocked = refl;
          waits = tt;
          count = refl;
          plain = record {
            named = λ k p is. absurd (none_there (Rattle.perfect_queues.specs.Requests.Posted p) is);
            from_first = λ y i c m ms is. absurd (no_message m ms is);
          };
          pairs = λ coming more. refl;
        };
      };
      groups = record {
        member = λ x. refl;
        free = λ o is. absurd (none_there o is);
        entered = λ c k x. none_entered x;
        filled = λ x. (world_filled n some, (tt, tt));
        inside = λ x. tt;
        were_made = λ c k cs is. absurd (none_there cs is);
        made_all = λ x c k e is m. absurd (none_there e is);
        serial = λ x. refl;
      };
    }
  where
    none_there : {A : Type 0} (x : A) → ◌≡◌ {A = Option A} None (Some x) → ⊥
    none_there x e = grind arith

    no_message : (m : Rattle.perfect_queues.specs.Messages.Message)
        (ms : List Rattle.perfect_queues.specs.Messages.Message) → [] ≡ m ∷ ms → ⊥
    no_message m ms e = grind arith

    none_entered : (x : Endpoint) →
        ◌≡◌ {A = Option Part} None (option_map (λ (e : Entered). e.part) (if x.incarnation == 0 then None else None))
    none_entered x = go (x.incarnation == 0)
      where
        go : (b : Bool) → ◌≡◌ {A = Option Part} None (option_map (λ (e : Entered). e.part) (if b then None else None))
        go true = refl
        go false = refl

    world_filled : (n : ℕ) → 0 < n → IsFilled (Rattle.perfect_groups.specs.Communicators.world_of n).members
    world_filled zero lt = absurd (omega (arith, lt))
    world_filled (suc m) lt = tt

pub runs_are_justified : RunsAreJustified
runs_are_justified n events le some run covered agrees along =
    let f = run_follows n events (opened n) (machine_opening n least) le (start_stands n least) (λ r. opening_linked n r some) agrees run covered along in
    (f.justified, λ r call. judged_so r _ _ _ _ ((f.linked r).queues.each r) ((f.linked r).groups.member r) call)
