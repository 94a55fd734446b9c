-- An event of the machine is what accounts say.
use Rattle.std.proofs.Common.{◌≡◌, ℕ, zero, suc, ◌+◌, ◌<◌, ◌≤◌, Bool, true, false, List, [], ◌∷◌, ◌++◌, length, Option}
use Rattle.std.proofs.Common.{Some, None, if◌then◌else◌, ◌==◌, slice_get, option_map, refl, sym, ap, ap₂, ◌∙◌, subst}
use Rattle.std.proofs.Common.{arith}
use Rattle.std.specs.List.{AllByRecursion}
use Rattle.std.proofs.lemmas.Bool.{eqb-true, eq-eqb}
use Rattle.std.proofs.lemmas.Option.{same_Some}
use Rattle.perfect_groups.proofs.GroupRuns.{Orderly, entry_held, move_kept}
use Rattle.perfect_groups.specs.Calls.{ByCollective, Call, Cancel, Enter, Improbe, Inquire, Iprobe, Irecv, Isend, Mrecv}
use Rattle.perfect_groups.specs.Calls.{Test, Wait, entry_of, held_at, in_world, queue_call, rank_or_null, receive_on}
use Rattle.perfect_groups.specs.Collectives.{Part}
use Rattle.perfect_groups.specs.Communicators.{Communicator, first_endpoint, group_of}
use Rattle.perfect_groups.specs.Events.{groups_start, machine_start}
use Rattle.perfect_groups.specs.Machine.{AreMoves, Differs, InQueues, Leaves, Machine, Move, after_move, after_moves}
use Rattle.perfect_groups.specs.Machine.{groups_after}
use Rattle.perfect_groups.specs.Membership.{Ending, Groups, Inside, Membership, Out, Present, with_member}
use Rattle.perfect_groups.specs.Results.{is_making}
use Rattle.perfect_groups.specs.Soundness.{IsReal, IsThere}
use Rattle.perfect_queues.specs.Calls as queues
use Rattle.perfect_queues.specs.Calls.{Blocked, Done, after_answer, after_settling, ready_answer}
use Rattle.perfect_queues.specs.Events.{start}
use Rattle.perfect_queues.specs.State.{State}
use Rattle.perfect_queues.specs.Steps.{Allowed, Finish, FinishSend, Learn, Match, Possible, See, Step, TakeOut}
use Rattle.perfect_queues.specs.Steps.{after_step, step_at}
use Rattle.vocabulary.specs.declared.endpoint.Endpoint.{Endpoint}
use Rattle.vocabulary.specs.declared.envelope.Source.{Source}
use Rattle.vocabulary.specs.declared.envelope.Source.TheVariants.{Any, Null, Rank}
use Rattle.one_meaning.specs.Accounts.{Account, Accounts, Answered, Entered, ForRequests, InCollective, Waiting}
use Rattle.one_meaning.specs.Accounts.{after_call, after_entry, after_group_part, after_queue_call, after_queue_part}
use Rattle.one_meaning.specs.Accounts.{answer_to, answered_wait, at_once, awaited_of, judged, membership_of, part_by}
use Rattle.one_meaning.specs.Accounts.{present_of, requests_of, sent_to, wait_answer}
use Rattle.one_meaning.specs.Courses.{RecordsAgree}
use Rattle.proof_one_meaning.specs.AccountViews.{HasQueues, HaveGroups, HaveQueues, IsCovered, IsFilled, IsInsideBy}
use Rattle.proof_one_meaning.specs.AccountViews.{IsMadeOrPresent, IsNotAny, IsOfAll, ahead, given_at, member_with}
use Rattle.proof_one_meaning.specs.AccountViews.{with_account}
use Rattle.proof_one_meaning.specs.Histories.{has_called}
use Rattle.one_meaning.proofs.Courses.{grew_queue}
use Rattle.proof_one_meaning.proofs.CollectiveEntries.{at_account, enter_has, inside_on, one_grew, still_made}
use Rattle.one_meaning.proofs.AnswerLaws.{AllGrew, Grew}
use Rattle.proof_one_meaning.proofs.CollectiveEnds.{HasLeft, IsLeaver, leave_plain, leaver, table_same}
use Rattle.proof_one_meaning.proofs.CommunicatorLaws.{leave_making}
use Rattle.proof_one_meaning.proofs.Queues.{queues_alike, step_keeps}
use Rattle.proof_one_meaning.proofs.QueueAccounts.{put_has, sent_alike}
use Rattle.proof_one_meaning.proofs.QueueCalls.{IsCoveredThere, start_has}

-- THE MACHINE IS WHAT ACCOUNTS SAY

pub record Linked (n : ℕ) (all : Accounts) (s : Machine) (r : ℕ) (o : Option Ending) : Type 0 where
  pub queues : HaveQueues all s.queues
  pub groups : HaveGroups n all s.groups r o

-- an account that changes to itself
pub unchanged : (all : Accounts) (r : ℕ) → with_account all r (all r) ≡ all
unchanged all r = λ i x. at_rank x i
  where
    at_rank : (x : ℕ) → with_account all r (all r) x ≡ all x
    at_rank x = go (x == r) refl
      where
        go : (b : Bool) → (x == r) ≡ b → (if b then all r else all x) ≡ all x
        go true u = ap all (sym (eqb-true x r u))
        go false u = refl

-- ACCOUNTS THAT CHANGE BUT FOR COMMUNICATORS

abbrev pub IsOfNoCollective : Option Waiting → Type 0
IsOfNoCollective None = Unit {0}
IsOfNoCollective (Some (ForRequests w)) = Unit {0}
IsOfNoCollective (Some (InCollective c k p)) = ⊥

no_present : (w : Option Waiting) → IsOfNoCollective w → present_of w ≡ None
no_present None h = refl
no_present (Some (ForRequests w)) h = refl
no_present (Some (InCollective c k p)) h = absurd h

no_ahead : (made : (c k : ℕ) → Option (List Communicator)) (e : Endpoint) (w : Option Waiting) → IsOfNoCollective w →
    ahead made e w ≡ 0
no_ahead made e None h = refl
no_ahead made e (Some (ForRequests w)) h = refl
no_ahead made e (Some (InCollective c k p)) h = absurd h

not_inside : (n : ℕ) (all : Accounts) (g : Groups) (x i : ℕ) (w : Option Waiting) → IsOfNoCollective w →
    IsInsideBy n all g x i w
not_inside n all g x i None h = tt
not_inside n all g x i (Some (ForRequests w)) h = tt
not_inside n all g x i (Some (InCollective c k p)) h = absurd h

pub quiet_groups : (n : ℕ) (all : Accounts) (g : Groups) (r : ℕ) (a : Account) → HaveGroups n all g r None →
    Grew (all r) a → a.held ≡ (all r).held → a.entered ≡ (all r).entered → a.serial ≡ (all r).serial →
    IsOfNoCollective (all r).waiting → IsOfNoCollective a.waiting → HaveGroups n (with_account all r a) g r None
quiet_groups n all g r a h grew held entered serial before after =
    record {
      member = at_account (λ x b. g.of (first_endpoint x) ≡ membership_of b) all r a (h.member r ∙ sym same_member)
          (λ x u. h.member x);
      free = λ o is. absurd (nothing o is);
      entered = λ c k x. h.entered c k x ∙ table_same all r a entered c k x;
      filled = at_account (λ x b. AllByRecursion (λ d. IsFilled d.members) b.held) all r a
          (subst (λ (hs : List Communicator). AllByRecursion (λ d. IsFilled d.members) hs) (sym held) (h.filled r))
          (λ x u. h.filled x);
      inside = at_account (λ x b. IsInsideBy n (with_account all r a) g x b.serial b.waiting) all r a
          (not_inside n (with_account all r a) g r a.serial a.waiting after)
          (λ x u. inside_on n all (with_account all r a) g g all_grew (λ d t. t) x (all x).serial (all x).waiting
          (h.inside x));
      were_made =
          λ c k cs is. still_made n all (with_account all r a) g g all_grew (λ d t. t) c k cs (h.were_made c k cs is);
      made_all =
          at_account (λ x b. (c k : ℕ) (e : Entered) →
          slice_get (Rattle.one_meaning.specs.Accounts.in_context c b.entered) k ≡ Some e →
          is_making e.part.record_is.kind ≡ true → IsMadeOrPresent g.made c k b.waiting)
          all r a own_made (λ x u. h.made_all x);
      serial = at_account (λ x b. g.serial (first_endpoint x) ≡ b.serial + ahead g.made (first_endpoint x) b.waiting)
          all r a
          (h.serial r ∙
          ap₂ (λ (i j : ℕ). i + j) (sym serial) (no_ahead g.made (first_endpoint r) (all r).waiting before ∙
          sym (no_ahead g.made (first_endpoint r) a.waiting after)))
          (λ x u. h.serial x);
    }
  where
    nothing : (o : Ending) → ◌≡◌ {A = Option Ending} None (Some o) → ⊥
    nothing o e = grind arith

    same_member : membership_of a ≡ membership_of (all r)
    same_member =
        ap₂ (λ (hs : List Communicator) (es : List Entered). record {
          held = hs;
          count =
              λ c. length (Rattle.one_meaning.specs.Accounts.in_context c es);
          present = present_of a.waiting;
        }) held
        entered
        ∙ ap (λ (p : Option Present). record {
          held =
              (all r).held;
          count = λ c. length (Rattle.one_meaning.specs.Accounts.in_context c (all r).entered);
          present = p;
        })
        (no_present a.waiting after ∙ sym (no_present (all r).waiting before))

    all_grew : AllGrew all (with_account all r a)
    all_grew = one_grew all r a grew

    own_made : (c k : ℕ) (e : Entered) → slice_get (Rattle.one_meaning.specs.Accounts.in_context c a.entered) k ≡
        Some e → is_making e.part.record_is.kind ≡ true → IsMadeOrPresent g.made c k a.waiting
    own_made c k e is m =
        go (all r).waiting before
        (h.made_all r c k e (ap (λ (es : List Entered). slice_get (Rattle.one_meaning.specs.Accounts.in_context c es) k)
        (sym entered) ∙ is) m)
      where
        go : (w : Option Waiting) → IsOfNoCollective w → IsMadeOrPresent g.made c k w →
            IsMadeOrPresent g.made c k a.waiting
        go w f (Rattle.proof_one_meaning.specs.AccountViews.WasMade cs u) =
            Rattle.proof_one_meaning.specs.AccountViews.WasMade cs u
        go w f (Rattle.proof_one_meaning.specs.AccountViews.IsPresent d p u v) = absurd (subst IsOfNoCollective u f)

-- ACCOUNTS THAT CHANGE BUT FOR REQUESTS

pub quiet_queues : (all : Accounts) (s : State) (r : ℕ) (a : Account) → HaveQueues all s → a.sent ≡ (all r).sent →
    a.started ≡ (all r).started → a.used ≡ (all r).used →
    awaited_of a.waiting ≡ awaited_of (all r).waiting → Rattle.proof_one_meaning.specs.AccountViews.WaitsOfAll a.waiting →
    HaveQueues (with_account all r a) s
quiet_queues all s r a h sent started used waiting waits = record { current = h.current; each = each }
  where
    own : HasQueues r (s.at (first_endpoint r)) a (sent_to all r)
    own =
        record {
          known = (h.each r).known;
          limit = (h.each r).limit;
          blocked = (h.each r).blocked ∙ sym waiting;
          waits = waits;
          count = (h.each r).count ∙ ap length (sym started);
          plain = (h.each r).plain;
          pairs = λ coming more.
              (h.each r).pairs coming more
              ∙ ap₂ (λ (rs : List Rattle.perfect_queues.specs.Requests.Request) (ks : List ℕ).
              Rattle.perfect_queues.specs.Requests.all_changed Rattle.one_meaning.specs.Accounts.gone
              (Rattle.one_meaning.specs.Pairs.resolved (λ s c. sent_to all r s c ++ coming s c) (rs ++ more)) ks)
              (sym started) (sym used);
        }

    each : (x : ℕ) → HasQueues x (s.at (first_endpoint x)) (with_account all r a x) (sent_to (with_account all r a) x)
    each x =
        queues_alike x (s.at (first_endpoint x)) (with_account all r a x) (sent_to all x)
        (sent_to (with_account all r a) x) (sent_alike all r a sent x)
        (at_account (λ x b. HasQueues x (s.at (first_endpoint x)) b (sent_to all x)) all r a own (λ x u. h.each x) x)

-- A CALL IS TAKEN

get_all : (P : Communicator → Type 0) (cs : List Communicator) (k : ℕ) (c : Communicator) → AllByRecursion P cs →
    slice_get cs k ≡ Some c → P c
get_all P [] k c a h = absurd (grind arith)
get_all P (x ∷ cs) zero c a h = subst P (same_Some x c h) a.0
get_all P (x ∷ cs) (suc k) c a h = get_all P cs k c a.1 h

-- what a call of queues leaves of an account
record IsQuietCall (a b : Account) : Type 0 where
  pub held : b.held ≡ a.held
  pub entered : b.entered ≡ a.entered
  pub serial : b.serial ≡ a.serial
  pub waits : IsOfNoCollective b.waiting

quiet_call : (r : ℕ) (a : Account) (q : queues.Call) → a.waiting ≡ None → IsQuietCall a (after_queue_call r a q)
quiet_call r a (queues.Isend mode c to tag b) idle =
    record { held = refl; entered = refl; serial = refl; waits = subst IsOfNoCollective (sym idle) tt }
quiet_call r a (queues.Irecv p) idle =
    record { held = refl; entered = refl; serial = refl; waits = subst IsOfNoCollective (sym idle) tt }
quiet_call r a (queues.Wait w) idle = record { held = refl; entered = refl; serial = refl; waits = tt }
quiet_call r a (queues.Test x) idle =
    record { held = refl; entered = refl; serial = refl; waits = subst IsOfNoCollective (sym idle) tt }
quiet_call r a (queues.Cancel x) idle =
    record { held = refl; entered = refl; serial = refl; waits = subst IsOfNoCollective (sym idle) tt }
quiet_call r a (queues.Iprobe q) idle =
    record { held = refl; entered = refl; serial = refl; waits = subst IsOfNoCollective (sym idle) tt }
quiet_call r a (queues.Improbe q) idle =
    record { held = refl; entered = refl; serial = refl; waits = subst IsOfNoCollective (sym idle) tt }
quiet_call r a (queues.Mrecv k into) idle =
    record { held = refl; entered = refl; serial = refl; waits = subst IsOfNoCollective (sym idle) tt }

abbrev IsCoveredPart : Option queues.Call → Type 0
IsCoveredPart None = Unit {0}
IsCoveredPart (Some q) = IsCoveredThere q

queue_start : (n : ℕ) (all : Accounts) (s : Machine) (r : ℕ) (o : Option queues.Call) → Linked n all s r None →
    IsCoveredPart o → (all r).waiting ≡ None →
    Linked n (with_account all r (after_queue_part r (all r) o))
    (record { queues = start s.queues (first_endpoint r) o; groups = s.groups }) r None
queue_start n all s r None h cover idle = subst (λ (x : Accounts). Linked n x s r None) (sym (unchanged all r)) h
queue_start n all s r (Some q) h cover idle =
    let quiet = quiet_call r (all r) q idle in
    record {
      queues = start_has all s.queues r q cover h.queues;
      groups = quiet_groups n all s.groups r (after_queue_call r (all r) q) h.groups (grew_queue r (all r) (Some q))
          quiet.held quiet.entered quiet.serial (subst IsOfNoCollective (sym idle) tt) quiet.waits;
    }

enter_start : (n : ℕ) (all : Accounts) (s : Machine) (r : ℕ) (o : Option (Communicator × Part)) →
    Linked n all s r None → Orderly n s.groups → (all r).waiting ≡ None →
    ((t : Communicator × Part) → o ≡ Some t → IsThere n s.groups.made t.0 × IsFilled t.0.members) →
    Linked n (with_account all r (after_group_part (all r) o))
    (record { queues = s.queues; groups = groups_start s.groups (first_endpoint r) o }) r None
enter_start n all s r None h orderly idle f = subst (λ (x : Accounts). Linked n x s r None) (sym (unchanged all r)) h
enter_start n all s r (Some t) h orderly idle f =
    record {
      queues = quiet_queues all s.queues r (after_entry (all r) t.0 t.1) h.queues refl refl refl
          (ap awaited_of (sym idle)) tt;
      groups = enter_has n all s.groups r t.0 t.1 orderly.sound h.groups idle (f t refl).0 (f t refl).1;
    }

named_not_any : (c : Communicator) (source : Source) → IsNotAny source → IsNotAny (in_world c source)
named_not_any c Any h = absurd h
named_not_any c Null h = tt
named_not_any c (Rank r) h = go (slice_get (group_of c) r)
  where
    go : (o : Option ℕ) → IsNotAny (rank_or_null o)
    go None = tt
    go (Some x) = tt

covered_part : (m : Membership) (call : Call) → IsCovered call → IsCoveredPart (queue_call m call)
covered_part m (Isend mode comm to tag from) c = go (held_at m comm)
  where
    go : (o : Option Communicator) →
        IsCoveredPart (option_map (λ c. queues.Isend mode c.context (in_world c to) tag from) o)
    go None = tt
    go (Some d) = tt
covered_part m (Irecv comm source tag into) c = go (held_at m comm)
  where
    go : (o : Option Communicator) → IsCoveredPart (option_map (λ c. queues.Irecv (receive_on c source tag into)) o)
    go None = tt
    go (Some d) = named_not_any d source c
covered_part m (Wait w) c = c
covered_part m (Test x) c = absurd c
covered_part m (Cancel x) c = absurd c
covered_part m (Iprobe comm source tag) c = absurd c
covered_part m (Improbe comm source tag) c = absurd c
covered_part m (Mrecv message into) c = absurd c
covered_part m (Enter comm x) c = tt
covered_part m (Inquire comm q) c = tt

-- the machine once a call was taken, by what the caller holds of communicators
by_member : Machine → Endpoint → Call → Membership → Machine
by_member s e call m =
    record { queues = start s.queues e (queue_call m call); groups = groups_start s.groups e (entry_of m call) }

start_by : (n : ℕ) (all : Accounts) (s : Machine) (r : ℕ) (call : Call) → Linked n all s r None → Orderly n s.groups →
    IsReal (first_endpoint r) → IsCovered call → (all r).waiting ≡ None →
    Linked n (has_called all r call)
    (record {
      queues = start s.queues (first_endpoint r) (queue_call (membership_of (all r)) call);
      groups =
          groups_start s.groups (first_endpoint r) (entry_of (membership_of (all r)) call);
    }) r None
start_by n all s r (Isend mode comm to tag from) h o real c idle =
    queue_start n all s r (queue_call (membership_of (all r)) (Isend mode comm to tag from)) h
    (covered_part (membership_of (all r)) (Isend mode comm to tag from) c) idle
start_by n all s r (Irecv comm source tag into) h o real c idle =
    queue_start n all s r (queue_call (membership_of (all r)) (Irecv comm source tag into)) h
    (covered_part (membership_of (all r)) (Irecv comm source tag into) c) idle
start_by n all s r (Wait w) h o real c idle = queue_start n all s r (Some (queues.Wait w)) h c idle
start_by n all s r (Test x) h o real c idle = absurd c
start_by n all s r (Cancel x) h o real c idle = absurd c
start_by n all s r (Iprobe comm source tag) h o real c idle = absurd c
start_by n all s r (Improbe comm source tag) h o real c idle = absurd c
start_by n all s r (Mrecv message into) h o real c idle = absurd c
start_by n all s r (Inquire comm q) h o real c idle = queue_start n all s r None h tt idle
start_by n all s r (Enter comm x) h o real c idle =
    enter_start n all s r (entry_of (membership_of (all r)) (Enter comm x)) h o idle there
  where
    there : (t : Communicator × Part) → entry_of (membership_of (all r)) (Enter comm x) ≡ Some t →
        IsThere n s.groups.made t.0 × IsFilled t.0.members
    there t is =
        let held = entry_held (membership_of (all r)) (Enter comm x) t is in
        let stands : AllByRecursion (IsThere n s.groups.made) (all r).held =
        subst (λ (m : Membership). AllByRecursion (IsThere n s.groups.made) m.held) (h.groups.member r)
        (o.sound.held (first_endpoint r) real) in (
          get_all (IsThere n s.groups.made) (all r).held held.0 t.0 stands held.1,
          get_all (λ d. IsFilled d.members) (all r).held held.0 t.0 (h.groups.filled r) held.1,
        )

pub start_linked : (n : ℕ) (all : Accounts) (s : Machine) (r : ℕ) (call : Call) → Linked n all s r None →
    Orderly n s.groups → IsReal (first_endpoint r) → IsCovered call → (all r).waiting ≡ None →
    Linked n (has_called all r call) (machine_start s (first_endpoint r) (Some call)) r None
start_linked n all s r call h o real c idle =
    subst
    (λ (m : Membership). Linked n (has_called all r call)
    (record {
      queues = start s.queues (first_endpoint r) (queue_call m call);
      groups =
          groups_start s.groups (first_endpoint r) (entry_of m call);
    }) r None)
    (sym (h.groups.member r)) (start_by n all s r call h o real c idle)

-- STEPS

no_learning : (all : Accounts) (s : State) (e : Endpoint) (y i : ℕ) → HaveQueues all s → Allowed (s.at e) (Learn y i) →
    Possible s e (Learn y i) → ⊥
no_learning all s e y i h a p =
    let now : s.current y ≡ 0 = h.current y in
    let below : (s.at e).known y < i = a in
    let most : i ≤ s.current y = p in
    omega (arith, now, below, most)

step_linked : (n : ℕ) (all : Accounts) (s : Machine) (r : ℕ) (o : Option Ending) (x : Step) → Linked n all s r o →
    Allowed (s.queues.at (first_endpoint r)) x → Possible s.queues (first_endpoint r) x →
    Linked n all (after_move s (first_endpoint r) (InQueues x)) r o
step_linked n all s r o x h a p =
    record {
      queues = subst (λ (y : Accounts). HaveQueues y (step_at s.queues (first_endpoint r) x)) (unchanged all r)
          (put_has all s.queues r (after_step (s.queues.at (first_endpoint r)) x) (all r) h.queues refl
          (step_keeps r (s.queues.at (first_endpoint r)) (all r) (sent_to all r) x not_learning a (h.queues.each r)));
      groups = same x refl;
    }
  where
    not_learning : (y i : ℕ) → x ≡ Learn y i → ⊥
    not_learning y i e =
        no_learning all s.queues (first_endpoint r) y i h.queues (subst (Allowed (s.queues.at (first_endpoint r))) e a)
        (subst (Possible s.queues (first_endpoint r)) e p)

    same : (z : Step) → x ≡ z → HaveGroups n all (groups_after s.groups (first_endpoint r) z) r o
    same (Match k p earlier m later) e = h.groups
    same (Finish k p m) e = h.groups
    same (FinishSend k d) e = h.groups
    same (Learn y i) e = absurd (not_learning y i e)
    same (See q earlier m later) e = h.groups
    same (TakeOut q earlier m later) e = h.groups

-- once an ending was given, no collective is left any more
given_own : (r : ℕ) (o : Ending) → given_at r (Some o) r ≡ Some o
given_own r o = ap (λ (b : Bool). if b then Some o else None) (eq-eqb r r refl)

no_more : (n : ℕ) (all : Accounts) (s : Machine) (r : ℕ) (o : Ending) → Linked n all s r (Some o) →
    (c : Communicator) (k : ℕ) (p : Part) → (s.groups.of (first_endpoint r)).present ≡ Some (Inside c k p) → ⊥
no_more n all s r o h c k p is =
    let e : ◌≡◌ {A = Option Present} (Some (Out o)) (Some (Inside c k p)) =
    sym (ap (λ (m : Membership). m.present) (h.groups.member r ∙ ap (member_with (all r)) (given_own r o))) ∙ is in
    grind arith

moves_after : (n : ℕ) (all : Accounts) (s : Machine) (r : ℕ) (o : Ending) (xs : List Move) → Linked n all s r (Some o) →
    AreMoves s (first_endpoint r) xs → Linked n all (after_moves s (first_endpoint r) xs) r (Some o)
moves_after n all s r o [] h a = h
moves_after n all s r o (InQueues x ∷ xs) h a =
    moves_after n all (after_move s (first_endpoint r) (InQueues x)) r o xs
    (step_linked n all s r (Some o) x h a.0.0 a.0.1) a.1
moves_after n all s r o (Leaves c k p ps ∷ xs) h a = absurd (no_more n all s r o h c k p a.0.inside)
moves_after n all s r o (Differs c k p x y px py ∷ xs) h a = absurd (no_more n all s r o h c k p a.0.inside)

-- what steps come to: accounts say the same, or the rank has left a collective as its account says
pub data MovesTo (n : ℕ) (all : Accounts) (s : Machine) (r : ℕ) : Type 0 where
  StaysSo : Linked n all s r None → MovesTo n all s r
  HasLeftSo : (c : Communicator) (k : ℕ) (p : Part) (t : Answered) (end : Ending) →
      (all r).waiting ≡ Some (InCollective c k p) → answer_to all r (all r) (InCollective c k p) ≡ Some t →
      t.0 ≡ ByCollective end →
      t.1.waiting ≡ None → Linked n (with_account all r t.1) s r (Some end) → MovesTo n all s r

left_to : (n : ℕ) (all : Accounts) (s : Machine) (r : ℕ) (g' : Groups) (c : Communicator) (k : ℕ) (p : Part)
    (xs : List Move) → HaveQueues all s.queues → HasLeft n all g' r c k p →
    AreMoves (record { queues = s.queues; groups = g' }) (first_endpoint r) xs →
    MovesTo n all (after_moves (record { queues = s.queues; groups = g' }) (first_endpoint r) xs) r
left_to n all s r g' c k p xs q l a =
    HasLeftSo c k p l.answered l.ending l.waiting l.answer l.told l.free
    (moves_after n (with_account all r l.answered.1) (record { queues = s.queues; groups = g' }) r l.ending xs
    (record {
      queues = quiet_queues all s.queues r l.answered.1 q l.sent l.started l.used (ap awaited_of l.free ∙
          ap awaited_of (sym l.waiting)) (subst Rattle.proof_one_meaning.specs.AccountViews.WaitsOfAll (sym l.free) tt);
      groups = l.groups;
    }) a)

pub moves_follow : (n : ℕ) (all : Accounts) (s : Machine) (r : ℕ) (xs : List Move) → n ≤ 65536 →
    IsReal (first_endpoint r) → Orderly n s.groups → RecordsAgree all → Linked n all s r None →
    AreMoves s (first_endpoint r) xs → MovesTo n all (after_moves s (first_endpoint r) xs) r
moves_follow n all s r [] le real o agrees h a = StaysSo h
moves_follow n all s r (InQueues x ∷ xs) le real o agrees h a =
    moves_follow n all (after_move s (first_endpoint r) (InQueues x)) r xs le real
    (move_kept n s (first_endpoint r) (InQueues x) le real (a.0, tt) o).orderly agrees
    (step_linked n all s r None x h a.0.0 a.0.1) a.1
moves_follow n all s r (Leaves c k p ps ∷ xs) le real o agrees h a = go (is_making p.record_is.kind) refl a.1
  where
    l : IsLeaver n all s.groups r c k p ps
    l = leaver n all s.groups r c k p ps h.groups a.0

    go : (b : Bool) → is_making p.record_is.kind ≡ b →
        AreMoves (record {
          queues = s.queues;
          groups =
              Rattle.perfect_groups.specs.Membership.leave_made s.groups (first_endpoint r) c k p ps b;
        })
        (first_endpoint r) xs →
        MovesTo n all
        (after_moves
        (record {
          queues = s.queues;
          groups =
              Rattle.perfect_groups.specs.Membership.leave_made s.groups (first_endpoint r) c k p ps b;
        })
        (first_endpoint r) xs) r
    go false u more =
        left_to n all s r (Rattle.perfect_groups.specs.Membership.leave_made s.groups (first_endpoint r) c k p ps false)
        c k p xs h.queues (leave_plain n all s.groups r c k p ps h.groups l u) more
    go true u more =
        left_to n all s r (Rattle.perfect_groups.specs.Membership.leave_made s.groups (first_endpoint r) c k p ps true)
        c k p xs h.queues (leave_making n all s.groups r c k p ps o.sound h.groups l u) more
moves_follow n all s r (Differs c k p x y px py ∷ xs) le real o agrees h a =
    let one : part_by all c.context k x ≡ Some px = sym (h.groups.entered c.context k x) ∙ a.0.one_is in
    let other : part_by all c.context k y ≡ Some py = sym (h.groups.entered c.context k y) ∙ a.0.other_is in
    let e : true ≡ false = sym (agrees c.context k x y px py one other) ∙ a.0.differ in
    absurd (grind arith)
