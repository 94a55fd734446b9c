-- A rank answers its blocked call where its core in the network does.
use Rattle.std.proofs.Common.{◌≡◌, ℕ, List, All, map, length, Option, Some, None, option_and_then, refl, sym, ap, ◌∙◌}
use Rattle.std.proofs.Common.{subst}
use Rattle.std.proofs.lemmas.List.Elements.{recursion_from_All}
use Rattle.std.proofs.lemmas.Option.{none-some}
use Rattle.perfect_queues.specs.Completions as machine
use Rattle.perfect_queues.specs.Events.{told}
use Rattle.perfect_queues.specs.Requests.{all_changed}
use Rattle.vocabulary.specs.declared.endpoint.Endpoint.{Endpoint}
use Rattle.vocabulary.specs.declared.message_limit.MessageLimit.{MessageLimit}
use Rattle.incarnation.specs.declared.place.Place.{Place}
use Rattle.match_queues.specs.State.{State}
use Rattle.proof_pure_network.specs.Core.{Core}
use Rattle.proof_pure_network.specs.Engine.{core_ready, core_settled, core_settled_by}
use Rattle.proof_pure_network.specs.Jobs.{Job, closed, over_at}
use Rattle.requests.specs.Completions.{awaited_requests, completion, outcome_at, without}
use Rattle.requests.specs.declared.answer.Answer.{Answer}
use Rattle.requests.specs.declared.awaited_requests.Awaited.{Awaited}
use Rattle.requests.specs.declared.table.TableEntry as slots
use Rattle.requests.specs.declared.table.Request.{Request}
use Rattle.point_to_point.specs.CoreState.{CoreState}
use Rattle.point_to_point.specs.Completions.{answered_by, after_wake, woken_by}
use Rattle.proof_engine_view.specs.Rows.{IsTable, Row, held_of, jobs_of, posted_rows}
use Rattle.observation.specs.CoreCalls.{answer_seen, awaited_seen, told_completion}
use Rattle.proof_engine_view.specs.CoreViews.{IsBlocked, IsNamed, IsSettled, IsShown}
use Rattle.proof_engine_view.specs.Transfers.{Announcements}
use Rattle.proof_engine_view.specs.UnderWay.{AreTaken, AreUnderWay}
use Rattle.proof_engine_steps.specs.Steps.{IsWoken, WakesAreShown}
use Rattle.proof_engine_steps.proofs.WaitAnswers.{SayTheSame, completion_seen, completions_same, named_same_outcome}
use Rattle.proof_engine_steps.proofs.WaitAnswers.{serials_of}
use Rattle.proof_engine_steps.proofs.Knowledge.{IsKnown, knows}
use Rattle.proof_engine_steps.proofs.NamedRequests.{all_follow}
use Rattle.proof_engine_steps.proofs.BlockedAnswers.{ready_free, settled_is}
use Rattle.proof_engine_steps.proofs.UnchangedTransfers.{same_without, under_way_still}
use Rattle.proof_engine_steps.proofs.UnderWay.{keeps_same, taken_same, taken_without}
use Rattle.proof_engine_steps.proofs.ClosedRows.{
  jobs_without,
  length_without,
  posted_without,
  rows_without,
  table_without,
}
use Rattle.proof_engine_steps.proofs.ClosedRows.{used_spent}

-- the rank holds what the network's core holds, whatever its call waits for
pub record Holding (links : Announcements) (e : CoreState) (known : List ℕ) (core : Core) (rows : List Row) : Type
    0 where
  pub jobs : core.jobs ≡ jobs_of rows
  pub count : length rows ≡ e.serial
  pub table : IsTable e.slots rows
  pub posted : e.queues.posted ≡ posted_rows rows
  pub held : core.held ≡ map (held_of links.from) e.queues.unexpected
  pub under_way : AreUnderWay links known e.place rows e.transfers e.queues.unexpected
  pub taken : AreTaken links.from known e.place rows e.slots
  pub knowing : IsKnown e.place known (knows core)

-- what is held is shown, with what the call waits for
pub shown_with : (links : Announcements) (e : CoreState) (known : List ℕ) (core : Core) (rows : List Row) →
    Holding links e known core rows → IsBlocked rows e.blocked core.blocked →
    IsShown links e known core
shown_with links e known core rows h b =
    record {
      rows = rows;
      jobs = h.jobs;
      count = h.count;
      table = h.table;
      posted = h.posted;
      held = h.held;
      under_way = h.under_way;
      taken = h.taken;
      blocked = b;
      limited = h.knowing.limited;
      width = h.knowing.width;
      known_alike = h.knowing.same;
      itself = h.knowing.itself;
    }

-- what both know is as it was
pub known_still : (p p' : Place) (known : List ℕ) (at at' : (ℕ → ℕ) × MessageLimit) → IsKnown p known at → p' ≡ p →
    at' ≡ at →
    IsKnown p' known at'
known_still p p' known at at' h ep ea =
    subst (λ (x : Place). IsKnown x known at') (sym ep) (subst (λ (f : (ℕ → ℕ) × MessageLimit). IsKnown p known f)
    (sym ea) h)

-- THE RANK

-- no call is blocked
woken_free : (e : CoreState) → e.blocked ≡ None → after_wake e ≡ e
unfolding after_wake
woken_free e h = ap (woken_by e) h

-- its answer isn't ready
woken_pending : (e : CoreState) (a : Awaited) → e.blocked ≡ Some a → completion e.slots a ≡ None → after_wake e ≡ e
unfolding after_wake
woken_pending e a h g = ap (woken_by e) h ∙ ap (answered_by e) g

-- the rank once the blocked call was answered
abbrev pub answered : CoreState → Answer → List Request → CoreState
answered e answer used = record e { slots = without e.slots used; blocked = None; completion = Some answer }

-- its answer is ready
woken_ready : (e : CoreState) (a : Awaited) (answer : Answer) (used : List Request) → e.blocked ≡ Some a →
    completion e.slots a ≡ Some (answer, used) → after_wake e ≡ answered e answer used
unfolding after_wake
woken_ready e a answer used h g = ap (woken_by e) h ∙ ap (answered_by e) g

place_at : (e : CoreState) (o : Option (Answer × List Request)) → (answered_by e o).place ≡ e.place
place_at e None = refl
place_at e (Some t) = refl

place_by : (e : CoreState) (b : Option Awaited) → (woken_by e b).place ≡ e.place
place_by e None = refl
place_by e (Some a) = place_at e (completion e.slots a)

-- the rank stays at its place
pub woken_place : (e : CoreState) → (after_wake e).place ≡ e.place
unfolding after_wake
woken_place e = place_by e e.blocked

-- BOTH

-- both say the same of a request that the call waits for
say_the_same : (links : Announcements) (e : CoreState) (known : List ℕ) (core : Core) (rows : List Row) →
    Holding links e known core rows → (q : Request) → IsNamed rows q →
    SayTheSame (outcome_at e.slots) (over_at core.jobs) q
say_the_same links e known core rows h q named =
    subst (λ (js : List Job). SayTheSame (outcome_at e.slots) (over_at js) q) (sym h.jobs)
    (named_same_outcome e.slots rows h.table q named)

-- what the core answers to this is what the rank answers
pub core_completion : (links : Announcements) (e : CoreState) (known : List ℕ) (core : Core) (rows : List Row)
    (a : Awaited) → Holding links e known core rows → All (IsNamed rows) (awaited_requests a) →
    machine.completion (over_at core.jobs) (awaited_seen a) ≡ completion_seen (completion e.slots a)
core_completion links e known core rows a h named =
    completions_same e.slots (over_at core.jobs) a
    (all_follow (IsNamed rows) (SayTheSame (outcome_at e.slots) (over_at core.jobs))
    (say_the_same links e known core rows h) (awaited_requests a)
    (recursion_from_All (IsNamed rows) (awaited_requests a) named))

-- so it is with the blocked call
core_ready_is : (links : Announcements) (e : CoreState) (known : List ℕ) (core : Core) (rows : List Row) (a : Awaited) →
    Holding links e known core rows → core.blocked ≡ Some (machine.Waits (awaited_seen a)) →
    All (IsNamed rows) (awaited_requests a) → core_ready core ≡ completion_seen (completion e.slots a)
core_ready_is links e known core rows a h b named =
    ap (λ (x : Option machine.Unanswered). option_and_then (machine.answer_to (over_at core.jobs)) x) b ∙
    core_completion links e known core rows a h named

-- what the answer uses up is taken out of both
pub holding_used : (links : Announcements) (e e' : CoreState) (known : List ℕ) (core core' : Core) (rows : List Row)
    (a : Awaited) (answer : Answer) (used : List Request) → Holding links e known core rows →
    completion e.slots a ≡ Some (answer, used) → core'.jobs ≡ all_changed closed core.jobs (serials_of used) →
    core'.held ≡ core.held → knows core' ≡ knows core →
    e'.slots ≡ without e.slots used → e'.serial ≡ e.serial → e'.queues ≡ e.queues → e'.transfers ≡ e.transfers →
    e'.place ≡ e.place → Holding links e' known core' (rows_without rows used)
holding_used links e e' known core core' rows a answer used h g js hs kn sl se qu tr pl =
    record {
      jobs = js ∙
          (ap (λ (ys : List Job). all_changed closed ys (serials_of used)) h.jobs ∙ sym (jobs_without used rows));
      count = length_without used rows ∙ (h.count ∙ sym se);
      table = subst (λ (t : List (Option slots.TableEntry)). IsTable t (rows_without rows used)) (sym sl)
          (table_without used e.slots rows h.table (used_spent e.slots rows a answer used h.table g));
      posted = ap (λ (q : State). q.posted) qu ∙ (h.posted ∙ sym (posted_without used rows));
      held = hs ∙ (h.held ∙ ap (λ (q : State). map (held_of links.from) q.unexpected) (sym qu));
      under_way =
          under_way_still links known e.place e'.place rows (rows_without rows used) e.transfers e'.transfers
          e.queues.unexpected e'.queues.unexpected h.under_way
          (same_without used rows) pl tr (ap (λ (q : State). q.unexpected) qu);
      taken = subst (λ (x : Place). AreTaken links.from known x (rows_without rows used) e'.slots) (sym pl)
          (subst (λ (t : List (Option slots.TableEntry)). AreTaken links.from known e.place (rows_without rows used) t)
          (sym sl)
          (taken_without links.from known e.place (rows_without rows used) e.slots used
          (taken_same links.from known e.place rows (rows_without rows used) e.slots
          (keeps_same rows (rows_without rows used) (same_without used rows)) h.taken)));
      knowing = known_still e.place e'.place known (knows core) (knows core') h.knowing pl kn;
    }

-- the core once its call was answered
abbrev pub core_answered : Core → List ℕ → Core
core_answered core ks = record core { jobs = all_changed closed core.jobs ks; blocked = None }

-- both, by what they become
settled_from : (links : Announcements) (e e' : CoreState) (known : List ℕ) (core core' : Core)
    (ready : Option (machine.Answer × List ℕ)) → after_wake e ≡ e' → core_settled core ≡ core' →
    core_ready core ≡ ready → IsShown links e' known core' →
    ((a : Endpoint) → told a None ready ≡ told_completion a e'.completion) → IsWoken links e known core
settled_from links e e' known core core' ready w s r shown tells =
    record {
      place = woken_place e;
      settled = settled_is core;
      shown = subst (λ (x : CoreState). IsShown links x known (core_settled core)) (sym w)
          (subst (λ (c : Core). IsShown links e' known c) (sym s) shown);
      tells = λ a. ap (told a None) r ∙ (tells a ∙ ap (λ (x : CoreState). told_completion a x.completion) (sym w));
    }

-- a rank is woken as its core is settled
pub settles : (links : Announcements) (e : CoreState) (known : List ℕ) (core : Core) (rows : List Row) →
    Holding links e known core rows → IsBlocked rows e.blocked core.blocked → e.completion ≡ None →
    IsWoken links e known core
settles links e known core rows h b free = go e.blocked refl b
  where
    still : after_wake e ≡ e → core_ready core ≡ None → IsWoken links e known core
    still w r =
        settled_from links e e known core core None w (ap (core_settled_by core) r) r
        (shown_with links e known core rows h b) (λ t. ap (told_completion t) (sym free))

    ready : (a : Awaited) (answer : Answer) (used : List Request) → e.blocked ≡ Some a →
        core_ready core ≡ completion_seen (completion e.slots a) → completion e.slots a ≡ Some (answer, used) →
        IsWoken links e known core
    ready a answer used is same g =
        let r : core_ready core ≡ Some (answer_seen answer, serials_of used) = same ∙ ap completion_seen g in
        settled_from links e (answered e answer used) known core (core_answered core (serials_of used))
        (Some (answer_seen answer, serials_of used)) (woken_ready e a answer used is g)
        (ap (core_settled_by core) r) r
        (shown_with links (answered e answer used) known (core_answered core (serials_of used)) (rows_without rows used)
        (holding_used links e (answered e answer used) known core (core_answered core (serials_of used)) rows a answer
        used h g refl refl refl refl refl refl refl refl) refl)
        (λ t. refl)

    wait : (a : Awaited) (o : Option (Answer × List Request)) → e.blocked ≡ Some a →
        core_ready core ≡ completion_seen (completion e.slots a) → completion e.slots a ≡ o → IsWoken links e known core
    wait a None is same g = still (woken_pending e a is g) (same ∙ ap completion_seen g)
    wait a (Some t) is same g = ready a t.0 t.1 is same g

    go : (x : Option Awaited) → e.blocked ≡ x → IsBlocked rows x core.blocked → IsWoken links e known core
    go None is c = still (woken_free e is) (ready_free core c)
    go (Some a) is c = wait a (completion e.slots a) is (core_ready_is links e known core rows a h c.0 c.1) refl

-- ---- what waking leaves

-- an answer that the core hasn't ready isn't ready at the rank either
unready : (o : Option (Answer × List Request)) → completion_seen o ≡ None → o ≡ None
unready None h = refl
unready (Some t) h = absurd (none-some (answer_seen t.0, serials_of t.1) (sym h))

-- what is shown is held
pub holding_of : (links : Announcements) (e : CoreState) (known : List ℕ) (core : Core) →
    (s : IsShown links e known core) → Holding links e known core s.rows
holding_of links e known core s =
    record {
      jobs = s.jobs;
      count = s.count;
      table = s.table;
      posted = s.posted;
      held = s.held;
      under_way = s.under_way;
      taken = s.taken;
      knowing = record { width = s.width; same = s.known_alike; limited = s.limited; itself = s.itself };
    }

-- the law of waking
pub wakes_are_shown : WakesAreShown
wakes_are_shown links e known core shown free =
    settles links e known core shown.rows (holding_of links e known core shown) shown.blocked free

-- where no answer is ready, nothing changes
pub woken_still : (links : Announcements) (e : CoreState) (known : List ℕ) (core : Core) → IsShown links e known core →
    IsSettled core → after_wake e ≡ e
woken_still links e known core shown settled = go e.blocked refl shown.blocked
  where
    go : (b : Option Awaited) → e.blocked ≡ b → IsBlocked shown.rows b core.blocked → after_wake e ≡ e
    go None b c = woken_free e b
    go (Some a) b c =
        woken_pending e a b
        (unready (completion e.slots a)
        (sym (core_ready_is links e known core shown.rows a (holding_of links e known core shown) c.0 c.1) ∙
        settled))
