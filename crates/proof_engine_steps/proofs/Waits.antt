-- A wait and a test of a rank are those of its core in the network.
use Rattle.std.proofs.Common.{◌≡◌, ℕ, List, [], ◌∷◌, All, Option, Some, None, refl, sym, ap, ◌∙◌, subst}
use Rattle.std.proofs.lemmas.List.Elements.{All-from_recursion}
use Rattle.perfect_queues.specs.Calls as machine
use Rattle.perfect_queues.specs.Completions as completions
use Rattle.perfect_queues.specs.Events.{Called, told}
use Rattle.perfect_queues.specs.Outcomes as ends
use Rattle.proof_pure_network.proofs.JobLemmas.{finished_same}
use Rattle.proof_pure_network.specs.Core.{Core}
use Rattle.proof_pure_network.specs.Engine.{core_ready, core_settled, core_settled_by, core_tested}
use Rattle.proof_pure_network.specs.WaitingMessages.{blank}
use Rattle.proof_pure_network.specs.Jobs.{over_at}
use Rattle.requests.specs.Completions.{awaited_requests, completion, without}
use Rattle.requests.specs.declared.answer.Answer.{Answer}
use Rattle.requests.specs.declared.awaited_requests.Awaited.{Awaited}
use Rattle.requests.specs.declared.awaited_requests.Awaited.TheVariants as awaiteds
use Rattle.requests.specs.declared.table.Request.{Request}
use Rattle.point_to_point_calls.specs.CoreCalls.{CoreReply}
use Rattle.point_to_point_calls.specs.CoreCalls as replies
use Rattle.point_to_point.specs.CoreState.{CoreState}
use Rattle.point_to_point.specs.Completions.{Tests, TestsBy, Waits, WaitsBy, wait_fault}
use Rattle.observation.specs.CoreCalls.{answer_seen, awaited_seen, own_serial, request_by}
use Rattle.proof_engine_view.specs.CoreViews.{IsNamed, IsShown}
use Rattle.proof_engine_view.specs.Transfers.{Announcements}
use Rattle.proof_engine_steps.proofs.WaitAnswers.{completion_seen, serials_of}
use Rattle.proof_engine_steps.proofs.TableRows.{named_of}
use Rattle.proof_engine_steps.proofs.CallMeanings.{IsMeant, told_by}
use Rattle.proof_engine_steps.proofs.NamedRequests.{all_follow}
use Rattle.proof_engine_steps.proofs.RefusedWaits.{test_faultless, wait_faultless, wait_present}
use Rattle.proof_engine_steps.proofs.BlockedAnswers.{settled_free}
use Rattle.proof_engine_steps.proofs.Standings.{IsPresent}
use Rattle.proof_engine_steps.proofs.RequestStarts.{core_free, shown_free}
use Rattle.proof_engine_steps.proofs.ClosedRows.{rows_without}
use Rattle.proof_engine_steps.proofs.BlockedRanks.{Holding, core_answered, core_completion, holding_of, holding_used}
use Rattle.proof_engine_steps.proofs.BlockedRanks.{shown_with}

-- ---- what both answer

-- what a call waits for that breaks no rule is named by unanswered rows
wait_named : (links : Announcements) (old : CoreState) (known : List ℕ) (core : Core) (a : Awaited) →
    (shown : IsShown links old known core) → wait_fault old a ≡ None → All (IsNamed shown.rows) (awaited_requests a)
wait_named links old known core a shown fine =
    All-from_recursion (IsNamed shown.rows) (awaited_requests a)
    (all_follow (IsPresent old) (IsNamed shown.rows) (λ q p. named_of old.slots shown.rows q p.0 shown.table p.1)
    (awaited_requests a) (wait_present old a fine))

-- what the core answers is what the rank answers
answers_same : (links : Announcements) (old : CoreState) (known : List ℕ) (core : Core) (a : Awaited) →
    IsShown links old known core → wait_fault old a ≡ None →
    completions.completion (over_at core.jobs) (awaited_seen a) ≡ completion_seen (completion old.slots a)
answers_same links old known core a shown fine =
    core_completion links old known core shown.rows a (holding_of links old known core shown)
    (wait_named links old known core a shown fine)

-- ---- waits

-- the core, once the wait was called
abbrev pub core_waits : Core → Awaited → Core
core_waits core a = record core { blocked = Some (completions.Waits (awaited_seen a)) }

-- its answer isn't ready: the call is blocked
wait_blocked : (links : Announcements) (old : CoreState) (known : List ℕ) (core : Core) (a : Awaited) →
    IsShown links old known core → old.blocked ≡ None → wait_fault old a ≡ None → completion old.slots a ≡ None →
    IsMeant links old known core (machine.Wait (awaited_seen a)) replies.Blocked (record old { blocked = Some a })
wait_blocked links old known core a shown free fine g =
    record {
      fit = wait_faultless links old known core a shown free fine;
      place = refl;
      completion = refl;
      shown = subst (λ (c : Core). IsShown links new known c) (sym (ap (core_settled_by (core_waits core a)) ready))
          (shown_with links new known (core_waits core a) shown.rows holding
          (refl, wait_named links old known core a shown fine));
      sends = refl;
      tells = ap (told old.place.endpoint (Some (machine.Wait (awaited_seen a), None))) ready;
    }
  where
    new : CoreState
    new = record old { blocked = Some a }

    ready : core_ready (core_waits core a) ≡ None
    ready = answers_same links old known core a shown fine ∙ ap completion_seen g

    holding : Holding links new known (core_waits core a) shown.rows
    holding =
        let h : Holding links old known core shown.rows = holding_of links old known core shown in
        record {
          jobs = h.jobs;
          count = h.count;
          table = h.table;
          posted = h.posted;
          held = h.held;
          under_way =
              h.under_way;
          taken = h.taken;
          knowing = h.knowing;
        }

-- it is ready: the call is answered
wait_done : (links : Announcements) (old : CoreState) (known : List ℕ) (core : Core) (a : Awaited) (answer : Answer)
    (used : List Request) → IsShown links old known core → old.blocked ≡ None → wait_fault old a ≡ None →
    completion old.slots a ≡ Some (answer, used) →
    IsMeant links old known core (machine.Wait (awaited_seen a)) (replies.Done answer)
    (record old { slots = without old.slots used })
wait_done links old known core a answer used shown free fine g =
    record {
      fit = wait_faultless links old known core a shown free fine;
      place = refl;
      completion = refl;
      shown = subst (λ (c : Core). IsShown links new known c) (sym (ap (core_settled_by (core_waits core a)) ready))
          (shown_free links new known after (rows_without shown.rows used)
          (holding_used links old new known core after shown.rows a answer used (holding_of links old known core shown)
          g refl refl refl refl refl refl refl refl) free refl);
      sends = refl;
      tells = ap (told old.place.endpoint (Some (machine.Wait (awaited_seen a), None))) ready;
    }
  where
    new : CoreState
    new = record old { slots = without old.slots used }

    after : Core
    after = core_answered (core_waits core a) (serials_of used)

    ready : core_ready (core_waits core a) ≡ Some (answer_seen answer, serials_of used)
    ready = answers_same links old known core a shown fine ∙ ap completion_seen g

-- a wait that breaks no rule, whatever it waits for
pub wait_meant : (links : Announcements) (old new : CoreState) (known : List ℕ) (core : Core) (a : Awaited)
    (reply : CoreReply) → IsShown links old known core → old.blocked ≡ None → wait_fault old a ≡ None →
    Waits old a reply new →
    IsMeant links old known core (machine.Wait (awaited_seen a)) reply new
wait_meant links old new known core a reply shown free fine waits = go (completion old.slots a) refl waits
  where
    c : machine.Call
    c = machine.Wait (awaited_seen a)

    go : (o : Option (Answer × List Request)) → completion old.slots a ≡ o → WaitsBy old a o reply new →
        IsMeant links old known core c reply new
    go None g w =
        subst (λ (x : CoreReply). IsMeant links old known core c x new) (sym w.0)
        (subst (λ (x : CoreState). IsMeant links old known core c replies.Blocked x) (sym w.1)
        (wait_blocked links old known core a shown free fine g))
    go (Some (answer, used)) g w =
        subst (λ (x : CoreReply). IsMeant links old known core c x new) (sym w.0)
        (subst (λ (x : CoreState). IsMeant links old known core c (replies.Done answer) x) (sym w.1)
        (wait_done links old known core a answer used shown free fine g))

-- ---- tests

-- what a core answers to a test
abbrev core_tests : Core → Option Request → Option (completions.Answer × List ℕ)
core_tests core q = completions.completion (over_at core.jobs) (awaited_seen (awaiteds.One q))

-- a test, by what it answers
test_by : (links : Announcements) (old new : CoreState) (known : List ℕ) (core : Core) (q : Option Request)
    (o : Option (completions.Answer × List ℕ)) (reply : CoreReply) → IsShown links old known core → old.blocked ≡ None →
    wait_fault old (awaiteds.One q) ≡ None → core_tests core q ≡ o → new.place ≡ old.place →
    new.completion ≡ old.completion → core_settled (core_tested core o) ≡ core_tested core o →
    IsShown links new known (core_tested core o) →
    ((c : machine.Call) → Called old.place.endpoint c (machine.test_reply o) ∷
    [] ≡ told_by old.place.endpoint c reply) →
    IsMeant links old known core (machine.Test (request_by own_serial q)) reply new
test_by links old new known core q o reply shown free fine is pl co settled after tells =
    record {
      fit = test_faultless links old known core q shown free fine;
      place = pl;
      completion = co;
      shown = subst
          (λ (x : Option (completions.Answer × List ℕ)). IsShown links new known (core_settled (core_tested core x)))
          (sym is) (subst (λ (c : Core). IsShown links new known c) (sym settled) after);
      sends = refl;
      tells = ap
          (λ (x : Option (completions.Answer × List ℕ)). Called old.place.endpoint
          (machine.Test (request_by own_serial q)) (machine.test_reply x) ∷ [])
          (ap (λ (f : ℕ → Option ends.Outcome). completions.completion f (awaited_seen (awaiteds.One q)))
          (finished_same blank core.jobs) ∙ is) ∙ tells (machine.Test (request_by own_serial q));
    }

-- a test that breaks no rule
pub test_meant : (links : Announcements) (old new : CoreState) (known : List ℕ) (core : Core) (q : Option Request)
    (reply : CoreReply) → IsShown links old known core → old.blocked ≡ None → wait_fault old (awaiteds.One q) ≡ None →
    Tests old q reply new → IsMeant links old known core (machine.Test (request_by own_serial q)) reply new
test_meant links old new known core q reply shown free fine tests =
    go (completion old.slots (awaiteds.One q)) refl tests
  where
    core_is : core.blocked ≡ None
    core_is = core_free links old known core shown free

    c : machine.Call
    c = machine.Test (request_by own_serial q)

    same : core_tests core q ≡ completion_seen (completion old.slots (awaiteds.One q))
    same = answers_same links old known core (awaiteds.One q) shown fine

    pending : completion old.slots (awaiteds.One q) ≡ None → IsMeant links old known core c replies.Pending old
    pending g =
        test_by links old old known core q None replies.Pending shown free fine (same ∙ ap completion_seen g) refl refl
        (settled_free core core_is) shown (λ x. refl)

    done : (answer : Answer) (used : List Request) → completion old.slots (awaiteds.One q) ≡ Some (answer, used) →
        IsMeant links old known core c (replies.Done answer) (record old { slots = without old.slots used })
    done answer used g =
        let new : CoreState = record old { slots = without old.slots used } in
        let after : Core = core_tested core (Some (answer_seen answer, serials_of used)) in
        test_by links old new known core q (Some (answer_seen answer, serials_of used)) (replies.Done answer) shown free
        fine (same ∙ ap completion_seen g) refl refl (settled_free after core_is)
        (shown_free links new known after (rows_without shown.rows used)
        (holding_used links old new known core after shown.rows (awaiteds.One q) answer used
        (holding_of links old known core shown) g refl refl refl refl refl refl refl refl) free core_is)
        (λ x. refl)

    go : (o : Option (Answer × List Request)) → completion old.slots (awaiteds.One q) ≡ o → TestsBy old o reply new →
        IsMeant links old known core c reply new
    go None g w =
        subst (λ (x : CoreReply). IsMeant links old known core c x new) (sym w.0)
        (subst (λ (x : CoreState). IsMeant links old known core c replies.Pending x) (sym w.1) (pending g))
    go (Some (answer, used)) g w =
        subst (λ (x : CoreReply). IsMeant links old known core c x new) (sym w.0)
        (subst (λ (x : CoreState). IsMeant links old known core c (replies.Done answer) x) (sym w.1)
        (done answer used g))
