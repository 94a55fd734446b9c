-- A wait, a test or a cancel that a rank refuses has a reason, and one that it takes has no fault.
use Rattle.std.proofs.Common.{◌≡◌, ℕ, Bool, true, false, not, ◌||◌, List, Option, Some, None, if◌then◌else◌, refl, sym}
use Rattle.std.proofs.Common.{ap, ◌∙◌, subst}
use Rattle.std.specs.List.{AllByRecursion}
use Rattle.incarnation.specs.declared.place.Place.{Place}
use Rattle.perfect_queues.specs.Calls as machine
use Rattle.perfect_queues.specs.Completions as completions
use Rattle.perfect_queues.specs.Refusals as rules
use Rattle.proof_pure_network.specs.Core.{Core, view}
use Rattle.proof_pure_network.specs.WaitingMessages.{blank}
use Rattle.requests.specs.Completions.{awaited_requests}
use Rattle.requests.specs.Lists as lists
use Rattle.requests.specs.Table as table
use Rattle.requests.specs.Table.{progress_at}
use Rattle.requests.specs.declared.awaited_requests.Awaited.{Awaited}
use Rattle.requests.specs.declared.awaited_requests.Awaited.TheVariants as awaiteds
use Rattle.requests.specs.declared.table.RequestProgress.{RequestProgress}
use Rattle.requests.specs.declared.table.Request.{Request}
use Rattle.point_to_point_calls.specs.CoreCalls as calls
use Rattle.point_to_point_calls.specs.declared.refusal.Refusal.{Refusal}
use Rattle.point_to_point_calls.specs.declared.refusal.Refusal.TheVariants as refusals
use Rattle.point_to_point.specs.CoreState.{CoreState}
use Rattle.point_to_point.specs.Completions.{cancel_fault, wait_fault}
use Rattle.proof_engine_view.specs.Faults.{queue_fault, queue_fault_by}
use Rattle.observation.specs.CoreCalls.{awaited_by, awaited_seen, call_seen, own_serial, request_by, serial_meant}
use Rattle.proof_engine_view.specs.CoreViews.{IsShown}
use Rattle.proof_engine_view.specs.Transfers.{Announcements}
use Rattle.proof_engine_steps.specs.Refusals.{HasReason, IsFaultless}
use Rattle.observation.specs.Reasons.{IsReason, MachinesFault}
use Rattle.proof_engine_steps.proofs.Standings.{IsPresent, all_present, awaited_meant, awaited_own, meant_present}
use Rattle.proof_engine_steps.proofs.Standings.{neither, receive_seen, request_own, standing_at, wrong_same}
use Rattle.proof_engine_steps.proofs.RequestStarts.{core_free, fault_free}

-- ---- one rule

-- the fault by whether the rule on requests is broken
abbrev six_if : Bool → Option ℕ
six_if b = if b then Some 6 else None

-- both find it broken
rule_broken : (b : Bool) (found : Option ℕ) (why : Refusal) → found ≡ six_if b →
    (if b then Some refusals.Request else None) ≡ Some why → IsReason found why
rule_broken true found why h f =
    let is : refusals.Request ≡ why = cc in subst (λ (x : Refusal). IsReason found x) is (MachinesFault h)
rule_broken false found why h f = absurd cc

-- both find it kept
rule_kept : (b : Bool) → (if b then Some refusals.Request else None) ≡ None → b ≡ false
rule_kept true f = absurd cc
rule_kept false f = refl

-- ---- waits

-- the fault that the machine finds with a wait is by the rank's own tests
wait_found : (links : Announcements) (old : CoreState) (known : List ℕ) (core : Core) (a : Awaited) →
    IsShown links old known core → old.blocked ≡ None →
    queue_fault old.place (view blank core) (machine.Wait (awaited_by (serial_meant old) a)) ≡
    six_if (lists.is_one_absent old.slots (awaited_requests a) || lists.is_twice (awaited_requests a))
wait_found links old known core a shown free =
    fault_free old.place core (machine.Wait (awaited_by (serial_meant old) a))
    (core_free links old known core shown free) ∙
    (ap (λ (ks : List ℕ). six_if (rules.is_one_missing (standing_at core) ks || rules.is_twice ks))
    (awaited_meant (serial_meant old) a) ∙
    ap six_if (wrong_same links old known core shown (awaited_requests a)))

-- a wait that breaks a rule
pub wait_reason : (links : Announcements) (old : CoreState) (known : List ℕ) (core : Core) (a : Awaited)
    (why : Refusal) → IsShown links old known core → old.blocked ≡ None → wait_fault old a ≡ Some why →
    IsReason (queue_fault old.place (view blank core) (machine.Wait (awaited_by (serial_meant old) a))) why
wait_reason links old known core a why shown free fault =
    rule_broken (lists.is_one_absent old.slots (awaited_requests a) || lists.is_twice (awaited_requests a))
    (queue_fault old.place (view blank core) (machine.Wait (awaited_by (serial_meant old) a))) why
    (wait_found links old known core a shown free) fault

-- where a wait breaks none, all that it names is there
pub wait_present : (old : CoreState) (a : Awaited) → wait_fault old a ≡ None →
    AllByRecursion (IsPresent old) (awaited_requests a)
wait_present old a fine =
    all_present old (awaited_requests a)
    (neither (lists.is_one_absent old.slots (awaited_requests a)) (lists.is_twice (awaited_requests a))
    (rule_kept (lists.is_one_absent old.slots (awaited_requests a) || lists.is_twice (awaited_requests a)) fine)).0

-- the machine finds no fault with what it means
wait_none : (links : Announcements) (old : CoreState) (known : List ℕ) (core : Core) (a : Awaited) →
    IsShown links old known core → old.blocked ≡ None → wait_fault old a ≡ None →
    queue_fault old.place (view blank core) (machine.Wait (awaited_by (serial_meant old) a)) ≡ None
wait_none links old known core a shown free fine =
    wait_found links old known core a shown free ∙
    ap six_if
    (rule_kept (lists.is_one_absent old.slots (awaited_requests a) || lists.is_twice (awaited_requests a)) fine)

-- nor with what is seen of it
pub wait_faultless : (links : Announcements) (old : CoreState) (known : List ℕ) (core : Core) (a : Awaited) →
    IsShown links old known core → old.blocked ≡ None → wait_fault old a ≡ None →
    queue_fault old.place (view blank core) (machine.Wait (awaited_seen a)) ≡ None
wait_faultless links old known core a shown free fine =
    ap (λ (x : completions.Awaited). queue_fault old.place (view blank core) (machine.Wait x))
    (sym (awaited_own old a (wait_present old a fine))) ∙ wait_none links old known core a shown free fine

-- ---- tests

-- nothing is added to a test
or_nothing : (a : Bool) → ((a || false) || false) ≡ (a || false)
or_nothing true = refl
or_nothing false = refl

-- the fault of a test is that of a wait
test_is_wait : (p : Place) (core : Core) (r : Option ℕ) → core.blocked ≡ None →
    queue_fault p (view blank core) (machine.Test r) ≡
    queue_fault p (view blank core) (machine.Wait (completions.One r))
test_is_wait p core r free = fault_free p core (machine.Test r) free ∙
    (go r ∙ sym (fault_free p core (machine.Wait (completions.One r)) free))
  where
    go : (r : Option ℕ) → queue_fault_by p.size p.message_limit false (standing_at core) (machine.Test r) ≡
        queue_fault_by p.size p.message_limit false (standing_at core) (machine.Wait (completions.One r))
    go None = refl
    go (Some k) = sym (ap six_if (or_nothing (rules.is_missing (standing_at core k))))

pub test_reason : (links : Announcements) (old : CoreState) (known : List ℕ) (core : Core) (q : Option Request)
    (why : Refusal) → IsShown links old known core → old.blocked ≡ None → wait_fault old (awaiteds.One q) ≡ Some why →
    HasReason old core (calls.Test q) why
test_reason links old known core q why shown free fault =
    subst (λ (x : Option ℕ). IsReason x why)
    (sym (test_is_wait old.place core (request_by (serial_meant old) q)
    (core_free links old known core shown free)))
    (wait_reason links old known core (awaiteds.One q) why shown free fault)

pub test_faultless : (links : Announcements) (old : CoreState) (known : List ℕ) (core : Core) (q : Option Request) →
    IsShown links old known core → old.blocked ≡ None → wait_fault old (awaiteds.One q) ≡ None →
    queue_fault old.place (view blank core) (machine.Test (request_by own_serial q)) ≡ None
test_faultless links old known core q shown free fine =
    test_is_wait old.place core (request_by own_serial q) (core_free links old known core shown free) ∙
    wait_faultless links old known core (awaiteds.One q) shown free fine

-- ---- cancels

-- a cancel's test, the other way round
turned : (b : Bool) → (if b then None else Some refusals.Request) ≡ (if not b then Some refusals.Request else None)
turned true = refl
turned false = refl

-- the fault that the machine finds with a cancel is by the rank's own test
cancel_found : (links : Announcements) (old : CoreState) (known : List ℕ) (core : Core) (q : Request) →
    IsShown links old known core → old.blocked ≡ None →
    queue_fault old.place (view blank core) (machine.Cancel (Some (serial_meant old q))) ≡
    six_if (not (table.is_receive (progress_at old.slots q.key q.serial)))
cancel_found links old known core q shown free =
    fault_free old.place core (machine.Cancel (Some (serial_meant old q)))
    (core_free links old known core shown free) ∙
    ap (λ (b : Bool). six_if (not b)) (receive_seen links old known core q shown)

pub cancel_reason : (links : Announcements) (old : CoreState) (known : List ℕ) (core : Core) (q : Option Request)
    (why : Refusal) → IsShown links old known core → old.blocked ≡ None → cancel_fault old q ≡ Some why →
    HasReason old core (calls.Cancel q) why
cancel_reason links old known core None why shown free fault =
    rule_broken true (queue_fault old.place (view blank core) (machine.Cancel None)) why
    (fault_free old.place core (machine.Cancel None) (core_free links old known core shown free)) fault
cancel_reason links old known core (Some q) why shown free fault =
    rule_broken (not (table.is_receive (progress_at old.slots q.key q.serial)))
    (queue_fault old.place (view blank core) (machine.Cancel (Some (serial_meant old q)))) why
    (cancel_found links old known core q shown free)
    (sym (turned (table.is_receive (progress_at old.slots q.key q.serial))) ∙ fault)

-- a receive that is there
receive_there : (old : CoreState) (q : Request) → (b : Bool) → table.is_receive (progress_at old.slots q.key q.serial) ≡
    b → (if b then None else Some refusals.Request) ≡ None → IsPresent old q
receive_there old q false e f = absurd cc
receive_there old q true e f = go (progress_at old.slots q.key q.serial) refl e
  where
    go : (o : Option RequestProgress) → progress_at old.slots q.key q.serial ≡ o → table.is_receive o ≡ true →
        IsPresent old q
    go None h t = absurd cc
    go (Some g) h t = (g, h)

-- what a cancel that breaks no rule names
pub cancel_present : (old : CoreState) (q : Request) → cancel_fault old (Some q) ≡ None → IsPresent old q
cancel_present old q fine = receive_there old q (table.is_receive (progress_at old.slots q.key q.serial)) refl fine

-- the machine finds no fault with what it means
cancel_none : (links : Announcements) (old : CoreState) (known : List ℕ) (core : Core) (q : Request) →
    IsShown links old known core → old.blocked ≡ None → cancel_fault old (Some q) ≡ None →
    queue_fault old.place (view blank core) (machine.Cancel (Some (serial_meant old q))) ≡ None
cancel_none links old known core q shown free fine =
    cancel_found links old known core q shown free ∙
    ap six_if
    (rule_kept (not (table.is_receive (progress_at old.slots q.key q.serial)))
    (sym (turned (table.is_receive (progress_at old.slots q.key q.serial))) ∙ fine))

-- nor with what is seen of it
pub cancel_faultless : (links : Announcements) (old : CoreState) (known : List ℕ) (core : Core) (q : Request) →
    IsShown links old known core → old.blocked ≡ None → cancel_fault old (Some q) ≡ None →
    queue_fault old.place (view blank core) (machine.Cancel (Some q.serial)) ≡ None
cancel_faultless links old known core q shown free fine =
    ap (λ (k : ℕ). queue_fault old.place (view blank core) (machine.Cancel (Some k)))
    (sym (meant_present old q (cancel_present old q fine))) ∙ cancel_none links old known core q shown free fine

-- ---- calls that break no rule

-- a wait, whatever its form
waits_without_fault : (links : Announcements) (old : CoreState) (known : List ℕ) (core : Core) (a : Awaited) →
    IsShown links old known core → old.blocked ≡ None → wait_fault old a ≡ None →
    (machine.Wait (awaited_by (serial_meant old) a) ≡ machine.Wait (awaited_seen a)) ×
    (queue_fault old.place (view blank core) (machine.Wait (awaited_seen a)) ≡ None)
waits_without_fault links old known core a shown free fine = (
  ap machine.Wait (awaited_own old a (wait_present old a fine)),
  wait_faultless links old known core a shown free fine,
)

pub wait_without_fault : (links : Announcements) (old : CoreState) (known : List ℕ) (core : Core) (q : Option Request) →
    IsShown links old known core → old.blocked ≡ None → wait_fault old (awaiteds.One q) ≡ None →
    IsFaultless (queue_fault old.place (view blank core) (call_seen (calls.Wait q))) old (calls.Wait q)
wait_without_fault links old known core q shown free fine =
    let w = waits_without_fault links old known core (awaiteds.One q) shown free fine in record {
      own = w.0;
      none =
          w.1;
    }

pub waitany_without_fault : (links : Announcements) (old : CoreState) (known : List ℕ) (core : Core)
    (qs : List (Option Request)) → IsShown links old known core → old.blocked ≡ None →
    wait_fault old (awaiteds.AnyOf qs) ≡ None →
    IsFaultless (queue_fault old.place (view blank core) (call_seen (calls.Waitany qs))) old (calls.Waitany qs)
waitany_without_fault links old known core qs shown free fine =
    let w = waits_without_fault links old known core (awaiteds.AnyOf qs) shown free fine in record {
      own = w.0;
      none =
          w.1;
    }

pub waitall_without_fault : (links : Announcements) (old : CoreState) (known : List ℕ) (core : Core)
    (qs : List (Option Request)) → IsShown links old known core → old.blocked ≡ None →
    wait_fault old (awaiteds.AllOf qs) ≡ None →
    IsFaultless (queue_fault old.place (view blank core) (call_seen (calls.Waitall qs))) old (calls.Waitall qs)
waitall_without_fault links old known core qs shown free fine =
    let w = waits_without_fault links old known core (awaiteds.AllOf qs) shown free fine in record {
      own = w.0;
      none =
          w.1;
    }

pub test_without_fault : (links : Announcements) (old : CoreState) (known : List ℕ) (core : Core) (q : Option Request) →
    IsShown links old known core → old.blocked ≡ None → wait_fault old (awaiteds.One q) ≡ None →
    IsFaultless (queue_fault old.place (view blank core) (call_seen (calls.Test q))) old (calls.Test q)
test_without_fault links old known core q shown free fine =
    record {
      own = ap machine.Test (request_own old q (wait_present old (awaiteds.One q) fine));
      none =
          test_faultless links old known core q shown free fine;
    }

pub cancel_without_fault : (links : Announcements) (old : CoreState) (known : List ℕ) (core : Core)
    (q : Option Request) → IsShown links old known core → old.blocked ≡ None → cancel_fault old q ≡ None →
    IsFaultless (queue_fault old.place (view blank core) (call_seen (calls.Cancel q))) old (calls.Cancel q)
cancel_without_fault links old known core None shown free fine = absurd cc
cancel_without_fault links old known core (Some q) shown free fine =
    record {
      own = ap (λ (k : ℕ). machine.Cancel (Some k)) (meant_present old q (cancel_present old q fine));
      none =
          cancel_faultless links old known core q shown free fine;
    }
