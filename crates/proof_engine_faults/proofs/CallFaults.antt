-- An engine alone refuses a call exactly where the machine finds a fault with it, by what the engine itself holds.
use Rattle.std.proofs.Common.{◌≡◌, ℕ, Bool, true, false, ◌||◌, [], ◌∷◌, Option, Some, None, if◌then◌else◌, is_some}
use Rattle.std.proofs.Common.{refl, sym, ap, ap₂, ◌∙◌, subst, inl, inr, arith}
use mathlib.Core.Path.{fun_ext}
use Rattle.communicators.specs.Rules.{known_by}
use Rattle.engine_calls.specs.Calls.{CallGives, IsRefused, IsTaken, LacksRoom, WhyRefused}
use Rattle.engine_calls.specs.EngineState.{EngineState, member_of}
use Rattle.engine_calls.specs.Faults.{broken, fault_of, free_fault, is_busy}
use Rattle.engine_calls.specs.Refusals.{first_fault}
use Rattle.engine_calls.specs.declared.call.Call.{Call}
use Rattle.engine_calls.specs.declared.call.Call.TheVariants as calls
use Rattle.engine_calls.specs.declared.reply.Reply.{Reply}
use Rattle.engine_calls.specs.declared.reply.Reply.TheVariants as replies
use Rattle.perfect_groups.specs.Calls as machine
use Rattle.perfect_groups.specs.Faults.{fault, fault_by, is_within, wrong_communicator, wrong_count, wrong_incarnation}
use Rattle.perfect_groups.specs.Faults.{wrong_operation, wrong_rank, wrong_request, wrong_root, wrong_tag, wrong_type}
use Rattle.perfect_groups.specs.Membership.{Membership}
use Rattle.perfect_queues.specs.Refusals as rules
use Rattle.perfect_queues.specs.Refusals.{Standing, standing}
use Rattle.proof_engine_faults.proofs.Alike.{Alike, Full, IsFull, Same, calm_engine, judged_alike}
use Rattle.proof_engine_faults.proofs.Calm.{foreign_alike}
use Rattle.proof_engine_faults.proofs.Rows.{calm_core, calm_is_shown, core_of, nothing, standing_alike}
use Rattle.proof_engine_faults.specs.Own.{IsOrderly, OwnJudgements, OwnRefusals, OwnTakings, found, own_fault}
use Rattle.proof_engine_faults.specs.Own.{standing_of}
use Rattle.proof_engine_steps.proofs.RefusedWaits.{cancel_present, wait_present}
use Rattle.proof_engine_steps.proofs.Standings.{IsPresent, awaited_own, meant_present, request_own}
use Rattle.observation.specs.Reasons.{IsOutOfRoom, IsReason, MachinesFault, NoRoom}
use Rattle.proof_network_bridge.proofs.Reasons.{answered, asked, entered, looked}
use Rattle.proof_network_bridge.proofs.Refusals.{by_rule, free_faultless, free_reason}
use Rattle.proof_network_bridge.proofs.RoutedFaults.{IsFree}
use Rattle.observation.specs.Faults.{IsFaultless}
use Rattle.observation.specs.EngineCalls.{call_by, call_meant, call_seen}
use Rattle.proof_pure_network.specs.Core.{view}
use Rattle.proof_pure_network.specs.WaitingMessages.{blank}
use Rattle.point_to_point_calls.specs.declared.refusal.Refusal.{Refusal}
use Rattle.point_to_point_calls.specs.declared.refusal.Refusal.TheVariants as refusals
use Rattle.point_to_point.specs.CoreState.{CoreState}
use Rattle.point_to_point.specs.Messages.{message_fault}
use Rattle.requests.specs.Table.{is_message, progress_at}
use Rattle.requests.specs.declared.awaited_requests.Awaited.TheVariants as awaiteds
use Rattle.requests.specs.declared.table.RequestProgress.{RequestProgress}
use Rattle.requests.specs.declared.table.Request.{Request}
use Rattle.vocabulary.specs.declared.message_limit.MessageLimit.{MessageLimit}
use Rattle.vocabulary.specs.declared.endpoint.Endpoint.{Endpoint}

-- ---- what a call gave

-- whatever was taken met no rule and no limit
allowed : (old new : EngineState) (call : Call) (reply : Reply) → IsTaken reply → CallGives old call reply new →
    fault_of old call ≡ None
allowed old new (calls.Isend s) reply taken gives = (answered old new (calls.Isend s) reply taken gives).allowed
allowed old new (calls.Irecv v) reply taken gives = (answered old new (calls.Irecv v) reply taken gives).allowed
allowed old new (calls.Wait q) reply taken gives = (answered old new (calls.Wait q) reply taken gives).allowed
allowed old new (calls.Test q) reply taken gives = (answered old new (calls.Test q) reply taken gives).allowed
allowed old new (calls.Waitany qs) reply taken gives = (answered old new (calls.Waitany qs) reply taken gives).allowed
allowed old new (calls.Waitall qs) reply taken gives = (answered old new (calls.Waitall qs) reply taken gives).allowed
allowed old new (calls.Cancel q) reply taken gives = (answered old new (calls.Cancel q) reply taken gives).allowed
allowed old new (calls.Iprobe p) reply taken gives = (looked old new p reply taken gives).looked.allowed
allowed old new (calls.Improbe p) reply taken gives = (answered old new (calls.Improbe p) reply taken gives).allowed
allowed old new (calls.Mrecv q into) reply taken gives =
    (answered old new (calls.Mrecv q into) reply taken gives).allowed
allowed old new (calls.Enter comm x) reply taken gives = (entered old new comm x reply taken gives).allowed
allowed old new (calls.Ask comm q) reply taken gives = (asked old new comm q reply taken gives).told.allowed

-- what was refused was so for its first rule or limit, or for want of room
refused : (old new : EngineState) (call : Call) (why : Refusal) (back : Call) →
    CallGives old call (replies.Refused why back) new → IsRefused old call why back new
refused old new (calls.Isend s) why back gives = gives
refused old new (calls.Irecv v) why back gives = gives
refused old new (calls.Wait q) why back gives = gives
refused old new (calls.Test q) why back gives = gives
refused old new (calls.Waitany qs) why back gives = gives
refused old new (calls.Waitall qs) why back gives = gives
refused old new (calls.Cancel q) why back gives = gives
refused old new (calls.Iprobe p) why back gives = gives
refused old new (calls.Improbe p) why back gives = gives
refused old new (calls.Mrecv q into) why back gives = gives
refused old new (calls.Enter comm x) why back gives = gives
refused old new (calls.Ask comm q) why back gives = gives

-- want of room is a limit, or want of memory
out_of_room : (e : EngineState) (call : Call) (why : Refusal) → LacksRoom e call why → IsOutOfRoom why
out_of_room e (calls.Isend s) why h = inr h.0
out_of_room e (calls.Irecv v) why h = inr h.0
out_of_room e (calls.Wait q) why h = absurd h
out_of_room e (calls.Test q) why h = absurd h
out_of_room e (calls.Waitany qs) why h = absurd h
out_of_room e (calls.Waitall qs) why h = inr h
out_of_room e (calls.Cancel q) why h = absurd h
out_of_room e (calls.Iprobe p) why h = absurd h
out_of_room e (calls.Improbe p) why h = inr h.0
out_of_room e (calls.Mrecv q into) why h = inr h.0
out_of_room e (calls.Enter comm x) why (inl h) = inr h
out_of_room e (calls.Enter comm x) why (inr h) = inl h.0
out_of_room e (calls.Ask comm q) why h = inr h.0

-- ---- requests of its own

-- a message that can be received is there
message_there : (c : CoreState) (q : Request) → message_fault c (Some q) ≡ None → IsPresent c q
message_there c q fine = go (progress_at c.slots q.key q.serial) refl fine
  where
    go : (o : Option RequestProgress) → progress_at c.slots q.key q.serial ≡ o →
        (if is_message o then None else Some refusals.Request) ≡ None → IsPresent c q
    go None at h = absurd cc
    go (Some g) at h = (g, at)

first_none : (o p : Option Refusal) → first_fault o p ≡ None → o ≡ None
first_none None p h = refl
first_none (Some x) p h = absurd cc

-- a call that breaks no rule names no request of another engine
own_requests : (e : EngineState) (call : Call) → free_fault e call ≡ None → call_meant e.core call ≡ call_seen call
own_requests e (calls.Isend s) fine = refl
own_requests e (calls.Irecv v) fine = refl
own_requests e (calls.Wait q) fine =
    ap machine.Wait (awaited_own e.core (awaiteds.One q) (wait_present e.core (awaiteds.One q) fine))
own_requests e (calls.Test q) fine = ap machine.Test (request_own e.core q (wait_present e.core (awaiteds.One q) fine))
own_requests e (calls.Waitany qs) fine =
    ap machine.Wait (awaited_own e.core (awaiteds.AnyOf qs) (wait_present e.core (awaiteds.AnyOf qs) fine))
own_requests e (calls.Waitall qs) fine =
    ap machine.Wait (awaited_own e.core (awaiteds.AllOf qs) (wait_present e.core (awaiteds.AllOf qs) fine))
own_requests e (calls.Cancel None) fine = refl
own_requests e (calls.Cancel (Some q)) fine =
    ap (λ (k : ℕ). machine.Cancel (Some k)) (meant_present e.core q (cancel_present e.core q fine))
own_requests e (calls.Iprobe p) fine = refl
own_requests e (calls.Improbe p) fine = refl
own_requests e (calls.Mrecv None into) fine = refl
own_requests e (calls.Mrecv (Some q) into) fine = go (call_seen (calls.Mrecv (Some q) into)) refl
  where
    go : (c : machine.Call) → c ≡ call_seen (calls.Mrecv (Some q) into) →
        call_meant e.core (calls.Mrecv (Some q) into) ≡ call_seen (calls.Mrecv (Some q) into)
    go c is =
        ap (λ (k : ℕ). call_by (λ r. k) (calls.Mrecv (Some q) into))
        (meant_present e.core q (message_there e.core q (first_none (message_fault e.core (Some q)) _ fine)))
own_requests e (calls.Enter comm x) fine = refl
own_requests e (calls.Ask comm q) fine = refl

-- a call means the same where nothing is under way
meant_same : (c : CoreState) (call : Call) → call_meant (calm_core c) call ≡ call_meant c call
meant_same c call =
    ap (λ (f : Request → ℕ). call_by f call)
    (fun_ext (λ q. ap (λ (b : Bool). if b then c.serial else q.serial) (foreign_alike c.slots q)))

-- ---- the machine's fault

-- it is never 13
first_numbers : (a b c d f g h i j : Bool) →
    rules.first_fault ((a, 6) ∷ (b, 4) ∷ (c, 2) ∷ (d, 1) ∷ (f, 3) ∷ (g, 5) ∷ (h, 7) ∷ (i, 9) ∷ (j, 11) ∷ []) ≡ Some 13 →
    ⊥
first_numbers true b c d f g h i j z = absurd (grind arith)
first_numbers false true c d f g h i j z = absurd (grind arith)
first_numbers false false true d f g h i j z = absurd (grind arith)
first_numbers false false false true f g h i j z = absurd (grind arith)
first_numbers false false false false true g h i j z = absurd (grind arith)
first_numbers false false false false false true h i j z = absurd (grind arith)
first_numbers false false false false false false true i j z = absurd (grind arith)
first_numbers false false false false false false false true j z = absurd (grind arith)
first_numbers false false false false false false false false true z = absurd (grind arith)
first_numbers false false false false false false false false false z = absurd (grind arith)

never_13 : (limit : MessageLimit) (blocked : Bool) (f : ℕ → Standing) (e : Endpoint) (known : ℕ → ℕ) (m : Membership)
    (c : machine.Call) →
    fault_by limit blocked f e known m c ≡ Some 13 → ⊥
never_13 limit blocked f e known m c h =
    first_numbers (blocked || wrong_request f c) (wrong_communicator m c) (wrong_type e m c) (wrong_count limit e m c)
    (wrong_tag c) (wrong_rank m c) (wrong_root m c) (wrong_operation c) (wrong_incarnation known m c) h

-- neither of two tests holds
neither : (a b : Bool) → (a || b) ≡ false → (a ≡ false) × (b ≡ false)
neither true b h = absurd cc
neither false b h = (refl, h)

-- while no earlier call is blocked, it is the fault of what the core of the network and the communicators hold
idle_fault : (e : EngineState) (c : machine.Call) → IsOrderly e → is_busy e ≡ false →
    fault e.sessions.place.endpoint (view blank (core_of e.core e.sessions.known)) (member_of e.groups) c ≡
    own_fault e c
idle_fault e c o idle =
    ap₂ (λ (b : Bool) (f : ℕ → Standing). fault_by e.core.place.message_limit b f e.sessions.place.endpoint
    (known_by e.sessions.known)
    (member_of e.groups) c)
    ((neither (is_some e.core.blocked) (is_within (member_of e.groups).present) idle).1 ∙ sym idle)
    (fun_ext (λ k. standing_alike e.core.slots e.core.serial k (record { below = o.below; apart = o.apart })))

-- the engine with such a core is free there
is_free : (e : EngineState) → IsOrderly e → is_busy e ≡ false →
    IsFree nothing (calm_engine e) (core_of e.core e.sessions.known) (member_of e.groups)
is_free e o idle = record {
  shown = calm_is_shown e.core e.sessions.known (record { below = o.below; apart = o.apart }) o.width o.itself;
  idle = refl;
  apart = (neither (is_some e.core.blocked) (is_within (member_of e.groups).present) idle).1;
  held = refl;
  known = refl;
  placed = o.placed;
  limit = refl;
  inside = o.inside;
}

-- ---- while no earlier call is blocked

-- where a limit at most is met, the machine finds no fault
full_none : (e : EngineState) (call : Call) → IsOrderly e → is_busy e ≡ false →
    IsFull (free_fault (calm_engine e) call) → own_fault e (call_meant e.core call) ≡ None
full_none e call o idle (inl none) =
    let f : IsFaultless (fault e.sessions.place.endpoint (view blank (core_of e.core e.sessions.known)) (member_of e.groups) (call_seen call)) (calm_core e.core) call =
    free_faultless nothing e.sessions.place.endpoint (calm_engine e) (core_of e.core e.sessions.known)
    (member_of e.groups) call (is_free e o idle) o.own none in
    ap (own_fault e) (sym (meant_same e.core call) ∙ f.own) ∙ sym (idle_fault e (call_seen call) o idle) ∙ f.none
full_none e call o idle (inr limit) =
    go (free_reason nothing e.sessions.place.endpoint (calm_engine e) (core_of e.core e.sessions.known)
    (member_of e.groups) call refusals.Limit (is_free e o idle) o.own
    (subst (λ (p : Option Refusal). WhyRefused p (calm_engine e) call refusals.Limit) (sym limit) refl))
  where
    there : (x : Option ℕ) →
        fault e.sessions.place.endpoint (view blank (core_of e.core e.sessions.known)) (member_of e.groups)
        (call_meant (calm_core e.core) call) ≡ x → own_fault e (call_meant e.core call) ≡ x
    there x h = ap (own_fault e) (sym (meant_same e.core call)) ∙
        sym (idle_fault e (call_meant (calm_core e.core) call) o idle) ∙ h

    go : IsReason (fault e.sessions.place.endpoint (view blank (core_of e.core e.sessions.known)) (member_of e.groups)
        (call_meant (calm_core e.core) call)) refusals.Limit → own_fault e (call_meant e.core call) ≡ None
    go (MachinesFault h) =
        absurd (never_13 e.core.place.message_limit (is_busy e) (λ k. standing_of (found e.core.slots k))
        e.sessions.place.endpoint
        (known_by e.sessions.known) (member_of e.groups) (call_meant e.core call) (there (Some 13) h))
    go (NoRoom room h) = there None h

-- a call is refused by the rule that it breaks, which is the machine's too
rule_found : (e : EngineState) (call : Call) (x : Refusal) → IsOrderly e → is_busy e ≡ false →
    free_fault (calm_engine e) call ≡ Some x → IsReason (own_fault e (call_meant e.core call)) x
rule_found e call x o idle is =
    subst (λ (p : Option ℕ). IsReason p x) (idle_fault e (call_meant (calm_core e.core) call) o idle ∙
    ap (own_fault e) (meant_same e.core call))
    (free_reason nothing e.sessions.place.endpoint (calm_engine e) (core_of e.core e.sessions.known)
    (member_of e.groups) call x (is_free e o idle) o.own
    (subst (λ (p : Option Refusal). WhyRefused p (calm_engine e) call x) (sym is) refl))

-- so is any refusal
free_refusal : (e : EngineState) (call : Call) (why : Refusal) → IsOrderly e → is_busy e ≡ false →
    WhyRefused (free_fault e call) e call why → IsReason (own_fault e (call_meant e.core call)) why
free_refusal e call why o idle because = go (judged_alike e call) (free_fault e call) refl because
  where
    go : Alike (free_fault e call) (free_fault (calm_engine e) call) → (p : Option Refusal) → free_fault e call ≡ p →
        WhyRefused p e call why → IsReason (own_fault e (call_meant e.core call)) why
    go (Same same) (Some x) is h =
        subst (IsReason (own_fault e (call_meant e.core call))) (sym h) (rule_found e call x o idle (sym same ∙ is))
    go (Same same) None is h = NoRoom (out_of_room e call why h) (full_none e call o idle (inl (sym same ∙ is)))
    go (Full full calm_full) None is h = NoRoom (out_of_room e call why h) (full_none e call o idle calm_full)
    go (Full (inl none) calm_full) (Some x) is h = absurd (let z : Some x ≡ None = sym is ∙ none in cc)
    go (Full (inr limit) calm_full) (Some x) is h =
        NoRoom (inl (h ∙ (let z : Some x ≡ Some refusals.Limit = sym is ∙ limit in cc)))
        (full_none e call o idle calm_full)

-- and a call that meets no rule and no limit is without a fault
free_allowed : (e : EngineState) (call : Call) → IsOrderly e → is_busy e ≡ false → free_fault e call ≡ None →
    IsFaultless (own_fault e (call_seen call)) e.core call
free_allowed e call o idle fine = record { own = own; none = ap (own_fault e) (sym own) ∙ go (judged_alike e call) }
  where
    own : call_meant e.core call ≡ call_seen call
    own = own_requests e call fine

    go : Alike (free_fault e call) (free_fault (calm_engine e) call) → own_fault e (call_meant e.core call) ≡ None
    go (Same same) = full_none e call o idle (inl (sym same ∙ fine))
    go (Full full calm_full) = full_none e call o idle calm_full

-- ---- any call

pub own_refusals : OwnRefusals
own_refusals e mid call back why o gives = go (is_busy e) refl (refused e mid call why back gives).reason
  where
    go : (b : Bool) → is_busy e ≡ b →
        WhyRefused (first_fault (broken b refusals.Request) (free_fault e call)) e call why →
        IsReason (own_fault e (call_meant e.core call)) why
    go true busy because =
        by_rule (own_fault e (call_meant e.core call)) refusals.Request why because
        (ap (λ (b : Bool). fault_by e.core.place.message_limit b (λ k. standing_of (found e.core.slots k))
        e.sessions.place.endpoint
        (known_by e.sessions.known) (member_of e.groups) (call_meant e.core call)) busy)
    go false idle because = free_refusal e call why o idle because

pub own_judgements : OwnJudgements
own_judgements e call o fine = go (is_busy e) refl fine
  where
    go : (b : Bool) → is_busy e ≡ b → first_fault (broken b refusals.Request) (free_fault e call) ≡ None →
        IsFaultless (own_fault e (call_seen call)) e.core call
    go true busy none = absurd cc
    go false idle none = free_allowed e call o idle none

pub own_takings : OwnTakings
own_takings e mid call reply o taken gives = own_judgements e call o (allowed e mid call reply taken gives)
