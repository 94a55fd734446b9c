-- A script's runner names only requests that its own rank was given: it looks into none, so with others in place of
-- those that weren't given it would do the same.
use Rattle.std.proofs.Common.{◌≡◌, ℕ, zero, suc, Bool, true, false, ◌==◌, ◌&&◌, if◌then◌else◌, List, [], ◌∷◌, ◌++◌, ◌⊎◌}
use Rattle.std.proofs.Common.{Option, Some, None, Result, Ok, Err, inl, inr, option_map, option_and_then, slice_get}
use Rattle.std.proofs.Common.{slice_set, refl, sym, ap, ap₂, ◌∙◌, subst, arith}
use Rattle.std.specs.List.{AllByRecursion}
use Rattle.std.proofs.lemmas.Bool.{eq-eqb, eqb-true}
use Rattle.std.proofs.lemmas.Option.{none-some, same_Some}
use Rattle.engine_calls.specs.Calls.{IsTaken}
use Rattle.engine_calls.specs.declared.call.Call.{Call}
use Rattle.engine_calls.specs.declared.call.Call.TheVariants as calls
use Rattle.engine_calls.specs.declared.reply.Completion.{Completion}
use Rattle.engine_calls.specs.declared.reply.Completion.TheVariants as completions
use Rattle.engine_calls.specs.declared.reply.Reply.{Reply}
use Rattle.engine_calls.specs.declared.reply.Reply.TheVariants as replies
use Rattle.observation.specs.Requests.{message_given, request_given}
use Rattle.event_loop.specs.declared.runner.RunnerStep.{RunnerStep}
use Rattle.event_loop.specs.declared.runner.RunnerStep.TheVariants as steps
use Rattle.requests.specs.declared.table.Request.{Request}
use Rattle.replies.specs.Copies.{reply_of}
use Rattle.script_players.specs.Players.{PlayerState, state_by, state_by_reply, told_completion, told_if}
use Rattle.event_loop.specs.declared.loop_state.RunnerState.{RunnerState}
use Rattle.event_loop.specs.declared.loop_state.RunnerState.TheVariants.{Blocked, Over, Ready}
use Rattle.script_plays.proofs.PlayerLaws.{not_at, set_get, set_other}
use Rattle.proof_script_processes.proofs.NextSteps.{requests_are_handed_on}
use Rattle.proof_script_processes.specs.RequestChanges.{changed_call, changed_does, changed_found, changed_reply}
use Rattle.proof_script_processes.specs.RequestChanges.{changed_requests, changed_state, changed_step}
use Rattle.proof_script_processes.specs.Processes.{call_in}
use Rattle.script_runner.specs.ScriptSteps.{Does, NextGives, ScriptState, next_of}
use Rattle.vocabulary.specs.declared.endpoint.Endpoint.{Endpoint}
use Rattle.vocabulary.specs.declared.envelope.Status.{Status}
use Rattle.world.specs.GivenRequests.{GivesRequest, NamesOwn, WasGiven, WasGivenIf, requests_named}
use Rattle.world.specs.declared.event.HistoryEntry.{HistoryEntry}

-- WHETHER A REQUEST WAS GIVEN

abbrev is_request : Option Request → Request → Bool
is_request None q = false
is_request (Some p) q = (p.key == q.key) && (p.serial == q.serial)

abbrev gives : HistoryEntry → Endpoint → Request → Bool
gives entry x q =
    ((entry.endpoint.rank == x.rank) && (entry.endpoint.incarnation == x.incarnation)) &&
    is_request (option_and_then request_given entry.reply) q

abbrev was_given : List HistoryEntry → Endpoint → Request → Bool
was_given [] x q = false
was_given (entry ∷ entries) x q = if gives entry x q then true else was_given entries x q

true_false : (b : Bool) → b ≡ true → b ≡ false → ⊥
true_false true h k = absurd (grind arith)
true_false false h k = absurd (grind arith)

both_true : (a b : Bool) → (a && b) ≡ true → (a ≡ true) × (b ≡ true)
both_true true b h = (refl, h)
both_true false b h = absurd (grind arith)

true_both : (a b : Bool) → a ≡ true → b ≡ true → (a && b) ≡ true
true_both a b h k = ap₂ (λ (x y : Bool). x && y) h k

abbrev request_at : (key serial : ℕ) → Request
request_at key serial = record { key = key; serial = serial }

abbrev endpoint_at : (rank incarnation : ℕ) → Endpoint
endpoint_at rank incarnation = record { rank = rank; incarnation = incarnation }

is_request_so : (o : Option Request) (q : Request) → is_request o q ≡ true → o ≡ Some q
is_request_so None q h = absurd (grind arith)
is_request_so (Some p) q h =
    let b = both_true (p.key == q.key) (p.serial == q.serial) h in
    ap₂ (λ (k s : ℕ). Some (request_at k s)) (eqb-true p.key q.key b.0) (eqb-true p.serial q.serial b.1)

so_is_request : (o : Option Request) (q : Request) → o ≡ Some q → is_request o q ≡ true
so_is_request None q h = absurd (none-some q h)
so_is_request (Some p) q h =
    let e : p ≡ q = same_Some p q h in
    true_both (p.key == q.key) (p.serial == q.serial) (eq-eqb p.key q.key (ap (λ (x : Request). x.key) e))
    (eq-eqb p.serial q.serial (ap (λ (x : Request). x.serial) e))

gives_so : (entry : HistoryEntry) (x : Endpoint) (q : Request) → gives entry x q ≡ true → GivesRequest entry x q
gives_so entry x q h =
    let b = both_true ((entry.endpoint.rank == x.rank) && (entry.endpoint.incarnation == x.incarnation)) (is_request (option_and_then request_given entry.reply) q) h in
    let c = both_true (entry.endpoint.rank == x.rank) (entry.endpoint.incarnation == x.incarnation) b.0 in
    record {
      endpoint =
          ap₂ endpoint_at (eqb-true entry.endpoint.rank x.rank c.0)
          (eqb-true entry.endpoint.incarnation x.incarnation c.1);
      gave = is_request_so (option_and_then request_given entry.reply) q b.1;
    }

so_gives : (entry : HistoryEntry) (x : Endpoint) (q : Request) → GivesRequest entry x q → gives entry x q ≡ true
so_gives entry x q g =
    true_both ((entry.endpoint.rank == x.rank) && (entry.endpoint.incarnation == x.incarnation))
    (is_request (option_and_then request_given entry.reply) q)
    (true_both (entry.endpoint.rank == x.rank) (entry.endpoint.incarnation == x.incarnation)
    (eq-eqb entry.endpoint.rank x.rank (ap (λ (e : Endpoint). e.rank) g.endpoint))
    (eq-eqb entry.endpoint.incarnation x.incarnation (ap (λ (e : Endpoint). e.incarnation) g.endpoint)))
    (so_is_request (option_and_then request_given entry.reply) q g.gave)

given_so : (h : List HistoryEntry) (x : Endpoint) (q : Request) → was_given h x q ≡ true → WasGiven h x q
given_so [] x q is = absurd (grind arith)
given_so (entry ∷ h) x q is = go (gives entry x q) refl is (given_so h x q)
  where
    go : (b : Bool) → gives entry x q ≡ b → (if b then true else was_given h x q) ≡ true →
        (was_given h x q ≡ true → WasGiven h x q) → WasGiven (entry ∷ h) x q
    go true e k before = inl (gives_so entry x q e)
    go false e k before = inr (before k)

so_given : (h : List HistoryEntry) (x : Endpoint) (q : Request) → WasGiven h x q → was_given h x q ≡ true
so_given [] x q g = absurd g
so_given (entry ∷ h) x q (inl g) = ap (λ (b : Bool). if b then true else was_given h x q) (so_gives entry x q g)
so_given (entry ∷ h) x q (inr g) = go (gives entry x q) (so_given h x q g)
  where
    go : (b : Bool) → was_given h x q ≡ true → (if b then true else was_given h x q) ≡ true
    go true e = refl
    go false e = e

pub given_later : (h more : List HistoryEntry) (x : Endpoint) (q : Request) → WasGiven h x q → WasGiven (h ++ more) x q
given_later [] more x q g = absurd g
given_later (entry ∷ h) more x q (inl g) = inl g
given_later (entry ∷ h) more x q (inr g) = inr (given_later h more x q g)

pub given_last : (h : List HistoryEntry) (entry : HistoryEntry) (x : Endpoint) (q : Request) → GivesRequest entry x q →
    WasGiven (h ++ entry ∷ []) x q
given_last [] entry x q g = inl g
given_last (y ∷ h) entry x q g = inr (given_last h entry x q g)

-- what was given stays, and another one stands in the place of what wasn't
abbrev kept : Bool → Request → Request
kept true q = q
kept false q = record { key = suc q.key; serial = q.serial }

abbrev pub keeping : List HistoryEntry → Endpoint → Request → Request
keeping h x q = kept (was_given h x q) q

pub given_are_kept : (h : List HistoryEntry) (x : Endpoint) (q : Request) → WasGiven h x q → keeping h x q ≡ q
given_are_kept h x q g = ap (λ (b : Bool). kept b q) (so_given h x q g)

kept_were_given : (h : List HistoryEntry) (x : Endpoint) (q : Request) → keeping h x q ≡ q → WasGiven h x q
kept_were_given h x q e = go (was_given h x q) refl e
  where
    go : (b : Bool) → was_given h x q ≡ b → kept b q ≡ q → WasGiven h x q
    go true is k = given_so h x q is
    go false is k = absurd (let s : suc q.key ≡ q.key = ap (λ (y : Request). y.key) k in omega (arith, s))

-- A CALL WHOSE REQUESTS STAY

named_change : (change : Request → Request) (call : Call) → requests_named (changed_call change call) ≡
    changed_requests change (requests_named call)
named_change change (calls.Isend s) = refl
named_change change (calls.Irecv v) = refl
named_change change (calls.Wait q) = refl
named_change change (calls.Test q) = refl
named_change change (calls.Waitany qs) = refl
named_change change (calls.Waitall qs) = refl
named_change change (calls.Cancel q) = refl
named_change change (calls.Iprobe p) = refl
named_change change (calls.Improbe p) = refl
named_change change (calls.Mrecv q into) = refl
named_change change (calls.Enter comm x) = refl
named_change change (calls.Ask comm q) = refl

abbrev head_or : Option Request → List (Option Request) → Option Request
head_or d [] = d
head_or d (q ∷ qs) = q

abbrev tail_of : List (Option Request) → List (Option Request)
tail_of [] = []
tail_of (q ∷ qs) = qs

if_given : (h : List HistoryEntry) (x : Endpoint) (q : Option Request) → option_map (keeping h x) q ≡ q →
    WasGivenIf h x q
if_given h x None e = tt
if_given h x (Some q) e = kept_were_given h x q (same_Some (keeping h x q) q e)

all_given : (h : List HistoryEntry) (x : Endpoint) (qs : List (Option Request)) → changed_requests (keeping h x) qs ≡
    qs → AllByRecursion (WasGivenIf h x) qs
all_given h x [] e = tt
all_given h x (q ∷ qs) e = (if_given h x q (ap (head_or q) e), all_given h x qs (ap tail_of e))

pub names_own : (h : List HistoryEntry) (x : Endpoint) (call : Call) → changed_call (keeping h x) call ≡ call →
    NamesOwn h x call
names_own h x call e = all_given h x (requests_named call) (sym (named_change (keeping h x) call) ∙ ap requests_named e)

-- A PLAYER WHOSE REQUESTS STAY

abbrev pub IsKeptAt : (Request → Request) → RunnerState Call → ScriptState → Type 0
IsKeptAt change (Ready reply) s = (changed_state change s ≡ s) × (option_map (changed_reply change) reply ≡ reply)
IsKeptAt change (Blocked call) s = changed_state change s ≡ s
IsKeptAt change (Over status line) s = Unit {0}

abbrev pub IsKept : (Request → Request) → PlayerState → Type 0
IsKept change p = IsKeptAt change p.state p.runner

-- what it does next has requests that stay
pub steps_keep : (change : Request → Request) (old new : ScriptState) (reply : Option Reply) (step : RunnerStep) →
    changed_state change old ≡ old → option_map (changed_reply change) reply ≡ reply → next_of old reply ≡ (step, new) →
    (changed_step change step ≡ step) × (changed_state change new ≡ new)
steps_keep change old new reply step s r n =
    let e : changed_does change (step, new) ≡ (step, new) =
    ap (changed_does change) (sym n)
    ∙ (sym (requests_are_handed_on change old reply) ∙
    (ap₂ (λ (x : ScriptState) (y : Option Reply). next_of x y) s r ∙ n))
    in
    (ap (λ (d : Does). d.0) e, ap (λ (d : Does). d.1) e)

pub call_keeps : (change : Request → Request) (call : Call) → changed_step change (steps.Call call) ≡ steps.Call call →
    changed_call change call ≡ call
call_keeps change call e = same_Some (changed_call change call) call (ap call_in e)

-- a reply that gives a request that stays
reply_keeps : (change : Request → Request) (reply : Reply) → IsTaken reply →
    ((q : Request) → request_given reply ≡ Some q → change q ≡ q) → changed_reply change reply ≡ reply
reply_keeps change (replies.Started q) k g = ap replies.Started (g q refl)
reply_keeps change (replies.Done a) k g = refl
reply_keeps change replies.Pending k g = refl
reply_keeps change replies.Accepted k g = refl
reply_keeps change replies.Blocked k g = refl
reply_keeps change (replies.Left a) k g = refl
reply_keeps change (replies.Fact f) k g = refl
reply_keeps change (replies.Probed found) k g = refl
reply_keeps change (replies.Matched found) k g = ap replies.Matched (found_keeps found g)
  where
    found_keeps : (found : Option (Option Request × Status)) →
        ((q : Request) → message_given found ≡ Some q → change q ≡ q) → changed_found change found ≡ found
    found_keeps None h = refl
    found_keeps (Some (None, status)) h = refl
    found_keeps (Some (Some q, status)) h = ap (λ (y : Request). Some (Some y, status)) (h q refl)
reply_keeps change (replies.Refused why back) k g = absurd k

answer_keeps : (change : Request → Request) (c : Completion) → changed_reply change (reply_of c) ≡ reply_of c
answer_keeps change (completions.Requests a) = refl
answer_keeps change (completions.Collective a) = refl

state_keeps : (change : Request → Request) (call : Call) (reply : Reply) (s : ScriptState) →
    changed_state change s ≡ s → changed_reply change reply ≡ reply →
    IsKeptAt change (state_by_reply call (Some reply)) s
state_keeps change call (replies.Started q) s k r = (k, ap Some r)
state_keeps change call (replies.Done a) s k r = (k, ap Some r)
state_keeps change call replies.Pending s k r = (k, ap Some r)
state_keeps change call replies.Accepted s k r = (k, ap Some r)
state_keeps change call replies.Blocked s k r = k
state_keeps change call (replies.Left a) s k r = (k, ap Some r)
state_keeps change call (replies.Fact f) s k r = (k, ap Some r)
state_keeps change call (replies.Probed found) s k r = (k, ap Some r)
state_keeps change call (replies.Matched found) s k r = (k, ap Some r)
state_keeps change call (replies.Refused why back) s k r = (k, ap Some r)

-- a call was taken, and its reply gives a request that stays
pub taken_keeps : (change : Request → Request) (call : Call) (reply : Reply) (c : Option Completion) (s : ScriptState) →
    changed_state change s ≡ s → IsTaken reply → ((q : Request) → request_given reply ≡ Some q → change q ≡ q) →
    IsKeptAt change (state_by call (Some reply) c) s
taken_keeps change call reply None s k t g = state_keeps change call reply s k (reply_keeps change reply t g)
taken_keeps change call reply (Some c) s k t g = (k, ap Some (answer_keeps change c))

-- a blocked call was answered
pub told_keeps : (change : Request → Request) (c : Option Completion) (p : PlayerState) → IsKept change p →
    IsKept change (told_completion c p)
told_keeps change None p k = k
told_keeps change (Some c) p k = go p.state refl k
  where
    go : (state : RunnerState Call) → p.state ≡ state → IsKeptAt change state p.runner →
        IsKept change (told_if state c p)
    go (Ready reply) e h = subst (λ (x : RunnerState Call). IsKeptAt change x p.runner) (sym e) h
    go (Blocked call) e h = (h, ap Some (answer_keeps change c))
    go (Over status line) e h = subst (λ (x : RunnerState Call). IsKeptAt change x p.runner) (sym e) h

-- ALL PLAYERS

abbrev pub AreKept : (ℕ → Request → Request) → List PlayerState → Type 0
AreKept changes players = (r : ℕ) (p : PlayerState) → slice_get players r ≡ Some p → IsKept (changes r) p

pub kept_set : (changes : ℕ → Request → Request) (players : List PlayerState) (r : ℕ) (a : PlayerState) →
    AreKept changes players → IsKept (changes r) a → AreKept changes (slice_set players r a)
kept_set changes players r a all k x p is = go (x == r) refl
  where
    go : (b : Bool) → (x == r) ≡ b → IsKept (changes x) p
    go true e =
        let same : x ≡ r = eqb-true x r e in
        subst (λ (y : ℕ). IsKept (changes y) p) (sym same)
        (subst (λ (y : PlayerState). IsKept (changes r) y)
        (set_get players r a p (subst (λ (y : ℕ). slice_get (slice_set players r a) y ≡ Some p) same is)) k)
    go false e = all x p (sym (set_other players r x a (not_at x r e)) ∙ is)
