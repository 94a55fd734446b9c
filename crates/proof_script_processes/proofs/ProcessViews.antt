-- A runner follows its script's process.
use Rattle.std.proofs.Common.{◌≡◌, ℕ, List, [], ◌∷◌, map, Option, Some, None, inl, inr, option_map, refl, sym, ap, ap₂}
use Rattle.std.proofs.Common.{◌∙◌, subst}
use Rattle.engine_calls.specs.declared.call.Call.{Call}
use Rattle.engine_calls.specs.declared.call.Call.TheVariants as calls
use Rattle.engine_calls.specs.declared.reply.Reply.{Reply}
use Rattle.script_calls.specs.Tables.{Entry}
use Rattle.one_meaning.specs.Courses.{Calls, Told}
use Rattle.perfect_groups.specs.Calls as machine
use Rattle.perfect_queues.specs.Completions as completions
use Rattle.observation.specs.CoreCalls.{own_serial, request_by, requests_by}
use Rattle.observation.specs.EngineCalls.{call_seen}
use Rattle.event_loop.specs.declared.runner.RunnerStep.{RunnerStep}
use Rattle.event_loop.specs.declared.runner.RunnerStep.TheVariants as steps
use Rattle.requests.specs.Regions.{handed_of}
use Rattle.requests.specs.declared.table.Request.{Request}
use Rattle.script_runner.specs.ScriptSteps.{Does, ScriptState, next_of, opening}
use Rattle.script_calls.specs.declared.pending.NamedRequest.{NamedRequest}
use Rattle.script_calls.specs.declared.pending.NamedMessage.{NamedMessage}
use Rattle.script_calls.specs.declared.pending.NamedMessage.TheVariants as messages
use Rattle.proof_script_processes.specs.ProcessViews.{Follows, RunnersFollow, StartsFollow}
use Rattle.proof_script_processes.specs.RequestChanges.{changed_entry}
use Rattle.proof_script_processes.specs.PlainRequests.{plain_call, plain_does, plain_held, plain_message, plain_reply}
use Rattle.proof_script_processes.specs.PlainRequests.{plain_request, plain_requests, plain_state, plain_step}
use Rattle.proof_script_processes.specs.ReplyViews.{IsReplyTo, told_of}
use Rattle.proof_script_processes.specs.Processes.{Running, call_in, goes_to, next_by, script_at, step_seen}
use Rattle.proof_script_processes.proofs.ReplyViews.{replies_are_heard}
use Rattle.proof_script_processes.proofs.NextSteps.{keys_are_no_matter}

-- FORGETTING TWICE IS FORGETTING ONCE

twice_request : (q : Option Request) → option_map plain_request (option_map plain_request q) ≡
    option_map plain_request q
twice_request None = refl
twice_request (Some q) = refl

twice_held : (h : NamedRequest) → plain_held (plain_held h) ≡ plain_held h
twice_held h = ap (λ (q : Option Request). record { request = q; buffer = h.buffer }) (twice_request h.request)

twice_message : (m : NamedMessage) → plain_message (plain_message m) ≡ plain_message m
twice_message (messages.TakenOut q) = ap (λ (x : Option Request). messages.TakenOut x) (twice_request q)
twice_message messages.Ended = refl

twice_entries :
    {V : Type 0} → (f : V → V) → ((v : V) → f (f v) ≡ f v) → (es : List (Entry V)) →
    map (changed_entry f) (map (changed_entry f) es) ≡ map (changed_entry f) es
twice_entries f twice [] = refl
twice_entries {V = V} f twice (e ∷ es) =
    ap₂ (λ (x : Entry V) (xs : List (Entry V)). x ∷ xs)
    (ap (λ (v : V). record { name = e.name; value = v }) (twice e.value)) (twice_entries f twice es)

twice_state : (s : ScriptState) → plain_state (plain_state s) ≡ plain_state s
twice_state s =
    ap₂ (λ (qs : List (Entry NamedRequest)) (ms : List (Entry NamedMessage)).
    record {
      lines = s.lines;
      rank =
          record { names = record s.rank.names { requests = qs; messages = ms }; pending = s.rank.pending };
    })
    (twice_entries plain_held twice_held s.rank.names.requests)
    (twice_entries plain_message twice_message s.rank.names.messages)

-- A CALL IS SEEN WITHOUT KEYS

seen_request : (q : Option Request) → request_by own_serial (option_map plain_request q) ≡ request_by own_serial q
seen_request None = refl
seen_request (Some q) = refl

seen_requests : (qs : List (Option Request)) → requests_by own_serial (plain_requests qs) ≡ requests_by own_serial qs
seen_requests [] = refl
seen_requests (q ∷ qs) = ap₂ (λ (x : Option ℕ) (xs : List (Option ℕ)). x ∷ xs) (seen_request q) (seen_requests qs)

seen_plain : (call : Call) → call_seen (plain_call call) ≡ call_seen call
seen_plain (calls.Isend s) = refl
seen_plain (calls.Irecv v) = refl
seen_plain (calls.Wait q) = ap (λ (x : Option ℕ). machine.Wait (completions.One x)) (seen_request q)
seen_plain (calls.Test q) = ap (λ (x : Option ℕ). machine.Test x) (seen_request q)
seen_plain (calls.Waitany qs) = ap (λ (x : List (Option ℕ)). machine.Wait (completions.AnyOf x)) (seen_requests qs)
seen_plain (calls.Waitall qs) = ap (λ (x : List (Option ℕ)). machine.Wait (completions.AllOf x)) (seen_requests qs)
seen_plain (calls.Cancel q) = ap (λ (x : Option ℕ). machine.Cancel x) (seen_request q)
seen_plain (calls.Enter comm x) = refl
seen_plain (calls.Ask comm q) = refl
seen_plain (calls.Iprobe p) = refl
seen_plain (calls.Improbe p) = refl
seen_plain (calls.Mrecv q into) = ap (λ (x : Option ℕ). machine.Mrecv x (handed_of into)) (seen_request q)

step_plain : (step : RunnerStep) → step_seen (plain_step step) ≡ step_seen step
step_plain (steps.Call call) = ap (λ (c : machine.Call). Calls c) (seen_plain call)
step_plain (steps.Print line) = refl
step_plain (steps.End status line) = refl

-- A RUNNER AND ITS PROCESS

pub starts_follow : StartsFollow
starts_follow scripts r = keys_are_no_matter (opening (script_at scripts r) r 0) None

-- nothing is told, whatever the last call was
untold_is : (s : ScriptState) (last : Option Call) → next_by s last None ≡ next_of s None
untold_is s None = refl
untold_is s (Some call) = refl

next_plain : (s : ScriptState) (reply : Option Reply) →
    next_of (plain_state (plain_state s)) (option_map plain_reply reply) ≡ plain_does (next_of s reply)
next_plain s reply = ap (λ (x : ScriptState). next_of x (option_map plain_reply reply)) (twice_state s) ∙
    keys_are_no_matter s reply

-- what the process comes to
after : (old new : ScriptState) (reply : Option Reply) (step : RunnerStep) (p : Running) (t : Option Told) →
    Follows old reply p t → next_of old reply ≡ (step, new) →
    next_by p.state p.last t ≡ (plain_step step, plain_state new)
after old new reply step p t f n = f ∙ ap plain_does n

went : (new : ScriptState) (step : RunnerStep) (d : Does) → d ≡ (plain_step step, plain_state new) →
    ((goes_to d).0 ≡ step_seen step) × Follows new None (goes_to d).1 None
    × ((call : Call) (reply : Reply) → step ≡ steps.Call call → IsReplyTo (plain_call call) reply →
    Follows new (Some reply) (goes_to d).1 (Some (told_of reply)))
went new step d e =
    subst Goal (sym e) (
      step_plain step,
      untold_is (plain_state (plain_state new)) (call_in (plain_step step)) ∙
          next_plain new None,
      told,
    )
  where
    Goal : Does → Type 0
    Goal x =
        ((goes_to x).0 ≡ step_seen step) × Follows new None (goes_to x).1 None
        × ((call : Call) (reply : Reply) → step ≡ steps.Call call → IsReplyTo (plain_call call) reply →
        Follows new (Some reply) (goes_to x).1 (Some (told_of reply)))

    told : (call : Call) (reply : Reply) → step ≡ steps.Call call → IsReplyTo (plain_call call) reply →
        Follows new (Some reply) (goes_to (plain_step step, plain_state new)).1 (Some (told_of reply))
    told call reply is to =
        ap (λ (x : RunnerStep). next_by (plain_state (plain_state new)) (call_in (plain_step x)) (Some (told_of reply)))
        is
        ∙ (replies_are_heard (plain_state (plain_state new)) (plain_call call) reply to
        ∙ next_plain new (Some reply))

pub runners_follow : RunnersFollow
runners_follow old new reply step p t f (inl n) six =
    let w = went new step (next_by p.state p.last t) (after old new reply step p t f n) in record {
      does = w.0;
      untold =
          w.1;
      told = w.2;
    }
runners_follow old new reply step p t f (inr is) six = absurd (six is.0)
