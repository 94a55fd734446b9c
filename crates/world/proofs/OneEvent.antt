-- Which event of the machine an event of the world is, by what both tell: a call is one, and so is a restart; any other
-- event is one without a call, or none.
use Rattle.std.proofs.Common.{◌≡◌, ℕ, List, [], ◌∷◌, ◌++◌, Option, Some, None, refl, sym, ap, ◌∙◌, append-nil}
use Rattle.std.proofs.Common.{append_assoc}
use Rattle.std.specs.Prelude.{Ok}
use Rattle.std.proofs.lemmas.Grind.{flat_map-append}
use Rattle.std.proofs.lemmas.Option.{same_Some}
use Rattle.engine_calls.specs.EngineState.{EngineState}
use Rattle.engine_calls.specs.declared.call.Call as engine
use Rattle.engine_calls.specs.declared.reply.Completion.{Completion}
use Rattle.engine_calls.specs.declared.reply.Completion.TheVariants as completions
use Rattle.engine_calls.specs.declared.reply.Reply as engine_replies
use Rattle.engine_calls.specs.declared.reply.Reply.TheVariants as replies
use Rattle.observation.specs.EngineCalls.{call_seen, told_call, told_completion}
use Rattle.perfect_groups.specs.Calls.{Answer, Call, Reply, reply_at_once}
use Rattle.perfect_groups.specs.Events as machine
use Rattle.perfect_groups.specs.Events.{At, Called, Completed, Entry, Restart, Restarted, after_event, entries}
use Rattle.perfect_groups.specs.Events.{machine_start, ready_at, told_of}
use Rattle.perfect_groups.specs.Machine.{Machine, Move, after_moves, machine_opening}
use Rattle.perfect_groups.specs.Runs.{after_run, seen}
use Rattle.proof_network_runs.specs.Runs.{IsOneAtMost}
use Rattle.vocabulary.specs.declared.endpoint.Endpoint.{Endpoint}
use Rattle.vocabulary.specs.declared.message_limit.MessageLimit.{MessageLimit}
use Rattle.world.proofs.Sound.{IsNoTick}
use Rattle.world.specs.EventByEvent.{IsCallOf, IsOneFor, IsWithoutCall}
use Rattle.world.specs.Headline.{entry_seen, history_seen}
use Rattle.world.specs.Steps.{EventRuns, Gave, TakesCall, entry_of}
use Rattle.world.specs.declared.event.Event.{Event}
use Rattle.world.specs.declared.event.Event.TheVariants as events
use Rattle.world.specs.declared.event.HistoryEntry.{HistoryEntry}

-- ---- WHAT IS TOLD BEHIND A RUN

seen_behind : (s : Machine) (vs us : List machine.Event) →
    seen s (vs ++ us) ≡ seen s vs ++ seen (after_run s vs) us
seen_behind s [] us = refl
seen_behind s (v ∷ vs) us =
    ap (λ (es : List Entry). entries s v ++ es) (seen_behind (after_event s v) vs us)
    ∙ sym (append_assoc (entries s v) (seen (after_event s v) vs) (seen (after_run (after_event s v) vs) us))

abbrev rest_of : List Entry → List Entry
rest_of [] = []
rest_of (x ∷ xs) = xs

left_over : (front a b : List Entry) → front ++ a ≡ front ++ b → a ≡ b
left_over [] a b is = is
left_over (x ∷ xs) a b is = left_over xs a b (ap rest_of is)

-- the entry of an event is told by the machine's events behind the run
told_behind : (n : ℕ) (limit : MessageLimit) (vs more : List machine.Event) (history : List HistoryEntry)
    (entry : HistoryEntry) →
    seen (machine_opening n limit) vs ≡ history_seen history →
    seen (machine_opening n limit) (vs ++ more) ≡ history_seen (history ++ entry ∷ []) →
    seen (after_run (machine_opening n limit) vs) more ≡ entry_seen entry
told_behind n limit vs more history entry was is =
    left_over (history_seen history) (seen (after_run (machine_opening n limit) vs) more) (entry_seen entry)
    (ap (λ (es : List Entry). es ++ seen (after_run (machine_opening n limit) vs) more) (sym was)
    ∙ sym (seen_behind (machine_opening n limit) vs more) ∙ is
    ∙ flat_map-append entry_seen history (entry ∷ [])
    ∙ ap (λ (es : List Entry). history_seen history ++ es) (append-nil (entry_seen entry)))

-- ---- WHAT ENTRIES ARE OF

-- the call of the first of them
abbrev call_in : Entry → Option Call
call_in (Called e c r) = Some c
call_in (Completed e a) = None
call_in (Restarted r) = None

abbrev call_of : List Entry → Option Call
call_of [] = None
call_of (x ∷ xs) = call_in x

-- the rank that the first of them starts anew
abbrev rank_in : Entry → Option ℕ
rank_in (Called e c r) = None
rank_in (Completed e a) = None
rank_in (Restarted r) = Some r

abbrev rank_of : List Entry → Option ℕ
rank_of [] = None
rank_of (x ∷ xs) = rank_in x

-- ---- of the machine's events

no_call : (e : Endpoint) (o : Option Answer) → call_of (told_of e None o ++ []) ≡ None
no_call e None = refl
no_call e (Some a) = refl

no_rank : (e : Endpoint) (o : Option Answer) → rank_of (told_of e None o ++ []) ≡ None
no_rank e None = refl
no_rank e (Some a) = refl

its_call : (e : Endpoint) (c : Call) (r : Option Reply) (o : Option Answer) →
    call_of (told_of e (Some (c, r)) o ++ []) ≡ Some c
its_call e c (Some r) o = refl
its_call e c None (Some a) = refl
its_call e c None None = refl

its_rank : (e : Endpoint) (c : Call) (r : Option Reply) (o : Option Answer) →
    rank_of (told_of e (Some (c, r)) o ++ []) ≡ None
its_rank e c (Some r) o = refl
its_rank e c None (Some a) = refl
its_rank e c None None = refl

-- what is ready at the end of an event's steps
abbrev ready : Machine → Endpoint → Option Call → List Move → Option Answer
ready s e call steps = ready_at (after_moves (machine_start s e call) e steps) e

abbrev at_once : Machine → Endpoint → Call → Option Reply
at_once s e c = reply_at_once e (s.queues.at e) (s.groups.of e) c

-- an event that tells of a call is of that call
of_call : (s : Machine) (v : machine.Event) (c : Call) → call_of (seen s (v ∷ [])) ≡ Some c → IsCallOf c (v ∷ [])
of_call s (Restart r) c is = absurd cc
of_call s (At e None steps) c is =
    let none : None ≡ Some c = sym (no_call e (ready s e None steps)) ∙ is in absurd cc
of_call s (At e (Some d) steps) c is =
    same_Some d c (sym (its_call e d (at_once s e d) (ready s e (Some d) steps)) ∙ is)

-- one that tells of a restart is that
of_restart : (s : Machine) (v : machine.Event) (r : ℕ) → rank_of (seen s (v ∷ [])) ≡ Some r → v ∷ [] ≡ Restart r ∷ []
of_restart s (Restart q) r is = ap (λ (x : ℕ). Restart x ∷ []) (same_Some q r is)
of_restart s (At e None steps) r is =
    let none : None ≡ Some r = sym (no_rank e (ready s e None steps)) ∙ is in absurd cc
of_restart s (At e (Some d) steps) r is =
    let none : None ≡ Some r = sym (its_rank e d (at_once s e d) (ready s e (Some d) steps)) ∙ is in absurd cc

-- one that tells of neither has no call
of_neither : (s : Machine) (v : machine.Event) → call_of (seen s (v ∷ [])) ≡ None →
    rank_of (seen s (v ∷ [])) ≡ None → IsWithoutCall (v ∷ [])
of_neither s (Restart r) is no_restart = absurd cc
of_neither s (At e None steps) is no_restart = tt
of_neither s (At e (Some d) steps) is no_restart =
    let some : Some d ≡ None = sym (its_call e d (at_once s e d) (ready s e (Some d) steps)) ∙ is in absurd cc

-- ---- of at most one of them

one_of_call : (s : Machine) (more : List machine.Event) (c : Call) → IsOneAtMost more →
    call_of (seen s more) ≡ Some c → IsCallOf c more
one_of_call s [] c one is = absurd cc
one_of_call s (v ∷ []) c one is = of_call s v c is
one_of_call s (v ∷ (u ∷ vs)) c one is = absurd one

one_of_restart : (s : Machine) (more : List machine.Event) (r : ℕ) → IsOneAtMost more →
    rank_of (seen s more) ≡ Some r → more ≡ Restart r ∷ []
one_of_restart s [] r one is = absurd cc
one_of_restart s (v ∷ []) r one is = of_restart s v r is
one_of_restart s (v ∷ (u ∷ vs)) r one is = absurd one

one_of_neither : (s : Machine) (more : List machine.Event) → IsOneAtMost more → call_of (seen s more) ≡ None →
    rank_of (seen s more) ≡ None → IsWithoutCall more
one_of_neither s [] one is no_restart = tt
one_of_neither s (v ∷ []) one is no_restart = of_neither s v is no_restart
one_of_neither s (v ∷ (u ∷ vs)) one is no_restart = absurd one

-- ---- of the world's events

-- a call that was taken is told
told_of_call : (old mid : EngineState) (e : Endpoint) (call : engine.Call) (reply : Option engine_replies.Reply)
    (rest : List Entry) → TakesCall old call reply mid →
    call_of (told_call e call reply ++ rest) ≡ Some (call_seen call)
told_of_call old mid e call None rest takes = absurd takes
told_of_call old mid e call (Some (replies.Started q)) rest takes = refl
told_of_call old mid e call (Some (replies.Done a)) rest takes = refl
told_of_call old mid e call (Some replies.Pending) rest takes = refl
told_of_call old mid e call (Some replies.Accepted) rest takes = refl
told_of_call old mid e call (Some (replies.Probed found)) rest takes = refl
told_of_call old mid e call (Some (replies.Matched found)) rest takes = refl
told_of_call old mid e call (Some replies.Blocked) rest takes = refl
told_of_call old mid e call (Some (replies.Left o)) rest takes = refl
told_of_call old mid e call (Some (replies.Fact f)) rest takes = refl
told_of_call old mid e call (Some (replies.Refused why back)) rest takes = absurd takes.0

answers_no_call : (e : Endpoint) (o : Option Completion) → call_of (told_completion e o) ≡ None
answers_no_call e None = refl
answers_no_call e (Some (completions.Requests a)) = refl
answers_no_call e (Some (completions.Collective o)) = refl

answers_no_restart : (e : Endpoint) (o : Option Completion) → rank_of (told_completion e o) ≡ None
answers_no_restart e None = refl
answers_no_restart e (Some (completions.Requests a)) = refl
answers_no_restart e (Some (completions.Collective o)) = refl

-- ---- BOTH

one_for : (s : Machine) (d : List (ℕ × List ℕ)) (event : Event) (old next : EngineState) (gave : Gave)
    (more : List machine.Event) → EventRuns d event old (Ok gave) next → IsOneAtMost more →
    ((IsNoTick event → ⊥) → more ≡ []) → seen s more ≡ entry_seen (entry_of event gave) → IsOneFor event more
one_for s d (events.Call r call) old next gave more ran one still is =
    one_of_call s more (call_seen call) one
    (ap call_of is
    ∙ told_of_call old ran.mid gave.endpoint call gave.reply (told_completion gave.endpoint gave.completion) ran.event)
one_for s d (events.Deliver number) old next gave more ran one still is =
    one_of_neither s more one (ap call_of is ∙ answers_no_call gave.endpoint gave.completion)
    (ap rank_of is ∙ answers_no_restart gave.endpoint gave.completion)
one_for s d (events.Stray r bytes) old next gave more ran one still is =
    one_of_neither s more one (ap call_of is ∙ answers_no_call gave.endpoint gave.completion)
    (ap rank_of is ∙ answers_no_restart gave.endpoint gave.completion)
one_for s d (events.Tick r now) old next gave more ran one still is = still (λ no_tick. no_tick)
one_for s d (events.Restart r) old next gave more ran one still is = one_of_restart s more r one (ap rank_of is)

-- behind a run the events that an event of the world adds are what that is
pub one_behind : (n : ℕ) (limit : MessageLimit) (vs more : List machine.Event) (history : List HistoryEntry)
    (d : List (ℕ × List ℕ))
    (event : Event) (old next : EngineState) (gave : Gave) → EventRuns d event old (Ok gave) next → IsOneAtMost more →
    ((IsNoTick event → ⊥) → more ≡ []) → seen (machine_opening n limit) vs ≡ history_seen history →
    seen (machine_opening n limit) (vs ++ more) ≡ history_seen (history ++ entry_of event gave ∷ []) →
    IsOneFor event more
one_behind n limit vs more history d event old next gave ran one still was is =
    one_for (after_run (machine_opening n limit) vs) d event old next gave more ran one still
    (told_behind n limit vs more history (entry_of event gave) was is)
