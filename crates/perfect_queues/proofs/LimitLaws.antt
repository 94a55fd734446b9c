-- No event changes how many bytes a message of an endpoint may have.
use Rattle.std.proofs.Common.{◌≡◌, ℕ, List, [], ◌∷◌, Option, Some, None}
use Rattle.std.proofs.Common.{if◌then◌else◌, refl, sym, ap, ◌∙◌}
use Rattle.vocabulary.specs.declared.message_limit.MessageLimit.{MessageLimit}
use Rattle.perfect_queues.specs.Calls.{Call, Isend, Irecv, Wait, Test, Cancel, Iprobe, Improbe, Mrecv, after_answer}
use Rattle.perfect_queues.specs.Calls.{after_call, after_cancel, after_mrecv, after_settling, after_test, message_sent}
use Rattle.perfect_queues.specs.Calls.{ready_answer, send}
use Rattle.perfect_queues.specs.Buffers.{Handed}
use Rattle.perfect_queues.specs.Completions.{Answer, One, completion, outcome_at}
use Rattle.perfect_queues.specs.Events.{At, Event, Restart, after_event, settle, start}
use Rattle.perfect_queues.specs.Laws.{LimitStays}
use Rattle.perfect_queues.specs.Messages.{Message}
use Rattle.perfect_queues.specs.Runs.{after_run}
use Rattle.perfect_queues.specs.State.{Local, State, opening, put, with_message}
use Rattle.perfect_queues.specs.Steps.{Finish, FinishSend, Learn, Match, See, Step, TakeOut, after_step, step_at}
use Rattle.perfect_queues.specs.Steps.{steps_at}
use Rattle.vocabulary.specs.declared.endpoint.Endpoint.{Endpoint}
use Rattle.perfect_queues.proofs.EndpointLemmas.{same_cases}

-- ONE PART

pub limit_step : (l : Local) (x : Step) → (after_step l x).message_limit ≡ l.message_limit
limit_step l (Match k p earlier m later) = refl
limit_step l (Finish k p m) = refl
limit_step l (FinishSend k d) = refl
limit_step l (Learn r i) = refl
limit_step l (See q earlier m later) = refl
limit_step l (TakeOut q earlier m later) = refl

limit_test : (l : Local) (o : Option (Answer × List ℕ)) → (after_test l o).message_limit ≡ l.message_limit
limit_test l None = refl
limit_test l (Some (a, ks)) = refl

limit_cancel : (l : Local) (r : Option ℕ) → (after_cancel l r).message_limit ≡ l.message_limit
limit_cancel l None = refl
limit_cancel l (Some k) = refl

limit_mrecv : (l : Local) (k : Option ℕ) (into : Handed) → (after_mrecv l k into).message_limit ≡ l.message_limit
limit_mrecv l None into = refl
limit_mrecv l (Some k) into = refl

pub limit_call : (e : Endpoint) (l : Local) (c : Call) → (after_call e l c).message_limit ≡ l.message_limit
limit_call e l (Isend mode c to tag b) = refl
limit_call e l (Irecv p) = refl
limit_call e l (Wait a) = refl
limit_call e l (Test r) = limit_test l (completion (outcome_at l.requests) (One r))
limit_call e l (Cancel r) = limit_cancel l r
limit_call e l (Iprobe q) = refl
limit_call e l (Improbe q) = refl
limit_call e l (Mrecv k into) = limit_mrecv l k into

limit_answer : (l : Local) (o : Option (Answer × List ℕ)) → (after_answer l o).message_limit ≡ l.message_limit
limit_answer l None = refl
limit_answer l (Some (a, ks)) = refl

-- ALL PARTS

-- one part is changed, and its limit isn't
pub limit_put : (s : State) (e x : Endpoint) (l : Local) → l.message_limit ≡ (s.at e).message_limit →
    ((put s e l).at x).message_limit ≡ (s.at x).message_limit
limit_put s e x l same =
    same_cases x e (λ t. (if t then l else s.at x).message_limit ≡ (s.at x).message_limit)
    (λ h one. same ∙ ap (λ (y : Endpoint). (s.at y).message_limit) (sym one)) (λ h. refl)

pub limit_steps : (s : State) (e : Endpoint) (xs : List Step) (x : Endpoint) →
    ((steps_at s e xs).at x).message_limit ≡ (s.at x).message_limit
limit_steps s e [] x = refl
limit_steps s e (y ∷ ys) x =
    limit_steps (step_at s e y) e ys x ∙ limit_put s e x (after_step (s.at e) y) (limit_step (s.at e) y)

limit_send : (s : State) (o : Option (Endpoint × Message)) (x : Endpoint) →
    ((send s o).at x).message_limit ≡ (s.at x).message_limit
limit_send s None x = refl
limit_send s (Some (d, m)) x = limit_put s d x (with_message (s.at d) m) refl

pub limit_start : (s : State) (e : Endpoint) (call : Option Call) (x : Endpoint) →
    ((start s e call).at x).message_limit ≡ (s.at x).message_limit
limit_start s e None x = refl
limit_start s e (Some c) x =
    limit_send (put s e (after_call e (s.at e) c)) (message_sent e (s.at e) c) x
    ∙ limit_put s e x (after_call e (s.at e) c) (limit_call e (s.at e) c)

pub limit_settle : (s : State) (e x : Endpoint) → ((settle s e).at x).message_limit ≡ (s.at x).message_limit
limit_settle s e x = limit_put s e x (after_settling (s.at e)) (limit_answer (s.at e) (ready_answer (s.at e)))

-- EVENTS AND RUNS

pub limit_event : (s : State) (v : Event) (x : Endpoint) →
    ((after_event s v).at x).message_limit ≡ (s.at x).message_limit
limit_event s (At e call steps) x =
    limit_settle (steps_at (start s e call) e steps) e x
    ∙ (limit_steps (start s e call) e steps x ∙ limit_start s e call x)
limit_event s (Restart r) x = refl

limit_run : (s : State) (vs : List Event) (x : Endpoint) →
    ((after_run s vs).at x).message_limit ≡ (s.at x).message_limit
limit_run s [] x = refl
limit_run s (v ∷ vs) x = limit_run (after_event s v) vs x ∙ limit_event s v x

pub limit_stays : (limit : MessageLimit) → LimitStays limit
limit_stays limit = record { in_event = limit_event; in_runs = limit_run (opening limit) }
