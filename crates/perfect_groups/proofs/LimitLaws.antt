-- How many bytes a message and a frame may have are two numbers of the job, in each of its runs.
use Rattle.std.proofs.Common.{◌≡◌, ◌*◌, List, [], ◌∷◌, length, Option, Some, None, refl, ◌∙◌}
use Rattle.std.proofs.lemmas.Bool.{lt-ltb}
use Rattle.perfect_groups.specs.CallLaws.{LargeBlocksAreRefused, LimitIsOfJob}
use Rattle.perfect_groups.specs.Calls.{Call, queue_call}
use Rattle.perfect_groups.specs.Events.{At, Event, Restart, after_event, machine_start}
use Rattle.perfect_groups.specs.Faults.{block_limit}
use Rattle.perfect_groups.specs.Machine.{Differs, InQueues, Leaves, Machine, Move, after_move, after_moves}
use Rattle.perfect_groups.specs.Machine.{machine_opening}
use Rattle.perfect_groups.specs.Runs.{after_run}
use Rattle.perfect_queues.specs.Steps.{after_step}
use Rattle.vocabulary.specs.BasicTypes.{size_of}
use Rattle.vocabulary.specs.declared.endpoint.Endpoint.{Endpoint}
use Rattle.vocabulary.specs.declared.message_limit.MessageLimit.{MessageLimit}
use Rattle.perfect_queues.proofs.LimitLaws.{limit_put, limit_settle, limit_start, limit_step}

-- the limits at an endpoint
abbrev at : Machine → Endpoint → MessageLimit
at s x = (s.queues.at x).message_limit

limit_move : (s : Machine) (e : Endpoint) (y : Move) (x : Endpoint) → at (after_move s e y) x ≡ at s x
limit_move s e (InQueues y) x = limit_put s.queues e x (after_step (s.queues.at e) y) (limit_step (s.queues.at e) y)
limit_move s e (Leaves c k p ps) x = refl
limit_move s e (Differs c k p a b pa pb) x = refl

limit_moves : (s : Machine) (e : Endpoint) (ys : List Move) (x : Endpoint) → at (after_moves s e ys) x ≡ at s x
limit_moves s e [] x = refl
limit_moves s e (y ∷ ys) x = limit_moves (after_move s e y) e ys x ∙ limit_move s e y x

limit_begun : (s : Machine) (e : Endpoint) (call : Option Call) (x : Endpoint) →
    at (machine_start s e call) x ≡ at s x
limit_begun s e None x = refl
limit_begun s e (Some c) x = limit_start s.queues e (queue_call (s.groups.of e) c) x

limit_event : (s : Machine) (v : Event) (x : Endpoint) → at (after_event s v) x ≡ at s x
limit_event s (At e call moves) x =
    limit_settle (after_moves (machine_start s e call) e moves).queues e x
    ∙ (limit_moves (machine_start s e call) e moves x ∙ limit_begun s e call x)
limit_event s (Restart r) x = refl

pub limit_run : (s : Machine) (vs : List Event) (x : Endpoint) → at (after_run s vs) x ≡ at s x
limit_run s [] x = refl
limit_run s (v ∷ vs) x = limit_run (after_event s v) vs x ∙ limit_event s v x

pub limit_is_of_job : LimitIsOfJob
limit_is_of_job n limit events x = limit_run (machine_opening n limit) events x

pub large_blocks_are_refused : LargeBlocksAreRefused
large_blocks_are_refused e l m place c basic values root free held more =
    rw (free, held, lt-ltb (block_limit l.message_limit) (length values * size_of basic) more) refl
