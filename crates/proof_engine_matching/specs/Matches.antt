-- What is taken from an engine's queues, and what from a core's jobs.
use Rattle.std.specs.Prelude.{◌≡◌, ℕ, true, ◌⊎◌, List, [], ◌∷◌, ◌++◌, map, Some, None, slice_get, slice_set}
use Rattle.vocabulary.specs.declared.endpoint.Endpoint.{Endpoint}
use Rattle.datatypes.specs.Contents.{Contents}
use Rattle.match_queues.specs.declared.envelope.Message.{Message}
use Rattle.match_queues.specs.declared.envelope.Body.TheVariants.{Announced, Own, Whole}
use Rattle.match_queues.specs.declared.envelope.Announcement.{Announcement}
use Rattle.match_queues.specs.declared.envelope.OwnSend.{OwnSend}
use Rattle.match_queues.specs.declared.queues.Arrival.TheVariants.{Kept, Matched}
use Rattle.match_queues.specs.Arrivals.{arrival_of}
use Rattle.match_queues.specs.State.{State, after_arrival, after_post, after_take, message_at, message_for}
use Rattle.requests.specs.Outcomes.{outcome_of}
use Rattle.requests.specs.Table.{has_room, matched_progress}
use Rattle.communicator_members.specs.Statuses.{status_in}
use Rattle.requests.specs.declared.table.Posted.{Posted}
use Rattle.point_to_point_calls.specs.declared.call.RoutedReceive as engine_receive
use Rattle.point_to_point_calls.specs.ReceiveMatches.{posted_by, status_of}
use Rattle.point_to_point.specs.Messages.{probed_by}
use Rattle.perfect_queues.specs.Outcomes.{outcome}
use Rattle.perfect_queues.specs.Receives.{Receive}
use Rattle.perfect_queues.specs.Receives as machine
use Rattle.proof_pure_network.specs.WaitingMessages.{Held, fits, full}
use Rattle.proof_pure_network.specs.Jobs.{Job, Waiting, matched_job, oldest_posted}
use Rattle.proof_pure_network.specs.Matches.{found}
use Rattle.proof_engine_view.specs.Rows.{Fits, IsPosted, Row, body_seen, held_of, jobs_of, posted_job, posted_rows}
use Rattle.observation.specs.CoreCalls.{outcome_seen, receive_seen}
use Rattle.proof_engine_view.specs.Transfers.{Transfer}

-- the message waits behind the others
pub record IsKept (from : Endpoint → List Transfer) (rows : List Row) (old : State) (m : Message) : Type 0 where
  pub core : oldest_posted (held_of from m) (jobs_of rows) ≡ None
  pub arrival : arrival_of old m ≡ Kept
  pub queues : after_arrival old m ≡ record old { unexpected = old.unexpected ++ m ∷ [] }

-- the receive with serial k takes it
pub record IsMatchedTo (from : Endpoint → List Transfer) (rows : List Row) (old : State) (m : Message) (k key : ℕ)
    (p : Receive) : Type 0 where
  pub row : slice_get rows k ≡ Some (record { key = key; job = Waiting p })
  pub core : oldest_posted (held_of from m) (jobs_of rows) ≡ Some (k, p)
  pub arrival :
      arrival_of old m ≡ Matched (record { request = key; context = p.context; source = p.source; tag = p.tag }) m
  pub accepts : fits p (held_of from m) ≡ true
  -- whatever becomes of it, if it waits no more
  pub posted :
      (x : Job) → posted_job key x ≡ [] →
      (after_arrival old m).posted ≡ posted_rows (slice_set rows k (record { key = key; job = x }))
  pub unexpected : (after_arrival old m).unexpected ≡ old.unexpected

-- A message that comes is kept by the engine's queues and by the core, or both match it with the same receive
abbrev pub ArrivalsMatch : Type 0
ArrivalsMatch =
    (from : Endpoint → List Transfer) (rows : List Row) (old : State) (m : Message) → old.posted ≡ posted_rows rows →
    IsKept from rows old m ⊎ ((k : ℕ) × (key : ℕ) × (p : Receive) × IsMatchedTo from rows old m k key p)

-- no message that waits is accepted
pub record FindsNone (from : Endpoint → List Transfer) (old : State) (v : engine_receive.RoutedReceive)
    (key : ℕ) : Type 0 where
  pub core : found (receive_seen v) (map (held_of from) old.unexpected) ≡ None
  pub message : message_at old.unexpected (message_for (posted_by key v) old.unexpected) ≡ None
  pub queues : after_post old (posted_by key v) ≡ record old { posted = old.posted ++ posted_by key v ∷ [] }

-- the receive takes the same message out of both, and those before and after it stay
pub record Finds (from : Endpoint → List Transfer) (old : State) (v : engine_receive.RoutedReceive) (key : ℕ)
    (m : Message) (earlier later : List Held) : Type 0 where
  pub core : found (receive_seen v) (map (held_of from) old.unexpected) ≡ Some (earlier, held_of from m, later)
  pub message : message_at old.unexpected (message_for (posted_by key v) old.unexpected) ≡ Some m
  pub accepts : fits (receive_seen v) (held_of from m) ≡ true
  pub posted : (after_post old (posted_by key v)).posted ≡ old.posted
  pub unexpected : map (held_of from) (after_post old (posted_by key v)).unexpected ≡ earlier ++ later

-- A receive that is posted finds the same message in the engine's queues and in the core, or in neither
abbrev pub PostsMatch : Type 0
PostsMatch =
    (from : Endpoint → List Transfer) (old : State) (v : engine_receive.RoutedReceive) (key : ℕ) →
    FindsNone from old v key ⊎
    ((m : Message) × (earlier : List Held) × (later : List Held) × Finds from old v key m earlier later)

-- such a receive would find no message that waits, and nothing is taken out
pub record TakesNone (from : Endpoint → List Transfer) (old : State) (q : machine.Probe) : Type 0 where
  pub core : found (machine.such_receive q) (map (held_of from) old.unexpected) ≡ None
  pub message : message_at old.unexpected (message_for (probed_by q.source q.tag q.context) old.unexpected) ≡ None
  pub queues : after_take old (probed_by q.source q.tag q.context) ≡ old

-- the same message is taken out of both, and those before and after it stay
pub record Takes (from : Endpoint → List Transfer) (old : State) (q : machine.Probe) (m : Message)
    (earlier later : List Held) : Type 0 where
  pub core : found (machine.such_receive q) (map (held_of from) old.unexpected) ≡ Some (earlier, held_of from m, later)
  pub message : message_at old.unexpected (message_for (probed_by q.source q.tag q.context) old.unexpected) ≡ Some m
  pub accepts : fits (machine.such_receive q) (held_of from m) ≡ true
  pub posted : (after_take old (probed_by q.source q.tag q.context)).posted ≡ old.posted
  pub unexpected : map (held_of from) (after_take old (probed_by q.source q.tag q.context)).unexpected ≡ earlier ++
      later

-- A probe finds the same message in the engine's queues and in the core, or in neither
abbrev pub TakesMatch : Type 0
TakesMatch =
    (from : Endpoint → List Transfer) (old : State) (q : machine.Probe) →
    TakesNone from old q ⊎
    ((m : Message) × (earlier : List Held) × (later : List Held) × Takes from old q m earlier later)

-- a receive ends alike with a message that is whole
abbrev pub OutcomesAgree : Type 0
OutcomesAgree =
    (from : Endpoint → List Transfer) (p : Receive) (m : Message) (c : Contents) → m.body ≡ Whole c →
    outcome p (full (held_of from m) c.values) ≡ outcome_seen (outcome_of p.into (status_in p.group (status_of m)) c)

-- and with one of the rank's own whose send waits for its match
abbrev pub OwnOutcomesAgree : Type 0
OwnOutcomesAgree =
    (from : Endpoint → List Transfer) (p : Receive) (m : Message) (o : OwnSend) → m.body ≡ Own o →
    outcome p (full (held_of from m) o.elements.values) ≡
    outcome_seen (outcome_of p.into (status_in p.group (status_of m)) o.elements)

-- an announced message is wanted by a receive alike, and leaves it alike
pub record AnnouncedAlike (from : Endpoint → List Transfer) (p : Receive) (w : Posted) (m : Message)
    (a : Announcement) : Type 0 where
  pub wanted : machine.has_room p a.basic a.count ≡ has_room w.into a.basic a.count
  pub fits :
      Fits (matched_progress w.into (status_in w.group (status_of m)) a.basic)
      (matched_job p (held_of from m) (body_seen (from m.sender) m.body))

-- A receive that accepts it is matched with an announced message alike
abbrev pub AnnouncementsAgree : Type 0
AnnouncementsAgree =
    (from : Endpoint → List Transfer) (p : Receive) (w : Posted) (m : Message) (a : Announcement) →
    m.body ≡ Announced a →
    IsPosted w p → fits p (held_of from m) ≡ true → AnnouncedAlike from p w m a
