-- A rank's requests by their serials, each with the key under which it stands in the table.
use Rattle.std.specs.Prelude.{◌≡◌, ℕ, true, List, [], ◌∷◌, ◌++◌, map, Option, Some, is_some, slice_get}
use Rattle.vocabulary.specs.declared.endpoint.Endpoint.{Endpoint}
use Rattle.match_queues.specs.declared.envelope.PostedReceive as posted
use Rattle.match_queues.specs.declared.envelope.Message.{Message}
use Rattle.match_queues.specs.declared.envelope.Body.{Body}
use Rattle.match_queues.specs.declared.envelope.Body.TheVariants as bodies
use Rattle.match_queues.specs.Bodies.{basic_of}
use Rattle.requests.specs.declared.table.TableEntry.{TableEntry}
use Rattle.requests.specs.declared.table.Matched.{Matched}
use Rattle.requests.specs.declared.table.Posted.{Posted}
use Rattle.requests.specs.declared.table.TakenOut as table
use Rattle.requests.specs.declared.table.RequestProgress.{RequestProgress}
use Rattle.requests.specs.declared.table.RequestProgress.TheVariants.{Receiving, TakenOut, Finished}
use Rattle.requests.specs.declared.table.RequestProgress.TheVariants as progresses
use Rattle.requests.specs.Regions.{handed_of}
use Rattle.requests.specs.Table.{slot_at}
use Rattle.perfect_queues.specs.Outcomes.{status_by}
use Rattle.perfect_queues.specs.Receives.{Receive}
use Rattle.proof_pure_network.specs.WaitingMessages.{Held, Own, Part, Whole, count_of, fits}
use Rattle.proof_pure_network.specs.WaitingMessages as held
use Rattle.proof_pure_network.specs.Jobs.{Job, Waiting, Collecting, Offering, Over, Closed, Unmatched, Probed}
use Rattle.observation.specs.CoreCalls.{outcome_seen}
use Rattle.proof_engine_view.specs.Transfers.{Transfer, serial_at}

-- a request: its key in the table, and its job
pub record Row : Type 0 where
  pub key : ℕ
  pub job : Job

-- the jobs of these requests, by their serials
abbrev pub jobs_of : List Row → List Job
jobs_of rows = map (λ (r : Row). r.job) rows

-- a receive that waits is this one: its data go there, and its status names the source by its group
pub record IsPosted (w : Posted) (p : Receive) : Type 0 where
  pub into : p.into ≡ handed_of w.into
  pub group : p.group ≡ w.group

-- a receive was matched with this announced message, which it accepts: its data go where the receive's go, and the
-- status is what the receive has of the message
pub record IsMatched (w : Matched) (p : Receive) (h : Held) : Type 0 where
  pub into : p.into ≡ handed_of w.into
  pub accepts : fits p h ≡ true
  pub status : w.status ≡ status_by p h.sender.rank h.tag (count_of h.body)

-- a message was taken out by a probe of this group, and is there, or its sender was replaced
pub record IsTaken (t : table.TakenOut) (group : Option (List ℕ)) (h : Option Held) : Type 0 where
  pub group_is : group ≡ t.group
  pub there : is_some h ≡ is_some t.message

-- how far the request is says what the job says; which data a receive has so far, and what a send offers, the transfers
-- say; and which message was taken out, what is under way says
abbrev pub Fits : RequestProgress → Job → Type 0
Fits (Receiving w) (Waiting p) = IsPosted w p
Fits (Receiving w) (Collecting p h got) = ⊥
Fits (Receiving w) (Offering d basic values) = ⊥
Fits (Receiving w) (Over x) = ⊥
Fits (Receiving w) Closed = ⊥
Fits (Receiving w) (Unmatched d) = ⊥
Fits (Receiving w) (Probed g h) = ⊥
Fits (progresses.Collecting w) (Waiting p) = ⊥
Fits (progresses.Collecting w) (Collecting p h got) = IsMatched w p h
Fits (progresses.Collecting w) (Offering d basic values) = ⊥
Fits (progresses.Collecting w) (Over x) = ⊥
Fits (progresses.Collecting w) Closed = ⊥
Fits (progresses.Collecting w) (Unmatched d) = ⊥
Fits (progresses.Collecting w) (Probed g h) = ⊥
Fits progresses.Offering (Waiting p) = ⊥
Fits progresses.Offering (Collecting p h got) = ⊥
Fits progresses.Offering (Offering d basic values) = Unit {0}
Fits progresses.Offering (Over x) = ⊥
Fits progresses.Offering Closed = ⊥
Fits progresses.Offering (Unmatched d) = Unit {0}
Fits progresses.Offering (Probed g h) = ⊥
Fits (TakenOut t) (Waiting p) = ⊥
Fits (TakenOut t) (Collecting p h got) = ⊥
Fits (TakenOut t) (Offering d basic values) = ⊥
Fits (TakenOut t) (Over x) = ⊥
Fits (TakenOut t) Closed = ⊥
Fits (TakenOut t) (Unmatched d) = ⊥
Fits (TakenOut t) (Probed g h) = IsTaken t g h
Fits (Finished o) (Waiting p) = ⊥
Fits (Finished o) (Collecting p h got) = ⊥
Fits (Finished o) (Offering d basic values) = ⊥
Fits (Finished o) (Over x) = x ≡ outcome_seen o
Fits (Finished o) Closed = ⊥
Fits (Finished o) (Unmatched d) = ⊥
Fits (Finished o) (Probed g h) = ⊥

-- the slot holds the request with this serial
pub record Holds (slot : Option TableEntry) (serial : ℕ) (job : Job) : Type 0 where
  pub entry : TableEntry
  pub there : slot ≡ Some entry
  pub serial_is : entry.serial ≡ serial
  pub fits : Fits entry.progress job

-- what stands in the slot of a request whose outcome wasn't answered
abbrev pub Stands : Option TableEntry → (serial : ℕ) → Job → Type 0
Stands slot k (Waiting p) = Holds slot k (Waiting p)
Stands slot k (Collecting p h got) = Holds slot k (Collecting p h got)
Stands slot k (Offering d basic values) = Holds slot k (Offering d basic values)
Stands slot k (Over o) = Holds slot k (Over o)
Stands slot k Closed = Unit {0}
Stands slot k (Unmatched d) = Holds slot k (Unmatched d)
Stands slot k (Probed g h) = Holds slot k (Probed g h)

-- a slot's entry is that of a row
pub record IsRow (rows : List Row) (key : ℕ) (t : TableEntry) : Type 0 where
  pub row : Row
  pub there : slice_get rows t.serial ≡ Some row
  pub key_is : row.key ≡ key
  pub fits : Fits t.progress row.job

-- the table holds each request whose outcome wasn't answered under its key, and nothing else
pub record IsTable (slots : List (Option TableEntry)) (rows : List Row) : Type 0 where
  pub stands : (k : ℕ) (r : Row) → slice_get rows k ≡ Some r → Stands (slot_at slots r.key) k r.job
  pub entries : (key : ℕ) (t : TableEntry) → slot_at slots key ≡ Some t → IsRow rows key t

-- the receive of a request that waits, under its key
abbrev pub posted_job : (key : ℕ) → Job → List posted.PostedReceive
posted_job key (Waiting p) = record { request = key; context = p.context; source = p.source; tag = p.tag } ∷ []
posted_job key (Collecting p h got) = []
posted_job key (Offering d basic values) = []
posted_job key (Over o) = []
posted_job key Closed = []
posted_job key (Unmatched d) = []
posted_job key (Probed g h) = []

-- the receives that wait, in the order of their serials
abbrev pub posted_rows : List Row → List posted.PostedReceive
posted_rows [] = []
posted_rows (r ∷ rs) = posted_job r.key r.job ++ posted_rows rs

-- what is there of a message of which its sender announced these: a large one is named by the serial of its send, and
-- so is one of the rank's own whose send waits
abbrev pub body_seen : List Transfer → Body → held.Body
body_seen ts (bodies.Whole c) = Whole c.values
body_seen ts (bodies.Own o) = Own o.serial o.elements.values
body_seen ts (bodies.Announced a) = Part (serial_at ts a.transfer) a.count

-- a message that waits for its receive, by what each endpoint announced
abbrev pub held_of : (Endpoint → List Transfer) → Message → Held
held_of from m = record {
  sender = m.sender;
  context = m.context;
  tag = m.tag;
  basic = basic_of m.body;
  body = body_seen (from m.sender) m.body;
}
