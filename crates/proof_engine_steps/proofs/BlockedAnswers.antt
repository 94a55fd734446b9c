-- How a core answers its blocked call, and what an engine does then.
use Rattle.std.proofs.Common.{◌≡◌, ℕ, Bool, List, Option, Some, None, if◌then◌else◌, slice_get, option_and_then, refl}
use Rattle.std.proofs.Common.{ap, ◌∙◌}
use Rattle.std.proofs.lemmas.Bool.{eq-eqb}
use Rattle.vocabulary.specs.declared.basic_type.BasicType.{BasicType}
use Rattle.vocabulary.specs.declared.endpoint.Endpoint.{Endpoint}
use Rattle.perfect_queues.specs.Completions.{Answer, Unanswered, answer_to}
use Rattle.perfect_queues.specs.Outcomes as machine
use Rattle.perfect_queues.specs.Receives.{Receive}
use Rattle.proof_pure_network.specs.Core.{Core}
use Rattle.proof_pure_network.specs.Engine.{core_ready, core_settled, core_settled_by}
use Rattle.proof_pure_network.specs.WaitingMessages.{Held}
use Rattle.proof_pure_network.specs.Jobs.{Job, Waiting, Collecting, Offering, Over, over_at, Probed, Unmatched}
use Rattle.requests.specs.declared.outcome.Outcome.{Outcome}
use Rattle.requests.specs.declared.table.Posted.{Posted}
use Rattle.requests.specs.declared.table.TableEntry as slots
use Rattle.requests.specs.declared.table.Matched.{Matched}
use Rattle.requests.specs.declared.table.TakenOut as slots_of
use Rattle.requests.specs.declared.table.RequestProgress.{RequestProgress}
use Rattle.requests.specs.declared.table.RequestProgress.TheVariants.{Receiving, Finished}
use Rattle.requests.specs.declared.table.RequestProgress.TheVariants as progresses
use Rattle.requests.specs.Table.{progress_at, progress_of, slot_at}
use Rattle.proof_engine_view.specs.Rows.{Fits, Holds, IsMatched, IsTable, IsTaken, Row}
use Rattle.observation.specs.CoreCalls.{outcome_seen}
use Rattle.proof_engine_view.specs.CoreViews.{IsSettled}
use Rattle.proof_engine_steps.proofs.Tables.{held_at}

-- THE CORE

-- where no call is blocked, nothing is answered
pub ready_free : (core : Core) → core.blocked ≡ None → core_ready core ≡ None
ready_free core h = ap (λ (b : Option Unanswered). option_and_then (answer_to (over_at core.jobs)) b) h

-- where no call is blocked, settling changes nothing
pub settled_free : (core : Core) → core.blocked ≡ None → core_settled core ≡ core
settled_free core h = ap (core_settled_by core) (ready_free core h)

-- what is settled is settled
pub settled_is : (core : Core) → IsSettled (core_settled core)
settled_is core = go (core_ready core) refl
  where
    go : (o : Option (Answer × List ℕ)) → core_ready core ≡ o → IsSettled (core_settled_by core o)
    go None is = is
    go (Some t) is = ready_free (core_settled_by core (Some t)) refl

-- THE ENGINE

-- how far the request of a row is
pub progress_row : (table : List (Option slots.TableEntry)) (key k : ℕ) (job : Job) →
    (h : Holds (slot_at table key) k job) → progress_at table key k ≡ Some h.entry.progress
progress_row table key k job h =
    ap (λ (o : Option slots.TableEntry). progress_of o k) h.there ∙
    ap (λ (b : Bool). if b then Some h.entry.progress else None) (eq-eqb h.entry.serial k h.serial_is)

-- a receive that waits is one that is received
pub record IsReceiving (g : RequestProgress) : Type 0 where
  pub posted : Posted
  pub is : g ≡ Receiving posted

-- its progress is that it is received
pub fits_waiting : (g : RequestProgress) (p : Receive) → Fits g (Waiting p) → IsReceiving g
fits_waiting (Receiving b) p f = record { posted = b; is = refl }
fits_waiting (progresses.Collecting w) p f = absurd f
fits_waiting progresses.Offering p f = absurd f
fits_waiting (progresses.TakenOut t) p f = absurd f
fits_waiting (Finished o) p f = absurd f

-- it has ended so
pub record IsFinished (g : RequestProgress) (x : machine.Outcome) : Type 0 where
  pub outcome : Outcome
  pub is : g ≡ Finished outcome
  pub seen : x ≡ outcome_seen outcome

-- the progress of a request that is over
pub fits_over : (g : RequestProgress) (x : machine.Outcome) → Fits g (Over x) → IsFinished g x
fits_over (Receiving b) x f = absurd f
fits_over (progresses.Collecting w) x f = absurd f
fits_over progresses.Offering x f = absurd f
fits_over (progresses.TakenOut t) x f = absurd f
fits_over (Finished o) x f = record { outcome = o; is = refl; seen = f }

-- a receive that collects is one that is collected, for the same match
pub record IsCollected (g : RequestProgress) (p : Receive) (h : Held) : Type 0 where
  pub matched : Matched
  pub is : g ≡ progresses.Collecting matched
  pub alike : IsMatched matched p h

-- its progress is that it is collected
pub fits_collecting : (g : RequestProgress) (p : Receive) (h : Held) (got : List ℕ) → Fits g (Collecting p h got) →
    IsCollected g p h
fits_collecting (Receiving b) p h got f = absurd f
fits_collecting (progresses.Collecting w) p h got f = record { matched = w; is = refl; alike = f }
fits_collecting progresses.Offering p h got f = absurd f
fits_collecting (progresses.TakenOut t) p h got f = absurd f
fits_collecting (Finished o) p h got f = absurd f

-- the progress of a send that offers is that it is offered
pub fits_offering : (g : RequestProgress) (d : Endpoint) (basic : BasicType) (values : List ℕ) →
    Fits g (Offering d basic values) → g ≡ progresses.Offering
fits_offering (Receiving b) d basic values f = absurd f
fits_offering (progresses.Collecting w) d basic values f = absurd f
fits_offering progresses.Offering d basic values f = refl
fits_offering (progresses.TakenOut t) d basic values f = absurd f
fits_offering (Finished o) d basic values f = absurd f

-- so is that of a send to the rank itself that waits for its match
pub fits_unmatched : (g : RequestProgress) (d : Endpoint) → Fits g (Unmatched d) → g ≡ progresses.Offering
fits_unmatched (Receiving b) d f = absurd f
fits_unmatched (progresses.Collecting w) d f = absurd f
fits_unmatched progresses.Offering d f = refl
fits_unmatched (progresses.TakenOut t) d f = absurd f
fits_unmatched (Finished o) d f = absurd f

-- it is a message that was taken out
pub record IsMessage (g : RequestProgress) (group : Option (List ℕ)) (h : Option Held) : Type 0 where
  pub taken : slots_of.TakenOut
  pub is : g ≡ progresses.TakenOut taken
  pub alike : IsTaken taken group h

-- the progress of a message that was taken out
pub fits_probed : (g : RequestProgress) (group : Option (List ℕ)) (h : Option Held) → Fits g (Probed group h) →
    IsMessage g group h
fits_probed (Receiving b) group h f = absurd f
fits_probed (progresses.Collecting w) group h f = absurd f
fits_probed progresses.Offering group h f = absurd f
fits_probed (progresses.TakenOut t) group h f = record { taken = t; is = refl; alike = f }
fits_probed (Finished o) group h f = absurd f

-- what the table says of a receive that waits
pub progress_waiting : (table : List (Option slots.TableEntry)) (rows : List Row) (k key : ℕ) (p : Receive) →
    IsTable table rows → slice_get rows k ≡ Some (record { key = key; job = Waiting p }) →
    (b : Posted) × (progress_at table key k ≡ Some (Receiving b))
progress_waiting table rows k key p t h =
    let m : Holds (slot_at table key) k (Waiting p) = held_at table rows k key (Waiting p) t h (λ e. cc) in
    let r : IsReceiving m.entry.progress = fits_waiting m.entry.progress p m.fits in
    (r.posted, progress_row table key k (Waiting p) m ∙ ap Some r.is)

-- what the table says of a request that is over
pub progress_over : (table : List (Option slots.TableEntry)) (rows : List Row) (k key : ℕ) (x : machine.Outcome) →
    IsTable table rows → slice_get rows k ≡ Some (record { key = key; job = Over x }) →
    (o : Outcome) × (progress_at table key k ≡ Some (Finished o)) × (x ≡ outcome_seen o)
progress_over table rows k key x t h =
    let m : Holds (slot_at table key) k (Over x) = held_at table rows k key (Over x) t h (λ e. cc) in
    let r : IsFinished m.entry.progress x = fits_over m.entry.progress x m.fits in
    (r.outcome, progress_row table key k (Over x) m ∙ ap Some r.is, r.seen)

-- what the table says of a receive that collects
pub progress_collecting : (table : List (Option slots.TableEntry)) (rows : List Row) (k key : ℕ) (p : Receive)
    (h : Held) (got : List ℕ) → IsTable table rows →
    slice_get rows k ≡ Some (record { key = key; job = Collecting p h got }) →
    (w : Matched) × (progress_at table key k ≡ Some (progresses.Collecting w)) × IsMatched w p h
progress_collecting table rows k key p h got t at =
    let m : Holds (slot_at table key) k (Collecting p h got) = held_at table rows k key (Collecting p h got) t at (λ e. cc) in
    let r : IsCollected m.entry.progress p h = fits_collecting m.entry.progress p h got m.fits in
    (r.matched, progress_row table key k (Collecting p h got) m ∙ ap Some r.is, r.alike)

-- what the table says of a send that offers
pub progress_offering : (table : List (Option slots.TableEntry)) (rows : List Row) (k key : ℕ) (d : Endpoint)
    (basic : BasicType) (values : List ℕ) → IsTable table rows →
    slice_get rows k ≡ Some (record { key = key; job = Offering d basic values }) →
    progress_at table key k ≡ Some progresses.Offering
progress_offering table rows k key d basic values t at =
    let m : Holds (slot_at table key) k (Offering d basic values) = held_at table rows k key (Offering d basic values) t at (λ e. cc) in
    progress_row table key k (Offering d basic values) m ∙
    ap Some (fits_offering m.entry.progress d basic values m.fits)

-- what the table says of a send to the rank itself that waits for its match
pub progress_unmatched : (table : List (Option slots.TableEntry)) (rows : List Row) (k key : ℕ) (d : Endpoint) →
    IsTable table rows →
    slice_get rows k ≡ Some (record { key = key; job = Unmatched d }) →
    progress_at table key k ≡ Some progresses.Offering
progress_unmatched table rows k key d t at =
    let m : Holds (slot_at table key) k (Unmatched d) = held_at table rows k key (Unmatched d) t at (λ e. cc) in
    progress_row table key k (Unmatched d) m ∙ ap Some (fits_unmatched m.entry.progress d m.fits)

-- what the table says of a message that was taken out
pub progress_probed : (table : List (Option slots.TableEntry)) (rows : List Row) (k key : ℕ) (group : Option (List ℕ))
    (h : Option Held) → IsTable table rows →
    slice_get rows k ≡ Some (record { key = key; job = Probed group h }) →
    (t : slots_of.TakenOut) × (progress_at table key k ≡ Some (progresses.TakenOut t)) × IsTaken t group h
progress_probed table rows k key group h t at =
    let m : Holds (slot_at table key) k (Probed group h) = held_at table rows k key (Probed group h) t at (λ e. cc) in
    let r : IsMessage m.entry.progress group h = fits_probed m.entry.progress group h m.fits in
    (r.taken, progress_row table key k (Probed group h) m ∙ ap Some r.is, r.alike)
