-- A cancel of a rank is that of its core in the network.
use Rattle.std.proofs.Common.{◌≡◌, ◌≢◌, ℕ, zero, suc, Bool, true, false, List, [], ◌∷◌, ◌++◌, map, remove, Option, Some}
use Rattle.std.proofs.Common.{None, ◌==◌, slice_get, slice_set, option_map, arith, refl, sym, ap, ◌∙◌, subst, ◌⊎◌, inl}
use Rattle.std.proofs.Common.{inr}
use Rattle.std.proofs.lemmas.Bool.{eq-eqb, eqb-true}
use Rattle.std.proofs.lemmas.List.{length-set}
use Rattle.std.proofs.lemmas.Option.{none-some, same_Some}
use Rattle.datatypes.specs.Contents.{Contents}
use Rattle.perfect_queues.specs.Buffers.{Handed}
use Rattle.perfect_queues.specs.Calls as machine
use Rattle.perfect_queues.specs.Outcomes as ends
use Rattle.perfect_queues.specs.Receives as receives
use Rattle.perfect_queues.specs.Requests.{changed}
use Rattle.match_queues.specs.State as queues
use Rattle.match_queues.specs.declared.envelope.Message.{Message}
use Rattle.match_queues.specs.declared.envelope.PostedReceive as posted
use Rattle.proof_pure_network.specs.Core.{Core, with_jobs}
use Rattle.proof_pure_network.specs.Engine.{core_cancels}
use Rattle.proof_pure_network.specs.Jobs.{Job, Waiting, Collecting, Offering, Over, Closed, dropped, Probed, Unmatched}
use Rattle.requests.specs.Regions.{handed_of}
use Rattle.requests.specs.Table.{cancelled_by, progress_at, slot_at}
use Rattle.requests.specs.declared.outcome.Outcome.TheVariants as outcomes
use Rattle.requests.specs.declared.table.Posted.{Posted}
use Rattle.requests.specs.declared.table.TableEntry.{TableEntry}
use Rattle.requests.specs.declared.table.Matched.{Matched}
use Rattle.requests.specs.declared.table.TakenOut as slots
use Rattle.requests.specs.declared.table.RequestProgress.{RequestProgress}
use Rattle.requests.specs.declared.table.RequestProgress.TheVariants.{Receiving, Finished}
use Rattle.requests.specs.declared.table.RequestProgress.TheVariants as progresses
use Rattle.requests.specs.declared.table.Request.{Request}
use Rattle.point_to_point_calls.specs.CoreCalls.{CoreReply}
use Rattle.point_to_point_calls.specs.CoreCalls as replies
use Rattle.point_to_point.specs.CoreState.{CoreState}
use Rattle.point_to_point.specs.Completions.{Cancels, cancel_fault, cancelled_at}
use Rattle.proof_engine_view.specs.Rows.{Fits, Holds, Row, held_of, posted_job, posted_rows}
use Rattle.observation.specs.CoreCalls.{outcome_seen, own_serial, request_by}
use Rattle.proof_engine_view.specs.CoreViews.{IsShown}
use Rattle.proof_engine_view.specs.Transfers.{Announcements}
use Rattle.proof_engine_steps.proofs.TableRows.{CollectsFor, HasRow, HoldsMessage, OffersValues, WaitsForMatch}
use Rattle.proof_engine_steps.proofs.TableRows.{collecting_of, finished_row, offering_of, probed_of, row_of, waiting_of}
use Rattle.proof_engine_steps.proofs.CallMeanings.{IsMeant}
use Rattle.proof_engine_matching.proofs.Positions.{position_here, position_later, remove_first}
use Rattle.proof_engine_steps.proofs.RefusedWaits.{cancel_faultless, cancel_present}
use Rattle.proof_engine_steps.proofs.Regions.{handed_buffer}
use Rattle.proof_engine_steps.proofs.RowLemmas.{job_at, set_jobs}
use Rattle.proof_engine_steps.proofs.BlockedAnswers.{settled_free}
use Rattle.proof_engine_steps.proofs.Standings.{IsPresent}
use Rattle.proof_engine_steps.proofs.UnchangedTransfers.{under_way_still}
use Rattle.proof_engine_steps.proofs.UnderWay.{keeps_set, same_set, taken_same, taken_set}
use Rattle.proof_engine_steps.proofs.RequestStarts.{core_free, shown_free}
use Rattle.proof_engine_steps.proofs.Tables.{changed_table, held_at, says_some, set_change, set_is_set}
use Rattle.proof_engine_steps.proofs.BlockedRanks.{Holding, holding_of}

-- ---- the jobs

-- a receive that waits is dropped
dropped_waiting : (js : List Job) (k : ℕ) (p : receives.Receive) → slice_get js k ≡ Some (Waiting p) →
    changed dropped js k ≡ slice_set js k (Over (ends.Cancelled p.into.buffer))
dropped_waiting [] k p h = absurd (none-some (Waiting p) h)
dropped_waiting (j ∷ js) zero p h = ap (λ (y : Job). dropped y ∷ js) (same_Some j (Waiting p) h)
dropped_waiting (j ∷ js) (suc k) p h = ap (λ (ys : List Job). j ∷ ys) (dropped_waiting js k p h)

-- any other request stays
dropped_still : (js : List Job) (k : ℕ) (x : Job) → slice_get js k ≡ Some x → dropped x ≡ x → changed dropped js k ≡ js
dropped_still [] k x h s = refl
dropped_still (j ∷ js) zero x h s =
    let e : j ≡ x = same_Some j x h in
    ap (λ (y : Job). y ∷ js) (ap dropped e ∙ (s ∙ sym e))
dropped_still (j ∷ js) (suc k) x h s = ap (λ (ys : List Job). j ∷ ys) (dropped_still js k x h s)

-- so does a receive that collects
collecting_stays : (w : Matched) (j : Job) → Fits (progresses.Collecting w) j → dropped j ≡ j
collecting_stays w j f = let c : CollectsFor w j = collecting_of w j f in ap dropped c.is ∙ sym c.is

-- and a send that offers
offering_stays : (j : Job) → Fits progresses.Offering j → dropped j ≡ j
offering_stays j f = go (offering_of j f)
  where
    go : OffersValues j ⊎ WaitsForMatch j → dropped j ≡ j
    go (inl o) = ap dropped o.is ∙ sym o.is
    go (inr o) = ap dropped o.is ∙ sym o.is

-- and a message that was taken out
taken_stays : (t : slots.TakenOut) (j : Job) → Fits (progresses.TakenOut t) j → dropped j ≡ j
taken_stays t j f = let m : HoldsMessage t j = probed_of t j f in ap dropped m.is ∙ sym m.is

-- ---- the queue

-- the receives without that at this place, where one was found
abbrev without_at : List posted.PostedReceive → Option ℕ → List posted.PostedReceive
without_at rs None = rs
without_at rs (Some i) = remove rs i

-- with one more in front
without_later : (x : posted.PostedReceive) (rs : List posted.PostedReceive) (o : Option ℕ) →
    without_at (x ∷ rs) (option_map suc o) ≡ x ∷ without_at rs o
without_later x rs None = refl
without_later x rs (Some i) = refl

-- the receives once that of this request is taken out
abbrev posted_without : List posted.PostedReceive → (key : ℕ) → List posted.PostedReceive
posted_without rs key = without_at rs (queues.posted_for key rs)

-- the front one is that of the request
taken_here : (x : posted.PostedReceive) (rs : List posted.PostedReceive) (key : ℕ) → x.request ≡ key →
    posted_without (x ∷ rs) key ≡ rs
taken_here x rs key e =
    ap (without_at (x ∷ rs))
    (position_here (λ (r : posted.PostedReceive). r.request == key) x rs (eq-eqb x.request key e)) ∙
    remove_first x rs

-- the front one is that of another request
taken_later : (x : posted.PostedReceive) (rs : List posted.PostedReceive) (key : ℕ) → x.request ≢ key →
    posted_without (x ∷ rs) key ≡ x ∷ posted_without rs key
taken_later x rs key n = go (x.request == key) refl
  where
    go : (b : Bool) → (x.request == key) ≡ b → posted_without (x ∷ rs) key ≡ x ∷ posted_without rs key
    go true e = absurd (n (eqb-true x.request key e))
    go false e =
        ap (without_at (x ∷ rs))
        (position_later (λ (r : posted.PostedReceive). r.request == key) x rs (queues.posted_for key rs) e refl) ∙
        without_later x rs (queues.posted_for key rs)

-- the queues after a cancel have these receives, and the same messages
cancel_posted : (s : queues.State) (key : ℕ) → (queues.after_cancel s key).posted ≡ posted_without s.posted key
cancel_posted s key = go (queues.posted_for key s.posted)
  where
    go : (o : Option ℕ) → (queues.cancelled_at o s).posted ≡ without_at s.posted o
    go None = refl
    go (Some i) = refl

cancel_unexpected : (s : queues.State) (key : ℕ) → (queues.after_cancel s key).unexpected ≡ s.unexpected
cancel_unexpected s key = go (queues.posted_for key s.posted)
  where
    go : (o : Option ℕ) → (queues.cancelled_at o s).unexpected ≡ s.unexpected
    go None = refl
    go (Some i) = refl

-- no other row with this key is unanswered
abbrev IsAlone : List Row → (k key : ℕ) → Type 0
IsAlone rows k key = (j : ℕ) (r : Row) → j ≢ k → slice_get rows j ≡ Some r → r.key ≡ key → r.job ≡ Closed

-- a receive that waits isn't closed
still_open : (q : receives.Receive) (j : Job) → j ≡ Waiting q → j ≡ Closed → ⊥
still_open q j a b = let c : Waiting q ≡ Closed = sym a ∙ b in absurd cc

zero_apart : (k : ℕ) → zero ≡ suc k → ⊥
zero_apart k e = absurd (omega arith)

suc_same : (j k : ℕ) → suc j ≡ suc k → j ≡ k
suc_same j k e = omega arith

-- what the rows post once the receive of one of them is cancelled
cancelled_rows : (rows : List Row) (k key : ℕ) (p : receives.Receive) (x : ends.Outcome) →
    slice_get rows k ≡ Some (record { key = key; job = Waiting p }) → IsAlone rows k key →
    posted_without (posted_rows rows) key ≡ posted_rows (slice_set rows k (record { key = key; job = Over x }))
cancelled_rows [] k key p x h alone = absurd (none-some (record { key = key; job = Waiting p }) h)
cancelled_rows (r ∷ rs) zero key p x h alone =
    ap (λ (y : Row). posted_without (posted_job y.key y.job ++ posted_rows rs) key)
    (same_Some r (record { key = key; job = Waiting p }) h) ∙
    taken_here (record { request = key; context = p.context; source = p.source; tag = p.tag }) (posted_rows rs) key refl
cancelled_rows (r ∷ rs) (suc k) key p x h alone =
    front r.job refl (cancelled_rows rs k key p x h (λ j y n. alone (suc j) y (λ e. n (suc_same j k e))))
  where
    left : List posted.PostedReceive
    left = posted_rows (slice_set rs k (record { key = key; job = Over x }))

    by_job : (j : Job) → r.job ≡ j → posted_without (posted_rows rs) key ≡ left →
        posted_without (posted_job r.key j ++ posted_rows rs) key ≡ posted_job r.key j ++ left
    by_job (Waiting q) e rest =
        let one : posted.PostedReceive = record { request = r.key; context = q.context; source = q.source; tag = q.tag } in
        taken_later one (posted_rows rs) key
        (λ same. still_open q r.job e (alone zero r (λ z. zero_apart k z) refl same)) ∙
        ap (λ (ps : List posted.PostedReceive). one ∷ ps) rest
    by_job (Collecting q m got) e rest = rest
    by_job (Offering d basic values) e rest = rest
    by_job (Over y) e rest = rest
    by_job Closed e rest = rest
    by_job (Unmatched d) e rest = rest
    by_job (Probed g h) e rest = rest

    front : (j : Job) → r.job ≡ j → posted_without (posted_rows rs) key ≡ left →
        posted_without (posted_job r.key r.job ++ posted_rows rs) key ≡ posted_job r.key r.job ++ left
    front j e rest =
        subst (λ (y : Job). posted_without (posted_job r.key y ++ posted_rows rs) key ≡ posted_job r.key y ++ left)
        (sym e) (by_job j e rest)

-- ---- the call

-- what is no receive that waits stays as it is
cancel_still : (links : Announcements) (old : CoreState) (known : List ℕ) (core : Core) (q : Request) (j : Job) →
    (shown : IsShown links old known core) → old.blocked ≡ None → cancel_fault old (Some q) ≡ None →
    slice_get shown.rows q.serial ≡ Some (record { key = q.key; job = j }) → dropped j ≡ j →
    IsMeant links old known core (machine.Cancel (Some q.serial)) replies.Accepted old
cancel_still links old known core q j shown free fine there stays =
    record {
      fit = cancel_faultless links old known core q shown free fine;
      place = refl;
      completion = refl;
      shown = subst (λ (c : Core). IsShown links old known c)
          (sym (settled_free (core_cancels core (Some q.serial)) (core_free links old known core shown free)))
          (subst (λ (js : List Job). IsShown links old known (with_jobs core js)) (sym same) shown);
      sends = refl;
      tells = refl;
    }
  where
    job : slice_get core.jobs q.serial ≡ Some j
    job = ap (λ (js : List Job). slice_get js q.serial) shown.jobs ∙ job_at shown.rows q.serial q.key j there

    same : changed dropped core.jobs q.serial ≡ core.jobs
    same = dropped_still core.jobs q.serial j job stays

-- a receive that waits, with its row
record IsWaiting (rows : List Row) (q : Request) (b : Posted) : Type 0 where
  receive : receives.Receive
  there : slice_get rows q.serial ≡ Some (record { key = q.key; job = Waiting receive })
  into : receive.into ≡ handed_of b.into

-- the row of a receive that waits
waiting_row : (links : Announcements) (old : CoreState) (known : List ℕ) (core : Core) (q : Request) (b : Posted) →
    (shown : IsShown links old known core) → progress_at old.slots q.key q.serial ≡ Some (Receiving b) →
    IsWaiting shown.rows q b
waiting_row links old known core q b shown g =
    let r : HasRow shown.rows q.serial q.key (Receiving b) = row_of old.slots shown.rows q.serial q.key (Receiving b) shown.table g in
    let p : (p : receives.Receive) × (r.job ≡ Waiting p) = waiting_of b r.job r.fits in
    record {
      receive = p.0;
      there = r.there ∙ ap (λ (j : Job). Some (record { key = q.key; job = j })) p.1;
      into = (subst (λ (j : Job). Fits (Receiving b) j) p.1 r.fits).into;
    }

-- the rank once a receive that waits is cancelled
abbrev after_dropping : CoreState → Request → Posted → CoreState
after_dropping c q b =
    record c { slots = cancelled_by c.slots q (Some (Receiving b)); queues = queues.after_cancel c.queues q.key }

-- both hold the same once a receive that waits is cancelled
cancel_holds : (links : Announcements) (old : CoreState) (known : List ℕ) (core : Core) (q : Request) (b : Posted) →
    (shown : IsShown links old known core) → (w : IsWaiting shown.rows q b) →
    Holding links (after_dropping old q b) known (core_cancels core (Some q.serial))
    (slice_set shown.rows q.serial (record { key = q.key; job = Over (ends.Cancelled w.receive.into.buffer) }))
cancel_holds links old known core q b shown w =
    record {
      jobs = dropped_waiting core.jobs q.serial w.receive job ∙
          (ap (λ (js : List Job). slice_set js q.serial (Over x)) shown.jobs ∙
          sym (set_jobs shown.rows q.serial q.key (Over x)));
      count = length-set shown.rows q.serial over ∙ shown.count;
      table = changed_table old.slots (slice_set old.slots q.key (Some after)) shown.rows q.serial q.key
          (Waiting w.receive) (Over x) (Some after) shown.table w.there (λ e. cc)
          (set_is_set old.slots q.key mine.entry (Some after) mine.there)
          (says_some q.serial (Finished (outcomes.Cancelled b.into.buffer)) (Over x) values_same);
      posted = cancel_posted old.queues q.key ∙
          (ap (λ (ps : List posted.PostedReceive). posted_without ps q.key) shown.posted ∙
          cancelled_rows shown.rows q.serial q.key w.receive x w.there
          (set_change old.slots shown.rows q.serial q.key (Waiting w.receive) (Over x) shown.table w.there
          (λ e. cc)).alone);
      held = shown.held ∙
          ap (λ (ms : List Message). map (held_of links.from) ms) (sym (cancel_unexpected old.queues q.key));
      under_way =
          under_way_still links known old.place old.place shown.rows (slice_set shown.rows q.serial over) old.transfers
          old.transfers old.queues.unexpected (queues.after_cancel old.queues q.key).unexpected shown.under_way
          (same_set shown.rows q.serial q.key (Waiting w.receive) (Over x) w.there (λ i. i) (λ i. i)) refl refl
          (cancel_unexpected old.queues q.key);
      taken = taken_set links.from known old.place (slice_set shown.rows q.serial over) old.slots
          (slice_set old.slots q.key (Some after)) q.key (Some after)
          (set_is_set old.slots q.key mine.entry (Some after) mine.there)
          (taken_same links.from known old.place shown.rows (slice_set shown.rows q.serial over) old.slots
          (keeps_set shown.rows q.serial q.key (Waiting w.receive) (Over x) w.there (λ i. i)) shown.taken) tt;
      knowing = (holding_of links old known core shown).knowing;
    }
  where
    x : ends.Outcome
    x = ends.Cancelled w.receive.into.buffer

    over : Row
    over = record { key = q.key; job = Over x }

    after : TableEntry
    after = record { serial = q.serial; progress = Finished (outcomes.Cancelled b.into.buffer) }

    mine : Holds (slot_at old.slots q.key) q.serial (Waiting w.receive)
    mine = held_at old.slots shown.rows q.serial q.key (Waiting w.receive) shown.table w.there (λ e. cc)

    job : slice_get core.jobs q.serial ≡ Some (Waiting w.receive)
    job = ap (λ (js : List Job). slice_get js q.serial) shown.jobs ∙
        job_at shown.rows q.serial q.key (Waiting w.receive) w.there

    values_same : x ≡ outcome_seen (outcomes.Cancelled b.into.buffer)
    values_same = ap (λ (h : Handed). ends.Cancelled h.buffer) w.into ∙
        ap (λ (c : Contents). ends.Cancelled c) (handed_buffer b.into)

-- a receive that waits is cancelled
cancel_waiting : (links : Announcements) (old : CoreState) (known : List ℕ) (core : Core) (q : Request) (b : Posted) →
    IsShown links old known core → old.blocked ≡ None → cancel_fault old (Some q) ≡ None →
    progress_at old.slots q.key q.serial ≡ Some (Receiving b) →
    IsMeant links old known core (machine.Cancel (Some q.serial)) replies.Accepted (after_dropping old q b)
cancel_waiting links old known core q b shown free fine g =
    let w : IsWaiting shown.rows q b = waiting_row links old known core q b shown g in
    let core_is : core.blocked ≡ None = core_free links old known core shown free in
    record {
      fit = cancel_faultless links old known core q shown free fine;
      place = refl;
      completion = refl;
      shown = subst (λ (c : Core). IsShown links (after_dropping old q b) known c)
          (sym (settled_free (core_cancels core (Some q.serial)) core_is))
          (shown_free links (after_dropping old q b) known (core_cancels core (Some q.serial))
          (slice_set shown.rows q.serial
          (record { key = q.key; job = Over (ends.Cancelled w.receive.into.buffer) }))
          (cancel_holds links old known core q b shown w) free core_is);
      sends = refl;
      tells = refl;
    }

-- what is cancelled by how far it is
cancel_some : (links : Announcements) (old : CoreState) (known : List ℕ) (core : Core) (q : Request) →
    IsShown links old known core → old.blocked ≡ None → cancel_fault old (Some q) ≡ None →
    (o : Option RequestProgress) →
    progress_at old.slots q.key q.serial ≡ o →
    IsMeant links old known core (machine.Cancel (Some q.serial)) replies.Accepted (cancelled_at old q o)
cancel_some links old known core q shown free fine None g =
    let p : IsPresent old q = cancel_present old q fine in
    absurd (none-some p.0 (sym g ∙ p.1))
cancel_some links old known core q shown free fine (Some (Receiving b)) g =
    subst (λ (ss : List (Option TableEntry)). IsMeant links old known core (machine.Cancel (Some q.serial))
    replies.Accepted (record old { slots = ss; queues = queues.after_cancel old.queues q.key }))
    (sym (ap (cancelled_by old.slots q) g)) (cancel_waiting links old known core q b shown free fine g)
cancel_some links old known core q shown free fine (Some (progresses.Collecting w)) g =
    let r : HasRow shown.rows q.serial q.key (progresses.Collecting w) = row_of old.slots shown.rows q.serial q.key (progresses.Collecting w) shown.table g in
    cancel_still links old known core q r.job shown free fine r.there (collecting_stays w r.job r.fits)
cancel_some links old known core q shown free fine (Some progresses.Offering) g =
    let r : HasRow shown.rows q.serial q.key progresses.Offering = row_of old.slots shown.rows q.serial q.key progresses.Offering shown.table g in
    cancel_still links old known core q r.job shown free fine r.there (offering_stays r.job r.fits)
cancel_some links old known core q shown free fine (Some (progresses.TakenOut t)) g =
    let r : HasRow shown.rows q.serial q.key (progresses.TakenOut t) = row_of old.slots shown.rows q.serial q.key (progresses.TakenOut t) shown.table g in
    cancel_still links old known core q r.job shown free fine r.there (taken_stays t r.job r.fits)
cancel_some links old known core q shown free fine (Some (Finished o)) g =
    cancel_still links old known core q (Over (outcome_seen o)) shown free fine
    (finished_row old.slots shown.rows q o shown.table g) refl

-- a cancel that breaks no rule
pub cancel_meant : (links : Announcements) (old new : CoreState) (known : List ℕ) (core : Core) (q : Option Request)
    (reply : CoreReply) → IsShown links old known core → old.blocked ≡ None → cancel_fault old q ≡ None →
    Cancels old q reply new →
    IsMeant links old known core (machine.Cancel (request_by own_serial q)) reply new
cancel_meant links old new known core None reply shown free fine cancels = absurd cc
cancel_meant links old new known core (Some q) reply shown free fine cancels =
    subst (λ (x : CoreReply). IsMeant links old known core (machine.Cancel (Some q.serial)) x new) (sym cancels.0)
    (subst (λ (x : CoreState). IsMeant links old known core (machine.Cancel (Some q.serial)) replies.Accepted x)
    (sym cancels.1)
    (cancel_some links old known core q shown free fine (progress_at old.slots q.key q.serial) refl))
