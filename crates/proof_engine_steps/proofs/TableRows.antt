-- The rows of requests that the table holds.
use Rattle.std.proofs.Common.{◌≡◌, ℕ, true, List, Option, Some, None, is_some, ◌==◌, slice_get, refl, sym, ap, ◌∙◌}
use Rattle.std.proofs.Common.{subst, ◌⊎◌, inl, inr}
use Rattle.std.proofs.lemmas.Bool.{eqb-true}
use Rattle.std.proofs.lemmas.Option.{cond_some, none-some}
use Rattle.vocabulary.specs.declared.basic_type.BasicType.{BasicType}
use Rattle.vocabulary.specs.declared.endpoint.Endpoint.{Endpoint}
use Rattle.perfect_queues.specs.Receives as receives
use Rattle.proof_pure_network.specs.WaitingMessages.{Held}
use Rattle.proof_pure_network.specs.Jobs.{Job, Waiting, Collecting, Offering, Over, Closed, Probed, Unmatched}
use Rattle.requests.specs.Table.{progress_at, progress_of, slot_at}
use Rattle.requests.specs.declared.outcome.Outcome.{Outcome}
use Rattle.requests.specs.declared.table.Posted.{Posted}
use Rattle.requests.specs.declared.table.TableEntry.{TableEntry}
use Rattle.requests.specs.declared.table.Matched.{Matched}
use Rattle.requests.specs.declared.table.TakenOut as table
use Rattle.requests.specs.declared.table.RequestProgress.{RequestProgress}
use Rattle.requests.specs.declared.table.RequestProgress.TheVariants.{Receiving, Finished}
use Rattle.requests.specs.declared.table.RequestProgress.TheVariants as progresses
use Rattle.requests.specs.declared.table.Request.{Request}
use Rattle.proof_engine_view.specs.Rows.{Fits, IsMatched, IsRow, IsTable, Row}
use Rattle.observation.specs.CoreCalls.{outcome_seen}
use Rattle.proof_engine_view.specs.CoreViews.{IsNamed}

-- the row of a request that stands in the table
pub record HasRow (rows : List Row) (k key : ℕ) (g : RequestProgress) : Type 0 where
  pub job : Job
  pub there : slice_get rows k ≡ Some (record { key = key; job = job })
  pub fits : Fits g job

-- the row of an entry with this serial
row_found : (rows : List Row) (k key : ℕ) (g : RequestProgress) (t : TableEntry) → IsRow rows key t → t.serial ≡ k →
    t.progress ≡ g → HasRow rows k key g
row_found rows k key g t r s p =
    record {
      job = r.row.job;
      there = sym (ap (slice_get rows) s) ∙
          (r.there ∙ ap (λ (x : ℕ). Some (record { key = x; job = r.row.job })) r.key_is);
      fits = subst (λ (x : RequestProgress). Fits x r.row.job) p r.fits;
    }

-- a request whose progress the table tells has a row
pub row_of : (table : List (Option TableEntry)) (rows : List Row) (k key : ℕ) (g : RequestProgress) →
    IsTable table rows → progress_at table key k ≡ Some g → HasRow rows k key g
row_of table rows k key g t h = go (slot_at table key) refl h
  where
    go : (s : Option TableEntry) → slot_at table key ≡ s → progress_of s k ≡ Some g → HasRow rows k key g
    go None e p = absurd (none-some g p)
    go (Some x) e p =
        let c : ((x.serial == k) ≡ true) × (x.progress ≡ g) = cond_some (x.serial == k) x.progress g p in
        row_found rows k key g x (t.entries key x e) (eqb-true x.serial k c.0) c.1

-- a request that is received waits
pub waiting_of : (b : Posted) (j : Job) → Fits (Receiving b) j → (p : receives.Receive) × (j ≡ Waiting p)
waiting_of b (Waiting p) f = (p, refl)
waiting_of b (Collecting p h got) f = absurd f
waiting_of b (Offering d basic values) f = absurd f
waiting_of b (Over x) f = absurd f
waiting_of b Closed f = absurd f
waiting_of b (Unmatched d) f = absurd f
waiting_of b (Probed g h) f = absurd f

-- a request that is finished is over
pub over_of : (o : Outcome) (j : Job) → Fits (Finished o) j → j ≡ Over (outcome_seen o)
over_of o (Waiting p) f = absurd f
over_of o (Collecting p h got) f = absurd f
over_of o (Offering d basic values) f = absurd f
over_of o (Over x) f = ap Over f
over_of o Closed f = absurd f
over_of o (Unmatched d) f = absurd f
over_of o (Probed g h) f = absurd f

-- the request is a receive that collects, for this match
pub record CollectsFor (w : Matched) (j : Job) : Type 0 where
  pub receive : receives.Receive
  pub message : Held
  pub got : List ℕ
  pub is : j ≡ Collecting receive message got
  pub alike : IsMatched w receive message

-- a request that is collected is one
pub collecting_of : (w : Matched) (j : Job) → Fits (progresses.Collecting w) j → CollectsFor w j
collecting_of w (Waiting p) f = absurd f
collecting_of w (Collecting p h got) f = record { receive = p; message = h; got = got; is = refl; alike = f }
collecting_of w (Offering d basic values) f = absurd f
collecting_of w (Over x) f = absurd f
collecting_of w Closed f = absurd f
collecting_of w (Unmatched d) f = absurd f
collecting_of w (Probed g h) f = absurd f

-- the request is a send that offers its values
pub record OffersValues (j : Job) : Type 0 where
  pub target : Endpoint
  pub basic : BasicType
  pub values : List ℕ
  pub is : j ≡ Offering target basic values

-- or one to the rank itself that waits for its match
pub record WaitsForMatch (j : Job) : Type 0 where
  pub target : Endpoint
  pub is : j ≡ Unmatched target

-- a request that is offered is one of both
pub offering_of : (j : Job) → Fits progresses.Offering j → OffersValues j ⊎ WaitsForMatch j
offering_of (Waiting p) f = absurd f
offering_of (Collecting p h got) f = absurd f
offering_of (Offering d basic values) f = inl (record { target = d; basic = basic; values = values; is = refl })
offering_of (Over x) f = absurd f
offering_of Closed f = absurd f
offering_of (Unmatched d) f = inr (record { target = d; is = refl })
offering_of (Probed g h) f = absurd f

-- the request is a message that was taken out
pub record HoldsMessage (t : table.TakenOut) (j : Job) : Type 0 where
  pub message : Option Held
  pub is : j ≡ Probed t.group message
  pub there : is_some message ≡ is_some t.message

-- a message in the table is one
pub probed_of : (t : table.TakenOut) (j : Job) → Fits (progresses.TakenOut t) j → HoldsMessage t j
probed_of t (Waiting p) f = absurd f
probed_of t (Collecting p h got) f = absurd f
probed_of t (Offering d basic values) f = absurd f
probed_of t (Over x) f = absurd f
probed_of t Closed f = absurd f
probed_of t (Unmatched d) f = absurd f
probed_of t (Probed g h) f =
    record { message = h; is = ap (λ (x : Option (List ℕ)). Probed x h) f.group_is; there = f.there }

-- one that stands in the table isn't closed
pub open_of : (g : RequestProgress) → Fits g Closed → ⊥
open_of (Receiving b) f = f
open_of (progresses.Collecting w) f = f
open_of progresses.Offering f = f
open_of (progresses.TakenOut t) f = f
open_of (Finished o) f = f

-- a request whose progress the table tells is named by an unanswered row
pub named_of : (table : List (Option TableEntry)) (rows : List Row) (q : Request) (g : RequestProgress) →
    IsTable table rows → progress_at table q.key q.serial ≡ Some g → IsNamed rows q
named_of table rows q g t h =
    let r : HasRow rows q.serial q.key g = row_of table rows q.serial q.key g t h in
    record {
      row = record { key = q.key; job = r.job };
      there = r.there;
      key_is = refl;
      unanswered = λ e. open_of g (subst (λ (j : Job). Fits g j) e r.fits);
    }

-- the row of a request that is finished
pub finished_row : (table : List (Option TableEntry)) (rows : List Row) (q : Request) (o : Outcome) →
    IsTable table rows → progress_at table q.key q.serial ≡ Some (Finished o) →
    slice_get rows q.serial ≡ Some (record { key = q.key; job = Over (outcome_seen o) })
finished_row table rows q o t h =
    let r : HasRow rows q.serial q.key (Finished o) = row_of table rows q.serial q.key (Finished o) t h in
    r.there ∙ ap (λ (j : Job). Some (record { key = q.key; job = j })) (over_of o r.job r.fits)
