-- Rows of which one changes, and rows with one more: those with jobs of a kind stay, and so does what is under way at a
-- rank.
use Rattle.std.proofs.Common.{◌≡◌, ◌≢◌, ℕ, zero, suc, List, [], ◌∷◌, ◌++◌, Some, slice_get, slice_set, sym, ap, ◌∙◌}
use Rattle.std.proofs.Common.{subst, arith, ◌⊎◌, inl, inr}
use Rattle.std.specs.List.{AllByRecursion}
use Rattle.std.proofs.lemmas.Bool.{cases_eq}
use Rattle.std.proofs.lemmas.Option.{none-some, same_Some}
use Rattle.vocabulary.specs.declared.endpoint.Endpoint.{Endpoint}
use Rattle.incarnation.specs.declared.place.Place.{Place}
use Rattle.match_queues.specs.declared.envelope.Body.{Body}
use Rattle.match_queues.specs.declared.envelope.Body.TheVariants as bodies
use Rattle.match_queues.specs.declared.envelope.Message.{Message}
use Rattle.match_queues.specs.declared.envelope.PostedReceive as posted
use Rattle.rendezvous.specs.declared.offer.Offer.{Offer}
use Rattle.rendezvous.specs.Collections as rendezvous
use Rattle.rendezvous.specs.State as transfers
use Rattle.perfect_queues.proofs.ListLemmas.{get_set_other}
use Rattle.proof_pure_network.proofs.JobLemmas.{get_set_same}
use Rattle.proof_pure_network.specs.Jobs.{Closed, Collecting, Job, Offering, Over, Probed, Unmatched, Waiting}
use Rattle.proof_engine_view.specs.Frames.{endpoint_of}
use Rattle.proof_engine_view.specs.Rows.{Row, posted_job, posted_rows}
use Rattle.proof_engine_view.specs.Transfers.{Announcements, Transfer}
use Rattle.proof_engine_view.specs.UnderWay.{AreUnderWay, IsCollectionOf, IsFromLink, IsOfferOf}
use Rattle.proof_engine_steps.proofs.NamedRequests.{all_follow}

-- a row by its parts
abbrev pub row_of : ℕ → Job → Row
row_of key job = record { key = key; job = job }

-- ---- JOBS

-- its message goes in pieces
abbrev pub IsLarge : Job → Type 0
IsLarge (Waiting p) = ⊥
IsLarge (Collecting p h got) = Unit {0}
IsLarge (Offering d basic values) = Unit {0}
IsLarge (Over x) = ⊥
IsLarge Closed = ⊥
IsLarge (Unmatched d) = ⊥
IsLarge (Probed g h) = ⊥

-- it is a send to the rank itself that waits for its match
abbrev pub IsUnmatched : Job → Type 0
IsUnmatched (Waiting p) = ⊥
IsUnmatched (Collecting p h got) = ⊥
IsUnmatched (Offering d basic values) = ⊥
IsUnmatched (Over x) = ⊥
IsUnmatched Closed = ⊥
IsUnmatched (Unmatched d) = Unit {0}
IsUnmatched (Probed g h) = ⊥

-- it is a message that was taken out
abbrev pub IsProbed : Job → Type 0
IsProbed (Waiting p) = ⊥
IsProbed (Collecting p h got) = ⊥
IsProbed (Offering d basic values) = ⊥
IsProbed (Over x) = ⊥
IsProbed Closed = ⊥
IsProbed (Unmatched d) = ⊥
IsProbed (Probed g h) = Unit {0}

-- ---- ROWS WITH SUCH A JOB

-- each of these rows stays
abbrev pub Forth : (P : Job → Type 0) → (rows rows' : List Row) → Type 0
Forth P rows rows' = (n y : ℕ) (j : Job) → P j → slice_get rows n ≡ Some (row_of y j) →
    slice_get rows' n ≡ Some (row_of y j)

-- one row is changed that isn't such a one
pub forth_set : (P : Job → Type 0) (rows : List Row) (k key : ℕ) (job job' : Job) →
    slice_get rows k ≡ Some (row_of key job) → (P job → ⊥) → Forth P rows (slice_set rows k (row_of key job'))
forth_set P rows k key job job' at none n y j i h = go (cases_eq n k)
  where
    go : (n ≡ k) ⊎ (n ≢ k) → slice_get (slice_set rows k (row_of key job')) n ≡ Some (row_of y j)
    go (inl e) =
        let r : row_of key job ≡ row_of y j = same_Some (row_of key job) (row_of y j) (sym at ∙ (ap (slice_get rows) (sym e) ∙ h)) in
        absurd (none (subst P (sym (ap (λ (x : Row). x.job) r)) i))
    go (inr ne) = get_set_other rows k n (row_of key job') (λ e. ne (sym e)) ∙ h

-- and becomes none
pub back_set : (P : Job → Type 0) (rows : List Row) (k key : ℕ) (job job' : Job) →
    slice_get rows k ≡ Some (row_of key job) → (P job' → ⊥) → Forth P (slice_set rows k (row_of key job')) rows
back_set P rows k key job job' at none n y j i h = go (cases_eq n k)
  where
    new : Row
    new = row_of key job'

    go : (n ≡ k) ⊎ (n ≢ k) → slice_get rows n ≡ Some (row_of y j)
    go (inl e) =
        let r : new ≡ row_of y j = same_Some new (row_of y j) (sym (get_set_same rows k (row_of key job) new at) ∙ (ap (slice_get (slice_set rows k new)) (sym e) ∙ h)) in
        absurd (none (subst P (sym (ap (λ (x : Row). x.job) r)) i))
    go (inr ne) = sym (get_set_other rows k n new (λ e. ne (sym e))) ∙ h

-- what stands among the rows with one more behind them
first_at : (rows : List Row) (r : Row) (k : ℕ) (x : Row) → slice_get rows k ≡ Some x → slice_get (rows ++ r ∷ []) k ≡
    Some x
first_at [] r k x h = absurd (none-some x h)
first_at (y ∷ ys) r zero x h = h
first_at (y ∷ ys) r (suc k) x h = first_at ys r k x h

pub last_at : (rows : List Row) (r : Row) (k : ℕ) (x : Row) → slice_get (rows ++ r ∷ []) k ≡ Some x →
    (slice_get rows k ≡ Some x) ⊎ (r ≡ x)
last_at [] r zero x h = inr (same_Some r x h)
last_at [] r (suc k) x h = absurd (grind arith)
last_at (y ∷ ys) r zero x h = inl h
last_at (y ∷ ys) r (suc k) x h = last_at ys r k x h

-- one more row
pub forth_pushed : (P : Job → Type 0) (rows : List Row) (r : Row) → Forth P rows (rows ++ r ∷ [])
forth_pushed P rows r n y j i h = first_at rows r n (row_of y j) h

-- which isn't such a one
pub back_pushed : (P : Job → Type 0) (rows : List Row) (key : ℕ) (job : Job) →
    (P job → ⊥) → Forth P (rows ++ row_of key job ∷ []) rows
back_pushed P rows key job none n y j i h = go (last_at rows (row_of key job) n (row_of y j) h)
  where
    go : (slice_get rows n ≡ Some (row_of y j)) ⊎ (row_of key job ≡ row_of y j) → slice_get rows n ≡ Some (row_of y j)
    go (inl e) = e
    go (inr e) = absurd (none (subst P (sym (ap (λ (x : Row). x.job) e)) i))

-- ---- WHAT THEY POST

-- a row that posts no receive becomes one that posts none
pub posted_still : (rows : List Row) (k key : ℕ) (job job' : Job) → slice_get rows k ≡ Some (row_of key job) →
    posted_job key job ≡ [] → posted_job key job' ≡ [] →
    posted_rows rows ≡ posted_rows (slice_set rows k (row_of key job'))
posted_still [] k key job job' at old new = absurd (none-some (row_of key job) at)
posted_still (r ∷ rs) zero key job job' at old new =
    ap (λ (x : Row). posted_job x.key x.job ++ posted_rows rs) (same_Some r (row_of key job) at) ∙
    ap (λ (ps : List posted.PostedReceive). ps ++ posted_rows rs) (old ∙ sym new)
posted_still (r ∷ rs) (suc k) key job job' at old new =
    ap (λ (ps : List posted.PostedReceive). posted_job r.key r.job ++ ps) (posted_still rs k key job job' at old new)

-- ---- MESSAGES

-- a message goes on to be from its link, or of its own send
pub from_forth : (from : Endpoint → List Transfer) (known : List ℕ) (p : Place) (rows rows' : List Row) (m : Message)
    (b : Body) → Forth IsUnmatched rows rows' → IsFromLink from known p rows m b →
    IsFromLink from known p rows' m b
from_forth from known p rows rows' m (bodies.Whole c) forth i = tt
from_forth from known p rows rows' m (bodies.Own o) forth i =
    record { sender = i.sender; row = forth o.serial o.key (Unmatched p.endpoint) tt i.row }
from_forth from known p rows rows' m (bodies.Announced a) forth i = i

-- so do all
pub messages_forth : (from : Endpoint → List Transfer) (known : List ℕ) (p : Place) (rows rows' : List Row)
    (ms : List Message) → Forth IsUnmatched rows rows' →
    AllByRecursion (λ (m : Message). IsFromLink from known p rows m m.body) ms →
    AllByRecursion (λ (m : Message). IsFromLink from known p rows' m m.body) ms
messages_forth from known p rows rows' ms forth all =
    all_follow (λ (m : Message). IsFromLink from known p rows m m.body)
    (λ (m : Message). IsFromLink from known p rows' m m.body)
    (λ m i. from_forth from known p rows rows' m m.body forth i) ms all

-- ---- WHAT IS UNDER WAY

-- the same is under way where both have the same large messages, whatever else the rows have
pub under_way_rows : (a : Announcements) (known : List ℕ) (p : Place) (rows rows' : List Row) (t : transfers.State)
    (ms ms' : List Message) → AreUnderWay a known p rows t ms → Forth IsLarge rows rows' → Forth IsLarge rows' rows →
    ((k key : ℕ) (d : Endpoint) → slice_get rows' k ≡ Some (row_of key (Unmatched d)) → d ≡ p.endpoint) →
    AllByRecursion (λ (m : Message). IsFromLink a.from known p rows' m m.body) ms' →
    AreUnderWay a known p rows' t ms'
under_way_rows a known p rows rows' t ms ms' u forth back unmatched from =
    record {
      numbered = u.numbered;
      offers = all_follow (IsOfferOf a.to known rows) (IsOfferOf a.to known rows') offer t.offers u.offers;
      offered = λ k key d basic values h. u.offered k key d basic values (back k key (Offering d basic values) tt h);
      offers_apart = u.offers_apart;
      collections =
          all_follow (IsCollectionOf a.from known rows) (IsCollectionOf a.from known rows') collection t.collections
          u.collections;
      collected = λ k key r h got x. u.collected k key r h got (back k key (Collecting r h got) tt x);
      collections_apart = u.collections_apart;
      unmatched = unmatched;
      messages = from;
    }
  where
    offer : (o : Offer) → IsOfferOf a.to known rows o → IsOfferOf a.to known rows' o
    offer o i = record {
      serial = i.serial;
      row = forth i.serial o.request (Offering (endpoint_of known o.target) o.elements.basic o.elements.values) tt
          i.row;
      announced = i.announced;
      within = i.within;
      limit = i.limit;
    }

    collection : (c : rendezvous.Collecting) → IsCollectionOf a.from known rows c → IsCollectionOf a.from known rows' c
    collection c i = record {
      serial = i.serial;
      receive = i.receive;
      message = i.message;
      got = i.got;
      row = forth i.serial c.request (Collecting i.receive i.message i.got) tt i.row;
      sender = i.sender;
      transfer = i.transfer;
      announced = i.announced;
      body = i.body;
      basic = i.basic;
      basic_is = i.basic_is;
      total = i.total;
      bytes = i.bytes;
      within = i.within;
    }
