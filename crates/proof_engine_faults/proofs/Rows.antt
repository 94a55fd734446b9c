-- Such a table is shown by a core of the network that holds its requests by their serials and nothing else.
use Rattle.std.proofs.Common.{◌≡◌, ℕ, zero, suc, ◌+◌, ◌<◌, ◌≤◌, Bool, true, false, List, [], ◌∷◌, ◌++◌, length, map}
use Rattle.std.proofs.Common.{replicate, Option, Some, None, option_map, if◌then◌else◌, ◌==◌, slice_get, refl, sym, ap}
use Rattle.std.proofs.Common.{ap₂, ◌∙◌, subst, arith, inl, inr}
use Rattle.std.proofs.lemmas.Bool.{cases_lt, eq-eqb, eqb-true}
use Rattle.std.proofs.lemmas.List.{length-replicate}
use Rattle.std.proofs.lemmas.Option.{same_Some, slice_get-map}
use Rattle.incarnation.specs.declared.place.Place.{Place}
use Rattle.match_queues.specs.declared.envelope.PostedReceive as posted
use Rattle.perfect_queues.specs.Refusals.{standing}
use Rattle.proof_engine_faults.proofs.Calm.{calm, calm_at, calm_entry, calm_progress}
use Rattle.proof_engine_faults.specs.Own.{found, standing_of}
use Rattle.proof_engine_view.specs.Rows.{Fits, Holds, IsRow, IsTable, Row, Stands, jobs_of, posted_job, posted_rows}
use Rattle.observation.specs.CoreCalls.{outcome_seen}
use Rattle.proof_engine_view.specs.CoreViews.{IsShown}
use Rattle.proof_engine_view.specs.Transfers.{Announcements, Transfer}
use Rattle.proof_engine_view.specs.UnderWay.{AreTaken, AreUnderWay, IsNumbered, IsTakenAt, IsTakenBy}
use Rattle.proof_pure_network.specs.Core.{Core}
use Rattle.proof_pure_network.specs.WaitingMessages.{blank}
use Rattle.proof_pure_network.specs.Jobs.{Closed, Collecting, Job, Offering, Over, Probed, Unmatched, Waiting}
use Rattle.proof_pure_network.specs.Jobs.{request_of}
use Rattle.point_to_point.specs.CoreState.{CoreState}
use Rattle.rendezvous.specs.State.{fresh, most_transfers, next_to}
use Rattle.requests.specs.Table.{slot_at}
use Rattle.requests.specs.declared.outcome.Outcome.TheVariants as outcomes
use Rattle.requests.specs.declared.table.TableEntry.{TableEntry}
use Rattle.requests.specs.declared.table.RequestProgress.{RequestProgress}
use Rattle.requests.specs.declared.table.RequestProgress.TheVariants as progresses
use Rattle.std.specs.Prelude.{slice_index}
use Rattle.vocabulary.specs.declared.endpoint.Endpoint.{Endpoint}

-- ---- a request by its serial

-- the entry with a serial, with its key
abbrev pub find : List (Option TableEntry) → (first serial : ℕ) → Option (ℕ × TableEntry)
find [] i serial = None
find (None ∷ slots) i serial = find slots (suc i) serial
find (Some t ∷ slots) i serial = if t.serial == serial then Some (i, t) else find slots (suc i) serial

-- where it is
record IsFound (slots : List (Option TableEntry)) (i serial key : ℕ) (t : TableEntry) : Type 0 where
  pub place : ℕ
  pub key_is : key ≡ i + place
  pub there : slot_at slots place ≡ Some t
  pub serial_is : t.serial ≡ serial

found_later : (x : Option TableEntry) (slots : List (Option TableEntry)) (i serial key : ℕ) (t : TableEntry) →
    IsFound slots (suc i) serial key t → IsFound (x ∷ slots) i serial key t
found_later x slots i serial key t f =
    let k : key ≡ suc i + f.place = f.key_is in record {
      place = suc f.place;
      key_is = omega (arith, k);
      there =
          f.there;
      serial_is = f.serial_is;
    }

zero_more : (i : ℕ) → i ≡ i + 0
zero_more i = omega arith

is_found : (slots : List (Option TableEntry)) (i serial key : ℕ) (t : TableEntry) →
    find slots i serial ≡ Some (key, t) → IsFound slots i serial key t
is_found [] i serial key t h = absurd cc
is_found (None ∷ slots) i serial key t h = found_later None slots i serial key t (is_found slots (suc i) serial key t h)
is_found (Some u ∷ slots) i serial key t h = go (u.serial == serial) refl h (λ g. is_found slots (suc i) serial key t g)
  where
    go : (b : Bool) → (u.serial == serial) ≡ b → (if b then Some (i, u) else find slots (suc i) serial) ≡
        Some (key, t) → (find slots (suc i) serial ≡ Some (key, t) → IsFound slots (suc i) serial key t) →
        IsFound (Some u ∷ slots) i serial key t
    go true is g next =
        let same : (i, u) ≡ (key, t) = same_Some (i, u) (key, t) g in
        let k : i ≡ key = ap (λ (x : ℕ × TableEntry). x.0) same in
        let e : u ≡ t = ap (λ (x : ℕ × TableEntry). x.1) same in
        record {
          place = 0;
          key_is = sym k ∙ zero_more i;
          there = ap (λ (x : TableEntry). Some x) e;
          serial_is =
              ap (λ (x : TableEntry). x.serial) (sym e) ∙ eqb-true u.serial serial is;
        }
    go false is g next = found_later (Some u) slots i serial key t (next g)

-- what isn't found is nowhere
is_nowhere : (slots : List (Option TableEntry)) (i serial : ℕ) → find slots i serial ≡ None →
    (place : ℕ) (t : TableEntry) → slot_at slots place ≡ Some t → t.serial ≡ serial → ⊥
is_nowhere [] i serial h place t there is = absurd cc
is_nowhere (None ∷ slots) i serial h zero t there is = absurd cc
is_nowhere (None ∷ slots) i serial h (suc place) t there is = is_nowhere slots (suc i) serial h place t there is
is_nowhere (Some u ∷ slots) i serial h place t there is =
    go (u.serial == serial) refl h (λ g k. is_nowhere slots (suc i) serial g k t) place there
  where
    go : (b : Bool) → (u.serial == serial) ≡ b → (if b then Some (i, u) else find slots (suc i) serial) ≡ None →
        (find slots (suc i) serial ≡ None → (k : ℕ) → slot_at slots k ≡ Some t → t.serial ≡ serial → ⊥) →
        (k : ℕ) → slot_at (Some u ∷ slots) k ≡ Some t → ⊥
    go true e g next k at = absurd cc
    go false e g next zero at =
        let same : u ≡ t = same_Some u t at in
        let s : u.serial ≡ serial = ap (λ (x : TableEntry). x.serial) same ∙ is in
        absurd (let z : (u.serial == serial) ≡ true = eq-eqb u.serial serial s in let w : false ≡ true = sym e ∙ z in
        cc)
    go false e g next (suc k) at = next g k at is

-- how far it is
found_is : (slots : List (Option TableEntry)) (i serial : ℕ) →
    found slots serial ≡ option_map (λ (x : ℕ × TableEntry). x.1.progress) (find slots i serial)
found_is [] i serial = refl
found_is (None ∷ slots) i serial = found_is slots (suc i) serial
found_is (Some u ∷ slots) i serial = go (u.serial == serial) (found_is slots (suc i) serial)
  where
    go : (b : Bool) →
        found slots serial ≡ option_map (λ (x : ℕ × TableEntry). x.1.progress) (find slots (suc i) serial) →
        (if b then Some u.progress else found slots serial) ≡
        option_map (λ (x : ℕ × TableEntry). x.1.progress) (if b then Some (i, u) else find slots (suc i) serial)
    go true h = refl
    go false h = h

-- ---- its row

abbrev pub job_of : RequestProgress → Job
job_of (progresses.Receiving w) = Over (outcome_seen outcomes.Empty)
job_of (progresses.Collecting w) = Over (outcome_seen outcomes.Empty)
job_of progresses.Offering = Over (outcome_seen outcomes.Sent)
job_of (progresses.TakenOut t) = Probed None None
job_of (progresses.Finished o) = Over (outcome_seen o)

abbrev pub row_of : Option (ℕ × TableEntry) → Row
row_of None = record { key = 0; job = Closed }
row_of (Some (key, t)) = record { key = key; job = job_of t.progress }

-- the rows of so many serials from this one on
abbrev pub rows_from : List (Option TableEntry) → (first count : ℕ) → List Row
rows_from slots a zero = []
rows_from slots a (suc n) = row_of (find slots 0 a) ∷ rows_from slots (suc a) n

rows_count : (slots : List (Option TableEntry)) (a n : ℕ) → length (rows_from slots a n) ≡ n
rows_count slots a zero = refl
rows_count slots a (suc n) = ap suc (rows_count slots (suc a) n)

row_at : (slots : List (Option TableEntry)) (a n k : ℕ) → k < n → slice_get (rows_from slots a n) k ≡
    Some (row_of (find slots 0 (a + k)))
row_at slots a zero k lt = absurd (omega (arith, lt))
row_at slots a (suc n) zero lt = ap (λ (x : ℕ). Some (row_of (find slots 0 x))) (omega arith)
row_at slots a (suc n) (suc k) lt = row_at slots (suc a) n k (omega (arith, lt)) ∙
    ap (λ (x : ℕ). Some (row_of (find slots 0 x))) (omega arith)

no_row : (slots : List (Option TableEntry)) (a n k : ℕ) → n ≤ k → slice_get (rows_from slots a n) k ≡ None
no_row slots a zero k le = refl
no_row slots a (suc n) zero le = absurd (omega (arith, le))
no_row slots a (suc n) (suc k) le = no_row slots (suc a) n k (omega (arith, le))

-- the row of a serial, if there is one
record HasRow (slots : List (Option TableEntry)) (k : ℕ) (r : Row) : Type 0 where
  pub is : r ≡ row_of (find slots 0 k)

has_row : (slots : List (Option TableEntry)) (n k : ℕ) (r : Row) → slice_get (rows_from slots 0 n) k ≡ Some r →
    HasRow slots k r
has_row slots n k r h = elim (cases_lt k n) [
  | inl lt ↦ record {
    is =
        same_Some r (row_of (find slots 0 k)) (sym h ∙ row_at slots 0 n k lt ∙
        ap (λ (x : ℕ). Some (row_of (find slots 0 x))) (omega arith));
  }
  | inr le ↦ absurd
      (let none : slice_get (rows_from slots 0 n) k ≡ None = no_row slots 0 n k le in
      let c : Some r ≡ None = sym h ∙ none in cc)
]

-- ---- the table

-- what is asked of a table: its serials are below the next, and each stands once
pub record IsOrdered (slots : List (Option TableEntry)) (next : ℕ) : Type 0 where
  pub below : (key : ℕ) (t : TableEntry) → slot_at slots key ≡ Some t → t.serial < next
  pub apart : (key other : ℕ) (t u : TableEntry) → slot_at slots key ≡ Some t → slot_at slots other ≡ Some u →
      t.serial ≡ u.serial → key ≡ other

fits_calm : (p : RequestProgress) → Fits (calm_progress p) (job_of p)
fits_calm (progresses.Receiving w) = refl
fits_calm (progresses.Collecting w) = refl
fits_calm progresses.Offering = refl
fits_calm (progresses.TakenOut t) = record { group_is = refl; there = refl }
fits_calm (progresses.Finished o) = refl

stands_calm : (slot : Option TableEntry) (k : ℕ) (p : RequestProgress) → Holds slot k (job_of p) →
    Stands slot k (job_of p)
stands_calm slot k (progresses.Receiving w) h = h
stands_calm slot k (progresses.Collecting w) h = h
stands_calm slot k progresses.Offering h = h
stands_calm slot k (progresses.TakenOut t) h = h
stands_calm slot k (progresses.Finished o) h = h

stands_at : (slots : List (Option TableEntry)) (k : ℕ) (o : Option (ℕ × TableEntry)) → find slots 0 k ≡ o →
    Stands (slot_at (calm slots) (row_of o).key) k (row_of o).job
stands_at slots k None h = tt
stands_at slots k (Some (key, t)) h =
    let f : IsFound slots 0 k key t = is_found slots 0 k key t h in
    let key_is : f.place ≡ key = let e : key ≡ 0 + f.place = f.key_is in omega (arith, e) in
    stands_calm (slot_at (calm slots) key) k t.progress
    (record {
      entry = calm_entry t;
      there = calm_at slots key ∙ ap (option_map calm_entry) (ap (slot_at slots) (sym key_is) ∙ f.there);
      serial_is = f.serial_is;
      fits = fits_calm t.progress;
    })

-- an entry's row is that of its serial
found_there : (slots : List (Option TableEntry)) (next key : ℕ) (t : TableEntry) → IsOrdered slots next →
    slot_at slots key ≡ Some t → find slots 0 t.serial ≡ Some (key, t)
found_there slots next key t o there = go (find slots 0 t.serial) refl
  where
    go : (r : Option (ℕ × TableEntry)) → find slots 0 t.serial ≡ r → find slots 0 t.serial ≡ Some (key, t)
    go None h = absurd (is_nowhere slots 0 t.serial h key t there refl)
    go (Some (k, u)) h =
        let f : IsFound slots 0 t.serial k u = is_found slots 0 t.serial k u h in
        let at : key ≡ f.place = o.apart key f.place t u there f.there (sym f.serial_is) in
        let key_is : k ≡ key = let e : k ≡ 0 + f.place = f.key_is in omega (arith, e, at) in
        let entry_is : u ≡ t = same_Some u t (sym f.there ∙ ap (slot_at slots) (sym at) ∙ there) in
        h ∙ ap₂ (λ (x : ℕ) (y : TableEntry). Some (x, y)) key_is entry_is

is_row : (slots : List (Option TableEntry)) (next key : ℕ) (t : TableEntry) → IsOrdered slots next →
    slot_at slots key ≡ Some t → IsRow (rows_from slots 0 next) key (calm_entry t)
is_row slots next key t o there = record {
  row = record { key = key; job = job_of t.progress };
  there = row_at slots 0 next t.serial (o.below key t there) ∙
      ap (λ (x : ℕ). Some (row_of (find slots 0 x))) (omega arith) ∙
      ap (λ (r : Option (ℕ × TableEntry)). Some (row_of r)) (found_there slots next key t o there);
  key_is = refl;
  fits = fits_calm t.progress;
}

table_calm : (slots : List (Option TableEntry)) (next : ℕ) → IsOrdered slots next →
    IsTable (calm slots) (rows_from slots 0 next)
table_calm slots next o = record {
  stands = λ k r is.
      let h : HasRow slots k r = has_row slots next k r is in
      subst (λ (x : Row). Stands (slot_at (calm slots) x.key) k x.job) (sym h.is)
      (stands_at slots k (find slots 0 k) refl);
  entries = λ key t is. go key t (slot_at slots key) refl (sym (calm_at slots key) ∙ is);
}
  where
    go : (key : ℕ) (t : TableEntry) (x : Option TableEntry) → slot_at slots key ≡ x → option_map calm_entry x ≡ Some t →
        IsRow (rows_from slots 0 next) key t
    go key t None there is = absurd cc
    go key t (Some u) there is =
        subst (λ (y : TableEntry). IsRow (rows_from slots 0 next) key y) (same_Some (calm_entry u) t is)
        (is_row slots next key u o there)

-- ---- nothing is under way

none_posted : (key : ℕ) (p : RequestProgress) (rest : List posted.PostedReceive) → posted_job key (job_of p) ++ rest ≡
    rest
none_posted key (progresses.Receiving w) rest = refl
none_posted key (progresses.Collecting w) rest = refl
none_posted key progresses.Offering rest = refl
none_posted key (progresses.TakenOut t) rest = refl
none_posted key (progresses.Finished o) rest = refl

posted_one : (o : Option (ℕ × TableEntry)) (rest : List posted.PostedReceive) →
    posted_job (row_of o).key (row_of o).job ++ rest ≡ rest
posted_one None rest = refl
posted_one (Some (key, t)) rest = none_posted key t.progress rest

posted_none : (slots : List (Option TableEntry)) (a n : ℕ) → posted_rows (rows_from slots a n) ≡ []
posted_none slots a zero = refl
posted_none slots a (suc n) = posted_one (find slots 0 a) (posted_rows (rows_from slots (suc a) n)) ∙
    posted_none slots (suc a) n

-- whether a job is none of a message that is under way
abbrev IsCalm : Job → Type 0
IsCalm (Waiting p) = ⊥
IsCalm (Collecting p h got) = ⊥
IsCalm (Offering d basic values) = ⊥
IsCalm (Over o) = Unit {0}
IsCalm Closed = Unit {0}
IsCalm (Unmatched d) = ⊥
IsCalm (Probed g h) = Unit {0}

calm_job : (p : RequestProgress) → IsCalm (job_of p)
calm_job (progresses.Receiving w) = tt
calm_job (progresses.Collecting w) = tt
calm_job progresses.Offering = tt
calm_job (progresses.TakenOut t) = tt
calm_job (progresses.Finished o) = tt

calm_row : (o : Option (ℕ × TableEntry)) → IsCalm (row_of o).job
calm_row None = tt
calm_row (Some (key, t)) = calm_job t.progress

all_calm : (slots : List (Option TableEntry)) (n k : ℕ) (r : Row) → slice_get (rows_from slots 0 n) k ≡ Some r →
    IsCalm r.job
all_calm slots n k r is =
    subst (λ (x : Row). IsCalm x.job) (sym (has_row slots n k r is).is) (calm_row (find slots 0 k))

none_begun : (n rank : ℕ) → next_to (replicate n fresh) rank ≡ 0
none_begun zero rank = refl
none_begun (suc n) zero = refl
none_begun (suc n) (suc rank) = none_begun n rank

-- no link announced anything
abbrev pub nothing : Announcements
nothing = record { to = λ d. []; from = λ d. [] }

numbered_none : (p : Place) (known : List ℕ) → IsNumbered nothing.to known p (replicate p.size fresh)
numbered_none p known = record {
  width = length-replicate p.size fresh;
  begun = λ rank there apart. none_begun p.size rank;
  most = λ rank. subst (λ (n : ℕ). n ≤ most_transfers) (sym (none_begun p.size rank)) (omega arith);
}

under_way : (p : Place) (known : List ℕ) (slots : List (Option TableEntry)) (n : ℕ) →
    AreUnderWay nothing known p (rows_from slots 0 n)
    (record { numbers = replicate p.size fresh; offers = []; collections = [] }) []
under_way p known slots n = record {
  numbered = numbered_none p known;
  offers = tt;
  offered =
      λ k key d basic values is. absurd (all_calm slots n k (record { key = key; job = Offering d basic values }) is);
  offers_apart = tt;
  collections = tt;
  collected = λ k key r h got is. absurd (all_calm slots n k (record { key = key; job = Collecting r h got }) is);
  collections_apart = tt;
  unmatched = λ k key d is. absurd (all_calm slots n k (record { key = key; job = Unmatched d }) is);
  messages = tt;
}

taken_by : (from : Endpoint → List Transfer) (known : List ℕ) (p : Place) (rows : List Row) (serial : ℕ)
    (x : RequestProgress) → IsTakenBy from known p rows serial (calm_progress x)
taken_by from known p rows serial (progresses.Receiving w) = tt
taken_by from known p rows serial (progresses.Collecting w) = tt
taken_by from known p rows serial progresses.Offering = tt
taken_by from known p rows serial (progresses.TakenOut t) = tt
taken_by from known p rows serial (progresses.Finished o) = tt

none_taken : (from : Endpoint → List Transfer) (known : List ℕ) (p : Place) (rows : List Row)
    (slots : List (Option TableEntry)) → AreTaken from known p rows (calm slots)
none_taken from known p rows slots key =
    subst (λ (x : Option TableEntry). IsTakenAt from known p rows x) (sym (calm_at slots key)) (go (slot_at slots key))
  where
    go : (x : Option TableEntry) → IsTakenAt from known p rows (option_map calm_entry x)
    go None = tt
    go (Some t) = taken_by from known p rows t.serial t.progress

-- ---- the whole

-- a core at this place in which nothing is under way, whose calls may do the same with its requests
abbrev pub calm_core : CoreState → CoreState
calm_core c = record {
  place = c.place;
  queues = record { posted = []; unexpected = [] };
  transfers = record { numbers = replicate c.place.size fresh; offers = []; collections = [] };
  slots = calm c.slots;
  serial = c.serial;
  blocked = None;
  completion = None;
}

-- the core of the network that shows it
abbrev pub core_of : CoreState → List ℕ → Core
core_of c known =
    record {
      jobs = jobs_of (rows_from c.slots 0 c.serial);
      blocked = None;
      known = λ r. slice_index known r;
      held =
          [];
      message_limit = c.place.message_limit;
    }

pub calm_is_shown : (c : CoreState) (known : List ℕ) → IsOrdered c.slots c.serial → length known ≡ c.place.size →
    slice_index known c.place.endpoint.rank ≡ c.place.endpoint.incarnation →
    IsShown nothing (calm_core c) known (core_of c known)
calm_is_shown c known o width itself = record {
  rows = rows_from c.slots 0 c.serial;
  jobs = refl;
  count = rows_count c.slots 0 c.serial;
  table = table_calm c.slots c.serial o;
  posted = sym (posted_none c.slots 0 c.serial);
  held = refl;
  under_way = under_way c.place known c.slots c.serial;
  taken = none_taken nothing.from known c.place (rows_from c.slots 0 c.serial) c.slots;
  blocked = refl;
  limited = refl;
  width = width;
  known_alike = λ r. refl;
  itself = itself;
}

-- ---- what a call may do with a request

standing_job : (p : RequestProgress) → standing (Some (request_of blank (job_of p))) ≡ standing_of (Some p)
standing_job (progresses.Receiving w) = refl
standing_job (progresses.Collecting w) = refl
standing_job progresses.Offering = refl
standing_job (progresses.TakenOut t) = refl
standing_job (progresses.Finished o) = refl

standing_row : (o : Option (ℕ × TableEntry)) → standing (Some (request_of blank (row_of o).job)) ≡
    standing_of (option_map (λ (x : ℕ × TableEntry). x.1.progress) o)
standing_row None = refl
standing_row (Some (key, t)) = standing_job t.progress

-- beyond the last serial there is none
beyond : (slots : List (Option TableEntry)) (next k : ℕ) → IsOrdered slots next → next ≤ k → find slots 0 k ≡ None
beyond slots next k o le = go (find slots 0 k) refl
  where
    go : (r : Option (ℕ × TableEntry)) → find slots 0 k ≡ r → r ≡ None
    go None h = refl
    go (Some (key, t)) h =
        let f : IsFound slots 0 k key t = is_found slots 0 k key t h in
        let lt : t.serial < next = o.below f.place t f.there in
        let is : t.serial ≡ k = f.serial_is in
        absurd (omega (arith, lt, is, le))

pub standing_alike : (slots : List (Option TableEntry)) (next k : ℕ) → IsOrdered slots next →
    standing (slice_get (map (request_of blank) (jobs_of (rows_from slots 0 next))) k) ≡ standing_of (found slots k)
standing_alike slots next k o =
    ap standing (slice_get-map (request_of blank) (jobs_of rows) k ∙
    ap (option_map (request_of blank)) (slice_get-map (λ (r : Row). r.job) rows k))
    ∙ elim (cases_lt k next) [
      | inl lt ↦ ap (λ (r : Option Row). standing (option_map (request_of blank) (option_map (λ (x : Row). x.job) r)))
          (row_at slots 0 next k lt ∙ ap (λ (x : ℕ). Some (row_of (find slots 0 x))) (omega arith))
          ∙ standing_row (find slots 0 k) ∙ ap standing_of (sym (found_is slots 0 k))
      | inr le ↦ ap (λ (r : Option Row). standing (option_map (request_of blank) (option_map (λ (x : Row). x.job) r)))
          (no_row slots 0 next k le)
          ∙ ap standing_of
          (sym (found_is slots 0 k ∙
          ap (option_map (λ (x : ℕ × TableEntry). x.1.progress)) (beyond slots next k o le)))
    ]
  where
    rows : List Row
    rows = rows_from slots 0 next
