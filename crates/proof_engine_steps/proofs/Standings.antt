-- What a call may do with a request is the same to a rank and to the machine.
use Rattle.std.proofs.Common.{◌≡◌, ◌≢◌, ℕ, Bool, true, false, not, ◌&&◌, ◌||◌, List, [], ◌∷◌, map, Option, Some, None}
use Rattle.std.proofs.Common.{is_some, ◌==◌, slice_get, option_map, refl, sym, ap, ◌∙◌, arith, ◌⊎◌, inl, inr}
use Rattle.std.specs.List.{AllByRecursion, list_any}
use Rattle.std.proofs.lemmas.Bool.{cases_eq, eq-eqb, eqb-true}
use Rattle.std.proofs.lemmas.Option.{same_Some, slice_get-map, slice_get_past}
use Rattle.perfect_queues.specs.Completions as machine
use Rattle.perfect_queues.specs.Outcomes as ends
use Rattle.perfect_queues.specs.Receives as receives
use Rattle.perfect_queues.specs.Refusals as rules
use Rattle.proof_pure_network.specs.Core.{Core}
use Rattle.proof_pure_network.specs.WaitingMessages.{blank}
use Rattle.proof_pure_network.specs.Jobs.{Job, Waiting, Collecting, Offering, Over, Closed, request_of, Probed}
use Rattle.proof_pure_network.specs.Jobs.{Unmatched}
use Rattle.requests.specs.Completions.{awaited_requests}
use Rattle.requests.specs.Lists as lists
use Rattle.requests.specs.Table as table
use Rattle.requests.specs.Table.{progress_at, slot_at}
use Rattle.requests.specs.declared.awaited_requests.Awaited.{Awaited}
use Rattle.requests.specs.declared.awaited_requests.Awaited.TheVariants as awaiteds
use Rattle.requests.specs.declared.outcome.Outcome.{Outcome}
use Rattle.requests.specs.declared.outcome.Outcome.TheVariants as outcomes
use Rattle.requests.specs.declared.table.RequestProgress.{RequestProgress}
use Rattle.requests.specs.declared.table.RequestProgress.TheVariants.{Receiving, Finished}
use Rattle.requests.specs.declared.table.RequestProgress.TheVariants as progresses
use Rattle.requests.specs.declared.table.Request.{Request}
use Rattle.point_to_point.specs.CoreState.{CoreState}
use Rattle.proof_engine_view.specs.Rows.{Row, Stands}
use Rattle.observation.specs.CoreCalls.{awaited_by, is_foreign, outcome_seen, own_serial, request_by, requests_by}
use Rattle.observation.specs.CoreCalls.{serial_meant}
use Rattle.proof_engine_view.specs.CoreViews.{IsShown}
use Rattle.proof_engine_view.specs.Transfers.{Announcements}
use Rattle.proof_engine_steps.proofs.Foreign.{foreign_of, held_own, meant_foreign, meant_own}
use Rattle.proof_engine_steps.proofs.TableRows.{CollectsFor, HasRow, HoldsMessage, OffersValues, WaitsForMatch}
use Rattle.proof_engine_steps.proofs.TableRows.{collecting_of, probed_of, finished_row, offering_of, row_of, waiting_of}

-- ---- one request

-- what a call may do with a request that is so far
abbrev pub standing_of : Option RequestProgress → rules.Standing
standing_of None = rules.Missing
standing_of (Some (Receiving b)) = rules.Receiving
standing_of (Some (progresses.Collecting w)) = rules.Receiving
standing_of (Some progresses.Offering) = rules.Sends
standing_of (Some (progresses.TakenOut t)) = rules.OfMessage
standing_of (Some (Finished o)) = rules.standing_of_outcome (outcome_seen o)

-- a request that is finished is no missing one
outcome_stands : (x : ends.Outcome) → rules.is_missing (rules.standing_of_outcome x) ≡ false
outcome_stands ends.Sent = refl
outcome_stands (ends.Received status b) = refl
outcome_stands (ends.Ended n status b) = refl
outcome_stands (ends.Replaced None) = refl
outcome_stands (ends.Replaced (Some b)) = refl
outcome_stands (ends.Cancelled b) = refl
outcome_stands ends.Empty = refl

outcome_no_message : (x : ends.Outcome) → rules.is_message (rules.standing_of_outcome x) ≡ false
outcome_no_message ends.Sent = refl
outcome_no_message (ends.Received status b) = refl
outcome_no_message (ends.Ended n status b) = refl
outcome_no_message (ends.Replaced None) = refl
outcome_no_message (ends.Replaced (Some b)) = refl
outcome_no_message (ends.Cancelled b) = refl
outcome_no_message ends.Empty = refl

-- whether it is missing
missing_of : (g : Option RequestProgress) → rules.is_missing (standing_of g) ≡ not (is_some (table.as_request g))
missing_of None = refl
missing_of (Some (Receiving b)) = refl
missing_of (Some (progresses.Collecting w)) = refl
missing_of (Some progresses.Offering) = refl
missing_of (Some (progresses.TakenOut t)) = refl
missing_of (Some (Finished o)) = outcome_stands (outcome_seen o)

-- whether an outcome is a receive's
receives_of : (o : Outcome) → rules.is_receive (rules.standing_of_outcome (outcome_seen o)) ≡ table.is_receives o
receives_of outcomes.Sent = refl
receives_of (outcomes.Received status b) = refl
receives_of (outcomes.Ended why status b) = refl
receives_of (outcomes.Replaced None) = refl
receives_of (outcomes.Replaced (Some b)) = refl
receives_of (outcomes.Cancelled b) = refl
receives_of outcomes.Empty = refl

-- whether it is a receive
receive_of : (g : Option RequestProgress) → rules.is_receive (standing_of g) ≡ table.is_receive g
receive_of None = refl
receive_of (Some (Receiving b)) = refl
receive_of (Some (progresses.Collecting w)) = refl
receive_of (Some progresses.Offering) = refl
receive_of (Some (progresses.TakenOut t)) = refl
receive_of (Some (Finished o)) = receives_of o

-- what the machine may do with the request under a serial
abbrev pub standing_at : Core → ℕ → rules.Standing
standing_at core k = rules.standing (slice_get (map (request_of blank) core.jobs) k)

-- by the row with the serial
standing_row : (links : Announcements) (old : CoreState) (known : List ℕ) (core : Core) (k : ℕ) (o : Option Row) →
    (shown : IsShown links old known core) → slice_get shown.rows k ≡ o →
    standing_at core k ≡ rules.standing (option_map (request_of blank) (option_map (λ (r : Row). r.job) o))
standing_row links old known core k o shown h =
    ap rules.standing (slice_get-map (request_of blank) core.jobs k ∙
    ap (λ (x : Option Job). option_map (request_of blank) x)
    (ap (λ (js : List Job). slice_get js k) shown.jobs ∙
    (slice_get-map (λ (r : Row). r.job) shown.rows k ∙ ap (λ (x : Option Row). option_map (λ (r : Row). r.job) x) h)))

-- under the serial that a request means at a rank, the machine sees how far it is; what another engine gave, and what
-- the table doesn't hold, is missing
standing_seen : (links : Announcements) (old : CoreState) (known : List ℕ) (core : Core) (q : Request) →
    IsShown links old known core → standing_at core (serial_meant old q) ≡
    standing_of (progress_at old.slots q.key q.serial)
standing_seen links old known core q shown = go (progress_at old.slots q.key q.serial) refl
  where
    at : (k : ℕ) (o : Option Row) → serial_meant old q ≡ k → slice_get shown.rows k ≡ o →
        standing_at core (serial_meant old q) ≡
        rules.standing (option_map (request_of blank) (option_map (λ (r : Row). r.job) o))
    at k o e h = ap (standing_at core) e ∙ standing_row links old known core k o shown h

    by_job : is_foreign old.slots q ≡ false → progress_at old.slots q.key q.serial ≡ None →
        (key : ℕ) (j : Job) → slice_get shown.rows q.serial ≡ Some (record { key = key; job = j }) →
        Stands (slot_at old.slots key) q.serial j → standing_at core (serial_meant old q) ≡ rules.Missing
    by_job f e key (Waiting p) h s = absurd (foreign_of old.slots q key (Waiting p) e f s)
    by_job f e key (Over o) h s = absurd (foreign_of old.slots q key (Over o) e f s)
    by_job f e key Closed h s = at q.serial (Some (record { key = key; job = Closed })) (meant_own old q f) h
    by_job f e key (Collecting p m got) h s = absurd (foreign_of old.slots q key (Collecting p m got) e f s)
    by_job f e key (Offering d basic values) h s = absurd (foreign_of old.slots q key (Offering d basic values) e f s)
    by_job f e key (Unmatched d) h s = absurd (foreign_of old.slots q key (Unmatched d) e f s)
    by_job f e key (Probed g m) h s = absurd (foreign_of old.slots q key (Probed g m) e f s)

    own : is_foreign old.slots q ≡ false → progress_at old.slots q.key q.serial ≡ None →
        (o : Option Row) → slice_get shown.rows q.serial ≡ o → standing_at core (serial_meant old q) ≡ rules.Missing
    own f e None h = at q.serial None (meant_own old q f) h
    own f e (Some r) h = by_job f e r.key r.job h (shown.table.stands q.serial r h)

    absent : (b : Bool) → is_foreign old.slots q ≡ b → progress_at old.slots q.key q.serial ≡ None →
        standing_at core (serial_meant old q) ≡ rules.Missing
    absent true f e =
        at old.serial None (meant_foreign old q f) (slice_get_past shown.rows old.serial (omega (arith, shown.count)))
    absent false f e = own f e (slice_get shown.rows q.serial) refl

    go : (g : Option RequestProgress) → progress_at old.slots q.key q.serial ≡ g →
        standing_at core (serial_meant old q) ≡ standing_of g
    go None e = absent (is_foreign old.slots q) refl e
    go (Some (Receiving b)) e =
        let r : HasRow shown.rows q.serial q.key (Receiving b) = row_of old.slots shown.rows q.serial q.key (Receiving b) shown.table e in
        let p : (p : receives.Receive) × (r.job ≡ Waiting p) = waiting_of b r.job r.fits in
        at q.serial (Some (record { key = q.key; job = Waiting p.0 })) (held_own old q (Receiving b) e)
        (r.there ∙ ap (λ (j : Job). Some (record { key = q.key; job = j })) p.1)
    go (Some (progresses.Collecting w)) e =
        let r : HasRow shown.rows q.serial q.key (progresses.Collecting w) = row_of old.slots shown.rows q.serial q.key (progresses.Collecting w) shown.table e in
        let c : CollectsFor w r.job = collecting_of w r.job r.fits in
        at q.serial (Some (record { key = q.key; job = Collecting c.receive c.message c.got }))
        (held_own old q (progresses.Collecting w) e)
        (r.there ∙ ap (λ (j : Job). Some (record { key = q.key; job = j })) c.is)
    go (Some progresses.Offering) e =
        let r : HasRow shown.rows q.serial q.key progresses.Offering = row_of old.slots shown.rows q.serial q.key progresses.Offering shown.table e in
        offers r (offering_of r.job r.fits)
      where
        offers : (r : HasRow shown.rows q.serial q.key progresses.Offering) → OffersValues r.job ⊎ WaitsForMatch r.job →
            standing_at core (serial_meant old q) ≡ rules.Sends
        offers r (inl o) =
            at q.serial (Some (record { key = q.key; job = Offering o.target o.basic o.values }))
            (held_own old q progresses.Offering e)
            (r.there ∙ ap (λ (j : Job). Some (record { key = q.key; job = j })) o.is)
        offers r (inr o) =
            at q.serial (Some (record { key = q.key; job = Unmatched o.target })) (held_own old q progresses.Offering e)
            (r.there ∙ ap (λ (j : Job). Some (record { key = q.key; job = j })) o.is)
    go (Some (progresses.TakenOut t)) e =
        let r : HasRow shown.rows q.serial q.key (progresses.TakenOut t) = row_of old.slots shown.rows q.serial q.key (progresses.TakenOut t) shown.table e in
        let m : HoldsMessage t r.job = probed_of t r.job r.fits in
        at q.serial (Some (record { key = q.key; job = Probed t.group m.message }))
        (held_own old q (progresses.TakenOut t) e)
        (r.there ∙ ap (λ (j : Job). Some (record { key = q.key; job = j })) m.is)
    go (Some (Finished o)) e =
        at q.serial (Some (record { key = q.key; job = Over (outcome_seen o) })) (held_own old q (Finished o) e)
        (finished_row old.slots shown.rows q o shown.table e)

-- whether it is missing
missing_seen : (links : Announcements) (old : CoreState) (known : List ℕ) (core : Core) (q : Request) →
    IsShown links old known core → rules.is_missing (standing_at core (serial_meant old q)) ≡
    lists.is_absent old.slots q
missing_seen links old known core q shown = ap rules.is_missing (standing_seen links old known core q shown) ∙
    missing_of (progress_at old.slots q.key q.serial)

-- whether it is a receive
pub receive_seen : (links : Announcements) (old : CoreState) (known : List ℕ) (core : Core) (q : Request) →
    IsShown links old known core →
    rules.is_receive (standing_at core (serial_meant old q)) ≡ table.is_receive (progress_at old.slots q.key q.serial)
receive_seen links old known core q shown = ap rules.is_receive (standing_seen links old known core q shown) ∙
    receive_of (progress_at old.slots q.key q.serial)

-- whether it is a message that was taken out
message_of : (g : Option RequestProgress) → rules.is_message (standing_of g) ≡ table.is_message g
message_of None = refl
message_of (Some (Receiving b)) = refl
message_of (Some (progresses.Collecting w)) = refl
message_of (Some progresses.Offering) = refl
message_of (Some (progresses.TakenOut t)) = refl
message_of (Some (Finished o)) = outcome_no_message (outcome_seen o)

pub message_seen : (links : Announcements) (old : CoreState) (known : List ℕ) (core : Core) (q : Request) →
    IsShown links old known core →
    rules.is_message (standing_at core (serial_meant old q)) ≡ table.is_message (progress_at old.slots q.key q.serial)
message_seen links old known core q shown = ap rules.is_message (standing_seen links old known core q shown) ∙
    message_of (progress_at old.slots q.key q.serial)

-- ---- requests that are there

-- the table tells how far it is
abbrev pub IsPresent : CoreState → Request → Type 0
IsPresent c q = (g : RequestProgress) × (progress_at c.slots q.key q.serial ≡ Some g)

-- neither part of a disjunction holds
pub neither : (a b : Bool) → (a || b) ≡ false → (a ≡ false) × (b ≡ false)
neither true b h = absurd cc
neither false b h = (refl, h)

-- where none is absent, all are there
pub all_present : (c : CoreState) (qs : List Request) → lists.is_one_absent c.slots qs ≡ false →
    AllByRecursion (IsPresent c) qs
all_present c [] h = tt
all_present c (q ∷ qs) h =
    let n : (lists.is_absent c.slots q ≡ false) × (lists.is_one_absent c.slots qs ≡ false) = neither (lists.is_absent c.slots q) (lists.is_one_absent c.slots qs) h in
    (there (progress_at c.slots q.key q.serial) refl n.0, all_present c qs n.1)
  where
    there : (o : Option RequestProgress) → progress_at c.slots q.key q.serial ≡ o → not (is_some (table.as_request o)) ≡
        false → IsPresent c q
    there None e f = absurd cc
    there (Some g) e f = (g, e)

-- what is there means its own serial
pub meant_present : (c : CoreState) (q : Request) → IsPresent c q → serial_meant c q ≡ q.serial
meant_present c q h = held_own c q h.0 h.1

-- so it is with all of a list
requests_own : (c : CoreState) (rs : List (Option Request)) → AllByRecursion (IsPresent c) (lists.named rs) →
    requests_by (serial_meant c) rs ≡ requests_by own_serial rs
requests_own c [] h = refl
requests_own c (None ∷ rs) h = ap (λ (xs : List (Option ℕ)). None ∷ xs) (requests_own c rs h)
requests_own c (Some q ∷ rs) h =
    ap (λ (k : ℕ). Some k ∷ requests_by (serial_meant c) rs) (meant_present c q h.0) ∙
    ap (λ (xs : List (Option ℕ)). Some q.serial ∷ xs) (requests_own c rs h.1)

-- one request
pub request_own : (c : CoreState) (r : Option Request) →
    AllByRecursion (IsPresent c) (awaited_requests (awaiteds.One r)) → request_by (serial_meant c) r ≡
    request_by own_serial r
request_own c None h = refl
request_own c (Some q) h = ap (λ (k : ℕ). Some k) (meant_present c q h.0)

-- what a call waits for
pub awaited_own : (c : CoreState) (a : Awaited) → AllByRecursion (IsPresent c) (awaited_requests a) →
    awaited_by (serial_meant c) a ≡ awaited_by own_serial a
awaited_own c (awaiteds.One r) h = ap machine.One (request_own c r h)
awaited_own c (awaiteds.AnyOf rs) h = ap machine.AnyOf (requests_own c rs h)
awaited_own c (awaiteds.AllOf rs) h = ap machine.AllOf (requests_own c rs h)

-- ---- lists

-- the serials that a list of requests means
serials_meant : (m : Request → ℕ) (rs : List (Option Request)) → machine.serials (requests_by m rs) ≡
    map m (lists.named rs)
serials_meant m [] = refl
serials_meant m (None ∷ rs) = serials_meant m rs
serials_meant m (Some q ∷ rs) = ap (λ (ks : List ℕ). m q ∷ ks) (serials_meant m rs)

-- those that a call waits for
pub awaited_meant : (m : Request → ℕ) (a : Awaited) → rules.awaited_serials (awaited_by m a) ≡
    map m (awaited_requests a)
awaited_meant m (awaiteds.One r) = serials_meant m (r ∷ [])
awaited_meant m (awaiteds.AnyOf rs) = serials_meant m rs
awaited_meant m (awaiteds.AllOf rs) = serials_meant m rs

-- whether one is missing
one_missing : (links : Announcements) (old : CoreState) (known : List ℕ) (core : Core) → IsShown links old known core →
    (qs : List Request) →
    rules.is_one_missing (standing_at core) (map (serial_meant old) qs) ≡ lists.is_one_absent old.slots qs
one_missing links old known core shown [] = refl
one_missing links old known core shown (q ∷ qs) =
    ap (λ (b : Bool). b || rules.is_one_missing (standing_at core) (map (serial_meant old) qs))
    (missing_seen links old known core q shown) ∙
    ap (λ (b : Bool). lists.is_absent old.slots q || b) (one_missing links old known core shown qs)

-- two numbers that differ
differ : (a b : ℕ) → a ≢ b → (a == b) ≡ false
differ a b n = go (a == b) refl
  where
    go : (t : Bool) → (a == b) ≡ t → (a == b) ≡ false
    go true e = absurd (n (eqb-true a b e))
    go false e = e

and_false : (a b : Bool) → b ≡ false → (a && b) ≡ false
and_false true b h = h
and_false false b h = refl

and_true : (a b : Bool) → a ≡ true → b ≡ true → (a && b) ≡ true
and_true true b h e = e
and_true false b h e = absurd cc

-- two requests that are there and have one serial have one key
one_key : (links : Announcements) (old : CoreState) (known : List ℕ) (core : Core) (q p : Request) →
    IsShown links old known core → IsPresent old q → IsPresent old p → q.serial ≡ p.serial → q.key ≡ p.key
one_key links old known core q p shown hq hp e =
    let a : HasRow shown.rows q.serial q.key hq.0 = row_of old.slots shown.rows q.serial q.key hq.0 shown.table hq.1 in
    let b : HasRow shown.rows p.serial p.key hp.0 = row_of old.slots shown.rows p.serial p.key hp.0 shown.table hp.1 in
    ap (λ (r : Row). r.key)
    (same_Some (record { key = q.key; job = a.job }) (record { key = p.key; job = b.job }) (sym a.there ∙
    (ap (slice_get shown.rows) e ∙ b.there)))

-- whether two requests that are there are one
same_test : (links : Announcements) (old : CoreState) (known : List ℕ) (core : Core) (q p : Request) →
    IsShown links old known core → IsPresent old q → IsPresent old p →
    (serial_meant old p == serial_meant old q) ≡ lists.is_same q p
same_test links old known core q p shown hq hp =
    ap (λ (k : ℕ). k == serial_meant old q) (meant_present old p hp) ∙
    (ap (λ (k : ℕ). p.serial == k) (meant_present old q hq) ∙ go (cases_eq q.serial p.serial))
  where
    go : (q.serial ≡ p.serial) ⊎ (q.serial ≢ p.serial) → (p.serial == q.serial) ≡ lists.is_same q p
    go (inl e) =
        eq-eqb p.serial q.serial (sym e) ∙
        sym (and_true (q.key == p.key) (q.serial == p.serial)
        (eq-eqb q.key p.key (one_key links old known core q p shown hq hp e)) (eq-eqb q.serial p.serial e))
    go (inr n) = differ p.serial q.serial (λ e. n (sym e)) ∙
        sym (and_false (q.key == p.key) (q.serial == p.serial) (differ q.serial p.serial n))

-- whether one stands later in the list
later_same : (links : Announcements) (old : CoreState) (known : List ℕ) (core : Core) (q : Request) →
    IsShown links old known core → IsPresent old q → (qs : List Request) → AllByRecursion (IsPresent old) qs →
    list_any (λ (k : ℕ). k == serial_meant old q) (map (serial_meant old) qs) ≡ list_any (lists.is_same q) qs
later_same links old known core q shown hq [] h = refl
later_same links old known core q shown hq (p ∷ qs) h =
    ap (λ (b : Bool). b || list_any (λ (k : ℕ). k == serial_meant old q) (map (serial_meant old) qs))
    (same_test links old known core q p shown hq h.0) ∙
    ap (λ (b : Bool). lists.is_same q p || b) (later_same links old known core q shown hq qs h.1)

-- whether one stands twice
twice_same : (links : Announcements) (old : CoreState) (known : List ℕ) (core : Core) → IsShown links old known core →
    (qs : List Request) → AllByRecursion (IsPresent old) qs →
    rules.is_twice (map (serial_meant old) qs) ≡ lists.is_twice qs
twice_same links old known core shown [] h = refl
twice_same links old known core shown (q ∷ qs) h =
    ap (λ (b : Bool). b || rules.is_twice (map (serial_meant old) qs))
    (later_same links old known core q shown h.0 qs h.1) ∙
    ap (λ (b : Bool). list_any (lists.is_same q) qs || b) (twice_same links old known core shown qs h.1)

-- whether a list can't be waited for: one is missing, or stands twice
pub wrong_same : (links : Announcements) (old : CoreState) (known : List ℕ) (core : Core) →
    IsShown links old known core → (qs : List Request) →
    (rules.is_one_missing (standing_at core) (map (serial_meant old) qs) || rules.is_twice (map (serial_meant old) qs))
    ≡ (lists.is_one_absent old.slots qs || lists.is_twice qs)
wrong_same links old known core shown qs = go (lists.is_one_absent old.slots qs) refl
  where
    ks : List ℕ
    ks = map (serial_meant old) qs

    go : (b : Bool) → lists.is_one_absent old.slots qs ≡ b →
        (rules.is_one_missing (standing_at core) ks || rules.is_twice ks) ≡
        (lists.is_one_absent old.slots qs || lists.is_twice qs)
    go true e = ap (λ (b : Bool). b || rules.is_twice ks) (one_missing links old known core shown qs ∙ e) ∙
        sym (ap (λ (b : Bool). b || lists.is_twice qs) e)
    go false e =
        ap (λ (b : Bool). b || rules.is_twice ks) (one_missing links old known core shown qs) ∙
        ap (λ (b : Bool). lists.is_one_absent old.slots qs || b)
        (twice_same links old known core shown qs (all_present old qs e))
