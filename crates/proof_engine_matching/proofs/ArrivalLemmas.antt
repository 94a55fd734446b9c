-- A message that arrives takes the same receive from the queue and from the jobs, or none.
use Rattle.std.proofs.Common.{◌≡◌, ℕ, suc, Bool, true, false, List, [], ◌∷◌, ◌++◌, position, remove, slice_get}
use Rattle.std.proofs.Common.{slice_set, Option, Some, None, refl, sym, ap, ap₂, ◌∙◌, ◌⊎◌, inl, inr, ⊎_elim}
use Rattle.std.proofs.Common.{if◌then◌else◌}
use Rattle.match_queues.specs.Accepts.{accepts}
use Rattle.match_queues.specs.declared.envelope.PostedReceive as posted
use Rattle.match_queues.specs.declared.envelope.Message.{Message}
use Rattle.match_queues.specs.Arrivals.{arrival_at}
use Rattle.match_queues.specs.State.{State, arrived_at, receive_at, receive_for}
use Rattle.vocabulary.specs.declared.endpoint.Endpoint.{Endpoint}
use Rattle.proof_engine_view.specs.Transfers.{Transfer}
use Rattle.perfect_queues.specs.Receives.{Receive}
use Rattle.proof_pure_network.specs.WaitingMessages.{fits}
use Rattle.proof_pure_network.specs.Jobs.{Closed, Collecting, Job, Offering, Over, Probed, Unmatched, Waiting}
use Rattle.proof_pure_network.specs.Jobs.{oldest_posted, or_later, takes}
use Rattle.proof_engine_view.specs.Rows.{Row, held_of, jobs_of, posted_job, posted_rows}
use Rattle.proof_engine_matching.specs.Matches.{ArrivalsMatch, IsKept, IsMatchedTo}
use Rattle.proof_engine_matching.proofs.Acceptance.{posted_record, same_test}
use Rattle.proof_engine_matching.proofs.Positions.{position_here, position_later, remove_first}

-- the place of the receive that takes the message, in the queue that the rows give
abbrev pub place_for : Message → List Row → Option ℕ
place_for m rows = position (λ r. accepts r m) (posted_rows rows)

-- a row by its parts
abbrev pub row_of : ℕ → Job → Row
row_of key j = record { key = key; job = j }

-- no receive accepts it
record Passed (from : Endpoint → List Transfer) (m : Message) (rows : List Row) : Type 0 where
  core : oldest_posted (held_of from m) (jobs_of rows) ≡ None
  place : place_for m rows ≡ None

-- row k is that of the oldest receive that accepts it, and place i of the queue is this receive's
record Taken (from : Endpoint → List Transfer) (m : Message) (rows : List Row) (k i key : ℕ)
    (p : Receive) : Type 0 where
  row : slice_get rows k ≡ Some (row_of key (Waiting p))
  core : oldest_posted (held_of from m) (jobs_of rows) ≡ Some (k, p)
  place : place_for m rows ≡ Some i
  there : slice_get (posted_rows rows) i ≡ Some (posted_record key p)
  accepts : fits p (held_of from m) ≡ true
  rest : (x : Job) → posted_job key x ≡ [] → remove (posted_rows rows) i ≡ posted_rows (slice_set rows k (row_of key x))

-- no row takes the message, or the oldest that accepts it
abbrev Tried : (Endpoint → List Transfer) → Message → List Row → Type 0
Tried from m rows = Passed from m rows ⊎ ((k : ℕ) × (i : ℕ) × (key : ℕ) × (p : Receive) × Taken from m rows k i key p)

-- a row that waits for nothing changes nothing
skip : (from : Endpoint → List Transfer) (m : Message) (key : ℕ) (j : Job) (rs : List Row) →
    takes (held_of from m) j ≡ None → posted_job key j ≡ [] → Tried from m rs → Tried from m (row_of key j ∷ rs)
skip from m key j rs a b = ⊎_elim
    (λ (n : Passed from m rs). inl (record {
      core = ap₂ or_later a n.core;
      place = ap (λ (l : List posted.PostedReceive). position (λ r. accepts r m) (l ++ posted_rows rs)) b ∙ n.place;
    }))
    (λ (s : (k : ℕ) × (i : ℕ) × (key : ℕ) × (p : Receive) × Taken from m rs k i key p). inr (
      suc s.0,
      s.1,
      s.2,
      s.3,
      record {
        row = s.4.row;
        core = ap₂ or_later a s.4.core;
        place = ap (λ (l : List posted.PostedReceive). position (λ r. accepts r m) (l ++ posted_rows rs)) b ∙ s.4.place;
        there = ap (λ (l : List posted.PostedReceive). slice_get (l ++ posted_rows rs) s.1) b ∙ s.4.there;
        accepts = s.4.accepts;
        rest = λ x e.
            ap (λ (l : List posted.PostedReceive). remove (l ++ posted_rows rs) s.1) b
            ∙ (s.4.rest x e ∙
            sym (ap (λ (l : List posted.PostedReceive). l ++ posted_rows (slice_set rs s.0 (row_of s.2 x))) b));
      },
    ))

-- what a receive that waits takes, by its test
taken_by : (from : Endpoint → List Transfer) (m : Message) (p : Receive) (t : Bool) → fits p (held_of from m) ≡ t →
    takes (held_of from m) (Waiting p) ≡ (if t then Some p else None)
taken_by from m p t h = ap (λ (b : Bool). if b then Some p else None) h

-- a receive that waits and doesn't accept it
miss : (from : Endpoint → List Transfer) (m : Message) (key : ℕ) (p : Receive) (rs : List Row) →
    fits p (held_of from m) ≡ false → Tried from m rs → Tried from m (row_of key (Waiting p) ∷ rs)
miss from m key p rs h = ⊎_elim
    (λ (n : Passed from m rs). inl (record {
      core = ap₂ or_later (taken_by from m p false h) n.core;
      place = position_later (λ r. accepts r m) (posted_record key p) (posted_rows rs) None (same_test from key p m ∙ h)
          n.place;
    }))
    (λ (s : (k : ℕ) × (i : ℕ) × (key : ℕ) × (p : Receive) × Taken from m rs k i key p). inr (
      suc s.0,
      suc s.1,
      s.2,
      s.3,
      record {
        row = s.4.row;
        core = ap₂ or_later (taken_by from m p false h) s.4.core;
        place = position_later (λ r. accepts r m) (posted_record key p) (posted_rows rs) (Some s.1)
            (same_test from key p m ∙ h) s.4.place;
        there = s.4.there;
        accepts = s.4.accepts;
        rest = λ x e. ap (λ (l : List posted.PostedReceive). posted_record key p ∷ l) (s.4.rest x e);
      },
    ))

-- the receive that accepts it
hit : (from : Endpoint → List Transfer) (m : Message) (key : ℕ) (p : Receive) (rs : List Row) →
    fits p (held_of from m) ≡ true → Taken from m (row_of key (Waiting p) ∷ rs) 0 0 key p
hit from m key p rs h =
    record {
      row = refl;
      core = ap (λ (t : Option Receive). or_later t (oldest_posted (held_of from m) (jobs_of rs)))
          (taken_by from m p true h);
      place = position_here (λ r. accepts r m) (posted_record key p) (posted_rows rs) (same_test from key p m ∙ h);
      there = refl;
      accepts = h;
      rest = λ x e. remove_first (posted_record key p) (posted_rows rs) ∙
          sym (ap (λ (l : List posted.PostedReceive). l ++ posted_rows rs) e);
    }

-- one more row in front
step : (from : Endpoint → List Transfer) (m : Message) (key : ℕ) (j : Job) (rs : List Row) → Tried from m rs →
    Tried from m (row_of key j ∷ rs)
step from m key (Waiting p) rs t = go (fits p (held_of from m)) refl
  where
    go : (b : Bool) → fits p (held_of from m) ≡ b → Tried from m (row_of key (Waiting p) ∷ rs)
    go true h = inr (0, 0, key, p, hit from m key p rs h)
    go false h = miss from m key p rs h t
step from m key (Collecting p h got) rs t = skip from m key (Collecting p h got) rs refl refl t
step from m key (Offering d basic values) rs t = skip from m key (Offering d basic values) rs refl refl t
step from m key (Over o) rs t = skip from m key (Over o) rs refl refl t
step from m key Closed rs t = skip from m key Closed rs refl refl t
step from m key (Unmatched d) rs t = skip from m key (Unmatched d) rs refl refl t
step from m key (Probed g h) rs t = skip from m key (Probed g h) rs refl refl t

-- all rows
tried : (from : Endpoint → List Transfer) (m : Message) (rows : List Row) → Tried from m rows
tried from m [] = inl (record { core = refl; place = refl })
tried from m (r ∷ rs) = step from m r.key r.job rs (tried from m rs)

-- the message stays, as no row takes it
kept : (from : Endpoint → List Transfer) (rows : List Row) (old : State) (m : Message) → old.posted ≡ posted_rows rows →
    Passed from m rows → IsKept from rows old m
kept from rows old m h n =
    let none : receive_for m old.posted ≡ None = ap (λ (ps : List posted.PostedReceive). receive_for m ps) h ∙ n.place in
    record {
      core = n.core;
      arrival = ap (λ (o : Option ℕ). arrival_at (receive_at old.posted o) m) none;
      queues = ap (λ (o : Option ℕ). arrived_at o old m) none;
    }

-- the message goes to the row that takes it
matched : (from : Endpoint → List Transfer) (rows : List Row) (old : State) (m : Message) (k i key : ℕ) (p : Receive) →
    old.posted ≡ posted_rows rows → Taken from m rows k i key p → IsMatchedTo from rows old m k key p
matched from rows old m k i key p h s =
    let place : receive_for m old.posted ≡ Some i = ap (λ (ps : List posted.PostedReceive). receive_for m ps) h ∙ s.place in
    let there : slice_get old.posted i ≡ Some (posted_record key p) = ap (λ (ps : List posted.PostedReceive). slice_get ps i) h ∙ s.there in
    record {
      row = s.row;
      core = s.core;
      arrival = ap (λ (o : Option ℕ). arrival_at (receive_at old.posted o) m) place ∙
          ap (λ (r : Option posted.PostedReceive). arrival_at r m) there;
      accepts = s.accepts;
      posted = λ x e. ap (λ (q : Option ℕ). (arrived_at q old m).posted) place ∙
          (ap (λ (ps : List posted.PostedReceive). remove ps i) h ∙ s.rest x e);
      unexpected = ap (λ (q : Option ℕ). (arrived_at q old m).unexpected) place;
    }

-- the law of arrivals
pub arrivals_match : ArrivalsMatch
arrivals_match from rows old m h = ⊎_elim
    (λ (n : Passed from m rows). inl (kept from rows old m h n))
    (λ (s : (k : ℕ) × (i : ℕ) × (key : ℕ) × (p : Receive) × Taken from m rows k i key p). inr
    (s.0, s.2, s.3, matched from rows old m s.0 s.1 s.2 s.3 h s.4))
    (tried from m rows)
