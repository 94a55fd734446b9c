-- The table of requests against the rows: what one change of a row and of its slot leaves.
use Rattle.std.proofs.Common.{◌≡◌, ◌≢◌, ℕ, zero, suc, ◌<◌, List, [], ◌∷◌, ◌++◌, length, Option, Some, None, slice_get}
use Rattle.std.proofs.Common.{slice_set, refl, sym, ap, ◌∙◌, subst, arith, ◌⊎◌, inl, inr}
use Rattle.std.proofs.lemmas.Bool.{cases_eq}
use Rattle.std.proofs.lemmas.Option.{same_Some, none-some, slice_get_within}
use Rattle.perfect_queues.proofs.ListLemmas.{get_set_other}
use Rattle.proof_pure_network.proofs.JobLemmas.{get_set_same, push_at}
use Rattle.proof_pure_network.specs.Jobs.{Job, Waiting, Collecting, Offering, Over, Closed, Probed, Unmatched}
use Rattle.requests.specs.declared.table.TableEntry.{TableEntry}
use Rattle.requests.specs.declared.table.RequestProgress.{RequestProgress}
use Rattle.requests.specs.Table.{IsSet, slot_at}
use Rattle.proof_engine_view.specs.Rows.{Fits, Holds, IsRow, IsTable, Row, Stands}

-- with one more slot in front
set_later : (x : Option TableEntry) (old new : List (Option TableEntry)) (k : ℕ) (s : Option TableEntry) →
    IsSet old new k s → IsSet (x ∷ old) (x ∷ new) (suc k) s
set_later x old new k s r = record { changed = r.changed; others = go }
  where
    go : (other : ℕ) → other ≢ suc k → slot_at (x ∷ new) other ≡ slot_at (x ∷ old) other
    go zero ne = refl
    go (suc o) ne = r.others o (λ e. ne (ap suc e))

-- a slot that is there is set
pub set_is_set : (slots : List (Option TableEntry)) (key : ℕ) (t : TableEntry) (s : Option TableEntry) →
    slot_at slots key ≡ Some t → IsSet slots (slice_set slots key s) key s
set_is_set [] key t s h = absurd (none-some t h)
set_is_set (x ∷ xs) zero t s h = record { changed = refl; others = go }
  where
    go : (other : ℕ) → other ≢ zero → slot_at (s ∷ xs) other ≡ slot_at (x ∷ xs) other
    go zero ne = absurd (ne refl)
    go (suc o) ne = refl
set_is_set (x ∷ xs) (suc k) t s h = set_later x xs (slice_set xs k s) k s (set_is_set xs k t s h)

-- a request has ended, or its slot holds it
pub ended_or_held : (slot : Option TableEntry) (k : ℕ) (j : Job) → Stands slot k j → (j ≡ Closed) ⊎ Holds slot k j
ended_or_held slot k (Waiting p) h = inr h
ended_or_held slot k (Collecting p m got) h = inr h
ended_or_held slot k (Offering d basic values) h = inr h
ended_or_held slot k (Over x) h = inr h
ended_or_held slot k Closed h = inl refl
ended_or_held slot k (Unmatched d) h = inr h
ended_or_held slot k (Probed g m) h = inr h

-- what its slot holds stands there
pub held_stands : (slot : Option TableEntry) (k : ℕ) (j : Job) → Holds slot k j → Stands slot k j
held_stands slot k (Waiting p) h = h
held_stands slot k (Collecting p m got) h = h
held_stands slot k (Offering d basic values) h = h
held_stands slot k (Over x) h = h
held_stands slot k Closed h = tt
held_stands slot k (Unmatched d) h = h
held_stands slot k (Probed g m) h = h

-- what stands where nothing is has ended
pub none_stands : (k : ℕ) (j : Job) → Stands None k j → j ≡ Closed
none_stands k j h = go (ended_or_held None k j h)
  where
    go : (j ≡ Closed) ⊎ Holds None k j → j ≡ Closed
    go (inl e) = e
    go (inr t) = absurd (none-some t.entry t.there)

-- an ended request stands anywhere
pub closed_stands : (slot : Option TableEntry) (k : ℕ) (j : Job) → j ≡ Closed → Stands slot k j
closed_stands slot k j e = subst (λ (x : Job). Stands slot k x) (sym e) tt

-- the slot says of the request with this serial what its job says
pub record Says (slot : Option TableEntry) (k : ℕ) (job : Job) : Type 0 where
  pub stands : Stands slot k job
  pub serial_is : (t : TableEntry) → slot ≡ Some t → t.serial ≡ k
  pub fits : (t : TableEntry) → slot ≡ Some t → Fits t.progress job

-- an entry that fits its job stands for it
pub fits_stands : (k : ℕ) (g : RequestProgress) (j : Job) → Fits g j →
    Stands (Some (record { serial = k; progress = g })) k j
fits_stands k g j f =
    held_stands (Some (record { serial = k; progress = g })) k j
    (record { entry = record { serial = k; progress = g }; there = refl; serial_is = refl; fits = f })

-- it says the same
pub says_some : (k : ℕ) (g : RequestProgress) (j : Job) → Fits g j →
    Says (Some (record { serial = k; progress = g })) k j
says_some k g j f =
    record {
      stands = fits_stands k g j f;
      serial_is = λ t e. sym (ap (λ (x : TableEntry). x.serial) (same_Some (record { serial = k; progress = g }) t e));
      fits = λ t e. subst (λ (x : TableEntry). Fits x.progress j) (same_Some (record { serial = k; progress = g }) t e)
          f;
    }

-- an empty slot says that the request has ended
pub says_none : (k : ℕ) → Says None k Closed
says_none k = record { stands = tt; serial_is = λ t e. absurd (none-some t e); fits = λ t e. absurd (none-some t e) }

-- the row with serial k is changed or new
pub record IsChange (slots : List (Option TableEntry)) (rows rows' : List Row) (k key : ℕ) (job : Job) : Type 0 where
  pub here : slice_get rows' k ≡ Some (record { key = key; job = job })
  pub others : (j : ℕ) → j ≢ k → slice_get rows' j ≡ slice_get rows j
  -- no other request that has not ended has its key
  pub alone : (j : ℕ) (r : Row) → j ≢ k → slice_get rows j ≡ Some r → r.key ≡ key → r.job ≡ Closed
  -- no other key has its entry
  pub apart : (other : ℕ) (t : TableEntry) → other ≢ key → slot_at slots other ≡ Some t → t.serial ≢ k

-- the table still stands for the rows
pub table_after :
    (slots slots' : List (Option TableEntry)) (rows rows' : List Row) (k key : ℕ) (job : Job) (s : Option TableEntry) →
    IsTable slots rows → IsChange slots rows rows' k key job → IsSet slots slots' key s → Says s k job →
    IsTable slots' rows'
table_after slots slots' rows rows' k key job s table c set says = record { stands = stands; entries = entries }
  where
    mine : (r : Row) → slice_get rows' k ≡ Some r → Stands (slot_at slots' r.key) k r.job
    mine r h =
        let e : record { key = key; job = job } ≡ r = same_Some (record { key = key; job = job }) r (sym c.here ∙ h) in
        subst (λ (x : Row). Stands (slot_at slots' x.key) k x.job) e
        (subst (λ (x : Option TableEntry). Stands x k job) (sym set.changed) says.stands)

    other : (j : ℕ) (r : Row) → j ≢ k → slice_get rows j ≡ Some r → (r.key ≡ key) ⊎ (r.key ≢ key) →
        Stands (slot_at slots' r.key) j r.job
    other j r ne h (inl e) = closed_stands (slot_at slots' r.key) j r.job (c.alone j r ne h e)
    other j r ne h (inr n) =
        subst (λ (x : Option TableEntry). Stands x j r.job) (sym (set.others r.key n)) (table.stands j r h)

    stands_at : (j : ℕ) (r : Row) → (j ≡ k) ⊎ (j ≢ k) → slice_get rows' j ≡ Some r →
        Stands (slot_at slots' r.key) j r.job
    stands_at j r (inl e) h =
        subst (λ (x : ℕ). Stands (slot_at slots' r.key) x r.job) (sym e)
        (mine r (subst (λ (x : ℕ). slice_get rows' x ≡ Some r) e h))
    stands_at j r (inr n) h = other j r n (sym (c.others j n) ∙ h) (cases_eq r.key key)

    stands : (j : ℕ) (r : Row) → slice_get rows' j ≡ Some r → Stands (slot_at slots' r.key) j r.job
    stands j r h = stands_at j r (cases_eq j k) h

    entry_here : (t : TableEntry) → slot_at slots' key ≡ Some t → IsRow rows' key t
    entry_here t h =
        let e : s ≡ Some t = sym set.changed ∙ h in
        record {
          row = record { key = key; job = job };
          there = subst (λ (x : ℕ). slice_get rows' x ≡ Some (record { key = key; job = job }))
              (sym (says.serial_is t e)) c.here;
          key_is = refl;
          fits = says.fits t e;
        }

    entry_other : (at : ℕ) (t : TableEntry) → at ≢ key → slot_at slots at ≡ Some t → IsRow rows' at t
    entry_other at t n h =
        let r : IsRow rows at t = table.entries at t h in
        record { row = r.row; there = c.others t.serial (c.apart at t n h) ∙ r.there; key_is = r.key_is; fits = r.fits }

    entries_at : (at : ℕ) (t : TableEntry) → (at ≡ key) ⊎ (at ≢ key) → slot_at slots' at ≡ Some t → IsRow rows' at t
    entries_at at t (inl e) h =
        subst (λ (x : ℕ). IsRow rows' x t) (sym e) (entry_here t (subst (λ (x : ℕ). slot_at slots' x ≡ Some t) e h))
    entries_at at t (inr n) h = entry_other at t n (sym (set.others at n) ∙ h)

    entries : (at : ℕ) (t : TableEntry) → slot_at slots' at ≡ Some t → IsRow rows' at t
    entries at t h = entries_at at t (cases_eq at key) h

-- the slot of a row that has not ended holds it
pub held_at : (slots : List (Option TableEntry)) (rows : List Row) (k key : ℕ) (job : Job) → IsTable slots rows →
    slice_get rows k ≡ Some (record { key = key; job = job }) → job ≢ Closed → Holds (slot_at slots key) k job
held_at slots rows k key job table h live =
    go (ended_or_held (slot_at slots key) k job (table.stands k (record { key = key; job = job }) h))
  where
    go : (job ≡ Closed) ⊎ Holds (slot_at slots key) k job → Holds (slot_at slots key) k job
    go (inl e) = absurd (live e)
    go (inr x) = x

-- one key has one request that has not ended
pub one_request : (slots : List (Option TableEntry)) (rows : List Row) (k j key : ℕ) (job other : Job) →
    IsTable slots rows → slice_get rows k ≡ Some (record { key = key; job = job }) → job ≢ Closed →
    slice_get rows j ≡ Some (record { key = key; job = other }) → other ≢ Closed → (k ≡ j) × (job ≡ other)
one_request slots rows k j key job other table h live g awake =
    let a : Holds (slot_at slots key) k job = held_at slots rows k key job table h live in
    let b : Holds (slot_at slots key) j other = held_at slots rows j key other table g awake in
    let one : a.entry ≡ b.entry = same_Some a.entry b.entry (sym a.there ∙ b.there) in
    let e : k ≡ j = sym a.serial_is ∙ (ap (λ (t : TableEntry). t.serial) one ∙ b.serial_is) in (
      e,
      ap (λ (x : Row). x.job)
          (same_Some (record { key = key; job = job }) (record { key = key; job = other }) (sym h ∙
          (ap (slice_get rows) e ∙ g))),
    )

-- A REQUEST THAT GOES ON

-- a row that has not ended is changed: no other row shares its slot
pub set_change : (slots : List (Option TableEntry)) (rows : List Row) (k key : ℕ) (job job' : Job) →
    IsTable slots rows → slice_get rows k ≡ Some (record { key = key; job = job }) → job ≢ Closed →
    IsChange slots rows (slice_set rows k (record { key = key; job = job' })) k key job'
set_change slots rows k key job job' table h live =
    record {
      here = get_set_same rows k (record { key = key; job = job }) (record { key = key; job = job' }) h;
      others = λ j n. get_set_other rows k j (record { key = key; job = job' }) (λ e. n (sym e));
      alone = alone;
      apart = apart;
    }
  where
    mine : Holds (slot_at slots key) k job
    mine = held_at slots rows k key job table h live

    ended : (j : ℕ) (r : Row) → j ≢ k → r.key ≡ key → (r.job ≡ Closed) ⊎ Holds (slot_at slots r.key) j r.job →
        r.job ≡ Closed
    ended j r n e (inl c) = c
    ended j r n e (inr x) =
        let same : x.entry ≡ mine.entry = same_Some x.entry mine.entry (sym x.there ∙ (ap (slot_at slots) e ∙ mine.there)) in
        absurd (n (sym x.serial_is ∙ (ap (λ (t : TableEntry). t.serial) same ∙ mine.serial_is)))

    alone : (j : ℕ) (r : Row) → j ≢ k → slice_get rows j ≡ Some r → r.key ≡ key → r.job ≡ Closed
    alone j r n at e = ended j r n e (ended_or_held (slot_at slots r.key) j r.job (table.stands j r at))

    apart : (other : ℕ) (t : TableEntry) → other ≢ key → slot_at slots other ≡ Some t → t.serial ≢ k
    apart other t n at s =
        let x : IsRow rows other t = table.entries other t at in
        let e : x.row ≡ record { key = key; job = job } = same_Some x.row (record { key = key; job = job }) (sym x.there ∙ (ap (slice_get rows) s ∙ h)) in
        n (sym x.key_is ∙ ap (λ (r : Row). r.key) e)

-- a request changes in its row and its slot
pub changed_table : (slots slots' : List (Option TableEntry)) (rows : List Row) (k key : ℕ) (job job' : Job)
    (s : Option TableEntry) →
    IsTable slots rows → slice_get rows k ≡ Some (record { key = key; job = job }) → job ≢ Closed →
    IsSet slots slots' key s → Says s k job' →
    IsTable slots' (slice_set rows k (record { key = key; job = job' }))
changed_table slots slots' rows k key job job' s table h live set says =
    table_after slots slots' rows (slice_set rows k (record { key = key; job = job' })) k key job' s table
    (set_change slots rows k key job job' table h live) set says

-- A NEW REQUEST

-- the rows before the new one are as they were
pub push_other : (rows : List Row) (r : Row) (j : ℕ) → j ≢ length rows → slice_get (rows ++ r ∷ []) j ≡ slice_get rows j
push_other [] r zero n = absurd (n refl)
push_other [] r (suc j) n = refl
push_other (x ∷ xs) r zero n = refl
push_other (x ∷ xs) r (suc j) n = push_other xs r j (λ e. n (ap suc e))

-- a new request has a key where nothing stood
pub started_table : (slots slots' : List (Option TableEntry)) (rows : List Row) (key : ℕ) (job : Job)
    (s : Option TableEntry) →
    IsTable slots rows → slot_at slots key ≡ None → IsSet slots slots' key s → Says s (length rows) job →
    IsTable slots' (rows ++ record { key = key; job = job } ∷ [])
started_table slots slots' rows key job s table fresh set says =
    table_after slots slots' rows (rows ++ record { key = key; job = job } ∷ []) (length rows) key job s table
    (record {
      here = push_at rows (record { key = key; job = job });
      others =
          push_other rows (record { key = key; job = job });
      alone = alone;
      apart = apart;
    })
    set says
  where
    alone : (j : ℕ) (r : Row) → j ≢ length rows → slice_get rows j ≡ Some r → r.key ≡ key → r.job ≡ Closed
    alone j r n at e =
        none_stands j r.job
        (subst (λ (x : Option TableEntry). Stands x j r.job) (ap (slot_at slots) e ∙ fresh) (table.stands j r at))

    apart : (other : ℕ) (t : TableEntry) → other ≢ key → slot_at slots other ≡ Some t → t.serial ≢ length rows
    apart other t n at s =
        let x : IsRow rows other t = table.entries other t at in
        let b : t.serial < length rows = slice_get_within rows t.serial x.row x.there in
        omega arith
