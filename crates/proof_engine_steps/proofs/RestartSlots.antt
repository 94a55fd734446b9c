-- The slots once a rank is learnt at a later incarnation.
use Rattle.std.proofs.Common.{◌≡◌, ◌≢◌, ℕ, Bool, true, false, List, [], ◌∷◌, map, Option, Some, None, if◌then◌else◌}
use Rattle.std.proofs.Common.{slice_get, option_map, refl, sym, ap, ◌∙◌, subst, ◌⊎◌, inl, inr, arith}
use Rattle.std.proofs.lemmas.Bool.{cases_eq}
use Rattle.std.proofs.lemmas.Option.{none-some, same_Some, slice_get-map}
use Rattle.datatypes.specs.Contents.{Contents}
use Rattle.perfect_queues.specs.Buffers.{Handed}
use Rattle.perfect_queues.specs.Outcomes as machine
use Rattle.requests.specs.Table.{after_replace, after_replaces, replaced_entry, replaced_progress, slot_at}
use Rattle.requests.specs.Table.{slot_replaced}
use Rattle.requests.specs.declared.table.TableEntry.{TableEntry}
use Rattle.requests.specs.declared.table.RequestProgress.{RequestProgress}
use Rattle.requests.specs.declared.table.RequestProgress.TheVariants.{Receiving, Finished}
use Rattle.requests.specs.declared.table.RequestProgress.TheVariants as progresses
use Rattle.proof_pure_network.specs.Jobs.{Job, Waiting, Collecting, Offering, Over, Closed, ended, Probed, Unmatched}
use Rattle.proof_engine_view.specs.Rows.{Fits, Holds, IsRow, IsTable, Row, Stands}
use Rattle.proof_engine_steps.proofs.EndedRows.{IsAmong, cases_among, ended_at, ended_row}
use Rattle.proof_engine_steps.proofs.EndingKeys.{AreEnding, IsEnding, ends_by}
use Rattle.proof_engine_steps.proofs.TableRows.{open_of}
use Rattle.proof_engine_steps.proofs.Regions.{handed_buffer}
use Rattle.proof_engine_steps.proofs.Tables.{closed_stands, ended_or_held, held_stands, one_request, set_is_set}

-- ONE KEY

-- what stands under it
pub replace_here : (slots : List (Option TableEntry)) (key : ℕ) →
    slot_at (after_replace slots key) key ≡ option_map replaced_entry (slot_at slots key)
replace_here slots key = go (slot_at slots key) refl
  where
    go : (s : Option TableEntry) → slot_at slots key ≡ s → slot_at (slot_replaced s slots key) key ≡
        option_map replaced_entry s
    go None e = e
    go (Some t) e = (set_is_set slots key t (Some (replaced_entry t)) e).changed

-- what stands under another
pub replace_other : (slots : List (Option TableEntry)) (key other : ℕ) → other ≢ key →
    slot_at (after_replace slots key) other ≡ slot_at slots other
replace_other slots key other n = go (slot_at slots key) refl
  where
    go : (s : Option TableEntry) → slot_at slots key ≡ s → slot_at (slot_replaced s slots key) other ≡
        slot_at slots other
    go None e = refl
    go (Some t) e = (set_is_set slots key t (Some (replaced_entry t)) e).others other n

-- what has ended stays so
twice : (s : Option TableEntry) → option_map replaced_entry (option_map replaced_entry s) ≡ option_map replaced_entry s
twice None = refl
twice (Some t) = go t.progress
  where
    go : (g : RequestProgress) →
        ◌≡◌ {A = Option TableEntry}
        (Some (record { serial = t.serial; progress = replaced_progress (replaced_progress g) }))
        (Some (record { serial = t.serial; progress = replaced_progress g }))
    go (Receiving b) = refl
    go (progresses.Collecting w) = refl
    go progresses.Offering = refl
    go (progresses.TakenOut taken) = refl
    go (Finished o) = refl

-- ALL KEYS

-- what stands under a key that is none of them
pub replaces_apart : (keys : List ℕ) (slots : List (Option TableEntry)) (key : ℕ) → (IsAmong key keys → ⊥) →
    slot_at (after_replaces slots keys) key ≡ slot_at slots key
replaces_apart [] slots key n = refl
replaces_apart (x ∷ xs) slots key n = replaces_apart xs (after_replace slots x) key (λ a. n (inr a)) ∙
    replace_other slots x key (λ e. n (inl e))

-- what stands under one of them
pub replaces_among : (keys : List ℕ) (slots : List (Option TableEntry)) (key : ℕ) → IsAmong key keys →
    slot_at (after_replaces slots keys) key ≡ option_map replaced_entry (slot_at slots key)
replaces_among [] slots key h = absurd h
replaces_among (x ∷ xs) slots key h =
    go (cases_eq key x) (cases_among key xs) (replaces_among xs (after_replace slots x) key) h
  where
    here : key ≡ x → slot_at (after_replace slots x) key ≡ option_map replaced_entry (slot_at slots key)
    here e = subst (λ (n : ℕ). slot_at (after_replace slots n) key ≡ option_map replaced_entry (slot_at slots key)) e
        (replace_here slots key)

    missing : (key ≡ x → ⊥) → (IsAmong key xs → ⊥) → IsAmong key (x ∷ xs) → ⊥
    missing n m (inl e) = n e
    missing n m (inr a) = m a

    go : (key ≡ x) ⊎ (key ≡ x → ⊥) → IsAmong key xs ⊎ (IsAmong key xs → ⊥) →
        (IsAmong key xs → slot_at (after_replaces (after_replace slots x) xs) key ≡
        option_map replaced_entry (slot_at (after_replace slots x) key)) →
        IsAmong key (x ∷ xs) → slot_at (after_replaces (after_replace slots x) xs) key ≡
        option_map replaced_entry (slot_at slots key)
    go (inl e) (inl a) rest g = rest a ∙
        (ap (λ (s : Option TableEntry). option_map replaced_entry s) (here e) ∙ twice (slot_at slots key))
    go (inr n) (inl a) rest g =
        rest a ∙ ap (λ (s : Option TableEntry). option_map replaced_entry s) (replace_other slots x key n)
    go (inl e) (inr m) rest g = replaces_apart xs (after_replace slots x) key m ∙ here e
    go (inr n) (inr m) rest g = absurd (missing n m g)

-- THE TABLE

-- how far it is says that it has ended, where it ends
fits_replaced : (g : RequestProgress) (r i : ℕ) (job : Job) → Fits g job → ends_by r i job ≡ true →
    Fits (replaced_progress g) (ended r i job)
fits_replaced (Receiving b) r i (Waiting p) f e =
    subst (λ (x : Bool). Fits (replaced_progress (Receiving b))
    (if x then Over (machine.Replaced (Some p.into.buffer)) else Waiting p)) (sym e)
    (ap (λ (h : Handed). machine.Replaced (Some h.buffer)) f.into ∙
    ap (λ (c : Contents). machine.Replaced (Some c)) (handed_buffer b.into))
fits_replaced (Receiving b) r i (Collecting p h got) f e = absurd f
fits_replaced (Receiving b) r i (Offering d basic values) f e = absurd f
fits_replaced (Receiving b) r i (Over x) f e = absurd f
fits_replaced (Receiving b) r i Closed f e = absurd f
fits_replaced (Receiving b) r i (Unmatched d) f e = absurd f
fits_replaced (Receiving b) r i (Probed g h) f e = absurd f
fits_replaced (progresses.Collecting w) r i (Waiting p) f e = absurd f
fits_replaced (progresses.Collecting w) r i (Collecting p h got) f e =
    subst (λ (x : Bool). Fits (replaced_progress (progresses.Collecting w))
    (if x then Over (machine.Replaced (Some p.into.buffer)) else Collecting p h got)) (sym e)
    (ap (λ (y : Handed). machine.Replaced (Some y.buffer)) f.into ∙
    ap (λ (c : Contents). machine.Replaced (Some c)) (handed_buffer w.into))
fits_replaced (progresses.Collecting w) r i (Offering d basic values) f e = absurd f
fits_replaced (progresses.Collecting w) r i (Over x) f e = absurd f
fits_replaced (progresses.Collecting w) r i Closed f e = absurd f
fits_replaced (progresses.Collecting w) r i (Unmatched d) f e = absurd f
fits_replaced (progresses.Collecting w) r i (Probed g h) f e = absurd f
fits_replaced progresses.Offering r i (Waiting p) f e = absurd f
fits_replaced progresses.Offering r i (Collecting p h got) f e = absurd f
fits_replaced progresses.Offering r i (Offering d basic values) f e =
    subst (λ (x : Bool). Fits (replaced_progress progresses.Offering) (if x then Over (machine.Replaced None) else
    Offering d basic values)) (sym e) refl
fits_replaced progresses.Offering r i (Over x) f e = absurd f
fits_replaced progresses.Offering r i Closed f e = absurd f
fits_replaced progresses.Offering r i (Unmatched d) f e =
    subst (λ (x : Bool). Fits (replaced_progress progresses.Offering) (if x then Over (machine.Replaced None) else
    Unmatched d)) (sym e) refl
fits_replaced progresses.Offering r i (Probed g h) f e = absurd f
fits_replaced (progresses.TakenOut t) r i (Waiting p) f e = absurd f
fits_replaced (progresses.TakenOut t) r i (Collecting p h got) f e = absurd f
fits_replaced (progresses.TakenOut t) r i (Offering d basic values) f e = absurd f
fits_replaced (progresses.TakenOut t) r i (Over x) f e = absurd f
fits_replaced (progresses.TakenOut t) r i Closed f e = absurd f
fits_replaced (progresses.TakenOut t) r i (Unmatched d) f e = absurd f
fits_replaced (progresses.TakenOut t) r i (Probed g None) f e = absurd (grind arith)
fits_replaced (progresses.TakenOut t) r i (Probed g (Some h)) f e =
    subst (λ (x : Bool). Fits (replaced_progress (progresses.TakenOut t)) (Probed g (if x then None else Some h)))
    (sym e) (record { group_is = f.group_is; there = refl })
fits_replaced (Finished o) r i (Waiting p) f e = absurd f
fits_replaced (Finished o) r i (Collecting p h got) f e = absurd f
fits_replaced (Finished o) r i (Offering d basic values) f e = absurd f
fits_replaced (Finished o) r i (Over x) f e = f
fits_replaced (Finished o) r i Closed f e = absurd f
fits_replaced (Finished o) r i (Unmatched d) f e = absurd f
fits_replaced (Finished o) r i (Probed g h) f e = absurd f

-- a request that doesn't end stays as it was
ended_kept : (r i : ℕ) (job : Job) → ends_by r i job ≡ false → ended r i job ≡ job
ended_kept r i (Waiting p) e =
    ap (λ (x : Bool). if x then Over (machine.Replaced (Some p.into.buffer)) else Waiting p) e
ended_kept r i (Collecting p h got) e =
    ap (λ (x : Bool). if x then Over (machine.Replaced (Some p.into.buffer)) else Collecting p h got) e
ended_kept r i (Offering d basic values) e =
    ap (λ (x : Bool). if x then Over (machine.Replaced None) else Offering d basic values) e
ended_kept r i (Over x) e = refl
ended_kept r i Closed e = refl
ended_kept r i (Unmatched d) e = ap (λ (x : Bool). if x then Over (machine.Replaced None) else Unmatched d) e
ended_kept r i (Probed g None) e = refl
ended_kept r i (Probed g (Some h)) e = ap (λ (x : Bool). Probed g (if x then None else Some h)) e

-- so how far it is says the same
fits_kept : (g : RequestProgress) (r i : ℕ) (job : Job) → Fits g job → ends_by r i job ≡ false → Fits g (ended r i job)
fits_kept g r i job f e = subst (λ (j : Job). Fits g j) (sym (ended_kept r i job e)) f

-- true is not false
only_true : (b : Bool) → (b ≡ true → ⊥) → b ≡ false
only_true true n = absurd (n refl)
only_true false n = refl

-- a closed request doesn't end
ends_open : (r i : ℕ) (job : Job) → ends_by r i job ≡ true → job ≡ Closed → ⊥
ends_open r i job e c =
    let f : false ≡ true = sym (ap (ends_by r i) c) ∙ e in
    absurd cc

-- a request under one of the keys ends
ends_true : (slots : List (Option TableEntry)) (rows : List Row) (r i k key : ℕ) (job : Job) (keys : List ℕ) →
    IsTable slots rows → AreEnding rows r i keys →
    slice_get rows k ≡ Some (record { key = key; job = job }) → (job ≡ Closed → ⊥) → IsAmong key keys →
    ends_by r i job ≡ true
ends_true slots rows r i k key job keys table are at live a =
    let n : IsEnding rows r i key = are.only key a in
    let one : (k ≡ n.serial) × (job ≡ n.job) = one_request slots rows k n.serial key job n.job table at live n.there (ends_open r i n.job n.ends) in
    ap (ends_by r i) one.1 ∙ n.ends

-- a request under none of them doesn't
pub ends_false : (rows : List Row) (r i k key : ℕ) (job : Job) (keys : List ℕ) → AreEnding rows r i keys →
    slice_get rows k ≡ Some (record { key = key; job = job }) → (IsAmong key keys → ⊥) → ends_by r i job ≡ false
ends_false rows r i k key job keys are at n = only_true (ends_by r i job) (λ e. n (are.each k key job at e))

-- the slot of a row, by whether its key is one of them
holds_replaced : (slots : List (Option TableEntry)) (rows : List Row) (r i k key : ℕ) (job : Job) (keys : List ℕ) →
    IsTable slots rows → AreEnding rows r i keys →
    slice_get rows k ≡ Some (record { key = key; job = job }) → (job ≡ Closed → ⊥) → Holds (slot_at slots key) k job →
    Holds (slot_at (after_replaces slots keys) key) k (ended r i job)
holds_replaced slots rows r i k key job keys table are at live h = go (cases_among key keys)
  where
    go : IsAmong key keys ⊎ (IsAmong key keys → ⊥) → Holds (slot_at (after_replaces slots keys) key) k (ended r i job)
    go (inl a) =
        record {
          entry = replaced_entry h.entry;
          there = replaces_among keys slots key a ∙ ap (λ (s : Option TableEntry). option_map replaced_entry s) h.there;
          serial_is = h.serial_is;
          fits = fits_replaced h.entry.progress r i job h.fits
              (ends_true slots rows r i k key job keys table are at live a);
        }
    go (inr n) =
        record {
          entry = h.entry;
          there = replaces_apart keys slots key n ∙ h.there;
          serial_is = h.serial_is;
          fits = fits_kept h.entry.progress r i job h.fits (ends_false rows r i k key job keys are at n);
        }

-- a row's slot holds what has become of it
stands_replaced : (slots : List (Option TableEntry)) (rows : List Row) (r i k key : ℕ) (job : Job) (keys : List ℕ) →
    IsTable slots rows → AreEnding rows r i keys →
    slice_get rows k ≡ Some (record { key = key; job = job }) →
    Stands (slot_at (after_replaces slots keys) key) k (ended r i job)
stands_replaced slots rows r i k key job keys table are at =
    go (ended_or_held (slot_at slots key) k job (table.stands k (record { key = key; job = job }) at))
  where
    after : Option TableEntry
    after = slot_at (after_replaces slots keys) key

    go : (job ≡ Closed) ⊎ Holds (slot_at slots key) k job → Stands after k (ended r i job)
    go (inl e) = closed_stands after k (ended r i job) (ap (ended r i) e)
    go (inr h) =
        held_stands after k (ended r i job)
        (holds_replaced slots rows r i k key job keys table are at
        (λ e. open_of h.entry.progress (subst (λ (j : Job). Fits h.entry.progress j) e h.fits)) h)

-- where these are the keys of the requests that end, the table stands for what has become of them
pub replaced_table : (slots : List (Option TableEntry)) (rows : List Row) (r i : ℕ) (keys : List ℕ) →
    IsTable slots rows → AreEnding rows r i keys →
    IsTable (after_replaces slots keys) (map (ended_row r i) rows)
replaced_table slots rows r i keys table are =
    record {
      stands = λ k row h. stands k row (slice_get rows k) refl (sym (slice_get-map (ended_row r i) rows k) ∙ h);
      entries = λ key t h. entries key t (cases_among key keys) h;
    }
  where
    after : List (Option TableEntry)
    after = after_replaces slots keys

    stands : (k : ℕ) (row : Row) (o : Option Row) → slice_get rows k ≡ o → option_map (ended_row r i) o ≡ Some row →
        Stands (slot_at after row.key) k row.job
    stands k row None e h = absurd (none-some row h)
    stands k row (Some x) e h =
        subst (λ (y : Row). Stands (slot_at after y.key) k y.job) (same_Some (ended_row r i x) row h)
        (stands_replaced slots rows r i k x.key x.job keys table are e)

    there : (key : ℕ) (t : TableEntry) (x : IsRow rows key t) →
        slice_get rows t.serial ≡ Some (record { key = key; job = x.row.job })
    there key t x = x.there ∙ ap (λ (n : ℕ). Some (record { key = n; job = x.row.job })) x.key_is

    kept : (key : ℕ) (t : TableEntry) → (IsAmong key keys → ⊥) → IsRow rows key t →
        IsRow (map (ended_row r i) rows) key t
    kept key t n x =
        record {
          row = ended_row r i x.row;
          there = ended_at r i rows t.serial x.row x.there;
          key_is = x.key_is;
          fits = fits_kept t.progress r i x.row.job x.fits
              (ends_false rows r i t.serial key x.row.job keys are (there key t x) n);
        }

    replaced : (key : ℕ) (t : TableEntry) → IsAmong key keys → IsRow rows key t →
        IsRow (map (ended_row r i) rows) key (replaced_entry t)
    replaced key t a x =
        record {
          row = ended_row r i x.row;
          there = ended_at r i rows t.serial x.row x.there;
          key_is = x.key_is;
          fits = fits_replaced t.progress r i x.row.job x.fits
              (ends_true slots rows r i t.serial key x.row.job keys table are (there key t x)
              (λ e. open_of t.progress (subst (λ (j : Job). Fits t.progress j) e x.fits)) a);
        }

    among : (key : ℕ) (t : TableEntry) (s : Option TableEntry) → slot_at slots key ≡ s → IsAmong key keys →
        option_map replaced_entry s ≡ Some t → IsRow (map (ended_row r i) rows) key t
    among key t None e a h = absurd (none-some t h)
    among key t (Some u) e a h =
        subst (λ (x : TableEntry). IsRow (map (ended_row r i) rows) key x) (same_Some (replaced_entry u) t h)
        (replaced key u a (table.entries key u e))

    entries : (key : ℕ) (t : TableEntry) → IsAmong key keys ⊎ (IsAmong key keys → ⊥) → slot_at after key ≡ Some t →
        IsRow (map (ended_row r i) rows) key t
    entries key t (inl a) h = among key t (slot_at slots key) refl a (sym (replaces_among keys slots key a) ∙ h)
    entries key t (inr n) h = kept key t n (table.entries key t (sym (replaces_apart keys slots key n) ∙ h))
