-- Requests of other engines, and requests that stand in the table.
use Rattle.std.proofs.Common.{◌≡◌, ℕ, zero, suc, Bool, true, false, not, ◌&&◌, ◌||◌, List, [], ◌∷◌, Option, Some, None}
use Rattle.std.proofs.Common.{if◌then◌else◌, ◌==◌, refl, sym, ap, ◌∙◌}
use Rattle.std.specs.List.{list_any}
use Rattle.std.proofs.lemmas.Bool.{eq-eqb}
use Rattle.proof_pure_network.specs.Jobs.{Job}
use Rattle.requests.specs.Table.{progress_at, progress_of, slot_at}
use Rattle.requests.specs.declared.table.TableEntry.{TableEntry}
use Rattle.requests.specs.declared.table.RequestProgress.{RequestProgress}
use Rattle.requests.specs.declared.table.Request.{Request}
use Rattle.point_to_point.specs.CoreState.{CoreState}
use Rattle.proof_engine_view.specs.Rows.{Holds}
use Rattle.observation.specs.CoreCalls.{has_serial, is_foreign, serial_meant}

-- WHETHER A SLOT HOLDS A SERIAL

-- a slot in which no progress is told of a serial doesn't hold it
not_held : (slot : Option TableEntry) (k : ℕ) → progress_of slot k ≡ None → has_serial k slot ≡ false
not_held None k h = refl
not_held (Some t) k h = go (t.serial == k) refl h
  where
    go : (b : Bool) → (t.serial == k) ≡ b → (if b then Some t.progress else None) ≡ None → (t.serial == k) ≡ false
    go true is h' = absurd cc
    go false is h' = is

-- one in which some progress is told holds it
told_held : (slot : Option TableEntry) (k : ℕ) (g : RequestProgress) → progress_of slot k ≡ Some g →
    has_serial k slot ≡ true
told_held None k g h = absurd cc
told_held (Some t) k g h = go (t.serial == k) refl h
  where
    go : (b : Bool) → (t.serial == k) ≡ b → (if b then Some t.progress else None) ≡ Some g → (t.serial == k) ≡ true
    go true is h' = is
    go false is h' = absurd cc

-- the second part of a disjunction holds
or_true : (a b : Bool) → b ≡ true → (a || b) ≡ true
or_true true b h = refl
or_true false b h = h

-- a slot that holds a serial is found among all
found_among : (slots : List (Option TableEntry)) (key k : ℕ) → has_serial k (slot_at slots key) ≡ true →
    list_any (has_serial k) slots ≡ true
found_among [] key k h = h
found_among (x ∷ xs) zero k h = ap (λ (b : Bool). b || list_any (has_serial k) xs) h
found_among (x ∷ xs) (suc j) k h = or_true (has_serial k x) (list_any (has_serial k) xs) (found_among xs j k h)

-- WHETHER ANOTHER ENGINE GAVE A REQUEST

-- a request of which the table holds the serial, but not under its key, is another engine's
pub foreign_of : (slots : List (Option TableEntry)) (q : Request) (key : ℕ) (j : Job) →
    progress_at slots q.key q.serial ≡ None →
    is_foreign slots q ≡ false → Holds (slot_at slots key) q.serial j → ⊥
foreign_of slots q key j h own held =
    let here : has_serial q.serial (slot_at slots key) ≡ true = ap (has_serial q.serial) held.there ∙ eq-eqb held.entry.serial q.serial held.serial_is in
    let some : list_any (has_serial q.serial) slots ≡ true = found_among slots key q.serial here in
    let apart : has_serial q.serial (slot_at slots q.key) ≡ false = not_held (slot_at slots q.key) q.serial h in
    let foreign : is_foreign slots q ≡ true =
    ap (λ (b : Bool). b && not (has_serial q.serial (slot_at slots q.key))) some ∙ ap (λ (b : Bool). not b) apart in
    let clash : true ≡ false = sym foreign ∙ own in
    absurd cc

-- such a one stands for the next serial
pub meant_foreign : (e : CoreState) (q : Request) → is_foreign e.slots q ≡ true → serial_meant e q ≡ e.serial
meant_foreign e q h = ap (λ (b : Bool). if b then e.serial else q.serial) h

-- any other for its own
pub meant_own : (e : CoreState) (q : Request) → is_foreign e.slots q ≡ false → serial_meant e q ≡ q.serial
meant_own e q h = ap (λ (b : Bool). if b then e.serial else q.serial) h

-- nothing is foreign that stands under its key
and_not : (a b : Bool) → b ≡ true → (a && not b) ≡ false
and_not true b h = ap (λ (x : Bool). not x) h
and_not false b h = refl

-- a request that the table holds stands for its own serial
pub held_own : (e : CoreState) (q : Request) (g : RequestProgress) → progress_at e.slots q.key q.serial ≡ Some g →
    serial_meant e q ≡ q.serial
held_own e q g h =
    meant_own e q (and_not (list_any (has_serial q.serial) e.slots) (has_serial q.serial (slot_at e.slots q.key))
    (told_held (slot_at e.slots q.key) q.serial g h))
