-- A table in which nothing is under way, of which calls may do the same.
use Rattle.std.proofs.Common.{◌≡◌, ℕ, zero, suc, Bool, true, false, ◌&&◌, ◌||◌, not, List, [], ◌∷◌, map, Option, Some}
use Rattle.std.proofs.Common.{None, option_map, if◌then◌else◌, ◌==◌, is_some, refl, ap, ap₂, ◌∙◌}
use Rattle.std.specs.List.{list_any}
use mathlib.Core.Path.{fun_ext}
use Rattle.observation.specs.CoreCalls.{has_serial, is_foreign}
use Rattle.requests.specs.Lists.{is_one_absent}
use Rattle.requests.specs.Table.{as_request, is_message, is_receive, progress_at, progress_of, slot_at}
use Rattle.requests.specs.declared.outcome.Outcome.TheVariants as outcomes
use Rattle.requests.specs.declared.table.TableEntry.{TableEntry}
use Rattle.requests.specs.declared.table.RequestProgress.{RequestProgress}
use Rattle.requests.specs.declared.table.RequestProgress.TheVariants.{Receiving, Collecting, Offering, TakenOut}
use Rattle.requests.specs.declared.table.RequestProgress.TheVariants.{Finished}
use Rattle.requests.specs.declared.table.Request.{Request}

-- a receive that waits or collects is one that is over, and so is a send; and of a message that was taken out nothing
-- is left
abbrev pub calm_progress : RequestProgress → RequestProgress
calm_progress (Receiving w) = Finished outcomes.Empty
calm_progress (Collecting w) = Finished outcomes.Empty
calm_progress Offering = Finished outcomes.Sent
calm_progress (TakenOut t) = TakenOut (record { group = None; message = None })
calm_progress (Finished o) = Finished o

abbrev pub calm_entry : TableEntry → TableEntry
calm_entry t = record { serial = t.serial; progress = calm_progress t.progress }

abbrev pub calm : List (Option TableEntry) → List (Option TableEntry)
calm slots = map (option_map calm_entry) slots

pub calm_at : (slots : List (Option TableEntry)) (key : ℕ) →
    slot_at (calm slots) key ≡ option_map calm_entry (slot_at slots key)
calm_at [] key = refl
calm_at (x ∷ xs) zero = refl
calm_at (x ∷ xs) (suc key) = calm_at xs key

-- how far a request is there
progress_calm : (o : Option TableEntry) (serial : ℕ) → progress_of (option_map calm_entry o) serial ≡
    option_map calm_progress (progress_of o serial)
progress_calm None serial = refl
progress_calm (Some t) serial = go (t.serial == serial)
  where
    go : (b : Bool) → (if b then Some (calm_progress t.progress) else None) ≡
        option_map calm_progress (if b then Some t.progress else None)
    go true = refl
    go false = refl

pub calm_progress_at : (slots : List (Option TableEntry)) (key serial : ℕ) → progress_at (calm slots) key serial ≡
    option_map calm_progress (progress_at slots key serial)
calm_progress_at slots key serial = ap (λ (o : Option TableEntry). progress_of o serial) (calm_at slots key) ∙
    progress_calm (slot_at slots key) serial

-- ---- what calls ask of it

absent_alike : (o : Option RequestProgress) → is_some (as_request (option_map calm_progress o)) ≡ is_some (as_request o)
absent_alike None = refl
absent_alike (Some (Receiving w)) = refl
absent_alike (Some (Collecting w)) = refl
absent_alike (Some Offering) = refl
absent_alike (Some (TakenOut t)) = refl
absent_alike (Some (Finished o)) = refl

pub one_absent_alike : (slots : List (Option TableEntry)) (qs : List Request) → is_one_absent (calm slots) qs ≡
    is_one_absent slots qs
one_absent_alike slots qs =
    ap (λ (p : Request → Bool). list_any p qs)
    (fun_ext (λ q. ap not
    (ap (λ (o : Option RequestProgress). is_some (as_request o)) (calm_progress_at slots q.key q.serial) ∙
    absent_alike (progress_at slots q.key q.serial))))

receive_calm : (o : Option RequestProgress) → is_receive (option_map calm_progress o) ≡ is_receive o
receive_calm None = refl
receive_calm (Some (Receiving w)) = refl
receive_calm (Some (Collecting w)) = refl
receive_calm (Some Offering) = refl
receive_calm (Some (TakenOut t)) = refl
receive_calm (Some (Finished o)) = refl

pub receive_alike : (slots : List (Option TableEntry)) (q : Request) →
    is_receive (progress_at (calm slots) q.key q.serial) ≡ is_receive (progress_at slots q.key q.serial)
receive_alike slots q = ap is_receive (calm_progress_at slots q.key q.serial) ∙
    receive_calm (progress_at slots q.key q.serial)

message_calm : (o : Option RequestProgress) → is_message (option_map calm_progress o) ≡ is_message o
message_calm None = refl
message_calm (Some (Receiving w)) = refl
message_calm (Some (Collecting w)) = refl
message_calm (Some Offering) = refl
message_calm (Some (TakenOut t)) = refl
message_calm (Some (Finished o)) = refl

pub message_alike : (slots : List (Option TableEntry)) (q : Request) →
    is_message (progress_at (calm slots) q.key q.serial) ≡ is_message (progress_at slots q.key q.serial)
message_alike slots q = ap is_message (calm_progress_at slots q.key q.serial) ∙
    message_calm (progress_at slots q.key q.serial)

-- whose a request is

serial_calm : (serial : ℕ) (o : Option TableEntry) → has_serial serial (option_map calm_entry o) ≡ has_serial serial o
serial_calm serial None = refl
serial_calm serial (Some t) = refl

any_calm : (serial : ℕ) (slots : List (Option TableEntry)) → list_any (has_serial serial) (calm slots) ≡
    list_any (has_serial serial) slots
any_calm serial [] = refl
any_calm serial (x ∷ xs) = ap₂ (λ (a b : Bool). a || b) (serial_calm serial x) (any_calm serial xs)

pub foreign_alike : (slots : List (Option TableEntry)) (q : Request) → is_foreign (calm slots) q ≡ is_foreign slots q
foreign_alike slots q =
    ap₂ (λ (a b : Bool). a && not b) (any_calm q.serial slots)
    (ap (has_serial q.serial) (calm_at slots q.key) ∙ serial_calm q.serial (slot_at slots q.key))
