-- The serials of a table stay apart and below the next one, through whatever gives each request its key and its serial.
use Rattle.std.proofs.Common.{◌≡◌, ◌≤◌, ◌<◌, ◌+◌, ◌⊎◌, ℕ, List, Option, Some, None, refl, sym, ap, subst, ◌∙◌, arith}
use Rattle.std.proofs.Common.{inl, inr}
use Rattle.std.proofs.lemmas.Option.{same_Some}
use Rattle.point_to_point.specs.CoreState.{CoreState}
use Rattle.point_to_point_calls.specs.CoreCalls.{CoreReply}
use Rattle.proof_engine_faults.proofs.Rows.{IsOrdered}
use Rattle.proof_request_keys.proofs.Cores.{GoesOn, IsNext, StaysIn, request_in}
use Rattle.proof_request_keys.proofs.Tables.{All, At}
use Rattle.requests.specs.Table.{slot_at}
use Rattle.requests.specs.declared.table.Request.{Request}
use Rattle.requests.specs.declared.table.TableEntry.{TableEntry}

-- ---- what stood in a table

-- an entry stood under this key, with this serial
record Stood (slots : List (Option TableEntry)) (key serial : ℕ) : Type 0 where
  entry : TableEntry
  there : slot_at slots key ≡ Some entry
  serial_is : entry.serial ≡ serial

all_stood : (slots : List (Option TableEntry)) → All (Stood slots) slots
all_stood slots key = go (slot_at slots key) refl
  where
    go : (o : Option TableEntry) → slot_at slots key ≡ o → At (Stood slots) key o
    go None is = tt
    go (Some t) is = record { entry = t; there = is; serial_is = refl }

-- what is so of all entries is so of the one under a key
at_key : (P : ℕ → ℕ → Type 0) (slots : List (Option TableEntry)) (key : ℕ) (t : TableEntry) → All P slots →
    slot_at slots key ≡ Some t → P key t.serial
at_key P slots key t all is = subst (At P key) is (all key)

-- ---- what starts nothing

pub stays_ordered : (old new : CoreState) → StaysIn old new → IsOrdered old.slots old.serial →
    IsOrdered new.slots new.serial
stays_ordered old new s o = record {
  below = λ key t is.
      let a : Stood old.slots key t.serial = stood key t is in
      let lt : a.entry.serial < old.serial = o.below key a.entry a.there in
      let same : a.entry.serial ≡ t.serial = a.serial_is in
      let next : new.serial ≡ old.serial = s.serial in
      omega (arith, lt, same, next);
  apart = λ key other t u is is_other same.
      let a : Stood old.slots key t.serial = stood key t is in
      let b : Stood old.slots other u.serial = stood other u is_other in
      o.apart key other a.entry b.entry a.there b.there (a.serial_is ∙ same ∙ sym b.serial_is);
}
  where
    stood : (key : ℕ) (t : TableEntry) → slot_at new.slots key ≡ Some t → Stood old.slots key t.serial
    stood key t is = at_key (Stood old.slots) new.slots key t (s.all (Stood old.slots) (all_stood old.slots)) is

-- ---- what starts a request

-- the request that was started stands under this key, with the serial that was the next one
record IsStarted (old : CoreState) (reply : CoreReply) (key serial : ℕ) : Type 0 where
  request : Request
  given : request_in reply ≡ Some request
  key_is : key ≡ request.key
  serial_is : serial ≡ old.serial

-- it stood there, or is the one that was started
abbrev StoodOr : (old : CoreState) (reply : CoreReply) (key serial : ℕ) → Type 0
StoodOr old reply key serial = Stood old.slots key serial ⊎ IsStarted old reply key serial

older : (old : CoreState) (reply : CoreReply) → All (StoodOr old reply) old.slots
older old reply key = go (slot_at old.slots key) (all_stood old.slots key)
  where
    go : (o : Option TableEntry) → At (Stood old.slots) key o → At (StoodOr old reply) key o
    go None here = tt
    go (Some t) here = inl here

pub goes_ordered : (old new : CoreState) (reply : CoreReply) → GoesOn old reply new →
    IsOrdered old.slots old.serial → IsOrdered new.slots new.serial
goes_ordered old new reply g o = record {
  below = λ key t is. below_by key t.serial (stood key t is);
  apart = λ key other t u is is_other same. apart_by key other t.serial u.serial same (stood key t is)
      (stood other u is_other);
}
  where
    stood : (key : ℕ) (t : TableEntry) → slot_at new.slots key ≡ Some t → StoodOr old reply key t.serial
    stood key t is =
        at_key (StoodOr old reply) new.slots key t
        (g.all (StoodOr old reply)
        (λ q q_is. inr (record { request = q; given = q_is; key_is = refl; serial_is = refl }))
        (older old reply)) is

    below_by : (key serial : ℕ) → StoodOr old reply key serial → serial < new.serial
    below_by key serial (inl a) =
        let lt : a.entry.serial < old.serial = o.below key a.entry a.there in
        let same : a.entry.serial ≡ serial = a.serial_is in
        let grows : old.serial ≤ new.serial = g.grows in
        omega (arith, lt, same, grows)
    below_by key serial (inr a) =
        let next : IsNext old new a.request = g.next a.request a.given in
        let later : new.serial ≡ old.serial + 1 = next.later in
        let is : serial ≡ old.serial = a.serial_is in
        omega (arith, later, is)

    apart_by : (key other serial later : ℕ) → serial ≡ later → StoodOr old reply key serial →
        StoodOr old reply other later → key ≡ other
    apart_by key other serial later same (inl a) (inl b) =
        o.apart key other a.entry b.entry a.there b.there (a.serial_is ∙ same ∙ sym b.serial_is)
    apart_by key other serial later same (inl a) (inr b) =
        let lt : a.entry.serial < old.serial = o.below key a.entry a.there in
        let at : a.entry.serial ≡ serial = a.serial_is in
        let is : later ≡ old.serial = b.serial_is in
        absurd (omega (arith, lt, at, same, is))
    apart_by key other serial later same (inr a) (inl b) =
        let lt : b.entry.serial < old.serial = o.below other b.entry b.there in
        let at : b.entry.serial ≡ later = b.serial_is in
        let is : serial ≡ old.serial = a.serial_is in
        absurd (omega (arith, lt, at, same, is))
    apart_by key other serial later same (inr a) (inr b) =
        let one : a.request ≡ b.request = same_Some a.request b.request (sym a.given ∙ b.given) in
        a.key_is ∙ ap (λ (q : Request). q.key) one ∙ sym b.key_is
