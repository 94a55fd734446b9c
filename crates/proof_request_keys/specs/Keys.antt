-- Under which key a request stands: as long as it stands, under the one with which it was given.
use Rattle.std.specs.Prelude.{◌≡◌, ◌<◌, ℕ, false, List, Option, Some, None, Ok}
use Rattle.vocabulary.specs.declared.envelope.Status.{Status}
use Rattle.requests.specs.Table.{slot_at}
use Rattle.requests.specs.declared.table.TableEntry.{TableEntry}
use Rattle.requests.specs.declared.table.Request.{Request}
use Rattle.point_to_point.specs.CoreState.{CoreState}
use Rattle.engine_calls.specs.Calls.{CallGives}
use Rattle.engine_calls.specs.EngineState.{EngineState}
use Rattle.engine_calls.specs.declared.call.Call.{Call}
use Rattle.engine_calls.specs.declared.reply.Reply.{Reply}
use Rattle.engine_calls.specs.declared.reply.Reply.TheVariants as replies
use Rattle.engine.specs.Datagrams.{DatagramGives}
use Rattle.engine.specs.Ticks.{TickGives}
use Rattle.observation.specs.CoreCalls.{is_foreign}
pub use Rattle.observation.specs.Requests.{message_given, request_given}

-- ---- what is given

-- ---- where it stands

-- what stands under a key has another serial than the request, or it is the request's key
abbrev pub IsApart : Request → (key : ℕ) → Option TableEntry → Type 0
IsApart q key None = Unit {0}
IsApart q key (Some t) = t.serial ≡ q.serial → key ≡ q.key

-- the request was given, so that later ones have later serials; and as long as it stands in the table, it stands under
-- its key
pub record IsNamed (c : CoreState) (q : Request) : Type 0 where
  pub given : q.serial < c.serial
  pub stands : (key : ℕ) → IsApart q key (slot_at c.slots key)

-- what stands under a key has a serial below this one
abbrev pub IsBelow : (serial : ℕ) → Option TableEntry → Type 0
IsBelow serial None = Unit {0}
IsBelow serial (Some t) = t.serial < serial

-- each request in the table has a serial that was given
abbrev pub AreGiven : CoreState → Type 0
AreGiven c = (key : ℕ) → IsBelow c.serial (slot_at c.slots key)

-- ---- the laws

-- an event leaves an engine's core at its place, and each request under its key
pub record KeepsKeys (old new : CoreState) : Type 0 where
  pub place : new.place ≡ old.place
  pub named : (q : Request) → IsNamed old q → IsNamed new q

-- so does a call, taken or refused
abbrev pub CallsKeepKeys : Type 0
CallsKeepKeys =
    (old mid : EngineState) (call : Call) (reply : Reply) → CallGives old call reply mid → KeepsKeys old.core mid.core

-- and what a call gives stands under its key
abbrev pub GivenAreNamed : Type 0
GivenAreNamed =
    (old mid : EngineState) (call : Call) (reply : Reply) (q : Request) → AreGiven old.core →
    CallGives old call reply mid →
    request_given reply ≡ Some q → IsNamed mid.core q

-- a datagram that is taken in keeps keys
abbrev pub DatagramsKeepKeys : Type 0
DatagramsKeepKeys =
    (old mid : EngineState) (bytes : List ℕ) → DatagramGives old bytes (Ok tt) mid → KeepsKeys old.core mid.core

-- and so does a tick
abbrev pub TicksKeepKeys : Type 0
TicksKeepKeys = (old mid : EngineState) (now : ℕ) → TickGives old now (Ok tt) mid → KeepsKeys old.core mid.core

-- no such request is another engine's
abbrev pub NamedAreOwn : Type 0
NamedAreOwn = (c : CoreState) (q : Request) → IsNamed c q → is_foreign c.slots q ≡ false
