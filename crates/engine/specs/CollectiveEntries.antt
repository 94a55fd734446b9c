-- Entering a collective of the communicator at a place: what that gives, and why it doesn't.
use Rattle.std.specs.Prelude.{◌≡◌, ◌⊎◌, ℕ, Option, Some, None, Result, Ok, Err}
use Rattle.collective_messages.specs.declared.entry.Entry.{Entry}
use Rattle.rendezvous.specs.PayloadState.{after_announcing}
use Rattle.collectives.specs.Calls.{EntryGives, inside_of}
use Rattle.collective_steps.specs.Steps.{IsPreparedEntry, Prepared}
use Rattle.collective_steps.specs.Steps as steps
use Rattle.collective_steps.specs.declared.step.Ending.{Ending}
use Rattle.point_to_point_calls.specs.declared.call.HandedBack.{HandedBack}
use Rattle.point_to_point_calls.specs.declared.refusal.Refusal.{Refusal}
use Rattle.point_to_point_calls.specs.declared.refusal.Refusal.TheVariants as refusals
use Rattle.point_to_point.specs.CoreState.{with_numbers}
use Rattle.sessions.specs.Events.{after_event}
use Rattle.engine.specs.Parts.{PartsState}
use Rattle.engine_calls.specs.Frames.{AreWhole, step_limit, step_numbers, step_payloads, step_sendings}

-- the rank has entered, does of itself what follows, and the others are told; what is announced by it is counted by the
-- core, and kept
pub record Goes (old : PartsState) (place : ℕ) (x : Entry) (ending : Option Ending) (new : PartsState) : Type 0 where
  pub step : Prepared
  pub enters :
      EntryGives old.groups.collective old.groups.contexts (inside_of old.groups.collective old.groups.contexts place x)
      (Ok (ending, step)) new.groups.collective new.groups.contexts
  pub whole : AreWhole step.messages
  pub goes : step_limit old.sessions old.core.transfers.numbers None step.messages ≡ None
  pub counted : new.core ≡
      with_numbers old.core
      (step_numbers old.sessions.place.message_limit old.core.transfers.numbers step.messages)
  pub kept : new.payloads ≡
      after_announcing old.payloads
      (step_payloads old.sessions.place.message_limit old.core.transfers.numbers step.messages)
  pub sent : new.sessions ≡
      after_event old.sessions None (step_sendings old.sessions.place old.core.transfers.numbers step.messages)

-- what the rank would do of itself meets a limit: a communicator can't be held or given, or a frame can't go
pub record IsLimited (old : PartsState) (place : ℕ) (x : Entry) : Type 0 where
  pub step : Prepared
  pub prepared :
      IsPreparedEntry old.groups.collective.own (inside_of old.groups.collective old.groups.contexts place x)
      old.groups.contexts old.groups.collective.kept step
  pub limit :
      steps.MeetsLimit old.groups.contexts step
      ⊎ (step_limit old.sessions old.core.transfers.numbers None step.messages ≡ Some refusals.Limit)

-- why it doesn't enter: for that, or for want of memory
abbrev pub WhyNot : PartsState → (place : ℕ) → Entry → Refusal → Type 0
WhyNot old place x refusals.OutOfMemory = Unit {0}
WhyNot old place x refusals.Limit = IsLimited old place x
WhyNot old place x _ = ⊥

-- the rank enters, or it doesn't
abbrev pub GoingGives : (old : PartsState) → (place : ℕ) → Entry → Result (Option Ending) (HandedBack Entry) →
    (new : PartsState) → Type 0
GoingGives old place x (Ok ending) new = Goes old place x ending new
GoingGives old place x (Err back) new = WhyNot old place x back.refused
