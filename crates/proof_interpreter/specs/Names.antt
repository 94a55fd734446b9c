-- Names, read one by one: what each stands for, and what the machine's outcomes give them.
use Rattle.std.specs.Prelude.{◌≡◌, ℕ, List, Option, Some, None, option_and_then}
use Rattle.layouts.specs.Buffers.{Contents}
use Rattle.perfect_queues.specs.Outcomes.{Cancelled, Empty, Ended, Outcome, Received, Replaced, Sent}
use Rattle.vocabulary.specs.declared.envelope.Source.TheVariants as sources
use Rattle.vocabulary.specs.declared.envelope.Status.{Status}
use Rattle.interpreter.specs.NamesState.{NamesState}
use Rattle.script_calls.specs.Tables.{value_at}

-- the buffer of this name holds these elements
abbrev pub Holds : NamesState → List ℕ → Contents → Type 0
Holds s name elements = value_at s.buffers name ≡ Some (Some elements)

-- the buffer of this name is lent
abbrev pub IsLent : NamesState → List ℕ → Type 0
IsLent s name = value_at s.buffers name ≡ Some None

-- the name of the buffer with which the operation was started whose request this name stands for
abbrev pub started_with : NamesState → List ℕ → Option (List ℕ)
started_with s name = option_and_then (λ h. h.buffer) (value_at s.requests name)

-- it isn't the name, if there is one
abbrev pub IsOther : Option (List ℕ) → List ℕ → Type 0
IsOther None name = Unit {0}
IsOther (Some one) name = name ≡ one → ⊥

-- Every name stands for what it stood for, but perhaps one of a request, one of a buffer, one of a message and one of a
-- communicator
pub record OthersStay (old new : NamesState) (request buffer message communicator : Option (List ℕ)) : Type 0 where
  pub rank : new.rank ≡ old.rank
  pub layouts : (name : List ℕ) → value_at new.layouts name ≡ value_at old.layouts name
  pub requests : (name : List ℕ) → IsOther request name → value_at new.requests name ≡ value_at old.requests name
  pub buffers : (name : List ℕ) → IsOther buffer name → value_at new.buffers name ≡ value_at old.buffers name
  pub messages : (name : List ℕ) → IsOther message name → value_at new.messages name ≡ value_at old.messages name
  pub communicators :
      (name : List ℕ) → IsOther communicator name →
      value_at new.communicators name ≡ value_at old.communicators name

-- every name stands for what it stood for, and the last status is what it was
pub record AllStays (old new : NamesState) : Type 0 where
  pub others : OthersStay old new None None None None
  pub last : new.last ≡ old.last

-- ---- outcomes of the machine (MPI 3.1, 3.2.5 and 3.7.3)

-- the buffer that is handed back
abbrev pub handed_back : Outcome → Option Contents
handed_back Sent = None
handed_back (Received status buffer) = Some buffer
handed_back (Ended number status buffer) = Some buffer
handed_back (Replaced buffer) = buffer
handed_back (Cancelled buffer) = Some buffer
handed_back Empty = None

-- the number of the error
abbrev pub error_in : Outcome → Option ℕ
error_in Sent = None
error_in (Received status buffer) = None
error_in (Ended number status buffer) = Some number
error_in (Replaced buffer) = Some 11
error_in (Cancelled buffer) = None
error_in Empty = None

-- the status of the null request
abbrev pub nobodys : Status
nobodys = record { source = sources.Any; tag = None; count = 0 }

-- the last status behind it: that of a receive that ended well, or of the null request; else it is what it was
abbrev pub last_status : Status → Outcome → Status
last_status before Sent = before
last_status before (Received status buffer) = status
last_status before (Ended number status buffer) = before
last_status before (Replaced buffer) = before
last_status before (Cancelled buffer) = before
last_status before Empty = nobodys

-- the buffer of this name, if there is one, holds what is handed back, if anything is
abbrev pub HoldsBack : NamesState → Option (List ℕ) → Option Contents → Type 0
HoldsBack s None back = Unit {0}
HoldsBack s (Some name) None = Unit {0}
HoldsBack s (Some name) (Some elements) = Holds s name elements

-- the name whose buffer is set then
abbrev pub set_by : Option (List ℕ) → Option Contents → Option (List ℕ)
set_by name None = None
set_by name (Some elements) = name

-- An outcome has come to its names: what it hands back is in the buffer of this name, if there is one, and every other
-- name stands for what it stood for, but for those of its request and its message
pub record HasCome (old new : NamesState) (request buffer message : Option (List ℕ)) (o : Outcome) : Type 0 where
  pub back : HoldsBack new buffer (handed_back o)
  pub others : OthersStay old new request (set_by buffer (handed_back o)) message None
