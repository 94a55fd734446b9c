-- What the names of a rank stand for.
use Rattle.std.specs.Prelude.{ℕ, ◌==◌, Bool, true, false, List, [], Option, Some, None, is_some, option_and_then}
use Rattle.std.specs.Prelude.{option_map}
use Rattle.vocabulary.specs.declared.envelope.Status.{Status}
use Rattle.layouts.specs.Layouts.{Shape}
use Rattle.datatypes.specs.Contents.{Contents}
use Rattle.requests.specs.declared.table.Request.{Request}
use Rattle.statements.specs.declared.action.CommunicatorName.{CommunicatorName}
use Rattle.statements.specs.declared.action.CommunicatorName.TheVariants as communicators
use Rattle.script_calls.specs.declared.pending.NamedRequest.{NamedRequest}
use Rattle.script_calls.specs.declared.pending.NamedMessage.{NamedMessage}
use Rattle.script_calls.specs.declared.pending.NamedCommunicator.{NamedCommunicator}
use Rattle.script_calls.specs.OutcomeTexts.{empty_status}
use Rattle.script_calls.specs.Tables.{Entry, value_at, with_value}
use Rattle.line_diagnostics.specs.Lacks.{Holdings}
use Rattle.line_diagnostics.specs.declared.holder.Slot.{Slot}
use Rattle.line_diagnostics.specs.declared.holder.Slot.TheVariants as slots

-- The rank in world, or none where world has no such rank; the buffers that were set, where none is one that is lent;
-- the layouts; the requests that were started; the messages that were taken out; the communicators that were made,
-- where none is MPI_COMM_NULL; and the status of the last receive or probe.
pub record NamesState : Type 0 where
  pub rank : Option ℕ
  pub buffers : List (Entry (Option Contents))
  pub layouts : List (Entry Shape)
  pub requests : List (Entry NamedRequest)
  pub messages : List (Entry NamedMessage)
  pub communicators : List (Entry (Option NamedCommunicator))
  pub last : Status

-- the names at the start, of this rank
abbrev pub no_names : Option ℕ → NamesState
no_names own = record {
  rank = own;
  buffers = [];
  layouts = [];
  requests = [];
  messages = [];
  communicators =
      [];
  last = empty_status;
}

-- the buffer of a name, unless it is lent or isn't set
abbrev pub here : NamesState → List ℕ → Option Contents
here s name = option_and_then (λ slot. slot) (value_at s.buffers name)

-- whether a slot is one that is lent
abbrev pub is_lent_slot : Option (Option Contents) → Bool
is_lent_slot None = false
is_lent_slot (Some None) = true
is_lent_slot (Some (Some buffer)) = false

-- whether the buffer of a name is lent
abbrev pub is_lent : NamesState → List ℕ → Bool
is_lent s name = is_lent_slot (value_at s.buffers name)

-- the request of a name, which may be null, if it is set
abbrev pub request_at : NamesState → List ℕ → Option (Option Request)
request_at s name = option_map (λ h. h.request) (value_at s.requests name)

-- what the name of a message stands for, if it is set
abbrev pub message_at : NamesState → List ℕ → Option NamedMessage
message_at s name = value_at s.messages name

-- the place among the rank's communicators of the one that a line names, if it is set: world has place 0, self place 1,
-- and none is
-- MPI_COMM_NULL
abbrev pub place_named : NamesState → CommunicatorName → Option (Option ℕ)
place_named s communicators.World = Some (Some 0)
place_named s communicators.Own = Some (Some 1)
place_named s (communicators.Named name) =
    option_map (λ held. option_map (λ seat. seat.place) held) (value_at s.communicators name)

-- whether this is the rank's rank in a communicator that was made
abbrev pub has_rank : ℕ → Option (Option NamedCommunicator) → Bool
has_rank root None = false
has_rank root (Some None) = false
has_rank root (Some (Some seat)) = seat.rank == root

abbrev pub is_root_at : NamesState → Option ℕ → CommunicatorName → ℕ → Bool
is_root_at s None communicator root = false
is_root_at s (Some own) communicators.World root = own == root
is_root_at s (Some own) communicators.Own root = root == 0
is_root_at s (Some own) (communicators.Named name) root = has_rank root (value_at s.communicators name)

-- whether the rank, which world has, is the member with this rank of the communicator that a line names; where there is
-- no such member, nobody is
abbrev pub is_root : NamesState → CommunicatorName → ℕ → Bool
is_root s communicator root = is_root_at s s.rank communicator root

-- a buffer's name stands for these elements, or is lent
abbrev pub with_buffer : NamesState → List ℕ → Option Contents → NamesState
with_buffer s name slot = record s { buffers = with_value s.buffers name slot }

-- a layout's name stands for this
abbrev pub with_layout : NamesState → List ℕ → Shape → NamesState
with_layout s name layout = record s { layouts = with_value s.layouts name layout }

-- a request's name stands for this
abbrev pub with_request : NamesState → List ℕ → NamedRequest → NamesState
with_request s name held = record s { requests = with_value s.requests name held }

-- a message's name stands for this
abbrev pub with_message : NamesState → List ℕ → NamedMessage → NamesState
with_message s name message = record s { messages = with_value s.messages name message }

-- a communicator's name stands for this
abbrev pub with_communicator : NamesState → List ℕ → Option NamedCommunicator → NamesState
with_communicator s name seat = record s { communicators = with_value s.communicators name seat }

-- a buffer comes back to the name that lent it, if one did
abbrev pub given_back : NamesState → Option (List ℕ) → Contents → NamesState
given_back s None buffer = s
given_back s (Some name) buffer = with_buffer s name (Some buffer)

-- what the name of a buffer stands for, as far as a line can be followed by it
abbrev pub slot_of : Option (Option Contents) → Slot
slot_of None = slots.Unset
slot_of (Some None) = slots.Lent
slot_of (Some (Some buffer)) = slots.Here

-- what the names stand for, as far as a line can be followed by it
abbrev pub holdings : NamesState → Holdings
holdings s = record {
  communicators = λ name. is_some (value_at s.communicators name);
  layouts = λ name. is_some (value_at s.layouts name);
  requests = λ name. is_some (value_at s.requests name);
  messages = λ name. is_some (value_at s.messages name);
  slots = λ name. slot_of (value_at s.buffers name);
  members = λ communicator rank. is_root s communicator rank;
}
