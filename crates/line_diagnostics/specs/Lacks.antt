-- What a line lacks now that it is reached: the first of the names that it uses, in their order of use, that isn't set
-- or whose buffer is lent.
use Rattle.std.specs.Prelude.{ℕ, Bool, true, false, List, [], ◌∷◌, Option, Some, None, if◌then◌else◌}
use Rattle.statements.specs.declared.action.Action.{Action}
use Rattle.statements.specs.declared.action.Action.TheVariants as actions
use Rattle.statements.specs.declared.action.CommunicatorName.{CommunicatorName}
use Rattle.statements.specs.declared.action.CommunicatorName.TheVariants as communicators
use Rattle.statements.specs.declared.action.RequestName.{RequestName}
use Rattle.statements.specs.declared.action.RequestName.TheVariants as requested
use Rattle.statements.specs.declared.action.Landing.{Landing}
use Rattle.statements.specs.declared.action.LayoutClause.{LayoutClause}
use Rattle.statements.specs.declared.collective_line.Scattering.{Scattering}
use Rattle.statements.specs.declared.layout_line.OldLayout.{OldLayout}
use Rattle.statements.specs.declared.layout_line.OldLayout.TheVariants as olds
use Rattle.script_files.specs.declared.script.ScriptStatement.{ScriptStatement}
use Rattle.script_files.specs.declared.script.ScriptStatement.TheVariants as statements
use Rattle.line_diagnostics.specs.declared.fault.LineFault.{LineFault}
use Rattle.line_diagnostics.specs.declared.fault.LineFault.TheVariants as faults
use Rattle.line_diagnostics.specs.declared.holder.Slot.{Slot}
use Rattle.line_diagnostics.specs.declared.holder.Slot.TheVariants as slots

-- What the names of a rank stand for, as far as a line can be followed by it: which of them are set, what those of
-- buffers stand for, and of which communicators the rank is the member with a rank.
pub record Holdings : Type 0 where
  pub communicators : List ℕ → Bool
  pub layouts : List ℕ → Bool
  pub requests : List ℕ → Bool
  pub messages : List ℕ → Bool
  pub slots : List ℕ → Slot
  pub members : CommunicatorName → ℕ → Bool

-- the first of two faults
abbrev pub or_else : Option LineFault → Option LineFault → Option LineFault
or_else None later = later
or_else (Some fault) later = Some fault

-- a name has to be set
abbrev pub unset_unless : Bool → List ℕ → Option LineFault
unset_unless true name = None
unset_unless false name = Some (faults.Unset name)

-- ---- one name

abbrev pub lacks_slot : Slot → List ℕ → Option LineFault
lacks_slot slots.Unset name = Some (faults.Unset name)
lacks_slot slots.Lent name = Some (faults.Lent name)
lacks_slot slots.Here name = None

-- a buffer that is used has to be here
abbrev pub lacks_buffer : Holdings → List ℕ → Option LineFault
lacks_buffer h name = lacks_slot (h.slots name) name

abbrev pub lent_slot : Slot → List ℕ → Option LineFault
lent_slot slots.Unset name = None
lent_slot slots.Lent name = Some (faults.Lent name)
lent_slot slots.Here name = None

-- a buffer that is set must not be lent
abbrev pub lacks_setting : Holdings → List ℕ → Option LineFault
lacks_setting h name = lent_slot (h.slots name) name

abbrev pub lacks_layout : Holdings → List ℕ → Option LineFault
lacks_layout h name = unset_unless (h.layouts name) name

-- what a layout is made of
abbrev pub lacks_old : Holdings → OldLayout → Option LineFault
lacks_old h (olds.Basic basic) = None
lacks_old h (olds.Named name) = lacks_layout h name

abbrev pub lacks_communicator : Holdings → CommunicatorName → Option LineFault
lacks_communicator h communicators.World = None
lacks_communicator h communicators.Own = None
lacks_communicator h (communicators.Named name) = unset_unless (h.communicators name) name

abbrev pub lacks_request : Holdings → RequestName → Option LineFault
lacks_request h requested.Null = None
lacks_request h (requested.Named name) = unset_unless (h.requests name) name

-- ---- several names

abbrev pub lacks_two : Holdings → CommunicatorName → CommunicatorName → Option LineFault
lacks_two h one other = or_else (lacks_communicator h one) (lacks_communicator h other)

abbrev pub lacks_requests : Holdings → List RequestName → Option LineFault
lacks_requests h [] = None
lacks_requests h (r ∷ rs) = or_else (lacks_request h r) (lacks_requests h rs)

-- the layout through which a buffer is used, if one is named
abbrev pub lacks_places : Holdings → Option LayoutClause → Option LineFault
lacks_places h None = None
lacks_places h (Some through) = lacks_layout h through.layout

-- a send, a receive, or a collective without a layout: its communicator, its layout and its buffer
abbrev pub lacks_place : Holdings → CommunicatorName → Option LayoutClause → List ℕ → Option LineFault
lacks_place h communicator through buffer =
    or_else (lacks_communicator h communicator) (or_else (lacks_places h through) (lacks_buffer h buffer))

-- the receive of a message that was taken out: its message, its layout and its buffer
abbrev pub lacks_message : Holdings → List ℕ → Landing → Option LineFault
lacks_message h message x =
    or_else (unset_unless (h.messages message) message) (or_else (lacks_places h x.through) (lacks_buffer h x.buffer))

-- what is set, if something is
abbrev pub lacks_set : Holdings → Bool → List ℕ → Option LineFault
lacks_set h true name = lacks_setting h name
lacks_set h false name = None

-- a collective that hands a buffer in, and sets another one or doesn't
abbrev pub lacks_gathering : Holdings → CommunicatorName → Bool → List ℕ → List ℕ → Option LineFault
lacks_gathering h communicator sets into buffer =
    or_else (lacks_communicator h communicator) (or_else (lacks_set h sets into) (lacks_buffer h buffer))

-- what a scatter hands in: at the root a buffer, which `-` is none
abbrev pub lacks_block : Holdings → Bool → Option (List ℕ) → Option LineFault
lacks_block h false block = None
lacks_block h true None = Some faults.UnfitWords
lacks_block h true (Some name) = lacks_buffer h name

abbrev pub lacks_scatter : Holdings → Scattering → Option LineFault
lacks_scatter h x =
    or_else (lacks_communicator h x.communicator)
    (or_else (lacks_buffer h x.into) (lacks_block h (h.members x.communicator x.root) x.buffer))

-- ---- lines

-- a line on a communicator
abbrev pub lacks_together : Holdings → Action → Option LineFault
lacks_together h (actions.Buffer line) = None
lacks_together h (actions.Layout line) = None
lacks_together h (actions.Isend name x) = None
lacks_together h (actions.Issend name x) = None
lacks_together h (actions.Irecv name x) = None
lacks_together h (actions.Iprobe x) = lacks_communicator h x.communicator
lacks_together h (actions.Improbe name x) = lacks_communicator h x.communicator
lacks_together h (actions.Mrecv name x) = None
lacks_together h (actions.Wait r) = None
lacks_together h (actions.Test r) = None
lacks_together h (actions.Cancel r) = None
lacks_together h (actions.Waitany rs) = None
lacks_together h (actions.Waitall rs) = None
lacks_together h (actions.Barrier c) = lacks_communicator h c
lacks_together h (actions.Bcast x) = lacks_place h x.communicator None x.buffer
lacks_together h (actions.Gather x) = lacks_gathering h x.communicator (h.members x.communicator x.root) x.into x.buffer
lacks_together h (actions.Scatter x) = lacks_scatter h x
lacks_together h (actions.Reduce x) = lacks_gathering h x.communicator (h.members x.communicator x.root) x.into x.buffer
lacks_together h (actions.Allreduce x) = lacks_gathering h x.communicator true x.into x.buffer
lacks_together h (actions.Dup name c) = lacks_communicator h c
lacks_together h (actions.Split name x) = lacks_communicator h x.communicator
lacks_together h (actions.Who c) = lacks_communicator h c
lacks_together h (actions.Members c) = lacks_communicator h c
lacks_together h (actions.Compare c d) = lacks_two h c d

-- what files of events ask for as well
abbrev pub lack_of_action : Holdings → Action → Option LineFault
lack_of_action h (actions.Buffer line) = lacks_setting h line.name
lack_of_action h (actions.Layout line) = lacks_old h line.made_of
lack_of_action h (actions.Isend name x) = lacks_place h x.communicator x.through x.buffer
lack_of_action h (actions.Issend name x) = lacks_place h x.communicator x.through x.buffer
lack_of_action h (actions.Irecv name x) = lacks_place h x.communicator x.through x.buffer
lack_of_action h (actions.Iprobe x) = lacks_together h (actions.Iprobe x)
lack_of_action h (actions.Improbe name x) = lacks_together h (actions.Improbe name x)
lack_of_action h (actions.Mrecv name x) = lacks_message h name x
lack_of_action h (actions.Wait r) = lacks_request h r
lack_of_action h (actions.Test r) = lacks_request h r
lack_of_action h (actions.Cancel r) = lacks_request h r
lack_of_action h (actions.Waitany rs) = lacks_requests h rs
lack_of_action h (actions.Waitall rs) = lacks_requests h rs
lack_of_action h (actions.Barrier c) = lacks_together h (actions.Barrier c)
lack_of_action h (actions.Bcast x) = lacks_together h (actions.Bcast x)
lack_of_action h (actions.Gather x) = lacks_together h (actions.Gather x)
lack_of_action h (actions.Scatter x) = lacks_together h (actions.Scatter x)
lack_of_action h (actions.Reduce x) = lacks_together h (actions.Reduce x)
lack_of_action h (actions.Allreduce x) = lacks_together h (actions.Allreduce x)
lack_of_action h (actions.Dup name c) = lacks_together h (actions.Dup name c)
lack_of_action h (actions.Split name x) = lacks_together h (actions.Split name x)
lack_of_action h (actions.Who c) = lacks_together h (actions.Who c)
lack_of_action h (actions.Members c) = lacks_together h (actions.Members c)
lack_of_action h (actions.Compare c d) = lacks_together h (actions.Compare c d)

-- a line of a script
abbrev pub lack_of_statement : Holdings → ScriptStatement → Option LineFault
lack_of_statement h (statements.Action action) = lack_of_action h action
lack_of_statement h (statements.Send x) = lacks_place h x.communicator x.through x.buffer
lack_of_statement h (statements.Recv x) = lacks_place h x.communicator x.through x.buffer
lack_of_statement h (statements.Print name) = lacks_buffer h name
lack_of_statement h statements.Status = None
lack_of_statement h (statements.Count name) = lacks_layout h name
lack_of_statement h (statements.Say words) = None
lack_of_statement h statements.Fail = None
