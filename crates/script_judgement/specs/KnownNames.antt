-- The names that the lines of a rank so far may have set.
use Rattle.std.specs.Prelude.{ℕ, Bool, true, false, List, [], is_some, if◌then◌else◌}
use Rattle.line_diagnostics.specs.Lacks.{Holdings}
use Rattle.line_diagnostics.specs.declared.holder.Slot.{Slot}
use Rattle.line_diagnostics.specs.declared.holder.Slot.TheVariants as slots
use Rattle.script_calls.specs.Tables.{Entry, value_at, with_value}
use Rattle.script_files.specs.declared.script.ScriptStatement.{ScriptStatement}
use Rattle.script_files.specs.declared.script.ScriptStatement.TheVariants as statements
use Rattle.statements.specs.declared.action.Action.{Action}
use Rattle.statements.specs.declared.action.Action.TheVariants as actions

-- the names of a kind
abbrev pub Names : Type 0
Names = List (Entry (Unit {0}))

-- the names that may be set, each kind by itself
pub record KnownState : Type 0 where
  pub communicators : Names
  pub layouts : Names
  pub requests : Names
  pub messages : Names
  pub buffers : Names

abbrev pub nothing_known : KnownState
nothing_known = record { communicators = []; layouts = []; requests = []; messages = []; buffers = [] }

abbrev pub is_known : Names → List ℕ → Bool
is_known names name = is_some (value_at names name)

abbrev pub with_name : Names → List ℕ → Names
with_name names name = with_value names name tt

-- a buffer that may be set may be here
abbrev pub slot_of : Bool → Slot
slot_of true = slots.Here
slot_of false = slots.Unset

-- what the names stand for at best; of no communicator it is known which member the rank is
abbrev pub holdings_of : KnownState → Holdings
holdings_of k = record {
  communicators = is_known k.communicators;
  layouts = is_known k.layouts;
  requests = is_known k.requests;
  messages = is_known k.messages;
  slots = λ name. slot_of (is_known k.buffers name);
  members = λ communicator rank. false;
}

-- what may be set behind a line: all that its statement names to be set, whether its call is refused or not
abbrev pub after_action : Action → KnownState → KnownState
after_action (actions.Buffer line) k = record k { buffers = with_name k.buffers line.name }
after_action (actions.Layout line) k = record k { layouts = with_name k.layouts line.name }
after_action (actions.Isend name x) k = record k { requests = with_name k.requests name }
after_action (actions.Issend name x) k = record k { requests = with_name k.requests name }
after_action (actions.Irecv name x) k = record k { requests = with_name k.requests name }
after_action (actions.Iprobe x) k = k
after_action (actions.Improbe name x) k = record k { messages = with_name k.messages name }
after_action (actions.Mrecv name x) k = k
after_action (actions.Wait r) k = k
after_action (actions.Test r) k = k
after_action (actions.Cancel r) k = k
after_action (actions.Waitany rs) k = k
after_action (actions.Waitall rs) k = k
after_action (actions.Barrier c) k = k
after_action (actions.Bcast x) k = k
after_action (actions.Gather x) k = record k { buffers = with_name k.buffers x.into }
after_action (actions.Scatter x) k = k
after_action (actions.Reduce x) k = record k { buffers = with_name k.buffers x.into }
after_action (actions.Allreduce x) k = record k { buffers = with_name k.buffers x.into }
after_action (actions.Dup name c) k = record k { communicators = with_name k.communicators name }
after_action (actions.Split name x) k = record k { communicators = with_name k.communicators name }
after_action (actions.Who c) k = k
after_action (actions.Members c) k = k
after_action (actions.Compare c d) k = k

abbrev pub after_statement : ScriptStatement → KnownState → KnownState
after_statement (statements.Action action) k = after_action action k
after_statement (statements.Send x) k = k
after_statement (statements.Recv x) k = k
after_statement (statements.Print name) k = k
after_statement statements.Status k = k
after_statement (statements.Count name) k = k
after_statement (statements.Say words) k = k
after_statement statements.Fail k = k
