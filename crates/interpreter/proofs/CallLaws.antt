-- What is so of a call that is made, or else the statement is faulty.
use Rattle.std.proofs.Common.{◌≡◌, ℕ, Bool, true, false, List, Option, Some, None, refl, sym, ap, ◌∙◌}
use Rattle.datatypes.specs.Contents.{Contents}
use Rattle.requests.specs.declared.region.Places.{Places}
use Rattle.collective_messages.specs.declared.entry.Entry.{Entry}
use Rattle.engine_calls.specs.declared.call.Call.{Call}
use Rattle.vocabulary.specs.declared.mode.Mode.{Mode}
use Rattle.statements.specs.declared.action.Receiving.{Receiving}
use Rattle.statements.specs.declared.action.Sending.{Sending}
use Rattle.statements.specs.declared.collective_line.Scattering.{Scattering}
use Rattle.script_calls.specs.Entries.{entry_with}
use Rattle.script_calls.specs.declared.pending.Pending.{Pending}
use Rattle.script_calls.specs.declared.pending.Pending.TheVariants as pendings
use Rattle.interpreter.specs.StatementCalls.{
  Acts,
  asked_by,
  block_for,
  faulty,
  hands_in,
  hands_in_to,
  LendsFor,
  receives_into,
}
use Rattle.interpreter.specs.StatementCalls.{scatter_call, scatters_from, send_call, sends_from}
use Rattle.interpreter.specs.NamesState.{NamesState}

-- a send that has its call is made
pub send_made : (mode : Mode) (pending : Pending) (x : Sending) (comm : Option (Option ℕ)) (named : Option Places)
    (buffer : Option Contents)
    (s : NamesState) → sends_from mode pending x comm named buffer s ≡
    (asked_by (send_call mode x comm named buffer) pending, s)
send_made mode pending x None named buffer s = refl
send_made mode pending x (Some comm) None buffer s = refl
send_made mode pending x (Some comm) (Some named) None s = refl
send_made mode pending x (Some comm) (Some named) (Some buffer) s = refl

-- a receive that has its call is made
pub receive_made : (x : Receiving) (comm : Option (Option ℕ)) (named : Option Places) (buffer : Option Contents)
    (s : NamesState) (pending : Pending) (call : Option Call) (new : NamesState) →
    LendsFor x comm named buffer s call new →
    receives_into pending x comm named buffer s ≡ (asked_by call pending, new)
receive_made x None named buffer s pending call new lent =
    rw (lent.0, lent.1) refl
receive_made x (Some comm) None buffer s pending call new lent =
    rw (lent.0, lent.1) refl
receive_made x (Some comm) (Some named) None s pending call new lent =
    rw (lent.0, lent.1) refl
receive_made x (Some comm) (Some named) (Some buffer) s pending call new lent =
    rw (lent.0, lent.1) refl

-- a scatter that has its call is made
pub scatter_made : (x : Scattering) (comm : Option (Option ℕ)) (into : Option Contents)
    (blocks : Option (Option Contents))
    (s : NamesState) → scatters_from x comm into blocks s ≡
    (asked_by (scatter_call x comm into blocks) (pendings.Entering (Some x.into)), s)
scatter_made x None into blocks s = refl
scatter_made x (Some comm) None blocks s = refl
scatter_made x (Some comm) (Some into) None s = refl
scatter_made x (Some comm) (Some into) (Some blocks) s = refl

-- what a block that is looked for comes to
abbrev pub handed_in : Option (List ℕ) → (Contents → Entry) → NamesState → Option (Option ℕ × Contents) → Acts
handed_in name entry s None = faulty s
handed_in name entry s (Some found) = hands_in_to found.0 name (entry_with entry found.1) s

pub handed_by : (comm : Option (Option ℕ)) (lent : Bool) (name : Option (List ℕ)) (block : Option Contents)
    (entry : Contents → Entry)
    (s : NamesState) → hands_in comm lent name block entry s ≡ handed_in name entry s (block_for comm lent block)
handed_by None lent name block entry s = refl
handed_by (Some comm) true name block entry s = refl
handed_by (Some comm) false name None entry s = refl
handed_by (Some comm) false name (Some block) entry s = refl

-- a block that is found is handed in
pub block_handed_in : (comm : Option (Option ℕ)) (lent : Bool) (name : Option (List ℕ)) (block : Option Contents)
    (entry : Contents → Entry) (s : NamesState) (found : Option (Option ℕ × Contents)) →
    found ≡ block_for comm lent block →
    hands_in comm lent name block entry s ≡ handed_in name entry s found
block_handed_in comm lent name block entry s found is =
    handed_by comm lent name block entry s ∙ sym (ap (handed_in name entry s) is)
