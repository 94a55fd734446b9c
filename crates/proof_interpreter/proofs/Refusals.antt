-- A refused statement changes nothing.
use Rattle.std.proofs.Common.{◌≡◌, ℕ, Bool, true, false, List, Option, Some, None, if◌then◌else◌, refl, sym, subst}
use Rattle.datatypes.specs.Contents.{Contents}
use Rattle.layouts.specs.Layouts.{Shape}
use Rattle.collective_messages.specs.declared.entry.Entry.{Entry}
use Rattle.engine_calls.specs.declared.call.Call.TheVariants as calls
use Rattle.point_to_point_calls.specs.declared.refusal.Refusal.{Refusal}
use Rattle.requests.specs.declared.region.Places.{Places}
use Rattle.requests.specs.declared.table.Request.{Request}
use Rattle.script_calls.specs.Entries.{entry_with}
use Rattle.script_calls.specs.declared.pending.NamedMessage.{NamedMessage}
use Rattle.script_calls.specs.declared.pending.NamedMessage.TheVariants as messages
use Rattle.script_calls.specs.declared.pending.Pending.{Pending}
use Rattle.script_calls.specs.declared.pending.Pending.TheVariants as pendings
use Rattle.statements.specs.declared.action.Action.{Action}
use Rattle.statements.specs.declared.action.Action.TheVariants as actions
use Rattle.statements.specs.declared.action.Landing.{Landing}
use Rattle.statements.specs.declared.action.Probing.{Probing}
use Rattle.statements.specs.declared.action.Receiving.{Receiving}
use Rattle.statements.specs.declared.action.RequestName.{RequestName}
use Rattle.statements.specs.declared.action.Sending.{Sending}
use Rattle.statements.specs.declared.collective_line.Scattering.{Scattering}
use Rattle.statements.specs.declared.layout_line.LayoutLine.{LayoutLine}
use Rattle.statements.specs.Meanings.{offsets_made}
use Rattle.derived_types.specs.Layouts.{is_beyond}
use Rattle.vocabulary.specs.declared.mode.Mode.{Mode}
use Rattle.vocabulary.specs.declared.mode.Mode.TheVariants as modes
use Rattle.interpreter.specs.StatementCalls as acting
use Rattle.interpreter.specs.Answers.{lent_by}
use Rattle.interpreter.specs.NamesState.{NamesState, given_back, here, is_lent, is_root, message_at, place_named}
use Rattle.interpreter.specs.NamesState.{with_buffer}
use Rattle.proof_interpreter.specs.Names.{AllStays}
use Rattle.proof_interpreter.specs.Refusals.{IsUndone, RefusedStatementsChangeNothing}
use Rattle.proof_interpreter.proofs.Frames.{all_stays, lent_and_back}

if_faulty : (s new : NamesState) (t : Bool) → IsUndone s (if t then acting.faulty s else acting.changes new)
if_faulty s new true = refl
if_faulty s new false = tt

layout_unless : (s : NamesState) (t : Bool) (name : List ℕ) (layout : Shape) →
    IsUndone s (acting.sets_layout_unless t name layout s)
layout_unless s true name layout = refl
layout_unless s false name layout = tt

layout_of : (s : NamesState) (line : LayoutLine) (old : Option Shape) → IsUndone s (acting.sets_layout_of line old s)
layout_of s line None = refl
layout_of s line (Some old) =
    layout_unless s (is_beyond (offsets_made line.form old.offsets)) line.name
    (record { basic = old.basic; offsets = offsets_made line.form old.offsets })

sends : (s : NamesState) (mode : Mode) (pending : Pending) (x : Sending) (comm : Option (Option ℕ))
    (named : Option Places) (buffer : Option Contents) →
    IsUndone s (acting.sends_from mode pending x comm named buffer s)
sends s mode pending x None named buffer = refl
sends s mode pending x (Some comm) None buffer = refl
sends s mode pending x (Some comm) (Some named) None = refl
sends s mode pending x (Some comm) (Some named) (Some buffer) = λ (why : Refusal). (all_stays s, refl)

-- the buffer that was lent is back
back : (s : NamesState) (name : List ℕ) (v : Contents) (lent : Option (List ℕ)) → here s name ≡ Some v →
    lent ≡ Some name → AllStays s (given_back (with_buffer s name None) lent v)
back s name v lent e so =
    subst (λ (l : Option (List ℕ)). AllStays s (given_back (with_buffer s name None) l v)) (sym so)
    (lent_and_back s name v e)

receives : (s : NamesState) (pending : Pending) (x : Receiving) (comm : Option (Option ℕ)) (named : Option Places)
    (buffer : Option Contents) → here s x.buffer ≡ buffer → lent_by pending ≡ Some x.buffer →
    IsUndone s (acting.receives_into pending x comm named buffer s)
receives s pending x None named buffer e so = refl
receives s pending x (Some comm) None buffer e so = refl
receives s pending x (Some comm) (Some named) None e so = refl
receives s pending x (Some comm) (Some named) (Some v) e so =
    λ (why : Refusal). (back s x.buffer v (lent_by pending) e so, refl)

taken : (s : NamesState) (message : Option Request) (named : Places) (name buffer : List ℕ)
    (contents : Option Contents) →
    here s buffer ≡ contents → IsUndone s (acting.receives_taken message named name buffer contents s)
taken s message named name buffer None e = refl
taken s message named name buffer (Some v) e = λ (why : Refusal). (lent_and_back s buffer v e, refl)

ended : (s : NamesState) (buffer : Option Contents) → IsUndone s (acting.receives_ended buffer, s)
ended s None = refl
ended s (Some v) = refl

landing : (s : NamesState) (name : List ℕ) (x : Landing) (message : Option NamedMessage) (named : Option Places) →
    IsUndone s (acting.receives_by name x message named s)
landing s name x None named = refl
landing s name x (Some message) None = refl
landing s name x (Some messages.Ended) (Some named) = ended s (here s x.buffer)
landing s name x (Some (messages.TakenOut message)) (Some named) =
    taken s message named name x.buffer (here s x.buffer) refl

looks : (s : NamesState) (x : Probing) (comm : Option (Option ℕ)) → IsUndone s (acting.looks x comm s)
looks s x None = refl
looks s x (Some comm) = λ (why : Refusal). (all_stays s, refl)

searches : (s : NamesState) (name : List ℕ) (x : Probing) (comm : Option (Option ℕ)) →
    IsUndone s (acting.searches name x comm s)
searches s name x None = refl
searches s name x (Some comm) = λ (why : Refusal). (all_stays s, refl)

waits : (s : NamesState) (r : RequestName) (q : Option (Option Request)) → IsUndone s (acting.waits_for r q s)
waits s r None = refl
waits s r (Some q) = λ (why : Refusal). (all_stays s, refl)

tests : (s : NamesState) (r : RequestName) (q : Option (Option Request)) → IsUndone s (acting.tests_for r q s)
tests s r None = refl
tests s r (Some q) = λ (why : Refusal). (all_stays s, refl)

cancels : (s : NamesState) (q : Option (Option Request)) → IsUndone s (acting.cancels_for q s)
cancels s None = refl
cancels s (Some q) = λ (why : Refusal). (all_stays s, refl)

waits_any : (s : NamesState) (rs : List RequestName) (qs : Option (List (Option Request))) →
    IsUndone s (acting.waits_for_several calls.Waitany rs qs s)
waits_any s rs None = refl
waits_any s rs (Some qs) = λ (why : Refusal). (all_stays s, refl)

waits_all : (s : NamesState) (rs : List RequestName) (qs : Option (List (Option Request))) →
    IsUndone s (acting.waits_for_several calls.Waitall rs qs s)
waits_all s rs None = refl
waits_all s rs (Some qs) = λ (why : Refusal). (all_stays s, refl)

makes : (s : NamesState) (name : List ℕ) (comm : Option (Option ℕ)) (entry : Entry) →
    IsUndone s (acting.makes name comm entry s)
makes s name None entry = refl
makes s name (Some comm) entry = λ (why : Refusal). (all_stays s, refl)

waits_for_all : (s : NamesState) (comm : Option (Option ℕ)) → IsUndone s (acting.waits_for_all comm s)
waits_for_all s None = refl
waits_for_all s (Some comm) = λ (why : Refusal). (all_stays s, refl)

hands_in_to : (s : NamesState) (comm : Option ℕ) (name : Option (List ℕ)) (entry : Option Entry) →
    IsUndone s (acting.hands_in_to comm name entry s)
hands_in_to s comm name None = λ (why : Refusal). (all_stays s, refl)
hands_in_to s comm name (Some entry) = λ (why : Refusal). (all_stays s, refl)

hands_in : (s : NamesState) (comm : Option (Option ℕ)) (lent : Bool) (name : Option (List ℕ)) (block : Option Contents)
    (entry : Contents → Entry) → IsUndone s (acting.hands_in comm lent name block entry s)
hands_in s None lent name block entry = refl
hands_in s (Some comm) true name block entry = refl
hands_in s (Some comm) false name None entry = refl
hands_in s (Some comm) false name (Some block) entry = hands_in_to s comm name (entry_with entry block)

scatters : (s : NamesState) (x : Scattering) (comm : Option (Option ℕ)) (into : Option Contents)
    (blocks : Option (Option Contents)) → IsUndone s (acting.scatters_from x comm into blocks s)
scatters s x None into blocks = refl
scatters s x (Some comm) None blocks = refl
scatters s x (Some comm) (Some into) None = refl
scatters s x (Some comm) (Some into) (Some blocks) = λ (why : Refusal). (all_stays s, refl)

asks_rank : (s : NamesState) (comm : Option (Option ℕ)) → IsUndone s (acting.asks_rank comm s)
asks_rank s None = refl
asks_rank s (Some comm) = λ (why : Refusal). (all_stays s, refl)

asks_group : (s : NamesState) (comm : Option (Option ℕ)) → IsUndone s (acting.asks_group comm s)
asks_group s None = refl
asks_group s (Some comm) = λ (why : Refusal). (all_stays s, refl)

compares : (s : NamesState) (comm other : Option (Option ℕ)) → IsUndone s (acting.compares comm other s)
compares s None other = refl
compares s (Some comm) None = refl
compares s (Some comm) (Some other) = λ (why : Refusal). (all_stays s, refl)

statements : (s : NamesState) (a : Action) → IsUndone s (acting.acts_on a s)
statements s (actions.Buffer line) =
    if_faulty s (with_buffer s line.name (Some line.value)) (is_lent s line.name)
statements s (actions.Layout line) = layout_of s line (acting.old_layout s line.made_of)
statements s (actions.Isend name x) =
    sends s modes.Standard (pendings.Starting name None) x (place_named s x.communicator)
    (acting.places_named s x.through) (here s x.buffer)
statements s (actions.Issend name x) =
    sends s modes.Synchronous (pendings.Starting name None) x (place_named s x.communicator)
    (acting.places_named s x.through) (here s x.buffer)
statements s (actions.Irecv name x) =
    receives s (pendings.Starting name (Some x.buffer)) x (place_named s x.communicator)
    (acting.places_named s x.through) (here s x.buffer) refl refl
statements s (actions.Iprobe x) = looks s x (place_named s x.communicator)
statements s (actions.Improbe name x) = searches s name x (place_named s x.communicator)
statements s (actions.Mrecv name x) = landing s name x (message_at s name) (acting.places_named s x.through)
statements s (actions.Wait r) = waits s r (acting.request_named s r)
statements s (actions.Test r) = tests s r (acting.request_named s r)
statements s (actions.Cancel r) = cancels s (acting.request_named s r)
statements s (actions.Waitany rs) = waits_any s rs (acting.requests_named s rs)
statements s (actions.Waitall rs) = waits_all s rs (acting.requests_named s rs)
statements s (actions.Barrier c) = waits_for_all s (place_named s c)
statements s (actions.Bcast x) = hands_in s (place_named s x.communicator) false (Some x.buffer) (here s x.buffer) _
statements s (actions.Gather x) = hands_in s (place_named s x.communicator) _ (Some x.into) (here s x.buffer) _
statements s (actions.Scatter x) =
    scatters s x (place_named s x.communicator) (here s x.into)
    (acting.blocks_named s (is_root s x.communicator x.root) x.buffer)
statements s (actions.Reduce x) = hands_in s (place_named s x.communicator) _ (Some x.into) (here s x.buffer) _
statements s (actions.Allreduce x) = hands_in s (place_named s x.communicator) _ (Some x.into) (here s x.buffer) _
statements s (actions.Dup name c) = makes s name (place_named s c) _
statements s (actions.Split name x) = makes s name (place_named s x.communicator) _
statements s (actions.Who c) = asks_rank s (place_named s c)
statements s (actions.Members c) = asks_group s (place_named s c)
statements s (actions.Compare c d) = compares s (place_named s c) (place_named s d)

pub refused_statements_change_nothing : RefusedStatementsChangeNothing
refused_statements_change_nothing = record {
  statements = statements;
  sends =
      λ (s : NamesState) (x : Sending).
      sends s modes.Standard (pendings.StartingToWait None) x (place_named s x.communicator)
      (acting.places_named s x.through) (here s x.buffer);
  receives =
      λ (s : NamesState) (x : Receiving).
      receives s (pendings.StartingToWait (Some x.buffer)) x (place_named s x.communicator)
      (acting.places_named s x.through) (here s x.buffer) refl refl;
}
