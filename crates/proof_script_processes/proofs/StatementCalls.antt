-- What a statement asks for is the same with other requests.
use Rattle.std.proofs.Common.{◌≡◌, ℕ, Bool, true, false, List, [], ◌∷◌, Option, Some, None, if◌then◌else◌}
use Rattle.std.proofs.Common.{option_and_then, option_map, refl, ap, ap₂, ◌∙◌}
use Rattle.collective_messages.specs.declared.entry.Entry.{Entry}
use Rattle.collective_messages.specs.declared.entry.Entry.TheVariants as entries
use Rattle.datatypes.specs.Contents.{Contents}
use Rattle.derived_types.specs.Layouts.{is_beyond}
use Rattle.engine_calls.specs.declared.call.Call.TheVariants as calls
use Rattle.interpreter.specs.StatementCalls.{
  Acts,
  acts_on,
  asks_group,
  asks_rank,
  blocks_named,
  cancels_for,
  changes,
  compares,
}
use Rattle.interpreter.specs.StatementCalls.{faulty, hands_in, hands_in_to, is_lent_at_root, looks, makes, old_layout}
use Rattle.interpreter.specs.StatementCalls.{places_named, receives_by, receives_ended, receives_into, receives_taken}
use Rattle.interpreter.specs.StatementCalls.{receives_to_wait, request_named, requests_named, scatters_from, searches}
use Rattle.interpreter.specs.StatementCalls.{
  sends_from,
  sends_to_wait,
  sets,
  sets_layout_of,
  sets_layout_unless,
  tests_for,
}
use Rattle.interpreter.specs.StatementCalls.{waits_for, waits_for_all, waits_for_several}
use Rattle.interpreter.specs.NamesState.{NamesState, here, is_lent, is_root, is_root_at, message_at, place_named}
use Rattle.interpreter.specs.NamesState.{with_buffer}
use Rattle.interpreter.specs.declared.steps.NextStep.{NextStep}
use Rattle.layouts.specs.Layouts.{Shape}
use Rattle.requests.specs.declared.region.Places.{Places}
use Rattle.requests.specs.declared.table.Request.{Request}
use Rattle.script_calls.specs.Entries.{entry_with, split_by}
use Rattle.script_calls.specs.declared.pending.NamedMessage.{NamedMessage}
use Rattle.script_calls.specs.declared.pending.NamedMessage.TheVariants as messages
use Rattle.script_calls.specs.declared.pending.Pending.{Pending}
use Rattle.script_calls.specs.declared.pending.Pending.TheVariants as pendings
use Rattle.statements.specs.Meanings.{offsets_made}
use Rattle.statements.specs.declared.action.Action.{Action}
use Rattle.statements.specs.declared.action.Action.TheVariants as actions
use Rattle.statements.specs.declared.action.BufferLine.{BufferLine}
use Rattle.statements.specs.declared.action.CommunicatorName.{CommunicatorName}
use Rattle.statements.specs.declared.action.CommunicatorName.TheVariants as communicators
use Rattle.statements.specs.declared.action.Landing.{Landing}
use Rattle.statements.specs.declared.action.Probing.{Probing}
use Rattle.statements.specs.declared.action.Receiving.{Receiving}
use Rattle.statements.specs.declared.action.RequestName.{RequestName}
use Rattle.statements.specs.declared.action.RequestName.TheVariants as requested
use Rattle.statements.specs.declared.action.Sending.{Sending}
use Rattle.statements.specs.declared.action.LayoutClause.{LayoutClause}
use Rattle.statements.specs.declared.collective_line.Scattering.{Scattering}
use Rattle.statements.specs.declared.layout_line.LayoutLine.{LayoutLine}
use Rattle.statements.specs.declared.layout_line.OldLayout.{OldLayout}
use Rattle.statements.specs.declared.layout_line.OldLayout.TheVariants as olds
use Rattle.vocabulary.specs.declared.mode.Mode.{Mode}
use Rattle.vocabulary.specs.declared.mode.Mode.TheVariants as modes
use Rattle.proof_script_processes.specs.RequestChanges.{changed_message, changed_names, changed_next, changed_requests}
use Rattle.proof_script_processes.proofs.Tables.{message_same, request_same}

-- what a statement asks for, with other requests
abbrev pub changed_asked : (Request → Request) → Option NextStep → Option NextStep
changed_asked change None = None
changed_asked change (Some next) = Some (changed_next change next)

abbrev pub changed_acts : (Request → Request) → Acts → Acts
changed_acts change a = (changed_asked change a.0, changed_names change a.1)

-- WHAT IS READ FROM OTHER NAMES

place_same : (change : Request → Request) (s : NamesState) (c : CommunicatorName) →
    place_named (changed_names change s) c ≡ place_named s c
place_same change s communicators.World = refl
place_same change s communicators.Own = refl
place_same change s (communicators.Named name) = refl

root_at_same : (change : Request → Request) (s : NamesState) (own : Option ℕ) (c : CommunicatorName) (root : ℕ) →
    is_root_at (changed_names change s) own c root ≡ is_root_at s own c root
root_at_same change s None communicators.World root = refl
root_at_same change s None communicators.Own root = refl
root_at_same change s None (communicators.Named name) root = refl
root_at_same change s (Some own) communicators.World root = refl
root_at_same change s (Some own) communicators.Own root = refl
root_at_same change s (Some own) (communicators.Named name) root = refl

places_same : (change : Request → Request) (s : NamesState) (t : Option LayoutClause) →
    places_named (changed_names change s) t ≡ places_named s t
places_same change s None = refl
places_same change s (Some t) = refl

old_same : (change : Request → Request) (s : NamesState) (o : OldLayout) → old_layout (changed_names change s) o ≡
    old_layout s o
old_same change s (olds.Basic b) = refl
old_same change s (olds.Named name) = refl

lent_same : (change : Request → Request) (s : NamesState) (b : Bool) (name : List ℕ) →
    is_lent_at_root (changed_names change s) b name ≡ is_lent_at_root s b name
lent_same change s true name = refl
lent_same change s false name = refl

blocks_same : (change : Request → Request) (s : NamesState) (b : Bool) (name : Option (List ℕ)) →
    blocks_named (changed_names change s) b name ≡ blocks_named s b name
blocks_same change s false name = refl
blocks_same change s true None = refl
blocks_same change s true (Some name) = refl

-- NAMES ALONE

sets_same : (change : Request → Request) (line : BufferLine) (s : NamesState) → sets line (changed_names change s) ≡
    changed_acts change (sets line s)
sets_same change line s = go (is_lent s line.name)
  where
    go : (b : Bool) →
        (if b then faulty (changed_names change s) else
        changes (with_buffer (changed_names change s) line.name (Some line.value)))
        ≡ changed_acts change (if b then faulty s else changes (with_buffer s line.name (Some line.value)))
    go true = refl
    go false = refl

layout_of_same : (change : Request → Request) (line : LayoutLine) (o : Option Shape) (s : NamesState) →
    sets_layout_of line o (changed_names change s) ≡ changed_acts change (sets_layout_of line o s)
layout_of_same change line None s = refl
layout_of_same change line (Some old) s = go (is_beyond (offsets_made line.form old.offsets))
  where
    go : (b : Bool) →
        sets_layout_unless b line.name (record { basic = old.basic; offsets = offsets_made line.form old.offsets })
        (changed_names change s)
        ≡ changed_acts change
        (sets_layout_unless b line.name (record { basic = old.basic; offsets = offsets_made line.form old.offsets })
        s)
    go true = refl
    go false = refl

-- SENDS AND RECEIVES

sends_same :
    (change : Request → Request) (mode : Mode) (pending : Pending) (x : Sending) (comm : Option (Option ℕ))
    (named : Option Places) (buffer : Option Contents) (s : NamesState) →
    sends_from mode pending x comm named buffer (changed_names change s) ≡
    changed_acts change (sends_from mode pending x comm named buffer s)
sends_same change mode pending x None named buffer s = refl
sends_same change mode pending x (Some comm) None buffer s = refl
sends_same change mode pending x (Some comm) (Some named) None s = refl
sends_same change mode pending x (Some comm) (Some named) (Some buffer) s = refl

send_same : (change : Request → Request) (mode : Mode) (pending : Pending) (x : Sending) (s : NamesState) →
    Rattle.interpreter.specs.StatementCalls.sends mode pending x (changed_names change s) ≡
    changed_acts change (Rattle.interpreter.specs.StatementCalls.sends mode pending x s)
send_same change mode pending x s =
    ap₂ (λ (c : Option (Option ℕ)) (p : Option Places). sends_from mode pending x c p (here s x.buffer)
    (changed_names change s)) (place_same change s x.communicator) (places_same change s x.through)
    ∙ sends_same change mode pending x (place_named s x.communicator) (places_named s x.through) (here s x.buffer) s

receives_same :
    (change : Request → Request) (pending : Pending) (x : Receiving) (comm : Option (Option ℕ)) (named : Option Places)
    (buffer : Option Contents) (s : NamesState) →
    receives_into pending x comm named buffer (changed_names change s) ≡
    changed_acts change (receives_into pending x comm named buffer s)
receives_same change pending x None named buffer s = refl
receives_same change pending x (Some comm) None buffer s = refl
receives_same change pending x (Some comm) (Some named) None s = refl
receives_same change pending x (Some comm) (Some named) (Some buffer) s = refl

receive_same : (change : Request → Request) (pending : Pending) (x : Receiving) (s : NamesState) →
    Rattle.interpreter.specs.StatementCalls.receives pending x (changed_names change s) ≡
    changed_acts change (Rattle.interpreter.specs.StatementCalls.receives pending x s)
receive_same change pending x s =
    ap₂ (λ (c : Option (Option ℕ)) (p : Option Places). receives_into pending x c p (here s x.buffer)
    (changed_names change s)) (place_same change s x.communicator) (places_same change s x.through)
    ∙ receives_same change pending x (place_named s x.communicator) (places_named s x.through) (here s x.buffer) s

-- PROBES AND MESSAGES

looks_same : (change : Request → Request) (x : Probing) (comm : Option (Option ℕ)) (s : NamesState) →
    looks x comm (changed_names change s) ≡ changed_acts change (looks x comm s)
looks_same change x None s = refl
looks_same change x (Some comm) s = refl

searches_same : (change : Request → Request) (name : List ℕ) (x : Probing) (comm : Option (Option ℕ)) (s : NamesState) →
    searches name x comm (changed_names change s) ≡ changed_acts change (searches name x comm s)
searches_same change name x None s = refl
searches_same change name x (Some comm) s = refl

ended_same : (change : Request → Request) (b : Option Contents) →
    receives_ended b ≡ changed_asked change (receives_ended b)
ended_same change None = refl
ended_same change (Some b) = refl

taken_same : (change : Request → Request) (q : Option Request) (named : Places) (name buffer : List ℕ)
    (b : Option Contents) (s : NamesState) →
    receives_taken (option_map change q) named name buffer b (changed_names change s) ≡
    changed_acts change (receives_taken q named name buffer b s)
taken_same change q named name buffer None s = refl
taken_same change q named name buffer (Some b) s = refl

landing_same : (change : Request → Request) (name : List ℕ) (x : Landing) (m : Option NamedMessage)
    (named : Option Places) (s : NamesState) →
    receives_by name x (option_map (changed_message change) m) named (changed_names change s) ≡
    changed_acts change (receives_by name x m named s)
landing_same change name x None None s = refl
landing_same change name x None (Some named) s = refl
landing_same change name x (Some messages.Ended) None s = refl
landing_same change name x (Some (messages.TakenOut q)) None s = refl
landing_same change name x (Some messages.Ended) (Some named) s =
    ap (λ (a : Option NextStep). (a, changed_names change s)) (ended_same change (here s x.buffer))
landing_same change name x (Some (messages.TakenOut q)) (Some named) s =
    taken_same change q named name x.buffer (here s x.buffer) s

-- REQUESTS

named_same : (change : Request → Request) (s : NamesState) (r : RequestName) →
    request_named (changed_names change s) r ≡ option_map (option_map change) (request_named s r)
named_same change s requested.Null = refl
named_same change s (requested.Named name) = request_same change s name

waits_same : (change : Request → Request) (r : RequestName) (o : Option (Option Request)) (s : NamesState) →
    waits_for r (option_map (option_map change) o) (changed_names change s) ≡ changed_acts change (waits_for r o s)
waits_same change r None s = refl
waits_same change r (Some q) s = refl

tests_same : (change : Request → Request) (r : RequestName) (o : Option (Option Request)) (s : NamesState) →
    tests_for r (option_map (option_map change) o) (changed_names change s) ≡ changed_acts change (tests_for r o s)
tests_same change r None s = refl
tests_same change r (Some q) s = refl

cancels_same : (change : Request → Request) (o : Option (Option Request)) (s : NamesState) →
    cancels_for (option_map (option_map change) o) (changed_names change s) ≡ changed_acts change (cancels_for o s)
cancels_same change None s = refl
cancels_same change (Some q) s = refl

abbrev both : Option (Option Request) → Option (List (Option Request)) → Option (List (Option Request))
both o rest = option_and_then (λ q. option_map (λ qs. q ∷ qs) rest) o

both_same : (change : Request → Request) (o : Option (Option Request)) (rest : Option (List (Option Request))) →
    both (option_map (option_map change) o) (option_map (changed_requests change) rest) ≡
    option_map (changed_requests change) (both o rest)
both_same change None rest = refl
both_same change (Some q) None = refl
both_same change (Some q) (Some qs) = refl

all_named_same : (change : Request → Request) (s : NamesState) (rs : List RequestName) →
    requests_named (changed_names change s) rs ≡ option_map (changed_requests change) (requests_named s rs)
all_named_same change s [] = refl
all_named_same change s (r ∷ rs) = ap₂ both (named_same change s r) (all_named_same change s rs) ∙
    both_same change (request_named s r) (requests_named s rs)

any_same : (change : Request → Request) (rs : List RequestName) (o : Option (List (Option Request))) (s : NamesState) →
    waits_for_several calls.Waitany rs (option_map (changed_requests change) o) (changed_names change s) ≡
    changed_acts change (waits_for_several calls.Waitany rs o s)
any_same change rs None s = refl
any_same change rs (Some qs) s = refl

all_same : (change : Request → Request) (rs : List RequestName) (o : Option (List (Option Request))) (s : NamesState) →
    waits_for_several calls.Waitall rs (option_map (changed_requests change) o) (changed_names change s) ≡
    changed_acts change (waits_for_several calls.Waitall rs o s)
all_same change rs None s = refl
all_same change rs (Some qs) s = refl

-- COLLECTIVES AND COMMUNICATORS

makes_same : (change : Request → Request) (name : List ℕ) (comm : Option (Option ℕ)) (entry : Entry) (s : NamesState) →
    makes name comm entry (changed_names change s) ≡ changed_acts change (makes name comm entry s)
makes_same change name None entry s = refl
makes_same change name (Some comm) entry s = refl

all_wait_same : (change : Request → Request) (comm : Option (Option ℕ)) (s : NamesState) →
    waits_for_all comm (changed_names change s) ≡ changed_acts change (waits_for_all comm s)
all_wait_same change None s = refl
all_wait_same change (Some comm) s = refl

handed_same : (change : Request → Request) (comm : Option ℕ) (name : Option (List ℕ)) (o : Option Entry)
    (s : NamesState) → hands_in_to comm name o (changed_names change s) ≡
    changed_acts change (hands_in_to comm name o s)
handed_same change comm name None s = refl
handed_same change comm name (Some entry) s = refl

hands_same :
    (change : Request → Request) (comm : Option (Option ℕ)) (lent : Bool) (name : Option (List ℕ))
    (block : Option Contents) (entry : Contents → Entry) (s : NamesState) →
    hands_in comm lent name block entry (changed_names change s) ≡
    changed_acts change (hands_in comm lent name block entry s)
hands_same change None lent name block entry s = refl
hands_same change (Some comm) true name block entry s = refl
hands_same change (Some comm) false name None entry s = refl
hands_same change (Some comm) false name (Some block) entry s = handed_same change comm name (entry_with entry block) s

-- what the root alone sets is looked at there
hands_at_root :
    (change : Request → Request) (comm : CommunicatorName) (root : ℕ) (into : List ℕ) (block : Option Contents)
    (entry : Contents → Entry) (s : NamesState) →
    hands_in (place_named (changed_names change s) comm)
    (is_lent_at_root (changed_names change s) (is_root (changed_names change s) comm root) into)
    (Some into) block entry (changed_names change s)
    ≡ changed_acts change
    (hands_in (place_named s comm) (is_lent_at_root s (is_root s comm root) into) (Some into) block entry s)
hands_at_root change comm root into block entry s =
    ap₂ (λ (c : Option (Option ℕ)) (b : Bool). hands_in c b (Some into) block entry (changed_names change s))
    (place_same change s comm)
    (ap (λ (b : Bool). is_lent_at_root (changed_names change s) b into) (root_at_same change s s.rank comm root) ∙
    lent_same change s (is_root s comm root) into)
    ∙ hands_same change (place_named s comm) (is_lent_at_root s (is_root s comm root) into) (Some into) block entry s

scatters_same :
    (change : Request → Request) (x : Scattering) (comm : Option (Option ℕ)) (into : Option Contents)
    (blocks : Option (Option Contents)) (s : NamesState) →
    scatters_from x comm into blocks (changed_names change s) ≡ changed_acts change (scatters_from x comm into blocks s)
scatters_same change x None into blocks s = refl
scatters_same change x (Some comm) None blocks s = refl
scatters_same change x (Some comm) (Some into) None s = refl
scatters_same change x (Some comm) (Some into) (Some blocks) s = refl

rank_same : (change : Request → Request) (comm : Option (Option ℕ)) (s : NamesState) →
    asks_rank comm (changed_names change s) ≡ changed_acts change (asks_rank comm s)
rank_same change None s = refl
rank_same change (Some comm) s = refl

group_same : (change : Request → Request) (comm : Option (Option ℕ)) (s : NamesState) →
    asks_group comm (changed_names change s) ≡ changed_acts change (asks_group comm s)
group_same change None s = refl
group_same change (Some comm) s = refl

compares_same : (change : Request → Request) (comm other : Option (Option ℕ)) (s : NamesState) →
    compares comm other (changed_names change s) ≡ changed_acts change (compares comm other s)
compares_same change None other s = refl
compares_same change (Some comm) None s = refl
compares_same change (Some comm) (Some other) s = refl

-- ALL STATEMENTS

pub action_same : (change : Request → Request) (a : Action) (s : NamesState) → acts_on a (changed_names change s) ≡
    changed_acts change (acts_on a s)
action_same change (actions.Buffer line) s = sets_same change line s
action_same change (actions.Layout line) s =
    ap (λ (o : Option Shape). sets_layout_of line o (changed_names change s)) (old_same change s line.made_of) ∙
    layout_of_same change line (old_layout s line.made_of) s
action_same change (actions.Isend name x) s = send_same change modes.Standard (pendings.Starting name None) x s
action_same change (actions.Issend name x) s = send_same change modes.Synchronous (pendings.Starting name None) x s
action_same change (actions.Irecv name x) s = receive_same change (pendings.Starting name (Some x.buffer)) x s
action_same change (actions.Iprobe x) s =
    ap (λ (c : Option (Option ℕ)). looks x c (changed_names change s)) (place_same change s x.communicator) ∙
    looks_same change x (place_named s x.communicator) s
action_same change (actions.Improbe name x) s =
    ap (λ (c : Option (Option ℕ)). searches name x c (changed_names change s)) (place_same change s x.communicator) ∙
    searches_same change name x (place_named s x.communicator) s
action_same change (actions.Mrecv name x) s =
    ap₂ (λ (m : Option NamedMessage) (p : Option Places). receives_by name x m p (changed_names change s))
    (message_same change s name) (places_same change s x.through)
    ∙ landing_same change name x (message_at s name) (places_named s x.through) s
action_same change (actions.Wait r) s =
    ap (λ (o : Option (Option Request)). waits_for r o (changed_names change s)) (named_same change s r) ∙
    waits_same change r (request_named s r) s
action_same change (actions.Test r) s =
    ap (λ (o : Option (Option Request)). tests_for r o (changed_names change s)) (named_same change s r) ∙
    tests_same change r (request_named s r) s
action_same change (actions.Cancel r) s =
    ap (λ (o : Option (Option Request)). cancels_for o (changed_names change s)) (named_same change s r) ∙
    cancels_same change (request_named s r) s
action_same change (actions.Waitany rs) s =
    ap (λ (o : Option (List (Option Request))). waits_for_several calls.Waitany rs o (changed_names change s))
    (all_named_same change s rs) ∙ any_same change rs (requests_named s rs) s
action_same change (actions.Waitall rs) s =
    ap (λ (o : Option (List (Option Request))). waits_for_several calls.Waitall rs o (changed_names change s))
    (all_named_same change s rs) ∙ all_same change rs (requests_named s rs) s
action_same change (actions.Barrier c) s =
    ap (λ (o : Option (Option ℕ)). waits_for_all o (changed_names change s)) (place_same change s c) ∙
    all_wait_same change (place_named s c) s
action_same change (actions.Bcast x) s =
    ap (λ (o : Option (Option ℕ)). hands_in o false (Some x.buffer) (here s x.buffer)
    (λ block. entries.Bcast x.root block) (changed_names change s)) (place_same change s x.communicator)
    ∙ hands_same change (place_named s x.communicator) false (Some x.buffer) (here s x.buffer)
    (λ block. entries.Bcast x.root block) s
action_same change (actions.Gather x) s =
    hands_at_root change x.communicator x.root x.into (here s x.buffer) (λ block. entries.Gather x.root block) s
action_same change (actions.Scatter x) s =
    ap₂ (λ (o : Option (Option ℕ)) (b : Option (Option Contents)). scatters_from x o (here s x.into) b
    (changed_names change s)) (place_same change s x.communicator)
    (ap (λ (b : Bool). blocks_named (changed_names change s) b x.buffer)
    (root_at_same change s s.rank x.communicator x.root) ∙
    blocks_same change s (is_root s x.communicator x.root) x.buffer)
    ∙ scatters_same change x (place_named s x.communicator) (here s x.into)
    (blocks_named s (is_root s x.communicator x.root) x.buffer) s
action_same change (actions.Reduce x) s =
    hands_at_root change x.communicator x.root x.into (here s x.buffer)
    (λ block. entries.Reduce x.operation x.root block) s
action_same change (actions.Allreduce x) s =
    ap (λ (o : Option (Option ℕ)). hands_in o (is_lent s x.into) (Some x.into) (here s x.buffer)
    (λ block. entries.Allreduce x.operation block) (changed_names change s)) (place_same change s x.communicator)
    ∙ hands_same change (place_named s x.communicator) (is_lent s x.into) (Some x.into) (here s x.buffer)
    (λ block. entries.Allreduce x.operation block) s
action_same change (actions.Dup name c) s =
    ap (λ (o : Option (Option ℕ)). makes name o entries.Dup (changed_names change s)) (place_same change s c) ∙
    makes_same change name (place_named s c) entries.Dup s
action_same change (actions.Split name x) s =
    ap (λ (o : Option (Option ℕ)). makes name o (split_by x) (changed_names change s))
    (place_same change s x.communicator) ∙ makes_same change name (place_named s x.communicator) (split_by x) s
action_same change (actions.Who c) s =
    ap (λ (o : Option (Option ℕ)). asks_rank o (changed_names change s)) (place_same change s c) ∙
    rank_same change (place_named s c) s
action_same change (actions.Members c) s =
    ap (λ (o : Option (Option ℕ)). asks_group o (changed_names change s)) (place_same change s c) ∙
    group_same change (place_named s c) s
action_same change (actions.Compare c d) s =
    ap₂ (λ (o p : Option (Option ℕ)). compares o p (changed_names change s)) (place_same change s c)
    (place_same change s d) ∙ compares_same change (place_named s c) (place_named s d) s

pub send_to_wait_same : (change : Request → Request) (x : Sending) (s : NamesState) →
    sends_to_wait x (changed_names change s) ≡ changed_acts change (sends_to_wait x s)
send_to_wait_same change x s = send_same change modes.Standard (pendings.StartingToWait None) x s

pub receive_to_wait_same : (change : Request → Request) (x : Receiving) (s : NamesState) →
    receives_to_wait x (changed_names change s) ≡ changed_acts change (receives_to_wait x s)
receive_to_wait_same change x s = receive_same change (pendings.StartingToWait (Some x.buffer)) x s
