-- A statement is faulty exactly where one of its names isn't set, or its buffer is lent.
use Rattle.std.proofs.Common.{◌≡◌, ℕ, Bool, true, false, List, [], ◌∷◌, Option, Some, None, refl}
use Rattle.std.specs.Prelude.{is_some, option_and_then, option_map, if◌then◌else◌}
use Rattle.datatypes.specs.Contents.{Contents}
use Rattle.vocabulary.specs.declared.mode.Mode.{Mode}
use Rattle.vocabulary.specs.declared.mode.Mode.TheVariants as modes
use Rattle.collective_messages.specs.declared.entry.Entry.{Entry}
use Rattle.collective_messages.specs.declared.entry.Entry.TheVariants as entries
use Rattle.engine_calls.specs.declared.call.Call.TheVariants as calls
use Rattle.line_diagnostics.specs.declared.fault.LineFault.{LineFault}
use Rattle.line_diagnostics.specs.Lacks.{lack_of_action, lacks_block, lacks_buffer, lacks_communicator, lacks_layout}
use Rattle.line_diagnostics.specs.Lacks.{lacks_old, lacks_place, lacks_places, lacks_request, lacks_requests, lacks_set}
use Rattle.line_diagnostics.specs.Lacks.{lacks_setting, lacks_slot, lent_slot, or_else, unset_unless}
use Rattle.requests.specs.declared.region.Places.{Places}
use Rattle.requests.specs.declared.region.Places.TheVariants as places
use Rattle.requests.specs.declared.table.Request.{Request}
use Rattle.script_calls.specs.declared.pending.NamedRequest.{NamedRequest}
use Rattle.script_calls.specs.declared.pending.NamedMessage.{NamedMessage}
use Rattle.script_calls.specs.declared.pending.NamedMessage.TheVariants as messages
use Rattle.script_calls.specs.declared.pending.Pending.{Pending}
use Rattle.script_calls.specs.declared.pending.Pending.TheVariants as pendings
use Rattle.script_calls.specs.declared.pending.NamedCommunicator.{NamedCommunicator}
use Rattle.script_calls.specs.Entries.{entry_with, split_by}
use Rattle.statements.specs.declared.action.Action.{Action}
use Rattle.statements.specs.declared.action.Action.TheVariants as actions
use Rattle.statements.specs.declared.action.CommunicatorName.{CommunicatorName}
use Rattle.statements.specs.declared.action.CommunicatorName.TheVariants as communicators
use Rattle.statements.specs.declared.action.Landing.{Landing}
use Rattle.statements.specs.declared.action.Receiving.{Receiving}
use Rattle.statements.specs.declared.action.RequestName.{RequestName}
use Rattle.statements.specs.declared.action.RequestName.TheVariants as requested
use Rattle.statements.specs.declared.action.Sending.{Sending}
use Rattle.statements.specs.declared.action.LayoutClause.{LayoutClause}
use Rattle.statements.specs.declared.layout_line.OldLayout.{OldLayout}
use Rattle.statements.specs.declared.layout_line.OldLayout.TheVariants as olds
use Rattle.derived_types.specs.Layouts.{is_beyond}
use Rattle.layouts.specs.Layouts.{Shape}
use Rattle.statements.specs.Meanings.{offsets_made}
use Rattle.statements.specs.declared.layout_line.LayoutLine.{LayoutLine}
use Rattle.statements.specs.declared.action.BufferLine.{BufferLine}
use Rattle.script_calls.specs.Tables.{value_at}
use Rattle.interpreter.specs.StatementCalls.{
  Acts,
  acts_on,
  asks_group,
  asks_rank,
  blocks_named,
  cancels_for,
  changes,
  compares,
}
use Rattle.interpreter.specs.StatementCalls.{faulty, hands_in, hands_in_to, is_lent_at_root, looks, makes, old_layout}
use Rattle.interpreter.specs.StatementCalls.{places_named, receives_by, receives_ended, receives_into, receives_taken}
use Rattle.interpreter.specs.StatementCalls.{receives_to_wait, request_named, requests_named, scatters_from, searches}
use Rattle.interpreter.specs.StatementCalls.{sends_from, sends_to_wait, sets_layout_of, sets_layout_unless, tests_for}
use Rattle.interpreter.specs.StatementCalls.{waits_for, waits_for_all, waits_for_several}
use Rattle.interpreter.specs.Faults.{FaultyWhere, is_faulty}
use Rattle.interpreter.specs.NamesState.{NamesState, here, holdings, is_lent, is_lent_slot, is_root, message_at}
use Rattle.interpreter.specs.NamesState.{place_named, slot_of, with_buffer}

-- ---- what is looked for, and the fault where it isn't there

-- there is a fault where nothing was found
abbrev pub Matches : {A : Type 0} → Option LineFault → Option A → Type 0
Matches None None = ⊥
Matches None (Some found) = Unit {0}
Matches (Some fault) None = Unit {0}
Matches (Some fault) (Some found) = ⊥

-- there is a fault where this is so
abbrev pub Tells : Option LineFault → Bool → Type 0
Tells None false = Unit {0}
Tells None true = ⊥
Tells (Some fault) false = ⊥
Tells (Some fault) true = Unit {0}

set_matches : {A : Type 0} (found : Option A) (name : List ℕ) → Matches (unset_unless (is_some found) name) found
set_matches None name = tt
set_matches (Some x) name = tt

mapped_matches : {A B : Type 0} (view : A → B) (fault : Option LineFault) (found : Option A) → Matches fault found →
    Matches fault (option_map view found)
mapped_matches view None None m = m
mapped_matches view None (Some x) m = tt
mapped_matches view (Some f) None m = tt
mapped_matches view (Some f) (Some x) m = m

communicator_matches : (s : NamesState) (c : CommunicatorName) →
    Matches (lacks_communicator (holdings s) c) (place_named s c)
communicator_matches s communicators.World = tt
communicator_matches s communicators.Own = tt
communicator_matches s (communicators.Named name) =
    mapped_matches (λ (held : Option NamedCommunicator). option_map (λ (seat : NamedCommunicator). seat.place) held)
    (unset_unless (is_some (value_at s.communicators name)) name) (value_at s.communicators name)
    (set_matches (value_at s.communicators name) name)

slot_matches : (slot : Option (Option Contents)) (name : List ℕ) →
    Matches (lacks_slot (slot_of slot) name) (option_and_then (λ (b : Option Contents). b) slot)
slot_matches None name = tt
slot_matches (Some None) name = tt
slot_matches (Some (Some buffer)) name = tt

pub buffer_matches : (s : NamesState) (name : List ℕ) → Matches (lacks_buffer (holdings s) name) (here s name)
buffer_matches s name = slot_matches (value_at s.buffers name) name

pub layout_matches : (s : NamesState) (name : List ℕ) →
    Matches (lacks_layout (holdings s) name) (value_at s.layouts name)
layout_matches s name = set_matches (value_at s.layouts name) name

old_matches : (s : NamesState) (old : OldLayout) → Matches (lacks_old (holdings s) old) (old_layout s old)
old_matches s (olds.Basic basic) = tt
old_matches s (olds.Named name) = layout_matches s name

places_match : (s : NamesState) (through : Option LayoutClause) →
    Matches (lacks_places (holdings s) through) (places_named s through)
places_match s None = tt
places_match s (Some through) =
    mapped_matches (λ (layout : Shape). places.Copies layout through.copies) (lacks_layout (holdings s) through.layout)
    (value_at s.layouts through.layout) (layout_matches s through.layout)

request_matches : (s : NamesState) (r : RequestName) → Matches (lacks_request (holdings s) r) (request_named s r)
request_matches s requested.Null = tt
request_matches s (requested.Named name) =
    mapped_matches (λ (held : NamedRequest). held.request) (unset_unless (is_some (value_at s.requests name)) name)
    (value_at s.requests name)
    (set_matches (value_at s.requests name) name)

both_match : (f g : Option LineFault) (one : Option (Option Request)) (rest : Option (List (Option Request))) →
    Matches f one → Matches g rest →
    Matches (or_else f g)
    (option_and_then (λ (r : Option Request). option_map (λ (rs : List (Option Request)). r ∷ rs) rest) one)
both_match None g None rest m n = absurd m
both_match (Some f) g None rest m n = tt
both_match (Some f) g (Some r) rest m n = absurd m
both_match None g (Some r) rest m n = mapped_matches (λ (rs : List (Option Request)). r ∷ rs) g rest n

requests_match : (s : NamesState) (rs : List RequestName) →
    Matches (lacks_requests (holdings s) rs) (requests_named s rs)
requests_match s [] = tt
requests_match s (r ∷ rs) =
    both_match (lacks_request (holdings s) r) (lacks_requests (holdings s) rs) (request_named s r) (requests_named s rs)
    (request_matches s r) (requests_match s rs)

slot_tells : (slot : Option (Option Contents)) (name : List ℕ) →
    Tells (lent_slot (slot_of slot) name) (is_lent_slot slot)
slot_tells None name = tt
slot_tells (Some None) name = tt
slot_tells (Some (Some buffer)) name = tt

setting_tells : (s : NamesState) (name : List ℕ) → Tells (lacks_setting (holdings s) name) (is_lent s name)
setting_tells s name = slot_tells (value_at s.buffers name) name

set_tells : (s : NamesState) (root : Bool) (name : List ℕ) →
    Tells (lacks_set (holdings s) root name) (is_lent_at_root s root name)
set_tells s true name = setting_tells s name
set_tells s false name = tt

blocks_match : (s : NamesState) (root : Bool) (name : Option (List ℕ)) →
    Matches (lacks_block (holdings s) root name) (blocks_named s root name)
blocks_match s false name = tt
blocks_match s true None = tt
blocks_match s true (Some name) =
    mapped_matches (λ (blocks : Contents). Some blocks) (lacks_buffer (holdings s) name) (here s name)
    (buffer_matches s name)

-- ---- what a line asks for, where something isn't there

one_faults : {A : Type 0} (s : NamesState) (act : Option A → Acts) (found : Option A) (f : Option LineFault) →
    Matches f found →
    act None ≡ faulty s → ((x : A) → is_faulty (act (Some x)).0 ≡ false) → FaultyWhere f (act found) s
one_faults s act None None m none some = absurd m
one_faults s act None (Some f) m none some = none
one_faults s act (Some x) None m none some = some x
one_faults s act (Some x) (Some f) m none some = absurd m

two_fault : {A B : Type 0} (s : NamesState) (act : Option A → Option B → Acts) (one : Option A) (two : Option B)
    (f g : Option LineFault) →
    Matches f one → Matches g two → ((b : Option B) → act None b ≡ faulty s) →
    ((a : A) → act (Some a) None ≡ faulty s) →
    ((a : A) (b : B) → is_faulty (act (Some a) (Some b)).0 ≡ false) → FaultyWhere (or_else f g) (act one two) s
two_fault s act None two None g m n first second all = absurd m
two_fault s act None two (Some f) g m n first second all = first two
two_fault s act (Some a) two (Some f) g m n first second all = absurd m
two_fault s act (Some a) two None g m n first second all = one_faults s (act (Some a)) two g n (second a) (all a)

three_fault : {A B C : Type 0} (s : NamesState) (act : Option A → Option B → Option C → Acts) (one : Option A)
    (two : Option B)
    (three : Option C) (f g h : Option LineFault) → Matches f one → Matches g two → Matches h three →
    ((b : Option B) (c : Option C) → act None b c ≡ faulty s) →
    ((a : A) (c : Option C) → act (Some a) None c ≡ faulty s) →
    ((a : A) (b : B) → act (Some a) (Some b) None ≡ faulty s) →
    ((a : A) (b : B) (c : C) → is_faulty (act (Some a) (Some b) (Some c)).0 ≡ false) →
    FaultyWhere (or_else f (or_else g h)) (act one two three) s
three_fault s act None two three None g h m n o first second third all = absurd m
three_fault s act None two three (Some f) g h m n o first second third all = first two three
three_fault s act (Some a) two three (Some f) g h m n o first second third all = absurd m
three_fault s act (Some a) two three None g h m n o first second third all =
    two_fault s (act (Some a)) two three g h n o (second a) (third a) (all a)

handed_goes_on : (comm : Option ℕ) (name : Option (List ℕ)) (entry : Option Entry) (s : NamesState) →
    is_faulty (hands_in_to comm name entry s).0 ≡ false
handed_goes_on comm name None s = refl
handed_goes_on comm name (Some entry) s = refl

-- a collective that hands a block in
hands_faults : (s : NamesState) (comm : Option (Option ℕ)) (lent : Bool) (name : Option (List ℕ))
    (block : Option Contents)
    (entry : Contents → Entry) (f g h : Option LineFault) → Matches f comm → Tells g lent → Matches h block →
    FaultyWhere (or_else f (or_else g h)) (hands_in comm lent name block entry s) s
hands_faults s None lent name block entry None g h m n o = absurd m
hands_faults s None lent name block entry (Some f) g h m n o = refl
hands_faults s (Some comm) lent name block entry (Some f) g h m n o = absurd m
hands_faults s (Some comm) true name block entry None None h m n o = absurd n
hands_faults s (Some comm) true name block entry None (Some g) h m n o = refl
hands_faults s (Some comm) false name block entry None (Some g) h m n o = absurd n
hands_faults s (Some comm) false name None entry None None None m n o = absurd o
hands_faults s (Some comm) false name None entry None None (Some h) m n o = refl
hands_faults s (Some comm) false name (Some block) entry None None (Some h) m n o = absurd o
hands_faults s (Some comm) false name (Some block) entry None None None m n o =
    handed_goes_on comm name (entry_with entry block) s

abbrev set_by : NamesState → BufferLine → Bool → Acts
set_by s line lent = if lent then faulty s else changes (with_buffer s line.name (Some line.value))

set_faults : (s : NamesState) (line : BufferLine) (f : Option LineFault) (lent : Bool) → Tells f lent →
    FaultyWhere f (set_by s line lent) s
set_faults s line None true t = absurd t
set_faults s line (Some f) true t = refl
set_faults s line None false t = refl
set_faults s line (Some f) false t = absurd t

layout_goes_on : (beyond : Bool) (name : List ℕ) (layout : Shape) (s : NamesState) →
    is_faulty (sets_layout_unless beyond name layout s).0 ≡ false
layout_goes_on true name layout s = refl
layout_goes_on false name layout s = refl

layout_faults : (s : NamesState) (line : LayoutLine) → FaultyWhere (lacks_old (holdings s) line.made_of)
    (sets_layout_of line (old_layout s line.made_of) s) s
layout_faults s line =
    one_faults s (λ (old : Option Shape). sets_layout_of line old s) (old_layout s line.made_of)
    (lacks_old (holdings s) line.made_of)
    (old_matches s line.made_of) refl
    (λ (old : Shape). layout_goes_on (is_beyond (offsets_made line.form old.offsets)) line.name
    (record { basic = old.basic; offsets = offsets_made line.form old.offsets }) s)

-- ---- sends, receives, and messages

send_faults : (mode : Mode) (pending : Pending) (x : Sending) (s : NamesState) →
    FaultyWhere (lacks_place (holdings s) x.communicator x.through x.buffer)
    (sends_from mode pending x (place_named s x.communicator) (places_named s x.through) (here s x.buffer) s) s
send_faults mode pending x s =
    three_fault s
    (λ (comm : Option (Option ℕ)) (named : Option Places) (buffer : Option Contents). sends_from mode pending x comm
    named buffer s)
    (place_named s x.communicator) (places_named s x.through) (here s x.buffer)
    (lacks_communicator (holdings s) x.communicator) (lacks_places (holdings s) x.through)
    (lacks_buffer (holdings s) x.buffer)
    (communicator_matches s x.communicator) (places_match s x.through) (buffer_matches s x.buffer)
    (λ b c. refl) (λ a c. refl) (λ a b. refl) (λ a b c. refl)

receive_faults : (pending : Pending) (x : Receiving) (s : NamesState) →
    FaultyWhere (lacks_place (holdings s) x.communicator x.through x.buffer)
    (receives_into pending x (place_named s x.communicator) (places_named s x.through) (here s x.buffer) s) s
receive_faults pending x s =
    three_fault s
    (λ (comm : Option (Option ℕ)) (named : Option Places) (buffer : Option Contents). receives_into pending x comm
    named buffer s)
    (place_named s x.communicator) (places_named s x.through) (here s x.buffer)
    (lacks_communicator (holdings s) x.communicator) (lacks_places (holdings s) x.through)
    (lacks_buffer (holdings s) x.buffer)
    (communicator_matches s x.communicator) (places_match s x.through) (buffer_matches s x.buffer)
    (λ b c. refl) (λ a c. refl) (λ a b. refl) (λ a b c. refl)

ended_faults : (s : NamesState) (buffer : Option Contents) (f : Option LineFault) → Matches f buffer →
    FaultyWhere f (receives_ended buffer, s) s
ended_faults s None None m = absurd m
ended_faults s None (Some f) m = refl
ended_faults s (Some buffer) None m = refl
ended_faults s (Some buffer) (Some f) m = absurd m

taken_faults : (message : Option Request) (named : Places) (name buffer : List ℕ) (s : NamesState)
    (contents : Option Contents) (f : Option LineFault) →
    Matches f contents → FaultyWhere f (receives_taken message named name buffer contents s) s
taken_faults message named name buffer s None None m = absurd m
taken_faults message named name buffer s None (Some f) m = refl
taken_faults message named name buffer s (Some contents) None m = refl
taken_faults message named name buffer s (Some contents) (Some f) m = absurd m

message_by : (name : List ℕ) (x : Landing) (s : NamesState) (message : Option NamedMessage) (named : Option Places)
    (f g : Option LineFault) →
    Matches f message → Matches g named →
    FaultyWhere (or_else f (or_else g (lacks_buffer (holdings s) x.buffer))) (receives_by name x message named s) s
message_by name x s None named None g m n = absurd m
message_by name x s None named (Some f) g m n = refl
message_by name x s (Some message) named (Some f) g m n = absurd m
message_by name x s (Some messages.Ended) None None None m n = absurd n
message_by name x s (Some (messages.TakenOut message)) None None None m n = absurd n
message_by name x s (Some messages.Ended) None None (Some g) m n = refl
message_by name x s (Some (messages.TakenOut message)) None None (Some g) m n = refl
message_by name x s (Some messages.Ended) (Some named) None (Some g) m n = absurd n
message_by name x s (Some (messages.TakenOut message)) (Some named) None (Some g) m n = absurd n
message_by name x s (Some messages.Ended) (Some named) None None m n =
    ended_faults s (here s x.buffer) (lacks_buffer (holdings s) x.buffer) (buffer_matches s x.buffer)
message_by name x s (Some (messages.TakenOut message)) (Some named) None None m n =
    taken_faults message named name x.buffer s (here s x.buffer) (lacks_buffer (holdings s) x.buffer)
    (buffer_matches s x.buffer)

-- ---- statements

-- a statement is faulty exactly where there is a fault, and then changes nothing
pub action_faults : (action : Action) (s : NamesState) →
    FaultyWhere (lack_of_action (holdings s) action) (acts_on action s) s
action_faults (actions.Buffer line) s =
    set_faults s line (lacks_setting (holdings s) line.name) (is_lent s line.name) (setting_tells s line.name)
action_faults (actions.Layout line) s = layout_faults s line
action_faults (actions.Isend name x) s = send_faults modes.Standard (pendings.Starting name None) x s
action_faults (actions.Issend name x) s = send_faults modes.Synchronous (pendings.Starting name None) x s
action_faults (actions.Irecv name x) s = receive_faults (pendings.Starting name (Some x.buffer)) x s
action_faults (actions.Iprobe x) s =
    one_faults s (λ (comm : Option (Option ℕ)). looks x comm s) (place_named s x.communicator)
    (lacks_communicator (holdings s) x.communicator)
    (communicator_matches s x.communicator) refl (λ comm. refl)
action_faults (actions.Improbe name x) s =
    one_faults s (λ (comm : Option (Option ℕ)). searches name x comm s) (place_named s x.communicator)
    (lacks_communicator (holdings s) x.communicator)
    (communicator_matches s x.communicator) refl (λ comm. refl)
action_faults (actions.Mrecv name x) s =
    message_by name x s (message_at s name) (places_named s x.through) (unset_unless (is_some (message_at s name)) name)
    (lacks_places (holdings s) x.through)
    (set_matches (message_at s name) name) (places_match s x.through)
action_faults (actions.Wait r) s =
    one_faults s (λ (request : Option (Option Request)). waits_for r request s) (request_named s r)
    (lacks_request (holdings s) r) (request_matches s r) refl (λ x. refl)
action_faults (actions.Test r) s =
    one_faults s (λ (request : Option (Option Request)). tests_for r request s) (request_named s r)
    (lacks_request (holdings s) r) (request_matches s r) refl (λ x. refl)
action_faults (actions.Cancel r) s =
    one_faults s (λ (request : Option (Option Request)). cancels_for request s) (request_named s r)
    (lacks_request (holdings s) r) (request_matches s r) refl (λ x. refl)
action_faults (actions.Waitany rs) s =
    one_faults s (λ (requests : Option (List (Option Request))). waits_for_several calls.Waitany rs requests s)
    (requests_named s rs) (lacks_requests (holdings s) rs)
    (requests_match s rs) refl (λ x. refl)
action_faults (actions.Waitall rs) s =
    one_faults s (λ (requests : Option (List (Option Request))). waits_for_several calls.Waitall rs requests s)
    (requests_named s rs) (lacks_requests (holdings s) rs)
    (requests_match s rs) refl (λ x. refl)
action_faults (actions.Barrier c) s =
    one_faults s (λ (comm : Option (Option ℕ)). waits_for_all comm s) (place_named s c)
    (lacks_communicator (holdings s) c) (communicator_matches s c) refl (λ x. refl)
action_faults (actions.Bcast x) s =
    hands_faults s (place_named s x.communicator) false (Some x.buffer) (here s x.buffer)
    (λ (block : Contents). entries.Bcast x.root block)
    (lacks_communicator (holdings s) x.communicator) None (lacks_buffer (holdings s) x.buffer)
    (communicator_matches s x.communicator) tt (buffer_matches s x.buffer)
action_faults (actions.Gather x) s =
    hands_faults s (place_named s x.communicator) (is_lent_at_root s (is_root s x.communicator x.root) x.into)
    (Some x.into) (here s x.buffer)
    (λ (block : Contents). entries.Gather x.root block)
    (lacks_communicator (holdings s) x.communicator) (lacks_set (holdings s) (is_root s x.communicator x.root) x.into)
    (lacks_buffer (holdings s) x.buffer)
    (communicator_matches s x.communicator) (set_tells s (is_root s x.communicator x.root) x.into)
    (buffer_matches s x.buffer)
action_faults (actions.Scatter x) s =
    three_fault s
    (λ (comm : Option (Option ℕ)) (into : Option Contents) (blocks : Option (Option Contents)). scatters_from x comm
    into blocks s)
    (place_named s x.communicator) (here s x.into) (blocks_named s (is_root s x.communicator x.root) x.buffer)
    (lacks_communicator (holdings s) x.communicator) (lacks_buffer (holdings s) x.into)
    (lacks_block (holdings s) (is_root s x.communicator x.root) x.buffer)
    (communicator_matches s x.communicator) (buffer_matches s x.into)
    (blocks_match s (is_root s x.communicator x.root) x.buffer)
    (λ b c. refl) (λ a c. refl) (λ a b. refl) (λ a b c. refl)
action_faults (actions.Reduce x) s =
    hands_faults s (place_named s x.communicator) (is_lent_at_root s (is_root s x.communicator x.root) x.into)
    (Some x.into) (here s x.buffer)
    (λ (block : Contents). entries.Reduce x.operation x.root block)
    (lacks_communicator (holdings s) x.communicator) (lacks_set (holdings s) (is_root s x.communicator x.root) x.into)
    (lacks_buffer (holdings s) x.buffer)
    (communicator_matches s x.communicator) (set_tells s (is_root s x.communicator x.root) x.into)
    (buffer_matches s x.buffer)
action_faults (actions.Allreduce x) s =
    hands_faults s (place_named s x.communicator) (is_lent s x.into) (Some x.into) (here s x.buffer)
    (λ (block : Contents). entries.Allreduce x.operation block)
    (lacks_communicator (holdings s) x.communicator) (lacks_setting (holdings s) x.into)
    (lacks_buffer (holdings s) x.buffer)
    (communicator_matches s x.communicator) (setting_tells s x.into) (buffer_matches s x.buffer)
action_faults (actions.Dup name c) s =
    one_faults s (λ (comm : Option (Option ℕ)). makes name comm entries.Dup s) (place_named s c)
    (lacks_communicator (holdings s) c) (communicator_matches s c) refl (λ x. refl)
action_faults (actions.Split name x) s =
    one_faults s (λ (comm : Option (Option ℕ)). makes name comm (split_by x) s) (place_named s x.communicator)
    (lacks_communicator (holdings s) x.communicator)
    (communicator_matches s x.communicator) refl
    (λ comm. refl)
action_faults (actions.Who c) s =
    one_faults s (λ (comm : Option (Option ℕ)). asks_rank comm s) (place_named s c) (lacks_communicator (holdings s) c)
    (communicator_matches s c) refl (λ x. refl)
action_faults (actions.Members c) s =
    one_faults s (λ (comm : Option (Option ℕ)). asks_group comm s) (place_named s c) (lacks_communicator (holdings s) c)
    (communicator_matches s c) refl (λ x. refl)
action_faults (actions.Compare c d) s =
    two_fault s (λ (comm other : Option (Option ℕ)). compares comm other s) (place_named s c) (place_named s d)
    (lacks_communicator (holdings s) c) (lacks_communicator (holdings s) d)
    (communicator_matches s c) (communicator_matches s d) (λ b. refl) (λ a. refl) (λ a b. refl)

-- the same of a send and of a receive that are waited for in the same statement
pub waited_send_faults : (x : Sending) (s : NamesState) →
    FaultyWhere (lacks_place (holdings s) x.communicator x.through x.buffer) (sends_to_wait x s) s
waited_send_faults x s = send_faults modes.Standard (pendings.StartingToWait None) x s

pub waited_receive_faults : (x : Receiving) (s : NamesState) →
    FaultyWhere (lacks_place (holdings s) x.communicator x.through x.buffer) (receives_to_wait x s) s
waited_receive_faults x s = receive_faults (pendings.StartingToWait (Some x.buffer)) x s
