-- What a statement asks of its rank's engine.
use Rattle.std.specs.Prelude.{◌≡◌, ℕ, Bool, true, false, Option, Some, None, List, [], ◌∷◌, length, if◌then◌else◌}
use Rattle.std.specs.Prelude.{option_map, option_and_then}
use Rattle.std.specs.Global.{Vec}
use Rattle.layouts.specs.Layouts.{Shape}
use Rattle.datatypes.specs.Contents.{Contents}
use Rattle.derived_types.specs.Layouts.{is_beyond}
use Rattle.datatypes.specs.Transfers.{whole_copies}
use Rattle.requests.specs.declared.region.Places.{Places}
use Rattle.requests.specs.declared.region.Places.TheVariants as places
use Rattle.requests.specs.declared.table.Request.{Request}
use Rattle.vocabulary.specs.declared.mode.Mode.{Mode}
use Rattle.vocabulary.specs.declared.mode.Mode.TheVariants as modes
use Rattle.collective_messages.specs.declared.entry.Entry.{Entry}
use Rattle.collective_messages.specs.declared.entry.Entry.TheVariants as entries
use Rattle.communicators.specs.declared.question.Question.TheVariants as questions
use Rattle.engine_calls.specs.declared.call.Call.{Call}
use Rattle.engine_calls.specs.declared.call.Call.TheVariants as calls
use Rattle.point_to_point_calls.specs.declared.call.Probe.{Probe}
use Rattle.statements.specs.declared.action.Action.{Action}
use Rattle.statements.specs.declared.action.Action.TheVariants as actions
use Rattle.statements.specs.declared.action.BufferLine.{BufferLine}
use Rattle.statements.specs.Meanings.{offsets_made}
use Rattle.statements.specs.declared.action.Landing.{Landing}
use Rattle.statements.specs.declared.action.Probing.{Probing}
use Rattle.statements.specs.declared.action.RequestName.{RequestName}
use Rattle.statements.specs.declared.action.RequestName.TheVariants as requested
use Rattle.statements.specs.declared.action.Receiving.{Receiving}
use Rattle.statements.specs.declared.action.Sending.{Sending}
use Rattle.statements.specs.declared.collective_line.Broadcasting.{Broadcasting}
use Rattle.statements.specs.declared.collective_line.Gathering.{Gathering}
use Rattle.statements.specs.declared.collective_line.Scattering.{Scattering}
use Rattle.statements.specs.declared.collective_line.Reducing.{Reducing}
use Rattle.statements.specs.declared.collective_line.ReducingToAll.{ReducingToAll}
use Rattle.statements.specs.declared.action.LayoutClause.{LayoutClause}
use Rattle.statements.specs.declared.layout_line.LayoutLine.{LayoutLine}
use Rattle.statements.specs.declared.layout_line.OldLayout.{OldLayout}
use Rattle.statements.specs.declared.layout_line.OldLayout.TheVariants as olds
use Rattle.script_calls.specs.declared.pending.NamedMessage.{NamedMessage}
use Rattle.script_calls.specs.declared.pending.NamedMessage.TheVariants as messages
use Rattle.script_calls.specs.declared.pending.Pending.{Pending}
use Rattle.script_calls.specs.declared.pending.Pending.TheVariants as pendings
use Rattle.script_calls.specs.Entries.{elements_like, entry_with, split_by}
use Rattle.interpreter.specs.declared.steps.NextStep.{NextStep}
use Rattle.interpreter.specs.declared.steps.NextStep.TheVariants as nexts
use Rattle.interpreter.specs.declared.steps.Told.TheVariants as tolds
use Rattle.interpreter.specs.Numbers.{err_limit, err_request}
use Rattle.interpreter.specs.NamesState.{NamesState, here, is_lent, is_root, message_at, place_named, request_at}
use Rattle.interpreter.specs.NamesState.{with_buffer, with_layout}
use Rattle.script_calls.specs.Tables.{value_at}

-- what comes next of a statement, or none where it is faulty; and what the names then stand for
abbrev pub Acts : Type 0
Acts = Option NextStep × NamesState

-- a name isn't set or a buffer is lent: nothing has changed
abbrev pub faulty : NamesState → Acts
faulty s = (None, s)

-- names alone have changed
abbrev pub changes : NamesState → Acts
changes s = (Some nexts.Nothing, s)

-- it is refused with this number, and nothing has changed
abbrev pub refuses : ℕ → NamesState → Acts
refuses number s = (Some (nexts.Told (tolds.Error number)), s)

-- the engine is called, and its answer is for this
abbrev pub asks : Call → Pending → NamesState → Acts
asks call pending s = (Some (nexts.Call (record { call = call; pending = pending })), s)

-- the engine is called, if there is a call; else the statement is faulty
abbrev pub asked_by : Option Call → Pending → Option NextStep
asked_by None pending = None
asked_by (Some call) pending = Some (nexts.Call (record { call = call; pending = pending }))

-- `buf`: a buffer that is lent can't be set
abbrev pub sets : BufferLine → NamesState → Acts
sets line s = if is_lent s line.name then faulty s else changes (with_buffer s line.name (Some line.value))

-- ---- layouts (MPI 3.1, 4.1.2)

-- the layout that a line starts from, if it is set: a basic type is the layout of one element
abbrev pub old_layout : NamesState → OldLayout → Option Shape
old_layout s (olds.Basic basic) = Some (record { basic = basic; offsets = 0 ∷ [] })
old_layout s (olds.Named name) = value_at s.layouts name

-- a layout that passes no limit is set; else it is refused with the number of the limit, 13
abbrev pub sets_layout_unless : Bool → List ℕ → Shape → NamesState → Acts
sets_layout_unless true name layout s = refuses err_limit s
sets_layout_unless false name layout s = changes (with_layout s name layout)

-- of a layout that is there
abbrev pub sets_layout_of : LayoutLine → Option Shape → NamesState → Acts
sets_layout_of line None s = faulty s
sets_layout_of line (Some old) s =
    sets_layout_unless (is_beyond (offsets_made line.form old.offsets)) line.name
    (record { basic = old.basic; offsets = offsets_made line.form old.offsets }) s

-- `type`
abbrev pub sets_layout : LayoutLine → NamesState → Acts
sets_layout line s = sets_layout_of line (old_layout s line.made_of) s

-- the places that a send or a receive names: all of the buffer, or so many copies of a layout, if that is set
abbrev pub places_named : NamesState → Option LayoutClause → Option Places
places_named s None = Some places.All
places_named s (Some through) =
    option_map (λ layout. places.Copies layout through.copies) (value_at s.layouts through.layout)

-- ---- sends and receives

-- a send of this mode in this communicator from these places of a buffer
abbrev pub sends_from : Mode → Pending → Sending → (comm : Option (Option ℕ)) → Option Places → Option Contents →
    NamesState → Acts
sends_from mode pending x None named buffer s = faulty s
sends_from mode pending x (Some comm) None buffer s = faulty s
sends_from mode pending x (Some comm) (Some named) None s = faulty s
sends_from mode pending x (Some comm) (Some named) (Some buffer) s =
    asks (calls.Isend
    (record {
      mode = mode;
      comm = comm;
      target = x.target;
      tag = x.tag;
      from =
          record { buffer = buffer; places = named };
    })) pending s

abbrev pub sends : Mode → Pending → Sending → NamesState → Acts
sends mode pending x s =
    sends_from mode pending x (place_named s x.communicator) (places_named s x.through) (here s x.buffer) s

-- the call of a send, if its communicator and its layout are set and its buffer is here
abbrev pub send_call : Mode → Sending → (comm : Option (Option ℕ)) → Option Places → Option Contents → Option Call
send_call mode x None named buffer = None
send_call mode x (Some comm) None buffer = None
send_call mode x (Some comm) (Some named) None = None
send_call mode x (Some comm) (Some named) (Some buffer) =
    Some (calls.Isend
    (record {
      mode = mode;
      comm = comm;
      target = x.target;
      tag = x.tag;
      from =
          record { buffer = buffer; places = named };
    }))

-- a buffer that is here is lent; else nothing changes
abbrev pub LendGives : NamesState → List ℕ → Option Contents → NamesState → Type 0
LendGives old name None new = (here old name ≡ None) × (new ≡ old)
LendGives old name (Some buffer) new = (here old name ≡ Some buffer) × (new ≡ with_buffer old name None)

-- a receive in this communicator into these places of a buffer, which is lent to it
abbrev pub receives_into : Pending → Receiving → (comm : Option (Option ℕ)) → Option Places → Option Contents →
    NamesState → Acts
receives_into pending x None named buffer s = faulty s
receives_into pending x (Some comm) None buffer s = faulty s
receives_into pending x (Some comm) (Some named) None s = faulty s
receives_into pending x (Some comm) (Some named) (Some buffer) s =
    asks (calls.Irecv
    (record { comm = comm; source = x.source; tag = x.tag; into = record { buffer = buffer; places = named } }))
    pending
    (with_buffer s x.buffer None)

abbrev pub receives : Pending → Receiving → NamesState → Acts
receives pending x s =
    receives_into pending x (place_named s x.communicator) (places_named s x.through) (here s x.buffer) s

-- the call of a receive, if its communicator and its layout are set and its buffer is here, which is lent then; else
-- nothing changes
abbrev pub LendsFor : Receiving → (comm : Option (Option ℕ)) → Option Places → Option Contents → NamesState →
    Option Call → NamesState → Type 0
LendsFor x None named buffer old call new = (call ≡ None) × (new ≡ old)
LendsFor x (Some comm) None buffer old call new = (call ≡ None) × (new ≡ old)
LendsFor x (Some comm) (Some named) None old call new = (call ≡ None) × (new ≡ old)
LendsFor x (Some comm) (Some named) (Some buffer) old call new =
    (call ≡ Some
    (calls.Irecv
    (record { comm = comm; source = x.source; tag = x.tag; into = record { buffer = buffer; places = named } })))
    × (new ≡ with_buffer old x.buffer None)

-- ---- probes and the messages that they find (MPI 3.1, 3.8)

-- a probe in this communicator
abbrev pub probe_in : Option ℕ → Probing → Probe
probe_in comm x = record { comm = comm; source = x.source; tag = x.tag }

-- `iprobe`
abbrev pub looks : Probing → (comm : Option (Option ℕ)) → NamesState → Acts
looks x None s = faulty s
looks x (Some comm) s = asks (calls.Iprobe (probe_in comm x)) pendings.Nothing s

-- `improbe`: the message has this name, where one is found
abbrev pub searches : List ℕ → Probing → (comm : Option (Option ℕ)) → NamesState → Acts
searches name x None s = faulty s
searches name x (Some comm) s = asks (calls.Improbe (probe_in comm x)) (pendings.Searching name) s

-- the receive of a message that was received before: it is refused, if its buffer is here
abbrev pub receives_ended : Option Contents → Option NextStep
receives_ended None = None
receives_ended (Some buffer) = Some (nexts.Told (tolds.Error err_request))

-- the receive of a message that was taken out, of this name, into these places of the buffer of that name, which is
-- lent to it
abbrev pub receives_taken : Option Request → Places → (name buffer : List ℕ) → Option Contents → NamesState → Acts
receives_taken message named name buffer None s = faulty s
receives_taken message named name buffer (Some contents) s =
    asks (calls.Mrecv message (record { buffer = contents; places = named })) (pendings.Receiving name buffer)
    (with_buffer s buffer None)

abbrev pub receives_by : List ℕ → Landing → Option NamedMessage → Option Places → NamesState → Acts
receives_by name x None named s = faulty s
receives_by name x (Some message) None s = faulty s
receives_by name x (Some messages.Ended) (Some named) s = (receives_ended (here s x.buffer), s)
receives_by name x (Some (messages.TakenOut message)) (Some named) s =
    receives_taken message named name x.buffer (here s x.buffer) s

-- `mrecv`
abbrev pub receives_message : List ℕ → Landing → NamesState → Acts
receives_message name x s = receives_by name x (message_at s name) (places_named s x.through) s

-- ---- requests

-- the request that a line names, which may be null, if it is set
abbrev pub request_named : NamesState → RequestName → Option (Option Request)
request_named s requested.Null = Some None
request_named s (requested.Named name) = request_at s name

-- a wait for a request
abbrev pub waits_for : RequestName → Option (Option Request) → NamesState → Acts
waits_for r None s = faulty s
waits_for r (Some request) s = asks (calls.Wait request) (pendings.Waiting r) s

-- a test of a request
abbrev pub tests_for : RequestName → Option (Option Request) → NamesState → Acts
tests_for r None s = faulty s
tests_for r (Some request) s = asks (calls.Test request) (pendings.Waiting r) s

-- a cancel of a request
abbrev pub cancels_for : Option (Option Request) → NamesState → Acts
cancels_for None s = faulty s
cancels_for (Some request) s = asks (calls.Cancel request) pendings.Nothing s

-- the requests that a line names, if each is set
abbrev pub requests_named : NamesState → List RequestName → Option (List (Option Request))
requests_named s [] = Some []
requests_named s (r ∷ rs) =
    option_and_then (λ request. option_map (λ rest. request ∷ rest) (requests_named s rs)) (request_named s r)

-- a vector of them, if each is set
abbrev pub AreListed : Option (List (Option Request)) → Option (Vec (Option Request)) → Type 0
AreListed None listed = listed ≡ None
AreListed (Some requests) None = ⊥
AreListed (Some requests) (Some listed) = listed.items ≡ requests

-- the same as a list
abbrev pub listed_named : NamesState → List RequestName → Option (List (Option Request))
listed_named s rs = requests_named s rs

-- a wait for any or for all of several
abbrev pub waits_for_several : (List (Option Request) → Call) → List RequestName → Option (List (Option Request)) →
    NamesState → Acts
waits_for_several call rs None s = faulty s
waits_for_several call rs (Some requests) s = asks (call requests) (pendings.WaitingForSeveral rs) s

-- ---- communicators

-- a collective that hands no block in is entered on a communicator that is set
abbrev pub enters : (comm : Option (Option ℕ)) → Entry → Pending → NamesState → Acts
enters None entry pending s = faulty s
enters (Some comm) entry pending s = asks (calls.Enter comm entry) pending s

-- a collective on a communicator that is set makes another one, which has this name then (MPI 3.1, 6.4.2)
abbrev pub makes : (name : List ℕ) → (comm : Option (Option ℕ)) → Entry → NamesState → Acts
makes name comm entry s = enters comm entry (pendings.Making name) s

-- ---- collectives that make no communicator (MPI 3.1, 5)

-- `barrier`
abbrev pub waits_for_all : (comm : Option (Option ℕ)) → NamesState → Acts
waits_for_all None s = faulty s
waits_for_all (Some comm) s = asks (calls.Enter comm entries.Barrier) (pendings.Entering None) s

-- A collective is entered, which may set a buffer. A block of 2^32 elements or more is above the limit of a block, 1;
-- the rules on the caller and its communicator come before, so the rank in it is asked for.
abbrev pub hands_in_to : (comm : Option ℕ) → Option (List ℕ) → Option Entry → NamesState → Acts
hands_in_to comm name None s = asks (calls.Ask comm questions.Rank) pendings.Oversized s
hands_in_to comm name (Some entry) s = asks (calls.Enter comm entry) (pendings.Entering name) s

-- the same on a communicator that is set, of a buffer that is here; what is to be set isn't lent
abbrev pub hands_in : (comm : Option (Option ℕ)) → (lent : Bool) → (name : Option (List ℕ)) → Option Contents →
    (Contents → Entry) → NamesState → Acts
hands_in None lent name block entry s = faulty s
hands_in (Some comm) true name block entry s = faulty s
hands_in (Some comm) false name None entry s = faulty s
hands_in (Some comm) false name (Some block) entry s = hands_in_to comm name (entry_with entry block) s

-- the communicator's place and the buffer's elements, if both are here and what is to be set isn't lent
abbrev pub block_for : (comm : Option (Option ℕ)) → (lent : Bool) → Option Contents → Option (Option ℕ × Contents)
block_for None lent block = None
block_for (Some comm) true block = None
block_for (Some comm) false None = None
block_for (Some comm) false (Some block) = Some (comm, block)

-- `bcast`: the root's elements are those of the others from then on
abbrev pub broadcasts : Broadcasting → NamesState → Acts
broadcasts x s =
    hands_in (place_named s x.communicator) false (Some x.buffer) (here s x.buffer)
    (λ block. entries.Bcast x.root block) s

-- whether the root is to set a buffer that is lent; elsewhere that isn't looked at
abbrev pub is_lent_at_root : NamesState → Bool → List ℕ → Bool
is_lent_at_root s true name = is_lent s name
is_lent_at_root s false name = false

-- `gather`, `reduce`: the root has the blocks of all, or what they make, from then on
abbrev pub gathers : Gathering → NamesState → Acts
gathers x s =
    hands_in (place_named s x.communicator) (is_lent_at_root s (is_root s x.communicator x.root) x.into) (Some x.into)
    (here s x.buffer)
    (λ block. entries.Gather x.root block) s

abbrev pub reduces : Reducing → NamesState → Acts
reduces x s =
    hands_in (place_named s x.communicator) (is_lent_at_root s (is_root s x.communicator x.root) x.into) (Some x.into)
    (here s x.buffer)
    (λ block. entries.Reduce x.operation x.root block) s

-- `allreduce`: all have what the blocks of all make
abbrev pub reduces_to_all : ReducingToAll → NamesState → Acts
reduces_to_all x s =
    hands_in (place_named s x.communicator) (is_lent s x.into) (Some x.into) (here s x.buffer)
    (λ block. entries.Allreduce x.operation block) s

-- what a scatter hands in: at the root a buffer that is here, elsewhere nothing
abbrev pub blocks_named : NamesState → Bool → Option (List ℕ) → Option (Option Contents)
blocks_named s false name = Some None
blocks_named s true None = None
blocks_named s true (Some name) = option_map (λ blocks. Some blocks) (here s name)

-- `scatter`: each has its block of the root's elements from then on
abbrev pub scatters_from : Scattering → (comm : Option (Option ℕ)) → Option Contents → Option (Option Contents) →
    NamesState → Acts
scatters_from x None into blocks s = faulty s
scatters_from x (Some comm) None blocks s = faulty s
scatters_from x (Some comm) (Some into) None s = faulty s
scatters_from x (Some comm) (Some into) (Some blocks) s =
    asks (calls.Enter comm (entries.Scatter (record { elements = elements_like into; root = x.root }) blocks))
    (pendings.Entering (Some x.into)) s

-- the call of a scatter, if its communicator is set and its buffers are here
abbrev pub scatter_call : Scattering → (comm : Option (Option ℕ)) → Option Contents → Option (Option Contents) →
    Option Call
scatter_call x None into blocks = None
scatter_call x (Some comm) None blocks = None
scatter_call x (Some comm) (Some into) None = None
scatter_call x (Some comm) (Some into) (Some blocks) =
    Some (calls.Enter comm (entries.Scatter (record { elements = elements_like into; root = x.root }) blocks))

abbrev pub scatters : Scattering → NamesState → Acts
scatters x s =
    scatters_from x (place_named s x.communicator) (here s x.into)
    (blocks_named s (is_root s x.communicator x.root) x.buffer) s

-- ---- questions

-- a question about a communicator that is set (MPI 3.1, 6.4.1); for its rank in it and its size a rank asks one after
-- the other
abbrev pub asks_rank : (comm : Option (Option ℕ)) → NamesState → Acts
asks_rank None s = faulty s
asks_rank (Some comm) s = asks (calls.Ask comm questions.Rank) (pendings.AskingRank comm) s

abbrev pub asks_group : (comm : Option (Option ℕ)) → NamesState → Acts
asks_group None s = faulty s
asks_group (Some comm) s = asks (calls.Ask comm questions.Group) pendings.Nothing s

abbrev pub compares : (comm other : Option (Option ℕ)) → NamesState → Acts
compares None other s = faulty s
compares (Some comm) None s = faulty s
compares (Some comm) (Some other) s = asks (calls.Ask comm (questions.Compare other)) pendings.Nothing s

-- ---- counts

-- how many whole copies of a layout the last status counts, if that layout is set (MPI 3.1, 3.2.5)
abbrev pub count_of : NamesState → List ℕ → Option (Option ℕ)
count_of s name =
    option_map (λ (layout : Shape). whole_copies s.last.count (length layout.offsets)) (value_at s.layouts name)

-- ---- statements

-- what a statement asks for
abbrev pub acts_on : Action → NamesState → Acts
acts_on (actions.Buffer line) s = sets line s
acts_on (actions.Layout line) s = sets_layout line s
acts_on (actions.Isend name x) s = sends modes.Standard (pendings.Starting name None) x s
acts_on (actions.Issend name x) s = sends modes.Synchronous (pendings.Starting name None) x s
acts_on (actions.Irecv name x) s = receives (pendings.Starting name (Some x.buffer)) x s
acts_on (actions.Iprobe x) s = looks x (place_named s x.communicator) s
acts_on (actions.Improbe name x) s = searches name x (place_named s x.communicator) s
acts_on (actions.Mrecv name x) s = receives_message name x s
acts_on (actions.Wait r) s = waits_for r (request_named s r) s
acts_on (actions.Test r) s = tests_for r (request_named s r) s
acts_on (actions.Cancel r) s = cancels_for (request_named s r) s
acts_on (actions.Waitany rs) s = waits_for_several calls.Waitany rs (requests_named s rs) s
acts_on (actions.Waitall rs) s = waits_for_several calls.Waitall rs (requests_named s rs) s
acts_on (actions.Barrier c) s = waits_for_all (place_named s c) s
acts_on (actions.Bcast x) s = broadcasts x s
acts_on (actions.Gather x) s = gathers x s
acts_on (actions.Scatter x) s = scatters x s
acts_on (actions.Reduce x) s = reduces x s
acts_on (actions.Allreduce x) s = reduces_to_all x s
acts_on (actions.Dup name c) s = makes name (place_named s c) entries.Dup s
acts_on (actions.Split name x) s = makes name (place_named s x.communicator) (split_by x) s
acts_on (actions.Who c) s = asks_rank (place_named s c) s
acts_on (actions.Members c) s = asks_group (place_named s c) s
acts_on (actions.Compare c d) s = compares (place_named s c) (place_named s d) s

-- it concerns a communicator as a whole: a collective, or a question about it
abbrev pub IsTogether : Action → Type 0
IsTogether (actions.Buffer line) = ⊥
IsTogether (actions.Layout line) = ⊥
IsTogether (actions.Isend name x) = ⊥
IsTogether (actions.Issend name x) = ⊥
IsTogether (actions.Irecv name x) = ⊥
IsTogether (actions.Iprobe x) = ⊥
IsTogether (actions.Improbe name x) = ⊥
IsTogether (actions.Mrecv name x) = ⊥
IsTogether (actions.Wait r) = ⊥
IsTogether (actions.Test r) = ⊥
IsTogether (actions.Cancel r) = ⊥
IsTogether (actions.Waitany rs) = ⊥
IsTogether (actions.Waitall rs) = ⊥
IsTogether (actions.Barrier c) = Unit {0}
IsTogether (actions.Bcast x) = Unit {0}
IsTogether (actions.Gather x) = Unit {0}
IsTogether (actions.Scatter x) = Unit {0}
IsTogether (actions.Reduce x) = Unit {0}
IsTogether (actions.Allreduce x) = Unit {0}
IsTogether (actions.Dup name c) = Unit {0}
IsTogether (actions.Split name x) = Unit {0}
IsTogether (actions.Who c) = Unit {0}
IsTogether (actions.Members c) = Unit {0}
IsTogether (actions.Compare c d) = Unit {0}

-- a send or a receive that is waited for in the same line, as scripts have them
abbrev pub sends_to_wait : Sending → NamesState → Acts
sends_to_wait x s = sends modes.Standard (pendings.StartingToWait None) x s

abbrev pub receives_to_wait : Receiving → NamesState → Acts
receives_to_wait x s = receives (pendings.StartingToWait (Some x.buffer)) x s
