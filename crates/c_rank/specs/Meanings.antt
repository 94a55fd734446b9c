-- What the numbers of a call mean, and its data: which call of the engine.
use Rattle.std.specs.Prelude.{◌≡◌, ◌⊎◌, ◌==◌, ◌%◌, ◌^◌, ℕ, List, length, min, nat_lt, Option, Some, None, Result, Ok, Err}
use Rattle.std.specs.Prelude.{Bool, true, if◌then◌else◌}
use Rattle.vocabulary.specs.BasicTypes.{size_of, type_at}
use Rattle.vocabulary.specs.Operations.{operation_at}
use Rattle.vocabulary.specs.declared.basic_type.BasicType.{BasicType}
use Rattle.vocabulary.specs.declared.envelope.Source.{Source}
use Rattle.vocabulary.specs.declared.envelope.Source.TheVariants as sources
use Rattle.vocabulary.specs.declared.mode.Mode.{Mode}
use Rattle.vocabulary.specs.declared.mode.Mode.TheVariants as modes
use Rattle.vocabulary.specs.declared.operation.Operation.{Operation}
use Rattle.datatypes.specs.Contents.{Contents}
use Rattle.requests.specs.declared.region.Places.TheVariants.{All}
use Rattle.requests.specs.declared.table.Request.{Request}
use Rattle.payload.specs.declared.payload.Choice.{Choice}
use Rattle.payload.specs.declared.record.Rooted.{Rooted}
use Rattle.collective_messages.specs.declared.entry.Entry.{Entry}
use Rattle.collective_messages.specs.declared.entry.Entry.TheVariants as entries
use Rattle.communicators.specs.declared.question.Question.{Question}
use Rattle.communicators.specs.declared.question.Question.TheVariants as questions
use Rattle.point_to_point_calls.specs.declared.call.Probe.{Probe}
use Rattle.engine_calls.specs.declared.call.Call.{Call}
use Rattle.engine_calls.specs.declared.call.Call.TheVariants as calls
use Rattle.c_rank.specs.declared.call_kind.CallKind.{CallKind}
use Rattle.c_rank.specs.declared.call_kind.CallKind.TheVariants as kinds
use Rattle.c_rank.specs.declared.meaning.Meant.{Meant}
use Rattle.c_rank.specs.declared.meaning.Meant.TheVariants as meant
use Rattle.c_rank.specs.declared.records.CallRecord.{CallRecord}
use Rattle.c_rank.specs.declared.records.RequestRecord.{RequestRecord}
use Rattle.c_rank.specs.Elements.{elements_of, zeros}
use Rattle.c_rank.specs.Kinds.{kind_at}

-- this was meant, or the number of why it wasn't; or memory was wanting
abbrev pub IsMeant : {A : Type 0} → (wanted got : Result A ℕ) → Type 0
IsMeant wanted (Ok m) = wanted ≡ Ok m
IsMeant wanted (Err n) = (wanted ≡ Err n) ⊎ (n ≡ 14)

-- the same, where memory is wanted for elements alone
abbrev pub IsMeantBy : {A : Type 0} → (has_elements : Bool) → (wanted got : Result A ℕ) → Type 0
IsMeantBy b wanted (Ok m) = wanted ≡ Ok m
IsMeantBy b wanted (Err n) = (wanted ≡ Err n) ⊎ ((b ≡ true) × (n ≡ 14))

-- ---- numbers

-- a communicator, by its place
abbrev pub communicator_at : ℕ → Option ℕ
communicator_at n = if n == 4294967295 then None else Some n

-- a rank, any rank, or the null process
abbrev pub peer_at : ℕ → Source
peer_at n =
    if n == 4294967295 then sources.Any else (if n == 4294967294 then sources.Null else sources.Rank (min n 65535))

-- a tag, or the wildcard; a colour, or MPI_UNDEFINED
abbrev pub tag_at : ℕ → Option ℕ
tag_at n = if n == 4294967295 then None else Some n

abbrev pub request_at : RequestRecord → Request
request_at r = record { key = r.key; serial = r.serial }

-- a request or a message, or the null request, or the message of the null process
abbrev pub request_named : RequestRecord → Option Request
request_named r = if r.key == 18446744073709551615 then None else Some (request_at r)

abbrev pub probe_at : CallRecord → Probe
probe_at r = record { comm = communicator_at r.communicator; source = peer_at r.peer; tag = tag_at r.tag }

abbrev pub choice_at : CallRecord → Choice
choice_at r = record { colour = tag_at r.colour; key = r.order }

-- ---- elements

abbrev pub whole_elements : Option BasicType → List ℕ → Result Contents ℕ
whole_elements None bytes = Err 2
whole_elements (Some t) bytes = if length bytes % size_of t == 0 then Ok (elements_of t bytes) else Err 1

-- the elements that the data are: whole ones of the type that the code names
abbrev pub elements_handed : (code : ℕ) → List ℕ → Result Contents ℕ
elements_handed code bytes = whole_elements (type_at code) bytes

abbrev pub room_of : Option BasicType → (count : ℕ) → Result Contents ℕ
room_of None count = Err 2
room_of (Some t) count = Ok (zeros t count)

-- room for so many elements of the type that the code names
abbrev pub room_asked : (code count : ℕ) → Result Contents ℕ
room_asked code count = room_of (type_at code) count

-- a block has fewer than 2^32 elements
abbrev pub as_block : Contents → Result Contents ℕ
as_block c = if nat_lt (length c.values) (2 ^ 32) then Ok c else Err 1

abbrev pub and_block : Result Contents ℕ → Result Contents ℕ
and_block (Ok c) = as_block c
and_block (Err n) = Err n

-- the block that the data are
abbrev pub block_handed : CallRecord → List ℕ → Result Contents ℕ
block_handed r bytes = and_block (elements_handed r.basic bytes)

-- the block of a broadcast: the data at its root, and as many elements elsewhere
abbrev pub block_told : CallRecord → List ℕ → Result Contents ℕ
block_told r bytes =
    if r.has_data == 0 then (if nat_lt 4294967295 r.count then Err 1 else and_block (room_asked r.basic r.count)) else
    block_handed r bytes

-- ---- calls

-- a call with these elements
abbrev pub call_with : (Contents → Result Meant ℕ) → Result Contents ℕ → Result Meant ℕ
call_with f (Ok c) = f c
call_with f (Err n) = Err n

-- the send of these elements
abbrev pub send_of : Mode → CallRecord → Contents → Call
send_of mode r c =
    calls.Isend (record {
      mode = mode;
      comm = communicator_at r.communicator;
      target = peer_at r.peer;
      tag = tag_at r.tag;
      from = record { buffer = c; places = All };
    })

abbrev pub send_meant : Mode → CallRecord → List ℕ → Result Meant ℕ
send_meant mode r bytes = call_with (λ c. Ok (meant.Call (send_of mode r c))) (elements_handed r.basic bytes)

-- the receive that has this room
abbrev pub receive_of : CallRecord → Contents → Call
receive_of r c =
    calls.Irecv (record {
      comm = communicator_at r.communicator;
      source = peer_at r.peer;
      tag = tag_at r.tag;
      into = record { buffer = c; places = All };
    })

abbrev pub receive_meant : CallRecord → Result Meant ℕ
receive_meant r = call_with (λ c. Ok (meant.Call (receive_of r c))) (room_asked r.basic r.count)

abbrev pub message_meant : CallRecord → Result Meant ℕ
message_meant r =
    call_with
    (λ c. Ok (meant.Call (calls.Mrecv (request_named r.request) (record { buffer = c; places = All }))))
    (room_asked r.basic r.count)

-- a collective is entered so
abbrev pub entering : CallRecord → Entry → Meant
entering r entry = meant.Call (calls.Enter (communicator_at r.communicator) entry)

abbrev pub broadcast_meant : CallRecord → List ℕ → Result Meant ℕ
broadcast_meant r bytes = call_with (λ c. Ok (entering r (entries.Bcast r.peer c))) (block_told r bytes)

abbrev pub gather_meant : CallRecord → List ℕ → Result Meant ℕ
gather_meant r bytes = call_with (λ c. Ok (entering r (entries.Gather r.peer c))) (block_handed r bytes)

abbrev pub rooted_of : Option BasicType → CallRecord → Result Rooted ℕ
rooted_of None r = Err 2
rooted_of (Some t) r =
    if nat_lt 4294967295 r.count then Err 1 else
    Ok (record { elements = record { basic = t; count = r.count }; root = r.peer })

-- the block of each member in a scatter, and its root
abbrev pub rooted_told : CallRecord → Result Rooted ℕ
rooted_told r = rooted_of (type_at r.basic) r

abbrev pub some_handed : Result Contents ℕ → Result (Option Contents) ℕ
some_handed (Ok c) = Ok (Some c)
some_handed (Err n) = Err n

-- what a member hands in in a scatter: the root alone does
abbrev pub scattered : CallRecord → List ℕ → Result (Option Contents) ℕ
scattered r bytes = if r.has_data == 0 then Ok None else some_handed (elements_handed r.basic bytes)

abbrev pub scatter_of : CallRecord → Rooted → Result (Option Contents) ℕ → Result Meant ℕ
scatter_of r rooted (Ok all) = Ok (entering r (entries.Scatter rooted all))
scatter_of r rooted (Err n) = Err n

abbrev pub scatter_by : CallRecord → Result Rooted ℕ → List ℕ → Result Meant ℕ
scatter_by r (Ok rooted) bytes = scatter_of r rooted (scattered r bytes)
scatter_by r (Err n) bytes = Err n

abbrev pub scatter_meant : CallRecord → List ℕ → Result Meant ℕ
scatter_meant r bytes = scatter_by r (rooted_told r) bytes

abbrev pub reduction_by : Option Operation → (Operation → Entry) → CallRecord → Result Meant ℕ
reduction_by None entry r = Err 9
reduction_by (Some operation) entry r = Ok (entering r (entry operation))

-- the reduction of a block to a root, by the operation that the code names
abbrev pub reduction : CallRecord → Contents → Result Meant ℕ
reduction r c = reduction_by (operation_at r.operation) (λ o. entries.Reduce o r.peer c) r

-- and to all
abbrev pub reduction_to_all : CallRecord → Contents → Result Meant ℕ
reduction_to_all r c = reduction_by (operation_at r.operation) (λ o. entries.Allreduce o c) r

abbrev pub reduce_meant : CallRecord → List ℕ → Result Meant ℕ
reduce_meant r bytes = call_with (reduction r) (block_handed r bytes)

abbrev pub allreduce_meant : CallRecord → List ℕ → Result Meant ℕ
allreduce_meant r bytes = call_with (reduction_to_all r) (block_handed r bytes)

-- a question about the communicator
abbrev pub asking : CallRecord → Question → Meant
asking r question = meant.Call (calls.Ask (communicator_at r.communicator) question)

-- what a call of each kind means
abbrev pub meaning_by : CallKind → CallRecord → List ℕ → Result Meant ℕ
meaning_by kinds.Isend r bytes = send_meant modes.Standard r bytes
meaning_by kinds.Issend r bytes = send_meant modes.Synchronous r bytes
meaning_by kinds.Irecv r bytes = receive_meant r
meaning_by kinds.Test r bytes = Ok (meant.Call (calls.Test (request_named r.request)))
meaning_by kinds.Look r bytes = Ok (meant.Look (request_at r.request))
meaning_by kinds.Cancel r bytes = Ok (meant.Call (calls.Cancel (request_named r.request)))
meaning_by kinds.Iprobe r bytes = Ok (meant.Probe (probe_at r))
meaning_by kinds.Improbe r bytes = Ok (meant.Call (calls.Improbe (probe_at r)))
meaning_by kinds.Mrecv r bytes = message_meant r
meaning_by kinds.Finish r bytes = Ok meant.Finish
meaning_by kinds.Barrier r bytes = Ok (entering r entries.Barrier)
meaning_by kinds.Bcast r bytes = broadcast_meant r bytes
meaning_by kinds.Gather r bytes = gather_meant r bytes
meaning_by kinds.Scatter r bytes = scatter_meant r bytes
meaning_by kinds.Reduce r bytes = reduce_meant r bytes
meaning_by kinds.Allreduce r bytes = allreduce_meant r bytes
meaning_by kinds.Dup r bytes = Ok (entering r entries.Dup)
meaning_by kinds.Split r bytes = Ok (entering r (entries.Split (choice_at r)))
meaning_by kinds.Rank r bytes = Ok (asking r questions.Rank)
meaning_by kinds.Size r bytes = Ok (asking r questions.Size)
meaning_by kinds.Members r bytes = Ok (asking r questions.Group)
meaning_by kinds.Compare r bytes = Ok (asking r (questions.Compare (communicator_at r.other)))

abbrev pub meaning_of_kind : Option CallKind → CallRecord → List ℕ → Result Meant ℕ
meaning_of_kind None r bytes = Err 83
meaning_of_kind (Some kind) r bytes = meaning_by kind r bytes

-- what the numbers of a call mean, and its data
abbrev pub meaning : CallRecord → List ℕ → Result Meant ℕ
meaning r bytes = meaning_of_kind (kind_at r.kind) r bytes
