-- An endpoint as its program has it, whose receives stand where they were begun, beside the same endpoint as its engine
-- has it, which knows some of them only later.
use Rattle.std.specs.Prelude.{◌≡◌, ◌≢◌, ◌⊎◌, ℕ, ◌<◌, true, false, List, length, map, Option, Some, None}
use Rattle.std.specs.Prelude.{option_map, slice_get, slice_set}
use Rattle.std.specs.List.{AllByRecursion}
use Rattle.perfect_queues.specs.Messages.{Message}
use Rattle.perfect_queues.specs.Outcomes.{outcome}
use Rattle.perfect_queues.specs.Receives.{Probe, Receive, accepts}
use Rattle.perfect_queues.specs.Requests.{Finished, Gone, Matched, Posted, Request, Sending, TakenOut}
use Rattle.perfect_queues.specs.State.{Local}
use Rattle.proof_late_posting.specs.Places.{Places, message_by, unanswered_by}
use Rattle.vocabulary.specs.declared.endpoint.Endpoint.{Endpoint}
use Rattle.vocabulary.specs.declared.envelope.Source.TheVariants.{Null, Rank}

-- A program's requests in the order in which they were started: each is known to the engine, or it is a receive that is
-- kept back
abbrev pub Row : Type 0
Row = List (Option Receive)

abbrev pub IsKept : Row → (place : ℕ) → Receive → Type 0
IsKept row i p = slice_get row i ≡ Some (Some p)

-- the row where the engine was told of the receive at a place
abbrev pub told_of : Row → (place : ℕ) → Row
told_of row i = slice_set row i None

-- no message that the second one accepts is accepted by the first
abbrev pub IsApart : (before p : Receive) → Type 0
IsApart before p = (m : Message) → accepts p m ≡ true → accepts before m ≡ false

-- no receive that was begun before this place and is kept back accepts the message
abbrev pub NoneWants : Row → (place : ℕ) → Message → Type 0
NoneWants row i m = (j : ℕ) (q : Receive) → j < i → IsKept row j q → accepts q m ≡ false

-- no such receive accepts a message that this one might take
abbrev pub NoneMeets : Row → (place : ℕ) → Receive → Type 0
NoneMeets row i p = (j : ℕ) (q : Receive) → j < i → IsKept row j q → IsApart q p

-- the receive with its source named
abbrev pub named : Receive → (rank : ℕ) → Receive
named p r = record p { source = Rank r }

-- a probe with its source named
abbrev pub named_probe : Probe → (rank : ℕ) → Probe
named_probe q r = record q { source = Rank r }

-- A request of the program that an engine's request stands for. A receive may have named another source when it was
-- matched, and ends as the program's does
abbrev pub StandsFor : Places → Request → Request → Type 0
StandsFor places own (Posted p) = own ≡ Posted p
StandsFor places own (Matched q m) =
    (p : Receive) × (n : Message) × (own ≡ Matched p n) × (outcome p n ≡ outcome q m)
StandsFor places own (Sending d) = own ≡ Sending d
StandsFor places own (Finished o) = own ≡ Finished o
StandsFor places own Gone = own ≡ Gone
StandsFor places own (TakenOut g m) = own ≡ TakenOut g (option_map (λ n. message_by (places n.sender) n) m)

-- An earlier receive that waits, as the engine has it
abbrev pub IsEarlier : (place : ℕ → ℕ) → List Request → (k j : ℕ) → Receive → Type 0
IsEarlier place known k j q =
    (i : ℕ) × (i < k) × (place i ≡ j) × (slice_get known i ≡ Some (Posted q))

-- of two receives that wait the one that was begun first is the first for the engine, too, or no message is wanted by
-- both
abbrev pub AreInOrder : (place : ℕ → ℕ) → (own known : List Request) → Type 0
AreInOrder place own known =
    (k : ℕ) (p : Receive) → slice_get known k ≡ Some (Posted p) → (j : ℕ) (q : Receive) → j < place k →
    slice_get own j ≡ Some (Posted q) → IsEarlier place known k j q ⊎ IsApart q p

-- THE REQUESTS of a program beside those that its engine knows. Each of these stands for one of the program's, and
-- those that are kept back wait
pub record AreTied (places : Places) (place : ℕ → ℕ) (row : Row) (own known : List Request) : Type 0 where
  pub same_length : length own ≡ length row
  pub stands : (k : ℕ) (r : Request) → slice_get known k ≡ Some r →
      (s : Request) × (slice_get own (place k) ≡ Some s) × StandsFor places s r
  pub is_known : (k : ℕ) (r : Request) → slice_get known k ≡ Some r → slice_get row (place k) ≡ Some None
  pub kept : (i : ℕ) (p : Receive) → IsKept row i p → slice_get own i ≡ Some (Posted p)
  pub of_ranks : (i : ℕ) (p : Receive) → IsKept row i p → p.source ≢ Null
  pub others : (i : ℕ) → slice_get row i ≡ Some None →
      (k : ℕ) × (r : Request) × (place k ≡ i) × (slice_get known k ≡ Some r)
  pub order : AreInOrder place own known

-- AN ENDPOINT as its program has it, beside the same as its engine has it: they wait for the same, know the same, and
-- the same messages are pending, each in its sender's queue
pub record IsTied (places : Places) (e : Endpoint) (row : Row) (own known : Local) : Type 0 where
  pub requests : AreTied places (places e) row own.requests known.requests
  pub blocked : own.blocked ≡ option_map (unanswered_by (places e)) known.blocked
  pub learnt : own.known ≡ known.known
  pub queue : (s : Endpoint) (c : ℕ) → own.queue s c ≡ map (message_by (places s)) (known.queue s c)
  pub limit : own.message_limit ≡ known.message_limit
  pub filed : (s : Endpoint) (c : ℕ) → AllByRecursion (λ m. m.sender ≡ s) (known.queue s c)
