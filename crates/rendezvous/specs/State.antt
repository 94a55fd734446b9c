-- What a rank knows of its transfers, and what each step does to it.
use Rattle.std.specs.Prelude.{ℕ, ◌+◌, ◌==◌, ◌&&◌, not, Bool, true, false, List, [], ◌∷◌, ◌++◌, map, Option, Some, None}
use Rattle.std.specs.Prelude.{position, remove, filter, slice_get, slice_set, slice_index_or, if◌then◌else◌}
use Rattle.vocabulary.specs.MessageLimits.{least}
use Rattle.vocabulary.specs.declared.basic_type.BasicType.TheVariants.{Byte}
use Rattle.datatypes.specs.Contents.{Contents}
use Rattle.rendezvous.specs.declared.transfers.Numbers.{Numbers}
use Rattle.rendezvous.specs.declared.offer.Offer.{Offer}
use Rattle.rendezvous.specs.declared.collection.Collected.{Collected}
use Rattle.rendezvous.specs.Offers.{offer_for, offer_at, without_offer}
use Rattle.rendezvous.specs.Collections.{Collecting, is_from, is_next_data, with_piece, is_whole}
use Rattle.rendezvous.specs.PayloadState as payloads
use Rattle.rendezvous.specs.WholeMessages.{collected_of}

-- by rank the numbers of its sessions; the messages that were announced to others, and those that come from others, the
-- oldest first
pub record State : Type 0 where
  pub numbers : List Numbers
  pub offers : List Offer
  pub collections : List Collecting

-- the same, for how many more offers and collections there is memory, and the payloads of collectives
pub record Held : Type 0 where
  pub state : State
  pub sends : ℕ
  pub receives : ℕ
  pub payloads : payloads.Held

-- NUMBERS

-- a session in which no transfer has begun, in either direction
abbrev pub fresh : Numbers
fresh = record { begun = 0; announced = 0 }

-- so many transfers one session has at most in each direction: numbers have 32 bits, and none comes round (our own)
abbrev pub most_transfers : ℕ
most_transfers = 4294967295

-- no rank is there, or no number is left for a transfer to it
abbrev pub has_none_to : Option Numbers → Bool
has_none_to None = true
has_none_to (Some n) = n.begun == most_transfers

-- no further transfer to the rank can begin
abbrev pub is_full_to : List Numbers → (rank : ℕ) → Bool
is_full_to ns rank = has_none_to (slice_get ns rank)

-- no rank is there, or no number is left for an announcement by it
abbrev pub has_none_from : Option Numbers → Bool
has_none_from None = true
has_none_from (Some n) = n.announced == most_transfers

-- no further transfer from the rank can be announced
abbrev pub is_full_from : List Numbers → (rank : ℕ) → Bool
is_full_from ns rank = has_none_from (slice_get ns rank)

-- whether an announcement under this number is due in a session
abbrev pub is_due_number : Option Numbers → (transfer : ℕ) → Bool
is_due_number None transfer = false
is_due_number (Some n) transfer = not (n.announced == most_transfers) && (n.announced == transfer)

-- whether this number is that of the rank's next announcement
abbrev pub is_next : List Numbers → (rank transfer : ℕ) → Bool
is_next ns rank transfer = is_due_number (slice_get ns rank) transfer

-- the number of the next transfer to the rank
abbrev pub next_to : List Numbers → (rank : ℕ) → ℕ
next_to ns rank = (slice_index_or ns rank fresh).begun

-- one more transfer to the rank has begun
abbrev pub with_begun : List Numbers → (rank : ℕ) → List Numbers
with_begun ns rank = let n = slice_index_or ns rank fresh in slice_set ns rank (record n { begun = n.begun + 1 })

-- one more transfer from the rank is announced
abbrev pub with_announced : List Numbers → (rank : ℕ) → List Numbers
with_announced ns rank =
    let n = slice_index_or ns rank fresh in slice_set ns rank (record n { announced = n.announced + 1 })

-- MESSAGES THAT COME

-- the place of the transfer from a rank that has this number, where it is collected
abbrev pub collection_for : (source transfer : ℕ) → List Collecting → Option ℕ
collection_for source transfer cs = position (is_from source transfer) cs

-- the collection at a place, where one was found
abbrev pub collection_at : List Collecting → Option ℕ → Option Collecting
collection_at cs (Some i) = slice_get cs i
collection_at cs None = None

-- whether the bytes are the next piece of what was found
abbrev pub is_taken : Option Collecting → (offset : ℕ) → List ℕ → Bool
is_taken None offset piece = false
is_taken (Some c) offset piece = is_next_data c offset piece

-- whether the bytes are the next piece of this transfer
abbrev pub is_due : List Collecting → (source transfer offset : ℕ) → List ℕ → Bool
is_due cs source transfer offset piece = is_taken (collection_at cs (collection_for source transfer cs)) offset piece

-- stands for a collection where there is none
abbrev pub blank : Collecting
blank = record { limit = least; source = 0; transfer = 0; request = 0; basic = Byte; total = 0; bytes = [] }

-- the collection at a place, with one more piece
abbrev pub grown_at : List Collecting → (place : ℕ) → List ℕ → Collecting
grown_at cs place piece = with_piece (slice_index_or cs place blank) piece

-- what stood at this place is this now; once it is whole it is gone
abbrev pub put_back : List Collecting → (place : ℕ) → Collecting → List Collecting
put_back cs place c = if is_whole c then remove cs place else slice_set cs place c

-- the collections once the piece has come for that at a place
abbrev pub with_data_at : List Collecting → Option ℕ → List ℕ → List Collecting
with_data_at cs (Some i) piece = put_back cs i (grown_at cs i piece)
with_data_at cs None piece = cs

-- a message is handed out once it is whole
abbrev pub handed_out : Collecting → Option Collected
handed_out c = if is_whole c then Some (collected_of c) else None

-- what is handed out once the piece has come for the collection at a place
abbrev pub given_at : List Collecting → Option ℕ → List ℕ → Option Collected
given_at cs (Some i) piece = handed_out (grown_at cs i piece)
given_at cs None piece = None

-- STEPS

-- a transfer to a rank begins: it gets the next number, and is offered
abbrev pub after_begin : State → (rank request : ℕ) → Contents → State
after_begin s rank request elements = record s {
  numbers = with_begun s.numbers rank;
  offers = s.offers ++
      (record { target = rank; transfer = next_to s.numbers rank; request = request; elements = elements }) ∷ [];
}

-- a transfer of a payload to a rank begins: it gets the next number
abbrev pub after_payload : State → (rank : ℕ) → State
after_payload s rank = record s { numbers = with_begun s.numbers rank }

-- a transfer from a rank is announced
abbrev pub after_rts : State → (rank : ℕ) → State
after_rts s rank = record s { numbers = with_announced s.numbers rank }

-- a transfer begins to be collected
abbrev pub after_collect : State → Collecting → State
after_collect s c = record s { collections = s.collections ++ c ∷ [] }

-- the offer of this transfer, where there is one
abbrev pub offered : State → (rank transfer : ℕ) → Option Offer
offered s rank transfer = offer_at s.offers (offer_for rank transfer s.offers)

-- an offered transfer is answered: it is offered no more
abbrev pub after_cts : State → (rank transfer : ℕ) → State
after_cts s rank transfer = record s { offers = without_offer s.offers (offer_for rank transfer s.offers) }

-- the next piece of a transfer has come
abbrev pub after_data : State → (rank transfer : ℕ) → List ℕ → State
after_data s rank transfer piece =
    record s { collections = with_data_at s.collections (collection_for rank transfer s.collections) piece }

-- what is handed out then: the whole message with its last piece, and nothing before
abbrev pub given : State → (rank transfer : ℕ) → List ℕ → Option Collected
given s rank transfer piece = given_at s.collections (collection_for rank transfer s.collections) piece

-- a rank is known at a new incarnation: both directions of its session start anew, and what was offered to it or
-- collected from it is gone
abbrev pub after_drop : State → (rank : ℕ) → State
after_drop s rank = record {
  numbers = slice_set s.numbers rank fresh;
  offers = filter (λ o. not (o.target == rank)) s.offers;
  collections = filter (λ c. not (c.source == rank)) s.collections;
}

-- the keys of the requests that offer to the rank, and then of those that collect from it, the oldest first
abbrev pub keys_with : State → (rank : ℕ) → List ℕ
keys_with s rank =
    map (λ o. o.request) (filter (λ o. o.target == rank) s.offers)
    ++ map (λ c. c.request) (filter (λ c. c.source == rank) s.collections)
