-- Both sides of a session count its transfers alike, those of messages and of payloads together, told from the events
-- alone.
use Rattle.std.specs.Prelude.{◌≡◌, ℕ, ◌+◌, ◌==◌, ◌&&◌, not, Bool, true, false, Some, List, [], ◌∷◌, if◌then◌else◌}
use Rattle.datatypes.specs.Contents.{Contents}
use Rattle.rendezvous.specs.declared.offer.Offer.{Offer}
use Rattle.rendezvous.specs.State.{State, most_transfers, is_full_to, is_full_from, is_next, next_to, offered}
use Rattle.rendezvous.specs.Events.{Event, Begins, BeginsPayload, Announces, Collects, Answers, Brings, Drops, after}
use Rattle.rendezvous.specs.OfferLaws.{after_all, is_drop_of}

-- whether a transfer to the rank begins by this event
abbrev pub is_begin_to : (rank : ℕ) → Event → Bool
is_begin_to rank (Begins r request elements) = r == rank
is_begin_to rank (BeginsPayload r) = r == rank
is_begin_to rank (Announces r) = false
is_begin_to rank (Collects limit source transfer request basic count) = false
is_begin_to rank (Answers r transfer) = false
is_begin_to rank (Brings source transfer offset piece) = false
is_begin_to rank (Drops r) = false

-- whether the rank announces a transfer by this event
abbrev pub is_announcement_by : (rank : ℕ) → Event → Bool
is_announcement_by rank (Begins r request elements) = false
is_announcement_by rank (BeginsPayload r) = false
is_announcement_by rank (Announces r) = r == rank
is_announcement_by rank (Collects limit source transfer request basic count) = false
is_announcement_by rank (Answers r transfer) = false
is_announcement_by rank (Brings source transfer offset piece) = false
is_announcement_by rank (Drops r) = false

-- a count after one more event: a new session starts from 0, and what comes once no number is left isn't counted
abbrev pub count_after : (starts_anew is_counted : Bool) → (count : ℕ) → ℕ
count_after true is_counted count = 0
count_after false true count = if count == most_transfers then count else count + 1
count_after false false count = count

-- how many transfers to the rank have begun in its session after these events, where so many had before
abbrev pub begun_with : (rank count : ℕ) → List Event → ℕ
begun_with rank count [] = count
begun_with rank count (e ∷ es) = begun_with rank (count_after (is_drop_of rank e) (is_begin_to rank e) count) es

-- how many the rank has announced, in the same way
abbrev pub announced_with : (rank count : ℕ) → List Event → ℕ
announced_with rank count [] = count
announced_with rank count (e ∷ es) =
    announced_with rank (count_after (is_drop_of rank e) (is_announcement_by rank e) count) es

-- the same of all events from the start on
abbrev pub transfers_to : (rank : ℕ) → List Event → ℕ
transfers_to rank events = begun_with rank 0 events

abbrev pub announcements_by : (rank : ℕ) → List Event → ℕ
announcements_by rank events = announced_with rank 0 events

-- After these events the next transfer to the rank gets the number of those that began in the session, and an
-- announcement by it is due under the number of those that it made, and under no other, as long as a number is left.
pub record IsCounted (rank : ℕ) (events : List Event) (s : State) : Type 0 where
  pub next : next_to s.numbers rank ≡ transfers_to rank events
  pub full : is_full_to s.numbers rank ≡ (transfers_to rank events == most_transfers)
  pub due : (transfer : ℕ) →
      is_next s.numbers rank transfer ≡
      (not (announcements_by rank events == most_transfers) && (announcements_by rank events == transfer))
  pub worn : is_full_from s.numbers rank ≡ (announcements_by rank events == most_transfers)

-- The number that the sender gives its next transfer is the one that the receiver expects next, and no other is; and
-- neither has a number left where the other has none.
pub record AreAlike (source target : ℕ) (sender receiver : State) : Type 0 where
  pub full : is_full_from receiver.numbers source ≡ is_full_to sender.numbers target
  pub next : is_full_to sender.numbers target ≡ false →
      is_next receiver.numbers source (next_to sender.numbers target) ≡ true
  pub only : (transfer : ℕ) → is_next receiver.numbers source transfer ≡ true → transfer ≡ next_to sender.numbers target

-- whether an offer ends by this event: it is answered, or its receiver is known at a new incarnation
abbrev pub is_end_of : (rank transfer : ℕ) → Event → Bool
is_end_of rank transfer (Begins r request elements) = false
is_end_of rank transfer (BeginsPayload r) = false
is_end_of rank transfer (Announces r) = false
is_end_of rank transfer (Collects limit source number request basic count) = false
is_end_of rank transfer (Answers r number) = (r == rank) && (number == transfer)
is_end_of rank transfer (Brings source number offset piece) = false
is_end_of rank transfer (Drops r) = r == rank

-- it doesn't in these events
abbrev pub StaysOpen : (rank transfer : ℕ) → List Event → Type 0
StaysOpen rank transfer [] = Unit {0}
StaysOpen rank transfer (e ∷ es) = (is_end_of rank transfer e ≡ false) × StaysOpen rank transfer es

-- the offer of a transfer that begins now
abbrev pub offer_of_next : State → (rank request : ℕ) → Contents → Offer
offer_of_next s rank request elements =
    record { target = rank; transfer = next_to s.numbers rank; request = request; elements = elements }

-- What begins, where a number is left, is offered under the number that it gets. It is what an answer to that number
-- finds, until it ends.
pub record AreFound (s : State) : Type 0 where
  pub begun : (rank request : ℕ) (elements : Contents) → is_full_to s.numbers rank ≡ false →
      offered (after s (Begins rank request elements)) rank (next_to s.numbers rank) ≡
      Some (offer_of_next s rank request elements)
  pub later : (rank transfer : ℕ) (o : Offer) (events : List Event) → StaysOpen rank transfer events →
      offered s rank transfer ≡ Some o →
      offered (after_all s events) rank transfer ≡ Some o
