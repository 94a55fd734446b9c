-- The large messages that are under way at a rank: they are those of its rows, under the numbers of its links.
use Rattle.std.specs.Prelude.{◌≡◌, ℕ, ◌*◌, ◌<◌, ◌≤◌, List, [], ◌∷◌, length, map, Option, Some, None, slice_get}
use Rattle.std.specs.List.{AllByRecursion}
use Rattle.vocabulary.specs.BasicTypes.{size_of}
use Rattle.vocabulary.specs.Limits.{greatest_limit}
use Rattle.vocabulary.specs.declared.basic_type.BasicType.{BasicType}
use Rattle.vocabulary.specs.declared.endpoint.Endpoint.{Endpoint}
use Rattle.datatypes.specs.Contents.{AreWithin, bytes_of}
use Rattle.incarnation.specs.declared.place.Place.{Place}
use Rattle.match_queues.specs.declared.envelope.Message.{Message}
use Rattle.match_queues.specs.declared.envelope.Body.{Body}
use Rattle.match_queues.specs.declared.envelope.Body.TheVariants as bodies
use Rattle.match_queues.specs.declared.envelope.Announcement.{Announcement}
use Rattle.match_queues.specs.declared.envelope.OwnSend.{OwnSend}
use Rattle.requests.specs.declared.table.TableEntry.{TableEntry}
use Rattle.requests.specs.declared.table.RequestProgress.{RequestProgress}
use Rattle.requests.specs.declared.table.RequestProgress.TheVariants.{Receiving, Finished}
use Rattle.requests.specs.declared.table.RequestProgress.TheVariants as progresses
use Rattle.requests.specs.Table.{slot_at}
use Rattle.rendezvous.specs.declared.offer.Offer.{Offer}
use Rattle.rendezvous.specs.declared.transfers.Numbers.{Numbers}
use Rattle.rendezvous.specs.Collections as rendezvous
use Rattle.rendezvous.specs.State as transfers
use Rattle.rendezvous.specs.State.{most_transfers, next_to}
use Rattle.perfect_queues.specs.Receives.{Receive}
use Rattle.proof_pure_network.specs.Announcements.{IsIn}
use Rattle.proof_pure_network.specs.WaitingMessages.{Held, Part}
use Rattle.proof_pure_network.specs.Jobs.{Collecting, Offering, Probed, Unmatched}
use Rattle.proof_engine_view.specs.Frames.{endpoint_of}
use Rattle.proof_engine_view.specs.Rows.{Row, held_of}
use Rattle.proof_engine_view.specs.Transfers.{Announcements, IsNumber, Transfer}

-- NUMBERS

-- The next number of a session with another rank of the job is how many large messages were announced to it, at the
-- incarnation at which it is known
pub record IsNumbered (to : Endpoint → List Transfer) (known : List ℕ) (p : Place) (numbers : List Numbers) : Type
    0 where
  pub width : length numbers ≡ p.size
  pub begun :
      (rank : ℕ) → rank < p.size → (rank ≡ p.endpoint.rank → ⊥) →
      next_to numbers rank ≡ length (to (endpoint_of known rank))
  pub most : (rank : ℕ) → next_to numbers rank ≤ most_transfers

-- MESSAGES THAT GO

-- what is offered is what a row's send offers, to the known incarnation of its rank, announced under its number
pub record IsOfferOf (to : Endpoint → List Transfer) (known : List ℕ) (rows : List Row) (o : Offer) : Type 0 where
  pub serial : ℕ
  pub row :
      slice_get rows serial
      ≡ Some (record {
        key = o.request;
        job =
            Offering (endpoint_of known o.target) o.elements.basic o.elements.values;
      })
  pub announced :
      slice_get (to (endpoint_of known o.target)) o.transfer
      ≡ Some (record { serial = serial; basic = o.elements.basic; count = length o.elements.values })
  -- its elements have the width of their type, and are no more than a message may have
  pub within : AreWithin (size_of o.elements.basic) o.elements.values
  pub limit : length o.elements.values * size_of o.elements.basic ≤ greatest_limit

-- MESSAGES THAT COME

-- what is collected is what a row's receive collects, from the known incarnation of its rank, announced under its
-- number; the bytes are those of the values that the receive has
pub record IsCollectionOf (from : Endpoint → List Transfer) (known : List ℕ) (rows : List Row)
    (c : rendezvous.Collecting) : Type 0 where
  pub serial : ℕ
  pub receive : Receive
  pub message : Held
  pub got : List ℕ
  pub row : slice_get rows serial ≡ Some (record { key = c.request; job = Collecting receive message got })
  pub sender : message.sender ≡ endpoint_of known c.source
  pub transfer : Transfer
  pub announced : slice_get (from message.sender) c.transfer ≡ Some transfer
  pub body : message.body ≡ Part transfer.serial transfer.count
  pub basic : message.basic ≡ transfer.basic
  pub basic_is : c.basic ≡ transfer.basic
  pub total : c.total ≡ transfer.count * size_of transfer.basic
  pub bytes : c.bytes ≡ bytes_of (size_of transfer.basic) got
  pub within : AreWithin (size_of transfer.basic) got

-- an announced message that waits for its receive is from another rank of the job at its known incarnation, and its
-- number names it
pub record IsPartOf (from : Endpoint → List Transfer) (known : List ℕ) (p : Place) (m : Message)
    (a : Announcement) : Type 0 where
  pub sender : m.sender ≡ endpoint_of known m.sender.rank
  pub there : m.sender.rank < p.size
  pub apart : m.sender.rank ≡ p.endpoint.rank → ⊥
  pub announced : IsNumber (from m.sender) a.transfer a.basic a.count
  pub width : a.transfer ≤ most_transfers

-- a message of the rank's own whose send waits for its match names the request of that send by its key and its serial
pub record IsOwnOf (p : Place) (rows : List Row) (m : Message) (o : OwnSend) : Type 0 where
  pub sender : m.sender ≡ p.endpoint
  pub row : slice_get rows o.serial ≡ Some (record { key = o.key; job = Unmatched p.endpoint })

-- a whole one may be from any
abbrev pub IsFromLink : (from : Endpoint → List Transfer) → (known : List ℕ) → Place → List Row → Message → Body →
    Type 0
IsFromLink from known p rows m (bodies.Whole elements) = Unit {0}
IsFromLink from known p rows m (bodies.Own o) = IsOwnOf p rows m o
IsFromLink from known p rows m (bodies.Announced a) = IsPartOf from known p m a

-- MESSAGES THAT WERE TAKEN OUT

-- the request that holds one has its job, with the message as the network sees it; and the message is as one that waits
-- for its receive
pub record IsTakenOut (from : Endpoint → List Transfer) (known : List ℕ) (p : Place) (rows : List Row) (serial : ℕ)
    (group : Option (List ℕ)) (m : Message) : Type 0 where
  pub key : ℕ
  pub row : slice_get rows serial ≡ Some (record { key = key; job = Probed group (Some (held_of from m)) })
  pub from_link : IsFromLink from known p rows m m.body

-- of one whose sender was replaced nothing is left
abbrev pub IsTakenIf : (from : Endpoint → List Transfer) → (known : List ℕ) → Place → List Row → (serial : ℕ) →
    (group : Option (List ℕ)) → Option Message → Type 0
IsTakenIf from known p rows serial group None = Unit {0}
IsTakenIf from known p rows serial group (Some m) = IsTakenOut from known p rows serial group m

-- by how far a request is
abbrev pub IsTakenBy : (from : Endpoint → List Transfer) → (known : List ℕ) → Place → List Row →
    (serial : ℕ) → RequestProgress → Type 0
IsTakenBy from known p rows serial (Receiving w) = Unit {0}
IsTakenBy from known p rows serial (progresses.Collecting w) = Unit {0}
IsTakenBy from known p rows serial progresses.Offering = Unit {0}
IsTakenBy from known p rows serial (progresses.TakenOut t) = IsTakenIf from known p rows serial t.group t.message
IsTakenBy from known p rows serial (Finished o) = Unit {0}

-- by what stands under a key of the table
abbrev pub IsTakenAt : (from : Endpoint → List Transfer) → (known : List ℕ) → Place → List Row → Option TableEntry →
    Type 0
IsTakenAt from known p rows None = Unit {0}
IsTakenAt from known p rows (Some e) = IsTakenBy from known p rows e.serial e.progress

-- all of the table
abbrev pub AreTaken : (from : Endpoint → List Transfer) → (known : List ℕ) → Place → List Row →
    List (Option TableEntry) → Type 0
AreTaken from known p rows slots = (key : ℕ) → IsTakenAt from known p rows (slot_at slots key)

-- ALL OF THEM

-- no two are the same
abbrev pub AreApart : List ℕ → Type 0
AreApart [] = Unit {0}
AreApart (x ∷ xs) = AllByRecursion (λ y. y ≡ x → ⊥) xs × AreApart xs

-- the keys of the requests whose messages are offered
abbrev pub offer_keys : List Offer → List ℕ
offer_keys offers = map (λ (o : Offer). o.request) offers

-- and of those for which messages are collected
abbrev pub collection_keys : List rendezvous.Collecting → List ℕ
collection_keys collections = map (λ (c : rendezvous.Collecting). c.request) collections

-- What the rank's transfers hold are the large messages of its rows, each once, and each row's is there; and the
-- messages that wait for a receive are those of its links and of its own sends
pub record AreUnderWay (a : Announcements) (known : List ℕ) (p : Place) (rows : List Row) (t : transfers.State)
    (unexpected : List Message) : Type 0 where
  pub numbered : IsNumbered a.to known p t.numbers
  pub offers : AllByRecursion (IsOfferOf a.to known rows) t.offers
  pub offered :
      (k key : ℕ) (d : Endpoint) (basic : BasicType) (values : List ℕ) →
      slice_get rows k ≡ Some (record { key = key; job = Offering d basic values }) → IsIn key (offer_keys t.offers)
  pub offers_apart : AreApart (offer_keys t.offers)
  pub collections : AllByRecursion (IsCollectionOf a.from known rows) t.collections
  pub collected :
      (k key : ℕ) (r : Receive) (h : Held) (got : List ℕ) →
      slice_get rows k ≡ Some (record { key = key; job = Collecting r h got }) →
      IsIn key (collection_keys t.collections)
  pub collections_apart : AreApart (collection_keys t.collections)
  -- a send that waits for its match is one to the rank itself
  pub unmatched :
      (k key : ℕ) (d : Endpoint) → slice_get rows k ≡ Some (record { key = key; job = Unmatched d }) → d ≡ p.endpoint
  pub messages : AllByRecursion (λ (m : Message). IsFromLink a.from known p rows m m.body) unexpected
