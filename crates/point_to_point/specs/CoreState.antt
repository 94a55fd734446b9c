-- What a rank is to the machine: what its calls and its messages have made of it.
use Rattle.std.specs.Prelude.{◌≡◌, ℕ, ◌*◌, length, ◌+◌, ◌<◌, ◌≤◌, ◌^◌, List, [], Option, Some, None, count_by, is_some}
use Rattle.std.specs.Prelude.{IfSome, replicate}
use Rattle.incarnation.specs.declared.place.Place.{Place}
use Rattle.match_queues.specs.State.{State}
use Rattle.std.specs.List.{AllByRecursion}
use Rattle.vocabulary.specs.BasicTypes.{size_of}
use Rattle.vocabulary.specs.Limits.{greatest_limit}
use Rattle.match_queues.specs.declared.envelope.Message.{Message}
use Rattle.match_queues.specs.declared.envelope.Body.{Body}
use Rattle.match_queues.specs.declared.envelope.Body.TheVariants.{Announced, Own, Whole}
use Rattle.rendezvous.specs.declared.offer.Offer.{Offer}
use Rattle.rendezvous.specs.PayloadState as payloads
use Rattle.rendezvous.specs.State as transfers
use Rattle.rendezvous.specs.declared.transfers.Numbers.{Numbers}
use Rattle.requests.specs.declared.table.TableEntry.{TableEntry}
use Rattle.requests.specs.Table.{message_in, slot_at}
use Rattle.requests.specs.Trimmed as tables
use Rattle.requests.specs.declared.answer.Answer.{Answer}
use Rattle.requests.specs.declared.awaited_requests.Awaited.{Awaited}

-- where the rank stands, its queues, its requests, and the call that isn't answered yet
pub record CoreState : Type 0 where
  pub place : Place
  pub queues : State
  -- the large messages that go to other ranks and come from them
  pub transfers : transfers.State
  -- what stands under each key in the table of requests, and how many were started
  pub slots : List (Option TableEntry)
  pub serial : ℕ
  -- what the blocked call waits for
  pub blocked : Option Awaited
  -- the blocked call's answer, until it is taken out
  pub completion : Option Answer

-- the core, without the empty places at the end of its table of requests
abbrev pub trimmed : CoreState → CoreState
trimmed c = record c { slots = tables.trimmed c.slots }

-- WHAT A CORE KEEPS

-- the data of an offer are no more than a message may have, and it goes to a rank of the job
pub record IsOfferFor (size : ℕ) (o : Offer) : Type 0 where
  pub there : o.target < size
  pub limit : length o.elements.values * size_of o.elements.basic ≤ greatest_limit

-- an announced message comes from a rank of the job
abbrev pub IsAnswerable : (size : ℕ) → Message → Body → Type 0
IsAnswerable size m (Whole elements) = Unit {0}
IsAnswerable size m (Own own) = Unit {0}
IsAnswerable size m (Announced a) = m.sender.rank < size

-- so does an announced message that was taken out of matching and stands here in the table of requests
abbrev pub IsAnswerableAt : (size : ℕ) → Option TableEntry → Type 0
IsAnswerableAt size None = Unit {0}
IsAnswerableAt size (Some e) = IfSome (message_in (Some e.progress)) (λ m. IsAnswerable size m m.body)

-- there are numbers for each rank of the job, and whoever is to be answered or sent to is one of them
pub record IsKept (p : Place) (q : State) (t : transfers.State) (slots : List (Option TableEntry)) : Type 0 where
  pub width : length t.numbers ≡ p.size
  pub answerable : AllByRecursion (λ m. IsAnswerable p.size m m.body) q.unexpected
  pub offers : AllByRecursion (IsOfferFor p.size) t.offers
  pub taken : (key : ℕ) → IsAnswerableAt p.size (slot_at slots key)

-- THE NUMBERS OF TRANSFERS

-- the same core, once its sessions' transfers have these numbers, by rank: those of payloads of collectives were counted
abbrev pub with_numbers : CoreState → List Numbers → CoreState
with_numbers c ns = record c { transfers = record c.transfers { numbers = ns } }

-- a core at its start: nothing is pending
abbrev pub opening : Place → CoreState
opening p = record {
  place = p;
  queues = record { posted = []; unexpected = [] };
  transfers = record { numbers = replicate p.size transfers.fresh; offers = []; collections = [] };
  slots = [];
  serial = 0;
  blocked = None;
  completion = None;
}

-- what a core holds, and what it has memory for
pub record Held : Type 0 where
  pub state : CoreState
  -- the messages that wait for a receive, each at its place: one whose message is gone is empty
  pub places : List (Option Message)
  -- the key that the next request gets
  pub vacant : ℕ
  -- for how many requests, those that stand in the table included
  pub requests : ℕ
  -- for how many more receives and messages
  pub receives : ℕ
  pub messages : ℕ
  -- for how many more large messages that go and that come
  pub offers : ℕ
  pub collections : ℕ
  -- the payloads of collectives that it announced, and those that come to it, and for how many more there is memory
  pub payloads : payloads.Held

-- one more request can be started without memory
pub record CanStart (c : Held) : Type 0 where
  pub room : count_by is_some c.state.slots + 1 ≤ c.requests
  pub serial : c.state.serial + 1 < 2 ^ 64
