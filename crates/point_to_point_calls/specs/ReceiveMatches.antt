-- What a match of a receive with a message makes (MPI 3.1, 3.2.4 and 3.7).
use Rattle.std.specs.Prelude.{ℕ, ◌*◌, ◌==◌, if◌then◌else◌, Bool, true, false, List, [], Option, Some, None}
use Rattle.vocabulary.specs.declared.envelope.Source.TheVariants as sources
use Rattle.vocabulary.specs.declared.envelope.Status.{Status}
use Rattle.match_queues.specs.declared.envelope.PostedReceive as posted
use Rattle.match_queues.specs.declared.envelope.Message.{Message}
use Rattle.match_queues.specs.declared.queues.Arrival.{Arrival}
use Rattle.match_queues.specs.declared.queues.Arrival.TheVariants.{Kept, Matched}
use Rattle.requests.specs.declared.region.Region.{Region}
use Rattle.requests.specs.declared.table.TableEntry.{TableEntry}
use Rattle.requests.specs.declared.table.Posted.{Posted}
use Rattle.requests.specs.declared.table.RequestProgress.{RequestProgress}
use Rattle.requests.specs.declared.table.RequestProgress.TheVariants.{Receiving}
use Rattle.rendezvous.specs.State as transfers
use Rattle.rendezvous.specs.Collections.{Collecting}
use Rattle.datagram.specs.declared.kinds.Clearance.{Clearance}
use Rattle.datagram.specs.declared.kinds.Clearance.TheVariants.{Send, Drop}
use Rattle.datagram.specs.Spellings.{ClearFrame, OutgoingText}
use Rattle.match_queues.specs.Bodies.{basic_of, count_of}
use Rattle.match_queues.specs.declared.envelope.Announcement.{Announcement}
use Rattle.match_queues.specs.declared.envelope.Body.{Body}
use Rattle.match_queues.specs.declared.envelope.Body.TheVariants.{Whole, Own, Announced}
use Rattle.vocabulary.specs.BasicTypes.{size_of}
use Rattle.vocabulary.specs.declared.message_limit.MessageLimit.{MessageLimit}
use Rattle.communicator_members.specs.Statuses.{status_in}
use Rattle.requests.specs.Table.{slot_at, after_announcement, after_answer, after_finish, has_room, progress_on_match}
use Rattle.requests.specs.Table.{wants_by}
use Rattle.point_to_point_calls.specs.declared.call.RoutedReceive.{RoutedReceive}

-- the receive as it stands in the queue, under its key in the table
abbrev pub posted_by : ℕ → RoutedReceive → posted.PostedReceive
posted_by key v = record { request = key; context = v.route.context; source = v.route.named; tag = v.receive.tag }

-- the receive as it waits under its key in the table
abbrev pub waiting_by : RoutedReceive → Posted
waiting_by v = record { into = v.receive.into; group = v.group }

-- the status that a message gives (MPI 3.1, 3.2.5), whose source is a rank of world
abbrev pub status_of : Message → Status
status_of m = record { source = sources.Rank m.sender.rank; tag = Some m.tag; count = count_of m.body }

-- the table once a message was matched with the receive under a key: it has ended, or collects what was announced; and
-- the own send that waited for that has ended
abbrev pub slots_on_match : List (Option TableEntry) → (key : ℕ) → Status → Body → List (Option TableEntry)
slots_on_match slots key status (Whole elements) = after_finish slots key status elements
slots_on_match slots key status (Own own) = after_answer (after_finish slots key status own.elements) own.key
slots_on_match slots key status (Announced a) = after_announcement slots key status a.basic

-- the table once a message came, by what became of it
abbrev pub slots_on_arrival : List (Option TableEntry) → Arrival → List (Option TableEntry)
slots_on_arrival slots (Matched r m) = slots_on_match slots r.request (status_of m) m.body
slots_on_arrival slots Kept = slots

-- the collection of an announced message in a job with this limit, of which nothing has come
abbrev pub collecting : MessageLimit → Message → Announcement → (key : ℕ) → Collecting
collecting limit m a key = record {
  limit = limit;
  source = m.sender.rank;
  transfer = a.transfer;
  request = key;
  basic = a.basic;
  total = a.count * size_of a.basic;
  bytes = [];
}

-- how far a receive is once it was posted: it waits, or it was matched with the message that was found
abbrev pub progress_on_post : Posted → Option Message → RequestProgress
progress_on_post p None = Receiving p
progress_on_post p (Some m) = progress_on_match p.into (status_in p.group (status_of m)) m.body

-- WHAT IS COLLECTED

-- what is collected from then on, where a match is with an announced message that is wanted and has elements
abbrev pub collection_on_match : MessageLimit → (wanted : Bool) → Message → Body → (key : ℕ) → Option Collecting
collection_on_match limit wanted m (Whole elements) key = None
collection_on_match limit wanted m (Own own) key = None
collection_on_match limit false m (Announced a) key = None
collection_on_match limit true m (Announced a) key =
    if a.count == 0 then None else Some (collecting limit m a key)

-- the transfers with what is collected from then on, if anything is
abbrev pub transfers_with : transfers.State → Option Collecting → transfers.State
transfers_with t None = t
transfers_with t (Some c) = transfers.after_collect t c

-- what is collected from then on, by the message that a posted receive found, if it found one
abbrev pub collection_on_post : MessageLimit → Region → (key : ℕ) → Option Message → Option Collecting
collection_on_post limit r key None = None
collection_on_post limit r key (Some m) =
    collection_on_match limit (has_room r (basic_of m.body) (count_of m.body)) m m.body key

-- what is collected from then on, by what becomes of a message that came
abbrev pub collection_on_arrival : MessageLimit → List (Option TableEntry) → Arrival → Option Collecting
collection_on_arrival limit slots (Matched r m) =
    collection_on_match limit (wants_by (slot_at slots r.request) (basic_of m.body) (count_of m.body)) m m.body r.request
collection_on_arrival limit slots Kept = None

-- the transfers once a receive was posted, which found that message or none
abbrev pub transfers_on_post : MessageLimit → transfers.State → Region → (key : ℕ) → Option Message → transfers.State
transfers_on_post limit t r key found = transfers_with t (collection_on_post limit r key found)

-- the transfers once a message came, by what became of it
abbrev pub transfers_on_arrival : MessageLimit → transfers.State → List (Option TableEntry) → Arrival → transfers.State
transfers_on_arrival limit t slots became = transfers_with t (collection_on_arrival limit slots became)

-- THE ANSWER TO AN ANNOUNCED MESSAGE

-- data that are wanted are to come; else the message is used up without them
abbrev pub clearance_of : (wanted : Bool) → Clearance
clearance_of true = Send
clearance_of false = Drop

-- the frame that answers a message that was matched, where it was announced
abbrev pub answer_by : (wanted : Bool) → Message → Body → Option OutgoingText
answer_by wanted m (Whole elements) = None
answer_by wanted m (Own own) = None
answer_by wanted m (Announced a) =
    Some (record {
      target = m.sender.rank;
      frame =
          ClearFrame (record { transfer = a.transfer; clearance = clearance_of wanted });
    })

-- the frame that answers the message that a posted receive found, if it found one that was announced
abbrev pub answer_on_post : Region → Option Message → Option OutgoingText
answer_on_post r None = None
answer_on_post r (Some m) = answer_by (has_room r (basic_of m.body) (count_of m.body)) m m.body

-- the frame that answers a message that came, if it was announced and matched
abbrev pub answer_on_arrival : List (Option TableEntry) → Arrival → Option OutgoingText
answer_on_arrival slots (Matched r m) =
    answer_by (wants_by (slot_at slots r.request) (basic_of m.body) (count_of m.body)) m m.body
answer_on_arrival slots Kept = None
