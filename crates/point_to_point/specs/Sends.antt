-- What a send does to the core (MPI 3.1, 3.4 and 3.7).
use Rattle.std.specs.Prelude.{◌≡◌, ℕ, ◌+◌, ◌==◌, List, Option, Some, None, Bool, true, false, if◌then◌else◌}
use Rattle.datagram.specs.Spellings.{OutgoingText}
use Rattle.datatypes.specs.Contents.{Contents}
use Rattle.match_queues.specs.declared.envelope.Message.{Message}
use Rattle.match_queues.specs.Arrivals.{arrival_of}
use Rattle.match_queues.specs.State.{after_arrival}
use Rattle.requests.specs.declared.table.TableEntry.{TableEntry}
use Rattle.requests.specs.declared.table.Request.{Request}
use Rattle.requests.specs.declared.table.RequestProgress.{RequestProgress}
use Rattle.requests.specs.declared.table.RequestProgress.TheVariants.{Offering}
use Rattle.vocabulary.specs.declared.mode.Mode.{Mode}
use Rattle.vocabulary.specs.declared.mode.Mode.TheVariants.{Standard, Synchronous}
use Rattle.requests.specs.Regions.{sent_from}
use Rattle.requests.specs.Table.{slot_at, IsSet, is_full}
use Rattle.point_to_point_calls.specs.declared.call.RoutedSend.{RoutedSend}
use Rattle.point_to_point_calls.specs.declared.sends.Destination.{Destination}
use Rattle.point_to_point_calls.specs.declared.refusal.Refusal.{Refusal}
use Rattle.point_to_point_calls.specs.declared.refusal.Refusal.TheVariants as refusals
use Rattle.point_to_point.specs.CoreState.{CoreState}
use Rattle.point_to_point_calls.specs.ReceiveMatches.{slots_on_arrival, transfers_on_arrival}
use Rattle.rendezvous.specs.State.{after_begin}
use Rattle.point_to_point_calls.specs.SendRules.{destination, frame_to, announced_to, is_to_itself, own_message}
use Rattle.point_to_point_calls.specs.SendRules.{progress_of_send, offered_by}

-- a rule's fault, or else the limit of requests
abbrev pub or_full : Option Refusal → CoreState → Option Refusal
or_full (Some fault) c = Some fault
or_full None c = if is_full c.slots c.serial then Some refusals.Limit else None

-- THE FRAME

-- the frame that a send gives to another rank
abbrev pub frame_of : CoreState → RoutedSend → Option OutgoingText
frame_of c s =
    frame_to c.place c.transfers s.send.mode (destination s.route.named s.send.tag s.route.context)
    (sent_from s.send.from)

-- THE MESSAGE TO THE OWN RANK

-- the message has come: it ends the receive that takes it, or is kept; one that is announced and wanted is collected
unfoldable pub after_message : CoreState → Message → CoreState
after_message c m = record c {
  queues = after_arrival c.queues m;
  slots = slots_on_arrival c.slots (arrival_of c.queues m);
  transfers = transfers_on_arrival c.place.message_limit c.transfers c.slots (arrival_of c.queues m);
}

-- so it is where the destination is the own rank
abbrev pub arrived_if : Bool → CoreState → Destination → (waiting : Option Request) → Contents → CoreState
arrived_if true c d waiting elements = after_message c (own_message c.place d.context d.tag waiting elements)
arrived_if false c d waiting elements = c

-- what these elements make of the core where they go to the own rank
abbrev pub arrived_at_itself : CoreState → Option Destination → (waiting : Option Request) → Contents → CoreState
arrived_at_itself c None waiting elements = c
arrived_at_itself c (Some d) waiting elements = arrived_if (d.rank == c.place.endpoint.rank) c d waiting elements

-- the request of a send to the own rank that waits for its match: a synchronous one's
abbrev pub waiting_of : Mode → (own : Bool) → Request → Option Request
waiting_of Standard own r = None
waiting_of Synchronous false r = None
waiting_of Synchronous true r = Some r

-- how far a send is in its own call
abbrev pub begun : Option Request → Option ℕ → RequestProgress
begun None announced = progress_of_send announced
begun (Some r) announced = Offering

-- a message is announced to a rank: the request of its send waits for the answer (3.4)
pub record IsOffering (old : CoreState) (rank : ℕ) (c : Contents) (r : Request) (new : CoreState) : Type 0 where
  pub fresh : slot_at old.slots r.key ≡ None
  pub serial : r.serial ≡ old.serial
  pub entry : IsSet old.slots new.slots r.key (Some (record { serial = old.serial; progress = Offering }))
  pub rest : new ≡ record old {
    slots = new.slots;
    serial = old.serial + 1;
    transfers = after_begin old.transfers rank r.key c;
  }

-- the request of the send is finished (3.4, 3.11), unless its message is announced; a message to the own rank has come
pub record IsSending (old : CoreState) (s : RoutedSend) (r : Request) (new : CoreState) : Type 0 where
  pub fresh : slot_at old.slots r.key ≡ None
  pub serial : r.serial ≡ old.serial
  pub started : List (Option TableEntry)
  pub entry : IsSet old.slots started r.key (Some (record {
    serial = old.serial;
    progress = begun (waiting_of s.send.mode (is_to_itself old.place s) r) (announced_to old.place s);
  }))
  pub rest : new ≡
      arrived_at_itself
      (record old {
        slots = started;
        serial = old.serial + 1;
        transfers = offered_by old.transfers (announced_to old.place s) r.key (sent_from s.send.from);
      })
      (destination s.route.named s.send.tag s.route.context) (waiting_of s.send.mode (is_to_itself old.place s) r)
      (sent_from s.send.from)
