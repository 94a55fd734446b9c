-- What a receive does to the core (MPI 3.1, 3.2.4 and 3.7).
use Rattle.std.specs.Prelude.{◌≡◌, ◌+◌, ℕ, List, Option, Some, None, if◌then◌else◌}
use Rattle.datagram.specs.Spellings.{OutgoingText}
use Rattle.vocabulary.specs.declared.envelope.Source.{Source}
use Rattle.vocabulary.specs.declared.envelope.Source.TheVariants as sources
use Rattle.perfect_queues.specs.Buffers.{is_too_short}
use Rattle.perfect_queues.specs.Outcomes.{null_status}
use Rattle.perfect_queues.specs.Refusals.{is_source_beyond, is_tag_above}
use Rattle.match_queues.specs.declared.envelope.Message.{Message}
use Rattle.match_queues.specs.State.{message_at, message_for, after_post}
use Rattle.requests.specs.declared.table.Request.{Request}
use Rattle.requests.specs.declared.table.RequestProgress.TheVariants.{Finished}
use Rattle.requests.specs.declared.outcome.Outcome.TheVariants as outcomes
use Rattle.requests.specs.Regions.{handed_of, is_unfit_to_receive}
use Rattle.requests.specs.Table.{slot_at, IsSet, is_full}
use Rattle.requests.specs.declared.table.TableEntry.{TableEntry}
use Rattle.point_to_point_calls.specs.declared.call.RoutedReceive.{RoutedReceive}
use Rattle.point_to_point_calls.specs.declared.refusal.Refusal.{Refusal}
use Rattle.point_to_point_calls.specs.declared.refusal.Refusal.TheVariants as refusals
use Rattle.point_to_point.specs.CoreState.{CoreState}
use Rattle.point_to_point.specs.Messages.{own_key_sent, own_send_of}
use Rattle.point_to_point_calls.specs.ReceiveMatches.{posted_by, progress_on_post, transfers_on_post, answer_on_post}
use Rattle.point_to_point_calls.specs.ReceiveMatches.{waiting_by}

-- The first rule that a receive breaks: buffer and layout differ in basic type, or a place is named twice; the buffer
-- is too short; the tag is above the highest; there is no such rank.
unfoldable pub receive_rule : (size : ℕ) → RoutedReceive → Option Refusal
receive_rule size v =
    if is_unfit_to_receive (handed_of v.receive.into) then Some refusals.WrongType
    else (if is_too_short (handed_of v.receive.into) then Some refusals.Count
    else (if is_tag_above v.receive.tag then Some refusals.Tag
    else (if is_source_beyond size v.route.named then Some refusals.Rank
    else None)))

-- The first rule or limit that a receive meets: buffer and layout differ in basic type, or a place is named twice; the
-- buffer is too short; the tag is above the highest; there is no such rank; no request can be started.
unfoldable pub receive_fault : CoreState → RoutedReceive → Option Refusal
receive_fault c v =
    if is_unfit_to_receive (handed_of v.receive.into) then Some refusals.WrongType
    else (if is_too_short (handed_of v.receive.into) then Some refusals.Count
    else (if is_tag_above v.receive.tag then Some refusals.Tag
    else (if is_source_beyond c.place.size v.route.named then Some refusals.Rank
    else (if is_full c.slots c.serial then Some refusals.Limit
    else None))))

-- THE ANSWER TO AN ANNOUNCED MESSAGE

-- the message that a receive would take now
abbrev pub found_by : CoreState → RoutedReceive → Option Message
found_by c v = message_at c.queues.unexpected (message_for (posted_by 0 v) c.queues.unexpected)

-- the frame that a receive gives to another rank: a receive from the null process takes no message
abbrev pub receive_frame : Source → CoreState → RoutedReceive → Option OutgoingText
receive_frame sources.Any c v = answer_on_post v.receive.into (found_by c v)
receive_frame (sources.Rank rank) c v = answer_on_post v.receive.into (found_by c v)
receive_frame sources.Null c v = None

-- the receive has the next serial and a key that was free; it has ended with the oldest message that it accepts, or it
-- waits (MPI 3.1, 3.5); and an own send that waited for that has ended
pub record IsPosting (old : CoreState) (v : RoutedReceive) (r : Request) (new : CoreState) : Type 0 where
  pub fresh : slot_at old.slots r.key ≡ None
  pub serial : r.serial ≡ old.serial
  pub started : List (Option TableEntry)
  pub entry : IsSet old.slots started r.key (Some (record {
    serial = old.serial;
    progress =
        progress_on_post (waiting_by v)
        (message_at old.queues.unexpected (message_for (posted_by r.key v) old.queues.unexpected));
  }))
  pub rest : new ≡ record old {
    slots = own_key_sent
        (own_send_of (message_at old.queues.unexpected (message_for (posted_by r.key v) old.queues.unexpected)))
        started;
    serial = old.serial + 1;
    queues = after_post old.queues (posted_by r.key v);
    transfers = transfers_on_post old.place.message_limit old.transfers v.receive.into r.key
        (message_at old.queues.unexpected (message_for (posted_by r.key v) old.queues.unexpected));
  }

-- a receive from the null process is finished in its own call, and its buffer is as it was (MPI 3.1, 3.11)
pub record IsReceivingNothing (old : CoreState) (v : RoutedReceive) (r : Request) (new : CoreState) : Type 0 where
  pub fresh : slot_at old.slots r.key ≡ None
  pub serial : r.serial ≡ old.serial
  pub entry : IsSet old.slots new.slots r.key (Some (record {
    serial = old.serial;
    progress = Finished (outcomes.Received null_status v.receive.into.buffer);
  }))
  pub rest : new ≡ record old { slots = new.slots; serial = old.serial + 1 }

-- by whom it names
abbrev pub ReceivesFrom : Source → CoreState → RoutedReceive → Request → CoreState → Type 0
ReceivesFrom sources.Any old v r new = IsPosting old v r new
ReceivesFrom (sources.Rank rank) old v r new = IsPosting old v r new
ReceivesFrom sources.Null old v r new = IsReceivingNothing old v r new

-- what a receive leaves, under the request that it started
abbrev pub IsReceiving : CoreState → RoutedReceive → Request → CoreState → Type 0
IsReceiving old v r new = ReceivesFrom v.route.named old v r new
