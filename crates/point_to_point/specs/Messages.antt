-- What probes look at and take out of the core, and how a message that was taken out is received (MPI 3.1, 3.8).
use Rattle.std.specs.Prelude.{◌≡◌, ◌+◌, ℕ, List, Option, Some, None, if◌then◌else◌, option_map}
use Rattle.datagram.specs.Spellings.{OutgoingText}
use Rattle.vocabulary.specs.declared.envelope.Source.{Source}
use Rattle.vocabulary.specs.declared.envelope.Source.TheVariants as sources
use Rattle.vocabulary.specs.declared.envelope.Status.{Status}
use Rattle.perfect_queues.specs.Buffers.{is_too_short}
use Rattle.perfect_queues.specs.Outcomes.{null_status}
use Rattle.perfect_queues.specs.Refusals.{is_source_beyond, is_tag_above}
use Rattle.match_queues.specs.declared.envelope.Body.{Body}
use Rattle.match_queues.specs.declared.envelope.Body.TheVariants.{Announced, Own, Whole}
use Rattle.match_queues.specs.declared.envelope.Message.{Message}
use Rattle.match_queues.specs.declared.envelope.PostedReceive as posted
use Rattle.match_queues.specs.State.{after_take, message_at, message_for}
use Rattle.requests.specs.declared.answer.Answer.TheVariants as answers
use Rattle.requests.specs.declared.awaited_requests.Awaited.TheVariants.{One}
use Rattle.requests.specs.declared.outcome.Outcome.TheVariants as outcomes
use Rattle.requests.specs.declared.region.Region.{Region}
use Rattle.requests.specs.declared.table.TableEntry.{TableEntry}
use Rattle.requests.specs.declared.table.RequestProgress.TheVariants.{TakenOut}
use Rattle.requests.specs.declared.table.Request.{Request}
use Rattle.requests.specs.Regions.{handed_of, is_unfit_to_receive}
use Rattle.requests.specs.Table.{IsSet, after_answer, after_receive, is_full, is_message, message_in, progress_at}
use Rattle.requests.specs.Table.{slot_at}
use Rattle.point_to_point_calls.specs.declared.call.RoutedProbe.{RoutedProbe}
use Rattle.point_to_point_calls.specs.CoreCalls.{CoreReply}
use Rattle.point_to_point_calls.specs.CoreCalls as replies
use Rattle.point_to_point_calls.specs.declared.refusal.Refusal.{Refusal}
use Rattle.point_to_point_calls.specs.declared.refusal.Refusal.TheVariants as refusals
use Rattle.rendezvous.specs.Collections.{Collecting}
use Rattle.point_to_point_calls.specs.ReceiveMatches.{answer_on_post, collection_on_post, status_of, transfers_on_post}
use Rattle.point_to_point.specs.CoreState.{CoreState}
use Rattle.point_to_point.specs.Completions.{Waits}
use Rattle.communicator_members.specs.Statuses.{status_in}

-- ---- own sends that wait

-- the key of the own send that waits for the match of a message, if one does
abbrev pub own_send_in : Body → Option ℕ
own_send_in (Whole elements) = None
own_send_in (Own own) = Some own.key
own_send_in (Announced a) = None

-- the same of a message that was found, if one was
abbrev pub own_send_of : Option Message → Option ℕ
own_send_of None = None
own_send_of (Some m) = own_send_in m.body

-- the table once the send under a key has ended, if there is one
abbrev pub own_key_sent : Option ℕ → List (Option TableEntry) → List (Option TableEntry)
own_key_sent None slots = slots
own_key_sent (Some key) slots = after_answer slots key

-- ---- what a probe finds

-- the receive that a probe stands for, as it would stand in the queue
abbrev pub probed_by : Source → (tag : Option ℕ) → (context : ℕ) → posted.PostedReceive
probed_by source tag context = record { request = 0; context = context; source = source; tag = tag }

-- the message that such a receive would take now
abbrev pub found_for : CoreState → Source → (tag : Option ℕ) → (context : ℕ) → Option Message
found_for c source tag context =
    message_at c.queues.unexpected (message_for (probed_by source tag context) c.queues.unexpected)

-- what a probe tells of what it finds; from the null process it finds what there always is (3.11)
abbrev pub looked : CoreState → Source → (tag : Option ℕ) → (context : ℕ) → (group : Option (List ℕ)) → Option Status
looked c sources.Null tag context group = Some null_status
looked c sources.Any tag context group =
    option_map (λ m. status_in group (status_of m)) (found_for c sources.Any tag context)
looked c (sources.Rank r) tag context group =
    option_map (λ m. status_in group (status_of m)) (found_for c (sources.Rank r) tag context)

-- the first rule that a probe breaks: the tag is above the highest; there is no such rank
unfoldable pub probe_rule : (size : ℕ) → Source → (tag : Option ℕ) → Option Refusal
probe_rule size source tag =
    if is_tag_above tag then Some refusals.Tag else (if is_source_beyond size source then Some refusals.Rank else None)

-- ---- a matching probe

-- the limit that it meets: a message that it found is to be held, and no request can be started
abbrev pub full_if : CoreState → Option Message → Option Refusal
full_if c None = None
full_if c (Some m) = if is_full c.slots c.serial then Some refusals.Limit else None

-- from the null process none is held
abbrev pub search_limit : Source → CoreState → RoutedProbe → Option Refusal
search_limit sources.Null c p = None
search_limit sources.Any c p = full_if c (found_for c sources.Any p.probe.tag p.route.context)
search_limit (sources.Rank r) c p = full_if c (found_for c (sources.Rank r) p.probe.tag p.route.context)

-- the message has the next serial and a key that was free; it stands in the queues no more, and nothing else changes
pub record IsTakingOut (old : CoreState) (p : RoutedProbe) (m : Message) (r : Request) (new : CoreState) : Type 0 where
  pub fresh : slot_at old.slots r.key ≡ None
  pub serial : r.serial ≡ old.serial
  pub entry : IsSet old.slots new.slots r.key (Some (record {
    serial = old.serial;
    progress = TakenOut (record { group = p.group; message = Some m });
  }))
  pub rest : new ≡ record old {
    slots = new.slots;
    serial = old.serial + 1;
    queues = after_take old.queues (probed_by p.route.named p.probe.tag p.route.context);
  }

-- by what it finds
abbrev pub TakesOut : CoreState → RoutedProbe → Option Message → CoreReply → CoreState → Type 0
TakesOut old p None reply new = (reply ≡ replies.Matched None) × (new ≡ old)
TakesOut old p (Some m) reply new =
    (r : Request) × (reply ≡ replies.Matched (Some (Some r, status_in p.group (status_of m)))) ×
    IsTakingOut old p m r new

-- what a matching probe answers and leaves; from the null process it has the message that there always is
abbrev pub SearchesFrom : Source → CoreState → RoutedProbe → CoreReply → CoreState → Type 0
SearchesFrom sources.Null old p reply new = (reply ≡ replies.Matched (Some (None, null_status))) × (new ≡ old)
SearchesFrom sources.Any old p reply new =
    TakesOut old p (found_for old sources.Any p.probe.tag p.route.context) reply new
SearchesFrom (sources.Rank r) old p reply new =
    TakesOut old p (found_for old (sources.Rank r) p.probe.tag p.route.context) reply new

-- whatever it asks for
abbrev pub Searches : CoreState → RoutedProbe → CoreReply → CoreState → Type 0
Searches old p reply new = SearchesFrom p.route.named old p reply new

-- ---- the receive of a message

-- only a message that was taken out and isn't received can be received; that of the null process always can
abbrev pub message_fault : CoreState → Option Request → Option Refusal
message_fault c None = None
message_fault c (Some q) = if is_message (progress_at c.slots q.key q.serial) then None else Some refusals.Request

-- the first rule that it breaks by its region: buffer and layout differ in basic type, or a place is named twice; the
-- buffer is too short
unfoldable pub region_rule : Region → Option Refusal
region_rule into =
    if is_unfit_to_receive (handed_of into) then Some refusals.WrongType
    else (if is_too_short (handed_of into) then Some refusals.Count else None)

-- the message that is received, if its sender's rank wasn't started anew
abbrev pub message_for_receive : CoreState → Option Request → Option Message
message_for_receive c None = None
message_for_receive c (Some q) = message_in (progress_at c.slots q.key q.serial)

-- the frame that answers it, where it was announced
abbrev pub message_frame : CoreState → Option Request → Region → Option OutgoingText
message_frame c q into = answer_on_post into (message_for_receive c q)

-- what is collected from then on, under the message's key, if anything is
abbrev pub collection_on_message : CoreState → Option Request → Region → Option Collecting
collection_on_message c None into = None
collection_on_message c (Some q) into =
    collection_on_post c.place.message_limit into q.key (message_in (progress_at c.slots q.key q.serial))

-- the core once the message is received into a region: it is matched with that, which has ended or collects its data;
-- and an own send that waited for it has ended
abbrev pub received : CoreState → Request → Region → CoreState
received c q into = record c {
  slots = own_key_sent (own_send_of (message_in (progress_at c.slots q.key q.serial)))
      (after_receive c.slots q.key into);
  transfers = transfers_on_post c.place.message_limit c.transfers into q.key
      (message_in (progress_at c.slots q.key q.serial));
}

-- What the receive of a message answers and leaves: it is waited for, and so answered in its own call where it has
-- ended; that of the null process's message ends at once, and its buffer is as it was (3.8.3, 3.11)
abbrev pub Receives : CoreState → Option Request → Region → CoreReply → CoreState → Type 0
Receives old None into reply new = (reply ≡ replies.Done (answers.One (outcomes.Received null_status into.buffer))) ×
    (new ≡ old)
Receives old (Some q) into reply new = Waits (received old q into) (One (Some q)) reply new
