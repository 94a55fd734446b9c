-- What happens to the transfers of a rank, in order, and what is seen of it: to the messages that it announced and to
-- those that come to it, and to the numbers that these share with the payloads of collectives.
use Rattle.std.specs.Prelude.{ℕ, List, [], Option, None, replicate, if◌then◌else◌}
use Rattle.vocabulary.specs.declared.basic_type.BasicType.{BasicType}
use Rattle.vocabulary.specs.declared.message_limit.MessageLimit.{MessageLimit}
use Rattle.datatypes.specs.Contents.{Contents}
use Rattle.rendezvous.specs.declared.collection.Collected.{Collected}
use Rattle.rendezvous.specs.Collections.{beginning}
use Rattle.rendezvous.specs.State.{State, fresh, is_full_to, is_full_from, is_due, after_begin, after_payload, after_rts}
use Rattle.rendezvous.specs.State.{after_collect, after_cts, after_data, given, after_drop}

-- A transfer of these elements to a rank begins, or one of a payload does; a rank announces one of either kind; one of
-- so many elements begins to be collected;
-- one is answered; bytes of one come from a place on; a rank is known at a new incarnation
pub data Event : Type 0 where
  Begins : (rank request : ℕ) → Contents → Event
  BeginsPayload : (rank : ℕ) → Event
  Announces : (rank : ℕ) → Event
  Collects : MessageLimit → (source transfer request : ℕ) → BasicType → (count : ℕ) → Event
  Answers : (rank transfer : ℕ) → Event
  Brings : (source transfer offset : ℕ) → List ℕ → Event
  Drops : (rank : ℕ) → Event

-- what a rank knows in a world of so many ranks before anything happens
abbrev pub opening : (ranks : ℕ) → State
opening ranks = record { numbers = replicate ranks fresh; offers = []; collections = [] }

-- what it knows after one more event; what is refused changes nothing
abbrev pub after : State → Event → State
after s (Begins rank request elements) = if is_full_to s.numbers rank then s else after_begin s rank request elements
after s (BeginsPayload rank) = if is_full_to s.numbers rank then s else after_payload s rank
after s (Announces rank) = if is_full_from s.numbers rank then s else after_rts s rank
after s (Collects limit source transfer request basic count) = after_collect s (beginning limit source transfer request basic count)
after s (Answers rank transfer) = after_cts s rank transfer
after s (Brings source transfer offset piece) =
    if is_due s.collections source transfer offset piece then after_data s source transfer piece else s
after s (Drops rank) = after_drop s rank

-- what an event hands out
abbrev pub handed_out_by : State → Event → Option Collected
handed_out_by s (Begins rank request elements) = None
handed_out_by s (BeginsPayload rank) = None
handed_out_by s (Announces rank) = None
handed_out_by s (Collects limit source transfer request basic count) = None
handed_out_by s (Answers rank transfer) = None
handed_out_by s (Brings source transfer offset piece) =
    if is_due s.collections source transfer offset piece then given s source transfer piece else None
handed_out_by s (Drops rank) = None
