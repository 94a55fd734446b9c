-- What a message makes of a core, said by the receive that it finds.
use Rattle.std.proofs.Common.{◌≡◌, List, Option, Some, None, refl, ap, ◌∙◌}
use Rattle.std.specs.Prelude.{IfOk}
use Rattle.std.specs.declared.result.Result.{Result}
use Rattle.std.specs.declared.result.Result.TheVariants.{Ok, Err}
use Rattle.datagram.specs.Spellings.{OutgoingText}
use Rattle.rendezvous.specs.Collections.{Collecting}
use Rattle.vocabulary.specs.declared.message_limit.MessageLimit.{MessageLimit}
use Rattle.point_to_point_calls.specs.declared.refusal.Refusal.{Refusal}
use Rattle.match_queues.specs.declared.envelope.Message.{Message}
use Rattle.match_queues.specs.declared.envelope.PostedReceive.{PostedReceive}
use Rattle.match_queues.specs.Arrivals.{arrival_at, arrival_of}
use Rattle.match_queues.specs.State.{receive_at, receive_for}
use Rattle.requests.specs.declared.table.TableEntry.{TableEntry}
use Rattle.point_to_point_calls.specs.declared.news.Match.{Match}
use Rattle.point_to_point.specs.CoreState.{CoreState}
use Rattle.point_to_point_calls.specs.ReceiveMatches.{answer_on_arrival, collection_on_arrival}
use Rattle.point_to_point_calls.specs.FrameNews.{answer_by_match, collection_by_match, match_by}
use Rattle.point_to_point.specs.Arrivals.{match_of}

collection_at : (limit : MessageLimit) (slots : List (Option TableEntry)) (r : Option PostedReceive) (m : Message) →
    collection_by_match limit (match_by slots r m) m ≡ collection_on_arrival limit slots (arrival_at r m)
collection_at limit slots None m = refl
collection_at limit slots (Some r) m = refl

answer_at : (slots : List (Option TableEntry)) (r : Option PostedReceive) (m : Message) →
    answer_by_match (match_by slots r m) m ≡ answer_on_arrival slots (arrival_at r m)
answer_at slots None m = refl
answer_at slots (Some r) m = refl

-- what is collected
pub collection_found : (c : CoreState) (m : Message) (f : Option Match) → f ≡ match_of c m →
    collection_by_match c.place.message_limit f m ≡
    collection_on_arrival c.place.message_limit c.slots (arrival_of c.queues m)
collection_found c m f is =
    ap (λ (g : Option Match). collection_by_match c.place.message_limit g m) is ∙
    collection_at c.place.message_limit c.slots (receive_at c.queues.posted (receive_for m c.queues.posted)) m

-- what is answered
pub answer_found : (c : CoreState) (m : Message) (f : Option Match) → f ≡ match_of c m →
    answer_by_match f m ≡ answer_on_arrival c.slots (arrival_of c.queues m)
answer_found c m f is =
    ap (λ (g : Option Match). answer_by_match g m) is ∙
    answer_at c.slots (receive_at c.queues.posted (receive_for m c.queues.posted)) m

-- the same of the message that was made of a frame
pub collection_as : (r : Result (Option Collecting) Refusal) (c : CoreState) (m n : Message) (f : Option Match) →
    m ≡ n → f ≡ match_of c m →
    IfOk r (λ (x : Option Collecting). x ≡ collection_by_match c.place.message_limit f m) →
    IfOk r (λ (x : Option Collecting). x ≡ collection_on_arrival c.place.message_limit c.slots (arrival_of c.queues n))
collection_as (Ok x) c m n f same is found =
    found ∙ collection_found c m f is ∙
    ap (λ (k : Message). collection_on_arrival c.place.message_limit c.slots (arrival_of c.queues k)) same
collection_as (Err e) c m n f same is found = tt

pub answer_as : (a : Option OutgoingText) (c : CoreState) (m n : Message) (f : Option Match) → m ≡ n →
    f ≡ match_of c m →
    a ≡ answer_by_match f m → a ≡ answer_on_arrival c.slots (arrival_of c.queues n)
answer_as a c m n f same is found =
    found ∙ answer_found c m f is ∙ ap (λ (k : Message). answer_on_arrival c.slots (arrival_of c.queues k)) same
