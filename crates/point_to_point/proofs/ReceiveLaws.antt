-- What a receive makes of the message that it finds.
use Rattle.std.proofs.Common.{◌≡◌, ℕ, ◌<◌, Bool, true, false, List, [], ◌∷◌, length, Option, Some, None, if◌then◌else◌}
use Rattle.std.proofs.Common.{◌==◌, sym, arith, subst, inl, inr}
use Rattle.std.specs.Prelude.{IfSome, slice_get}
use Rattle.std.specs.List.{AllByRecursion}
use Rattle.std.proofs.lemmas.Bool.{cases_lt}
use Rattle.std.proofs.lemmas.Option.{slice_get-get_or, slice_get_past}
use Rattle.datagram.specs.Spellings.{OutgoingText}
use Rattle.vocabulary.specs.declared.envelope.Source.{Source}
use Rattle.vocabulary.specs.declared.envelope.Source.TheVariants as sources
use Rattle.match_queues.specs.declared.envelope.Message.{Message}
use Rattle.match_queues.specs.declared.envelope.Body.{Body}
use Rattle.match_queues.specs.declared.envelope.Body.TheVariants.{Announced, Own, Whole}
use Rattle.match_queues.specs.State.{message_at, message_for}
use Rattle.match_queues.specs.Bodies.{basic_of, count_of}
use Rattle.requests.specs.declared.region.Region.{Region}
use Rattle.requests.specs.Table.{has_room, message_in, progress_of, slot_at}
use Rattle.requests.specs.declared.table.TableEntry.{TableEntry}
use Rattle.requests.specs.declared.table.Request.{Request}
use Rattle.point_to_point_calls.specs.declared.call.RoutedReceive.{RoutedReceive}
use Rattle.datagram.specs.declared.frame.Outgoing.{Outgoing}
use Rattle.point_to_point.specs.CoreState.{CoreState, IsAnswerable, IsAnswerableAt, IsKept}
use Rattle.point_to_point_calls.specs.Frames.{addressed}
use Rattle.point_to_point_calls.specs.ReceiveMatches.{answer_by, answer_on_post}
use Rattle.point_to_point.specs.Messages.{found_for, message_frame, probed_by}
use Rattle.point_to_point.specs.Receives.{found_by, receive_frame}
use Rattle.point_to_point_calls.specs.ReceiveMatches.{posted_by}
use Rattle.point_to_point.proofs.Replies.{at_place}

-- WHOM IT ANSWERS

one_of_all : (size : ℕ) (ms : List Message) (i : ℕ) → AllByRecursion (λ (m : Message). IsAnswerable size m m.body) ms →
    IfSome (slice_get ms i) (λ (m : Message). IsAnswerable size m m.body)
one_of_all size [] i all =
    subst (λ (o : Option Message). IfSome o (λ (m : Message). IsAnswerable size m m.body))
    (sym (slice_get_past [] i (omega arith))) tt
one_of_all size (m ∷ ms) i all =
    elim (cases_lt i (length (m ∷ ms))) [
      | inl lt ↦
          subst (λ (o : Option Message). IfSome o (λ (n : Message). IsAnswerable size n n.body))
          (sym (slice_get-get_or (m ∷ ms) i m lt))
          (at_place (λ (n : Message). IsAnswerable size n n.body) (m ∷ ms) i m all lt)
      | inr le ↦
          subst (λ (o : Option Message). IfSome o (λ (n : Message). IsAnswerable size n n.body))
          (sym (slice_get_past (m ∷ ms) i le)) tt
    ]

pub found_is_answerable : (size : ℕ) (ms : List Message) (o : Option ℕ) →
    AllByRecursion (λ (m : Message). IsAnswerable size m m.body) ms →
    IfSome (message_at ms o) (λ (m : Message). IsAnswerable size m m.body)
found_is_answerable size ms None all = tt
found_is_answerable size ms (Some i) all = one_of_all size ms i all

there_by : (size : ℕ) (wanted : Bool) (m : Message) (b : Body) → IsAnswerable size m b →
    IfSome (answer_by wanted m b) (λ (f : OutgoingText). f.target < size)
there_by size wanted m (Whole elements) answerable = tt
there_by size wanted m (Own own) answerable = tt
there_by size wanted m (Announced a) answerable = answerable

there_on_post : (size : ℕ) (r : Region) (o : Option Message) → IfSome o (λ (m : Message). IsAnswerable size m m.body) →
    IfSome (answer_on_post r o) (λ (f : OutgoingText). f.target < size)
there_on_post size r None answerable = tt
there_on_post size r (Some m) answerable =
    there_by size (has_room r (basic_of m.body) (count_of m.body)) m m.body answerable

there_for : (c : CoreState) (v : RoutedReceive) → IsKept c.place c.queues c.transfers c.slots →
    IfSome (answer_on_post v.receive.into (found_by c v)) (λ (f : OutgoingText). f.target < c.place.size)
there_for c v kept =
    there_on_post c.place.size v.receive.into (found_by c v)
    (found_is_answerable c.place.size c.queues.unexpected (message_for (posted_by 0 v) c.queues.unexpected)
    kept.answerable)

there_from : (s : Source) (c : CoreState) (v : RoutedReceive) → IsKept c.place c.queues c.transfers c.slots →
    IfSome (receive_frame s c v) (λ (f : OutgoingText). f.target < c.place.size)
there_from sources.Any c v kept = there_for c v kept
there_from (sources.Rank rank) c v kept = there_for c v kept
there_from sources.Null c v kept = tt

said : (size : ℕ) (a : Option Outgoing) → IfSome (addressed a) (λ (f : OutgoingText). f.target < size) →
    IfSome a (λ (x : Outgoing). x.target < size)
said size None there = tt
said size (Some a) there = there

-- the answer goes to a rank of the job
pub answer_is_there : (c : CoreState) (v : RoutedReceive) (a : Option Outgoing) →
    IsKept c.place c.queues c.transfers c.slots →
    addressed a ≡ receive_frame v.route.named c v → IfSome a (λ (x : Outgoing). x.target < c.place.size)
answer_is_there c v a kept is =
    said c.place.size a (subst (λ (o : Option OutgoingText). IfSome o (λ (f : OutgoingText). f.target < c.place.size))
    (sym is)
    (there_from v.route.named c v kept))

-- THE RECEIVE OF A MESSAGE

held_there : (size : ℕ) (slot : Option TableEntry) (serial : ℕ) → IsAnswerableAt size slot →
    IfSome (message_in (progress_of slot serial)) (λ (m : Message). IsAnswerable size m m.body)
held_there size None serial here = tt
held_there size (Some e) serial here = go (e.serial == serial)
  where
    go : (b : Bool) →
        IfSome (message_in (if b then Some e.progress else None)) (λ (m : Message). IsAnswerable size m m.body)
    go true = here
    go false = tt

there_of : (c : CoreState) (q : Option Request) (into : Region) → IsKept c.place c.queues c.transfers c.slots →
    IfSome (message_frame c q into) (λ (f : OutgoingText). f.target < c.place.size)
there_of c None into kept = tt
there_of c (Some q) into kept =
    there_on_post c.place.size into (message_in (progress_of (slot_at c.slots q.key) q.serial))
    (held_there c.place.size (slot_at c.slots q.key) q.serial (kept.taken q.key))

-- the answer to the sender of a message that is received goes to a rank of the job
pub message_is_there : (c : CoreState) (q : Option Request) (into : Region) (a : Option Outgoing) →
    IsKept c.place c.queues c.transfers c.slots →
    addressed a ≡ message_frame c q into → IfSome a (λ (x : Outgoing). x.target < c.place.size)
message_is_there c q into a kept is =
    said c.place.size a (subst (λ (o : Option OutgoingText). IfSome o (λ (f : OutgoingText). f.target < c.place.size))
    (sym is)
    (there_of c q into kept))

-- the message that a probe finds is answerable
pub found_for_probe : (c : CoreState) (source : Source) (tag : Option ℕ) (context : ℕ) →
    IsKept c.place c.queues c.transfers c.slots →
    IfSome (found_for c source tag context) (λ (m : Message). IsAnswerable c.place.size m m.body)
found_for_probe c source tag context kept =
    found_is_answerable c.place.size c.queues.unexpected
    (message_for (probed_by source tag context) c.queues.unexpected) kept.answerable
