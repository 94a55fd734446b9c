-- A rank stays in its place, whatever it answers: it follows from what an answer leaves.
use Rattle.std.proofs.Common.{◌≡◌, ◌==◌, Bool, true, false, List, Option, Some, None, refl, ap, ◌∙◌}
use Rattle.datatypes.specs.Contents.{Contents}
use Rattle.incarnation.specs.declared.place.Place.{Place}
use Rattle.match_queues.specs.declared.envelope.Message.{Message}
use Rattle.requests.specs.Completions.{completion}
use Rattle.requests.specs.Table.{progress_at}
use Rattle.requests.specs.declared.answer.Answer.{Answer}
use Rattle.requests.specs.declared.awaited_requests.Awaited.{Awaited}
use Rattle.requests.specs.declared.awaited_requests.Awaited.TheVariants.{AllOf, AnyOf, One}
use Rattle.requests.specs.declared.region.Region.{Region}
use Rattle.requests.specs.declared.table.Request.{Request}
use Rattle.requests.specs.declared.table.RequestProgress.{RequestProgress}
use Rattle.requests.specs.declared.table.RequestProgress.TheVariants.{Collecting, Finished, Offering, Receiving, TakenOut}
use Rattle.vocabulary.specs.declared.envelope.Source.{Source}
use Rattle.vocabulary.specs.declared.envelope.Source.TheVariants as sources
use Rattle.point_to_point_calls.specs.CoreCalls.{CoreReply, RoutedCall}
use Rattle.point_to_point_calls.specs.CoreCalls as calls
use Rattle.point_to_point_calls.specs.SendRules.{own_message}
use Rattle.point_to_point_calls.specs.declared.call.RoutedProbe.{RoutedProbe}
use Rattle.point_to_point_calls.specs.declared.call.RoutedReceive.{RoutedReceive}
use Rattle.point_to_point_calls.specs.declared.call.RoutedSend.{RoutedSend}
use Rattle.point_to_point_calls.specs.declared.sends.Destination.{Destination}
use Rattle.point_to_point.specs.Calls.{Answers}
use Rattle.point_to_point.specs.CoreState.{CoreState}
use Rattle.point_to_point.specs.Messages.{Receives, SearchesFrom, TakesOut, found_for, received}
use Rattle.point_to_point.specs.Receives.{IsReceiving, ReceivesFrom}
use Rattle.point_to_point.specs.Sends.{IsSending, after_message, arrived_at_itself, arrived_if}
use Rattle.point_to_point.specs.Completions.{TestsBy, Tests, Waits, WaitsBy, cancelled, cancelled_at}

-- where a rank stands
abbrev place_of : CoreState → Place
place_of c = c.place

-- a message that comes
message_stays : (c : CoreState) (m : Message) → (after_message c m).place ≡ c.place
unfolding after_message
message_stays c m = refl

arrival_stays : (b : Bool) (c : CoreState) (d : Destination) (waiting : Option Request) (elements : Contents) →
    (arrived_if b c d waiting elements).place ≡ c.place
arrival_stays true c d waiting elements = message_stays c (own_message c.place d.context d.tag waiting elements)
arrival_stays false c d waiting elements = refl

itself_stays : (c : CoreState) (d : Option Destination) (waiting : Option Request) (elements : Contents) →
    (arrived_at_itself c d waiting elements).place ≡ c.place
itself_stays c None waiting elements = refl
itself_stays c (Some d) waiting elements = arrival_stays (d.rank == c.place.endpoint.rank) c d waiting elements

send_stays : (old new : CoreState) (s : RoutedSend) (r : Request) → IsSending old s r new → new.place ≡ old.place
send_stays old new s r sending = ap place_of sending.rest ∙ itself_stays _ _ _ _

receive_stays : (named : Source) (old new : CoreState) (v : RoutedReceive) (r : Request) →
    ReceivesFrom named old v r new → new.place ≡ old.place
receive_stays sources.Any old new v r receiving = ap place_of receiving.rest
receive_stays (sources.Rank k) old new v r receiving = ap place_of receiving.rest
receive_stays sources.Null old new v r receiving = ap place_of receiving.rest

wait_stays : (old new : CoreState) (a : Awaited) (o : Option (Answer × List Request)) (reply : CoreReply) →
    WaitsBy old a o reply new → new.place ≡ old.place
wait_stays old new a None reply waits = ap place_of waits.1
wait_stays old new a (Some (answer, used)) reply waits = ap place_of waits.1

test_stays : (old new : CoreState) (o : Option (Answer × List Request)) (reply : CoreReply) → TestsBy old o reply new →
    new.place ≡ old.place
test_stays old new None reply tests = ap place_of tests.1
test_stays old new (Some (answer, used)) reply tests = ap place_of tests.1

cancel_at_stays : (c : CoreState) (q : Request) (p : Option RequestProgress) → (cancelled_at c q p).place ≡ c.place
cancel_at_stays c q None = refl
cancel_at_stays c q (Some (Receiving r)) = refl
cancel_at_stays c q (Some (Collecting w)) = refl
cancel_at_stays c q (Some Offering) = refl
cancel_at_stays c q (Some (TakenOut t)) = refl
cancel_at_stays c q (Some (Finished o)) = refl

cancel_stays : (c : CoreState) (q : Option Request) → (cancelled c q).place ≡ c.place
cancel_stays c None = refl
cancel_stays c (Some q) = cancel_at_stays c q (progress_at c.slots q.key q.serial)

taking_stays : (old new : CoreState) (p : RoutedProbe) (found : Option Message) (reply : CoreReply) →
    TakesOut old p found reply new → new.place ≡ old.place
taking_stays old new p None reply takes = ap place_of takes.1
taking_stays old new p (Some m) reply takes = ap place_of takes.2.rest

search_stays : (named : Source) (old new : CoreState) (p : RoutedProbe) (reply : CoreReply) →
    SearchesFrom named old p reply new → new.place ≡ old.place
search_stays sources.Null old new p reply searches = ap place_of searches.1
search_stays sources.Any old new p reply searches =
    taking_stays old new p (found_for old sources.Any p.probe.tag p.route.context) reply searches
search_stays (sources.Rank k) old new p reply searches =
    taking_stays old new p (found_for old (sources.Rank k) p.probe.tag p.route.context) reply searches

message_receive_stays : (old new : CoreState) (q : Option Request) (into : Region) (reply : CoreReply) →
    Receives old q into reply new → new.place ≡ old.place
message_receive_stays old new None into reply receives = ap place_of receives.1
message_receive_stays old new (Some q) into reply receives =
    wait_stays (received old q into) new (One (Some q)) (completion (received old q into).slots (One (Some q))) reply
    receives

send_answered : (old new : CoreState) (s : RoutedSend) (reply : CoreReply) → Answers old (calls.Isend s) reply new →
    new.place ≡ old.place
send_answered old new s (calls.Started r) answers = send_stays old new s r answers
send_answered old new s (calls.Done a) answers = absurd answers
send_answered old new s calls.Pending answers = absurd answers
send_answered old new s calls.Accepted answers = absurd answers
send_answered old new s (calls.Matched m) answers = absurd answers
send_answered old new s calls.Blocked answers = absurd answers
send_answered old new s (calls.Refused why back) answers = absurd answers

receive_answered : (old new : CoreState) (v : RoutedReceive) (reply : CoreReply) →
    Answers old (calls.Irecv v) reply new → new.place ≡ old.place
receive_answered old new v (calls.Started r) answers = receive_stays v.route.named old new v r answers
receive_answered old new v (calls.Done a) answers = absurd answers
receive_answered old new v calls.Pending answers = absurd answers
receive_answered old new v calls.Accepted answers = absurd answers
receive_answered old new v (calls.Matched m) answers = absurd answers
receive_answered old new v calls.Blocked answers = absurd answers
receive_answered old new v (calls.Refused why back) answers = absurd answers

-- whatever it answers
pub answers_stay : (old new : CoreState) (call : RoutedCall) (reply : CoreReply) → Answers old call reply new →
    new.place ≡ old.place
answers_stay old new (calls.Isend s) reply answers = send_answered old new s reply answers
answers_stay old new (calls.Irecv v) reply answers = receive_answered old new v reply answers
answers_stay old new (calls.Wait q) reply answers =
    wait_stays old new (One q) (completion old.slots (One q)) reply answers
answers_stay old new (calls.Test q) reply answers = test_stays old new (completion old.slots (One q)) reply answers
answers_stay old new (calls.Waitany qs) reply answers =
    wait_stays old new (AnyOf qs) (completion old.slots (AnyOf qs)) reply answers
answers_stay old new (calls.Waitall qs) reply answers =
    wait_stays old new (AllOf qs) (completion old.slots (AllOf qs)) reply answers
answers_stay old new (calls.Cancel q) reply answers = ap place_of answers.1 ∙ cancel_stays old q
answers_stay old new (calls.Improbe p) reply answers = search_stays p.route.named old new p reply answers
answers_stay old new (calls.Mrecv q into) reply answers = message_receive_stays old new q into reply answers
