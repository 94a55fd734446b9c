-- What is so of the key and the serial of each request of a core stays so through its events, where it is so of what
-- they start.
use Rattle.std.proofs.Common.{◌≡◌, ◌≤◌, ◌+◌, ℕ, Bool, true, false, ◌==◌, List, Option, Some, None, refl, sym, ap, subst}
use Rattle.std.proofs.Common.{◌∙◌, arith}
use Rattle.std.proofs.lemmas.Option.{same_Some}
use Rattle.datatypes.specs.Contents.{Contents}
use Rattle.match_queues.specs.Arrivals.{arrival_of}
use Rattle.match_queues.specs.declared.envelope.Message.{Message}
use Rattle.datagram.specs.Spellings.{ClearFrame, DataFrame, EagerFrame, FrameText, RequestFrame}
use Rattle.requests.specs.Completions.{completion}
use Rattle.requests.specs.Table.{message_in, progress_at}
use Rattle.requests.specs.declared.answer.Answer.{Answer}
use Rattle.requests.specs.declared.awaited_requests.Awaited.{Awaited}
use Rattle.requests.specs.declared.awaited_requests.Awaited.TheVariants.{AllOf, AnyOf, One}
use Rattle.requests.specs.declared.region.Region.{Region}
use Rattle.requests.specs.declared.table.RequestProgress.{RequestProgress}
use Rattle.requests.specs.declared.table.RequestProgress.TheVariants.{Receiving, Collecting, Offering, TakenOut}
use Rattle.requests.specs.declared.table.RequestProgress.TheVariants.{Finished}
use Rattle.requests.specs.declared.table.Request.{Request}
use Rattle.point_to_point_calls.specs.Calls.{Starts}
use Rattle.point_to_point_calls.specs.FrameNews.{NewsText, announced_of, message_of}
use Rattle.point_to_point_calls.specs.CoreCalls.{RoutedCall}
use Rattle.point_to_point_calls.specs.CoreCalls as calls
use Rattle.point_to_point_calls.specs.declared.call.RoutedProbe.{RoutedProbe}
use Rattle.point_to_point_calls.specs.declared.call.RoutedReceive.{RoutedReceive}
use Rattle.point_to_point_calls.specs.CoreCalls.{CoreReply}
use Rattle.point_to_point_calls.specs.declared.call.RoutedSend.{RoutedSend}
use Rattle.point_to_point_calls.specs.declared.sends.Destination.{Destination}
use Rattle.point_to_point_calls.specs.SendRules.{announced_to, destination, is_to_itself, offered_by}
use Rattle.requests.specs.Regions.{sent_from}
use Rattle.point_to_point.specs.Calls.{Answers}
use Rattle.point_to_point.specs.CoreState.{CoreState}
use Rattle.point_to_point.specs.Arrivals.{after_any, after_frame, after_news, keys_ending, after_lesson}
use Rattle.point_to_point.specs.Messages.{Receives, Searches, SearchesFrom, TakesOut, found_for, own_send_of, received}
use Rattle.point_to_point.specs.Receives.{IsPosting, IsReceiving, IsReceivingNothing, ReceivesFrom}
use Rattle.point_to_point.specs.Sends.{IsSending, after_message, arrived_at_itself, arrived_if, waiting_of}
use Rattle.point_to_point.specs.Completions.{
  Cancels,
  Tests,
  TestsBy,
  Waits,
  WaitsBy,
  answered_by,
  cancelled,
  cancelled_at,
}
use Rattle.point_to_point.specs.Completions.{after_wake, woken_by}
use Rattle.vocabulary.specs.declared.endpoint.Endpoint.{Endpoint}
use Rattle.vocabulary.specs.declared.envelope.Source.{Source}
use Rattle.vocabulary.specs.declared.envelope.Source.TheVariants as sources
use Rattle.observation.specs.Requests.{message_given}
use Rattle.proof_request_keys.proofs.Tables.{All, arrival_stays, cancel_stays, delivered_stays, own_sent_stays}
use Rattle.proof_request_keys.proofs.Tables.{receive_stays, replaces_stay, sent_stays, start_stays, use_stays}

-- ---- events that start nothing

-- what is so of each request stays so, and no serial is given
pub record StaysIn (old new : CoreState) : Type 1 where
  pub all : (P : ℕ → ℕ → Type 0) → All P old.slots → All P new.slots
  pub serial : new.serial ≡ old.serial
  pub place : new.place ≡ old.place

pub same_stays : (old new : CoreState) → new ≡ old → StaysIn old new
same_stays old new same =
    record {
      all = λ P all. subst (λ (c : CoreState). All P c.slots) (sym same) all;
      serial =
          ap (λ (c : CoreState). c.serial) same;
      place = ap (λ (c : CoreState). c.place) same;
    }

pub then_stays : (a b c : CoreState) → StaysIn a b → StaysIn b c → StaysIn a c
then_stays a b c first second =
    record {
      all = λ P all. second.all P (first.all P all);
      serial = second.serial ∙ first.serial;
      place =
          second.place ∙ first.place;
    }

pub as_stays : (old mid new : CoreState) → new ≡ mid → StaysIn old mid → StaysIn old new
as_stays old mid new same stays = then_stays old mid new stays (same_stays mid new same)

-- a message came
arrived_stays : (c : CoreState) (m : Message) → StaysIn c (after_message c m)
unfolding after_message
arrived_stays c m = record {
  all = λ P all. arrival_stays P c.slots (arrival_of c.queues m) all;
  serial = refl;
  place =
      refl;
}

itself_stays : (c : CoreState) (o : Option Destination) (waiting : Option Request) (elements : Contents) →
    StaysIn c (arrived_at_itself c o waiting elements)
itself_stays c None waiting elements = same_stays c c refl
itself_stays c (Some d) waiting elements = go (d.rank == c.place.endpoint.rank)
  where
    go : (own : Bool) → StaysIn c (arrived_if own c d waiting elements)
    go true = arrived_stays c _
    go false = same_stays c c refl

-- what was heard
taught_stays : (lesson : Bool) (c : CoreState) (s : Endpoint) → StaysIn c (after_lesson lesson c s)
taught_stays false c s = same_stays c c refl
taught_stays true c s = record {
  all = λ P all. replaces_stay P c.slots (keys_ending c s) all;
  serial = refl;
  place =
      refl;
}

frame_stays : (c : CoreState) (s : Endpoint) (f : FrameText) → StaysIn c (after_frame c s f)
frame_stays c s (EagerFrame t) = arrived_stays c (message_of s t)
frame_stays c s (RequestFrame t) =
    then_stays c _ _ (record { all = λ P all. all; serial = refl; place = refl }) (arrived_stays _ (announced_of s t))
frame_stays c s (ClearFrame t) = record { all = λ P all. sent_stays P c.slots _ all; serial = refl; place = refl }
frame_stays c s (DataFrame t) = record { all = λ P all. delivered_stays P c.slots _ all; serial = refl; place = refl }

any_stays : (c : CoreState) (s : Endpoint) (f : Option FrameText) → StaysIn c (after_any c s f)
any_stays c s None = same_stays c c refl
any_stays c s (Some f) = frame_stays c s f

pub news_stay : (c : CoreState) (n : NewsText) → StaysIn c (after_news c n)
news_stay c n = then_stays c (after_lesson n.lesson c n.source) (after_news c n) (taught_stays n.lesson c n.source)
    (any_stays (after_lesson n.lesson c n.source) n.source n.frame)

-- the blocked call is answered
woken_by_stays : (c : CoreState) (o : Option Awaited) → StaysIn c (woken_by c o)
woken_by_stays c None = same_stays c c refl
woken_by_stays c (Some a) = go (completion c.slots a)
  where
    go : (o : Option (Answer × List Request)) → StaysIn c (answered_by c o)
    go None = same_stays c c refl
    go (Some (answer, used)) = record { all = λ P all. use_stays P c.slots used all; serial = refl; place = refl }

pub woken_stays : (c : CoreState) → StaysIn c (after_wake c)
unfolding after_wake
woken_stays c = woken_by_stays c c.blocked

-- ---- what a call starts

-- the request that a reply of the core gives, if it does
abbrev pub request_in : CoreReply → Option Request
request_in (calls.Started q) = Some q
request_in (calls.Done a) = None
request_in calls.Pending = None
request_in calls.Accepted = None
request_in (calls.Matched found) = message_given found
request_in calls.Blocked = None
request_in (calls.Refused why back) = None

-- it has the next serial
pub record IsNext (old new : CoreState) (q : Request) : Type 0 where
  pub serial : q.serial ≡ old.serial
  pub later : new.serial ≡ old.serial + 1

-- A call leaves what is so of each request, where it is so of the one that it starts
pub record GoesOn (old : CoreState) (reply : CoreReply) (new : CoreState) : Type 1 where
  pub all : (P : ℕ → ℕ → Type 0) → ((q : Request) → request_in reply ≡ Some q → P q.key old.serial) → All P old.slots →
      All P new.slots
  pub grows : old.serial ≤ new.serial
  pub next : (q : Request) → request_in reply ≡ Some q → IsNext old new q
  pub place : new.place ≡ old.place

-- what starts nothing
stays_on : (old new : CoreState) (reply : CoreReply) → ((q : Request) → request_in reply ≡ Some q → ⊥) →
    StaysIn old new → GoesOn old reply new
stays_on old new reply none stays =
    let same : new.serial ≡ old.serial = stays.serial in
    record {
      all = λ P start all. stays.all P all;
      grows = omega (arith, same);
      next =
          λ q is. absurd (none q is);
      place = stays.place;
    }

-- what starts a request
starts_on : (old new : CoreState) (reply : CoreReply) (r : Request) → request_in reply ≡ Some r →
    r.serial ≡ old.serial → new.serial ≡ old.serial + 1 → new.place ≡ old.place →
    ((P : ℕ → ℕ → Type 0) → P r.key old.serial → All P old.slots → All P new.slots) → GoesOn old reply new
starts_on old new reply r is serial later place all =
    record {
      all = λ P start before. all P (start r is) before;
      grows = omega (arith, later);
      next = λ q q_is. subst (IsNext old new) (same_Some r q (sym is ∙ q_is))
          (record { serial = serial; later = later });
      place = place;
    }

-- what answers with no request
quiet_on : (old new : CoreState) (reply r : CoreReply) → reply ≡ r → request_in r ≡ None → StaysIn old new →
    GoesOn old reply new
quiet_on old new reply r same none stays =
    stays_on old new reply (λ q is. (let no : None ≡ Some q = sym none ∙ ap request_in (sym same) ∙ is in absurd cc))
    stays

-- what goes on where nothing was started before
then_goes_on : (a b c : CoreState) (reply : CoreReply) → StaysIn a b → GoesOn b reply c → GoesOn a reply c
then_goes_on a b c reply first second =
    let same : b.serial ≡ a.serial = first.serial in
    let grows : b.serial ≤ c.serial = second.grows in
    record {
      all = λ P start all. second.all P (λ q is. subst (P q.key) (sym same) (start q is)) (first.all P all);
      grows = omega (arith, same, grows);
      next = λ q is. record {
        serial = (second.next q is).serial ∙ same;
        later =
            (second.next q is).later ∙ ap (λ (k : ℕ). k + 1) same;
      };
      place = second.place ∙ first.place;
    }

-- ---- calls that start nothing

waits_go_on : (old new : CoreState) (a : Awaited) (reply : CoreReply) → Waits old a reply new → GoesOn old reply new
waits_go_on old new a reply given = go (completion old.slots a) given
  where
    go : (o : Option (Answer × List Request)) → WaitsBy old a o reply new → GoesOn old reply new
    go None g =
        quiet_on old new reply calls.Blocked g.0 refl
        (as_stays old _ new g.1 (record { all = λ P all. all; serial = refl; place = refl }))
    go (Some (answer, used)) g =
        quiet_on old new reply (calls.Done answer) g.0 refl
        (as_stays old _ new g.1 (record { all = λ P all. use_stays P old.slots used all; serial = refl; place = refl }))

tests_go_on : (old new : CoreState) (q : Option Request) (reply : CoreReply) → Tests old q reply new →
    GoesOn old reply new
tests_go_on old new q reply given = go (completion old.slots (One q)) given
  where
    go : (o : Option (Answer × List Request)) → TestsBy old o reply new → GoesOn old reply new
    go None g = quiet_on old new reply calls.Pending g.0 refl (same_stays old new g.1)
    go (Some (answer, used)) g =
        quiet_on old new reply (calls.Done answer) g.0 refl
        (as_stays old _ new g.1 (record { all = λ P all. use_stays P old.slots used all; serial = refl; place = refl }))

cancelled_stays : (old : CoreState) (q : Option Request) → StaysIn old (cancelled old q)
cancelled_stays old None = same_stays old old refl
cancelled_stays old (Some q) = go (progress_at old.slots q.key q.serial)
  where
    go : (o : Option RequestProgress) → StaysIn old (cancelled_at old q o)
    go None = same_stays old old refl
    go (Some (Receiving r)) = record { all = λ P all. cancel_stays P old.slots q all; serial = refl; place = refl }
    go (Some (Collecting w)) = same_stays old old refl
    go (Some Offering) = same_stays old old refl
    go (Some (TakenOut t)) = same_stays old old refl
    go (Some (Finished o)) = same_stays old old refl

cancels_go_on : (old new : CoreState) (q : Option Request) (reply : CoreReply) → Cancels old q reply new →
    GoesOn old reply new
cancels_go_on old new q reply given =
    quiet_on old new reply calls.Accepted given.0 refl (as_stays old _ new given.1 (cancelled_stays old q))

-- the receive of a message
receives_go_on : (old new : CoreState) (q : Option Request) (into : Region) (reply : CoreReply) →
    Receives old q into reply new → GoesOn old reply new
receives_go_on old new None into reply given = quiet_on old new reply _ given.0 refl (same_stays old new given.1)
receives_go_on old new (Some q) into reply given =
    then_goes_on old (received old q into) new reply
    (record {
      all =
          λ P all. own_sent_stays P _ (own_send_of (message_in (progress_at old.slots q.key q.serial)))
          (receive_stays P old.slots q.key into all);
      serial = refl;
      place = refl;
    })
    (waits_go_on (received old q into) new (One (Some q)) reply given)

-- ---- calls that start a request

send_goes_on : (old new : CoreState) (s : RoutedSend) (r : Request) → IsSending old s r new →
    GoesOn old (calls.Started r) new
send_goes_on old new s r given =
    starts_on old new (calls.Started r) r refl given.serial stays.serial stays.place
    (λ P start before. stays.all P (start_stays P old.slots given.started r.key _ before start given.entry))
  where
    begun : CoreState
    begun = record old {
      slots = given.started;
      serial = old.serial + 1;
      transfers = offered_by old.transfers (announced_to old.place s) r.key (sent_from s.send.from);
    }

    stays : StaysIn begun new
    stays =
        as_stays begun _ new given.rest
        (itself_stays begun (destination s.route.named s.send.tag s.route.context)
        (waiting_of s.send.mode (is_to_itself old.place s) r)
        (sent_from s.send.from))

post_goes_on : (old new : CoreState) (v : RoutedReceive) (r : Request) → IsPosting old v r new →
    GoesOn old (calls.Started r) new
post_goes_on old new v r given =
    starts_on old new (calls.Started r) r refl given.serial (ap (λ (c : CoreState). c.serial) given.rest)
    (ap (λ (c : CoreState). c.place) given.rest)
    (λ P start before. subst (λ (c : CoreState). All P c.slots) (sym given.rest)
    (own_sent_stays P given.started _ (start_stays P old.slots given.started r.key _ before start given.entry)))

nothing_goes_on : (old new : CoreState) (v : RoutedReceive) (r : Request) → IsReceivingNothing old v r new →
    GoesOn old (calls.Started r) new
nothing_goes_on old new v r given =
    starts_on old new (calls.Started r) r refl given.serial (ap (λ (c : CoreState). c.serial) given.rest)
    (ap (λ (c : CoreState). c.place) given.rest)
    (λ P start before. start_stays P old.slots new.slots r.key _ before start given.entry)

receive_goes_on : (old new : CoreState) (v : RoutedReceive) (r : Request) → IsReceiving old v r new →
    GoesOn old (calls.Started r) new
receive_goes_on old new v r given = go v.route.named given
  where
    go : (source : Source) → ReceivesFrom source old v r new → GoesOn old (calls.Started r) new
    go sources.Any g = post_goes_on old new v r g
    go (sources.Rank rank) g = post_goes_on old new v r g
    go sources.Null g = nothing_goes_on old new v r g

-- a matching probe
search_goes_on : (old new : CoreState) (p : RoutedProbe) (reply : CoreReply) → Searches old p reply new →
    GoesOn old reply new
search_goes_on old new p reply given = go p.route.named given
  where
    takes : (o : Option Message) → TakesOut old p o reply new → GoesOn old reply new
    takes None g =
        subst (λ (x : CoreReply). GoesOn old x new) (sym g.0)
        (stays_on old new (calls.Matched None) (λ q is. absurd cc) (same_stays old new g.1))
    takes (Some m) (r, is, g) =
        subst (λ (x : CoreReply). GoesOn old x new) (sym is)
        (starts_on old new (calls.Matched (Some (Some r, _))) r refl g.serial
        (ap (λ (c : CoreState). c.serial) g.rest) (ap (λ (c : CoreState). c.place) g.rest)
        (λ P start before. start_stays P old.slots new.slots r.key _ before start g.entry))

    go : (source : Source) → SearchesFrom source old p reply new → GoesOn old reply new
    go sources.Null g =
        subst (λ (x : CoreReply). GoesOn old x new) (sym g.0)
        (stays_on old new (calls.Matched _) (λ q is. absurd cc) (same_stays old new g.1))
    go sources.Any g = takes (found_for old sources.Any p.probe.tag p.route.context) g
    go (sources.Rank r) g = takes (found_for old (sources.Rank r) p.probe.tag p.route.context) g

-- ---- every call

-- what starts a request is answered with it
started : (old new : CoreState) (reply : CoreReply) (start : Request → Type 0) →
    ((r : Request) → start r → GoesOn old (calls.Started r) new) → Starts start reply → GoesOn old reply new
started old new (calls.Started r) start on given = on r given
started old new (calls.Refused why back) start on given = absurd given
started old new (calls.Done a) start on given = absurd given
started old new calls.Pending start on given = absurd given
started old new calls.Accepted start on given = absurd given
started old new (calls.Matched m) start on given = absurd given
started old new calls.Blocked start on given = absurd given

pub call_goes_on : (old new : CoreState) (call : RoutedCall) (reply : CoreReply) → Answers old call reply new →
    GoesOn old reply new
call_goes_on old new (calls.Isend s) reply given =
    started old new reply (λ r. IsSending old s r new) (send_goes_on old new s) given
call_goes_on old new (calls.Irecv v) reply given =
    started old new reply (λ r. IsReceiving old v r new) (receive_goes_on old new v) given
call_goes_on old new (calls.Wait q) reply given = waits_go_on old new (One q) reply given
call_goes_on old new (calls.Test q) reply given = tests_go_on old new q reply given
call_goes_on old new (calls.Waitany qs) reply given = waits_go_on old new (AnyOf qs) reply given
call_goes_on old new (calls.Waitall qs) reply given = waits_go_on old new (AllOf qs) reply given
call_goes_on old new (calls.Cancel q) reply given = cancels_go_on old new q reply given
call_goes_on old new (calls.Improbe p) reply given = search_goes_on old new p reply given
call_goes_on old new (calls.Mrecv q into) reply given = receives_go_on old new q into reply given
