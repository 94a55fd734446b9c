-- What a step of a collective sends: frames that the sessions may send, which bring its messages or announce them.
use Rattle.std.proofs.Common.{◌≡◌, ℕ, ◌≤◌, ◌<◌, Bool, true, false, not, ◌&&◌, ◌||◌, ◌==◌, List, [], ◌∷◌, length, Option}
use Rattle.std.proofs.Common.{Some, None, ◌+◌, if◌then◌else◌, nat_le, nat_lt, slice_index, refl, sym, ap, subst}
use Rattle.std.proofs.Common.{◌∙◌, arith}
use Rattle.std.specs.List.{AllByRecursion}
use Rattle.std.specs.Prelude.{slice_index_or}
use Rattle.std.proofs.lemmas.Bool.{and_from, and_parts, cases_eq, eq-eqb, leb-true, ltb-false, ltb-true}
use Rattle.std.proofs.lemmas.List.{length-set}
use Rattle.collective_messages.specs.Messages.{says}
use Rattle.collective_messages.specs.declared.message.CollectiveMessage.{CollectiveMessage}
use Rattle.datagram.specs.Spellings.{OutgoingText}
use Rattle.engine_calls.specs.Frames.{AreWhole, IsWhole, all_can_go, can_go, is_large, is_sendable, messages_sent}
use Rattle.engine_calls.specs.Frames.{numbers_after, payload_frame, sending_of_message, step_limit, step_sendings}
use Rattle.engine_calls.specs.Refusals.{fault_of_sessions}
use Rattle.incarnation.specs.declared.place.Place.{Place}
use Rattle.payload.proofs.Grammar.{payload_again}
use Rattle.proof_collective_steps.specs.MessageNotes.{AreWithinTypes, IsSendable}
use Rattle.proof_engine_steps.proofs.Announces.{most_begun, next_below}
use Rattle.proof_link_truth.specs.Events.{Comes, EventsAreTrue, IsAt, LeavesTrue, MaySend, MaySendAll, all_addressed}
use Rattle.proof_link_truth.specs.Events.{links_heard}
use Rattle.link_truth.specs.Links.{Links}
use Rattle.link_truth.specs.Truth.{AreTrue}
use Rattle.link_truth.specs.Wire.{CanBeSent, at, in_job, place_of}
use Rattle.endpoint_links.specs.Links.{accept_all}
use Rattle.proof_session_carrying.specs.SessionViews.{bytes_of_message}
use Rattle.proof_session_carrying.specs.EventLaws.{Bring, Tells}
use Rattle.point_to_point_calls.specs.declared.refusal.Refusal.TheVariants as refusals
use Rattle.rendezvous.specs.State.{fresh, is_full_to, most_transfers, next_to, with_begun}
use Rattle.rendezvous.specs.declared.transfers.Numbers.{Numbers}
use Rattle.sessions.specs.Events.{after_event, after_heard, event_limit, first_limit, heard_limit, sends_limit}
use Rattle.sessions.specs.HeardBytes.{HeardText}
use Rattle.sessions.specs.SessionsState.{SessionsState}
use Rattle.sessions.specs.declared.refusal.SessionRefusal.{SessionRefusal}
use Rattle.vocabulary.specs.Endpoints.{is_same}
use Rattle.vocabulary.proofs.MessageLimits.{frame_most}
use Rattle.vocabulary.specs.Limits.{highest_tag, greatest_limit}
use Rattle.vocabulary.specs.MessageLimits.{frame_limit_of}
use Rattle.vocabulary.specs.declared.endpoint.Endpoint.{Endpoint}
use Rattle.vocabulary.specs.declared.message_limit.MessageLimit.{MessageLimit}
use Rattle.proof_network_bridge.proofs.ByRank.{all_by_rank, by_rank_same}
use Rattle.proof_network_bridge.proofs.Halves.{no_limit}
use Rattle.proof_network_bridge.proofs.StepTargets.{GoTo}

-- ---- numbers

-- numbers of transfers, one for each rank of n, none of which is above the greatest
pub record AreBounded (n : ℕ) (ns : List Numbers) : Type 0 where
  pub width : length ns ≡ n
  pub most : (rank : ℕ) → next_to ns rank ≤ most_transfers

-- what a message goes by: to a rank of the job, under a number that a tag can be; so many bytes can go
pub record IsGoing (p : Place) (ns : List Numbers) (m : CollectiveMessage) : Type 0 where
  pub there : m.target.rank < p.size
  pub tag : m.number ≤ highest_tag
  pub sendable : is_sendable p.message_limit ns m.target.rank (length (bytes_of_message m)) ≡ true

pub is_going : (p : Place) (ns : List Numbers) (m : CollectiveMessage) → can_go p ns m ≡ true → IsGoing p ns m
is_going p ns m goes =
    let first = and_parts (nat_lt m.target.rank p.size) _ goes in
    let second = and_parts (nat_le m.number highest_tag) _ first.1 in
    record {
      there = ltb-true m.target.rank p.size first.0;
      tag = leb-true m.number highest_tag second.0;
      sendable =
          second.1;
    }

-- so many bytes that are too long for a frame are within the limit, and a number is left
pub record CanBegin (ns : List Numbers) (rank count : ℕ) : Type 0 where
  pub limit : count ≤ greatest_limit
  pub free : is_full_to ns rank ≡ false

pub can_begin : (limit : MessageLimit) (ns : List Numbers) (rank count : ℕ) → frame_limit_of limit < count →
    is_sendable limit ns rank count ≡ true → CanBegin ns rank count
can_begin limit ns rank count large sendable = go (nat_le count (frame_limit_of limit)) refl sendable
  where
    rest : (full : Bool) → not full ≡ true → full ≡ false
    rest false h = refl
    rest true h = absurd cc

    go : (short : Bool) → nat_le count (frame_limit_of limit) ≡ short →
        (short || (nat_le count greatest_limit && not (is_full_to ns rank))) ≡ true → CanBegin ns rank count
    go true is h = absurd
        (let le : count ≤ frame_limit_of limit = leb-true count (frame_limit_of limit) is in omega (arith, le, large))
    go false is h =
        let parts = and_parts (nat_le count greatest_limit) (not (is_full_to ns rank)) h in
        record { limit = leb-true count greatest_limit parts.0; free = rest (is_full_to ns rank) parts.1 }

-- the numbers once one more transfer has begun, or none
numbers_bounded : (n : ℕ) (limit : MessageLimit) (ns : List Numbers) (m : CollectiveMessage) → AreBounded n ns →
    m.target.rank < n → is_sendable limit ns m.target.rank (length (bytes_of_message m)) ≡ true → (large : Bool) →
    is_large limit m ≡ large → AreBounded n (if large then with_begun ns m.target.rank else ns)
numbers_bounded n limit ns m b there sendable false is = b
numbers_bounded n limit ns m b there sendable true is =
    record {
      width = length-set ns rank (record (slice_index_or ns rank fresh) { begun = next_to ns rank + 1 }) ∙ b.width;
      most = λ x. most_begun ns rank x there_is (next_below ns rank there_is free (b.most rank)) (b.most x)
          (cases_eq x rank);
    }
  where
    rank : ℕ
    rank = m.target.rank

    there_is : rank < length ns
    there_is = subst (λ (k : ℕ). rank < k) (sym b.width) there

    free : is_full_to ns rank ≡ false
    free = (can_begin limit ns rank (length (bytes_of_message m))
        (ltb-true (frame_limit_of limit) (length (bytes_of_message m)) is) sendable).free

pub still_bounded : (n : ℕ) (l : MessageLimit) (own : Endpoint) (ns : List Numbers) (m : CollectiveMessage) →
    AreBounded n ns → can_go (in_job l (place_of n own)) ns m ≡ true → AreBounded n (numbers_after l ns m)
still_bounded n l own ns m b goes =
    let g : IsGoing (in_job l (place_of n own)) ns m = is_going (in_job l (place_of n own)) ns m goes in
    numbers_bounded n l ns m b g.there g.sendable (is_large l m) refl

-- ---- each may be sent

-- the frame of a message that can go can be spelled
can_be_sent : (p : Place) (ns : List Numbers) (m : CollectiveMessage) → can_go p ns m ≡ true → IsWhole m →
    next_to ns m.target.rank ≤ most_transfers → CanBeSent (sending_of_message p.message_limit ns m).frame
can_be_sent p ns m goes whole most = go (is_large p.message_limit m) refl
  where
    count : ℕ
    count = length (bytes_of_message m)

    g : IsGoing p ns m
    g = is_going p ns m goes

    frame : ℕ
    frame = frame_limit_of p.message_limit

    go : (large : Bool) → is_large p.message_limit m ≡ large →
        CanBeSent (payload_frame (if large then Some (next_to ns m.target.rank) else None) m.context m.number
        (bytes_of_message m))
    go false is =
        let limit : count ≤ 61440 = let short : count ≤ frame = ltb-false frame count is in omega (arith, short, frame_most p.message_limit) in
        record {
          fits = record { tag = g.tag; size = omega arith; limit = limit; plane = refl };
          width = record { context = whole.context; count = omega (arith, limit) };
        }
    go true is =
        let above : frame < count = ltb-true frame count is in
        let limit : count ≤ 2147483647 = (can_begin p.message_limit ns m.target.rank count above g.sendable).limit in
        let greatest : next_to ns m.target.rank ≤ 4294967295 = most in
        record {
          fits = record { tag = g.tag; plane = refl };
          width = record { context = whole.context; count = omega (arith, limit); transfer = omega (arith, greatest) };
        }

-- who has another endpoint of the same incarnation has another rank
pub other_rank : (a b : Endpoint) → a.incarnation ≡ b.incarnation → is_same a b ≡ false → (a.rank == b.rank) ≡ false
other_rank a b alike other = go (a.rank == b.rank) refl
  where
    go : (t : Bool) → (a.rank == b.rank) ≡ t → t ≡ false
    go false h = refl
    go true h =
        absurd (let same : is_same a b ≡ true = and_from (a.rank == b.rank) (a.incarnation == b.incarnation) h (eq-eqb a.incarnation b.incarnation alike) in let no : true ≡ false = sym same ∙ other in cc)

each_may_be_sent : (n : ℕ) (l : MessageLimit) (own : Endpoint) (ns : List Numbers) (ms : List CollectiveMessage) →
    AreBounded n ns → AllByRecursion (IsSendable n own) ms → AreWhole ms →
    all_can_go (in_job l (place_of n own)) ns ms ≡ true →
    MaySendAll n own.rank (messages_sent l ns ms)
each_may_be_sent n l own ns [] bounded sendable whole goes = tt
each_may_be_sent n l own ns (m ∷ ms) bounded sendable whole goes =
    let g = and_parts (can_go (in_job l (place_of n own)) ns m)
    (all_can_go (in_job l (place_of n own)) (numbers_after l ns m) ms) goes in (
      record {
        there = sendable.0.there;
        apart = other_rank m.target own sendable.0.alike sendable.0.other;
        carried =
            can_be_sent (in_job l (place_of n own)) ns m g.0 whole.0 (bounded.most m.target.rank);
      },
      each_may_be_sent n l own (numbers_after l ns m) ms (still_bounded n l own ns m bounded g.0) sendable.1 whole.1
          g.1,
    )

-- What a step sends by rank may be sent
pub may_be_sent : (n : ℕ) (l : MessageLimit) (own : Endpoint) (ns : List Numbers) (ms : List CollectiveMessage) →
    AreBounded n ns → AllByRecursion (IsSendable n own) ms → AreWhole ms →
    all_can_go (in_job l (place_of n own)) ns ms ≡ true →
    MaySendAll n own.rank (step_sendings (in_job l (place_of n own)) ns ms)
may_be_sent n l own ns ms bounded sendable whole goes =
    all_by_rank (MaySend n own.rank) n (messages_sent l ns ms)
    (each_may_be_sent n l own ns ms bounded sendable whole goes)

ranks_there : (n : ℕ) (l : MessageLimit) (own : Endpoint) (ns : List Numbers) (ms : List CollectiveMessage) →
    AllByRecursion (IsSendable n own) ms → AllByRecursion (λ (f : OutgoingText). f.target < n) (messages_sent l ns ms)
ranks_there n l own ns [] sendable = tt
ranks_there n l own ns (m ∷ ms) sendable =
    (sendable.0.there, ranks_there n l own (numbers_after l ns m) ms sendable.1)

-- ---- within its types

-- each element of what is whole is within its type
pub are_within : (ms : List CollectiveMessage) → AreWhole ms → AreWithinTypes ms
are_within [] whole = tt
are_within (m ∷ ms) whole = (whole.0.within, are_within ms whole.1)

-- ---- what it brings

-- an endpoint is at the incarnation at which its rank is known
abbrev pub IsKnown : (known : List ℕ) → Endpoint → Type 0
IsKnown known x = slice_index known x.rank ≡ x.incarnation

-- the frame of a message brings it, or announces it
tells_message : (limit : MessageLimit) (ns : List Numbers) (m : CollectiveMessage) →
    Tells limit m (sending_of_message limit ns m).frame
tells_message limit ns m = go (is_large limit m) refl
  where
    go : (large : Bool) → is_large limit m ≡ large →
        Tells limit m (payload_frame (if large then Some (next_to ns m.target.rank) else None) m.context m.number
        (bytes_of_message m))
    go false is = record { plane = refl; basic = refl; context = refl; number = refl; elements = refl }
    go true is = record {
      mode = refl;
      plane = refl;
      basic = refl;
      context = refl;
      number = refl;
      count = refl;
      large =
          ltb-true (frame_limit_of limit) (length (bytes_of_message m)) is;
    }

-- The frames of messages that go to whoever is known bring the messages
pub bring : (limit : MessageLimit) (known : List ℕ) (ns : List Numbers) (ms : List CollectiveMessage) → AreWhole ms →
    GoTo (IsKnown known) ms → Bring limit ms (all_addressed known (messages_sent limit ns ms))
bring limit known ns [] whole known_all = tt
bring limit known ns (m ∷ ms) whole known_all = (
  record {
    target = ap (λ (i : ℕ). at m.target.rank i) known_all.0;
    tells = tells_message limit ns m;
    spelled = payload_again (says m) whole.0.fits;
  },
  bring limit known (numbers_after limit ns m) ms whole.1 known_all.1,
)

-- ---- what it leaves

-- where a step meets no limit, its messages can go, and its frames meet none
pub record MeetsNone (s : SessionsState) (ns : List Numbers) (heard : Option HeardText) (ms : List CollectiveMessage) :
    Type 0 where
  pub can : all_can_go s.place ns ms ≡ true
  pub free : sends_limit (after_heard s heard) (step_sendings s.place ns ms) ≡ None

pub meets_none : (s : SessionsState) (ns : List Numbers) (heard : Option HeardText) (ms : List CollectiveMessage) →
    step_limit s ns heard ms ≡ None → MeetsNone s ns heard ms
meets_none s ns heard ms none = tested (all_can_go s.place ns ms) refl none
  where
    second : (a b : Option SessionRefusal) → first_limit a b ≡ None → b ≡ None
    second None b h = h
    second (Some x) b h = absurd cc

    tested : (t : Bool) → all_can_go s.place ns ms ≡ t →
        (if t then fault_of_sessions (event_limit s heard (step_sendings s.place ns ms)) else Some refusals.Limit) ≡
        None → MeetsNone s ns heard ms
    tested true is h =
        record {
          can = is;
          free = second (heard_limit s heard) (sends_limit (after_heard s heard) (step_sendings s.place ns ms))
              (no_limit (event_limit s heard (step_sendings s.place ns ms)) h);
        }
    tested false is h = absurd cc

-- What an event that sends leaves true of the links it leaves true where it sends what a step does, by rank: they take
-- it in in the order of the step
pub step_leaves : (T : SessionsState → Links → Type 0) (n : ℕ) (own : Endpoint) (old : SessionsState)
    (heard : Option HeardText) (links : Links) (known : List ℕ) (ns : List Numbers) (ms : List CollectiveMessage) →
    ((sendings : List OutgoingText) → MaySendAll n own.rank sendings → sends_limit (after_heard old heard) sendings ≡
    None →
    T (after_event old heard sendings) (accept_all links own (all_addressed known sendings))) →
    old.place ≡ in_job old.place.message_limit (place_of n own) → AreBounded n ns →
    AllByRecursion (IsSendable n own) ms → AreWhole ms →
    step_limit old ns heard ms ≡ None →
    T (after_event old heard (step_sendings old.place ns ms))
    (accept_all links own (all_addressed known (messages_sent old.place.message_limit ns ms)))
step_leaves T n own old heard links known ns ms leaves place bounded sendable whole none =
    subst (λ (p : Place). T (after_event old heard (step_sendings p ns ms))
    (accept_all links own (all_addressed known (messages_sent old.place.message_limit ns ms)))) (sym place)
    (subst (λ (ls : Links). T
    (after_event old heard (step_sendings (in_job old.place.message_limit (place_of n own)) ns ms)) ls)
    (by_rank_same n links own known (messages_sent old.place.message_limit ns ms)
    (ranks_there n old.place.message_limit own ns ms sendable))
    (leaves (step_sendings (in_job old.place.message_limit (place_of n own)) ns ms)
    (may_be_sent n old.place.message_limit own ns ms bounded sendable whole
    (subst (λ (p : Place). all_can_go p ns ms ≡ true) place free.can))
    (subst (λ (p : Place). sends_limit (after_heard old heard) (step_sendings p ns ms) ≡ None) place free.free)))
  where
    free : MeetsNone old ns heard ms
    free = meets_none old ns heard ms none

-- so it is with the links of a world
pub step_is_true : EventsAreTrue →
    (n r : ℕ) (sessions : List SessionsState) (datagrams : List (ℕ × List ℕ)) (links : Links) (current : ℕ →
    ℕ) (old : SessionsState) (heard : Option HeardText) (ns : List Numbers) (ms : List CollectiveMessage) →
    AreTrue n sessions datagrams links current → IsAt sessions r old → Comes datagrams r old heard →
    old.place ≡ in_job old.place.message_limit (place_of n (at r (current r))) → AreBounded n ns →
    AllByRecursion (IsSendable n (at r (current r))) ms → AreWhole ms → step_limit old ns heard ms ≡ None →
    LeavesTrue n sessions datagrams r (after_event old heard (step_sendings old.place ns ms))
    (accept_all (links_heard links (at r (current r)) heard) (at r (current r))
    (all_addressed (after_heard old heard).known (messages_sent old.place.message_limit ns ms))) current
step_is_true truth n r sessions datagrams links current old heard ns ms true_now stands comes place bounded sendable
    whole none =
    step_leaves (λ (t : SessionsState) (ls : Links). LeavesTrue n sessions datagrams r t ls current) n
    (at r (current r)) old heard (links_heard links (at r (current r)) heard) (after_heard old heard).known ns ms
    (λ sendings may free. truth n r sessions datagrams links current old heard sendings true_now stands comes may free)
    place bounded sendable whole none
