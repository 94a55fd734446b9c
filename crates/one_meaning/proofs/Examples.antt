-- The one meaning of small scripts, by one way that their ranks may go.
use Rattle.std.proofs.Common.{◌≡◌, ℕ, zero, suc, ◌<◌, Bool, true, false, List, [], ◌∷◌, length, map, Option, Some, None}
use Rattle.std.proofs.Common.{if◌then◌else◌, ◌==◌, refl, sym, ap, subst, arith}
use Rattle.std.proofs.lemmas.Bool.{eqb-true, le-leb}
use Rattle.layouts.specs.Layouts.{copies_at}
use Rattle.vocabulary.specs.MessageLimits.{frame_limit_of, limit_of}
use Rattle.perfect_groups.specs.Calls.{OfCollective, OfRequests, receive_on}
use Rattle.perfect_groups.specs.Collectives.{Allreduce, CommDup, Part, part_of}
use Rattle.perfect_groups.specs.Communicators.{Communicator, context_number, first_endpoint, self_of, world_of}
use Rattle.perfect_groups.specs.Membership.{Comm, Left}
use Rattle.perfect_queues.specs.Buffers.{whole}
use Rattle.perfect_queues.specs.Calls.{Done, Started}
use Rattle.perfect_queues.specs.Completions.{ForOne, One}
use Rattle.perfect_queues.specs.Messages.{Message}
use Rattle.perfect_queues.specs.Outcomes.{Outcome, Received, Sent}
use Rattle.perfect_queues.specs.Receives.{Receive}
use Rattle.perfect_queues.specs.Requests.{Finished, Posted}
use Rattle.reductions.specs.Operations as operations
use Rattle.vocabulary.specs.declared.operation.Operation.TheVariants.{Sum}
use Rattle.vocabulary.specs.declared.basic_type.BasicType.TheVariants.{Int32}
use Rattle.vocabulary.specs.declared.envelope.Source.TheVariants.{Rank}
use Rattle.one_meaning.specs.Accounts.{Account, ForRequests, InCollective, opened}
use Rattle.one_meaning.specs.Courses.{AreDone, AreMeant, Course, Courses, Lead, Refused, Replied, Told, at_start}
use Rattle.one_meaning.specs.Courses.{goes_on, with_course}
use Rattle.one_meaning.specs.Examples.{Script, by_rank, by_tags, deadlock, in_order, meaning, next_of, numbers}
use Rattle.one_meaning.specs.Examples.{on_copies, ping_pong, printed, prints, receives, receives_on, refused, sends}
use Rattle.one_meaning.specs.Examples.{sends_on, sums, waits}
use Rattle.one_meaning.specs.Turns.{Falls, one_meaning}
use Rattle.one_meaning.proofs.Courses.{Leads, ends_are_one}
use Rattle.one_meaning.proofs.TurnLaws.{comes_to_the_end}

-- A WAY TO THE END IS ENOUGH

falls : Falls next_of length
falls [] t h = absurd (h 0 refl)
falls (f ∷ fs) t h = omega arith

by_way : (scripts : List Script) (end : Courses Script) → AreMeant next_of (length scripts) (by_rank scripts) end →
    meaning scripts ≡ printed (length scripts) end
by_way scripts end meant =
    ap (printed (length scripts))
    (ends_are_one next_of (length scripts) (by_rank scripts)
    (one_meaning next_of length (length scripts) (by_rank scripts)) end
    (comes_to_the_end next_of length falls (length scripts) (by_rank scripts)) meant)

-- TWO RANKS

-- a rank that isn't there
abbrev beyond : (rank : ℕ) → Course Script
beyond r = record { process = []; told = None; account = opened 2 r; lines = []; ended = true }

-- two ranks on their ways; there are no others
abbrev two : Course Script → Course Script → Courses Script
two a b zero = a
two a b (suc zero) = b
two a b (suc (suc r)) = beyond (suc (suc r))

two_start : (a b : Script) → at_start 2 (by_rank (a ∷ b ∷ [])) ≡
    two (at_start 2 (by_rank (a ∷ b ∷ [])) 0) (at_start 2 (by_rank (a ∷ b ∷ [])) 1)
two_start a b = λ i r. at_rank r i
  where
    at_rank : (r : ℕ) → at_start 2 (by_rank (a ∷ b ∷ [])) r ≡
        two (at_start 2 (by_rank (a ∷ b ∷ [])) 0) (at_start 2 (by_rank (a ∷ b ∷ [])) 1) r
    at_rank zero = refl
    at_rank (suc zero) = refl
    at_rank (suc (suc r)) =
        ap (λ (e : Bool). record (beyond (suc (suc r))) { ended = e }) (le-leb 2 (suc (suc r)) (omega arith))

-- a rank behind another one isn't that
behind : (x y : ℕ) → y < x → (x == y) ≡ false
behind x y h = go (x == y) refl
  where
    go : (b : Bool) → (x == y) ≡ b → b ≡ false
    go false u = refl
    go true u = let e : x ≡ y = eqb-true x y u in absurd (omega (arith, h, e))

first_went : (a b c : Course Script) → with_course (two a b) 0 c ≡ two c b
first_went a b c = λ i r. at_rank r i
  where
    at_rank : (r : ℕ) → with_course (two a b) 0 c r ≡ two c b r
    at_rank zero = refl
    at_rank (suc zero) = refl
    at_rank (suc (suc r)) =
        ap (λ (t : Bool). if t then c else beyond (suc (suc r))) (behind (suc (suc r)) 0 (omega arith))

second_went : (a b c : Course Script) → with_course (two a b) 1 c ≡ two a c
second_went a b c = λ i r. at_rank r i
  where
    at_rank : (r : ℕ) → with_course (two a b) 1 c r ≡ two a c r
    at_rank zero = refl
    at_rank (suc zero) = refl
    at_rank (suc (suc r)) =
        ap (λ (t : Bool). if t then c else beyond (suc (suc r))) (behind (suc (suc r)) 1 (omega arith))

first_goes : (a b c : Course Script) (end : Courses Script) → goes_on next_of (two a b) 0 ≡ Some c →
    Leads next_of (two c b) end → Leads next_of (two a b) end
first_goes a b c end u l =
    (0 ∷ l.0, (c, u, subst (λ (x : Courses Script). Lead next_of x l.0 end) (sym (first_went a b c)) l.1))

second_goes : (a b c : Course Script) (end : Courses Script) → goes_on next_of (two a b) 1 ≡ Some c →
    Leads next_of (two a c) end → Leads next_of (two a b) end
second_goes a b c end u l =
    (1 ∷ l.0, (c, u, subst (λ (x : Courses Script). Lead next_of x l.0 end) (sym (second_went a b c)) l.1))

two_meant : (a b : Script) (end : Courses Script) →
    Leads next_of (two (at_start 2 (by_rank (a ∷ b ∷ [])) 0) (at_start 2 (by_rank (a ∷ b ∷ [])) 1)) end →
    AreDone next_of end →
    AreMeant next_of 2 (by_rank (a ∷ b ∷ [])) end
two_meant a b end l done =
    record {
      ranks = l.0;
      lead = subst (λ (x : Courses Script). Lead next_of x l.0 end) (sym (two_start a b)) l.1;
      done = done;
    }

-- STATES ON THE WAY

abbrev running : Script → Option Told → Account → List (List ℕ) → Course Script
running script told account lines =
    record { process = script; told = told; account = account; lines = lines; ended = false }

abbrev over : Account → List (List ℕ) → Course Script
over account lines = record { process = []; told = None; account = account; lines = lines; ended = true }

-- what is told of a request that was started, and of one that has ended
abbrev started : ℕ → Option Told
started k = Some (Replied (OfRequests (Started k)))

abbrev done_with : Outcome → Option Told
done_with o = Some (Replied (OfRequests (Done (ForOne o))))

-- an account that waits for a request
abbrev waiting_for : ℕ → Account → Account
waiting_for k a = record a { waiting = Some (ForRequests (One (Some k))) }

-- a receive of one element on world
abbrev receive : (source tag : ℕ) → Receive
receive source tag = receive_on (world_of 2) (Rank source) (Some tag) (whole (numbers (0 ∷ [])))

-- a message of one element on world, and what its receive tells
abbrev message : (sender tag value : ℕ) → Message
message r tag value =
    record { sender = first_endpoint r; context = 0; tag = tag; basic = Int32; values = value ∷ []; request = None }

abbrev received : (sender tag value : ℕ) → Outcome
received r tag value = Received (record { source = Rank r; tag = Some tag; count = 1 }) (numbers (value ∷ []))

-- EACH RECEIVES FIRST

abbrev receiver : (rank source : ℕ) → Account
receiver r source = record (opened 2 r) { started = Posted (receive source 0) ∷ [] }

abbrev stuck : Courses Script
stuck =
    two (running (prints ∷ sends 1 0 (1 ∷ []) ∷ []) None (waiting_for 0 (receiver 0 1)) [])
    (running (prints ∷ sends 0 0 (2 ∷ []) ∷ []) None (waiting_for 0 (receiver 1 0)) [])

deadlock_leads : Leads next_of (two (at_start 2 (by_rank deadlock) 0) (at_start 2 (by_rank deadlock) 1)) stuck
unfolding copies_at limit_of frame_limit_of
deadlock_leads =
    first_goes _ _ (running (waits 0 ∷ prints ∷ sends 1 0 (1 ∷ []) ∷ []) (started 0) (receiver 0 1) []) stuck refl
    (first_goes _ _ (running (prints ∷ sends 1 0 (1 ∷ []) ∷ []) None (waiting_for 0 (receiver 0 1)) []) stuck refl
    (second_goes _ _ (running (waits 0 ∷ prints ∷ sends 0 0 (2 ∷ []) ∷ []) (started 0) (receiver 1 0) []) stuck refl
    (second_goes _ _ (running (prints ∷ sends 0 0 (2 ∷ []) ∷ []) None (waiting_for 0 (receiver 1 0)) []) stuck refl
    ([], refl))))

stuck_done : AreDone next_of stuck
stuck_done zero = refl
stuck_done (suc zero) = refl
stuck_done (suc (suc r)) = refl

pub deadlock_waits : meaning deadlock ≡ ([], false) ∷ ([], false) ∷ []
deadlock_waits =
    by_way deadlock stuck (two_meant (by_rank deadlock 0) (by_rank deadlock 1) stuck deadlock_leads stuck_done)

-- ONE SERVES, THE OTHER ANSWERS

abbrev served : Account
served = record (opened 2 0) { started = Finished Sent ∷ []; sent = (first_endpoint 1, message 0 1 1) ∷ [] }

abbrev has_served : Account
has_served = record served { used = 0 ∷ [] }

abbrev awaits_answer : Account
awaits_answer = record has_served { started = Finished Sent ∷ Posted (receive 1 2) ∷ [] }

abbrev has_answer : Account
has_answer = record awaits_answer { used = 0 ∷ 1 ∷ [] }

abbrev awaits_serve : Account
awaits_serve = record (opened 2 1) { started = Posted (receive 0 1) ∷ [] }

abbrev has_serve : Account
has_serve = record awaits_serve { used = 0 ∷ [] }

abbrev answered : Account
answered = record has_serve {
  started = Posted (receive 0 1) ∷ Finished Sent ∷ [];
  sent =
      (first_endpoint 0, message 1 2 2) ∷ [];
}

abbrev has_answered : Account
has_answered = record answered { used = 0 ∷ 1 ∷ [] }

abbrev played : Courses Script
played = two (over has_answer ((2 ∷ []) ∷ [])) (over has_answered ((1 ∷ []) ∷ []))

ping_pong_leads : Leads next_of (two (at_start 2 (by_rank ping_pong) 0) (at_start 2 (by_rank ping_pong) 1)) played
unfolding copies_at limit_of frame_limit_of
ping_pong_leads =
    first_goes _ _ (running (waits 0 ∷ receives 1 (Some 2) ∷ waits 1 ∷ prints ∷ []) (started 0) served []) played refl
    (first_goes _ _ (running (receives 1 (Some 2) ∷ waits 1 ∷ prints ∷ []) None (waiting_for 0 served) []) played refl
    (first_goes _ _ (running (receives 1 (Some 2) ∷ waits 1 ∷ prints ∷ []) (done_with Sent) has_served []) played refl
    (first_goes _ _ (running (waits 1 ∷ prints ∷ []) (started 1) awaits_answer []) played refl
    (first_goes _ _ (running (prints ∷ []) None (waiting_for 1 awaits_answer) []) played refl
    (second_goes _ _ (running (waits 0 ∷ prints ∷ sends 0 2 (2 ∷ []) ∷ waits 1 ∷ []) (started 0) awaits_serve []) played
    refl
    (second_goes _ _ (running (prints ∷ sends 0 2 (2 ∷ []) ∷ waits 1 ∷ []) None (waiting_for 0 awaits_serve) []) played
    refl
    (second_goes _ _ (running (prints ∷ sends 0 2 (2 ∷ []) ∷ waits 1 ∷ []) (done_with (received 0 1 1)) has_serve [])
    played refl
    (second_goes _ _ (running (sends 0 2 (2 ∷ []) ∷ waits 1 ∷ []) None has_serve ((1 ∷ []) ∷ [])) played refl
    (second_goes _ _ (running (waits 1 ∷ []) (started 1) answered ((1 ∷ []) ∷ [])) played refl
    (second_goes _ _ (running [] None (waiting_for 1 answered) ((1 ∷ []) ∷ [])) played refl
    (second_goes _ _ (running [] (done_with Sent) has_answered ((1 ∷ []) ∷ [])) played refl
    (second_goes _ _ (over has_answered ((1 ∷ []) ∷ [])) played refl
    (first_goes _ _ (running (prints ∷ []) (done_with (received 1 2 2)) has_answer []) played refl
    (first_goes _ _ (running [] None has_answer ((2 ∷ []) ∷ [])) played refl
    (first_goes _ _ (over has_answer ((2 ∷ []) ∷ [])) played refl ([], refl))))))))))))))))

played_done : AreDone next_of played
played_done zero = refl
played_done (suc zero) = refl
played_done (suc (suc r)) = refl

pub ping_pong_ends : meaning ping_pong ≡ ((2 ∷ []) ∷ [], true) ∷ ((1 ∷ []) ∷ [], true) ∷ []
ping_pong_ends =
    by_way ping_pong played (two_meant (by_rank ping_pong 0) (by_rank ping_pong 1) played ping_pong_leads played_done)

-- A SUM

abbrev with_value : ℕ → Part
with_value value = part_of (Allreduce Sum (numbers (value ∷ [])))

abbrev has_entered : (rank value : ℕ) → Account
has_entered r value = record (opened 2 r) { entered = record { context = 0; part = with_value value; serial = 2 } ∷ [] }

abbrev is_inside : (rank value : ℕ) → Account
is_inside r value = record (has_entered r value) { waiting = Some (InCollective (world_of 2) 0 (with_value value)) }

abbrev sum_told : Option Told
sum_told = Some (Replied (OfCollective (Left (Some (numbers (3 ∷ []))))))

abbrev summed : Courses Script
summed = two (over (has_entered 0 1) ((3 ∷ []) ∷ [])) (over (has_entered 1 2) ((3 ∷ []) ∷ []))

sums_lead : Leads next_of (two (at_start 2 (by_rank sums) 0) (at_start 2 (by_rank sums) 1)) summed
unfolding copies_at limit_of frame_limit_of operations.combined
sums_lead =
    first_goes _ _ (running (prints ∷ []) None (is_inside 0 1) []) summed refl
    (second_goes _ _ (running (prints ∷ []) None (is_inside 1 2) []) summed refl
    (second_goes _ _ (running (prints ∷ []) sum_told (has_entered 1 2) []) summed refl
    (second_goes _ _ (running [] None (has_entered 1 2) ((3 ∷ []) ∷ [])) summed refl
    (second_goes _ _ (over (has_entered 1 2) ((3 ∷ []) ∷ [])) summed refl
    (first_goes _ _ (running (prints ∷ []) sum_told (has_entered 0 1) []) summed refl
    (first_goes _ _ (running [] None (has_entered 0 1) ((3 ∷ []) ∷ [])) summed refl
    (first_goes _ _ (over (has_entered 0 1) ((3 ∷ []) ∷ [])) summed refl ([], refl))))))))

summed_done : AreDone next_of summed
summed_done zero = refl
summed_done (suc zero) = refl
summed_done (suc (suc r)) = refl

pub sums_are_printed : meaning sums ≡ ((3 ∷ []) ∷ [], true) ∷ ((3 ∷ []) ∷ [], true) ∷ []
sums_are_printed = by_way sums summed (two_meant (by_rank sums 0) (by_rank sums 1) summed sums_lead summed_done)

-- TWO MESSAGES

abbrev sent_two : Account
sent_two =
    record (opened 2 0) {
      started = Finished Sent ∷ Finished Sent ∷ [];
      sent = (first_endpoint 1, message 0 5 1) ∷ (first_endpoint 1, message 0 6 2) ∷ [];
    }

abbrev sent_one : Account
sent_one = record (opened 2 0) { started = Finished Sent ∷ []; sent = (first_endpoint 1, message 0 5 1) ∷ [] }

-- a receive of whatever comes from rank 0
abbrev any_receive : Receive
any_receive = receive_on (world_of 2) (Rank 0) None (whole (numbers (0 ∷ [])))

-- rank 1 with these receives, of which these were answered
abbrev received_by : List Receive → List ℕ → Account
received_by ps used = record (opened 2 1) { started = map Posted ps; used = used }

two_sent : (b : Course Script) (end : Courses Script) → Leads next_of (two (over sent_two []) b) end →
    goes_on next_of (two (running (sends 1 5 (1 ∷ []) ∷ sends 1 6 (2 ∷ []) ∷ []) None (opened 2 0) []) b) 0 ≡
    Some (running (sends 1 6 (2 ∷ []) ∷ []) (started 0) sent_one []) →
    goes_on next_of (two (running (sends 1 6 (2 ∷ []) ∷ []) (started 0) sent_one []) b) 0 ≡
    Some (running [] (started 1) sent_two []) →
    Leads next_of (two (running (sends 1 5 (1 ∷ []) ∷ sends 1 6 (2 ∷ []) ∷ []) None (opened 2 0) []) b) end
two_sent b end l u v =
    first_goes _ b (running (sends 1 6 (2 ∷ []) ∷ []) (started 0) sent_one []) end u
    (first_goes _ b (running [] (started 1) sent_two []) end v
    (first_goes _ b (over sent_two []) end refl l))

abbrev tags_received : Courses Script
tags_received =
    two (over sent_two []) (over (received_by (receive 0 6 ∷ any_receive ∷ []) (0 ∷ 1 ∷ [])) ((2 ∷ []) ∷ (1 ∷ []) ∷ []))

tags_lead : Leads next_of (two (at_start 2 (by_rank by_tags) 0) (at_start 2 (by_rank by_tags) 1)) tags_received
unfolding copies_at limit_of frame_limit_of
tags_lead =
    two_sent (at_start 2 (by_rank by_tags) 1) tags_received
    (second_goes _ _
    (running (waits 0 ∷ prints ∷ receives 0 None ∷ waits 1 ∷ prints ∷ []) (started 0)
    (received_by (receive 0 6 ∷ []) []) []) tags_received refl
    (second_goes _ _
    (running (prints ∷ receives 0 None ∷ waits 1 ∷ prints ∷ []) None
    (waiting_for 0 (received_by (receive 0 6 ∷ []) [])) []) tags_received refl
    (second_goes _ _
    (running (prints ∷ receives 0 None ∷ waits 1 ∷ prints ∷ []) (done_with (received 0 6 2))
    (received_by (receive 0 6 ∷ []) (0 ∷ [])) []) tags_received refl
    (second_goes _ _ (running (receives 0 None ∷ waits 1 ∷ prints ∷ []) None (received_by (receive 0 6 ∷ []) (0 ∷ []))
    ((2 ∷ []) ∷ [])) tags_received refl
    (second_goes _ _
    (running (waits 1 ∷ prints ∷ []) (started 1) (received_by (receive 0 6 ∷ any_receive ∷ []) (0 ∷ [])) ((2 ∷ []) ∷
    [])) tags_received refl
    (second_goes _ _ (running (prints ∷ []) None (waiting_for 1 (received_by (receive 0 6 ∷ any_receive ∷ []) (0 ∷ [])))
    ((2 ∷ []) ∷ [])) tags_received refl
    (second_goes _ _
    (running (prints ∷ []) (done_with (received 0 5 1)) (received_by (receive 0 6 ∷ any_receive ∷ []) (0 ∷ 1 ∷ []))
    ((2 ∷ []) ∷ [])) tags_received refl
    (second_goes _ _ (running [] None (received_by (receive 0 6 ∷ any_receive ∷ []) (0 ∷ 1 ∷ [])) ((2 ∷ []) ∷ (1 ∷ []) ∷
    [])) tags_received refl
    (second_goes _ _ (over (received_by (receive 0 6 ∷ any_receive ∷ []) (0 ∷ 1 ∷ [])) ((2 ∷ []) ∷ (1 ∷ []) ∷ []))
    tags_received refl ([], refl)))))))))) refl refl

tags_done : AreDone next_of tags_received
tags_done zero = refl
tags_done (suc zero) = refl
tags_done (suc (suc r)) = refl

pub later_message_is_received_by_tag : meaning by_tags ≡ ([], true) ∷ ((2 ∷ []) ∷ (1 ∷ []) ∷ [], true) ∷ []
later_message_is_received_by_tag =
    by_way by_tags tags_received (two_meant (by_rank by_tags 0) (by_rank by_tags 1) tags_received tags_lead tags_done)

abbrev two_receives : List Receive
two_receives = any_receive ∷ any_receive ∷ []

abbrev order_received : Courses Script
order_received = two (over sent_two []) (over (received_by two_receives (1 ∷ 0 ∷ [])) ((2 ∷ []) ∷ (1 ∷ []) ∷ []))

order_leads : Leads next_of (two (at_start 2 (by_rank in_order) 0) (at_start 2 (by_rank in_order) 1)) order_received
unfolding copies_at limit_of frame_limit_of
order_leads =
    two_sent (at_start 2 (by_rank in_order) 1) order_received
    (second_goes _ _
    (running (receives 0 None ∷ waits 1 ∷ prints ∷ waits 0 ∷ prints ∷ []) (started 0)
    (received_by (any_receive ∷ []) []) []) order_received refl
    (second_goes _ _ (running (waits 1 ∷ prints ∷ waits 0 ∷ prints ∷ []) (started 1) (received_by two_receives []) [])
    order_received refl
    (second_goes _ _ (running (prints ∷ waits 0 ∷ prints ∷ []) None (waiting_for 1 (received_by two_receives [])) [])
    order_received refl
    (second_goes _ _
    (running (prints ∷ waits 0 ∷ prints ∷ []) (done_with (received 0 6 2)) (received_by two_receives (1 ∷ [])) [])
    order_received refl
    (second_goes _ _ (running (waits 0 ∷ prints ∷ []) None (received_by two_receives (1 ∷ [])) ((2 ∷ []) ∷ []))
    order_received refl
    (second_goes _ _ (running (prints ∷ []) None (waiting_for 0 (received_by two_receives (1 ∷ []))) ((2 ∷ []) ∷ []))
    order_received refl
    (second_goes _ _ (running (prints ∷ []) (done_with (received 0 5 1)) (received_by two_receives (1 ∷ 0 ∷ []))
    ((2 ∷ []) ∷ [])) order_received refl
    (second_goes _ _ (running [] None (received_by two_receives (1 ∷ 0 ∷ [])) ((2 ∷ []) ∷ (1 ∷ []) ∷ [])) order_received
    refl
    (second_goes _ _ (over (received_by two_receives (1 ∷ 0 ∷ [])) ((2 ∷ []) ∷ (1 ∷ []) ∷ [])) order_received refl
    ([], refl)))))))))) refl refl

order_done : AreDone next_of order_received
order_done zero = refl
order_done (suc zero) = refl
order_done (suc (suc r)) = refl

pub messages_are_received_in_order : meaning in_order ≡ ([], true) ∷ ((2 ∷ []) ∷ (1 ∷ []) ∷ [], true) ∷ []
messages_are_received_in_order =
    by_way in_order order_received
    (two_meant (by_rank in_order 0) (by_rank in_order 1) order_received order_leads order_done)

-- COPIES OF WORLD

abbrev copy : Communicator
copy = record { context = context_number (first_endpoint 0) 2; members = (world_of 2).members }

abbrev copies : (rank : ℕ) → Account
copies r = record (opened 2 r) { entered = record { context = 0; part = part_of CommDup; serial = 2 } ∷ [] }

abbrev is_copying : (rank : ℕ) → Account
is_copying r = record (copies r) { waiting = Some (InCollective (world_of 2) 0 (part_of CommDup)) }

-- a rank that holds the copy; rank 0 has drawn its context's serial
abbrev has_copied : (rank serial : ℕ) → Account
has_copied r serial = record (copies r) { held = world_of 2 ∷ self_of (first_endpoint r) ∷ copy ∷ []; serial = serial }

abbrev copy_told : Option Told
copy_told = Some (Replied (OfCollective (Comm (Some 2))))

-- a 2 on the copy
abbrev copy_message : Message
copy_message = record (message 0 5 2) { context = copy.context }

abbrev copy_sent_one : Account
copy_sent_one = record (has_copied 0 3) { started = Finished Sent ∷ []; sent = (first_endpoint 1, message 0 5 1) ∷ [] }

abbrev copy_sent_two : Account
copy_sent_two =
    record (has_copied 0 3) {
      started = Finished Sent ∷ Finished Sent ∷ [];
      sent = (first_endpoint 1, message 0 5 1) ∷ (first_endpoint 1, copy_message) ∷ [];
    }

abbrev copy_receive : Receive
copy_receive = receive_on copy (Rank 0) None (whole (numbers (0 ∷ [])))

abbrev copy_received_by : List ℕ → Account
copy_received_by used = record (has_copied 1 2) { started = Posted copy_receive ∷ []; used = used }

abbrev copied : Courses Script
copied = two (over copy_sent_two []) (over (copy_received_by (0 ∷ [])) ((2 ∷ []) ∷ []))

copies_lead : Leads next_of (two (at_start 2 (by_rank on_copies) 0) (at_start 2 (by_rank on_copies) 1)) copied
unfolding copies_at limit_of frame_limit_of
copies_lead =
    first_goes _ _ (running (sends 1 5 (1 ∷ []) ∷ sends_on 2 1 5 (2 ∷ []) ∷ []) None (is_copying 0) []) copied refl
    (second_goes _ _ (running (receives_on 2 0 None ∷ waits 0 ∷ prints ∷ []) None (is_copying 1) []) copied refl
    (second_goes _ _ (running (receives_on 2 0 None ∷ waits 0 ∷ prints ∷ []) copy_told (has_copied 1 2) []) copied refl
    (second_goes _ _ (running (waits 0 ∷ prints ∷ []) (started 0) (copy_received_by []) []) copied refl
    (second_goes _ _ (running (prints ∷ []) None (waiting_for 0 (copy_received_by [])) []) copied refl
    (first_goes _ _ (running (sends 1 5 (1 ∷ []) ∷ sends_on 2 1 5 (2 ∷ []) ∷ []) copy_told (has_copied 0 3) []) copied
    refl
    (first_goes _ _ (running (sends_on 2 1 5 (2 ∷ []) ∷ []) (started 0) copy_sent_one []) copied refl
    (first_goes _ _ (running [] (started 1) copy_sent_two []) copied refl
    (first_goes _ _ (over copy_sent_two []) copied refl
    (second_goes _ _ (running (prints ∷ []) (done_with (received 0 5 2)) (copy_received_by (0 ∷ [])) []) copied refl
    (second_goes _ _ (running [] None (copy_received_by (0 ∷ [])) ((2 ∷ []) ∷ [])) copied refl
    (second_goes _ _ (over (copy_received_by (0 ∷ [])) ((2 ∷ []) ∷ [])) copied refl ([], refl))))))))))))

copied_done : AreDone next_of copied
copied_done zero = refl
copied_done (suc zero) = refl
copied_done (suc (suc r)) = refl

pub copies_are_apart : meaning on_copies ≡ ([], true) ∷ ((2 ∷ []) ∷ [], true) ∷ []
copies_are_apart =
    by_way on_copies copied (two_meant (by_rank on_copies 0) (by_rank on_copies 1) copied copies_lead copied_done)

-- A CALL THAT IS REFUSED

abbrev refused_end : Courses Script
refused_end = two (over (opened 2 0) ((5 ∷ []) ∷ [])) (over (opened 2 1) [])

refused_leads : Leads next_of (two (at_start 2 (by_rank refused) 0) (at_start 2 (by_rank refused) 1)) refused_end
unfolding copies_at limit_of frame_limit_of
refused_leads =
    first_goes _ _ (running (prints ∷ []) (Some (Refused 5)) (opened 2 0) []) refused_end refl
    (first_goes _ _ (running [] None (opened 2 0) ((5 ∷ []) ∷ [])) refused_end refl
    (first_goes _ _ (over (opened 2 0) ((5 ∷ []) ∷ [])) refused_end refl
    (second_goes _ _ (over (opened 2 1) []) refused_end refl ([], refl))))

refused_done : AreDone next_of refused_end
refused_done zero = refl
refused_done (suc zero) = refl
refused_done (suc (suc r)) = refl

pub refusals_are_told : meaning refused ≡ ((5 ∷ []) ∷ [], true) ∷ ([], true) ∷ []
refusals_are_told =
    by_way refused refused_end
    (two_meant (by_rank refused 0) (by_rank refused 1) refused_end refused_leads refused_done)
