-- Histories that no run has: followed entry by entry, up to the answer that can't come.
use Rattle.std.proofs.Common.{◌≡◌, ℕ, zero, suc, Bool, true, nat_le, List, [], ◌∷◌, ◌++◌, Option, Some, None, if◌then◌else◌}
use Rattle.std.proofs.Common.{slice_get, option_map, refl, sym, ap, subst, ◌∙◌, arith}
use Rattle.std.specs.List.{AllByRecursion}
use Rattle.std.proofs.lemmas.Bool.{le-leb}
use Rattle.layouts.specs.Layouts.{copies_at}
use Rattle.vocabulary.specs.BasicTypes.{code_of}
use Rattle.vocabulary.specs.declared.envelope.Source.TheVariants.{Rank}
use Rattle.perfect_queues.specs.Calls.{Call, Isend, Irecv, Wait, Started, Done, Blocked, ready_answer, after_settling}
use Rattle.perfect_queues.specs.Calls.{after_answer}
use Rattle.vocabulary.specs.declared.message_limit.MessageLimit.{MessageLimit}
use Rattle.vocabulary.specs.MessageLimits.{frame_limit_of}
use Rattle.vocabulary.proofs.MessageLimits.{frame_least}
use Rattle.perfect_queues.specs.Completions.{One, Answer, ForOne, Unanswered, Waits, outcome_at}
use Rattle.perfect_queues.specs.CounterExamples.{IsNoHistory, received_twice, overtaken, other_data, other_type}
use Rattle.perfect_queues.specs.CounterExamples.{one_message, replaced_by_nobody, sends, receives, waits, arrives}
use Rattle.perfect_queues.specs.CounterExamples.{arrives_in}
use Rattle.perfect_queues.specs.Events.{At, Entry, Called, start, settle, told, after_event}
use Rattle.perfect_queues.specs.Example.{rank_0, rank_1, holds, numbers, three_from_0}
use Rattle.perfect_queues.specs.Messages.{Message}
use Rattle.vocabulary.specs.declared.mode.Mode.TheVariants.{Standard}
use Rattle.perfect_queues.specs.Outcomes.{Outcome, Sent, Received, Replaced, outcome}
use Rattle.perfect_queues.specs.Refusals.{world}
use Rattle.perfect_queues.specs.Requests.{Request, Posted, Finished, Gone, used_up, changed}
use Rattle.perfect_queues.specs.State.{Local, State, opening, put, with_message, with_request}
use Rattle.perfect_queues.specs.Steps.{Step, AreSteps, steps_at}
use Rattle.perfect_queues.proofs.HistoryRuns.{Stands, IsKept, Next, follow, steps_stand, settle_stands}
use Rattle.perfect_queues.proofs.WaitingReceive.{
  Holds,
  IsNoProbe,
  IsStill,
  still_kept,
  Receiving,
  IsPosted,
  HasIt,
  HasEnded,
}
use Rattle.perfect_queues.proofs.WaitingReceive.{receiving_kept}
use Rattle.vocabulary.specs.declared.basic_type.BasicType.TheVariants.{Int32, Uint32}

-- THE CALLS

-- the message of three elements
abbrev pub three : (a b c : ℕ) → Message
three a b c = record {
  sender = rank_0;
  context = world;
  tag = 7;
  basic = Int32;
  values = a ∷ b ∷ c ∷ [];
  request =
      None;
}

abbrev pub send_of : (a b c : ℕ) → Call
send_of a b c = Isend Standard world (Rank 1) (Some 7) (numbers (a ∷ b ∷ c ∷ []))

abbrev wait_for : (k : ℕ) → Call
wait_for k = Wait (One (Some k))

-- where all are still, no step is taken
all_still : (rs : List Request) (ms : List Message) → AllByRecursion (IsStill ms) rs →
    (k : ℕ) (q : Request) → slice_get rs k ≡ Some q → IsStill ms q
all_still [] ms all k q h = absurd (grind arith)
all_still (r ∷ rs) ms all zero q h = let e : r ≡ q = grind arith in subst (IsStill ms) e all.0
all_still (r ∷ rs) ms all (suc k) q h = all_still rs ms all.1 k q h

pub kept : (b : Option Unanswered) → IsNoProbe b → (rs : List Request) (ms : List Message) →
    AllByRecursion (IsStill ms) rs → IsKept (Holds b rs ms)
kept b idle rs ms all = still_kept b rs ms idle (all_still rs ms all)

pub opens : (limit : MessageLimit) → Stands (opening limit) (Holds None [] [])
opens limit =
    record {
      now = λ r. refl;
      knows = refl;
      part = record { requests = refl; blocked = refl; here = refl; elsewhere = λ s c e. refl };
    }

-- A SEND OF RANK 0

-- the world once rank 0 has sent to rank 1 at some incarnation
abbrev sent_to : State → (m : Message) → (incarnation : ℕ) → State
sent_to s m i =
    put (put s rank_0 (with_request (s.at rank_0) (Finished Sent))) (record { rank = 1; incarnation = i })
    (with_message
    ((put s rank_0 (with_request (s.at rank_0) (Finished Sent))).at (record { rank = 1; incarnation = i })) m)

more_here : (rs : List Request) (ms : List Message) (l : Local) (a b c : ℕ) → Holds None rs ms l →
    Holds None rs (ms ++ three a b c ∷ []) (with_message l (three a b c))
more_here rs ms l a b c h =
    record {
      requests = h.requests;
      blocked = h.blocked;
      here = ap (λ (xs : List Message). xs ++ three a b c ∷ []) h.here;
      elsewhere = λ s d e.
          subst (λ (t : Bool). (if t then l.queue rank_0 0 ++ three a b c ∷ [] else l.queue s d) ≡ l.queue s d)
          (sym e) refl ∙ h.elsewhere s d e;
    }

sent_stands : (rs : List Request) (ms : List Message) (s : State) (a b c : ℕ) → Stands s (Holds None rs ms) →
    Stands (sent_to s (three a b c) 0) (Holds None rs (ms ++ three a b c ∷ []))
sent_stands rs ms s a b c h = record { now = h.now; knows = h.knows; part = more_here rs ms (s.at rank_1) a b c h.part }

-- three elements are no more than a frame has
is_small : (limit : MessageLimit) → nat_le 12 (frame_limit_of limit) ≡ true
is_small limit = le-leb 12 (frame_limit_of limit) (let least = frame_least limit in omega (arith, least))

start_stands : (rs : List Request) (ms : List Message) (s : State) (a b c : ℕ) → Stands s (Holds None rs ms) →
    Stands (start s rank_0 (Some (send_of a b c))) (Holds None rs (ms ++ three a b c ∷ []))
unfolding copies_at
start_stands rs ms s a b c h =
    rw (is_small (s.at rank_0).message_limit)
    (subst (λ (i : ℕ). Stands (sent_to s (three a b c) i) (Holds None rs (ms ++ three a b c ∷ []))) (sym h.knows)
    (sent_stands rs ms s a b c h))

knows_settled : (l : Local) (o : Option (Answer × List ℕ)) → l.known 1 ≡ 0 → (after_answer l o).known 1 ≡ 0
knows_settled l None h = h
knows_settled l (Some (a, ks)) h = h

-- what rank 0 settles leaves rank 1's part
settled_by_0 : (P : Local → Type 0) (s : State) → Stands s P → Stands (settle s rank_0) P
settled_by_0 P s h =
    record { now = h.now; knows = knows_settled (s.at rank_0) (ready_answer (s.at rank_0)) h.knows; part = h.part }

pub after_send : (rs : List Request) (ms : List Message) (a b c : ℕ) → IsKept (Holds None rs (ms ++ three a b c ∷ [])) →
    (s : State) (steps : List Step) →
    Stands s (Holds None rs ms) → AreSteps (start s rank_0 (Some (send_of a b c))) rank_0 steps →
    Stands (after_event s (At rank_0 (Some (send_of a b c)) steps)) (Holds None rs (ms ++ three a b c ∷ []))
after_send rs ms a b c k s steps h are =
    settled_by_0 (Holds None rs (ms ++ three a b c ∷ []))
    (steps_at (start s rank_0 (Some (send_of a b c))) rank_0 steps)
    (steps_stand (Holds None rs (ms ++ three a b c ∷ [])) k (start s rank_0 (Some (send_of a b c))) rank_0 steps
    (start_stands rs ms s a b c h) are)

-- A RECEIVE OF RANK 1

not_ready : (l : Local) → l.blocked ≡ None → ready_answer l ≡ None
not_ready l h = rw h refl

posted : (rs : List Request) (ms : List Message) (l : Local) → Holds None rs ms l →
    Holds None (rs ++ Posted three_from_0 ∷ []) ms (with_request l (Posted three_from_0))
posted rs ms l h =
    record {
      requests = ap (λ (qs : List Request). qs ++ Posted three_from_0 ∷ []) h.requests;
      blocked =
          h.blocked;
      here = h.here;
      elsewhere = h.elsewhere;
    }

pub after_post : (rs : List Request) (ms : List Message) (P : Local → Type 0) → IsKept P →
    ((l : Local) → Holds None (rs ++ Posted three_from_0 ∷ []) ms l → P l) → ((l : Local) → P l → l.blocked ≡ None) →
    (s : State) (steps : List Step) →
    Stands s (Holds None rs ms) → AreSteps (start s rank_1 (Some (Irecv three_from_0))) rank_1 steps →
    Stands (after_event s (At rank_1 (Some (Irecv three_from_0)) steps)) P
after_post rs ms P k so free s steps h are =
    settle_stands P after rank_1 stands (not_ready (after.at rank_1) (free (after.at rank_1) stands.part))
  where
    after : State
    after = steps_at (start s rank_1 (Some (Irecv three_from_0))) rank_1 steps

    begun : Stands (start s rank_1 (Some (Irecv three_from_0))) P
    begun = record {
      now = h.now;
      knows = h.knows;
      part =
          so (with_request (s.at rank_1) (Posted three_from_0)) (posted rs ms (s.at rank_1) h.part);
    }

    stands : Stands after P
    stands = steps_stand P k (start s rank_1 (Some (Irecv three_from_0))) rank_1 steps begun are

-- A WAIT OF RANK 1

in_wait : (k : ℕ) (P Q : Local → Type 0) → IsKept Q →
    ((l : Local) → P l → Q (record l { blocked = Some (Waits (One (Some k))) })) → (s : State) (steps : List Step) →
    Stands s P → AreSteps (start s rank_1 (Some (wait_for k))) rank_1 steps →
    Stands (steps_at (start s rank_1 (Some (wait_for k))) rank_1 steps) Q
in_wait k P Q keeps so s steps h are =
    steps_stand Q keeps (start s rank_1 (Some (wait_for k))) rank_1 steps
    (record { now = h.now; knows = h.knows; part = so (s.at rank_1) h.part }) are

ready_is : (k : ℕ) (rs : List Request) (ms : List Message) (l : Local) → Holds (Some (Waits (One (Some k)))) rs ms l →
    ready_answer l ≡ option_map (λ o. (ForOne o, k ∷ [])) (outcome_at rs k)
ready_is k rs ms l h = rw (h.blocked, h.requests) refl

-- a wait that is answered has a finished request
answered : (k : ℕ) (rs : List Request) (ms : List Message) (l : Local) (o : Outcome) →
    Holds (Some (Waits (One (Some k)))) rs ms l →
    told rank_1 (Some (wait_for k, None)) (ready_answer l) ≡ waits k o ∷ [] → outcome_at rs k ≡ Some o
answered k rs ms l o h t =
    go (outcome_at rs k) refl
    (subst (λ (x : Option (Answer × List ℕ)). told rank_1 (Some (wait_for k, None)) x ≡ waits k o ∷ [])
    (ready_is k rs ms l h) t)
  where
    go : (x : Option Outcome) → outcome_at rs k ≡ x →
        told rank_1 (Some (wait_for k, None)) (option_map (λ y. (ForOne y, k ∷ [])) x) ≡ waits k o ∷ [] →
        outcome_at rs k ≡ Some o
    go None is q =
        let e : Called rank_1 (wait_for k) Blocked ∷ [] ≡ Called rank_1 (wait_for k) (Done (ForOne o)) ∷ [] = q in
        absurd (cc)
    go (Some y) is q =
        let e : Called rank_1 (wait_for k) (Done (ForOne y)) ∷ [] ≡ Called rank_1 (wait_for k) (Done (ForOne o)) ∷ [] = q in
        let f : y ≡ o = cc in
        is ∙ ap Some f

-- the same of a receive whose message is the first one
received : (m : Message) (rest : List Message) (l : Local) (o : Outcome) →
    Receiving three_from_0 m rest (Some (Waits (One (Some 0)))) l →
    told rank_1 (Some (wait_for 0, None)) (ready_answer l) ≡ waits 0 o ∷ [] →
    Holds (Some (Waits (One (Some 0)))) (Finished (outcome three_from_0 m) ∷ []) rest l × (outcome three_from_0 m ≡ o)
received m rest l o (IsPosted h) t = let e : None ≡ Some o = answered 0 _ (m ∷ rest) l o h t in absurd (cc)
received m rest l o (HasIt h) t = let e : None ≡ Some o = answered 0 _ rest l o h t in absurd (cc)
received m rest l o (HasEnded h) t =
    let e : Some (outcome three_from_0 m) ≡ Some o = answered 0 _ rest l o h t in (h, cc)

waiting : (m : Message) (rest : List Message) (l : Local) → Receiving three_from_0 m rest None l →
    Receiving three_from_0 m rest (Some (Waits (One (Some 0)))) (record l { blocked = Some (Waits (One (Some 0))) })
waiting m rest l (IsPosted h) =
    IsPosted (record { requests = h.requests; blocked = refl; here = h.here; elsewhere = h.elsewhere })
waiting m rest l (HasIt h) =
    HasIt (record { requests = h.requests; blocked = refl; here = h.here; elsewhere = h.elsewhere })
waiting m rest l (HasEnded h) =
    HasEnded (record { requests = h.requests; blocked = refl; here = h.here; elsewhere = h.elsewhere })

pub free : (m : Message) (rest : List Message) (l : Local) → Receiving three_from_0 m rest None l → l.blocked ≡ None
free m rest l (IsPosted h) = h.blocked
free m rest l (HasIt h) = h.blocked
free m rest l (HasEnded h) = h.blocked

-- WHAT CAN'T COME

-- the elements of what was received
abbrev values_in : Outcome → List ℕ
values_in (Received s b) = b.values
values_in _ = []

abbrev first : List ℕ → ℕ
first [] = 0
first (x ∷ xs) = x

abbrev third : List ℕ → ℕ
third (x ∷ y ∷ z ∷ zs) = z
third _ = 0

-- rank 1 receives what rank 0 sent first, and is told something else
never_told : (n a b c : ℕ) (rest : List Message) (o : Outcome) → (outcome three_from_0 (three a b c) ≡ o → ⊥) →
    Next n (Receiving three_from_0 (three a b c) rest None) [] (Done (ForOne o)) rank_1 (wait_for 0)
never_told n a b c rest o differs s steps vs h are tells run q =
    let w = in_wait 0 (Receiving three_from_0 (three a b c) rest None) (Receiving three_from_0 (three a b c) rest (Some (Waits (One (Some 0)))))
    (receiving_kept three_from_0 (three a b c) rest (Some (Waits (One (Some 0)))) refl refl refl tt)
    (waiting (three a b c) rest) s steps h are in
    differs (received (three a b c) rest _ o w.part tells).1

-- rank 1 posts its receive, and waits
then_receives : (n a b c : ℕ) (rest : List Message) (o : Outcome) → (outcome three_from_0 (three a b c) ≡ o → ⊥) →
    Next n (Holds None [] (three a b c ∷ rest)) (waits 0 o ∷ []) (Started 0) rank_1 (Irecv three_from_0)
then_receives n a b c rest o differs s steps vs h are tells run q =
    follow n (Receiving three_from_0 (three a b c) rest None)
    (receiving_kept three_from_0 (three a b c) rest None refl refl refl tt) []
    (Done (ForOne o)) rank_1 (wait_for 0) (never_told n a b c rest o differs) vs
    (after_event s (At rank_1 (Some (Irecv three_from_0)) steps))
    (after_post [] (three a b c ∷ rest) (Receiving three_from_0 (three a b c) rest None)
    (receiving_kept three_from_0 (three a b c) rest None refl refl refl tt) (λ l k. IsPosted k)
    (free (three a b c) rest) s steps h are) run q

-- DATA THAT NOBODY SENT, AND A BUFFER OF ANOTHER TYPE

other_sent : (o : Outcome) → (outcome three_from_0 (three 1 2 3) ≡ o → ⊥) → (n : ℕ) →
    Next n (Holds None [] []) (receives 0 ∷ waits 0 o ∷ []) (Started 0) rank_0 (send_of 1 2 3)
unfolding copies_at
other_sent o differs n s steps vs h are tells run q =
    follow n (Holds None [] (three 1 2 3 ∷ [])) (kept None tt [] (three 1 2 3 ∷ []) tt) (waits 0 o ∷ [])
    (Started 0) rank_1 (Irecv three_from_0)
    (then_receives n 1 2 3 [] o differs) vs (after_event s (At rank_0 (Some (send_of 1 2 3)) steps))
    (after_send [] [] 1 2 3 (kept None tt [] (three 1 2 3 ∷ []) tt) s steps h are) run q

-- one message comes, and its receive ends as it doesn't end with it
other_end : (o : Outcome) → (outcome three_from_0 (three 1 2 3) ≡ o → ⊥) → IsNoHistory (one_message o)
other_end o differs n limit h =
    follow n (Holds None [] []) (kept None tt [] [] tt) (receives 0 ∷ waits 0 o ∷ []) (Started 0) rank_0 (send_of 1 2 3)
    (other_sent o differs n) h.0 (opening limit) (opens limit)
    h.1 h.2

pub none_is_invented : IsNoHistory other_data
unfolding copies_at
none_is_invented =
    other_end (arrives (1 ∷ 2 ∷ 4 ∷ []))
    (λ e. let f : 3 ≡ 4 = ap (λ (o : Outcome). third (values_in o)) e in absurd (omega arith))

-- the code of the basic type of what was received
abbrev type_in : Outcome → ℕ
type_in (Received s b) = code_of b.basic
type_in _ = 0

pub none_is_retyped : IsNoHistory other_type
unfolding copies_at
none_is_retyped =
    other_end (arrives_in (record { basic = Uint32; values = 1 ∷ 2 ∷ 3 ∷ [] }))
    (λ e. let f : 3 ≡ 7 = ap type_in e in absurd (omega arith))

-- A MESSAGE THAT OVERTAKES ANOTHER

abbrev after_overtaking : List Entry
after_overtaking = receives 0 ∷ waits 0 (arrives (4 ∷ 5 ∷ 6 ∷ [])) ∷ []

second_sent : (n : ℕ) → Next n (Holds None [] (three 1 2 3 ∷ [])) after_overtaking (Started 1) rank_0 (send_of 4 5 6)
unfolding copies_at
second_sent n s steps vs h are tells run q =
    follow n (Holds None [] (three 1 2 3 ∷ three 4 5 6 ∷ [])) (kept None tt [] (three 1 2 3 ∷ three 4 5 6 ∷ []) tt)
    (waits 0 (arrives (4 ∷ 5 ∷ 6 ∷ [])) ∷ []) (Started 0) rank_1 (Irecv three_from_0)
    (then_receives n 1 2 3 (three 4 5 6 ∷ []) (arrives (4 ∷ 5 ∷ 6 ∷ []))
    (λ e. let f : 1 ≡ 4 = ap (λ (o : Outcome). first (values_in o)) e in absurd (omega arith))) vs
    (after_event s (At rank_0 (Some (send_of 4 5 6)) steps))
    (after_send [] (three 1 2 3 ∷ []) 4 5 6 (kept None tt [] (three 1 2 3 ∷ three 4 5 6 ∷ []) tt) s steps h are) run q

first_sent : (n : ℕ) →
    Next n (Holds None [] []) (sends 1 (4 ∷ 5 ∷ 6 ∷ []) ∷ after_overtaking) (Started 0) rank_0 (send_of 1 2 3)
first_sent n s steps vs h are tells run q =
    follow n (Holds None [] (three 1 2 3 ∷ [])) (kept None tt [] (three 1 2 3 ∷ []) tt) after_overtaking
    (Started 1) rank_0 (send_of 4 5 6)
    (second_sent n) vs (after_event s (At rank_0 (Some (send_of 1 2 3)) steps))
    (after_send [] [] 1 2 3 (kept None tt [] (three 1 2 3 ∷ []) tt) s steps h are) run q

pub none_is_overtaken : IsNoHistory overtaken
none_is_overtaken n limit h =
    follow n (Holds None [] []) (kept None tt [] [] tt) (sends 1 (4 ∷ 5 ∷ 6 ∷ []) ∷ after_overtaking) (Started 0) rank_0
    (send_of 1 2 3)
    (first_sent n) h.0 (opening limit) (opens limit) h.1 h.2

-- A RECEIVE WHOSE MESSAGE NEVER CAME

-- while its receive waits for a message that isn't there, a wait isn't answered
never_answered : (n k : ℕ) (rs : List Request) (o : Outcome) → AllByRecursion (IsStill []) rs → outcome_at rs k ≡ None →
    Next n (Holds None rs []) [] (Done (ForOne o)) rank_1 (wait_for k)
never_answered n k rs o still none s steps vs h are tells run q =
    let w = in_wait k (Holds None rs []) (Holds (Some (Waits (One (Some k)))) rs []) (kept (Some (Waits (One (Some k)))) tt rs [] still)
    (λ l u. record { requests = u.requests; blocked = refl; here = u.here; elsewhere = u.elsewhere }) s steps h are in
    let e : None ≡ Some o = sym none ∙ answered k rs [] _ o w.part tells in
    absurd (cc)

-- rank 1 posts a receive behind what it had, and waits for it
pub then_waits : (n k : ℕ) (rs : List Request) (serial : ℕ) (o : Outcome) →
    AllByRecursion (IsStill []) (rs ++ Posted three_from_0 ∷ []) →
    outcome_at (rs ++ Posted three_from_0 ∷ []) k ≡ None →
    Next n (Holds None rs []) (waits k o ∷ []) (Started serial) rank_1 (Irecv three_from_0)
then_waits n k rs serial o still none s steps vs h are tells run q =
    follow n (Holds None (rs ++ Posted three_from_0 ∷ []) []) (kept None tt (rs ++ Posted three_from_0 ∷ []) [] still)
    [] (Done (ForOne o)) rank_1 (wait_for k)
    (never_answered n k (rs ++ Posted three_from_0 ∷ []) o still none) vs
    (after_event s (At rank_1 (Some (Irecv three_from_0)) steps))
    (after_post rs [] (Holds None (rs ++ Posted three_from_0 ∷ []) [])
    (kept None tt (rs ++ Posted three_from_0 ∷ []) [] still) (λ l u. u) (λ l u. u.blocked) s steps h are) run q

pub none_is_replaced_by_nobody : IsNoHistory replaced_by_nobody
none_is_replaced_by_nobody n limit h =
    follow n (Holds None [] []) (kept None tt [] [] tt) (waits 0 (Replaced (Some (holds (0 ∷ 0 ∷ 0 ∷ [])))) ∷ [])
    (Started 0) rank_1 (Irecv three_from_0)
    (then_waits n 0 [] 0 (Replaced (Some (holds (0 ∷ 0 ∷ 0 ∷ [])))) (refl, tt) refl) h.0 (opening limit) (opens limit) h.1 h.2

-- A MESSAGE THAT IS RECEIVED TWICE

abbrev again : List Entry
again = receives 1 ∷ waits 1 (arrives (1 ∷ 2 ∷ 3 ∷ [])) ∷ []

-- once the wait was answered the request is gone
used : (o : Outcome) (l : Local) → Holds (Some (Waits (One (Some 0)))) (Finished o ∷ []) [] l →
    Holds None (Gone ∷ []) [] (after_settling l)
used o l h =
    subst (λ (x : Option (Answer × List ℕ)). Holds None (Gone ∷ []) [] (after_answer l x))
    (sym (ready_is 0 (Finished o ∷ []) [] l h))
    (record {
      requests = ap (λ (rs : List Request). changed used_up rs 0) h.requests;
      blocked = refl;
      here =
          h.here;
      elsewhere = h.elsewhere;
    })

once_received : (n : ℕ) →
    Next n (Receiving three_from_0 (three 1 2 3) [] None) again (Done (ForOne (arrives (1 ∷ 2 ∷ 3 ∷ [])))) rank_1
    (wait_for 0)
once_received n s steps vs h are tells run q =
    follow n (Holds None (Gone ∷ []) []) (kept None tt (Gone ∷ []) [] (tt, tt)) (waits 1 (arrives (1 ∷ 2 ∷ 3 ∷ [])) ∷
    []) (Started 1) rank_1
    (Irecv three_from_0) (then_waits n 1 (Gone ∷ []) 1 (arrives (1 ∷ 2 ∷ 3 ∷ [])) (tt, (refl, tt)) refl) vs
    (settle after rank_1)
    (record { now = w.now; knows = w.knows; part = used (outcome three_from_0 (three 1 2 3)) (after.at rank_1) got.0 })
    run q
  where
    after : State
    after = steps_at (start s rank_1 (Some (wait_for 0))) rank_1 steps

    w : Stands after (Receiving three_from_0 (three 1 2 3) [] (Some (Waits (One (Some 0)))))
    w =
        in_wait 0 (Receiving three_from_0 (three 1 2 3) [] None)
        (Receiving three_from_0 (three 1 2 3) [] (Some (Waits (One (Some 0)))))
        (receiving_kept three_from_0 (three 1 2 3) [] (Some (Waits (One (Some 0)))) refl refl refl tt)
        (waiting (three 1 2 3) []) s steps h are

    got : Holds (Some (Waits (One (Some 0)))) (Finished (outcome three_from_0 (three 1 2 3)) ∷ []) [] (after.at rank_1)
        × (outcome three_from_0 (three 1 2 3) ≡ arrives (1 ∷ 2 ∷ 3 ∷ []))
    got = received (three 1 2 3) [] (after.at rank_1) (arrives (1 ∷ 2 ∷ 3 ∷ [])) w.part tells

receives_once : (n : ℕ) →
    Next n (Holds None [] (three 1 2 3 ∷ [])) (waits 0 (arrives (1 ∷ 2 ∷ 3 ∷ [])) ∷ again) (Started 0) rank_1
    (Irecv three_from_0)
receives_once n s steps vs h are tells run q =
    follow n (Receiving three_from_0 (three 1 2 3) [] None)
    (receiving_kept three_from_0 (three 1 2 3) [] None refl refl refl tt) again
    (Done (ForOne (arrives (1 ∷ 2 ∷ 3 ∷ [])))) rank_1 (wait_for 0) (once_received n) vs
    (after_event s (At rank_1 (Some (Irecv three_from_0)) steps))
    (after_post [] (three 1 2 3 ∷ []) (Receiving three_from_0 (three 1 2 3) [] None)
    (receiving_kept three_from_0 (three 1 2 3) [] None refl refl refl tt) (λ l k. IsPosted k) (free (three 1 2 3) []) s
    steps h are) run q

sent_once : (n : ℕ) →
    Next n (Holds None [] []) (receives 0 ∷ waits 0 (arrives (1 ∷ 2 ∷ 3 ∷ [])) ∷ again) (Started 0) rank_0
    (send_of 1 2 3)
sent_once n s steps vs h are tells run q =
    follow n (Holds None [] (three 1 2 3 ∷ [])) (kept None tt [] (three 1 2 3 ∷ []) tt)
    (waits 0 (arrives (1 ∷ 2 ∷ 3 ∷ [])) ∷ again) (Started 0) rank_1
    (Irecv three_from_0) (receives_once n) vs (after_event s (At rank_0 (Some (send_of 1 2 3)) steps))
    (after_send [] [] 1 2 3 (kept None tt [] (three 1 2 3 ∷ []) tt) s steps h are) run q

pub none_is_received_twice : IsNoHistory received_twice
none_is_received_twice n limit h =
    follow n (Holds None [] []) (kept None tt [] [] tt) (receives 0 ∷ waits 0 (arrives (1 ∷ 2 ∷ 3 ∷ [])) ∷ again)
    (Started 0) rank_0 (send_of 1 2 3)
    (sent_once n) h.0 (opening limit) (opens limit) h.1 h.2
