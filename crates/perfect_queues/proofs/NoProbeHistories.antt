-- Four histories with probes and synchronous sends that no run has: followed entry by entry, up to the answer that
-- can't come.
use Rattle.std.proofs.Common.{◌≡◌, ◌≢◌, ℕ, zero, suc, ◌==◌, ◌&&◌, Bool, true, false, List, [], ◌∷◌, ◌++◌, Option, Some}
use Rattle.std.proofs.Common.{None, if◌then◌else◌, length, option_and_then, slice_get, refl, sym, ap, ap₂, subst, ◌∙◌}
use Rattle.std.proofs.Common.{arith}
use Rattle.std.specs.List.{AllByRecursion}
use Rattle.layouts.specs.Layouts.{copies_at}
use Rattle.std.proofs.lemmas.Bool.{and_parts, eqb-true}
use Rattle.vocabulary.specs.Endpoints.{is_same}
use Rattle.vocabulary.specs.declared.envelope.Source.TheVariants.{Rank}
use Rattle.vocabulary.specs.declared.envelope.Status.{Status}
use Rattle.vocabulary.specs.declared.endpoint.Endpoint.{Endpoint}
use Rattle.vocabulary.specs.declared.message_limit.MessageLimit.{MessageLimit}
use Rattle.perfect_queues.specs.Calls.{Call, Reply, Blocked, Done, Improbe, Iprobe, Irecv, Isend, Started, Wait}
use Rattle.perfect_queues.specs.Calls.{after_answer, after_settling, immediate_reply, ready_answer}
use Rattle.perfect_queues.specs.Completions.{Answer, ForMatch, ForOne, ForProbe, Looks, One, Searches, Took, Unanswered}
use Rattle.perfect_queues.specs.Completions.{Waits, answer_to, outcome_at}
use Rattle.perfect_queues.specs.CounterExamples.{IsNoHistory, arrives, receives, waits}
use Rattle.perfect_queues.specs.Events.{At, Called, Completed, Entry, Event, Restart, Restarted, after_event, entries}
use Rattle.perfect_queues.specs.Events.{settle, start, told}
use Rattle.perfect_queues.specs.Example.{numbers, rank_0, rank_1, three_from_0}
use Rattle.perfect_queues.specs.Messages.{Message}
use Rattle.vocabulary.specs.declared.mode.Mode.TheVariants.{Synchronous}
use Rattle.perfect_queues.specs.Outcomes.{Outcome, Sent, outcome, status_of}
use Rattle.perfect_queues.specs.ProbeExamples.{finished_alone, finished_when_taken, for_tag, looks_after_posting}
use Rattle.perfect_queues.specs.ProbeExamples.{send_answers, sees_by_tag, takes_out, taken_and_received, three_came}
use Rattle.perfect_queues.specs.Receives.{Probe, Receive, accepts, such_receive}
use Rattle.perfect_queues.specs.Refusals.{world}
use Rattle.perfect_queues.specs.Requests.{Finished, Gone, Matched, Posted, Request, Sending, TakenOut}
use Rattle.perfect_queues.specs.Runs.{IsRun, seen}
use Rattle.perfect_queues.specs.State.{Local, State, opening, put, with_message, with_queue, with_request}
use Rattle.perfect_queues.specs.Steps.{Allowed, AreSteps, Finish, FinishSend, IsMatched, Learn, Match, MayFind}
use Rattle.perfect_queues.specs.Steps.{Possible, See, Step, TakeOut, after_step, step_at, steps_at}
use Rattle.vocabulary.specs.declared.basic_type.BasicType.TheVariants.{Int32}
use Rattle.perfect_queues.proofs.EndpointLemmas.{same_cases, same_eq}
use Rattle.perfect_queues.proofs.HistoryRuns.{
  IsKept,
  LearnsNothing,
  Next,
  Stands,
  follow,
  learns_nothing,
  settle_stands,
}
use Rattle.perfect_queues.proofs.HistoryRuns.{settled, steps_stand, tells_call}
use Rattle.perfect_queues.proofs.NoHistories.{after_post, after_send, free, kept, opens, send_of, then_waits, three}
use Rattle.perfect_queues.proofs.WaitingReceive.{HasEnded, HasIt, Holds, IsNoProbe, IsOfAProbe, IsPosted, Receiving}
use Rattle.perfect_queues.proofs.WaitingReceive.{
  first_matched,
  nothing_stands,
  receiving_kept,
  receiving_kept_by,
  stays,
}

-- WHAT A PROBE FINDS OF ONE MESSAGE

-- in a part where this is the one queue that holds something, a message stands in it
its_queue : (b : Option Unanswered) (rs : List Request) (ms : List Message) (l : Local) (earlier : List Message)
    (x : Message) (later : List Message) →
    Holds b rs ms l → l.queue x.sender x.context ≡ earlier ++ x ∷ later → ms ≡ earlier ++ x ∷ later
its_queue b rs ms l earlier x later h stands = go (is_same x.sender rank_0 && (x.context == 0)) refl
  where
    go : (t : Bool) → (is_same x.sender rank_0 && (x.context == 0)) ≡ t → ms ≡ earlier ++ x ∷ later
    go true e =
        let u = and_parts (is_same x.sender rank_0) (x.context == 0) e in
        sym (ap₂ (λ (y : Endpoint) (c : ℕ). l.queue y c) (same_eq x.sender rank_0 u.0) (eqb-true x.context 0 u.1) ∙
        h.here) ∙ stands
    go false e = absurd (nothing_stands earlier x later (sym (h.elsewhere x.sender x.context e) ∙ stands))

-- A MATCHING PROBE OF RANK 1

-- rank 1 searches, and has taken nothing out so far, or the message
data Searching (q : Probe) (m : Message) (l : Local) : Type 0 where
  Still : Holds (Some (Searches q)) [] (m ∷ []) l → Searching q m l
  HasTaken : Holds (Some (Took (Some 0) (status_of (such_receive q) m))) (TakenOut q.group (Some m) ∷ []) [] l →
      Searching q m l

no_request : (rs : List Request) (l : Local) (k : ℕ) (x : Request) → l.requests ≡ [] → slice_get l.requests k ≡ Some x →
    ⊥
no_request rs l k x is h =
    let e : None ≡ Some x = sym (ap (λ (qs : List Request). slice_get qs k) is) ∙ h in absurd (cc)

other_request : (g : Option (List ℕ)) (o : Option Message) (x : Request) → (TakenOut g o ≡ x → ⊥) →
    (k : ℕ) → slice_get (TakenOut g o ∷ []) k ≡ Some x → ⊥
other_request g o x differs zero h = let e : Some (TakenOut g o) ≡ Some x = h in differs (cc)
other_request g o x differs (suc k) h = let e : None ≡ Some x = h in absurd (cc)

same_search : (q r : Probe) → Some (Searches q) ≡ Some (Searches r) → r ≡ q
same_search q r h = cc

searching_kept : (q : Probe) (m : Message) → m.sender ≡ rank_0 → m.context ≡ 0 → accepts (such_receive q) m ≡ true →
    IsKept (Searching q m)
searching_kept q m from world takes l (Match k p earlier x later) (Still h) a n =
    absurd (no_request [] l k (Posted p) h.requests a.pending)
searching_kept q m from world takes l (Finish k p x) (Still h) a n =
    absurd (no_request [] l k (Matched p x) h.requests a)
searching_kept q m from world takes l (FinishSend k d) (Still h) a n =
    absurd (no_request [] l k (Sending d) h.requests a)
searching_kept q m from world takes l (Learn r i) h a n = absurd n
searching_kept q m from world takes l (See r earlier x later) (Still h) a n =
    let e : Some (Searches q) ≡ Some (Looks r) = sym h.blocked ∙ a.0 in absurd (cc)
searching_kept q m from world takes l (TakeOut r earlier x later) (Still h) a n =
    HasTaken (record { requests = requests; blocked = blocked; here = here; elsewhere = elsewhere })
  where
    same : r ≡ q
    same = same_search q r (sym h.blocked ∙ a.0)

    first : (x ≡ m) × (earlier ++ later ≡ [])
    first =
        first_matched (such_receive q) m x [] earlier later
        (its_queue (Some (Searches q)) [] (m ∷ []) l earlier x later h a.1.stands)
        (subst (λ (p : Probe). AllByRecursion (λ y. accepts (such_receive p) y ≡ false) earlier) same
        a.1.no_earlier_message) takes

    requests : l.requests ++ TakenOut r.group (Some x) ∷ [] ≡ TakenOut q.group (Some m) ∷ []
    requests =
        ap₂ (λ (qs : List Request) (t : Request). qs ++ t ∷ []) h.requests
        (ap₂ (λ (p : Probe) (y : Message). TakenOut p.group (Some y)) same first.0)

    blocked : Some (Took (Some (length l.requests)) (status_of (such_receive r) x)) ≡
        Some (Took (Some 0) (status_of (such_receive q) m))
    blocked =
        ap₂ (λ (n : ℕ) (s : Status). Some (Took (Some n) s)) (ap (λ (qs : List Request). length qs) h.requests)
        (ap₂ (λ (p : Probe) (y : Message). status_of (such_receive p) y) same first.0)

    sender : x.sender ≡ rank_0
    sender = ap (λ (y : Message). y.sender) first.0 ∙ from

    context : x.context ≡ 0
    context = ap (λ (y : Message). y.context) first.0 ∙ world

    here : with_queue l.queue x.sender x.context (earlier ++ later) rank_0 0 ≡ []
    here = ap₂ (λ (y : Endpoint) (c : ℕ). with_queue l.queue y c (earlier ++ later) rank_0 0) sender context ∙ first.1

    elsewhere : (s : Endpoint) (c : ℕ) → (is_same s rank_0 && (c == 0)) ≡ false →
        with_queue l.queue x.sender x.context (earlier ++ later) s c ≡ []
    elsewhere s c e =
        ap₂ (λ (y : Endpoint) (d : ℕ). with_queue l.queue y d (earlier ++ later) s c) sender context
        ∙ (subst (λ (t : Bool). (if t then earlier ++ later else l.queue s c) ≡ l.queue s c) (sym e) refl ∙
        h.elsewhere s c e)
searching_kept q m from world takes l (Match k p earlier x later) (HasTaken h) a n =
    absurd (other_request q.group (Some m) (Posted p) (λ e. absurd (cc)) k
    (subst (λ (qs : List Request). slice_get qs k ≡ Some (Posted p)) h.requests a.pending))
searching_kept q m from world takes l (Finish k p x) (HasTaken h) a n =
    absurd (other_request q.group (Some m) (Matched p x) (λ e. absurd (cc)) k
    (subst (λ (qs : List Request). slice_get qs k ≡ Some (Matched p x)) h.requests a))
searching_kept q m from world takes l (FinishSend k d) (HasTaken h) a n =
    absurd (other_request q.group (Some m) (Sending d) (λ e. absurd (cc)) k
    (subst (λ (qs : List Request). slice_get qs k ≡ Some (Sending d)) h.requests a))
searching_kept q m from world takes l (See r earlier x later) (HasTaken h) a n =
    let e : Some (Took (Some 0) (status_of (such_receive q) m)) ≡ Some (Looks r) = sym h.blocked ∙ a.0 in absurd (cc)
searching_kept q m from world takes l (TakeOut r earlier x later) (HasTaken h) a n =
    let e : Some (Took (Some 0) (status_of (such_receive q) m)) ≡ Some (Searches r) = sym h.blocked ∙ a.0 in absurd (cc)

-- any rank's message with any tag
abbrev any : Probe
any = for_tag None

abbrev search : Call
search = Improbe any

-- once it was told that the message was taken out, rank 1 has it, and nothing is pending
has_taken : (m : Message) (l : Local) → Searching any m l → told rank_1 (Some (search, None)) (ready_answer l) ≡
    takes_out 0 ∷ [] →
    Holds None (TakenOut None (Some m) ∷ []) [] (after_settling l)
has_taken m l (Still h) t =
    let k : Called rank_1 search (Done (ForMatch None)) ∷ [] ≡ takes_out 0 ∷ [] =
    subst (λ (b : Option Unanswered). told rank_1 (Some (search, None))
    (option_and_then (answer_to (outcome_at l.requests)) b) ≡ takes_out 0 ∷ []) h.blocked t in
    absurd (cc)
has_taken m l (HasTaken h) t =
    subst (λ (x : Option (Answer × List ℕ)). Holds None (TakenOut None (Some m) ∷ []) [] (after_answer l x))
    (sym (ap (λ (b : Option Unanswered). option_and_then (answer_to (outcome_at l.requests)) b) h.blocked))
    (record { requests = h.requests; blocked = refl; here = h.here; elsewhere = h.elsewhere })

-- A MESSAGE THAT IS TAKEN OUT AND RECEIVED TOO

got_it : Outcome
got_it = arrives (1 ∷ 2 ∷ 3 ∷ [])

after_search : (n : ℕ) →
    Next n (Holds None [] (three 1 2 3 ∷ [])) (receives 1 ∷ waits 1 (arrives (1 ∷ 2 ∷ 3 ∷ [])) ∷ [])
    (Done (ForMatch (Some (Some 0, three_came)))) rank_1 search
after_search n s steps vs h are tells run q =
    follow n (Holds None (TakenOut None (Some m) ∷ []) []) (kept None tt (TakenOut None (Some m) ∷ []) [] (tt, tt))
    (waits 1 (arrives (1 ∷ 2 ∷ 3 ∷ [])) ∷ []) (Started 1) rank_1
    (Irecv three_from_0)
    (then_waits n 1 (TakenOut None (Some m) ∷ []) 1 (arrives (1 ∷ 2 ∷ 3 ∷ [])) (tt, (refl, tt)) refl) vs
    (settle after rank_1)
    (record { now = w.now; knows = w.knows; part = has_taken m (after.at rank_1) w.part tells }) run q
  where
    m : Message
    m = three 1 2 3

    after : State
    after = steps_at (start s rank_1 (Some search)) rank_1 steps

    w : Stands after (Searching any m)
    w =
        steps_stand (Searching any m) (searching_kept any m refl refl refl) (start s rank_1 (Some search)) rank_1 steps
        (record {
          now = h.now;
          knows = h.knows;
          part =
              Still (record {
                requests = h.part.requests;
                blocked = refl;
                here = h.part.here;
                elsewhere =
                    h.part.elsewhere;
              });
        }) are

taken_sent : (n : ℕ) →
    Next n (Holds None [] []) (takes_out 0 ∷ receives 1 ∷ waits 1 (arrives (1 ∷ 2 ∷ 3 ∷ [])) ∷ []) (Started 0) rank_0
    (send_of 1 2 3)
unfolding copies_at
taken_sent n s steps vs h are tells run q =
    follow n (Holds None [] (three 1 2 3 ∷ [])) (kept None tt [] (three 1 2 3 ∷ []) tt)
    (receives 1 ∷ waits 1 (arrives (1 ∷ 2 ∷ 3 ∷ [])) ∷ [])
    (Done (ForMatch (Some (Some 0, three_came)))) rank_1 search (after_search n) vs
    (after_event s (At rank_0 (Some (send_of 1 2 3)) steps))
    (after_send [] [] 1 2 3 (kept None tt [] (three 1 2 3 ∷ []) tt) s steps h are) run q

pub none_is_taken_and_received : IsNoHistory taken_and_received
none_is_taken_and_received n limit h =
    follow n (Holds None [] []) (kept None tt [] [] tt) (takes_out 0 ∷ receives 1 ∷ waits 1 (arrives (1 ∷ 2 ∷ 3 ∷ [])) ∷
    []) (Started 0) rank_0 (send_of 1 2 3)
    (taken_sent n) h.0 (opening limit) (opens limit) h.1 h.2

-- A PROBE FOR ANOTHER TAG

-- the one message is the one that stands there
only_message : (m : Message) (earlier : List Message) (x : Message) (later : List Message) →
    m ∷ [] ≡ earlier ++ x ∷ later → x ≡ m
only_message m [] x later q = let e : m ∷ [] ≡ x ∷ later = q in cc
only_message m (y ∷ ys) x later q =
    let e : m ∷ [] ≡ y ∷ (ys ++ x ∷ later) = q in let f : [] ≡ ys ++ x ∷ later = cc in absurd
    (nothing_stands ys x later f)

abbrev look_for : Option ℕ → Call
look_for tag = Iprobe (for_tag tag)

same_look : (q r : Probe) → Some (Looks q) ≡ Some (Looks r) → r ≡ q
same_look q r h = cc

-- a probe that doesn't accept the one message sees nothing
looking_kept : (q : Probe) (m : Message) → accepts (such_receive q) m ≡ false →
    IsKept (Holds (Some (Looks q)) [] (m ∷ []))
looking_kept q m passes l (Match k p earlier x later) h a n = absurd (no_request [] l k (Posted p) h.requests a.pending)
looking_kept q m passes l (Finish k p x) h a n = absurd (no_request [] l k (Matched p x) h.requests a)
looking_kept q m passes l (FinishSend k d) h a n = absurd (no_request [] l k (Sending d) h.requests a)
looking_kept q m passes l (Learn r i) h a n = absurd n
looking_kept q m passes l (TakeOut r earlier x later) h a n =
    let e : Some (Looks q) ≡ Some (Searches r) = sym h.blocked ∙ a.0 in absurd (cc)
looking_kept q m passes l (See r earlier x later) h a n =
    let one : x ≡ m = only_message m earlier x later (its_queue (Some (Looks q)) [] (m ∷ []) l earlier x later h a.1.stands) in
    let same : r ≡ q = same_look q r (sym h.blocked ∙ a.0) in
    let f : true ≡ false = sym a.1.accepted ∙ (ap₂ (λ (p : Probe) (y : Message). accepts (such_receive p) y) same one ∙ passes) in
    absurd (grind arith)

-- a probe that has seen nothing tells so
tells_none : (q : Probe) (l : Local) (status : Status) → l.blocked ≡ Some (Looks q) →
    told rank_1 (Some (Iprobe q, None)) (ready_answer l) ≡ Called rank_1 (Iprobe q) (Done (ForProbe (Some status))) ∷
    [] → ⊥
tells_none q l status b t =
    let k : Called rank_1 (Iprobe q) (Done (ForProbe None)) ∷ [] ≡ Called rank_1 (Iprobe q) (Done (ForProbe (Some status))) ∷ [] =
    subst (λ (b : Option Unanswered). told rank_1 (Some (Iprobe q, None))
    (option_and_then (answer_to (outcome_at l.requests)) b) ≡
    Called rank_1 (Iprobe q) (Done (ForProbe (Some status))) ∷ []) b t in
    absurd (cc)

after_look : (n : ℕ) →
    Next n (Holds None [] (three 1 2 3 ∷ [])) [] (Done (ForProbe (Some three_came))) rank_1 (look_for (Some 8))
after_look n s steps vs h are tells run q =
    tells_none (for_tag (Some 8)) (after.at rank_1) three_came w.part.blocked tells
  where
    after : State
    after = steps_at (start s rank_1 (Some (look_for (Some 8)))) rank_1 steps

    w : Stands after (Holds (Some (Looks (for_tag (Some 8)))) [] (three 1 2 3 ∷ []))
    w =
        steps_stand (Holds (Some (Looks (for_tag (Some 8)))) [] (three 1 2 3 ∷ []))
        (looking_kept (for_tag (Some 8)) (three 1 2 3) refl)
        (start s rank_1 (Some (look_for (Some 8)))) rank_1 steps
        (record {
          now = h.now;
          knows = h.knows;
          part =
              record { requests = h.part.requests; blocked = refl; here = h.part.here; elsewhere = h.part.elsewhere };
        })
        are

looked_sent : (n : ℕ) →
    Next n (Holds None [] []) (Called rank_1 (look_for (Some 8)) (Done (ForProbe (Some three_came))) ∷ [])
    (Started 0) rank_0 (send_of 1 2 3)
unfolding copies_at
looked_sent n s steps vs h are tells run q =
    follow n (Holds None [] (three 1 2 3 ∷ [])) (kept None tt [] (three 1 2 3 ∷ []) tt) []
    (Done (ForProbe (Some three_came))) rank_1 (look_for (Some 8)) (after_look n) vs
    (after_event s (At rank_0 (Some (send_of 1 2 3)) steps))
    (after_send [] [] 1 2 3 (kept None tt [] (three 1 2 3 ∷ []) tt) s steps h are) run q

pub none_is_seen_by_another_tag : IsNoHistory (sees_by_tag 8)
none_is_seen_by_another_tag n limit h =
    follow n (Holds None [] []) (kept None tt [] [] tt)
    (Called rank_1 (look_for (Some 8)) (Done (ForProbe (Some three_came))) ∷ []) (Started 0) rank_0 (send_of 1 2 3)
    (looked_sent n) h.0 (opening limit) (opens limit) h.1 h.2

-- A PROBE BEHIND A POSTED RECEIVE

-- nothing is seen that a posted receive is to have
posted_before : (q : Probe) (p : Receive) (m : Message) → m.sender ≡ rank_0 → m.context ≡ 0 → accepts p m ≡ true →
    IsKept (Receiving p m [] (Some (Looks q)))
posted_before q p m from world takes = receiving_kept_by p m [] (Some (Looks q)) from world takes none
  where
    sees : (l : Local) (r : Probe) (earlier : List Message) (x : Message) (later : List Message) →
        Receiving p m [] (Some (Looks q)) l → MayFind l r earlier x later → ⊥
    sees l r earlier x later (IsPosted h) f =
        let one : x ≡ m = only_message m earlier x later (its_queue (Some (Looks q)) (Posted p ∷ []) (m ∷ []) l earlier x later h f.stands) in
        let no : accepts p x ≡ false = f.no_receive 0 p (ap (λ (rs : List Request). slice_get rs 0) h.requests) in
        let e : true ≡ false = sym takes ∙ (ap (λ (y : Message). accepts p y) (sym one) ∙ no) in
        absurd (grind arith)
    sees l r earlier x later (HasIt h) f =
        absurd (nothing_stands earlier x later
        (its_queue (Some (Looks q)) (Matched p m ∷ []) [] l earlier x later h f.stands))
    sees l r earlier x later (HasEnded h) f =
        absurd (nothing_stands earlier x later
        (its_queue (Some (Looks q)) (Finished (outcome p m) ∷ []) [] l earlier x later h f.stands))

    none : (l : Local) (x : Step) → IsOfAProbe x → Receiving p m [] (Some (Looks q)) l → Allowed l x → ⊥
    none l (See r earlier y later) t h a = sees l r earlier y later h a.1
    none l (TakeOut r earlier y later) t h a =
        let e : Some (Looks q) ≡ Some (Searches r) = sym (stays p m [] (Some (Looks q)) l h) ∙ a.0 in absurd (cc)
    none l (Match k r earlier y later) t h a = t
    none l (Finish k r y) t h a = t
    none l (FinishSend k d) t h a = t
    none l (Learn r i) t h a = t

begins_to_look : (q : Probe) (p : Receive) (m : Message) (l : Local) → Receiving p m [] None l →
    Receiving p m [] (Some (Looks q)) (record l { blocked = Some (Looks q) })
begins_to_look q p m l (IsPosted h) =
    IsPosted (record { requests = h.requests; blocked = refl; here = h.here; elsewhere = h.elsewhere })
begins_to_look q p m l (HasIt h) =
    HasIt (record { requests = h.requests; blocked = refl; here = h.here; elsewhere = h.elsewhere })
begins_to_look q p m l (HasEnded h) =
    HasEnded (record { requests = h.requests; blocked = refl; here = h.here; elsewhere = h.elsewhere })

looks_behind : (n : ℕ) →
    Next n (Receiving three_from_0 (three 1 2 3) [] None) [] (Done (ForProbe (Some three_came))) rank_1 (look_for None)
looks_behind n s steps vs h are tells run q =
    tells_none any (after.at rank_1) three_came
    (stays three_from_0 (three 1 2 3) [] (Some (Looks any)) (after.at rank_1) w.part) tells
  where
    after : State
    after = steps_at (start s rank_1 (Some (look_for None))) rank_1 steps

    w : Stands after (Receiving three_from_0 (three 1 2 3) [] (Some (Looks any)))
    w =
        steps_stand (Receiving three_from_0 (three 1 2 3) [] (Some (Looks any)))
        (posted_before any three_from_0 (three 1 2 3) refl refl refl)
        (start s rank_1 (Some (look_for None))) rank_1 steps
        (record {
          now = h.now;
          knows = h.knows;
          part =
              begins_to_look any three_from_0 (three 1 2 3) (s.at rank_1) h.part;
        }) are

posts_first : (n : ℕ) →
    Next n (Holds None [] (three 1 2 3 ∷ [])) (Called rank_1 (look_for None) (Done (ForProbe (Some three_came))) ∷ [])
    (Started 0) rank_1 (Irecv three_from_0)
posts_first n s steps vs h are tells run q =
    follow n (Receiving three_from_0 (three 1 2 3) [] None)
    (receiving_kept three_from_0 (three 1 2 3) [] None refl refl refl tt) []
    (Done (ForProbe (Some three_came))) rank_1 (look_for None) (looks_behind n) vs
    (after_event s (At rank_1 (Some (Irecv three_from_0)) steps))
    (after_post [] (three 1 2 3 ∷ []) (Receiving three_from_0 (three 1 2 3) [] None)
    (receiving_kept three_from_0 (three 1 2 3) [] None refl refl refl tt) (λ l k. IsPosted k) (free (three 1 2 3) []) s
    steps h are) run q

posted_sent : (n : ℕ) →
    Next n (Holds None [] []) (receives 0 ∷ Called rank_1 (look_for None) (Done (ForProbe (Some three_came))) ∷ [])
    (Started 0) rank_0 (send_of 1 2 3)
unfolding copies_at
posted_sent n s steps vs h are tells run q =
    follow n (Holds None [] (three 1 2 3 ∷ [])) (kept None tt [] (three 1 2 3 ∷ []) tt)
    (Called rank_1 (look_for None) (Done (ForProbe (Some three_came))) ∷ [])
    (Started 0) rank_1 (Irecv three_from_0) (posts_first n) vs
    (after_event s (At rank_0 (Some (send_of 1 2 3)) steps))
    (after_send [] [] 1 2 3 (kept None tt [] (three 1 2 3 ∷ []) tt) s steps h are) run q

pub none_is_seen_behind_a_receive : IsNoHistory (looks_after_posting (Some three_came))
none_is_seen_behind_a_receive n limit h =
    follow n (Holds None [] []) (kept None tt [] [] tt)
    (receives 0 ∷ Called rank_1 (look_for None) (Done (ForProbe (Some three_came))) ∷ []) (Started 0) rank_0
    (send_of 1 2 3)
    (posted_sent n) h.0 (opening limit) (opens limit) h.1 h.2

-- A SYNCHRONOUS SEND THAT IS FINISHED THOUGH NOBODY HAS ITS MESSAGE

-- what an endpoint's requests and its call that isn't answered are
abbrev HasRequests : Option Unanswered → List Request → Local → Type 0
HasRequests b rs l = (l.requests ≡ rs) × (l.blocked ≡ b)

-- no step of rank 0 changes this request of it
abbrev IsFixed : State → ℕ → Request → Type 0
IsFixed s k (Posted p) = ⊥
IsFixed s k (Matched p m) = ⊥
IsFixed s k (Sending d) = IsMatched s rank_0 k d → ⊥
IsFixed s k (Finished o) = Unit {0}
IsFixed s k Gone = Unit {0}
IsFixed s k (TakenOut g m) = Unit {0}

-- none of these, while rank 1's part is as P says
abbrev AreFixed : List Request → (Local → Type 0) → Type 0
AreFixed rs P = (s : State) → P (s.at rank_1) → (k : ℕ) (x : Request) → slice_get rs k ≡ Some x → IsFixed s k x

-- and rank 0 has just these requests
record Both (s : State) (b : Option Unanswered) (rs : List Request) (P : Local → Type 0) : Type 0 where
  pub stands : Stands s P
  pub sender : HasRequests b rs (s.at rank_0)

fixed_kept : (b : Option Unanswered) (rs : List Request) (P : Local → Type 0) → IsNoProbe b → AreFixed rs P →
    (s : State) (x : Step) → P (s.at rank_1) →
    HasRequests b rs (s.at rank_0) → Allowed (s.at rank_0) x → Possible s rank_0 x → LearnsNothing x → ⊥
fixed_kept b rs P idle fixed s (Match k p earlier m later) w h a possible n =
    fixed s w k (Posted p) (subst (λ (qs : List Request). slice_get qs k ≡ Some (Posted p)) h.0 a.pending)
fixed_kept b rs P idle fixed s (Finish k p m) w h a possible n =
    fixed s w k (Matched p m) (subst (λ (qs : List Request). slice_get qs k ≡ Some (Matched p m)) h.0 a)
fixed_kept b rs P idle fixed s (FinishSend k d) w h a possible n =
    fixed s w k (Sending d) (subst (λ (qs : List Request). slice_get qs k ≡ Some (Sending d)) h.0 a) possible
fixed_kept b rs P idle fixed s (Learn r i) w h a possible n = n
fixed_kept b rs P idle fixed s (See q earlier m later) w h a possible n = subst IsNoProbe (sym h.1 ∙ a.0) idle
fixed_kept b rs P idle fixed s (TakeOut q earlier m later) w h a possible n = subst IsNoProbe (sym h.1 ∙ a.0) idle

steps_both : (b : Option Unanswered) (rs : List Request) (P : Local → Type 0) → IsNoProbe b → AreFixed rs P → IsKept P →
    (s : State) (e : Endpoint) (steps : List Step) →
    Both s b rs P → AreSteps s e steps → Both (steps_at s e steps) b rs P
steps_both b rs P idle fixed keeps s e [] h a = h
steps_both b rs P idle fixed keeps s e (x ∷ xs) h a =
    steps_both b rs P idle fixed keeps (step_at s e x) e xs
    (record {
      stands = steps_stand P keeps s e (x ∷ []) h.stands (a.0, a.1, tt);
      sender = same_cases rank_0 e (λ t. HasRequests b rs (if t then after_step (s.at e) x else s.at rank_0)) here
          (λ no. h.sender);
    }) a.2
  where
    n : LearnsNothing x
    n = learns_nothing s e x h.stands.now a.0 a.1

    here : is_same rank_0 e ≡ true → rank_0 ≡ e → HasRequests b rs (after_step (s.at e) x)
    here same is =
        absurd (fixed_kept b rs P idle fixed s x h.stands.part h.sender
        (subst (λ (y : Endpoint). Allowed (s.at y) x) (sym is) a.0)
        (subst (λ (y : Endpoint). Possible s y x) (sym is) a.1) n)

settle_both : (b : Option Unanswered) (rs : List Request) (P : Local → Type 0) (s : State) (e : Endpoint) →
    Both s b rs P → ready_answer (s.at e) ≡ None → Both (settle s e) b rs P
settle_both b rs P s e h none =
    record {
      stands = settle_stands P s e h.stands none;
      sender = same_cases rank_0 e (λ t. HasRequests b rs (if t then after_settling (s.at e) else s.at rank_0))
          (λ same is. subst (λ (l : Local). HasRequests b rs l) (sym (settled (s.at e) none))
          (subst (λ (y : Endpoint). HasRequests b rs (s.at y)) is h.sender)) (λ no. h.sender);
    }

-- what comes of an event that tells the next entry of the history
abbrev NextOfBoth : (n : ℕ) (rs : List Request) (P : Local → Type 0) (rest : List Entry) (reply : Reply) → Endpoint →
    Call → Type 0
NextOfBoth n rs P rest reply e c =
    (s : State) (steps : List Step) (vs : List Event) → Both s None rs P → AreSteps (start s e (Some c)) e steps →
    entries s (At e (Some c) steps) ≡ Called e c reply ∷ [] → IsRun n (after_event s (At e (Some c) steps)) vs →
    seen (after_event s (At e (Some c) steps)) vs ≡ rest → ⊥

follow_both : (n : ℕ) (rs : List Request) (P : Local → Type 0) → AreFixed rs P → IsKept P →
    (rest : List Entry) (reply : Reply) (e : Endpoint) (c : Call) →
    NextOfBoth n rs P rest reply e c → (events : List Event) (s : State) → Both s None rs P → IsRun n s events →
    seen s events ≡ Called e c reply ∷ rest → ⊥
follow_both n rs P fixed keeps rest reply e c next [] s h run q = absurd (cc)
follow_both n rs P fixed keeps rest reply e c next (Restart r ∷ vs) s h run q =
    let k : Restarted r ∷ seen (after_event s (Restart r)) vs ≡ Called e c reply ∷ rest = q in absurd (cc)
follow_both n rs P fixed keeps rest reply e c next (At x None steps ∷ vs) s h run q =
    silent (λ w t. follow_both n rs P fixed keeps rest reply e c next vs (settle (steps_at s x steps) x) w run.1 t)
    (ready_answer (after.at x)) refl q
  where
    after : State
    after = steps_at s x steps

    silent : (Both (settle after x) None rs P → seen (settle after x) vs ≡ Called e c reply ∷ rest → ⊥) →
        (o : Option (Answer × List ℕ)) → ready_answer (after.at x) ≡ o → told x None o ++ seen (settle after x) vs ≡
        Called e c reply ∷ rest → ⊥
    silent go_on (Some (a, ks)) is t =
        let k : Completed x a ∷ seen (settle after x) vs ≡ Called e c reply ∷ rest = t in absurd (cc)
    silent go_on None is t =
        go_on (settle_both None rs P after x (steps_both None rs P tt fixed keeps s x steps h run.0.steps) is) t
follow_both n rs P fixed keeps rest reply e c next (At x (Some d) steps ∷ vs) s h run q =
    let t = tells_call x d (immediate_reply (s.at x) d) (ready_answer ((steps_at (start s x (Some d)) x steps).at x)) in
    let k : Called x d t.0 ∷ seen (after_event s (At x (Some d) steps)) vs ≡ Called e c reply ∷ rest =
    subst (λ (es : List Entry). es ++ seen (after_event s (At x (Some d) steps)) vs ≡ Called e c reply ∷ rest) t.1 q in
    let same_endpoint : e ≡ x = cc in
    let same_call : c ≡ d = cc in
    let same_reply : t.0 ≡ reply = cc in
    let later : seen (after_event s (At x (Some d) steps)) vs ≡ rest = cc in
    let here : NextOfBoth n rs P rest reply x d =
    subst (λ (y : Call). NextOfBoth n rs P rest reply x y) same_call
    (subst (λ (y : Endpoint). NextOfBoth n rs P rest reply y c) same_endpoint next) in
    let told_so : entries s (At x (Some d) steps) ≡ Called x d reply ∷ [] =
    subst (λ (r : Reply). entries s (At x (Some d) steps) ≡ Called x d r ∷ []) same_reply t.1 in
    here s steps vs h run.0.steps told_so run.1 later

-- the synchronous send, its request, and its message
abbrev issend : Call
issend = Isend Synchronous world (Rank 1) (Some 7) (numbers (1 ∷ 2 ∷ 3 ∷ []))

abbrev unfinished : List Request
unfinished = Sending rank_1 ∷ []

abbrev awaited : Message
awaited = record { sender = rank_0; context = world; tag = 7; basic = Int32; values = 1 ∷ 2 ∷ 3 ∷ []; request = Some 0 }

-- a request that is the one unfinished send
only_sending : (s : State) (P : Local → Type 0) → (P (s.at rank_1) → IsMatched s rank_0 0 rank_1 → ⊥) →
    P (s.at rank_1) → (k : ℕ) (x : Request) →
    slice_get unfinished k ≡ Some x → IsFixed s k x
only_sending s P waits w zero x h =
    let e : Some (Sending rank_1) ≡ Some x = h in let f : Sending rank_1 ≡ x = cc in subst
    (λ (y : Request). IsFixed s 0 y) f (waits w)
only_sending s P waits w (suc k) x h = let e : None ≡ Some x = h in absurd (cc)

-- while its message is pending, or taken out
pending_fixed : AreFixed unfinished (Holds None [] (awaited ∷ []))
pending_fixed s w k x h =
    only_sending s (Holds None [] (awaited ∷ []))
    (λ u m. (subst (λ (ms : List Message). AllByRecursion (λ y. y.request ≢ Some 0) ms) u.here (m.not_pending 0)).0
    refl) w k x h

taken_fixed : (b : Option Unanswered) → AreFixed unfinished (Holds b (TakenOut None (Some awaited) ∷ []) [])
taken_fixed b s w k x h =
    only_sending s (Holds b (TakenOut None (Some awaited) ∷ []) [])
    (λ u m. m.not_taken_out 0 None awaited (ap (λ (rs : List Request). slice_get rs 0) u.requests) refl refl) w k x h

searched_fixed : AreFixed unfinished (Searching any awaited)
searched_fixed s w k x h = only_sending s (Searching any awaited) waits w k x h
  where
    waits : Searching any awaited (s.at rank_1) → IsMatched s rank_0 0 rank_1 → ⊥
    waits (Still u) m =
        (subst (λ (ms : List Message). AllByRecursion (λ y. y.request ≢ Some 0) ms) u.here (m.not_pending 0)).0 refl
    waits (HasTaken u) m =
        m.not_taken_out 0 None awaited (ap (λ (rs : List Request). slice_get rs 0) u.requests) refl refl

nothing_fixed : AreFixed [] (Holds None [] [])
nothing_fixed s w k x h = let e : None ≡ Some x = h in absurd (cc)

-- rank 0 has sent
begun_at : State → (incarnation : ℕ) → State
begun_at s i =
    put (put s rank_0 (with_request (s.at rank_0) (Sending (record { rank = 1; incarnation = i }))))
    (record { rank = 1; incarnation = i })
    (with_message ((put s rank_0 (with_request (s.at rank_0) (Sending (record { rank = 1; incarnation = i })))).at
    (record { rank = 1; incarnation = i }))
    (record awaited { request = Some (length (s.at rank_0).requests) }))

begins_to_send : (s : State) → Both s None [] (Holds None [] []) →
    Both (start s rank_0 (Some issend)) None unfinished (Holds None [] (awaited ∷ []))
unfolding copies_at begun_at
begins_to_send s h =
    subst (λ (i : ℕ). Both (begun_at s i) None unfinished (Holds None [] (awaited ∷ []))) (sym h.stands.knows)
    (record {
      stands = record {
        now = h.stands.now;
        knows = h.stands.knows;
        part = record {
          requests = h.stands.part.requests;
          blocked = h.stands.part.blocked;
          here =
              ap₂ (λ (ms : List Message) (k : ℕ). ms ++ record awaited { request = Some k } ∷ []) h.stands.part.here
              (ap (λ (rs : List Request). length rs) h.sender.0);
          elsewhere = λ x c e.
              subst (λ (t : Bool). (if t then (s.at rank_1).queue rank_0 0 ++
              record awaited { request = Some (length (s.at rank_0).requests) } ∷ [] else (s.at rank_1).queue x c) ≡
              (s.at rank_1).queue x c) (sym e) refl
              ∙ h.stands.part.elsewhere x c e;
        };
      };
      sender = (ap (λ (rs : List Request). rs ++ Sending rank_1 ∷ []) h.sender.0, h.sender.1);
    })

none_ready : (l : Local) (rs : List Request) → HasRequests None rs l → ready_answer l ≡ None
none_ready l rs h = rw h.1 refl

after_issend : (s : State) (steps : List Step) → Both s None [] (Holds None [] []) →
    AreSteps (start s rank_0 (Some issend)) rank_0 steps →
    Both (after_event s (At rank_0 (Some issend) steps)) None unfinished (Holds None [] (awaited ∷ []))
after_issend s steps h are =
    settle_both None unfinished (Holds None [] (awaited ∷ [])) after rank_0 w
    (none_ready (after.at rank_0) unfinished w.sender)
  where
    after : State
    after = steps_at (start s rank_0 (Some issend)) rank_0 steps

    w : Both after None unfinished (Holds None [] (awaited ∷ []))
    w =
        steps_both None unfinished (Holds None [] (awaited ∷ [])) tt pending_fixed (kept None tt [] (awaited ∷ []) tt)
        (start s rank_0 (Some issend)) rank_0 steps
        (begins_to_send s h) are

-- its wait isn't answered
never_sent : (n : ℕ) (P : Local → Type 0) → AreFixed unfinished P → IsKept P →
    NextOfBoth n unfinished P [] (Done (ForOne Sent)) rank_0 (Wait (One (Some 0)))
never_sent n P fixed keeps s steps vs h are tells run q =
    let w : Both after (Some (Waits (One (Some 0)))) unfinished P =
    steps_both (Some (Waits (One (Some 0)))) unfinished P tt fixed keeps (start s rank_0 (Some (Wait (One (Some 0)))))
    rank_0 steps
    (record {
      stands = record { now = h.stands.now; knows = h.stands.knows; part = h.stands.part };
      sender =
          (h.sender.0, refl);
    }) are in
    let none : ready_answer (after.at rank_0) ≡ None = rw (w.sender.1, w.sender.0) refl in
    let k : Called rank_0 (Wait (One (Some 0))) Blocked ∷ [] ≡ Called rank_0 (Wait (One (Some 0))) (Done (ForOne Sent)) ∷ [] =
    subst (λ (o : Option (Answer × List ℕ)). told rank_0 (Some (Wait (One (Some 0)), None)) o ≡
    Called rank_0 (Wait (One (Some 0))) (Done (ForOne Sent)) ∷ []) none tells in
    absurd (cc)
  where
    after : State
    after = steps_at (start s rank_0 (Some (Wait (One (Some 0))))) rank_0 steps

opens_both : (limit : MessageLimit) → Both (opening limit) None [] (Holds None [] [])
opens_both limit = record { stands = opens limit; sender = (refl, refl) }

alone_sent : (n : ℕ) →
    NextOfBoth n [] (Holds None [] []) (send_answers (Done (ForOne Sent)) ∷ []) (Started 0) rank_0 issend
alone_sent n s steps vs h are tells run q =
    follow_both n unfinished (Holds None [] (awaited ∷ [])) pending_fixed (kept None tt [] (awaited ∷ []) tt) []
    (Done (ForOne Sent)) rank_0 (Wait (One (Some 0)))
    (never_sent n (Holds None [] (awaited ∷ [])) pending_fixed (kept None tt [] (awaited ∷ []) tt)) vs
    (after_event s (At rank_0 (Some issend) steps)) (after_issend s steps h are) run q

pub none_is_finished_alone : IsNoHistory finished_alone
none_is_finished_alone n limit h =
    follow_both n [] (Holds None [] []) nothing_fixed (kept None tt [] [] tt) (send_answers (Done (ForOne Sent)) ∷ [])
    (Started 0) rank_0 issend
    (alone_sent n) h.0 (opening limit) (opens_both limit) h.1 h.2

-- nor is it where rank 1 has only taken the message out
taken_by_1 : (n : ℕ) → NextOfBoth n unfinished (Holds None [] (awaited ∷ [])) (send_answers (Done (ForOne Sent)) ∷ [])
    (Done (ForMatch (Some (Some 0, three_came)))) rank_1 search
taken_by_1 n s steps vs h are tells run q =
    follow_both n unfinished (Holds None (TakenOut None (Some awaited) ∷ []) []) (taken_fixed None)
    (kept None tt (TakenOut None (Some awaited) ∷ []) [] (tt, tt)) []
    (Done (ForOne Sent)) rank_0 (Wait (One (Some 0)))
    (never_sent n (Holds None (TakenOut None (Some awaited) ∷ []) []) (taken_fixed None)
    (kept None tt (TakenOut None (Some awaited) ∷ []) [] (tt, tt))) vs (settle after rank_1)
    (record {
      stands = record {
        now = w.stands.now;
        knows = w.stands.knows;
        part =
            has_taken awaited (after.at rank_1) w.stands.part tells;
      };
      sender = w.sender;
    }) run q
  where
    after : State
    after = steps_at (start s rank_1 (Some search)) rank_1 steps

    w : Both after None unfinished (Searching any awaited)
    w =
        steps_both None unfinished (Searching any awaited) tt searched_fixed (searching_kept any awaited refl refl refl)
        (start s rank_1 (Some search)) rank_1 steps
        (record {
          stands = record {
            now = h.stands.now;
            knows = h.stands.knows;
            part = Still
                (record {
                  requests = h.stands.part.requests;
                  blocked = refl;
                  here = h.stands.part.here;
                  elsewhere =
                      h.stands.part.elsewhere;
                });
          };
          sender = h.sender;
        }) are

taken_issend : (n : ℕ) →
    NextOfBoth n [] (Holds None [] []) (takes_out 0 ∷ send_answers (Done (ForOne Sent)) ∷ []) (Started 0) rank_0 issend
taken_issend n s steps vs h are tells run q =
    follow_both n unfinished (Holds None [] (awaited ∷ [])) pending_fixed (kept None tt [] (awaited ∷ []) tt)
    (send_answers (Done (ForOne Sent)) ∷ [])
    (Done (ForMatch (Some (Some 0, three_came)))) rank_1 search (taken_by_1 n) vs
    (after_event s (At rank_0 (Some issend) steps)) (after_issend s steps h are) run q

pub none_is_finished_when_taken : IsNoHistory finished_when_taken
none_is_finished_when_taken n limit h =
    follow_both n [] (Holds None [] []) nothing_fixed (kept None tt [] [] tt)
    (takes_out 0 ∷ send_answers (Done (ForOne Sent)) ∷ []) (Started 0) rank_0 issend
    (taken_issend n) h.0 (opening limit) (opens_both limit) h.1 h.2
