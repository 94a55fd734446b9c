-- A message isn't received on another communicator than it was sent on: a receive on world waits while just self has
-- messages.
use Rattle.std.proofs.Common.{◌≡◌, ◌≢◌, ℕ, zero, suc, ◌≤◌, Bool, true, false, ◌&&◌, List, [], ◌∷◌, ◌++◌, length, map}
use Rattle.std.proofs.Common.{Option, Some, None, if◌then◌else◌, ◌==◌, slice_get, slice_set, option_map, refl, sym, ap}
use Rattle.std.proofs.Common.{subst, ◌∙◌, arith}
use Rattle.std.proofs.lemmas.Bool.{and_parts, eqb-true}
use Rattle.perfect_groups.proofs.WorldEntries.{Has}
use Rattle.layouts.specs.Buffers.{Contents}
use Rattle.perfect_groups.proofs.HistoryRuns.{IsLasting, NextCall, follow, moves_last, of_call}
use Rattle.perfect_groups.proofs.NoHistories.{Before, before_lasts, nothing, one_of, opens}
use Rattle.perfect_groups.specs.Calls.{Answer, Call, Irecv, Isend, OfRequests, Wait, held_at, in_world, queue_call}
use Rattle.perfect_groups.specs.Calls.{queue_reply, receive_on}
use Rattle.perfect_groups.specs.Communicators.{Communicator, self_of, world_of}
use Rattle.perfect_groups.specs.CounterExamples.{IsNoHistory, itself, received_on_world}
use Rattle.perfect_groups.specs.Events.{At, Called, Entry, after_event, ended_with, machine_settle, machine_start}
use Rattle.perfect_groups.specs.Events.{ready_at, ready_by, told_of}
use Rattle.layouts.specs.Buffers.{Contents}
use Rattle.perfect_groups.specs.Examples.{numbers}
use Rattle.perfect_groups.specs.Machine.{AreMoves, Differs, InQueues, Leaves, Machine, May, Move, after_move}
use Rattle.perfect_groups.specs.Machine.{after_moves, machine_opening}
use Rattle.perfect_groups.specs.Membership.{Ending, Membership}
use Rattle.perfect_queues.proofs.EndpointLemmas.{same_cases}
use Rattle.perfect_queues.proofs.WaitingReceive.{IsNoProbe}
use Rattle.perfect_queues.proofs.ListLemmas.{get_last, get_set_other}
use Rattle.perfect_queues.specs.Buffers.{data_of, whole}
use Rattle.perfect_queues.specs.Calls as queues
use Rattle.perfect_queues.specs.Calls.{Blocked, Done, Started, after_answer, after_call, after_settling, message_sent}
use Rattle.perfect_queues.specs.Calls.{message_to, ready_answer, receiver, send}
use Rattle.perfect_queues.specs.Completions as completions
use Rattle.perfect_queues.specs.Completions.{ForOne, Looks, One, Searches, Unanswered, Waits, outcome_at, outcome_of}
use Rattle.perfect_queues.specs.Events.{start}
use Rattle.perfect_queues.specs.Example.{rank_0, rank_1}
use Rattle.perfect_queues.specs.Messages.{Message}
use Rattle.vocabulary.specs.declared.mode.Mode.TheVariants.{Standard}
use Rattle.perfect_queues.specs.Outcomes.{Outcome, Replaced}
use Rattle.perfect_queues.specs.Receives.{Receive, accepts, names}
use Rattle.perfect_queues.specs.Requests.{Finished, Matched, Posted, Request, Sending, learnt_request}
use Rattle.perfect_queues.specs.State.{Local, State, put, with_message, with_queue}
use Rattle.perfect_queues.specs.Steps.{Allowed, Finish, FinishSend, Learn, Match, See, Step, TakeOut, after_step}
use Rattle.vocabulary.specs.Endpoints.{is_former, is_same}
use Rattle.vocabulary.specs.declared.basic_type.BasicType.TheVariants.{Int32}
use Rattle.vocabulary.specs.declared.endpoint.Endpoint.{Endpoint}
use Rattle.vocabulary.specs.declared.envelope.Source.TheVariants.{Rank}

-- THE PART OF RANK 0

-- it is blocked so, no message of world is pending to it, and this is so of its second request
record Lacks (b : Option Unanswered) (Second : Option Request → Type 0) (l : Local) : Type 0 where
  pub blocked : l.blocked ≡ b
  pub none_of_world : (x : Endpoint) → l.queue x 0 ≡ []
  pub second : Second (slice_get l.requests 1)

abbrev AnyRequest : Option Request → Type 0
AnyRequest o = Unit {0}

-- the receive on world
abbrev on_world : Receive
on_world = receive_on (world_of 1) (Rank 0) (Some 7) (whole (numbers (0 ∷ [])))

-- it waits, or has ended with another outcome
data Unmet (o : Option Request) : Type 0 where
  StillWaits : o ≡ Some (Posted on_world) → Unmet o
  HasEnded : (x : Outcome) → (x ≡ itself → ⊥) → o ≡ Some (Finished x) → Unmet o

nothing_stands : (earlier : List Message) (m : Message) (later : List Message) → [] ≡ earlier ++ m ∷ later → ⊥
nothing_stands [] m later q = let h : [] ≡ m ∷ later = q in absurd (cc)
nothing_stands (x ∷ xs) m later q = let h : [] ≡ x ∷ (xs ++ m ∷ later) = q in absurd (cc)

-- What steps make of the second request: none that is taken while no message of world is pending meets it
record IsFirm (Second : Option Request → Type 0) : Type 0 where
  pub matched : (rs : List Request) (k : ℕ) (p : Receive) (m : Message) → Second (slice_get rs 1) →
      slice_get rs k ≡ Some (Posted p) →
      accepts p m ≡ true → m.context ≢ 0 → Second (slice_get (slice_set rs k (Matched p m)) 1)
  pub finished : (rs : List Request) (k : ℕ) (p : Receive) (m : Message) (x : Outcome) → Second (slice_get rs 1) →
      slice_get rs k ≡ Some (Matched p m) → Second (slice_get (slice_set rs k (Finished x)) 1)
  pub sent : (rs : List Request) (k : ℕ) (d : Endpoint) (x : Outcome) → Second (slice_get rs 1) →
      slice_get rs k ≡ Some (Sending d) →
      Second (slice_get (slice_set rs k (Finished x)) 1)
  pub learnt : (rs : List Request) (r i : ℕ) → Second (slice_get rs 1) →
      Second (slice_get (map (learnt_request r i) rs) 1)

any_firm : IsFirm AnyRequest
any_firm =
    record {
      matched = λ rs k p m h a t c. tt;
      finished = λ rs k p m x h a. tt;
      sent = λ rs k d x h a. tt;
      learnt = λ rs r i h. tt;
    }

-- it is no request that this step changes
unlike : (rs : List Request) (k : ℕ) (y z : Request) → Unmet (slice_get rs 1) → slice_get rs k ≡ Some y →
    (Unmet (Some y) → ⊥) → Unmet (slice_get (slice_set rs k z) 1)
unlike rs k y z h a not_so = subst Unmet (sym (get_set_other rs k 1 z apart)) h
  where
    apart : k ≢ 1
    apart e = not_so (subst Unmet (sym (ap (slice_get rs) e) ∙ a) h)

-- a receive on world accepts no message of another context
other_context : (o : Option Request) (p : Receive) (m : Message) → Unmet o → o ≡ Some (Posted p) → accepts p m ≡ true →
    m.context ≢ 0 → ⊥
other_context o p m (StillWaits is) a t c =
    let k : Some (Posted on_world) ≡ Some (Posted p) = sym is ∙ a in
    let same : p ≡ on_world = cc in
    let zero_is : (0 == m.context) ≡ true = (and_parts (0 == m.context) _ (subst (λ (q : Receive). accepts q m ≡ true) same t)).0 in
    c (sym (eqb-true 0 m.context zero_is))
other_context o p m (HasEnded x ends is) a t c = let k : Some (Finished x) ≡ Some (Posted p) = sym is ∙ a in absurd (cc)

no_match : (p : Receive) (m : Message) → Unmet (Some (Matched p m)) → ⊥
no_match p m (StillWaits is) = absurd (cc)
no_match p m (HasEnded x ends is) = absurd (cc)

no_send : (d : Endpoint) → Unmet (Some (Sending d)) → ⊥
no_send d (StillWaits is) = absurd (cc)
no_send d (HasEnded x ends is) = absurd (cc)

get_mapped : (f : Request → Request) (rs : List Request) (k : ℕ) →
    slice_get (map f rs) k ≡ option_map f (slice_get rs k)
get_mapped f [] k = refl
get_mapped f (r ∷ rs) zero = refl
get_mapped f (r ∷ rs) (suc k) = get_mapped f rs k

replaced_is_none : (buffer : Option Contents) → Replaced buffer ≡ itself → ⊥
replaced_is_none buffer h = absurd (cc)

learnt_unmet : (r i : ℕ) (o : Option Request) → Unmet o → Unmet (option_map (learnt_request r i) o)
learnt_unmet r i o (HasEnded x ends is) = HasEnded x ends (ap (option_map (learnt_request r i)) is)
learnt_unmet r i o (StillWaits is) =
    subst (λ (q : Option Request). Unmet (option_map (learnt_request r i) q)) (sym is) (go (names (Rank 0) r))
  where
    go : (t : Bool) → Unmet (Some (if t then Finished (Replaced (Some (numbers (0 ∷ [])))) else Posted on_world))
    go true = HasEnded (Replaced (Some (numbers (0 ∷ [])))) (replaced_is_none (Some (numbers (0 ∷ [])))) refl
    go false = StillWaits refl

unmet_firm : IsFirm Unmet
unmet_firm =
    record {
      matched = λ rs k p m h a t c.
          subst Unmet
          (sym (get_set_other rs k 1 (Matched p m)
          (λ e. other_context (slice_get rs 1) p m h (sym (ap (slice_get rs) e) ∙ a) t c))) h;
      finished = λ rs k p m x h a. unlike rs k (Matched p m) (Finished x) h a (no_match p m);
      sent = λ rs k d x h a. unlike rs k (Sending d) (Finished x) h a (no_send d);
      learnt = λ rs r i h. subst Unmet (sym (get_mapped (learnt_request r i) rs 1))
          (learnt_unmet r i (slice_get rs 1) h);
    }

-- STEPS

-- a message that stands in a queue isn't of world
not_of_world : (l : Local) (earlier later : List Message) (m : Message) → ((x : Endpoint) → l.queue x 0 ≡ []) →
    l.queue m.sender m.context ≡ earlier ++ m ∷ later → m.context ≢ 0
not_of_world l earlier later m none stands is =
    nothing_stands earlier m later (sym (none m.sender) ∙ (ap (λ (c : ℕ). l.queue m.sender c) (sym is) ∙ stands))

-- a queue of another context is changed
still_none : (queue : Endpoint → ℕ → List Message) (s : Endpoint) (c : ℕ) (ms : List Message) → c ≢ 0 →
    ((x : Endpoint) → queue x 0 ≡ []) →
    (x : Endpoint) → with_queue queue s c ms x 0 ≡ []
still_none queue s c ms apart none x = go (is_same x s) (0 == c) refl
  where
    go : (a b : Bool) → (0 == c) ≡ b → (if a && b then ms else queue x 0) ≡ []
    go false b is = none x
    go true false is = none x
    go true true is = absurd (apart (sym (eqb-true 0 c is)))

step_lacks : (b : Option Unanswered) → IsNoProbe b → (Second : Option Request → Type 0) → IsFirm Second →
    (l : Local) (x : Step) → Lacks b Second l → Allowed l x → Lacks b Second (after_step l x)
step_lacks b idle Second firm l (Match k p earlier m later) h a =
    let apart = not_of_world l earlier later m h.none_of_world a.stands in
    record {
      blocked = h.blocked;
      none_of_world = still_none l.queue m.sender m.context (earlier ++ later) apart h.none_of_world;
      second = firm.matched l.requests k p m h.second a.pending a.accepted apart;
    }
step_lacks b idle Second firm l (Finish k p m) h a =
    record {
      blocked = h.blocked;
      none_of_world = h.none_of_world;
      second =
          firm.finished l.requests k p m _ h.second a;
    }
step_lacks b idle Second firm l (FinishSend k d) h a =
    record { blocked = h.blocked; none_of_world = h.none_of_world; second = firm.sent l.requests k d _ h.second a }
step_lacks b idle Second firm l (Learn r i) h a =
    record { blocked = h.blocked; none_of_world = none; second = firm.learnt l.requests r i h.second }
  where
    none : (x : Endpoint) → (if is_former r i x then [] else l.queue x 0) ≡ []
    none x = go (is_former r i x)
      where
        go : (t : Bool) → (if t then [] else l.queue x 0) ≡ []
        go true = refl
        go false = h.none_of_world x
step_lacks b idle Second firm l (See q earlier m later) h a = absurd (subst IsNoProbe (sym h.blocked ∙ a.0) idle)
step_lacks b idle Second firm l (TakeOut q earlier m later) h a = absurd (subst IsNoProbe (sym h.blocked ∙ a.0) idle)

-- THE MACHINE

-- rank 0 holds world and self, is in no collective, and lacks messages of world
record Stands (n : ℕ) (b : Option Unanswered) (Second : Option Request → Type 0) (s : Machine) : Type 0 where
  pub groups : Before n nothing 0 s
  pub part : Lacks b Second (s.queues.at rank_0)

at_changed : (s : State) (e : Endpoint) (l : Local) (P : Local → Type 0) → P (s.at rank_0) →
    (P (s.at e) → P l) → P ((put s e l).at rank_0)
at_changed s e l P h k =
    same_cases rank_0 e (λ t. P (if t then l else s.at rank_0))
    (λ is same. k (subst (λ (x : Endpoint). P (s.at x)) same h)) (λ off. h)

settled : (l : Local) → ready_answer l ≡ None → after_settling l ≡ l
settled l h = subst (λ (o : Option (completions.Answer × List ℕ)). after_answer l o ≡ l) (sym h) refl

no_answer : (o : Option Ending) (a : Option (completions.Answer × List ℕ)) → ready_by o a ≡ None → a ≡ None
no_answer o None h = refl
no_answer None (Some (a, ks)) h = absurd (cc)
no_answer (Some x) (Some (a, ks)) h = absurd (cc)

settle_part : (b : Option Unanswered) (Second : Option Request → Type 0) (s : State) (e : Endpoint) →
    Lacks b Second (s.at rank_0) → ready_answer (s.at e) ≡ None →
    Lacks b Second ((put s e (after_settling (s.at e))).at rank_0)
settle_part b Second s e h none =
    at_changed s e (after_settling (s.at e)) (Lacks b Second) h
    (λ k. subst (Lacks b Second) (sym (settled (s.at e) none)) k)

move_part : (b : Option Unanswered) → IsNoProbe b → (Second : Option Request → Type 0) → IsFirm Second →
    (s : Machine) (e : Endpoint) (x : Move) → Lacks b Second (s.queues.at rank_0) →
    May s e x → Lacks b Second ((after_move s e x).queues.at rank_0)
move_part b idle Second firm s e (InQueues x) h may =
    at_changed s.queues e (after_step (s.queues.at e) x) (Lacks b Second) h
    (λ k. step_lacks b idle Second firm (s.queues.at e) x k may.0)
move_part b idle Second firm s e (Leaves c k p ps) h may = h
move_part b idle Second firm s e (Differs c k p x y px py) h may = h

stands_lasts : (n : ℕ) (b : Option Unanswered) → IsNoProbe b → (Second : Option Request → Type 0) → IsFirm Second →
    IsLasting (Stands n b Second)
stands_lasts n b idle Second firm =
    record {
      moves = λ s e x h may.
          record {
            groups = (before_lasts n nothing 0).moves s e x h.groups may;
            part = move_part b idle Second firm s e x h.part may;
          };
      settles = λ s e h none.
          record {
            groups = (before_lasts n nothing 0).settles s e h.groups none;
            part = settle_part b Second s.queues e h.part
                (no_answer (ended_with (s.groups.of e).present) (ready_answer (s.queues.at e)) none);
          };
    }

-- where rank 0 is blocked on nothing, and in no collective, it has no answer
unready : (l : Local) (m : Membership) → l.blocked ≡ None → m.present ≡ None →
    ready_by (ended_with m.present) (ready_answer l) ≡ None
unready l m b p = rw (b, p) refl

-- THE SEND

abbrev sends_own : Call
sends_own = Isend Standard (Some 1) (Rank 0) (Some 7) (whole (numbers (1 ∷ [])))

abbrev receives : Call
receives = Irecv (Some 0) (Rank 0) (Some 7) (whole (numbers (0 ∷ [])))

abbrev awaits : Call
awaits = Wait (One (Some 1))

-- the machine once a call of queues was taken
started : (n : ℕ) (s : Machine) → Has n rank_0 0 None (s.groups.of rank_0) →
    (comm : ℕ) (f : Communicator → queues.Call) (c : Communicator) →
    slice_get (world_of n ∷ self_of rank_0 ∷ []) comm ≡ Some c →
    option_map f (held_at (s.groups.of rank_0) (Some comm)) ≡ Some (f c)
started n s h comm f c is = ap (λ (cs : List Communicator). option_map f (slice_get cs comm)) h.held ∙
    ap (option_map f) is

sent_lacks : (s : State) (d : Endpoint) (m : Message) → m.context ≢ 0 → Lacks None AnyRequest (s.at rank_0) →
    Lacks None AnyRequest ((put s d (with_message (s.at d) m)).at rank_0)
sent_lacks s d m apart h =
    at_changed s d (with_message (s.at d) m) (Lacks None AnyRequest) h
    (λ k.
    record {
      blocked = k.blocked;
      none_of_world =
          still_none (s.at d).queue m.sender m.context ((s.at d).queue m.sender m.context ++ m ∷
          []) apart k.none_of_world;
      second = tt;
    })

-- as queues take it
abbrev own_call : queues.Call
own_call = queues.Isend Standard 1 (Rank 0) (Some 7) (whole (numbers (1 ∷ [])))

abbrev nobody_waits : Local → Type 0
nobody_waits = Lacks None AnyRequest

send_taken : (n : ℕ) (s : Machine) → Stands n None AnyRequest s →
    Stands n None AnyRequest (machine_start s rank_0 (Some sends_own))
send_taken n s h =
    record {
      groups = record { entered = h.groups.entered; one = h.groups.one; other = h.groups.other };
      part = subst (λ (o : Option queues.Call). nobody_waits ((start s.queues rank_0 o).at rank_0)) (sym call_is)
          (sent_lacks (put s.queues rank_0 (after_call rank_0 l own_call)) to.0 to.1 (λ e. absurd (omega arith))
          (record { blocked = h.part.blocked; none_of_world = h.part.none_of_world; second = tt }));
    }
  where
    l : Local
    l = s.queues.at rank_0

    to : Endpoint × Message
    to = message_to l.message_limit Standard rank_0 (receiver l.known 0) 1 7 Int32 (data_of (whole (numbers (1 ∷ []))))
        (length l.requests)

    call_is : queue_call (s.groups.of rank_0) sends_own ≡ Some own_call
    call_is =
        started n s h.groups.one 1
        (λ c. queues.Isend Standard c.context (in_world c (Rank 0)) (Some 7) (whole (numbers (1 ∷ []))))
        (self_of rank_0) refl

-- THE RECEIVE

receive_call : (n : ℕ) → 2 ≤ n → (s : Machine) → Has n rank_0 0 None (s.groups.of rank_0) →
    queue_call (s.groups.of rank_0) receives ≡ Some (queues.Irecv on_world)
receive_call zero le s h = absurd (omega arith)
receive_call (suc zero) le s h = absurd (omega arith)
receive_call (suc (suc n)) le s h =
    started (suc (suc n)) s h 0 (λ c. queues.Irecv (receive_on c (Rank 0) (Some 7) (whole (numbers (0 ∷ [])))))
    (world_of (suc (suc n))) refl

-- its serial is told
serial_is : (l : Local) (o : Option queues.Call) (a : Option Answer) → o ≡ Some (queues.Irecv on_world) →
    told_of rank_0 (Some (receives, queue_reply l o)) a ≡ Called rank_0 receives (OfRequests (Started 1)) ∷ [] →
    length l.requests ≡ 1
serial_is l o a is t =
    let k : Called rank_0 receives (OfRequests (Started (length l.requests))) ∷ [] ≡ Called rank_0 receives (OfRequests (Started 1)) ∷ [] =
    subst (λ (q : Option queues.Call). told_of rank_0 (Some (receives, queue_reply l q)) a ≡
    Called rank_0 receives (OfRequests (Started 1)) ∷ []) is t in
    cc

receive_taken : (n : ℕ) → 2 ≤ n → (s : Machine) → Stands n None AnyRequest s → length (s.queues.at rank_0).requests ≡
    1 →
    Stands n None Unmet (machine_start s rank_0 (Some receives))
receive_taken n le s h first =
    record {
      groups = record { entered = h.groups.entered; one = h.groups.one; other = h.groups.other };
      part = subst (λ (o : Option queues.Call). Lacks None Unmet ((start s.queues rank_0 o).at rank_0))
          (sym (receive_call n le s h.groups.one))
          (record {
            blocked = h.part.blocked;
            none_of_world = h.part.none_of_world;
            second = StillWaits
                (subst (λ (j : ℕ). slice_get (l.requests ++ Posted on_world ∷ []) j ≡ Some (Posted on_world)) first
                (get_last l.requests (Posted on_world)));
          });
    }
  where
    l : Local
    l = s.queues.at rank_0

-- THE WAIT

-- it isn't answered what was sent
never_itself : (l : Local) (m : Membership) → l.blocked ≡ Some (Waits (One (Some 1))) → m.present ≡ None →
    Unmet (slice_get l.requests 1) →
    told_of rank_0 (Some (awaits, None)) (ready_by (ended_with m.present) (ready_answer l)) ≡
    Called rank_0 awaits (OfRequests (Done (ForOne itself))) ∷ [] → ⊥
never_itself l m b p unmet t = go unmet (subst tells ready_is t)
  where
    tells : Option Answer → Type 0
    tells o = told_of rank_0 (Some (awaits, None)) o ≡ Called rank_0 awaits (OfRequests (Done (ForOne itself))) ∷ []

    by_request : Option Request → Option Answer
    by_request o = ready_by None (option_map (λ x. (ForOne x, 1 ∷ [])) (outcome_of o))

    ready_is : ready_by (ended_with m.present) (ready_answer l) ≡ by_request (slice_get l.requests 1)
    ready_is = rw (b, p) refl

    go : Unmet (slice_get l.requests 1) → tells (by_request (slice_get l.requests 1)) → ⊥
    go (StillWaits is) u =
        let k : Called rank_0 awaits (OfRequests Blocked) ∷ [] ≡ Called rank_0 awaits (OfRequests (Done (ForOne itself))) ∷ [] =
        subst (λ (o : Option Request). tells (by_request o)) is u in
        absurd (cc)
    go (HasEnded x differs is) u =
        let k : Called rank_0 awaits (OfRequests (Done (ForOne x))) ∷ [] ≡ Called rank_0 awaits (OfRequests (Done (ForOne itself))) ∷ [] =
        subst (λ (o : Option Request). tells (by_request o)) is u in
        differs cc

wait_taken : (n : ℕ) (s : Machine) → Stands n None Unmet s →
    Stands n (Some (Waits (One (Some 1)))) Unmet (machine_start s rank_0 (Some awaits))
wait_taken n s h =
    record {
      groups = record { entered = h.groups.entered; one = h.groups.one; other = h.groups.other };
      part = record { blocked = refl; none_of_world = h.part.none_of_world; second = h.part.second };
    }

-- ONE AFTER THE OTHER

never_crosses : (n : ℕ) → NextCall n (Stands n None Unmet) rank_0 awaits (OfRequests (Done (ForOne itself))) []
never_crosses n s moves vs h i t run q =
    never_itself (after.queues.at rank_0) (after.groups.of rank_0) w.part.blocked w.groups.one.present w.part.second t
  where
    after : Machine
    after = after_moves (machine_start s rank_0 (Some awaits)) rank_0 moves

    w : Stands n (Some (Waits (One (Some 1)))) Unmet after
    w =
        moves_last (Stands n (Some (Waits (One (Some 1)))) Unmet)
        (stands_lasts n (Some (Waits (One (Some 1)))) tt Unmet unmet_firm) (machine_start s rank_0 (Some awaits))
        rank_0 moves
        (wait_taken n s h) i.moves

-- what stands within an event, stands after it
then_settles : (n : ℕ) (Second : Option Request → Type 0) → IsFirm Second → (s : Machine) (moves : List Move) →
    Stands n None Second s → AreMoves s rank_0 moves →
    Stands n None Second (machine_settle (after_moves s rank_0 moves) rank_0)
then_settles n Second firm s moves h are =
    let w = moves_last (Stands n None Second) (stands_lasts n None tt Second firm) s rank_0 moves h are in
    (stands_lasts n None tt Second firm).settles (after_moves s rank_0 moves) rank_0 w
    (unready ((after_moves s rank_0 moves).queues.at rank_0) ((after_moves s rank_0 moves).groups.of rank_0)
    w.part.blocked w.groups.one.present)

abbrev answered_itself : Entry
answered_itself = Called rank_0 awaits (OfRequests (Done (ForOne itself)))

then_waits : (n : ℕ) → 2 ≤ n →
    NextCall n (Stands n None AnyRequest) rank_0 receives (OfRequests (Started 1)) (answered_itself ∷ [])
then_waits n le s moves vs h i t run q =
    follow n (Stands n None Unmet) (stands_lasts n None tt Unmet unmet_firm) answered_itself []
    (of_call n (Stands n None Unmet) rank_0 awaits (OfRequests (Done (ForOne itself))) [] (never_crosses n)) vs
    (after_event s (At rank_0 (Some receives) moves))
    (then_settles n Unmet unmet_firm (machine_start s rank_0 (Some receives)) moves
    (receive_taken n le s h
    (serial_is (s.queues.at rank_0) (queue_call (s.groups.of rank_0) receives)
    (ready_at (after_moves (machine_start s rank_0 (Some receives)) rank_0 moves) rank_0)
    (receive_call n le s h.groups.one) t)) i.moves) run q

abbrev receive_started : Entry
receive_started = Called rank_0 receives (OfRequests (Started 1))

then_receives : (n : ℕ) → 2 ≤ n →
    NextCall n (Stands n None AnyRequest) rank_0 sends_own (OfRequests (Started 0)) (receive_started ∷ answered_itself ∷
    [])
then_receives n le s moves vs h i t run q =
    follow n (Stands n None AnyRequest) (stands_lasts n None tt AnyRequest any_firm) receive_started (answered_itself ∷
    [])
    (of_call n (Stands n None AnyRequest) rank_0 receives (OfRequests (Started 1)) (answered_itself ∷ [])
    (then_waits n le)) vs
    (after_event s (At rank_0 (Some sends_own) moves))
    (then_settles n AnyRequest any_firm (machine_start s rank_0 (Some sends_own)) moves (send_taken n s h) i.moves) run
    q

pub none_crosses : IsNoHistory received_on_world
none_crosses n limit le h =
    follow n (Stands n None AnyRequest) (stands_lasts n None tt AnyRequest any_firm)
    (Called rank_0 sends_own (OfRequests (Started 0))) (receive_started ∷ answered_itself ∷ [])
    (of_call n (Stands n None AnyRequest) rank_0 sends_own (OfRequests (Started 0)) (receive_started ∷ answered_itself ∷
    []) (then_receives n le))
    h.0 (machine_opening n limit)
    (record {
      groups = one_of nothing rank_0 (Has n rank_0 0 None) rank_1 (Has n rank_1 0 None) (machine_opening n limit)
          (opens n limit);
      part = record { blocked = refl; none_of_world = λ x. refl; second = tt };
    }) h.1 h.2
