-- An engine's work meets the contract.
use Rattle.std.proofs.Common.{◌≡◌, ℕ, ◌*◌, Bool, true, false, List, [], ◌∷◌, ◌++◌, map, length, Option, Some, None}
use Rattle.std.proofs.Common.{cond, if◌then◌else◌, ◌==◌, slice_get, slice_set, filter, nat_le, nat_lt, ◌||◌, not}
use Rattle.std.proofs.Common.{option_map, refl, sym, ap, ap₂, ◌∙◌, subst, arith, inl, inr}
use Rattle.std.specs.List.{AllByRecursion}
use Rattle.std.proofs.lemmas.Bool.{and_parts, ltb-true}
use Rattle.std.proofs.lemmas.List.{map-append, map-set, length-map}
use Rattle.vocabulary.specs.BasicTypes.{size_of}
use Rattle.perfect_queues.specs.Buffers.{Handed, data_of}
use Rattle.perfect_queues.specs.Calls.{Call, Cancel, Improbe, Iprobe, Irecv, Isend, Mrecv, Test, Wait, after_answer}
use Rattle.perfect_queues.specs.Calls.{after_call, after_cancel, after_settling, after_test, after_use, message_sent}
use Rattle.perfect_queues.specs.Calls.{receive_request, is_eager, receiver}
use Rattle.perfect_queues.specs.Completions.{Answer, One, Waits, completion}
use Rattle.vocabulary.specs.Endpoints.{is_former, is_same}
use Rattle.perfect_queues.specs.Messages.{Message}
use Rattle.vocabulary.specs.declared.mode.Mode.{Mode}
use Rattle.vocabulary.specs.declared.mode.Mode.TheVariants.{Standard, Synchronous}
use Rattle.perfect_queues.specs.Outcomes.{Outcome, Received, Replaced, Sent}
use Rattle.perfect_queues.specs.Receives.{Receive, names}
use Rattle.perfect_queues.specs.Requests.{Finished, Matched, Posted, Request, Sending, TakenOut, cancelled_request}
use Rattle.perfect_queues.specs.Requests.{learnt_request, used_up}
use Rattle.perfect_queues.specs.State.{Local, with_message, with_request}
use Rattle.perfect_queues.specs.Steps.{Finish, FinishSend, Learn, Match, See, Step, TakeOut, after_step, after_steps}
use Rattle.vocabulary.specs.declared.basic_type.BasicType.{BasicType}
use Rattle.vocabulary.specs.declared.endpoint.Endpoint.{Endpoint}
use Rattle.vocabulary.specs.declared.envelope.Source.{Source}
use Rattle.vocabulary.specs.declared.envelope.Source.TheVariants.{Any, Null, Rank}
use Rattle.perfect_queues.proofs.EndpointLemmas.{same_eq}
use Rattle.proof_pure_network.specs.Contract.{AreBy, Asked, Came, GivenOut, Heard, Input, Work, linked, taken_in}
use Rattle.proof_pure_network.specs.Core.{Core, Effect, NoneFits, effect, is_of, view, with_jobs}
use Rattle.proof_pure_network.specs.Engine.{called, came, core_cancels, core_ready, core_settled, core_settled_by}
use Rattle.proof_pure_network.specs.Engine.{core_tested, core_used, learned, met, own_message, own_waiting, pushed_own}
use Rattle.proof_pure_network.specs.Engine.{pushed_over, sends}
use Rattle.proof_pure_network.specs.Frames.{Cts, Data, Eager, Frame, IsNoMessage, Rts, Values, frame_of}
use Rattle.proof_pure_network.specs.WaitingMessages.{Body, Held, Own, Part, Whole, fill}
use Rattle.proof_pure_network.specs.Jobs.{Closed, Collecting, Job, Offering, Over, Probed, Unmatched, Waiting, closed}
use Rattle.proof_pure_network.specs.Jobs.{collecting, dropped, ended, oldest_posted, over_at, request_of}
use Rattle.proof_pure_network.specs.Matches.{answer, arrived, arrived_at, found, posted, posted_at, receive_for}
use Rattle.proof_pure_network.specs.Matches.{receives, taken_at}
use Rattle.proof_pure_network.specs.Transfers.{answered, collected, data_frames, wanted_data, cut}
use Rattle.proof_pure_network.proofs.Counts.{OwnCore, count_append, is_own, is_part_from, one, taken_is}
use Rattle.proof_pure_network.proofs.EngineSteps.{AreOwn, IsLast, Steps, arrive_steps}
use Rattle.proof_pure_network.proofs.ProbeSteps.{collect_steps, look_steps}
use Rattle.proof_pure_network.proofs.EngineSteps.{none_steps, post_steps, same_local}
use Rattle.proof_pure_network.proofs.ProbeSteps.{search_steps, taken_steps}
use Rattle.proof_pure_network.proofs.HonestJobs.{honest_push}
use Rattle.proof_pure_network.proofs.HonestValues.{HonestCore, HonestJobs, IsHonest}
use Rattle.proof_pure_network.proofs.JobLemmas.{all_changed_map, changed_map, closed_gone, dropped_cancelled}
use Rattle.proof_pure_network.proofs.JobLemmas.{finished_same, ready_core, request_at}
use Rattle.proof_pure_network.proofs.NoneFits.{over_isnt, push_quiet}
use Rattle.vocabulary.specs.MessageLimits.{frame_limit_of}
use Rattle.vocabulary.specs.declared.message_limit.MessageLimit.{MessageLimit}

pub push_view : (V : Values) (core : Core) (j : Job) → view V (with_jobs core (core.jobs ++ j ∷ [])) ≡
    with_request (view V core) (request_of V j)
push_view V core j =
    same_local (view V (with_jobs core (core.jobs ++ j ∷ []))) (with_request (view V core) (request_of V j))
    (map-append (request_of V) core.jobs (j ∷ [])) refl (refl, refl) (λ s c. refl)

-- no message of a request that is to come waits
own_last : (e : Endpoint) (core : Core) (j : Job) (values : List ℕ) → ((f : Held → Bool) → one (taken_is f j) ≡ 0) →
    OwnCore e core → IsLast e (with_jobs core (core.jobs ++ j ∷ [])) (Own (length core.jobs) values)
own_last e core j values none own = (
  omega (
    arith,
    own.fresh (length core.jobs) (omega arith),
    count_append (taken_is (is_own (length core.jobs))) core.jobs (j ∷ []),
    none (is_own (length core.jobs)),
  ),
  omega (
    arith,
    own.apart (length core.jobs),
    count_append (taken_is (is_part_from e (length core.jobs))) core.jobs (j ∷
        []),
    none (is_part_from e (length core.jobs)),
  ),
)

pub isend_steps : (V : Values) (e : Endpoint) (core : Core) (mode : Mode) (c : ℕ) (to : Source) (tag : Option ℕ)
    (from : Handed) → HonestJobs V e core.jobs → OwnCore e core → NoneFits core →
    Steps e (taken_in V e (view V core) (Asked (Isend mode c to tag from)))
    (view V (called e core (Isend mode c to tag from)).core)
isend_steps V e core mode c Any tag from jobs mine quiet =
    none_steps e (with_request (view V core) (Finished Sent)) (view V (pushed_over core)) (push_view V core (Over Sent))
isend_steps V e core mode c Null tag from jobs mine quiet =
    none_steps e (with_request (view V core) (Finished Sent)) (view V (pushed_over core)) (push_view V core (Over Sent))
isend_steps V e core mode c (Rank to) None from jobs mine quiet =
    none_steps e (with_request (view V core) (Finished Sent)) (view V (pushed_over core)) (push_view V core (Over Sent))
isend_steps V e core Standard c (Rank to) (Some tag) from jobs mine quiet =
    go (is_same d e) refl (nat_le (length (data_of from) * size_of from.buffer.basic) (frame_limit_of core.message_limit)) refl
  where
    d : Endpoint
    d = receiver core.known to

    next : Core
    next = pushed_over core

    h : Held
    h = own_message e c tag from.buffer.basic (data_of from)

    own : Steps e (with_message (with_request (view V core) (Finished Sent)) (fill V h)) (view V (arrived next h).core)
    own =
        subst (λ (l : Local). Steps e (with_message l (fill V h)) (view V (arrived next h).core))
        (push_view V core (Over Sent))
        (arrive_steps V e next h refl (honest_push V e core.jobs (Over Sent) tt jobs) tt
        (push_quiet core (Over Sent) (over_isnt Sent) quiet))

    go : (o : Bool) → is_same d e ≡ o →
        (small : Bool) → nat_le (length (data_of from) * size_of from.buffer.basic) (frame_limit_of core.message_limit) ≡ small →
        Steps e (taken_in V e (view V core) (Asked (Isend Standard c (Rank to) (Some tag) from)))
        (view V (called e core (Isend Standard c (Rank to) (Some tag) from)).core)
    go true a true b = rw (a, b) own
    go true a false b = rw (a, b) own
    go false a true b =
        rw (a, b)
        (none_steps e (with_request (view V core) (Finished Sent)) (view V next) (push_view V core (Over Sent)))
    go false a false b =
        rw (a, b)
        (none_steps e (with_request (view V core) (Sending d))
        (view V (with_jobs core (core.jobs ++ Offering d from.buffer.basic (data_of from) ∷ [])))
        (push_view V core (Offering d from.buffer.basic (data_of from))))
isend_steps V e core Synchronous c (Rank to) (Some tag) from jobs mine quiet = go (is_same d e) refl
  where
    d : Endpoint
    d = receiver core.known to

    next : Core
    next = pushed_own core d

    k : ℕ
    k = length core.jobs

    h : Held
    h = own_waiting e c tag from.buffer.basic (data_of from) k

    same : length (view V core).requests ≡ k
    same = length-map core.jobs (request_of V)

    own : d ≡ e →
        Steps e (with_message (with_request (view V core) (Sending d)) (fill V h)) (view V (arrived next h).core)
    own is =
        subst (λ (l : Local). Steps e (with_message l (fill V h)) (view V (arrived next h).core))
        (push_view V core (Unmatched d))
        (arrive_steps V e next h refl (honest_push V e core.jobs (Unmatched d) is jobs)
        (own_last e core (Unmatched d) (data_of from) (λ f. refl) mine)
        (push_quiet core (Unmatched d) (λ p x. absurd (grind arith)) quiet))

    go : (o : Bool) → is_same d e ≡ o →
        Steps e (taken_in V e (view V core) (Asked (Isend Synchronous c (Rank to) (Some tag) from)))
        (view V (called e core (Isend Synchronous c (Rank to) (Some tag) from)).core)
    go true a =
        rw a
        (subst (λ (n : ℕ). Steps e
        (with_message (with_request (view V core) (Sending d))
        (record {
          sender = e;
          context = c;
          tag = tag;
          basic = from.buffer.basic;
          values = data_of from;
          request =
              Some n;
        })) (view V (arrived next h).core)) (sym same)
        (own (same_eq d e a)))
    go false a =
        rw a (none_steps e (with_request (view V core) (Sending d))
        (view V (with_jobs core (core.jobs ++ Offering d from.buffer.basic (data_of from) ∷ [])))
        (push_view V core (Offering d from.buffer.basic (data_of from))))

pub receive_steps : (V : Values) (e : Endpoint) (core : Core) (p : Receive) (src : Source) → HonestCore V e core →
    OwnCore e core → NoneFits core →
    Steps e (with_request (view V core) (receive_request src p)) (view V (receives core p src).core)
receive_steps V e core p Null honest own quiet =
    none_steps e (with_request (view V core) (receive_request Null p)) (view V (receives core p Null).core)
    (push_view V core (Over (Received (record { source = Null; tag = None; count = 0 }) p.into.buffer)))
receive_steps V e core p Any honest own quiet = post_steps V e core p honest.held honest.jobs own quiet
receive_steps V e core p (Rank r) honest own quiet = post_steps V e core p honest.held honest.jobs own quiet

pub used_view : (V : Values) (core : Core) (ks : List ℕ) → view V (core_used core ks) ≡ after_use (view V core) ks
used_view V core ks =
    same_local (view V (core_used core ks)) (after_use (view V core) ks)
    (all_changed_map V used_up closed (closed_gone V) ks core.jobs) refl (refl, refl) (λ s c. refl)

pub test_view : (V : Values) (core : Core) (o : Option (Answer × List ℕ)) → view V (core_tested core o) ≡
    after_test (view V core) o
test_view V core None = refl
test_view V core (Some t) = used_view V core t.1

pub cancel_view : (V : Values) (core : Core) (r : Option ℕ) → view V (core_cancels core r) ≡
    after_cancel (view V core) r
cancel_view V core None = refl
cancel_view V core (Some k) =
    same_local (view V (core_cancels core (Some k))) (after_cancel (view V core) (Some k))
    (changed_map V cancelled_request dropped (dropped_cancelled V) core.jobs k) refl (refl, refl) (λ s c. refl)

pub ask_steps : (V : Values) (e : Endpoint) (core : Core) (c : Call) → HonestCore V e core → OwnCore e core →
    NoneFits core → Steps e (taken_in V e (view V core) (Asked c)) (view V (called e core c).core)
ask_steps V e core (Isend mode c to tag from) honest own quiet =
    isend_steps V e core mode c to tag from honest.jobs own quiet
ask_steps V e core (Irecv p) honest own quiet = receive_steps V e core p p.source honest own quiet
ask_steps V e core (Wait a) honest own quiet =
    none_steps e (after_call e (view V core) (Wait a)) (view V (record core { blocked = Some (Waits a) })) refl
ask_steps V e core (Test r) honest own quiet =
    none_steps e (after_call e (view V core) (Test r))
    (view V (core_tested core (completion (over_at core.jobs) (One r))))
    (test_view V core (completion (over_at core.jobs) (One r)) ∙
    ap (λ (f : ℕ → Option Outcome). after_test (view V core) (completion f (One r)))
    (sym (finished_same V core.jobs)))
ask_steps V e core (Cancel r) honest own quiet =
    none_steps e (after_call e (view V core) (Cancel r)) (view V (core_cancels core r)) (cancel_view V core r)
ask_steps V e core (Iprobe q) honest own quiet = look_steps V e core q q.source honest.held quiet
ask_steps V e core (Improbe q) honest own quiet = search_steps V e core q q.source honest.held quiet
ask_steps V e core (Mrecv None into) honest own quiet = none_steps e (view V core) (view V core) refl
ask_steps V e core (Mrecv (Some k) into) honest own quiet =
    taken_steps V e core k into (slice_get core.jobs k) refl honest.jobs own

-- what goes out
pub own_out : (core : Core) (h : Held) (k : ℕ) (values : List ℕ) →
    (arrived core (record h { body = Own k values })).out ≡ []
own_out core h k values = go (oldest_posted (record h { body = Own k values }) core.jobs)
  where
    go : (o : Option (ℕ × Receive)) → (arrived_at core (record h { body = Own k values }) o).out ≡ []
    go None = refl
    go (Some t) = refl

pub whole_out : (core : Core) (h : Held) (values : List ℕ) → (arrived core (record h { body = Whole values })).out ≡ []
whole_out core h values = go (oldest_posted (record h { body = Whole values }) core.jobs)
  where
    go : (o : Option (ℕ × Receive)) → (arrived_at core (record h { body = Whole values }) o).out ≡ []
    go None = refl
    go (Some t) = refl

pub answer_none : (p : Receive) (h : Held) (b : Body) → AllByRecursion IsNoMessage (answer p h b)
answer_none p h (Whole values) = tt
answer_none p h (Part k n) = (tt, tt)
answer_none p h (Own k values) = tt

pub arrived_out : (core : Core) (h : Held) → AllByRecursion IsNoMessage (arrived core h).out
arrived_out core h = go (oldest_posted h core.jobs)
  where
    go : (o : Option (ℕ × Receive)) → AllByRecursion IsNoMessage (arrived_at core h o).out
    go None = tt
    go (Some t) = answer_none t.1 h h.body

pub posted_out : (core : Core) (p : Receive) → AllByRecursion IsNoMessage (posted core p).out
posted_out core p = go (found p core.held)
  where
    go : (o : Option (List Held × Held × List Held)) → AllByRecursion IsNoMessage (posted_at core p o).out
    go None = tt
    go (Some t) = answer_none p t.1 t.1.body

pub receives_out : (core : Core) (p : Receive) (src : Source) → AllByRecursion IsNoMessage (receives core p src).out
receives_out core p Null = tt
receives_out core p Any = posted_out core p
receives_out core p (Rank r) = posted_out core p

pub data_none : (d : Endpoint) (k : ℕ) (ps : List (ℕ × List ℕ)) → AllByRecursion IsNoMessage (data_frames d k ps)
data_none d k [] = tt
data_none d k (p ∷ ps) = (tt, data_none d k ps)

pub wanted_none : (limit : MessageLimit) (d : Endpoint) (k : ℕ) (basic : BasicType) (values : List ℕ) (w : Bool) →
    AllByRecursion IsNoMessage (wanted_data limit d k basic values w)
wanted_none limit d k basic values true = data_none d k (cut limit basic values)
wanted_none limit d k basic values false = tt

pub answered_out : (core : Core) (s : Endpoint) (k : ℕ) (w : Bool) (o : Option Job) →
    AllByRecursion IsNoMessage (answered core s k w o).out
answered_out core s k w None = tt
answered_out core s k w (Some (Waiting p)) = tt
answered_out core s k w (Some (Collecting p h got)) = tt
answered_out core s k w (Some (Over o)) = tt
answered_out core s k w (Some Closed) = tt
answered_out core s k w (Some (Unmatched d0)) = tt
answered_out core s k w (Some (Probed g0 o0)) = tt
answered_out core s k w (Some (Offering d basic values)) = go (is_same d s)
  where
    go : (t : Bool) →
        AllByRecursion IsNoMessage
        (if t then effect (with_jobs core (slice_set core.jobs k (Over Sent))) (wanted_data core.message_limit d k basic values w) else
        effect core []).out
    go true = wanted_none core.message_limit d k basic values w
    go false = tt

taken_out : (core : Core) (k : ℕ) (into : Handed) (o : Option Job) →
    AllByRecursion IsNoMessage (taken_at core k into o).out
taken_out core k into None = tt
taken_out core k into (Some (Waiting p)) = tt
taken_out core k into (Some (Collecting p h got)) = tt
taken_out core k into (Some (Offering d basic values)) = tt
taken_out core k into (Some (Over o)) = tt
taken_out core k into (Some Closed) = tt
taken_out core k into (Some (Unmatched d)) = tt
taken_out core k into (Some (Probed g None)) = tt
taken_out core k into (Some (Probed g (Some h))) = answer_none (receive_for g h into) h h.body

pub isend_out : (V : Values) (e : Endpoint) (core : Core) (mode : Mode) (c : ℕ) (to : Source) (tag : Option ℕ)
    (from : Handed) →
    (called e core (Isend mode c to tag from)).out ≡ linked e (message_sent e (view V core) (Isend mode c to tag from))
isend_out V e core mode c Any tag from = refl
isend_out V e core mode c Null tag from = refl
isend_out V e core mode c (Rank to) None from = refl
isend_out V e core mode c (Rank to) (Some tag) from =
    go (is_same d e) (is_eager core.message_limit mode e d from.buffer.basic (data_of from))
  where
    d : Endpoint
    d = receiver core.known to

    m : Bool → Message
    m eager = record {
      sender = e;
      context = c;
      tag = tag;
      basic = from.buffer.basic;
      values = (data_of from);
      request =
          if eager then None else Some (length (map (request_of V) core.jobs));
    }

    big : ℕ → List (Endpoint × Frame)
    big k = (d, Rts c tag from.buffer.basic k (length (data_of from))) ∷ []

    go : (own small : Bool) → (sends e core d own c tag from.buffer.basic (data_of from) small).out ≡
        (if own then [] else (d, frame_of (m small)) ∷ [])
    go true true = whole_out (pushed_over core) (own_message e c tag from.buffer.basic (data_of from)) (data_of from)
    go true false =
        own_out (pushed_own core d) (own_waiting e c tag from.buffer.basic (data_of from) (length core.jobs))
        (length core.jobs) (data_of from)
    go false true = refl
    go false false = ap big (sym (length-map core.jobs (request_of V)))

pub call_gives : (V : Values) (e : Endpoint) (core : Core) (c : Call) →
    GivenOut e (view V core) (Asked c) (called e core c).out
call_gives V e core (Isend mode c to tag from) = isend_out V e core mode c to tag from
call_gives V e core (Irecv p) = receives_out core p p.source
call_gives V e core (Wait a) = refl
call_gives V e core (Test r) = refl
call_gives V e core (Cancel r) = refl
call_gives V e core (Iprobe q) = refl
call_gives V e core (Improbe q) = refl
call_gives V e core (Mrecv None into) = tt
call_gives V e core (Mrecv (Some k) into) = taken_out core k into (slice_get core.jobs k)

pub came_gives : (core : Core) (s : Endpoint) (f : Frame) → AllByRecursion IsNoMessage (came core s f).out
came_gives core s (Eager c tag basic values) =
    arrived_out core (record { sender = s; context = c; tag = tag; basic = basic; body = Whole values })
came_gives core s (Rts c tag basic k n) =
    arrived_out core (record { sender = s; context = c; tag = tag; basic = basic; body = Part k n })
came_gives core s (Cts k w) = answered_out core s k w (slice_get core.jobs k)
came_gives core s (Data k o values) = tt

pub own_by : (e : Endpoint) (input : Input) (l : Local) (xs : List Step) → AreOwn e l xs → AreBy e input l xs
own_by e input l [] h = tt
own_by e input l (Match k p earlier m later ∷ xs) h =
    (tt, own_by e input (after_step l (Match k p earlier m later)) xs h.1)
own_by e input l (Finish k p m ∷ xs) h = (tt, own_by e input (after_step l (Finish k p m)) xs h.1)
own_by e input l (FinishSend k d ∷ xs) h = (inr h.0, own_by e input (after_step l (FinishSend k d)) xs h.1)
own_by e input l (Learn r i ∷ xs) h = absurd h.0
own_by e input l (See q earlier m later ∷ xs) h = (tt, own_by e input (after_step l (See q earlier m later)) xs h.1)
own_by e input l (TakeOut q earlier m later ∷ xs) h =
    (tt, own_by e input (after_step l (TakeOut q earlier m later)) xs h.1)

pub work_of : (V : Values) (e : Endpoint) (old : Local) (input : Input) (new : Local) (out : List (Endpoint × Frame)) →
    Steps e (taken_in V e old input) new → GivenOut e old input out → Work V e old input new out
work_of V e old input new out s g =
    record {
      steps = s.steps;
      allowed = s.allowed;
      by = own_by e input (taken_in V e old input) s.steps s.own;
      leaves =
          s.reach;
      gives = g;
    }

pub call_work : (V : Values) (e : Endpoint) (core : Core) (c : Call) → HonestCore V e core → OwnCore e core →
    NoneFits core → Work V e (view V core) (Asked c) (view V (called e core c).core) (called e core c).out
call_work V e core c honest own quiet =
    work_of V e (view V core) (Asked c) (view V (called e core c).core) (called e core c).out
    (ask_steps V e core c honest own quiet) (call_gives V e core c)

pub answer_work : (V : Values) (e : Endpoint) (core : Core) (s : Endpoint) (k : ℕ) (w : Bool) →
    Work V e (view V core) (Came s (Cts k w)) (view V (answered core s k w (slice_get core.jobs k)).core)
    (answered core s k w (slice_get core.jobs k)).out
answer_work V e core s k w = go (slice_get core.jobs k) refl
  where
    still : Work V e (view V core) (Came s (Cts k w)) (view V core) []
    still = record { steps = []; allowed = tt; by = tt; leaves = refl; gives = tt }

    go : (o : Option Job) → slice_get core.jobs k ≡ o →
        Work V e (view V core) (Came s (Cts k w)) (view V (answered core s k w o).core) (answered core s k w o).out
    go None x = still
    go (Some (Waiting p)) x = still
    go (Some (Collecting p h got)) x = still
    go (Some (Over o)) x = still
    go (Some Closed) x = still
    go (Some (Unmatched d0)) x = still
    go (Some (Probed g0 o0)) x = still
    go (Some (Offering d basic values)) x = at (is_same d s) refl
      where
        res : Bool → Effect
        res t = if t then effect (with_jobs core (slice_set core.jobs k (Over Sent))) (wanted_data core.message_limit d k basic values w)
            else effect core []

        at : (t : Bool) → is_same d s ≡ t →
            Work V e (view V core) (Came s (Cts k w))
            (view V (if t then
            effect (with_jobs core (slice_set core.jobs k (Over Sent))) (wanted_data core.message_limit d k basic values w) else
            effect core []).core)
            (if t then effect (with_jobs core (slice_set core.jobs k (Over Sent))) (wanted_data core.message_limit d k basic values w) else
            effect core []).out
        at false y = still
        at true y =
            record {
              steps = FinishSend k s ∷ [];
              allowed = (
                request_at V core.jobs k (Offering d basic values) x ∙
                    ap (λ (z : Endpoint). Some (Sending z)) (same_eq d s y),
                tt,
              );
              by = (inl (w, refl), tt);
              leaves = same_local (view V (with_jobs core (slice_set core.jobs k (Over Sent))))
                  (after_steps (view V core) (FinishSend k s ∷ [])) (map-set (request_of V) core.jobs k (Over Sent))
                  refl (refl, refl) (λ a b. refl);
              gives = wanted_none core.message_limit d k basic values w;
            }

pub came_work : (V : Values) (e : Endpoint) (core : Core) (s : Endpoint) (f : Frame) → IsHonest V s f →
    HonestCore V e core → NoneFits core →
    Work V e (view V core) (Came s f) (view V (came core s f).core) (came core s f).out
came_work V e core s (Eager c tag basic values) honest hc quiet =
    work_of V e (view V core) (Came s (Eager c tag basic values)) (view V (came core s (Eager c tag basic values)).core)
    (came core s (Eager c tag basic values)).out
    (arrive_steps V e core (record { sender = s; context = c; tag = tag; basic = basic; body = Whole values }) refl
    hc.jobs tt quiet) (came_gives core s (Eager c tag basic values))
came_work V e core s (Rts c tag basic k n) honest hc quiet =
    work_of V e (view V core) (Came s (Rts c tag basic k n)) (view V (came core s (Rts c tag basic k n)).core)
    (came core s (Rts c tag basic k n)).out
    (arrive_steps V e core (record { sender = s; context = c; tag = tag; basic = basic; body = Part k n }) honest
    hc.jobs tt quiet) (came_gives core s (Rts c tag basic k n))
came_work V e core s (Cts k w) honest hc quiet = answer_work V e core s k w
came_work V e core s (Data k o values) honest hc quiet =
    work_of V e (view V core) (Came s (Data k o values)) (view V (collected core o values (collecting s k core.jobs)))
    [] (collect_steps V e core s k o values honest hc.jobs) tt

pub filter_former : (r i : ℕ) (s : Endpoint) (c : ℕ) (ms : List Message) →
    filter (is_of s c) (filter (λ m. not (is_former r i m.sender)) ms) ≡
    (if is_former r i s then [] else filter (is_of s c) ms)
filter_former r i s c [] = go (is_former r i s)
  where
    go : (t : Bool) → ◌≡◌ {A = List Message} [] (if t then [] else [])
    go true = refl
    go false = refl
filter_former r i s c (m ∷ ms) = go (is_of s c m) refl (is_former r i m.sender) refl (filter_former r i s c ms)
  where
    key : is_of s c m ≡ true → s ≡ m.sender
    key h = same_eq s m.sender (and_parts (is_same s m.sender) (c == m.context) h).0

    go : (t : Bool) → is_of s c m ≡ t → (u : Bool) → is_former r i m.sender ≡ u →
        filter (is_of s c) (filter (λ m. not (is_former r i m.sender)) ms) ≡
        (if is_former r i s then [] else filter (is_of s c) ms) →
        filter (is_of s c)
        (cond (not (is_former r i m.sender)) (m ∷ filter (λ m. not (is_former r i m.sender)) ms)
        (filter (λ m. not (is_former r i m.sender)) ms)) ≡
        (if is_former r i s then [] else cond (is_of s c m) (m ∷ filter (is_of s c) ms) (filter (is_of s c) ms))
    go t p true q ih = rw q (ih ∙ at t p)
      where
        at : (t : Bool) → is_of s c m ≡ t → (if is_former r i s then [] else filter (is_of s c) ms) ≡
            (if is_former r i s then [] else cond (is_of s c m) (m ∷ filter (is_of s c) ms) (filter (is_of s c) ms))
        at false p = rw p refl
        at true p = let f : is_former r i s ≡ true = ap (is_former r i) (key p) ∙ q in rw f refl
    go true p false q ih =
        let f : is_former r i s ≡ false = ap (is_former r i) (key p) ∙ q in
        let ih' : filter (is_of s c) (filter (λ m. not (is_former r i m.sender)) ms) ≡ filter (is_of s c) ms = ih ∙ rw f refl in
        rw (q, p, f) (ap (λ (xs : List Message). m ∷ xs) ih')
    go false p false q ih = rw (q, p) ih

pub map_held : (V : Values) (r i : ℕ) (hs : List Held) → map (fill V) (filter (λ h. not (is_former r i h.sender)) hs) ≡
    filter (λ m. not (is_former r i m.sender)) (map (fill V) hs)
map_held V r i [] = refl
map_held V r i (h ∷ hs) = go (not (is_former r i h.sender)) (map_held V r i hs)
  where
    go : (t : Bool) → map (fill V) (filter (λ h. not (is_former r i h.sender)) hs) ≡
        filter (λ m. not (is_former r i m.sender)) (map (fill V) hs) →
        map (fill V)
        (cond t (h ∷ filter (λ h. not (is_former r i h.sender)) hs) (filter (λ h. not (is_former r i h.sender)) hs))
        ≡ cond t (fill V h ∷ filter (λ m. not (is_former r i m.sender)) (map (fill V) hs))
        (filter (λ m. not (is_former r i m.sender)) (map (fill V) hs))
    go true ih = ap (λ (ms : List Message). fill V h ∷ ms) ih
    go false ih = ih

pub test_same : (V : Values) (t : Bool) (o : Outcome) (j : Job) (x : Request) → request_of V j ≡ x →
    request_of V (if t then Over o else j) ≡ (if t then Finished o else x)
test_same V true o j x e = refl
test_same V false o j x e = e

pub ended_learnt : (V : Values) (r i : ℕ) (j : Job) → request_of V (ended r i j) ≡ learnt_request r i (request_of V j)
ended_learnt V r i (Waiting p) =
    test_same V (names p.source r) (Replaced (Some p.into.buffer)) (Waiting p) (Posted p) refl
ended_learnt V r i (Collecting p h got) =
    test_same V (names p.source r || is_former r i h.sender) (Replaced (Some p.into.buffer)) (Collecting p h got)
    (Matched p (fill V h)) refl
ended_learnt V r i (Offering d basic values) =
    test_same V (d.rank == r) (Replaced None) (Offering d basic values) (Sending d) refl
ended_learnt V r i (Over o) = refl
ended_learnt V r i Closed = refl
ended_learnt V r i (Unmatched d) = test_same V (d.rank == r) (Replaced None) (Unmatched d) (Sending d) refl
ended_learnt V r i (Probed g None) = refl
ended_learnt V r i (Probed g (Some h)) = go (is_former r i h.sender)
  where
    go : (t : Bool) → TakenOut g (option_map (fill V) (if t then None else Some h)) ≡
        TakenOut g (if t then None else Some (fill V h))
    go true = refl
    go false = refl

pub ended_map : (V : Values) (r i : ℕ) (js : List Job) → map (request_of V) (map (ended r i) js) ≡
    map (learnt_request r i) (map (request_of V) js)
ended_map V r i [] = refl
ended_map V r i (j ∷ js) = ap₂ (λ (x : Request) (xs : List Request). x ∷ xs) (ended_learnt V r i j) (ended_map V r i js)

pub learn_local : (V : Values) (core : Core) (r i : ℕ) →
    view V (learned core r i) ≡ after_step (view V core) (Learn r i)
learn_local V core r i =
    same_local (view V (learned core r i)) (after_step (view V core) (Learn r i)) (ended_map V r i core.jobs) refl
    (refl, refl)
    (λ s c. ap (λ (ms : List Message). filter (is_of s c) ms) (map_held V r i core.held) ∙
    filter_former r i s c (map (fill V) core.held))

pub hear_work : (V : Values) (e : Endpoint) (core : Core) (a : Endpoint) →
    Work V e (view V core) (Heard a) (view V (met core a)) []
hear_work V e core a = go (nat_lt (core.known a.rank) a.incarnation) refl
  where
    go : (t : Bool) → nat_lt (core.known a.rank) a.incarnation ≡ t →
        Work V e (view V core) (Heard a) (view V (if t then learned core a.rank a.incarnation else core)) []
    go false h = record { steps = []; allowed = tt; by = tt; leaves = refl; gives = refl }
    go true h =
        record {
          steps = Learn a.rank a.incarnation ∷ [];
          allowed =
              (ltb-true (core.known a.rank) a.incarnation h, tt);
          by = ((refl, refl), tt);
          leaves =
              learn_local V core a.rank a.incarnation;
          gives = refl;
        }

pub view_settled : (V : Values) (core : Core) → view V (core_settled core) ≡ after_settling (view V core)
view_settled V core =
    go (core_ready core) ∙ ap (λ (o : Option (Answer × List ℕ)). after_answer (view V core) o) (sym (ready_core V core))
  where
    go : (o : Option (Answer × List ℕ)) → view V (core_settled_by core o) ≡ after_answer (view V core) o
    go None = refl
    go (Some t) =
        same_local (view V (core_settled_by core (Some t))) (after_answer (view V core) (Some t))
        (all_changed_map V used_up closed (closed_gone V) t.1 core.jobs) refl (refl, refl) (λ s c. refl)
