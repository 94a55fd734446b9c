use Rattle.std.proofs.Common.{◌≡◌, ℕ, suc, ◌≤◌, ◌<◌, ◌≢◌, Bool, true, false, ◌&&◌, List, [], ◌∷◌, ◌++◌, length, Option}
use Rattle.std.proofs.Common.{Some, None, if◌then◌else◌, ◌==◌, slice_get, refl, sym, ap, ap₂, ◌∙◌, subst, arith}
use Rattle.std.proofs.Common.{append_assoc, append-nil, ⊎_elim}
use Rattle.std.specs.List.{AllByRecursion}
use Rattle.vocabulary.specs.declared.envelope.Source.TheVariants.{Any, Null, Rank}
use Rattle.perfect_queues.specs.Buffers.{Handed, data_of}
use Rattle.perfect_queues.specs.Calls.{Call, Cancel, Improbe, Iprobe, Irecv, Isend, Mrecv, Reply, Test, Wait}
use Rattle.perfect_queues.specs.Calls.{after_call, after_settling, message_sent, message_to, ready_answer, receiver}
use Rattle.perfect_queues.specs.Calls.{send}
use Rattle.perfect_queues.specs.Completions.{Answer}
use Rattle.vocabulary.specs.Endpoints.{is_same}
use Rattle.perfect_queues.specs.Events.{At, Entry, Event, IsEvent, Restart, Restarted, after_event, call_and_reply}
use Rattle.perfect_queues.specs.Events.{call_fault, entries, start, told}
use Rattle.perfect_queues.specs.Messages.{Message}
use Rattle.vocabulary.specs.declared.mode.Mode.{Mode}
use Rattle.perfect_queues.specs.Runs.{IsRun, after_run, seen}
use Rattle.perfect_queues.specs.State.{Local, State, opening, put, with_local, with_message, with_number}
use Rattle.perfect_queues.specs.Steps.{AllAllowed, AreSteps, Finish, FinishSend, IsMatched, Learn, Match, Possible, See}
use Rattle.perfect_queues.specs.Steps.{Step, TakeOut, after_step, after_steps, step_at, steps_at, learns}
use Rattle.vocabulary.specs.declared.endpoint.Endpoint.{Endpoint}
use Rattle.perfect_queues.proofs.EndpointLemmas.{same_eq, same_refl}
use Rattle.proof_pure_network.specs.Contract.{AreBy, Asked, Came, GivenOut, Heard, Input, IsBy, IsReceived, Work}
use Rattle.proof_pure_network.specs.Contract.{held_on, kept, linked, taken_in}
use Rattle.perfect_queues.specs.Requests.{Request, TakenOut}
use Rattle.proof_pure_network.specs.Frames.{Cts, Data, Eager, Frame, Rts, Values, frame_of, message}
use Rattle.proof_pure_network.specs.Links.{Link, accept_all, handed_on}
use Rattle.proof_pure_network.proofs.Links.{LinksFit, accept_fit, coming, coming_else, coming_first, coming_still}
use Rattle.proof_pure_network.proofs.Links.{handed_fit, put_more, send_more, silent, silent_fit}
use Rattle.proof_pure_network.proofs.Simulation.{Sim, after_more, allowed_more, at_once_same, came_more, fault_same}
use Rattle.proof_pure_network.proofs.Simulation.{is_stale, ready_same, sent_same, settled_more, sim_rest, started_more}
use Rattle.proof_pure_network.proofs.Simulation.{widened, yet}
use Rattle.vocabulary.specs.declared.message_limit.MessageLimit.{MessageLimit}

-- one relation joins the engines and the links to a state of the machine
pub record Joined (V : Values) (s : State) (locals : Endpoint → Local) (links : Endpoint → Endpoint → Link) (cur : ℕ →
    ℕ) : Type 0 where
  pub each : (x : Endpoint) → Sim (s.at x) (locals x) (coming V (λ y. links y x))
  pub fit : LinksFit V links
  pub now : s.current ≡ cur

-- what one event of the machine must be for an event of the world
pub record Follows (V : Values) (n : ℕ) (s : State) (locals : Endpoint → Local) (links : Endpoint → Endpoint → Link)
    (cur : ℕ → ℕ) (told : List Entry) : Type 0 where
  pub event : Event
  pub allowed : IsEvent n s event
  pub tells : entries s event ≡ told
  pub joined : Joined V (after_event s event) locals links cur

-- and of a part of it: steps after the call
pub record Midway (V : Values) (s : State) (e : Endpoint) (call : Option Call) (locals : Endpoint → Local)
    (links : Endpoint → Endpoint → Link) (cur : ℕ → ℕ) : Type 0 where
  pub steps : List Step
  pub taken : AreSteps (start s e call) e steps
  pub joined : Joined V (steps_at (start s e call) e steps) locals links cur

start_current : (s : State) (e : Endpoint) (c : Option Call) → (start s e c).current ≡ s.current
start_current s e None = refl
start_current s e (Some (Isend mode c Any tag from)) = refl
start_current s e (Some (Isend mode c Null tag from)) = refl
start_current s e (Some (Isend mode c (Rank to) None from)) = refl
start_current s e (Some (Isend mode c (Rank to) (Some tag) from)) = refl
start_current s e (Some (Irecv p)) = refl
start_current s e (Some (Wait a)) = refl
start_current s e (Some (Test r)) = refl
start_current s e (Some (Cancel r)) = refl
start_current s e (Some (Iprobe q)) = refl
start_current s e (Some (Improbe q)) = refl
start_current s e (Some (Mrecv k into)) = refl

-- a word comes from an endpoint that was there
abbrev pub IsFromBelow : (ℕ → ℕ) → Input → Type 0
IsFromBelow cur (Asked c) = Unit {0}
IsFromBelow cur (Heard s) = s.incarnation ≤ cur s.rank
IsFromBelow cur (Came s f) = Unit {0}

-- the receiver's answer to a large send comes only once the message is matched
abbrev pub Answers : State → Endpoint → Input → Type 0
Answers s e input = (a : Endpoint) (k : ℕ) (wanted : Bool) → input ≡ Came a (Cts k wanted) →
    (is_same a e ≡ false) × IsMatched s e k a

answers_after : (s : State) (e : Endpoint) (input : Input) (l : Local) → Answers s e input → Answers (put s e l) e input
answers_after s e input l ans a k w is = (
  p.0,
  record {
    not_pending =
        λ c. subst (λ (b : Bool). AllByRecursion (λ m. m.request ≢ Some k) ((if b then l else s.at a).queue e c))
        (sym p.0) (p.1.not_pending c);
    not_taken_out =
        subst (λ (b : Bool). (j : ℕ) (g : Option (List ℕ)) (m : Message) →
        slice_get (if b then l else s.at a).requests j ≡ Some (TakenOut g (Some m)) → m.sender ≡ e → m.request ≢ Some k)
        (sym p.0) p.1.not_taken_out;
  },
)
  where
    p : (is_same a e ≡ false) × IsMatched s e k a
    p = ans a k w is

-- what is received among what has arrived is received, where nothing more of it is to come
received_more : (s : State) (e : Endpoint) (l : Local) (rest : Endpoint → ℕ → List Message) (k : ℕ) →
    Sim (s.at e) l rest → ((c : ℕ) → rest e c ≡ []) → IsReceived l e k → IsMatched s e k e
received_more s e l rest k sim none r =
    record {
      not_pending =
          λ c. subst (λ (ms : List Message). AllByRecursion (λ m. m.request ≢ Some k) ms)
          (sym (sim.queue e c ∙ (ap (λ (ms : List Message). l.queue e c ++ ms) (nothing c) ∙ append-nil (l.queue e c))))
          (r.not_pending c);
      not_taken_out =
          λ j g m h from. r.not_taken_out j g m (ap (λ (rs : List Request). slice_get rs j) (sym sim.requests) ∙ h)
          from;
    }
  where
    nothing : (c : ℕ) → yet l.known rest e c ≡ []
    nothing c = go (is_stale l.known e)
      where
        go : (t : Bool) → (if t then [] else rest e c) ≡ []
        go true = refl
        go false = none c

possible : (s : State) (e : Endpoint) (l : Local) (rest : Endpoint → ℕ → List Message) (input : Input) (x : Step) →
    Sim (s.at e) l rest → ((c : ℕ) → rest e c ≡ []) → IsFromBelow s.current input → Answers s e input →
    IsBy e input l x →
    Possible s e (widened (yet l.known rest) x)
possible s e l rest input (Match k p earlier m later) sim none le ans h = tt
possible s e l rest input (Finish k p m) sim none le ans h = tt
possible s e l rest input (FinishSend k d) sim none le ans h =
    ⊎_elim (λ a. (ans d k a.0 a.1).1)
    (λ a. subst (λ (x : Endpoint). IsMatched s e k x) (sym a.0) (received_more s e l rest k sim none a.1)) h
possible s e l rest (Asked c) (Learn r i) sim none le ans h = absurd h
possible s e l rest (Heard a) (Learn r i) sim none le ans h = rw (h.0, h.1) le
possible s e l rest (Came a f) (Learn r i) sim none le ans h = absurd h
possible s e l rest input (See q earlier m later) sim none le ans h = tt
possible s e l rest input (TakeOut q earlier m later) sim none le ans h = tt

-- steps among what has arrived are steps of the machine
pub record Moved (s : State) (e : Endpoint) (l : Local) (rest : Endpoint → ℕ → List Message) (taught : List (ℕ × ℕ)) :
    Type 0 where
  pub steps : List Step
  pub taken : AreSteps s e steps
  pub learns_are : learns steps ≡ taught
  pub here : Sim ((steps_at s e steps).at e) l rest
  pub others : (x : Endpoint) → is_same x e ≡ false → (steps_at s e steps).at x ≡ s.at x
  pub now : (steps_at s e steps).current ≡ s.current

-- a widened step teaches the same
taught_more : (rest : Endpoint → ℕ → List Message) (x : Step) (ys xs : List Step) → learns ys ≡ learns xs →
    learns (widened rest x ∷ ys) ≡ learns (x ∷ xs)
taught_more rest (Match k p earlier m later) ys xs h = h
taught_more rest (Finish k p m) ys xs h = h
taught_more rest (FinishSend k d) ys xs h = h
taught_more rest (See q earlier m later) ys xs h = h
taught_more rest (TakeOut q earlier m later) ys xs h = h
taught_more rest (Learn r i) ys xs h = ap (λ (ls : List (ℕ × ℕ)). (r, i) ∷ ls) h

pub move : (s : State) (e : Endpoint) (rest : Endpoint → ℕ → List Message) (l : Local) (input : Input)
    (xs : List Step) → Sim (s.at e) l rest → AllAllowed l xs → IsFromBelow s.current input → ((c : ℕ) → rest e c ≡ []) →
    Answers s e input → AreBy e input l xs → Moved s e (after_steps l xs) rest (learns xs)
move s e rest l input [] sim a le none ans by =
    record { steps = []; taken = tt; learns_are = refl; here = sim; others = λ x h. refl; now = refl }
move s e rest l input (x ∷ xs) sim a le none ans by =
    more (move s1 e rest (after_step l x) input xs sim1 a.1 le none
    (answers_after s e input (after_step (s.at e) y) ans) by.1)
  where
    y : Step
    y = widened (yet l.known rest) x

    s1 : State
    s1 = step_at s e y

    sim1 : Sim (s1.at e) (after_step l x) rest
    sim1 = subst (λ (b : Bool). Sim (if b then after_step (s.at e) y else s.at e) (after_step l x) rest)
        (sym (same_refl e)) (after_more (s.at e) l rest x sim a.0)

    more : Moved s1 e (after_steps (after_step l x) xs) rest (learns xs) →
        Moved s e (after_steps (after_step l x) xs) rest (learns (x ∷ xs))
    more m = record {
      steps = y ∷ m.steps;
      learns_are = taught_more (yet l.known rest) x m.steps xs m.learns_are;
      taken = (allowed_more (s.at e) l rest x sim a.0, possible s e l rest input x sim none le ans by.0, m.taken);
      here = m.here;
      others = λ z h. m.others z h ∙ rw h refl;
      now = m.now;
    }

-- steps after steps
steps_append : (s : State) (e : Endpoint) (xs ys : List Step) → AreSteps s e xs → AreSteps (steps_at s e xs) e ys →
    AreSteps s e (xs ++ ys)
steps_append s e [] ys a b = b
steps_append s e (x ∷ xs) ys a b = (a.0, a.1, steps_append (step_at s e x) e xs ys a.2 b)

taken_append : (s : State) (e : Endpoint) (xs ys : List Step) →
    steps_at s e (xs ++ ys) ≡ steps_at (steps_at s e xs) e ys
taken_append s e [] ys = refl
taken_append s e (x ∷ xs) ys = taken_append (step_at s e x) e xs ys

-- the work on an input, once what it takes in is in its place
pub record Worked (V : Values) (s : State) (e : Endpoint) (locals : Endpoint → Local) (links : Endpoint → Endpoint →
    Link) (cur : ℕ → ℕ) (taught : List (ℕ × ℕ)) : Type 0 where
  pub steps : List Step
  pub taken : AreSteps s e steps
  pub learns_are : learns steps ≡ taught
  pub joined : Joined V (steps_at s e steps) locals links cur

worked : (V : Values) (s : State) (locals : Endpoint → Local) (links : Endpoint → Endpoint → Link) (cur : ℕ →
    ℕ) (e : Endpoint) (input : Input) (new : Local) (out : List (Endpoint × Frame)) →
    s.current ≡ cur → IsFromBelow s.current input → Answers s e input →
    ((x : Endpoint) →
    Sim (s.at x) (with_local locals e (taken_in V e (locals e) input) x) (coming V (λ y. links y x))) →
    LinksFit V links →
    (w : Work V e (locals e) input new out) → Worked V s e (with_local locals e new) links cur (learns w.steps)
worked V s locals links cur e input new out now le ans mid fit w =
    record {
      steps = m.steps;
      taken = m.taken;
      learns_are = m.learns_are;
      joined =
          record { each = each; fit = fit; now = m.now ∙ now };
    }
  where
    rest : Endpoint → ℕ → List Message
    rest = coming V (λ y. links y e)

    here : Sim (s.at e) (taken_in V e (locals e) input) rest
    here = subst (λ (b : Bool). Sim (s.at e) (if b then taken_in V e (locals e) input else locals e) rest) (same_refl e)
        (mid e)

    m : Moved s e (after_steps (taken_in V e (locals e) input) w.steps) rest (learns w.steps)
    m = move s e rest (taken_in V e (locals e) input) input w.steps here w.allowed le (λ c. fit.own e c) ans w.by

    last : Sim ((steps_at s e m.steps).at e) new rest
    last = subst (λ (l : Local). Sim ((steps_at s e m.steps).at e) l rest) (sym w.leaves) m.here

    each : (x : Endpoint) → Sim ((steps_at s e m.steps).at x) (with_local locals e new x) (coming V (λ y. links y x))
    each x = at (is_same x e) refl
      where
        at : (t : Bool) → is_same x e ≡ t →
            Sim ((steps_at s e m.steps).at x) (if t then new else locals x) (coming V (λ y. links y x))
        at true h =
            subst (λ (z : Endpoint). Sim ((steps_at s e m.steps).at z) new (coming V (λ y. links y z)))
            (sym (same_eq x e h)) last
        at false h =
            subst (λ (g : Local). Sim g (locals x) (coming V (λ y. links y x))) (sym (m.others x h))
            (subst (λ (b : Bool). Sim (s.at x) (if b then taken_in V e (locals e) input else locals x)
            (coming V (λ y. links y x))) h (mid x))

-- a call: what it sends stands in its queue at once
abbrev pub IsSpelled : Values → Option (Endpoint × Message) → Type 0
IsSpelled V None = Unit {0}
IsSpelled V (Some (d, m)) = message V m.sender (frame_of m) ≡ Some m

-- no endpoint that e may send to has learnt a later one of e's rank
abbrev pub IsHeard : (Endpoint → Local) → Endpoint → Type 0
IsHeard locals e = (to : ℕ) → is_stale (locals (receiver (locals e).known to)).known e ≡ false

abbrev Mid : (V : Values) (s : State) (locals : Endpoint → Local) (links' : Endpoint → Endpoint → Link) (e : Endpoint)
    (c : Call) → Type 0
Mid V s locals links' e c =
    (x : Endpoint) →
    Sim ((start s e (Some c)).at x) (with_local locals e (taken_in V e (locals e) (Asked c)) x)
    (coming V (λ y. links' y x))

mid_none : (V : Values) (s : State) (locals : Endpoint → Local) (links : Endpoint → Endpoint → Link) (cur : ℕ →
    ℕ) (e : Endpoint) (c : Call) → Joined V s locals links cur →
    (x : Endpoint) →
    Sim (with_local s.at e (after_call e (s.at e) c) x) (with_local locals e (after_call e (locals e) c) x)
    (coming V (λ y. links y x))
mid_none V s locals links cur e c j =
    put_more V s.at locals links e (after_call e (s.at e) c) (after_call e (locals e) c) j.each
    (started_more e (s.at e) (locals e) (coming V (λ y. links y e)) c (j.each e))

mid_send : (V : Values) (s : State) (locals : Endpoint → Local) (links : Endpoint → Endpoint → Link) (cur : ℕ →
    ℕ) (e : Endpoint) (g l : Local) (d : Endpoint) (m : Message) → m.sender ≡ e → is_stale (locals d).known e ≡ false →
    message V m.sender (frame_of m) ≡ Some m → Joined V s locals links cur → Sim g l (coming V (λ y. links y e)) →
    (x : Endpoint) →
    Sim ((send (put s e g) (Some (d, m))).at x) (with_local locals e (kept e l (Some (d, m))) x)
    (coming V (λ y. accept_all links e (linked e (Some (d, m))) y x))
mid_send V s locals links cur e g l d m from live is j here x =
    subst (λ (y : Endpoint). Sim g l (coming V (λ z. links z y)) →
    Sim ((send (put s y g) (Some (d, m))).at x) (with_local locals y (kept y l (Some (d, m))) x)
    (coming V (λ z. accept_all links y (linked y (Some (d, m))) z x))) from
    (λ h. send_more V s.current s.at locals links g l d m
    (subst (λ (y : Endpoint). is_stale (locals d).known y ≡ false) (sym from) live) is j.fit j.each h x) here

mid_isend : (V : Values) (s : State) (locals : Endpoint → Local) (links : Endpoint → Endpoint → Link) (cur : ℕ →
    ℕ) (e : Endpoint) (mode : Mode) (c to tag : ℕ) (from : Handed) → IsHeard locals e →
    IsSpelled V (message_sent e (locals e) (Isend mode c (Rank to) (Some tag) from)) → Joined V s locals links cur →
    Mid V s locals (accept_all links e (linked e (message_sent e (locals e) (Isend mode c (Rank to) (Some tag) from))))
    e (Isend mode c (Rank to) (Some tag) from)
mid_isend V s locals links cur e mode c to tag from heard is j x =
    subst (λ (sm : Option (Endpoint × Message)). Sim ((send (put s e (after_call e (s.at e) call)) sm).at x)
    (with_local locals e (taken_in V e (locals e) (Asked call)) x)
    (coming V (λ y. accept_all links e (linked e (message_sent e (locals e) call)) y x)))
    (sym (sent_same (s.at e) (locals e) (coming V (λ y. links y e)) e call (j.each e)))
    (mid_send V s locals links cur e (after_call e (s.at e) call) (after_call e (locals e) call) dm.0 dm.1 refl
    (heard to) is j (started_more e (s.at e) (locals e) (coming V (λ y. links y e)) call (j.each e)) x)
  where
    call : Call
    call = Isend mode c (Rank to) (Some tag) from

    dm : Endpoint × Message
    dm = message_to (locals e).message_limit mode e (receiver (locals e).known to) c tag from.buffer.basic (data_of from)
        (length (locals e).requests)

linked_fit : (V : Values) (links : Endpoint → Endpoint → Link) (e : Endpoint) (sm : Option (Endpoint × Message)) →
    LinksFit V links → LinksFit V (accept_all links e (linked e sm))
linked_fit V links e None fit = fit
linked_fit V links e (Some (d, m)) fit = accept_fit V links e d m fit

pub ask_worked : (V : Values) (s : State) (locals : Endpoint → Local) (links : Endpoint → Endpoint → Link) (cur : ℕ →
    ℕ) (e : Endpoint) (c : Call) (new : Local) (out : List (Endpoint × Frame)) →
    Joined V s locals links cur → IsHeard locals e → IsSpelled V (message_sent e (locals e) c) →
    (w : Work V e (locals e) (Asked c) new out) →
    Worked V (start s e (Some c)) e (with_local locals e new) (accept_all links e out) cur (learns w.steps)
ask_worked V s locals links cur e c new out j heard is w = go c is w w.gives
  where
    effect : (c : Call) → (w : Work V e (locals e) (Asked c) new out) → Mid V s locals (accept_all links e out) e c →
        LinksFit V (accept_all links e out) →
        Worked V (start s e (Some c)) e (with_local locals e new) (accept_all links e out) cur (learns w.steps)
    effect c w mid fit =
        worked V (start s e (Some c)) locals (accept_all links e out) cur e (Asked c) new out
        (start_current s e (Some c) ∙ j.now) tt (λ a k b q. absurd (grind arith)) mid fit w

    go : (c : Call) → IsSpelled V (message_sent e (locals e) c) → (w : Work V e (locals e) (Asked c) new out) →
        GivenOut e (locals e) (Asked c) out →
        Worked V (start s e (Some c)) e (with_local locals e new) (accept_all links e out) cur (learns w.steps)
    go (Isend mode c Any tag from) is w g =
        effect (Isend mode c Any tag from) w
        (subst (λ (o : List (Endpoint × Frame)). Mid V s locals (accept_all links e o) e (Isend mode c Any tag from))
        (sym g) (mid_none V s locals links cur e (Isend mode c Any tag from) j))
        (subst (λ (o : List (Endpoint × Frame)). LinksFit V (accept_all links e o)) (sym g) j.fit)
    go (Isend mode c Null tag from) is w g =
        effect (Isend mode c Null tag from) w
        (subst (λ (o : List (Endpoint × Frame)). Mid V s locals (accept_all links e o) e (Isend mode c Null tag from))
        (sym g) (mid_none V s locals links cur e (Isend mode c Null tag from) j))
        (subst (λ (o : List (Endpoint × Frame)). LinksFit V (accept_all links e o)) (sym g) j.fit)
    go (Isend mode c (Rank to) None from) is w g =
        effect (Isend mode c (Rank to) None from) w
        (subst (λ (o : List (Endpoint × Frame)). Mid V s locals (accept_all links e o) e
        (Isend mode c (Rank to) None from)) (sym g)
        (mid_none V s locals links cur e (Isend mode c (Rank to) None from) j))
        (subst (λ (o : List (Endpoint × Frame)). LinksFit V (accept_all links e o)) (sym g) j.fit)
    go (Isend mode c (Rank to) (Some tag) from) is w g =
        effect (Isend mode c (Rank to) (Some tag) from) w
        (subst (λ (o : List (Endpoint × Frame)). Mid V s locals (accept_all links e o) e
        (Isend mode c (Rank to) (Some tag) from)) (sym g)
        (mid_isend V s locals links cur e mode c to tag from heard is j))
        (subst (λ (o : List (Endpoint × Frame)). LinksFit V (accept_all links e o)) (sym g)
        (linked_fit V links e (message_sent e (locals e) (Isend mode c (Rank to) (Some tag) from)) j.fit))
    go (Irecv p) is w g =
        effect (Irecv p) w
        (λ x. sim_rest ((start s e (Some (Irecv p))).at x)
        (with_local locals e (taken_in V e (locals e) (Asked (Irecv p))) x) (coming V (λ y. links y x))
        (coming V (λ y. accept_all links e out y x)) (mid_none V s locals links cur e (Irecv p) j x)
        (silent V links e out g j.fit x))
        (silent_fit V links e out g j.fit)
    go (Wait a) is w g =
        effect (Wait a) w (subst (λ (o : List (Endpoint × Frame)). Mid V s locals (accept_all links e o) e (Wait a))
        (sym g) (mid_none V s locals links cur e (Wait a) j))
        (subst (λ (o : List (Endpoint × Frame)). LinksFit V (accept_all links e o)) (sym g) j.fit)
    go (Test r) is w g =
        effect (Test r) w (subst (λ (o : List (Endpoint × Frame)). Mid V s locals (accept_all links e o) e (Test r))
        (sym g) (mid_none V s locals links cur e (Test r) j))
        (subst (λ (o : List (Endpoint × Frame)). LinksFit V (accept_all links e o)) (sym g) j.fit)
    go (Cancel r) is w g =
        effect (Cancel r) w (subst (λ (o : List (Endpoint × Frame)). Mid V s locals (accept_all links e o) e (Cancel r))
        (sym g) (mid_none V s locals links cur e (Cancel r) j))
        (subst (λ (o : List (Endpoint × Frame)). LinksFit V (accept_all links e o)) (sym g) j.fit)
    go (Iprobe q) is w g =
        effect (Iprobe q) w (subst (λ (o : List (Endpoint × Frame)). Mid V s locals (accept_all links e o) e (Iprobe q))
        (sym g) (mid_none V s locals links cur e (Iprobe q) j))
        (subst (λ (o : List (Endpoint × Frame)). LinksFit V (accept_all links e o)) (sym g) j.fit)
    go (Improbe q) is w g =
        effect (Improbe q) w
        (subst (λ (o : List (Endpoint × Frame)). Mid V s locals (accept_all links e o) e (Improbe q)) (sym g)
        (mid_none V s locals links cur e (Improbe q) j))
        (subst (λ (o : List (Endpoint × Frame)). LinksFit V (accept_all links e o)) (sym g) j.fit)
    go (Mrecv k into) is w g =
        effect (Mrecv k into) w
        (λ x. sim_rest ((start s e (Some (Mrecv k into))).at x)
        (with_local locals e (taken_in V e (locals e) (Asked (Mrecv k into))) x) (coming V (λ y. links y x))
        (coming V (λ y. accept_all links e out y x)) (mid_none V s locals links cur e (Mrecv k into) j x)
        (silent V links e out g j.fit x))
        (silent_fit V links e out g j.fit)

pub ask_works : (V : Values) (s : State) (locals : Endpoint → Local) (links : Endpoint → Endpoint → Link) (cur : ℕ →
    ℕ) (e : Endpoint) (c : Call) (new : Local) (out : List (Endpoint × Frame)) →
    Joined V s locals links cur → IsHeard locals e → IsSpelled V (message_sent e (locals e) c) →
    Work V e (locals e) (Asked c) new out →
    Midway V s e (Some c) (with_local locals e new) (accept_all links e out) cur
ask_works V s locals links cur e c new out j heard is w =
    finish (ask_worked V s locals links cur e c new out j heard is w)
  where
    finish : Worked V (start s e (Some c)) e (with_local locals e new) (accept_all links e out) cur (learns w.steps) →
        Midway V s e (Some c) (with_local locals e new) (accept_all links e out) cur
    finish x = record { steps = x.steps; taken = x.taken; joined = x.joined }

-- more work in the same event
midway_more : (V : Values) (s : State) (e : Endpoint) (call : Option Call) (locals locals' : Endpoint → Local)
    (links links' : Endpoint → Endpoint → Link) (cur : ℕ → ℕ) (taught : List (ℕ × ℕ)) →
    (m : Midway V s e call locals links cur) →
    Worked V (steps_at (start s e call) e m.steps) e locals' links' cur taught → Midway V s e call locals' links' cur
midway_more V s e call locals locals' links links' cur taught m w =
    record {
      steps = m.steps ++ w.steps;
      taken = steps_append (start s e call) e m.steps w.steps m.taken w.taken;
      joined = subst (λ (t : State). Joined V t locals' links' cur)
          (sym (taken_append (start s e call) e m.steps w.steps)) w.joined;
    }

-- a word of an endpoint
pub word_starts : (V : Values) (s : State) (locals : Endpoint → Local) (links : Endpoint → Endpoint → Link) (cur : ℕ →
    ℕ) (e : Endpoint) → Joined V s locals links cur → Midway V s e None locals links cur
word_starts V s locals links cur e j = record { steps = []; taken = tt; joined = j }

pub hear_worked : (V : Values) (s1 : State) (locals : Endpoint → Local) (links : Endpoint → Endpoint → Link) (cur : ℕ →
    ℕ) (a e : Endpoint) (new : Local) (out : List (Endpoint × Frame)) →
    Joined V s1 locals links cur → a.incarnation ≤ cur a.rank → (w : Work V e (locals e) (Heard a) new out) →
    Worked V s1 e (with_local locals e new) links cur (learns w.steps)
hear_worked V s1 locals links cur a e new out j below w =
    worked V s1 locals links cur e (Heard a) new out j.now
    (subst (λ (u : ℕ → ℕ). a.incarnation ≤ u a.rank) (sym j.now) below) (λ x k b q. absurd (grind arith)) mid j.fit
    w
  where
    mid : (x : Endpoint) → Sim (s1.at x) (with_local locals e (locals e) x) (coming V (λ y. links y x))
    mid x = go (is_same x e) refl
      where
        go : (t : Bool) → is_same x e ≡ t → Sim (s1.at x) (if t then locals e else locals x) (coming V (λ y. links y x))
        go true h =
            subst (λ (z : Endpoint). Sim (s1.at x) (locals z) (coming V (λ y. links y x))) (same_eq x e h) (j.each x)
        go false h = j.each x

pub hear_works : (V : Values) (s : State) (call : Option Call) (locals : Endpoint → Local) (links : Endpoint →
    Endpoint → Link) (cur : ℕ → ℕ) (a e : Endpoint) (new : Local) (out : List (Endpoint × Frame)) →
    Midway V s e call locals links cur → a.incarnation ≤ cur a.rank → Work V e (locals e) (Heard a) new out →
    Midway V s e call (with_local locals e new) links cur
hear_works V s call locals links cur a e new out m below w =
    midway_more V s e call locals (with_local locals e new) links links cur (learns w.steps) m
    (hear_worked V (steps_at (start s e call) e m.steps) locals links cur a e new out m.joined below w)

abbrev MidCame : (V : Values) (s : State) (locals : Endpoint → Local) (links' : Endpoint → Endpoint → Link)
    (d : Endpoint) → Option Message → Type 0
MidCame V s locals links' d m =
    (x : Endpoint) → Sim (s.at x) (with_local locals d (held_on (locals d) m) x) (coming V (λ y. links' y x))

mid_message : (V : Values) (s : State) (locals : Endpoint → Local) (links : Endpoint → Endpoint → Link) (cur : ℕ →
    ℕ) (a d : Endpoint) (f : Frame) (m : Message) → m.sender ≡ a → is_stale (locals d).known a ≡ false →
    message V a f ≡ Some m → slice_get (links a d).accepted (links a d).handed ≡ Some f → Joined V s locals links cur →
    MidCame V s locals (handed_on links a d) d (Some m)
mid_message V s locals links cur a d f m from live is next j x = go (is_same x d) refl
  where
    first : (y : Endpoint) (c : ℕ) → coming V (λ z. links z d) y c ≡
        (if is_same y m.sender && (c == m.context) then m ∷ coming V (λ z. handed_on links a d z d) y c else
        coming V (λ z. handed_on links a d z d) y c)
    first y c =
        subst (λ (z : Endpoint). coming V (λ w. links w d) y c ≡
        (if is_same y z && (c == m.context) then m ∷ coming V (λ w. handed_on links a d w d) y c else
        coming V (λ w. handed_on links a d w d) y c)) (sym from) (coming_first V links a d f m is next y c)

    go : (t : Bool) → is_same x d ≡ t →
        Sim (s.at x) (with_local locals d (with_message (locals d) m) x) (coming V (λ y. handed_on links a d y x))
    go true h =
        let ex : x ≡ d = same_eq x d h in
        let c : Sim (s.at d) (with_message (locals d) m) (coming V (λ y. handed_on links a d y d)) = came_more (s.at d) (locals d) (coming V (λ y. links y d)) (coming V (λ y. handed_on links a d y d)) m (subst (λ (y : Endpoint). is_stale (locals d).known y ≡ false) (sym from) live) (j.each d) first in
        subst (λ (t : Bool). Sim (s.at x) (if t then with_message (locals d) m else locals x)
        (coming V (λ y. handed_on links a d y x))) (sym h) (rw ex c)
    go false h =
        let c : Sim (s.at x) (locals x) (coming V (λ y. handed_on links a d y x)) = sim_rest (s.at x) (locals x) (coming V (λ y. links y x)) (coming V (λ y. handed_on links a d y x)) (j.each x) (coming_else V links a d x h) in
        subst (λ (t : Bool). Sim (s.at x) (if t then with_message (locals d) m else locals x)
        (coming V (λ y. handed_on links a d y x))) (sym h) c

mid_other : (V : Values) (s : State) (locals : Endpoint → Local) (links : Endpoint → Endpoint → Link) (cur : ℕ →
    ℕ) (a d : Endpoint) (f : Frame) → message V a f ≡ None → slice_get (links a d).accepted (links a d).handed ≡
    Some f → Joined V s locals links cur → MidCame V s locals (handed_on links a d) d None
mid_other V s locals links cur a d f is next j x = go (is_same x d) refl
  where
    c : Sim (s.at x) (locals x) (coming V (λ y. handed_on links a d y x))
    c = sim_rest (s.at x) (locals x) (coming V (λ y. links y x)) (coming V (λ y. handed_on links a d y x)) (j.each x)
        (coming_still V links a d f is next x)

    go : (t : Bool) → is_same x d ≡ t →
        Sim (s.at x) (with_local locals d (locals d) x) (coming V (λ y. handed_on links a d y x))
    go true h =
        let ex : x ≡ d = same_eq x d h in subst
        (λ (t : Bool). Sim (s.at x) (if t then locals d else locals x) (coming V (λ y. handed_on links a d y x)))
        (sym h) (subst (λ (z : Endpoint). Sim (s.at x) (locals z) (coming V (λ y. handed_on links a d y x))) ex c)
    go false h =
        subst (λ (t : Bool). Sim (s.at x) (if t then locals d else locals x) (coming V (λ y. handed_on links a d y x)))
        (sym h) c

mid_came : (V : Values) (s : State) (locals : Endpoint → Local) (links : Endpoint → Endpoint → Link) (cur : ℕ →
    ℕ) (a d : Endpoint) (f : Frame) → is_stale (locals d).known a ≡ false →
    slice_get (links a d).accepted (links a d).handed ≡ Some f → Joined V s locals links cur →
    MidCame V s locals (handed_on links a d) d (message V a f)
mid_came V s locals links cur a d (Eager c tag basic values) live next j =
    mid_message V s locals links cur a d (Eager c tag basic values)
    (record { sender = a; context = c; tag = tag; basic = basic; values = values; request = None }) refl live refl next
    j
mid_came V s locals links cur a d (Rts c tag basic k count) live next j =
    mid_message V s locals links cur a d (Rts c tag basic k count)
    (record { sender = a; context = c; tag = tag; basic = basic; values = V a k; request = Some k }) refl live refl next
    j
mid_came V s locals links cur a d (Cts k wanted) live next j =
    mid_other V s locals links cur a d (Cts k wanted) refl next j
mid_came V s locals links cur a d (Data k offset values) live next j =
    mid_other V s locals links cur a d (Data k offset values) refl next j

-- a frame that the link hands up
pub hand_worked : (V : Values) (s1 : State) (locals : Endpoint → Local) (links : Endpoint → Endpoint → Link) (cur : ℕ →
    ℕ) (a e : Endpoint) (f : Frame) (new : Local) (out : List (Endpoint × Frame)) →
    Joined V s1 locals links cur → is_stale (locals e).known a ≡ false →
    slice_get (links a e).accepted (links a e).handed ≡ Some f →
    Answers s1 e (Came a f) → (w : Work V e (locals e) (Came a f) new out) →
    Worked V s1 e (with_local locals e new) (accept_all (handed_on links a e) e out) cur (learns w.steps)
hand_worked V s1 locals links cur a e f new out j live next ans w =
    worked V s1 locals (accept_all (handed_on links a e) e out) cur e (Came a f) new out j.now tt ans
    (λ x. sim_rest (s1.at x) (with_local locals e (held_on (locals e) (message V a f)) x)
    (coming V (λ y. handed_on links a e y x)) (coming V (λ y. accept_all (handed_on links a e) e out y x))
    (mid_came V s1 locals links cur a e f live next j x) (silent V (handed_on links a e) e out w.gives fit x))
    (silent_fit V (handed_on links a e) e out w.gives fit) w
  where
    fit : LinksFit V (handed_on links a e)
    fit = handed_fit V links a e f j.fit next

pub hand_works : (V : Values) (s : State) (call : Option Call) (locals : Endpoint → Local) (links : Endpoint →
    Endpoint → Link) (cur : ℕ → ℕ) (a e : Endpoint) (f : Frame) (new : Local) (out : List (Endpoint × Frame)) →
    (m : Midway V s e call locals links cur) → is_stale (locals e).known a ≡ false →
    slice_get (links a e).accepted (links a e).handed ≡ Some f →
    Answers (steps_at (start s e call) e m.steps) e (Came a f) → Work V e (locals e) (Came a f) new out →
    Midway V s e call (with_local locals e new) (accept_all (handed_on links a e) e out) cur
hand_works V s call locals links cur a e f new out m live next ans w =
    midway_more V s e call locals (with_local locals e new) links (accept_all (handed_on links a e) e out) cur
    (learns w.steps) m
    (hand_worked V (steps_at (start s e call) e m.steps) locals links cur a e f new out m.joined live next ans w)

-- the settling ends the event
pub settle_follows : (V : Values) (n : ℕ) (s : State) (call : Option Call) (locals old : Endpoint → Local)
    (links links' : Endpoint → Endpoint → Link) (cur : ℕ → ℕ) (e : Endpoint) →
    Joined V s old links cur → Midway V s e call locals links' cur → e.rank < n → e.incarnation ≡ cur e.rank →
    call_fault n (old e) call ≡ None →
    Follows V n s (with_local locals e (after_settling (locals e))) links' cur
    (told e (call_and_reply (old e) call) (ready_answer (locals e)))
settle_follows V n s call locals old links links' cur e j m lt now fit =
    record {
      event = At e call m.steps;
      allowed =
          record {
            inside = lt;
            current = now ∙ ap (λ (u : ℕ → ℕ). u e.rank) (sym j.now);
            fit =
                fault_is call ∙ fit;
            steps = m.taken;
          };
      tells = ap₂ (λ (x : Option (Call × Option Reply)) (y : Option (Answer × List ℕ)). told e x y) (asked_is call)
          (ready_same (s1.at e) (locals e) rest (m.joined.each e));
      joined = record { each = each; fit = m.joined.fit; now = m.joined.now };
    }
  where
    s1 : State
    s1 = steps_at (start s e call) e m.steps

    rest : Endpoint → ℕ → List Message
    rest = coming V (λ y. links' y e)

    before : Endpoint → ℕ → List Message
    before = coming V (λ y. links y e)

    fault_is : (c : Option Call) → call_fault n (s.at e) c ≡ call_fault n (old e) c
    fault_is None = refl
    fault_is (Some c) = fault_same (s.at e) (old e) before n c (j.each e)

    asked_is : (c : Option Call) → call_and_reply (s.at e) c ≡ call_and_reply (old e) c
    asked_is None = refl
    asked_is (Some c) = ap (λ (r : Option Reply). Some (c, r)) (at_once_same (s.at e) (old e) before c (j.each e))

    each : (x : Endpoint) →
        Sim (with_local s1.at e (after_settling (s1.at e)) x) (with_local locals e (after_settling (locals e)) x)
        (coming V (λ y. links' y x))
    each x = put_more V s1.at locals links' e (after_settling (s1.at e)) (after_settling (locals e)) m.joined.each
        (settled_more (s1.at e) (locals e) rest (m.joined.each e)) x

-- a restart changes no endpoint's part: the new one was there, with nothing pending
pub restart_follows : (V : Values) (n : ℕ) (s : State) (locals : Endpoint → Local) (links : Endpoint → Endpoint → Link)
    (cur : ℕ → ℕ) (r : ℕ) → Joined V s locals links cur → r < n → cur r < 65535 →
    Follows V n s locals links (with_number cur r (suc (cur r))) (Restarted r ∷ [])
restart_follows V n s locals links cur r j lt few =
    record {
      event = Restart r;
      allowed = (lt, subst (λ (u : ℕ → ℕ). u r < 65535) (sym j.now) few);
      tells =
          refl;
      joined =
          record { each = j.each; fit = j.fit; now = ap (λ (u : ℕ → ℕ). with_number u r (suc (u r))) j.now };
    }

-- a run goes on
run_push : (n : ℕ) (s : State) (vs : List Event) (v : Event) → IsRun n s vs → IsEvent n (after_run s vs) v →
    IsRun n s (vs ++ v ∷ [])
run_push n s [] v r a = (a, tt)
run_push n s (u ∷ vs) v r a = (r.0, run_push n (after_event s u) vs v r.1 a)

after_push : (s : State) (vs : List Event) (v : Event) → after_run s (vs ++ v ∷ []) ≡ after_event (after_run s vs) v
after_push s [] v = refl
after_push s (u ∷ vs) v = after_push (after_event s u) vs v

seen_push : (s : State) (vs : List Event) (v : Event) → seen s (vs ++ v ∷ []) ≡ seen s vs ++ entries (after_run s vs) v
seen_push s [] v = append-nil (entries s v)
seen_push s (u ∷ vs) v = rw (seen_push (after_event s u) vs v, append_assoc)

-- a history that is seen, with the state that it leads to
pub record Seen (V : Values) (n : ℕ) (limit : MessageLimit) (history : List Entry) (locals : Endpoint → Local)
    (links : Endpoint → Endpoint → Link) (cur : ℕ → ℕ) : Type 0 where
  pub events : List Event
  pub run : IsRun n (opening limit) events
  pub tells : seen (opening limit) events ≡ history
  pub joined : Joined V (after_run (opening limit) events) locals links cur

pub seen_more : (V : Values) (n : ℕ) (limit : MessageLimit) (history : List Entry) (locals locals' : Endpoint → Local)
    (links links' : Endpoint → Endpoint → Link) (cur cur' : ℕ → ℕ) (told : List Entry) →
    (h : Seen V n limit history locals links cur) →
    Follows V n (after_run (opening limit) h.events) locals' links' cur' told →
    Seen V n limit (history ++ told) locals' links' cur'
seen_more V n limit history locals locals' links links' cur cur' told h f =
    record {
      events = h.events ++ f.event ∷ [];
      run = run_push n (opening limit) h.events f.event h.run f.allowed;
      tells = seen_push (opening limit) h.events f.event ∙ rw (h.tells, f.tells);
      joined = rw (after_push (opening limit) h.events f.event) f.joined;
    }
