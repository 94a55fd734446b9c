-- What taking a message of a collective gives.
use Rattle.std.proofs.Common.{◌≡◌, Bool, true, false, cond, List, Option, Some, None, Ok, refl, sym, ap, subst, ◌∙◌}
use Rattle.std.proofs.Common.{inl, inr}
use Rattle.collective_messages.specs.Arrivals.{ArrivalGives}
use Rattle.collective_messages.specs.declared.note.Note.{Note}
use Rattle.collective_messages.specs.declared.address.Address.{Address}
use Rattle.collective_messages.specs.declared.refusal.CollectiveRefusal as noted
use Rattle.collective_messages.specs.declared.refusal.CollectiveRefusal.TheVariants as notes
use Rattle.collective_messages.specs.declared.message.CollectiveMessage.{CollectiveMessage}
use Rattle.rendezvous.specs.Payloads.{Announced, Whole}
use Rattle.rendezvous.specs.PayloadState as payloads
use Rattle.rendezvous.specs.PayloadState.{after_announcing}
use Rattle.collectives.specs.Calls.{IsReady, MessageRefused, after_lesson, with_note}
use Rattle.collectives.specs.State.{State, after_step}
use Rattle.collective_steps.specs.Steps.{contexts_after, ending_of}
use Rattle.collectives.specs.declared.collective.ReadyMessage.{ReadyMessage}
use Rattle.collective_steps.specs.declared.step.Ending.{Ending}
use Rattle.context_agreement.specs.Communicators.{ContextsState}
use Rattle.engine.specs.JobPayloads.{payload_in}
use Rattle.payload.specs.Spellings.{PartFits, PayloadText}
use Rattle.point_to_point_calls.specs.declared.refusal.Refusal.{Refusal}
use Rattle.point_to_point_calls.specs.declared.refusal.Refusal.TheVariants as refusals
use Rattle.point_to_point.specs.CoreState.{CoreState, with_numbers}
use Rattle.point_to_point.specs.CoreState as held
use Rattle.point_to_point.specs.Arrivals as cores
use Rattle.point_to_point.specs.Arrivals.{CanTake, after_news}
use Rattle.point_to_point_calls.specs.FrameNews.{NewsText, bad_unless, transfers_met}
use Rattle.point_to_point_calls.specs.declared.news.PreparedNews.{PreparedNews}
use Rattle.rendezvous.specs.PayloadNumbers.{AreLeft, counted, with_lesson}
use Rattle.rendezvous.specs.State.{is_next}
use Rattle.rendezvous.specs.declared.transfers.Numbers.{Numbers}
use Rattle.sessions.specs.Events.{after_event}
use Rattle.sessions.specs.HeardBytes.{HeardText}
use Rattle.sessions.specs.SessionsState.{SessionsState}
use Rattle.datagram.specs.Spellings.{RequestText}
use Rattle.vocabulary.specs.Modes.{is_standard}
use Rattle.vocabulary.specs.declared.endpoint.Endpoint.{Endpoint}
use Rattle.engine.specs.Datagrams.{IsNoticed, IsTold, WhyUnnoticed, address_of, announcement_fault, ended_by}
use Rattle.engine.specs.Datagrams.{lesson_alone, lesson_in}
use Rattle.engine.specs.Datagrams.{met_by, numbers_met, payloads_met}
use Rattle.engine_calls.specs.EngineState.{EngineState, or_before}
use Rattle.engine_calls.specs.Frames.{AreWhole, numbers_heard, step_limit, step_numbers, step_payloads, step_sendings}
use Rattle.engine_calls.specs.Refusals.{first_fault, of_collectives}
use Rattle.engine_calls.specs.Steps.{StepStops, ending_met}

-- of three endings, the first that there is
first_of_three : (a b c : Option Ending) → or_before (or_before a b) c ≡ or_before a (or_before b c)
first_of_three None b c = refl
first_of_three (Some o) b c = refl

-- what the communicators keep in between, and what they answer
pub record IsTakenIn (old : EngineState) (lesson : Option Endpoint) (ready : ReadyMessage) (s1 s2 s3 : State)
    (k1 k2 k3 : ContextsState)
    (replaced left ending : Option Ending) : Type 0 where
  pub kept : s1 ≡ old.groups.collective
  pub held : k1 ≡ old.groups.contexts
  pub learnt : s2 ≡ after_lesson s1 k1 lesson
  pub same : k2 ≡ k1
  pub replaces : replaced ≡ ending_met s1 k1 lesson
  pub taken : s3 ≡ after_step (with_note s2 ready.note) ready.step.outcome
  pub got : k3 ≡ contexts_after k2 ready.step.drawn ready.step.outcome
  pub leaves : left ≡ ending_of k2 ready.step.outcome
  pub ends : ending ≡ or_before left replaced

-- ---- what a lesson leaves

-- of the numbers of transfers, as the core has them then
pub news_numbers : (c : CoreState) (h : HeardText) →
    (after_news c (lesson_alone h)).transfers.numbers ≡ numbers_met c h
news_numbers c h = by h.lesson
  where
    by : (b : Bool) → (cores.after_lesson b c h.source).transfers.numbers ≡
        (transfers_met b c.transfers h.source.rank).numbers
    by true = refl
    by false = refl

-- and as a step counts on from them
pub heard_numbers : (c : CoreState) (h : HeardText) → numbers_heard c.transfers.numbers (Some h) ≡ numbers_met c h
heard_numbers c h = by h.lesson
  where
    by : (b : Bool) → with_lesson (cond b (Some h.source.rank) None) c.transfers.numbers ≡
        (transfers_met b c.transfers h.source.rank).numbers
    by true = refl
    by false = refl

-- of the payloads
pub left_payloads : (h : HeardText) (q : payloads.State) →
    cores.payloads_met h.lesson q h.source.rank ≡ payloads_met q (lesson_in h)
left_payloads h q = by h.lesson
  where
    by : (b : Bool) → cores.payloads_met b q h.source.rank ≡ payloads_met q (cond b (Some h.source) None)
    by true = refl
    by false = refl

-- an announcement that breaks no rule has the number that is due
pub announced_next : (c : CoreState) (s : SessionsState) (h : HeardText) (t : RequestText) →
    announcement_fault c s h t ≡ None → is_next (numbers_met c h) h.source.rank t.transfer ≡ true
announced_next c s h t is = by (bad_unless (is_standard t.mode)) (is_next (numbers_met c h) h.source.rank t.transfer) _ is
  where
    by : (a : Option Refusal) (b : Bool) (f : Option Refusal) → first_fault a (first_fault (bad_unless b) f) ≡ None →
        b ≡ true
    by (Some e) b f n = absurd cc
    by None true f n = refl
    by None false f n = absurd cc

-- news that can be taken still can, whatever payloads there are
pub can_still : (g d : held.Held) (q : payloads.Held) (n : NewsText) (r : PreparedNews) →
    d ≡ record g { payloads = q } → CanTake g n r → CanTake d n r
can_still g d q n r same can =
    subst (λ (x : held.Held). CanTake x n r) (sym same) (record {
      keys = can.keys;
      message = can.message;
      room = can.room;
      collection = can.collection;
      place = can.place;
    })

-- what is announced can be counted once the news are taken
pub still_left : (core c d : CoreState) (h : HeardText) (ps : List Announced) → c ≡ core →
    d ≡ after_news c (lesson_alone h) → AreLeft (numbers_heard core.transfers.numbers (Some h)) ps →
    AreLeft d.transfers.numbers ps
still_left core c d h ps kept taken left =
    subst (λ (n : List Numbers). AreLeft n ps)
    (heard_numbers core h ∙ sym (news_numbers core h)
    ∙ sym (ap (λ (x : CoreState). x.transfers.numbers)
    (taken ∙ ap (λ (x : CoreState). after_news x (lesson_alone h)) kept)))
    left

-- what becomes of the core, the numbers of transfers and the payloads, and what is sent
pub record IsCounted (core : CoreState) (before : payloads.State) (s : SessionsState) (h : HeardText)
    (ms : List CollectiveMessage) (c d e : CoreState) (ns : List Numbers)
    (ps : List Announced) (q0 q1 q2 : payloads.State) (links : SessionsState) : Type 0 where
  pub kept : c ≡ core
  pub taken : d ≡ after_news c (lesson_alone h)
  pub begun : e ≡ with_numbers d (counted d.transfers.numbers ps)
  pub numbers : ns ≡ numbers_met c h
  pub next : counted ns ps ≡ step_numbers s.place.message_limit ns ms
  pub whole : AreWhole ms
  pub goes : step_limit s ns (Some h) ms ≡ None
  pub sent : links ≡ after_event s (Some h) (step_sendings s.place ns ms)
  pub announced : ps ≡ step_payloads s.place.message_limit ns ms
  pub same : q0 ≡ before
  pub left : q1 ≡ payloads_met q0 (lesson_in h)
  pub added : q2 ≡ after_announcing q1 ps

-- so the others are told
pub told : (core : CoreState) (before : payloads.State) (s : SessionsState) (h : HeardText)
    (ms : List CollectiveMessage) (c d e : CoreState) (ns : List Numbers)
    (ps : List Announced) (q0 q1 q2 : payloads.State) (links : SessionsState) →
    IsCounted core before s h ms c d e ns ps q0 q1 q2 links →
    IsTold core before s h ms e q2 links
told core before s h ms c d e ns ps q0 q1 q2 links count =
    let first : ns ≡ numbers_met core h = count.numbers ∙ ap (λ (x : CoreState). numbers_met x h) count.kept in
    let news : d ≡ after_news core (lesson_alone h) = count.taken ∙ ap (λ (x : CoreState). after_news x (lesson_alone h)) count.kept in
    let rest : q1 ≡ payloads_met before (lesson_in h) = count.left ∙ ap (λ (q : payloads.State). payloads_met q (lesson_in h)) count.same in
    let next : counted (after_news core (lesson_alone h)).transfers.numbers ps ≡
    step_numbers s.place.message_limit (numbers_met core h) ms =
    ap (λ (n : List Numbers). counted n ps) (news_numbers core h ∙ sym first) ∙ count.next
    ∙ ap (λ (n : List Numbers). step_numbers s.place.message_limit n ms) first in
    record {
      whole = count.whole;
      goes = subst (λ (n : List Numbers). step_limit s n (Some h) ms ≡ None) first count.goes;
      core = count.begun ∙ ap (λ (x : CoreState). with_numbers x (counted x.transfers.numbers ps)) news
          ∙ ap (λ (n : List Numbers). with_numbers (after_news core (lesson_alone h)) n) next;
      payloads = count.added ∙ ap (λ (q : payloads.State). after_announcing q ps) rest
          ∙ ap (λ (l : List Announced). after_announcing (payloads_met before (lesson_in h)) l)
          (count.announced ∙ ap (λ (n : List Numbers). step_payloads s.place.message_limit n ms) first);
      sessions = count.sent ∙ ap (λ (n : List Numbers). after_event s (Some h) (step_sendings s.place n ms)) first;
    }

-- for want of memory any step is stopped
pub memory_stops : (limit : Option Refusal) (e : Refusal) → e ≡ refusals.OutOfMemory → StepStops limit e
memory_stops limit e is = subst (λ (r : Refusal). StepStops limit r) (sym is) tt

pub noticed : (old : EngineState) (h : HeardText) (w : Whole) (lesson : Option Endpoint) (p : PayloadText)
    (ready : ReadyMessage)
    (s1 s2 s3 : State) (k1 k2 k3 : ContextsState) (replaced left ending : Option Ending) (c : CoreState)
    (q : payloads.State) (links : SessionsState) →
    lesson ≡ lesson_in h → payload_in old.sessions.place.size w.bytes ≡ Some p →
    IsReady (after_lesson old.groups.collective old.groups.contexts lesson) old.groups.contexts
    (address_of h.source w) p ready →
    IsTold old.core old.payloads old.sessions h ready.step.messages c q links →
    IsTakenIn old lesson ready s1 s2 s3 k1 k2 k3 replaced left ending →
    IsNoticed old (payloads_met old.payloads (lesson_in h)) h w
    (record {
      core = c;
      groups = record { collective = s3; contexts = k3 };
      ended =
          or_before ending old.ended;
      payloads = q;
      sessions = links;
    })
noticed old h w lesson p ready s1 s2 s3 k1 k2 k3 replaced left ending c q links taught read is told take =
    let same : k2 ≡ old.groups.contexts = take.same ∙ take.held in
    let learnt : s2 ≡ met_by old h =
    take.learnt ∙ ap (λ (s : State). after_lesson s k1 lesson) take.kept ∙
    ap (λ (k : ContextsState). after_lesson old.groups.collective k lesson) take.held
    ∙ ap (after_lesson old.groups.collective old.groups.contexts) taught in
    let replaces : replaced ≡ ended_by old.groups (lesson_in h) =
    take.replaces ∙ ap (λ (s : State). ending_met s k1 lesson) take.kept ∙
    ap (λ (k : ContextsState). ending_met old.groups.collective k lesson) take.held
    ∙ ap (ended_by old.groups) taught in
    let leaves : left ≡ ending_of old.groups.contexts ready.step.outcome = take.leaves ∙ ap (λ (k : ContextsState). ending_of k ready.step.outcome) same in
    record {
      payload = p;
      read = read;
      ready = ready;
      is_ready =
          subst (λ (l : Option Endpoint). IsReady (after_lesson old.groups.collective old.groups.contexts l)
          old.groups.contexts (address_of h.source w) p ready) taught is;
      whole = told.whole;
      goes = told.goes;
      core = told.core;
      collective = take.taken ∙ ap (λ (s : State). after_step (with_note s ready.note) ready.step.outcome) learnt;
      contexts = take.got ∙ ap (λ (k : ContextsState). contexts_after k ready.step.drawn ready.step.outcome) same;
      ended = ap (λ (o : Option Ending). or_before o old.ended) take.ends ∙ first_of_three left replaced old.ended
          ∙ ap (λ (o : Option Ending). or_before o (or_before replaced old.ended)) leaves
          ∙ ap (λ (o : Option Ending). or_before (ending_of old.groups.contexts ready.step.outcome)
          (or_before o old.ended)) replaces;
      payloads = told.payloads;
      sessions = told.sessions;
    }

-- ---- why it isn't taken

-- it can't be made ready
pub unready : (old : EngineState) (h : HeardText) (w : Whole) (lesson : Option Endpoint) (p : PayloadText)
    (why : noted.CollectiveRefusal) → lesson ≡ lesson_in h →
    payload_in old.sessions.place.size w.bytes ≡ Some p →
    MessageRefused (after_lesson old.groups.collective old.groups.contexts lesson) old.groups.contexts
    (address_of h.source w) p why →
    WhyUnnoticed old h w (of_collectives why)
unready old h w lesson p why taught read is =
    go why (subst
    (λ (l : Option Endpoint). MessageRefused (after_lesson old.groups.collective old.groups.contexts l)
    old.groups.contexts (address_of h.source w) p why) taught is)
  where
    go : (r : noted.CollectiveRefusal) → MessageRefused (met_by old h) old.groups.contexts (address_of h.source w) p r →
        WhyUnnoticed old h w (of_collectives r)
    go notes.BadFrame m = inr (p, read, m)
    go notes.Limit m = (p, read, inl m)
    go notes.OutOfMemory m = (p, read, m)
    go notes.NoCommunicator m = absurd m
    go notes.Blocked m = absurd m

-- the part of a message that came fits its record
arrival_fits : (a : Address) (p : PayloadText) (came : Option Note) →
    ArrivalGives a.sender a.context a.number p (Ok came) → PartFits p.record_is p.part
arrival_fits a p None gives = gives.0
arrival_fits a p (Some n) gives = gives.0

-- and so does that of one that is ready
ready_fits : (s : State) (k : ContextsState) (a : Address) (p : PayloadText) (ready : ReadyMessage) →
    IsReady s k a p ready → PartFits p.record_is p.part
ready_fits s k a p ready is = arrival_fits a p is.0 is.1

-- its step is stopped
pub stopped : (old : EngineState) (h : HeardText) (w : Whole) (lesson : Option Endpoint) (p : PayloadText)
    (ready : ReadyMessage) (why : Refusal) → lesson ≡ lesson_in h →
    payload_in old.sessions.place.size w.bytes ≡ Some p →
    IsReady (after_lesson old.groups.collective old.groups.contexts lesson) old.groups.contexts
    (address_of h.source w) p ready →
    StepStops (step_limit old.sessions (numbers_met old.core h) (Some h) ready.step.messages) why →
    WhyUnnoticed old h w why
stopped old h w lesson p ready why taught read is stops =
    go why stops
    (subst (λ (l : Option Endpoint). IsReady (after_lesson old.groups.collective old.groups.contexts l)
    old.groups.contexts (address_of h.source w) p ready) taught is)
  where
    go : (r : Refusal) → StepStops (step_limit old.sessions (numbers_met old.core h) (Some h) ready.step.messages) r →
        IsReady (met_by old h) old.groups.contexts (address_of h.source w) p ready →
        WhyUnnoticed old h w r
    go refusals.OutOfMemory s i =
        (p, read, ready_fits (met_by old h) old.groups.contexts (address_of h.source w) p ready i)
    go refusals.Limit s i = (p, read, inr (ready, i, s))
    go refusals.Count s i = absurd s
    go refusals.WrongType s i = absurd s
    go refusals.Tag s i = absurd s
    go refusals.Communicator s i = absurd s
    go refusals.Rank s i = absurd s
    go refusals.Request s i = absurd s
    go refusals.Root s i = absurd s
    go refusals.Operation s i = absurd s
    go refusals.Replaced s i = absurd s
    go refusals.Short s i = absurd s
    go refusals.Magic s i = absurd s
    go refusals.Version s i = absurd s
    go refusals.Kind s i = absurd s
    go refusals.Length s i = absurd s
    go refusals.ForeignJob s i = absurd s
    go refusals.NotForMe s i = absurd s
    go refusals.StaleSource s i = absurd s
    go refusals.StaleTarget s i = absurd s
    go refusals.BadFrame s i = absurd s
    go refusals.OutOfWindow s i = absurd s
    go refusals.ClockBack s i = absurd s
