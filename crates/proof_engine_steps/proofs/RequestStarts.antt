-- A call that starts a request: what it leaves of a rank and of its core in the network.
use Rattle.std.proofs.Common.{◌≡◌, ℕ, ◌+◌, Bool, true, false, List, [], ◌∷◌, ◌++◌, map, length, Option, Some, None}
use Rattle.std.proofs.Common.{if◌then◌else◌, slice_get, refl, sym, ap, ◌∙◌, subst, arith, length-append}
use Rattle.std.specs.List.{AllByRecursion}
use Rattle.std.proofs.lemmas.List.{length-map}
use Rattle.datagram.specs.Spellings.{OutgoingText}
use Rattle.perfect_queues.specs.Calls as machine
use Rattle.perfect_queues.specs.Completions.{Unanswered}
use Rattle.perfect_queues.specs.Events.{call_and_reply, told}
use Rattle.perfect_queues.specs.Refusals.{first_fault, is_held, standing}
use Rattle.proof_pure_network.specs.Core.{Core, Effect, view}
use Rattle.proof_pure_network.specs.Engine.{called, core_ready, core_settled}
use Rattle.proof_pure_network.specs.WaitingMessages.{blank}
use Rattle.proof_pure_network.specs.Jobs.{Job, request_of}
use Rattle.requests.specs.Table.{IsSet, slot_at}
use Rattle.requests.specs.declared.table.RequestProgress.{RequestProgress}
use Rattle.requests.specs.declared.awaited_requests.Awaited as rank
use Rattle.requests.specs.declared.table.Request.{Request}
use Rattle.point_to_point_calls.specs.CoreCalls.{RoutedCall}
use Rattle.point_to_point_calls.specs.CoreCalls as replies
use Rattle.point_to_point_calls.specs.declared.refusal.Refusal.{Refusal}
use Rattle.point_to_point_calls.specs.Frames.{as_list}
use Rattle.incarnation.specs.declared.place.Place.{Place}
use Rattle.point_to_point.specs.Calls.{call_frame}
use Rattle.point_to_point.specs.CoreState.{CoreState}
use Rattle.proof_engine_view.specs.Faults.{queue_fault, queue_fault_by}
use Rattle.proof_engine_view.specs.Rows.{Fits, Row, held_of, posted_job, posted_rows}
use Rattle.observation.specs.CoreCalls.{call_seen}
use Rattle.proof_engine_view.specs.CoreViews.{IsBlocked, IsShown}
use Rattle.proof_engine_view.specs.FrameViews.{AreSent, CanLeave, all_gone}
use Rattle.proof_engine_view.specs.Transfers.{Announcements, AnnouncementsGrow, after_out}
use Rattle.proof_engine_view.specs.UnderWay.{AreTaken, AreUnderWay, IsTakenAt}
use Rattle.proof_engine_steps.specs.Steps.{IsCalled}
use Rattle.proof_engine_steps.proofs.RowLemmas.{posted_push, push_jobs}
use Rattle.proof_engine_steps.proofs.BlockedAnswers.{settled_free, settled_is}
use Rattle.proof_engine_steps.proofs.Tables.{Says, says_some, started_table}
use Rattle.proof_engine_steps.proofs.UnderWay.{keeps_pushed, taken_more, taken_same, taken_set}
use Rattle.proof_engine_steps.proofs.BlockedRanks.{Holding, known_still, shown_with}
use Rattle.proof_engine_steps.proofs.Knowledge.{knows}
pub use Rattle.proof_engine_steps.proofs.BlockedRanks.{holding_of}

-- where the rank's call is not blocked, the core's isn't
pub core_free : (links : Announcements) (e : CoreState) (known : List ℕ) (core : Core) → IsShown links e known core →
    e.blocked ≡ None → core.blocked ≡ None
core_free links e known core s h = subst (λ (b : Option rank.Awaited). IsBlocked s.rows b core.blocked) h s.blocked

-- what is held is shown, where no call is blocked
pub shown_free : (links : Announcements) (e : CoreState) (known : List ℕ) (core : Core) (rows : List Row) →
    Holding links e known core rows → e.blocked ≡ None → core.blocked ≡ None → IsShown links e known core
shown_free links e known core rows h a b =
    shown_with links e known core rows h (subst (λ (x : Option rank.Awaited). IsBlocked rows x core.blocked) (sym a) b)

-- the fault of a call while no other is blocked
pub fault_free : (p : Place) (core : Core) (c : machine.Call) → core.blocked ≡ None →
    queue_fault p (view blank core) c ≡
    queue_fault_by p.size p.message_limit false
    (λ k. standing (slice_get (map (request_of blank) core.jobs) k)) c
fault_free p core c h =
    ap (λ (b : Option Unanswered). queue_fault_by p.size p.message_limit (is_held b)
    (λ k. standing (slice_get (map (request_of blank) core.jobs) k)) c) h

-- no rule is broken
pub no_fault : (a b c d e f : Bool) → a ≡ false → b ≡ false → c ≡ false → d ≡ false → e ≡ false → f ≡ false →
    first_fault ((a, 6) ∷ (b, 4) ∷ (c, 2) ∷ (d, 1) ∷ (e, 3) ∷ (f, 5) ∷ (false, 7) ∷ (false, 9) ∷ (false, 11) ∷ []) ≡
    None
no_fault a b c d e f ha hb hc hd he hf = rw (ha, hb, hc, hd, he, hf)

-- a fault function's first two rules are kept where it finds no fault
pub two_tests : (a b : Bool) (x y : Refusal) (o : Option Refusal) →
    (if a then Some x else (if b then Some y else o)) ≡ None → (a ≡ false) × (b ≡ false) × (o ≡ None)
two_tests true b x y o h = absurd (grind arith)
two_tests false true x y o h = absurd (grind arith)
two_tests false false x y o h = (refl, refl, h)

-- One more request, in both. It may have been announced, so that there is more on the links than before
pub holding_started : (links links' : Announcements) (e e' : CoreState) (known : List ℕ) (core core' : Core)
    (rows : List Row) (key : ℕ) (g : RequestProgress) (job : Job) → Holding links e known core rows →
    slot_at e.slots key ≡ None →
    IsSet e.slots e'.slots key (Some (record { serial = e.serial; progress = g })) → Fits g job →
    core'.jobs ≡ core.jobs ++ job ∷ [] → e'.serial ≡ e.serial + 1 →
    e'.queues.posted ≡ posted_rows rows ++ posted_job key job →
    core'.held ≡ map (held_of links'.from) e'.queues.unexpected →
    AreUnderWay links' known e'.place (rows ++ record { key = key; job = job } ∷ []) e'.transfers e'.queues.unexpected →
    AnnouncementsGrow links links' →
    IsTakenAt links'.from known e.place (rows ++ record { key = key; job = job } ∷ [])
    (Some (record { serial = e.serial; progress = g })) → knows core' ≡ knows core → e'.place ≡ e.place →
    Holding links' e' known core' (rows ++ record { key = key; job = job } ∷ [])
holding_started links links' e e' known core core' rows key g job h fresh set fits js se po he under grow here kn pl =
    record {
      jobs = js ∙ (ap (λ (ys : List Job). ys ++ job ∷ []) h.jobs ∙ sym (push_jobs rows key job));
      count = length-append rows (record { key = key; job = job } ∷ []) ∙ (ap (λ (n : ℕ). n + 1) h.count ∙ sym se);
      table = started_table e.slots e'.slots rows key job (Some (record { serial = e.serial; progress = g })) h.table
          fresh set
          (subst (λ (n : ℕ). Says (Some (record { serial = e.serial; progress = g })) n job) (sym h.count)
          (says_some e.serial g job fits));
      posted = po ∙ sym (posted_push rows key job);
      held = he;
      under_way = under;
      taken = subst
          (λ (x : Place). AreTaken links'.from known x (rows ++ record { key = key; job = job } ∷ []) e'.slots) (sym pl)
          (taken_set links'.from known e.place (rows ++ record { key = key; job = job } ∷ []) e.slots e'.slots key
          (Some (record { serial = e.serial; progress = g })) set
          (taken_same links'.from known e.place rows (rows ++ record { key = key; job = job } ∷ []) e.slots
          (keeps_pushed rows (record { key = key; job = job }))
          (taken_more links links' known e.place rows e.slots grow h.taken)) here);
      knowing = known_still e.place e'.place known (knows core) (knows core') h.knowing pl kn;
    }

-- a call that gives no frame sends none
pub none_sent : (links : Announcements) (known : List ℕ) (f : Option OutgoingText) → f ≡ None →
    AreSent links (all_gone known (as_list f)) []
none_sent links known f none =
    subst (λ (x : Option OutgoingText). AreSent links (all_gone known (as_list x)) []) (sym none) tt

pub none_leave : (p : Place) (f : Option OutgoingText) → f ≡ None → AllByRecursion (CanLeave p) (as_list f)
none_leave p f none = subst (λ (x : Option OutgoingText). AllByRecursion (CanLeave p) (as_list x)) (sym none) tt

-- the serial that the machine gives
pub serial_told : (links : Announcements) (e : CoreState) (known : List ℕ) (core : Core) (q : Request) →
    IsShown links e known core → q.serial ≡ e.serial → length (map (request_of blank) core.jobs) ≡ q.serial
serial_told links e known core q s h =
    length-map core.jobs (request_of blank) ∙
    (ap (λ (js : List Job). length js) s.jobs ∙ (length-map s.rows (λ (r : Row). r.job) ∙ (s.count ∙ sym h)))

-- what a call that starts a request leaves, while no other is blocked
pub record IsStart (links : Announcements) (old : CoreState) (known : List ℕ) (core : Core) (call : RoutedCall)
    (q : Request) (new : CoreState) (after : Effect) : Type 0 where
  pub is : called old.place.endpoint core (call_seen call) ≡ after
  pub fit : queue_fault old.place (view blank core) (call_seen call) ≡ None
  pub place : new.place ≡ old.place
  pub completion : new.completion ≡ old.completion
  pub free : after.core.blocked ≡ None
  -- with what the call announces, if it does
  pub shown : IsShown (after_out links after.out) new known after.core
  pub sends : AreSent (after_out links after.out) (all_gone known (as_list (call_frame old call))) after.out
  pub leaves : AllByRecursion (CanLeave old.place) (as_list (call_frame old call))
  pub reply : call_and_reply (view blank core) (Some (call_seen call)) ≡
      Some (call_seen call, Some (machine.Started q.serial))

-- such a call is answered by its serial
pub started_call : (links : Announcements) (old new : CoreState) (known : List ℕ) (core : Core) (call : RoutedCall)
    (q : Request) (after : Effect) → IsStart links old known core call q new after →
    IsCalled links old known core call (replies.Started q) new
started_call links old new known core call q after s =
    record {
      fit = s.fit;
      place = s.place;
      completion = s.completion;
      shown = subst (λ (f : Effect). IsShown (after_out links f.out) new known (core_settled f.core)) (sym s.is)
          (subst (λ (c : Core). IsShown (after_out links after.out) new known c) (sym (settled_free after.core s.free))
          s.shown);
      settled = settled_is (called old.place.endpoint core (call_seen call)).core;
      sends = subst
          (λ (f : Effect). AreSent (after_out links f.out) (all_gone known (as_list (call_frame old call))) f.out)
          (sym s.is) s.sends;
      leaves = s.leaves;
      tells = ap
          (λ (o : Option (machine.Call × Option machine.Reply)). told old.place.endpoint o
          (core_ready (called old.place.endpoint core (call_seen call)).core)) s.reply;
    }
