-- A send of a rank to another one, or to the null process, is that of its core in the network.
use Rattle.datagram.specs.Spellings.{OutgoingText}
use Rattle.vocabulary.specs.MessageLimits.{frame_limit_of, limit_of}
use Rattle.vocabulary.proofs.MessageLimits.{frame_most}
use Rattle.vocabulary.specs.declared.message_limit.MessageLimit.{MessageLimit}
use Rattle.vocabulary.specs.Limits.{highest_tag}
use Rattle.std.proofs.Common.{◌^◌, ◌≡◌, ℕ, ◌+◌, ◌*◌, ◌<◌, ◌≤◌, Bool, true, false, List, [], ◌∷◌, ◌++◌, length, Option}
use Rattle.std.proofs.Common.{Some, None, if◌then◌else◌, ◌==◌, ◌||◌, ap₂, nat_le, nat_lt, slice_index, refl, sym, ap}
use Rattle.std.proofs.Common.{◌∙◌, subst, arith, append-nil}
use Rattle.std.specs.List.{AllByRecursion}
use Rattle.std.proofs.lemmas.Bool.{and_left, eqb-false, le-leb, le-ltb, leb-false, ltb-false, or_left}
use Rattle.vocabulary.specs.BasicTypes.{size_of}
use Rattle.vocabulary.specs.declared.envelope.Source.{Source}
use Rattle.vocabulary.specs.declared.envelope.Source.TheVariants.{Null, Rank}
use Rattle.perfect_queues.specs.Buffers.{data_of, differs_in_type, is_too_short}
use Rattle.perfect_queues.specs.Calls as machine
use Rattle.vocabulary.specs.Endpoints.{is_same}
use Rattle.perfect_queues.specs.Outcomes as ends
use Rattle.perfect_queues.specs.Refusals as rules
use Rattle.vocabulary.specs.declared.endpoint.Endpoint.{Endpoint}
use Rattle.vocabulary.specs.declared.mode.Mode.{Mode}
use Rattle.vocabulary.specs.declared.mode.Mode.TheVariants.{Standard, Synchronous}
use Rattle.proof_pure_network.specs.Core.{Core, Effect, effect, view}
use Rattle.proof_pure_network.specs.Engine.{pushed_over, sends, sends_to}
use Rattle.proof_pure_network.specs.Frames.{Eager, Frame}
use Rattle.proof_pure_network.specs.WaitingMessages.{blank}
use Rattle.proof_pure_network.specs.Jobs.{Over}
use Rattle.requests.specs.Regions.{byte_count, handed_of, sent_from}
use Rattle.requests.specs.declared.outcome.Outcome.TheVariants.{Sent}
use Rattle.requests.specs.declared.table.RequestProgress.TheVariants.{Finished}
use Rattle.requests.specs.declared.table.Request.{Request}
use Rattle.point_to_point_calls.specs.CoreCalls as calls
use Rattle.point_to_point_calls.specs.declared.call.RoutedSend.{RoutedSend}
use Rattle.incarnation.specs.declared.place.Place.{Place}
use Rattle.point_to_point_calls.specs.declared.refusal.Refusal.{Refusal}
use Rattle.point_to_point_calls.specs.declared.refusal.Refusal.TheVariants as refusals
use Rattle.datatypes.specs.ContentLaws.{length-bytes_of, sizes, values_of-bytes_of}
use Rattle.datatypes.specs.Contents.{AreWithin, Contents, bytes_of, values_of}
use Rattle.point_to_point_calls.specs.Calls.{IsWithin}
use Rattle.point_to_point.specs.CoreState.{CoreState}
use Rattle.point_to_point_calls.specs.Frames.{as_list}
use Rattle.point_to_point_calls.specs.SendRules.{announced_to, destination, eager_frame, frame_to, frame_unless}
use Rattle.point_to_point_calls.specs.SendRules.{is_announced, is_own, is_to_itself, offered_by, progress_of_send}
use Rattle.point_to_point_calls.specs.SendRules.{rank_to, request_frame, send_fault}
use Rattle.point_to_point.specs.Sends.{IsSending, arrived_at_itself, arrived_if, begun, frame_of, waiting_of}
use Rattle.rendezvous.specs.State.{next_to}
use Rattle.requests.specs.Table.{IsSet, slot_at}
use Rattle.requests.specs.declared.table.TableEntry.{TableEntry}
use Rattle.proof_engine_view.specs.Faults.{queue_fault}
use Rattle.proof_engine_view.specs.Frames.{endpoint_of}
use Rattle.proof_engine_view.specs.Rows.{Row, posted_rows}
use Rattle.observation.specs.CoreCalls.{call_seen}
use Rattle.proof_engine_view.specs.CoreViews.{IsShown}
use Rattle.proof_engine_view.specs.FrameViews.{AreSent, CanLeave, all_gone}
use Rattle.proof_engine_view.specs.Transfers.{Announcements, after_out}
use Rattle.proof_engine_steps.specs.Steps.{IsCalled}
use Rattle.proof_engine_steps.proofs.LargeSends.{none_waits, not_to_itself}
use Rattle.proof_engine_steps.proofs.Regions.{handed_buffer}
use Rattle.proof_engine_steps.proofs.RequestStarts.{
  core_free,
  fault_free,
  holding_of,
  holding_started,
  no_fault,
  none_leave,
}
use Rattle.proof_engine_steps.proofs.RequestStarts.{none_sent, serial_told, shown_free, started_call, two_tests}
use Rattle.proof_engine_steps.proofs.UnchangedTransfers.{AreQuiet, shown_quiet, under_way_still}
use Rattle.proof_engine_steps.proofs.UnderWay.{after_grows_not, same_pushed}
use Rattle.proof_engine_steps.proofs.BlockedRanks.{Holding}

-- WHAT A SEND THAT WAS TAKEN MET

-- no fault: the test fails
one_test : (b : Bool) (x : Refusal) → (if b then Some x else None) ≡ None → b ≡ false
one_test true x h = absurd cc
one_test false x h = refl

-- buffer and layout have one type, not too many bytes, a buffer that is long enough, a tag that is allowed, and a rank
-- of the job or the null process
pub record KeepsRules (p : Place) (s : RoutedSend) : Type 0 where
  pub one_type : differs_in_type (handed_of s.send.from) ≡ false
  pub few : byte_count s.send.from ≤ limit_of p.message_limit
  pub long : is_too_short (handed_of s.send.from) ≡ false
  pub low : rules.is_no_tag s.send.tag ≡ false
  pub inside : rules.is_no_target p.size s.route.named ≡ false

pub send_rules : (p : Place) (s : RoutedSend) → send_fault p s ≡ None → KeepsRules p s
unfolding send_fault
send_rules p s fine =
    let last : Option Refusal = if rules.is_no_target p.size s.route.named then Some refusals.Rank else None in
    let t = two_tests (differs_in_type (handed_of s.send.from))
    (nat_lt (limit_of p.message_limit) (byte_count s.send.from)) refusals.WrongType refusals.Count
    (if is_too_short (handed_of s.send.from) then Some refusals.Count else
    (if rules.is_no_tag s.send.tag then Some refusals.Tag else last)) fine in
    let u = two_tests (is_too_short (handed_of s.send.from)) (rules.is_no_tag s.send.tag) refusals.Count refusals.Tag last t.2 in
    record {
      one_type = t.0;
      few = ltb-false (limit_of p.message_limit) (byte_count s.send.from) t.1;
      long = u.0;
      low = u.1;
      inside = one_test (rules.is_no_target p.size s.route.named) refusals.Rank u.2;
    }

-- so many bytes, in a buffer that is long enough or isn't, are as many as the machine allows
pub send_count : (limit : ℕ) (s : RoutedSend) (b : Bool) → byte_count s.send.from ≤ limit →
    is_too_short (handed_of s.send.from) ≡ b →
    (nat_lt limit (length (data_of (handed_of s.send.from)) * size_of (handed_of s.send.from).buffer.basic) ||
    is_too_short (handed_of s.send.from)) ≡ b
send_count limit s b few long =
    ap₂ (λ (x y : Bool). x || y)
    (ap (λ (c : Contents). nat_lt limit (length (data_of (handed_of s.send.from)) * size_of c.basic))
    (handed_buffer s.send.from)
    ∙ le-ltb limit (byte_count s.send.from) few) long

-- too many bytes are more than the machine allows, whatever the buffer
pub send_over : (limit : ℕ) (s : RoutedSend) → nat_lt limit (byte_count s.send.from) ≡ true →
    (nat_lt limit (length (data_of (handed_of s.send.from)) * size_of (handed_of s.send.from).buffer.basic) ||
    is_too_short (handed_of s.send.from)) ≡ true
send_over limit s over =
    ap (λ (x : Bool). x || is_too_short (handed_of s.send.from))
    (ap (λ (c : Contents). nat_lt limit (length (data_of (handed_of s.send.from)) * size_of c.basic))
    (handed_buffer s.send.from) ∙ over)

-- no rule of the machine is broken
pub send_fit : (p : Place) (core : Core) (s : RoutedSend) → core.blocked ≡ None → KeepsRules p s →
    queue_fault p (view blank core) (call_seen (calls.Isend s)) ≡ None
send_fit p core s free kept =
    fault_free p core (call_seen (calls.Isend s)) free ∙
    no_fault false false (differs_in_type (handed_of s.send.from))
    (nat_lt (limit_of p.message_limit)
    (length (data_of (handed_of s.send.from)) * size_of (handed_of s.send.from).buffer.basic) ||
    is_too_short (handed_of s.send.from))
    (rules.is_no_tag s.send.tag) (rules.is_no_target p.size s.route.named)
    refl refl kept.one_type (send_count (limit_of p.message_limit) s false kept.few kept.long) kept.low kept.inside

-- THE CORE'S SEND

-- these elements go to a target, in a context
abbrev pub core_sent : Mode → Endpoint → Core → (context : ℕ) → Source → Option ℕ → Contents → Effect
core_sent mode e core context target tag c = sends_to mode e core context target tag c.basic c.values

-- elements that aren't announced go in one frame
few_of : (limit : MessageLimit) (mode : Mode) (c : Contents) → is_announced limit mode c ≡ false →
    length c.values * size_of c.basic ≤ frame_limit_of limit
few_of limit Standard c small = ltb-false (frame_limit_of limit) (length c.values * size_of c.basic) small
few_of limit Synchronous c small = absurd cc

-- and are finished in their own call
needs_no_match : (limit : MessageLimit) (mode : Mode) (own d : Endpoint) (c : Contents) →
    is_announced limit mode c ≡ false → machine.is_eager limit mode own d c.basic c.values ≡ true
needs_no_match limit Standard own d c small =
    or_left (nat_le (length c.values * size_of c.basic) (frame_limit_of limit)) (is_same d own)
    (le-leb (length c.values * size_of c.basic) (frame_limit_of limit) (few_of limit Standard c small))
needs_no_match limit Synchronous own d c small = absurd cc

-- a small send to another rank
core_sends : (mode : Mode) (core : Core) (own : Endpoint) (to i context tag : ℕ) (c : Contents) →
    (to == own.rank) ≡ false → is_announced core.message_limit mode c ≡ false → core.known to ≡ i →
    sends_to mode own core context (Rank to) (Some tag) c.basic c.values ≡
    effect (pushed_over core) ((record { rank = to; incarnation = i }, Eager context tag c.basic c.values) ∷ [])
core_sends mode core own to i context tag c other small known =
    ap (λ (b : Bool). sends own core d b context tag c.basic c.values
    (machine.is_eager core.message_limit mode own d c.basic c.values))
    (and_left (to == own.rank) (core.known to == own.incarnation) other) ∙
    (ap (λ (b : Bool). sends own core d false context tag c.basic c.values b)
    (needs_no_match core.message_limit mode own d c small) ∙
    ap (λ (n : ℕ). effect (pushed_over core)
    ((record { rank = to; incarnation = n }, Eager context tag c.basic c.values) ∷ [])) known)
  where
    d : Endpoint
    d = machine.receiver core.known to

-- what is sent of a region
pub called_send : (core : Core) (own : Endpoint) (s : RoutedSend) →
    sends_to s.send.mode own core s.route.context s.route.named s.send.tag (handed_of s.send.from).buffer.basic
    (data_of (handed_of s.send.from)) ≡
    core_sent s.send.mode own core s.route.context s.route.named s.send.tag (sent_from s.send.from)
called_send core own s =
    ap (λ (b : Contents). sends_to s.send.mode own core s.route.context s.route.named s.send.tag b.basic
    (data_of (handed_of s.send.from)))
    (handed_buffer s.send.from)

-- THE RANK'S SEND

-- what a send leaves whose message isn't announced: its request is finished
pub record IsSmallSending (old : CoreState) (s : RoutedSend) (q : Request) (new : CoreState) : Type 0 where
  pub fresh : slot_at old.slots q.key ≡ None
  pub serial : q.serial ≡ old.serial
  pub started : List (Option TableEntry)
  pub entry : IsSet old.slots started q.key (Some (record { serial = old.serial; progress = Finished Sent }))
  pub rest : new ≡ arrived_at_itself (record old { slots = started; serial = old.serial + 1 })
      (destination s.route.named s.send.tag s.route.context) None (sent_from s.send.from)

-- each send whose message isn't announced, and that waits for no match, is such a one
pub small_sending : (old new : CoreState) (s : RoutedSend) (q : Request) → announced_to old.place s ≡ None →
    waiting_of s.send.mode (is_to_itself old.place s) q ≡ None → IsSending old s q new → IsSmallSending old s q new
small_sending old new s q none no_wait sent =
    record {
      fresh = sent.fresh;
      serial = sent.serial;
      started = sent.started;
      entry = subst
          (λ (a : Option ℕ). IsSet old.slots sent.started q.key
          (Some (record { serial = old.serial; progress = progress_of_send a }))) none
          (subst (λ (w : Option Request). IsSet old.slots sent.started q.key
          (Some (record { serial = old.serial; progress = begun w (announced_to old.place s) }))) no_wait
          sent.entry);
      rest = subst (λ (a : Option ℕ). new ≡
          arrived_at_itself
          (record old {
            slots = sent.started;
            serial = old.serial + 1;
            transfers =
                offered_by old.transfers a q.key (sent_from s.send.from);
          })
          (destination s.route.named s.send.tag s.route.context) None (sent_from s.send.from)) none
          (subst (λ (w : Option Request). new ≡
          arrived_at_itself
          (record old {
            slots = sent.started;
            serial = old.serial + 1;
            transfers =
                offered_by old.transfers (announced_to old.place s) q.key (sent_from s.send.from);
          })
          (destination s.route.named s.send.tag s.route.context) w (sent_from s.send.from)) no_wait sent.rest);
    }

-- nothing is announced that goes in one frame
pub announced_small : (p : Place) (s : RoutedSend) →
    is_announced p.message_limit s.send.mode (sent_from s.send.from) ≡ false →
    announced_to p s ≡ None
announced_small p s small =
    ap (λ (b : Bool). if b then rank_to p (destination s.route.named s.send.tag s.route.context) else None) small

-- nor what goes to no other rank
pub announced_nowhere : (p : Place) (s : RoutedSend) → rank_to p (destination s.route.named s.send.tag s.route.context)
    ≡ None →
    announced_to p s ≡ None
announced_nowhere p s nowhere = go (is_announced p.message_limit s.send.mode (sent_from s.send.from))
  where
    go : (b : Bool) → (if b then rank_to p (destination s.route.named s.send.tag s.route.context) else None) ≡ None
    go true = nowhere
    go false = refl

-- its request is there, and is over
pub send_holds : (links : Announcements) (old : CoreState) (known : List ℕ) (core : Core) (s : RoutedSend) (q : Request)
    (new : CoreState) → (shown : IsShown links old known core) → (sent : IsSmallSending old s q new) →
    Holding links (record old { slots = sent.started; serial = old.serial + 1 }) known (pushed_over core)
    (shown.rows ++ record { key = q.key; job = Over ends.Sent } ∷ [])
send_holds links old known core s q new shown sent =
    holding_started links links old (record old { slots = sent.started; serial = old.serial + 1 }) known core
    (pushed_over core) shown.rows q.key (Finished Sent) (Over ends.Sent)
    (holding_of links old known core shown) sent.fresh sent.entry refl refl refl
    (shown.posted ∙ sym (append-nil (posted_rows shown.rows))) shown.held
    (under_way_still links known old.place old.place shown.rows
    (shown.rows ++ record { key = q.key; job = Over ends.Sent } ∷ []) old.transfers old.transfers
    old.queues.unexpected old.queues.unexpected shown.under_way
    (same_pushed shown.rows q.key (Over ends.Sent) (λ i. i)) refl refl refl)
    (after_grows_not links) tt refl refl

-- what such a send leaves of the rank but for its requests and queues
pub record Stays (old new : CoreState) : Type 0 where
  pub place : new.place ≡ old.place
  pub completion : new.completion ≡ old.completion
  pub blocked : new.blocked ≡ old.blocked

-- A send that was started and announces nothing, by what the core makes of it
pub send_started : (links : Announcements) (old new : CoreState) (known : List ℕ) (core : Core) (s : RoutedSend)
    (q : Request) (after : Effect) (rows : List Row) → IsShown links old known core → old.blocked ≡ None →
    KeepsRules old.place s → q.serial ≡ old.serial →
    core_sent s.send.mode old.place.endpoint core s.route.context s.route.named s.send.tag (sent_from s.send.from) ≡
    after →
    Holding links new known after.core rows →
    after.core.blocked ≡ core.blocked → Stays old new → AreQuiet after.out →
    AreSent (after_out links after.out) (all_gone known (as_list (frame_of old s))) after.out →
    AllByRecursion (CanLeave old.place) (as_list (frame_of old s)) →
    IsCalled links old known core (calls.Isend s) (calls.Started q) new
send_started links old new known core s q after rows shown free kept serial is holding same stays quiet out leave =
    let core_is : core.blocked ≡ None = core_free links old known core shown free in
    started_call links old new known core (calls.Isend s) q after (record {
      is = called_send core old.place.endpoint s ∙ is;
      fit = send_fit old.place core s core_is kept;
      place = stays.place;
      completion = stays.completion;
      free = same ∙ core_is;
      shown = shown_quiet links new known after.core after.out quiet
          (shown_free links new known after.core rows holding (stays.blocked ∙ free) (same ∙ core_is));
      sends = out;
      leaves = leave;
      reply = ap (λ (n : ℕ). Some (call_seen (calls.Isend s), Some (machine.Started n)))
          (serial_told links old known core q shown serial);
    })

-- the same, where nothing comes to the own rank
away_shown : (links : Announcements) (old new : CoreState) (known : List ℕ) (core : Core) (s : RoutedSend) (q : Request)
    (after : Effect) → (shown : IsShown links old known core) → old.blocked ≡ None →
    KeepsRules old.place s → (sent : IsSmallSending old s q new) →
    new ≡ record old { slots = sent.started; serial = old.serial + 1 } →
    core_sent s.send.mode old.place.endpoint core s.route.context s.route.named s.send.tag (sent_from s.send.from) ≡
    after →
    after.core ≡ pushed_over core →
    AreQuiet after.out → AreSent (after_out links after.out) (all_gone known (as_list (frame_of old s))) after.out →
    AllByRecursion (CanLeave old.place) (as_list (frame_of old s)) →
    IsCalled links old known core (calls.Isend s) (calls.Started q) new
away_shown links old new known core s q after shown free kept sent rest is left quiet out leave =
    send_started links old new known core s q after (shown.rows ++ record { key = q.key; job = Over ends.Sent } ∷
    []) shown free kept sent.serial is
    (subst (λ (c : Core). Holding links new known c (shown.rows ++ record { key = q.key; job = Over ends.Sent } ∷ []))
    (sym left)
    (subst (λ (e : CoreState). Holding links e known (pushed_over core)
    (shown.rows ++ record { key = q.key; job = Over ends.Sent } ∷ [])) (sym rest)
    (send_holds links old known core s q new shown sent)))
    (ap (λ (c : Core). c.blocked) left)
    (record {
      place = ap (λ (e : CoreState). e.place) rest;
      completion = ap (λ (e : CoreState). e.completion) rest;
      blocked = ap (λ (e : CoreState). e.blocked) rest;
    })
    quiet out leave

-- a send to the null process
pub null_send_shown : (links : Announcements) (old new : CoreState) (known : List ℕ) (core : Core) (s : RoutedSend)
    (q : Request) → IsShown links old known core → old.blocked ≡ None →
    s.route.named ≡ Null → KeepsRules old.place s → IsSending old s q new →
    IsCalled links old known core (calls.Isend s) (calls.Started q) new
null_send_shown links old new known core s q shown free is kept is_sent =
    away_shown links old new known core s q (effect (pushed_over core) []) shown free kept sent
    (sent.rest ∙
    ap (λ (t : Source). arrived_at_itself (record old { slots = sent.started; serial = old.serial + 1 })
    (destination t s.send.tag s.route.context) None (sent_from s.send.from)) is)
    (ap (λ (t : Source). core_sent s.send.mode old.place.endpoint core s.route.context t s.send.tag
    (sent_from s.send.from)) is) refl tt
    (none_sent (after_out links []) known (frame_of old s) none) (none_leave old.place (frame_of old s) none)
  where
    sent : IsSmallSending old s q new
    sent = small_sending old new s q
        (announced_nowhere old.place s (ap (λ (t : Source). rank_to old.place
        (destination t s.send.tag s.route.context)) is))
        (none_waits s.send.mode (is_to_itself old.place s) q
        (ap (λ (t : Source). is_own old.place (destination t s.send.tag s.route.context)) is)) is_sent

    none : frame_of old s ≡ None
    none = ap
        (λ (t : Source). frame_to old.place old.transfers s.send.mode (destination t s.send.tag s.route.context)
        (sent_from s.send.from)) is

-- THE FRAME OF A SMALL SEND

-- its rank and its frame
abbrev eager_for : (to context tag : ℕ) → Contents → OutgoingText
eager_for to context tag c = record { target = to; frame = eager_frame context tag c }

-- elements that go in one frame go in an eager one
small_frame : (old : CoreState) (s : RoutedSend) (to tag : ℕ) → s.route.named ≡ Rank to → s.send.tag ≡ Some tag →
    (to == old.place.endpoint.rank) ≡ false → is_announced old.place.message_limit s.send.mode
    (sent_from s.send.from) ≡ false →
    frame_of old s ≡ Some (eager_for to s.route.context tag (sent_from s.send.from))
small_frame old s to tag target_is tag_is other small =
    ap₂ (λ (t : Source) (g : Option ℕ). frame_to old.place old.transfers s.send.mode (destination t g s.route.context)
    (sent_from s.send.from)) target_is tag_is
    ∙ (ap (λ (b : Bool). frame_unless b old.place.message_limit old.transfers s.send.mode
    (record { rank = to; tag = tag; context = s.route.context })
    (sent_from s.send.from)) other
    ∙ ap (λ (b : Bool). Some
    (record {
      target = to;
      frame =
          if b then request_frame s.send.mode (next_to old.transfers.numbers to) s.route.context tag
          (sent_from s.send.from) else
          eager_frame s.route.context tag (sent_from s.send.from);
    })) small)

-- it can leave the rank
eager_leaves : (p : Place) (to context tag : ℕ) (c : Contents) → context < 2 ^ 64 → to < p.size →
    (to ≡ p.endpoint.rank → ⊥) → tag ≤ highest_tag →
    length c.values * size_of c.basic ≤ frame_limit_of p.message_limit →
    CanLeave p (eager_for to context tag c)
eager_leaves p to context tag c wide there apart low count =
    let sized : length (bytes_of (size_of c.basic) c.values) ≡ length c.values * size_of c.basic = length-bytes_of (size_of c.basic) c.values in
    let size : 0 < size_of c.basic = (sizes c.basic).positive in
    let least : length c.values ≤ length c.values * size_of c.basic = grind arith in
    let most : frame_limit_of p.message_limit ≤ 61440 = frame_most p.message_limit in
    record {
      there = there;
      apart = apart;
      fits = record { tag = low; size = sized; limit = omega (arith, sized, count, most); plane = tt };
      width = record { context = wide; count = omega (arith, least, count, most) };
    }

-- it stands for the network's, where each element has the width of its type
eager_stands : (context tag : ℕ) (c : Contents) → AreWithin (size_of c.basic) c.values →
    ◌≡◌ {A = Option Frame}
    (Some (Eager context tag c.basic (values_of (size_of c.basic) (bytes_of (size_of c.basic) c.values))))
    (Some (Eager context tag c.basic c.values))
eager_stands context tag c within =
    ap (λ (values : List ℕ). Some (Eager context tag c.basic values))
    (values_of-bytes_of (size_of c.basic) c.values (sizes c.basic).positive within)

-- a small send to another rank
pub other_send_shown : (links : Announcements) (old new : CoreState) (known : List ℕ) (core : Core) (s : RoutedSend)
    (q : Request) (to tag : ℕ) → IsShown links old known core → old.blocked ≡ None →
    s.route.named ≡ Rank to → s.send.tag ≡ Some tag → (to == old.place.endpoint.rank) ≡ false → KeepsRules old.place s →
    IsWithin (calls.Isend s) → is_announced old.place.message_limit s.send.mode (sent_from s.send.from) ≡ false →
    IsSending old s q new →
    IsCalled links old known core (calls.Isend s) (calls.Started q) new
other_send_shown links old new known core s q to tag shown free target_is tag_is other kept within small is_sent =
    away_shown links old new known core s q
    (effect (pushed_over core) ((endpoint_of known to, Eager s.route.context tag c.basic c.values) ∷ [])) shown free
    kept
    sent
    (sent.rest ∙ ap₂ (λ (t : Source) (g : Option ℕ). arrived_at_itself started (destination t g s.route.context) None c)
    target_is tag_is ∙
    ap (λ (b : Bool). arrived_if b started (record { rank = to; tag = tag; context = s.route.context }) None c) other)
    (ap₂ (λ (t : Source) (g : Option ℕ). core_sent s.send.mode old.place.endpoint core s.route.context t g c) target_is
    tag_is ∙
    core_sends s.send.mode core old.place.endpoint to (slice_index known to) s.route.context tag c other
    (subst (λ (l : MessageLimit). is_announced l s.send.mode c ≡ false) (sym shown.limited) small)
    (shown.known_alike to))
    refl (tt, tt)
    (subst (λ (f : Option OutgoingText). AreSent
    (after_out links ((endpoint_of known to, Eager s.route.context tag c.basic c.values) ∷ []))
    (all_gone known (as_list f)) ((endpoint_of known to, Eager s.route.context tag c.basic c.values) ∷ []))
    (sym frame) (refl, eager_stands s.route.context tag c within.0, tt))
    (subst (λ (f : Option OutgoingText). AllByRecursion (CanLeave old.place) (as_list f)) (sym frame) (
      eager_leaves old.place to s.route.context tag c within.1 there (eqb-false to old.place.endpoint.rank other) low
          few,
      tt,
    ))
  where
    c : Contents
    c = sent_from s.send.from

    sent : IsSmallSending old s q new
    sent = small_sending old new s q (announced_small old.place s small)
        (none_waits s.send.mode (is_to_itself old.place s) q (not_to_itself old.place s to tag target_is tag_is other))
        is_sent

    few : length c.values * size_of c.basic ≤ frame_limit_of old.place.message_limit
    few = few_of old.place.message_limit s.send.mode c small

    frame : frame_of old s ≡ Some (eager_for to s.route.context tag c)
    frame = small_frame old s to tag target_is tag_is other small

    there : to < old.place.size
    there = leb-false old.place.size to (sym (ap (rules.is_no_target old.place.size) target_is) ∙ kept.inside)

    low : tag ≤ highest_tag
    low = ltb-false highest_tag tag (sym (ap rules.is_no_tag tag_is) ∙ kept.low)

    -- the rank once the request was started
    started : CoreState
    started = record old { slots = sent.started; serial = old.serial + 1 }
