-- A large send of a rank to another one: what its core in the network does with it, what it leaves of the rank, and its
-- frame.
use Rattle.std.proofs.Common.{◌^◌, ◌≡◌, ℕ, ◌+◌, ◌*◌, ◌<◌, ◌≤◌, ◌==◌, ◌||◌, Bool, true, false, List, [], ◌∷◌, ◌++◌}
use Rattle.std.proofs.Common.{length, Option, Some, None, if◌then◌else◌, nat_le, refl, sym, ap, ap₂, ◌∙◌, subst, arith}
use Rattle.std.proofs.lemmas.Bool.{and_left, lt-leb, ltb-true}
use Rattle.vocabulary.specs.BasicTypes.{size_of}
use Rattle.vocabulary.specs.Limits.{greatest_limit, highest_tag}
use Rattle.vocabulary.specs.MessageLimits.{frame_limit_of}
use Rattle.vocabulary.specs.declared.message_limit.MessageLimit.{MessageLimit}
use Rattle.vocabulary.specs.Endpoints.{is_same}
use Rattle.vocabulary.specs.declared.basic_type.BasicType.{BasicType}
use Rattle.vocabulary.specs.declared.endpoint.Endpoint.{Endpoint}
use Rattle.vocabulary.specs.declared.mode.Mode.{Mode}
use Rattle.vocabulary.specs.declared.mode.Mode.TheVariants.{Standard, Synchronous}
use Rattle.vocabulary.specs.declared.envelope.Source.{Source}
use Rattle.vocabulary.specs.declared.envelope.Source.TheVariants.{Rank}
use Rattle.datatypes.specs.Contents.{Contents}
use Rattle.datatypes.specs.ContentLaws.{sizes}
use Rattle.incarnation.specs.declared.place.Place.{Place}
use Rattle.perfect_queues.specs.Calls as machine
use Rattle.requests.specs.Regions.{sent_from}
use Rattle.requests.specs.Table.{IsSet}
use Rattle.requests.specs.declared.table.TableEntry.{TableEntry}
use Rattle.requests.specs.declared.table.RequestProgress.TheVariants.{Offering}
use Rattle.requests.specs.declared.table.Request.{Request}
use Rattle.point_to_point_calls.specs.declared.refusal.Refusal.{Refusal}
use Rattle.point_to_point_calls.specs.declared.refusal.Refusal.TheVariants as refusals
use Rattle.point_to_point_calls.specs.declared.call.RoutedSend.{RoutedSend}
use Rattle.datagram.specs.Spellings.{FrameText, OutgoingText}
use Rattle.point_to_point_calls.specs.SendRules.{announced_to, destination, eager_frame, frame_to, frame_unless}
use Rattle.point_to_point_calls.specs.SendRules.{is_announced, is_own, is_to_itself, offered_by, or_worn_out}
use Rattle.point_to_point_calls.specs.SendRules.{progress_of_send, rank_to, rank_unless, request_frame}
use Rattle.point_to_point.specs.CoreState.{CoreState}
use Rattle.point_to_point.specs.Sends.{IsOffering, IsSending, arrived_at_itself, arrived_if, begun, frame_of}
use Rattle.point_to_point.specs.Sends.{waiting_of}
use Rattle.rendezvous.specs.State as transfers
use Rattle.rendezvous.specs.State.{after_begin, is_full_to, most_transfers, next_to}
use Rattle.proof_pure_network.specs.Core.{Core, effect, with_jobs}
use Rattle.proof_pure_network.specs.Engine.{sends, sends_to}
use Rattle.proof_pure_network.specs.Frames.{Frame, Rts}
use Rattle.proof_pure_network.specs.Jobs as jobs
use Rattle.proof_engine_view.specs.Frames.{endpoint_of}
use Rattle.proof_engine_view.specs.FrameViews.{AreSent, CanLeave, all_gone}
use Rattle.proof_engine_view.specs.Transfers.{Announcements, after_out}
use Rattle.proof_engine_steps.proofs.Announcements.{request_stands}

-- ---- THE CORE'S SEND

-- the core once a large message of a send was announced
abbrev pub core_offering : Core → Endpoint → BasicType → List ℕ → Core
core_offering core d basic values = with_jobs core (core.jobs ++ jobs.Offering d basic values ∷ [])

-- the envelope that goes out then
abbrev pub announcement_of : Core → Endpoint → (context tag : ℕ) → BasicType → List ℕ → Endpoint × Frame
announcement_of core d c tag basic values = (d, Rts c tag basic (length core.jobs) (length values))

-- elements that are announced aren't finished in their own call, where they go to another rank
waits_for_match : (limit : MessageLimit) (mode : Mode) (own d : Endpoint) (x : Contents) → is_same d own ≡ false →
    is_announced limit mode x ≡ true → machine.is_eager limit mode own d x.basic x.values ≡ false
waits_for_match limit Standard own d x other large =
    let few : nat_le (length x.values * size_of x.basic) (frame_limit_of limit) ≡ false = lt-leb (length x.values * size_of x.basic) (frame_limit_of limit) (ltb-true (frame_limit_of limit) (length x.values * size_of x.basic) large) in
    ap₂ (λ (a b : Bool). a || b) few other
waits_for_match limit Synchronous own d x other large = refl

-- a send to another rank whose message is announced
pub core_announces : (mode : Mode) (core : Core) (own : Endpoint) (to i c tag : ℕ) (x : Contents) →
    (to == own.rank) ≡ false → is_announced core.message_limit mode x ≡ true → core.known to ≡ i →
    sends_to mode own core c (Rank to) (Some tag) x.basic x.values
    ≡ effect (core_offering core (record { rank = to; incarnation = i }) x.basic x.values)
    (announcement_of core (record { rank = to; incarnation = i }) c tag x.basic x.values ∷ [])
core_announces mode core own to i c tag x other large known =
    ap (λ (b : Bool). sends own core d (is_same d own) c tag x.basic x.values b)
    (waits_for_match core.message_limit mode own d x elsewhere large)
    ∙ (ap (λ (b : Bool). sends own core d b c tag x.basic x.values false) elsewhere
    ∙ ap (λ (n : ℕ). effect (core_offering core (record { rank = to; incarnation = n }) x.basic x.values)
    (announcement_of core (record { rank = to; incarnation = n }) c tag x.basic x.values ∷ [])) known)
  where
    d : Endpoint
    d = machine.receiver core.known to

    elsewhere : is_same d own ≡ false
    elsewhere = and_left (to == own.rank) (core.known to == own.incarnation) other

-- ---- THE RANK'S SEND

-- it is announced to that rank
pub is_announced_to : (p : Place) (s : RoutedSend) (to tag : ℕ) → s.route.named ≡ Rank to → s.send.tag ≡ Some tag →
    (to == p.endpoint.rank) ≡ false → is_announced p.message_limit s.send.mode (sent_from s.send.from) ≡ true →
    announced_to p s ≡ Some to
is_announced_to p s to tag target_is tag_is other large =
    ap (λ (b : Bool). if b then rank_to p (destination s.route.named s.send.tag s.route.context) else None) large
    ∙ (ap₂ (λ (t : Source) (g : Option ℕ). rank_to p (destination t g s.route.context)) target_is tag_is
    ∙ ap (λ (b : Bool). rank_unless b (record { rank = to; tag = tag; context = s.route.context })) other)

-- where no limit refused it, a number is left for it
free_after : (fault : Option Refusal) (to : ℕ) (t : transfers.State) → or_worn_out fault (Some to) t ≡ None →
    is_full_to t.numbers to ≡ false
free_after (Some e) to t fine = absurd cc
free_after None to t fine = go (is_full_to t.numbers to) fine
  where
    go : (b : Bool) → (if b then Some refusals.Limit else None) ≡ None → b ≡ false
    go true h = absurd cc
    go false h = refl

pub number_left : (fault : Option Refusal) (rank : Option ℕ) (to : ℕ) (t : transfers.State) → rank ≡ Some to →
    or_worn_out fault rank t ≡ None → is_full_to t.numbers to ≡ false
number_left fault rank to t is fine =
    free_after fault to t (subst (λ (o : Option ℕ). or_worn_out fault o t ≡ None) is fine)

-- one that goes to another rank isn't one to itself
pub not_to_itself : (p : Place) (s : RoutedSend) (to tag : ℕ) → s.route.named ≡ Rank to → s.send.tag ≡ Some tag →
    (to == p.endpoint.rank) ≡ false → is_to_itself p s ≡ false
not_to_itself p s to tag target_is tag_is other =
    ap₂ (λ (t : Source) (g : Option ℕ). is_own p (destination t g s.route.context)) target_is tag_is ∙ other

-- so none of the rank's own sends waits for a match then
pub none_waits : (mode : Mode) (own : Bool) (q : Request) → own ≡ false → waiting_of mode own q ≡ None
none_waits Standard own q is = refl
none_waits Synchronous true q is = absurd cc
none_waits Synchronous false q is = refl

-- its request waits for the answer
pub large_sending : (old new : CoreState) (s : RoutedSend) (q : Request) (to tag : ℕ) → s.route.named ≡ Rank to →
    s.send.tag ≡ Some tag → (to == old.place.endpoint.rank) ≡ false →
    is_announced old.place.message_limit s.send.mode (sent_from s.send.from) ≡ true → IsSending old s q new →
    IsOffering old to (sent_from s.send.from) q new
large_sending old new s q to tag target_is tag_is other large sent =
    record {
      fresh = sent.fresh;
      serial = sent.serial;
      entry = subst
          (λ (slots : List (Option TableEntry)). IsSet old.slots slots q.key
          (Some (record { serial = old.serial; progress = Offering }))) (sym slots_are)
          (subst (λ (to : Option ℕ). IsSet old.slots sent.started q.key
          (Some (record { serial = old.serial; progress = progress_of_send to }))) announced
          (subst (λ (w : Option Request). IsSet old.slots sent.started q.key
          (Some (record { serial = old.serial; progress = begun w (announced_to old.place s) })))
          (none_waits s.send.mode (is_to_itself old.place s) q
          (not_to_itself old.place s to tag target_is tag_is other))
          sent.entry));
      rest = rest ∙ ap left (sym slots_are);
    }
  where
    c : Contents
    c = sent_from s.send.from

    announced : announced_to old.place s ≡ Some to
    announced = is_announced_to old.place s to tag target_is tag_is other large

    -- the rank with these slots
    left : List (Option TableEntry) → CoreState
    left slots = record old { slots = slots; serial = old.serial + 1; transfers = after_begin old.transfers to q.key c }

    -- the own send that waits, if one does
    w : Option Request
    w = waiting_of s.send.mode (is_to_itself old.place s) q

    rest : new ≡ left sent.started
    rest = sent.rest
        ∙ (ap (λ (x : Option ℕ). arrived_at_itself
        (record old {
          slots = sent.started;
          serial = old.serial + 1;
          transfers =
              offered_by old.transfers x q.key c;
        }) (destination s.route.named s.send.tag s.route.context) w c) announced
        ∙ (ap₂ (λ (t : Source) (g : Option ℕ). arrived_at_itself (left sent.started) (destination t g s.route.context) w
        c)
        target_is tag_is
        ∙ ap (λ (b : Bool). arrived_if b (left sent.started)
        (record { rank = to; tag = tag; context = s.route.context }) w c)
        other))

    slots_are : new.slots ≡ sent.started
    slots_are = ap (λ (x : CoreState). x.slots) rest

-- ---- ITS FRAME

-- the frame that announces it
abbrev pub announcing_frame : Mode → CoreState → (to context tag : ℕ) → Contents → OutgoingText
announcing_frame mode old to context tag c =
    record { target = to; frame = request_frame mode (next_to old.transfers.numbers to) context tag c }

pub large_frame : (old : CoreState) (s : RoutedSend) (to tag : ℕ) → s.route.named ≡ Rank to → s.send.tag ≡ Some tag →
    (to == old.place.endpoint.rank) ≡ false → is_announced old.place.message_limit s.send.mode
    (sent_from s.send.from) ≡ true →
    frame_of old s ≡ Some (announcing_frame s.send.mode old to s.route.context tag (sent_from s.send.from))
large_frame old s to tag target_is tag_is other large =
    ap₂ (λ (t : Source) (g : Option ℕ). frame_to old.place old.transfers s.send.mode (destination t g s.route.context)
    c) target_is
    tag_is
    ∙ (ap (λ (b : Bool). frame_unless b old.place.message_limit old.transfers s.send.mode
    (record { rank = to; tag = tag; context = s.route.context }) c)
    other
    ∙ ap (λ (b : Bool). Some (record { target = to; frame = with_frame b })) large)
  where
    c : Contents
    c = sent_from s.send.from

    with_frame : Bool → FrameText
    with_frame b = if b then request_frame s.send.mode (next_to old.transfers.numbers to) s.route.context tag c else
        eager_frame s.route.context tag c

-- it can leave the rank
pub announcing_leaves : (mode : Mode) (p : Place) (to number context tag : ℕ) (c : Contents) → context < 2 ^ 64 →
    to < p.size → (to ≡ p.endpoint.rank → ⊥) → tag ≤ highest_tag →
    length c.values * size_of c.basic ≤ greatest_limit → number ≤ most_transfers →
    CanLeave p (record { target = to; frame = request_frame mode number context tag c })
announcing_leaves mode p to number context tag c wide there apart low limit most =
    let size : 0 < size_of c.basic = (sizes c.basic).positive in
    let least : length c.values ≤ length c.values * size_of c.basic = grind arith in
    record {
      there = there;
      apart = apart;
      fits = record { tag = low; plane = tt };
      width = record { context = wide; count = omega (arith, least, limit); transfer = omega (arith, most) };
    }

-- it stands for what the core announces
pub announcing_sent : (mode : Mode) (a : Announcements) (known : List ℕ) (to number context tag serial : ℕ)
    (c : Contents) → number ≡ length (a.to (endpoint_of known to)) →
    AreSent (after_out a ((endpoint_of known to, Rts context tag c.basic serial (length c.values)) ∷ []))
    (all_gone known (record { target = to; frame = request_frame mode number context tag c } ∷ []))
    ((endpoint_of known to, Rts context tag c.basic serial (length c.values)) ∷ [])
announcing_sent mode a known to number context tag serial c is = (
  refl,
  request_stands mode a (endpoint_of known to) number context tag serial c (a.from (endpoint_of known to)) is,
  tt,
)
