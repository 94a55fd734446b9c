-- A send of a rank, by where it goes: one to the rank itself starts its request, and then its message comes to its own
-- queues.
use Rattle.std.proofs.Common.{◌≡◌, ℕ, ◌+◌, ◌*◌, ◌||◌, nat_le, length, slice_get, Bool, true, false, List, [], ◌∷◌, ◌++◌}
use Rattle.std.proofs.Common.{Option, Some, None, ◌==◌, refl, sym, ap, ap₂, subst, ◌∙◌}
use Rattle.std.proofs.lemmas.Bool.{and_from, eq-eqb, eqb-true}
use Rattle.std.proofs.lemmas.List.{length-map}
use Rattle.datatypes.specs.Contents.{Contents}
use Rattle.vocabulary.specs.declared.envelope.Source.{Source}
use Rattle.vocabulary.specs.declared.envelope.Source.TheVariants.{Any, Null, Rank}
use Rattle.perfect_queues.specs.Calls as machine
use Rattle.perfect_queues.specs.Outcomes as ends
use Rattle.perfect_queues.specs.Refusals as rules
use Rattle.vocabulary.specs.declared.basic_type.BasicType.{BasicType}
use Rattle.vocabulary.specs.BasicTypes.{size_of}
use Rattle.vocabulary.specs.Endpoints.{is_same}
use Rattle.vocabulary.specs.MessageLimits.{frame_limit_of}
use Rattle.vocabulary.specs.declared.endpoint.Endpoint.{Endpoint}
use Rattle.vocabulary.specs.declared.mode.Mode.{Mode}
use Rattle.vocabulary.specs.declared.mode.Mode.TheVariants.{Standard, Synchronous}
use Rattle.incarnation.specs.declared.place.Place.{Place}
use Rattle.match_queues.specs.declared.envelope.Message.{Message}
use Rattle.match_queues.specs.declared.envelope.OwnSend.{OwnSend}
use Rattle.requests.specs.Regions.{sent_from}
use Rattle.requests.specs.Table.{IsSet}
use Rattle.requests.specs.declared.table.RequestProgress.TheVariants as progresses
use Rattle.requests.specs.declared.table.Request.{Request}
use Rattle.point_to_point_calls.specs.CoreCalls as calls
use Rattle.point_to_point_calls.specs.declared.call.RoutedSend.{RoutedSend}
use Rattle.point_to_point.specs.CoreState.{CoreState}
use Rattle.point_to_point.specs.Sends as rank
use Rattle.point_to_point_calls.specs.Calls.{IsWithin}
use Rattle.point_to_point_calls.specs.Frames.{as_list}
use Rattle.point_to_point_calls.specs.SendRules.{
  announced_to,
  destination,
  frame_to,
  frame_unless,
  is_announced,
  is_own,
}
use Rattle.point_to_point_calls.specs.SendRules.{is_to_itself, offered_by, own_message, rank_to, rank_unless}
use Rattle.point_to_point.specs.Calls.{free_fault}
use Rattle.point_to_point.specs.Sends.{IsSending, arrived_at_itself, arrived_if, begun, frame_of, waiting_of}
use Rattle.proof_pure_network.specs.Core.{Core, Effect}
use Rattle.proof_pure_network.specs.Frames.{Frame}
use Rattle.proof_pure_network.specs.Engine as cores
use Rattle.proof_pure_network.specs.Engine.{pushed_over, pushed_own, sends, sends_to}
use Rattle.proof_pure_network.proofs.JobLemmas.{push_at}
use Rattle.proof_pure_network.specs.Jobs.{Job, Over}
use Rattle.proof_pure_network.specs.Matches.{arrived}
use Rattle.proof_engine_view.specs.Rows.{Row, held_of}
use Rattle.proof_engine_view.specs.CoreViews.{IsShown}
use Rattle.proof_engine_view.specs.FrameViews.{AreSent, all_gone}
use Rattle.proof_engine_view.specs.Transfers.{Announcements, after_out}
use Rattle.proof_engine_matching.specs.Matches.{ArrivalsMatch, OutcomesAgree}
use Rattle.proof_engine_steps.specs.Steps.{IsCalled}
use Rattle.proof_engine_steps.proofs.AnnouncedSends.{large_send_shown}
use Rattle.proof_engine_steps.proofs.MessageArrivals.{IsHeldAfter, Keeps, arrived_keeps, message_holds}
use Rattle.proof_engine_steps.proofs.OwnSynchronous.{own_begun, own_message_holds, own_row, own_unclaimed, started_rank}
use Rattle.proof_engine_steps.proofs.RefusedSends.{no_send_fault}
use Rattle.proof_engine_steps.proofs.Sends.{IsSmallSending, KeepsRules, announced_nowhere, core_sent, null_send_shown}
use Rattle.proof_engine_steps.proofs.Sends.{other_send_shown, send_holds, send_rules, send_started, small_sending}
use Rattle.proof_engine_steps.proofs.RequestStarts.{none_leave, none_sent}
use Rattle.proof_engine_steps.proofs.UnchangedTransfers.{AreQuiet}
use Rattle.proof_engine_steps.proofs.BlockedRanks.{Holding}

-- whom a send to the own rank is meant for
itself : (core : Core) (own : Endpoint) → core.known own.rank ≡ own.incarnation →
    is_same (machine.receiver core.known own.rank) own ≡ true
itself core own known =
    and_from (own.rank == own.rank) (core.known own.rank == own.incarnation) (eq-eqb own.rank own.rank refl)
    (eq-eqb (core.known own.rank) own.incarnation known)

or_true : (b : Bool) → (b || true) ≡ true
or_true true = refl
or_true false = refl

-- the core's standard send to its own endpoint
core_sends_own : (core : Core) (own : Endpoint) (c tag : ℕ) (basic : BasicType) (values : List ℕ) →
    core.known own.rank ≡ own.incarnation →
    sends_to Standard own core c (Rank own.rank) (Some tag) basic values ≡
    arrived (pushed_over core) (cores.own_message own c tag basic values)
core_sends_own core own c tag basic values known =
    ap (λ (b : Bool). sends own core d b c tag basic values
    (nat_le (length values * size_of basic) (frame_limit_of core.message_limit) || b))
    (itself core own known)
    ∙ ap (λ (b : Bool). sends own core d true c tag basic values b)
    (or_true (nat_le (length values * size_of basic) (frame_limit_of core.message_limit)))
  where
    d : Endpoint
    d = machine.receiver core.known own.rank

-- nothing goes out of such a send
own_frame : (old : CoreState) (s : RoutedSend) (to tag : ℕ) → s.route.named ≡ Rank to → s.send.tag ≡ Some tag →
    (to == old.place.endpoint.rank) ≡ true → frame_of old s ≡ None
own_frame old s to tag target_is tag_is own =
    ap₂ (λ (t : Source) (g : Option ℕ). frame_to old.place old.transfers s.send.mode (destination t g s.route.context)
    (sent_from s.send.from)) target_is tag_is
    ∙ ap (λ (b : Bool). frame_unless b old.place.message_limit old.transfers s.send.mode
    (record { rank = to; tag = tag; context = s.route.context })
    (sent_from s.send.from)) own

-- and nothing is announced, however many bytes it has
own_to_nobody : (p : Place) (s : RoutedSend) (to tag : ℕ) → s.route.named ≡ Rank to → s.send.tag ≡ Some tag →
    (to == p.endpoint.rank) ≡ true → announced_to p s ≡ None
own_to_nobody p s to tag target_is tag_is own =
    announced_nowhere p s
    (ap₂ (λ (t : Source) (g : Option ℕ). rank_to p (destination t g s.route.context)) target_is tag_is ∙
    ap (λ (b : Bool). rank_unless b (record { rank = to; tag = tag; context = s.route.context })) own)

-- such a standard send is that of its core: the request starts, finished, and then the message comes
own_send_shown : ArrivalsMatch → OutcomesAgree →
    (links : Announcements) (old new : CoreState) (known : List ℕ) (core : Core) (s : RoutedSend) (q : Request)
    (to tag : ℕ) → IsShown links old known core → old.blocked ≡ None →
    s.send.mode ≡ Standard → s.route.named ≡ Rank to → s.send.tag ≡ Some tag → (to == old.place.endpoint.rank) ≡ true →
    KeepsRules old.place s → IsSending old s q new →
    IsCalled links old known core (calls.Isend s) (calls.Started q) new
own_send_shown match agree links old new known core s q to tag shown free standard target_is tag_is own kept is_sent =
    send_started links old new known core s q came after.left shown free kept sent.serial
    (ap₂ (λ (t : Source) (g : Option ℕ). core_sent s.send.mode e core s.route.context t g c) target_is tag_is ∙
    (ap₂ (λ (mode : Mode) (r : ℕ). core_sent mode e core s.route.context (Rank r) (Some tag) c) standard
    (eqb-true to e.rank own) ∙
    core_sends_own core e s.route.context tag c.basic c.values (shown.known_alike e.rank ∙ shown.itself)))
    (subst (λ (x : CoreState). Holding links x known came.core after.left) (sym rest) after.holding)
    after.blocked
    (record {
      place = ap (λ (x : CoreState). x.place) rest ∙ keeps.place;
      completion = ap (λ (x : CoreState). x.completion) rest ∙ keeps.completion;
      blocked = ap (λ (x : CoreState). x.blocked) rest ∙ keeps.blocked;
    })
    (subst (λ (out : List (Endpoint × Frame)). AreQuiet out) (sym after.sends) tt)
    (subst (λ (out : List (Endpoint × Frame)). AreSent (after_out links out) (all_gone known (as_list (frame_of old s)))
    out) (sym after.sends) (none_sent (after_out links []) known (frame_of old s) none))
    (none_leave old.place (frame_of old s) none)
  where
    e : Endpoint
    e = old.place.endpoint

    c : Contents
    c = sent_from s.send.from

    m : Message
    m = own_message old.place s.route.context tag None c

    sent : IsSmallSending old s q new
    sent = small_sending old new s q (own_to_nobody old.place s to tag target_is tag_is own)
        (ap (λ (mode : Mode). waiting_of mode (is_to_itself old.place s) q) standard) is_sent

    -- the rank once the request was started
    started : CoreState
    started = record old { slots = sent.started; serial = old.serial + 1 }

    keeps : Keeps started (rank.after_message started m)
    keeps = arrived_keeps started m

    rest : new ≡ rank.after_message started m
    rest = sent.rest ∙
        ap₂ (λ (t : Source) (g : Option ℕ). arrived_at_itself started (destination t g s.route.context) None c)
        target_is tag_is ∙
        ap (λ (b : Bool). arrived_if b started (record { rank = to; tag = tag; context = s.route.context }) None c) own

    -- what the core makes of its message
    came : Effect
    came = arrived (pushed_over core) (held_of links.from m)

    after : IsHeldAfter links (shown.rows ++ record { key = q.key; job = Over ends.Sent } ∷ [])
        (rank.after_message started m) known (pushed_over core) came
    after = message_holds match agree links started known (pushed_over core)
        (shown.rows ++ record { key = q.key; job = Over ends.Sent } ∷ []) m c refl
        (send_holds links old known core s q new shown sent)

    none : frame_of old s ≡ None
    none = own_frame old s to tag target_is tag_is own

-- the core's synchronous send to its own endpoint
core_waits_own : (core : Core) (own : Endpoint) (c tag : ℕ) (basic : BasicType) (values : List ℕ) →
    core.known own.rank ≡ own.incarnation →
    sends_to Synchronous own core c (Rank own.rank) (Some tag) basic values ≡
    arrived (pushed_own core own) (cores.own_waiting own c tag basic values (length core.jobs))
core_waits_own core own c tag basic values known =
    ap (λ (b : Bool). sends own core (machine.receiver core.known own.rank) b c tag basic values false)
    (itself core own known)
    ∙ ap (λ (n : ℕ). arrived (pushed_own core (record { rank = own.rank; incarnation = n }))
    (cores.own_waiting own c tag basic values (length core.jobs))) known

-- such a synchronous send is that of its core: the request starts, and waits for its match, and then the message comes
own_waits_shown : ArrivalsMatch → OutcomesAgree →
    (links : Announcements) (old new : CoreState) (known : List ℕ) (core : Core) (s : RoutedSend) (q : Request)
    (to tag : ℕ) → IsShown links old known core → old.blocked ≡ None →
    s.send.mode ≡ Synchronous → s.route.named ≡ Rank to → s.send.tag ≡ Some tag → (to == old.place.endpoint.rank) ≡ true
    →
    KeepsRules old.place s → IsSending old s q new →
    IsCalled links old known core (calls.Isend s) (calls.Started q) new
own_waits_shown match agree links old new known core s q to tag shown free synchronous target_is tag_is own kept sent =
    send_started links old new known core s q came after.left shown free kept sent.serial
    (ap₂ (λ (t : Source) (g : Option ℕ). core_sent s.send.mode e core s.route.context t g c) target_is tag_is ∙
    (ap₂ (λ (mode : Mode) (r : ℕ). core_sent mode e core s.route.context (Rank r) (Some tag) c) synchronous
    (eqb-true to e.rank own) ∙
    (core_waits_own core e s.route.context tag c.basic c.values (shown.known_alike e.rank ∙ shown.itself) ∙
    ap (λ (n : ℕ). arrived (pushed_own core e) (cores.own_waiting e s.route.context tag c.basic c.values n))
    serial_is)))
    (subst (λ (x : CoreState). Holding links x known came.core after.left) (sym rest) after.holding)
    after.blocked
    (record {
      place = ap (λ (x : CoreState). x.place) rest ∙ keeps.place;
      completion = ap (λ (x : CoreState). x.completion) rest ∙ keeps.completion;
      blocked = ap (λ (x : CoreState). x.blocked) rest ∙ keeps.blocked;
    })
    (subst (λ (out : List (Endpoint × Frame)). AreQuiet out) (sym after.sends) tt)
    (subst (λ (out : List (Endpoint × Frame)). AreSent (after_out links out) (all_gone known (as_list (frame_of old s)))
    out) (sym after.sends) (none_sent (after_out links []) known (frame_of old s) none))
    (none_leave old.place (frame_of old s) none)
  where
    e : Endpoint
    e = old.place.endpoint

    c : Contents
    c = sent_from s.send.from

    o : OwnSend
    o = record { key = q.key; serial = q.serial; elements = c }

    m : Message
    m = own_message old.place s.route.context tag (Some q) c

    -- the rank once the request was started
    started : CoreState
    started = started_rank old sent.started

    waits : waiting_of s.send.mode (is_to_itself old.place s) q ≡ Some q
    waits = ap₂ (λ (mode : Mode) (b : Bool). waiting_of mode b q) synchronous
        (ap₂ (λ (t : Source) (g : Option ℕ). is_own old.place (destination t g s.route.context)) target_is tag_is ∙ own)

    entry : IsSet old.slots sent.started q.key (Some (record { serial = old.serial; progress = progresses.Offering }))
    entry = subst
        (λ (w : Option Request). IsSet old.slots sent.started q.key
        (Some (record { serial = old.serial; progress = begun w (announced_to old.place s) }))) waits sent.entry

    keeps : Keeps started (rank.after_message started m)
    keeps = arrived_keeps started m

    rest : new ≡ rank.after_message started m
    rest = sent.rest
        ∙ (ap₂ (λ (a : Option ℕ) (w : Option Request). arrived_at_itself
        (record old {
          slots = sent.started;
          serial = old.serial + 1;
          transfers =
              offered_by old.transfers a q.key c;
        }) (destination s.route.named s.send.tag s.route.context) w c)
        (own_to_nobody old.place s to tag target_is tag_is own) waits
        ∙ (ap₂ (λ (t : Source) (g : Option ℕ). arrived_at_itself started (destination t g s.route.context) (Some q) c)
        target_is tag_is
        ∙ ap (λ (b : Bool). arrived_if b started (record { rank = to; tag = tag; context = s.route.context }) (Some q)
        c)
        own))

    -- so many requests of the core were started before
    serial_is : length core.jobs ≡ q.serial
    serial_is = (ap (λ (js : List Job). length js) shown.jobs ∙ length-map shown.rows (λ (r : Row). r.job)) ∙
        (shown.count ∙ sym sent.serial)

    -- what the core makes of its message
    came : Effect
    came = arrived (pushed_own core e) (held_of links.from m)

    rows : List Row
    rows = shown.rows ++ own_row old q.key ∷ []

    here : slice_get rows q.serial ≡ Some (own_row old q.key)
    here = ap (slice_get rows) (sent.serial ∙ sym shown.count) ∙ push_at shown.rows (own_row old q.key)

    after : IsHeldAfter links rows (rank.after_message started m) known (pushed_own core e) came
    after = own_message_holds match agree links started known (pushed_own core e) rows m o
        (own_begun links old known core sent.started q.key shown sent.fresh entry) refl here
        (own_unclaimed links old known core q.serial shown sent.serial)

    none : frame_of old s ≡ None
    none = own_frame old s to tag target_is tag_is own

-- a send to another rank, by whether it goes in one frame
away_send_shown : (links : Announcements) (old new : CoreState) (known : List ℕ) (core : Core) (s : RoutedSend)
    (q : Request) (to tag : ℕ) → IsShown links old known core → old.blocked ≡ None →
    s.route.named ≡ Rank to → s.send.tag ≡ Some tag → (to == old.place.endpoint.rank) ≡ false → KeepsRules old.place s →
    IsWithin (calls.Isend s) → free_fault old (calls.Isend s) ≡ None →
    IsSending old s q new → IsCalled links old known core (calls.Isend s) (calls.Started q) new
away_send_shown links old new known core s q to tag shown free target_is tag_is other kept within fine sent =
    go (is_announced old.place.message_limit s.send.mode (sent_from s.send.from)) refl
  where
    go : (b : Bool) → is_announced old.place.message_limit s.send.mode (sent_from s.send.from) ≡ b →
        IsCalled links old known core (calls.Isend s) (calls.Started q) new
    go false small =
        other_send_shown links old new known core s q to tag shown free target_is tag_is other kept within small sent
    go true large =
        large_send_shown links old new known core s q to tag shown free target_is tag_is other kept within large fine
        sent

-- a send that meets no rule, by where it goes
pub send_shown : ArrivalsMatch → OutcomesAgree →
    (links : Announcements) (old new : CoreState) (known : List ℕ) (core : Core) (s : RoutedSend) (q : Request) →
    IsShown links old known core → old.blocked ≡ None →
    IsWithin (calls.Isend s) → free_fault old (calls.Isend s) ≡ None → IsSending old s q new →
    IsCalled links old known core (calls.Isend s) (calls.Started q) new
send_shown match agree links old new known core s q shown free within fine sent =
    go s.route.named refl s.send.tag refl kept.inside kept.low
  where
    kept : KeepsRules old.place s
    kept = send_rules old.place s (no_send_fault old s fine)

    by_rank : (to tag : ℕ) → s.route.named ≡ Rank to → s.send.tag ≡ Some tag → (own : Bool) →
        (to == old.place.endpoint.rank) ≡ own →
        IsCalled links old known core (calls.Isend s) (calls.Started q) new
    by_rank to tag target_is tag_is false other =
        away_send_shown links old new known core s q to tag shown free target_is tag_is other kept within fine sent
    by_rank to tag target_is tag_is true own = by_mode s.send.mode refl
      where
        by_mode : (mode : Mode) → s.send.mode ≡ mode →
            IsCalled links old known core (calls.Isend s) (calls.Started q) new
        by_mode Standard is =
            own_send_shown match agree links old new known core s q to tag shown free is target_is tag_is own kept sent
        by_mode Synchronous is =
            own_waits_shown match agree links old new known core s q to tag shown free is target_is tag_is own kept sent

    go : (t : Source) → s.route.named ≡ t → (g : Option ℕ) → s.send.tag ≡ g →
        rules.is_no_target old.place.size s.route.named ≡ false →
        rules.is_no_tag s.send.tag ≡ false →
        IsCalled links old known core (calls.Isend s) (calls.Started q) new
    go Null target_is g tag_is inside low = null_send_shown links old new known core s q shown free target_is kept sent
    go Any target_is g tag_is inside low =
        let wrong : true ≡ false = sym (ap (λ (t : Source). rules.is_no_target old.place.size t) target_is) ∙ inside in
        absurd cc
    go (Rank to) target_is None tag_is inside low =
        let wrong : true ≡ false = sym (ap (λ (g : Option ℕ). rules.is_no_tag g) tag_is) ∙ low in absurd cc
    go (Rank to) target_is (Some tag) tag_is inside low =
        by_rank to tag target_is tag_is (to == old.place.endpoint.rank) refl
