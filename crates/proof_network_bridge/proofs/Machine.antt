-- Whoever follows the pure network with communicators is seen as a run of the machine of queues and groups.
use Rattle.std.proofs.Common.{◌≡◌, ℕ, zero, suc, ◌<◌, ◌≤◌, List, [], ◌∷◌, Option, Some, None, map, sym, ap, subst, ◌∙◌}
use Rattle.std.proofs.Common.{inl, inr, arith, append-nil, refl}
use Rattle.std.specs.Prelude.{slice_get, slice_index}
use Rattle.std.proofs.lemmas.Option.{same_Some}
use Rattle.engine_calls.specs.Calls.{CallGives, IsTaken}
use Rattle.engine_calls.specs.EngineState.{EngineState, member_of}
use Rattle.engine_calls.specs.declared.call.Call.{Call}
use Rattle.engine_calls.specs.declared.reply.Reply.{Reply}
use Rattle.engine_calls.specs.declared.reply.Reply.TheVariants as replies
use Rattle.incarnation.specs.declared.place.Place.{Place}
use Rattle.perfect_groups.specs.Calls as machine_calls
use Rattle.perfect_groups.specs.Calls.{held_at}
use Rattle.perfect_groups.specs.Communicators.{Communicator}
use Rattle.perfect_groups.specs.Events as machine_events
use Rattle.perfect_groups.specs.Events.{Event}
use Rattle.perfect_groups.specs.Faults.{fault}
use Rattle.perfect_groups.specs.Laws.{OneGroupForEachContext}
use Rattle.perfect_groups.specs.Machine.{Machine, machine_opening}
use Rattle.perfect_groups.specs.Membership.{Groups, Membership}
use Rattle.perfect_groups.specs.Runs.{IsRun, after_run}
use Rattle.perfect_groups.specs.Soundness.{IsAmong, IsReal}
use Rattle.proof_collective_steps.specs.Counterparts.{communicator_of}
use Rattle.proof_engine_steps.specs.Probes.{LooksAreShown, SearchesFindAll}
use Rattle.observation.specs.Reasons.{IsReason}
use Rattle.proof_engine_view.specs.CoreViews.{IsShown}
use Rattle.proof_session_carrying.specs.Announcements.{announcements_in}
use Rattle.proof_group_network.proofs.NetworkRest.{is_run_of_groups}
use Rattle.proof_group_network.specs.Network.{GroupNetwork, IsRunOfGroups, NoticesAreHanded}
use Rattle.proof_link_truth.specs.Events.{IdleIsStill, Knows}
use Rattle.proof_network_runs.specs.Runs.{IsShownBy, OneGroupAlongRuns, RunsShowAll}
use Rattle.link_truth.specs.Quiet.{AreQuiet}
use Rattle.link_truth.specs.Wire.{at}
use Rattle.proof_pure_network.specs.Core.{view}
use Rattle.proof_pure_network.specs.WaitingMessages.{blank}
use Rattle.proof_pure_network.specs.Matches.{found}
use Rattle.proof_pure_network.specs.Network.{IsQuiet, here}
use Rattle.proof_session_carrying.specs.MessageLaws.{StillTextsAreQuiet}
use Rattle.point_to_point_calls.specs.declared.refusal.Refusal.{Refusal}
use Rattle.sessions.specs.SessionsState.{SessionsState}
use Rattle.vocabulary.specs.declared.endpoint.Endpoint.{Endpoint}
use Rattle.vocabulary.specs.declared.message_limit.MessageLimit.{MessageLimit}
use Rattle.perfect_queues.specs.Receives as receives
use Rattle.perfect_queues.specs.Receives.{such_receive}
use Rattle.proof_network_bridge.specs.EventLaws.{FollowingIsRun, IsSeenOfMachine}
use Rattle.observation.specs.Faults.{AnswersNone, IsFaultless, LooksInVain, SearchesInVain, fault_in}
use Rattle.proof_network_bridge.specs.GoingOn.{EnginesShareGroups, FollowingIsEachRun, IsSeenBy}
use Rattle.proof_network_bridge.specs.WorldViews.{IsFollowed, IsJoined, network_after}
use Rattle.observation.specs.Sessions.{sessions_in}
use Rattle.observation.specs.EngineCalls.{call_meant, call_seen}
use Rattle.proof_network_bridge.proofs.RankEvents.{followed}
use Rattle.proof_network_bridge.proofs.Halves.{IsOf, engine_there}
use Rattle.proof_network_bridge.proofs.Probes.{looks_in_vain, searches_in_vain}
use Rattle.proof_network_bridge.proofs.Worlds.{place_is}

-- ---- what is said of calls

-- the fault of a call at the endpoint that is at rank r
abbrev pub fault_at : GroupNetwork → (r : ℕ) → machine_calls.Call → Option ℕ
fault_at w r c = fault (here w.net r) (view blank (w.net.core (here w.net r))) (w.member (here w.net r)).membership c

-- a call that an engine refuses has a reason in the network
abbrev pub RefusedHasReason : Type 0
RefusedHasReason =
    (n r : ℕ) (engines : List EngineState) (datagrams : List (ℕ × List ℕ)) (history : List machine_events.Entry)
    (e mid : EngineState) (call back : Call) (why : Refusal) →
    (f : IsFollowed n engines datagrams history) → slice_get engines r ≡ Some e →
    CallGives e call (replies.Refused why back) mid →
    IsReason (fault_at (network_after n f.limit f.happenings) r (call_meant e.core call)) why

-- the network finds no fault with a call that an engine takes
abbrev pub TakenIsFaultless : Type 0
TakenIsFaultless =
    (n r : ℕ) (engines : List EngineState) (datagrams : List (ℕ × List ℕ)) (history : List machine_events.Entry)
    (e mid : EngineState) (call : Call) (reply : Reply) →
    (f : IsFollowed n engines datagrams history) → slice_get engines r ≡ Some e → IsTaken reply →
    CallGives e call reply mid →
    IsFaultless (fault_at (network_after n f.limit f.happenings) r (call_seen call)) e.core call

-- ---- where nothing is on its way

-- what a core knows its rank's sessions know too
knows_too : (n : ℕ) (engines : List EngineState) (datagrams : List (ℕ × List ℕ)) (w : GroupNetwork) (s d : Endpoint) →
    IsJoined n engines datagrams w →
    s.incarnation ≡ w.net.current s.rank → (w.net.core s).known d.rank ≡ d.incarnation →
    Knows (sessions_in engines) s.rank d
knows_too n engines datagrams w s d j current knows t there =
    let o : IsOf engines s.rank t = engine_there engines s.rank t there in
    let shown : IsShown (announcements_in 0 j.sessions s) o.engine.core o.engine.sessions.known (w.net.core s) =
    subst (λ (i : ℕ). IsShown (announcements_in 0 j.sessions (at s.rank i)) o.engine.core o.engine.sessions.known
    (w.net.core (at s.rank i))) (sym current) ((j.held s.rank o.engine o.there).queues 0) in
    ap (λ (x : SessionsState). slice_index x.known d.rank) (sym o.sessions_are) ∙ sym (shown.known_alike d.rank) ∙ knows

-- where sessions are quiet, so is the network
still : IdleIsStill → StillTextsAreQuiet →
    (n : ℕ) (engines : List EngineState) (datagrams : List (ℕ × List ℕ)) (w : GroupNetwork) →
    IsJoined n engines datagrams w → AreQuiet (sessions_in engines) →
    IsQuiet w.net × NoticesAreHanded w
still idle texts n engines datagrams w j quiet =
    texts w j.said j.texts j.sessions j.between (λ s d s_is d_is d_knows s_knows.
    idle n (sessions_in engines) datagrams j.texts w.net.current j.links quiet s d s_is d_is
    (knows_too n engines datagrams w s d j s_is s_knows) (knows_too n engines datagrams w d s j d_is d_knows))

-- ---- the endpoints of engines

-- the endpoint of the engine at a rank is the one that is there
endpoint_is : (n r : ℕ) (engines : List EngineState) (datagrams : List (ℕ × List ℕ)) (w : GroupNetwork)
    (e : EngineState) → IsJoined n engines datagrams w → slice_get engines r ≡ Some e →
    e.sessions.place.endpoint ≡ here w.net r
endpoint_is n r engines datagrams w e j there =
    ap (λ (p : Place). p.endpoint) (place_is n r engines datagrams w e j there).1

-- its rank and incarnation have 16 bits each
real_there : (n r : ℕ) (engines : List EngineState) (datagrams : List (ℕ × List ℕ)) (w : GroupNetwork)
    (e : EngineState) → n ≤ 1024 → IsJoined n engines datagrams w → slice_get engines r ≡ Some e →
    IsReal e.sessions.place.endpoint
real_there n r engines datagrams w e few j there =
    let within : r < n = (place_is n r engines datagrams w e j there).0 in
    let last : w.net.current r ≤ 65535 = j.links.last r in
    subst IsReal (sym (endpoint_is n r engines datagrams w e j there)) (omega (arith, within, few), omega (arith, last))

-- what the groups of a machine hold there, where they are the network's
held_there : (n r : ℕ) (engines : List EngineState) (datagrams : List (ℕ × List ℕ)) (w : GroupNetwork) (e : EngineState)
    (held : Endpoint → Membership) → IsJoined n engines datagrams w → slice_get engines r ≡ Some e →
    ((x : Endpoint) → (held x).held ≡ (w.member x).membership.held) → (held e.sessions.place.endpoint).held ≡
    (member_of e.groups).held
held_there n r engines datagrams w e held j there same =
    let shown = (j.held r e there).groups in
    same e.sessions.place.endpoint ∙
    ap (λ (x : Endpoint). (w.member x).membership.held) (endpoint_is n r engines datagrams w e j there) ∙ shown.held
    ∙ ap (λ (x : Endpoint). map (communicator_of x) e.groups.contexts.held) (sym shown.own)

-- ---- one group

among_at : (cs : List Communicator) (i : ℕ) (a : Communicator) → slice_get cs i ≡ Some a → IsAmong a cs
among_at [] i a h = absurd cc
among_at (c ∷ cs) zero a h = inl (sym (same_Some c a h))
among_at (c ∷ cs) (suc i) a h = inr (among_at cs i a h)

-- what a place names is held
among_held : (m : Membership) (place : Option ℕ) (a : Communicator) → held_at m place ≡ Some a → IsAmong a m.held
among_held m None a h = absurd cc
among_held m (Some i) a h = among_at m.held i a h

-- communicators that two endpoints hold after a run
one_of : OneGroupForEachContext →
    (n : ℕ) (limit : MessageLimit) (events : List Event) (x y : Endpoint) (a b : Communicator) → n ≤ 1024 →
    IsRun n (machine_opening n limit) events → IsReal x → IsReal y →
    IsAmong a ((after_run (machine_opening n limit) events).groups.of x).held →
    IsAmong b ((after_run (machine_opening n limit) events).groups.of y).held → a.context ≡ b.context → a ≡ b
one_of law n limit events x y a b few run rx ry ha hb same =
    law n limit events [] x y a b (omega (arith, few))
    (subst (IsRun n (machine_opening n limit)) (sym (append-nil events)) run) rx
    ry ha
    (subst (λ (vs : List Event). IsAmong b ((after_run (machine_opening n limit) vs).groups.of y).held)
    (sym (append-nil events)) hb) same

-- ---- the run

-- the laws that what is seen of engines rests on
pub record SeenLaws : Type 0 where
  pub idle : IdleIsStill
  pub texts : StillTextsAreQuiet
  pub one : OneGroupForEachContext
  pub refused : RefusedHasReason
  pub taken : TakenIsFaultless
  pub looks : LooksAreShown
  pub searches : SearchesFindAll

-- whatever a run shows of the network it tells of the engines
seen_of : SeenLaws →
    (n : ℕ) (engines : List EngineState) (datagrams : List (ℕ × List ℕ)) (history : List machine_events.Entry)
    (f : IsFollowed n engines datagrams history) →
    (m : IsRunOfGroups n f.limit (network_after n f.limit f.happenings)) →
    IsSeenBy n f.limit engines history m.events
seen_of laws n engines datagrams history f m = record { seen = seen; by = refl }
  where
    w : GroupNetwork
    w = network_after n f.limit f.happenings

    ends : Machine
    ends = after_run (machine_opening n f.limit) m.events

    faults : (r : ℕ) (e : EngineState) → slice_get engines r ≡ Some e → (c : machine_calls.Call) →
        fault_in ends e.sessions.place.endpoint c ≡ fault_at w r c
    faults r e there c =
        m.faults e.sessions.place.endpoint c
        ∙ ap (λ (x : Endpoint). fault x (view blank (w.net.core x)) (w.member x).membership c)
        (endpoint_is n r engines datagrams w e f.joined there)

    shown_at : (r : ℕ) (e : EngineState) (x : Endpoint) → slice_get engines r ≡ Some e → e.sessions.place.endpoint ≡ x →
        IsShown (announcements_in 0 f.joined.sessions x) e.core e.sessions.known (w.net.core x)
    shown_at r e x there is =
        subst (λ (y : Endpoint). IsShown (announcements_in 0 f.joined.sessions y) e.core e.sessions.known
        (w.net.core y)) (sym (endpoint_is n r engines datagrams w e f.joined there) ∙ is)
        ((f.joined.held r e there).queues 0)

    -- who answers a probe with none holds no such message
    holds_none : (x : Endpoint) (q : receives.Probe) → AnswersNone engines x q →
        found (such_receive q) (w.net.core x).held ≡ None
    holds_none x q (LooksInVain r e mid p there is seen gives) =
        looks_in_vain laws.looks (announcements_in 0 f.joined.sessions x) e mid (w.net.core x) p q
        (shown_at r e x there is) seen gives
    holds_none x q (SearchesInVain r e mid p there is seen gives) =
        searches_in_vain laws.searches (announcements_in 0 f.joined.sessions x) e mid (w.net.core x) p q
        (shown_at r e x there is) seen gives

    holds : (r : ℕ) (e : EngineState) → slice_get engines r ≡ Some e → (ends.groups.of e.sessions.place.endpoint).held ≡
        (member_of e.groups).held
    holds r e there =
        held_there n r engines datagrams w e ends.groups.of f.joined there
        (λ x. ap (λ (g : Groups). (g.of x).held) m.groups)

    seen : IsSeenOfMachine n f.limit engines history
    seen =
        record {
          events = m.events;
          run = m.run;
          tells = m.tells ∙ f.seen;
          now = λ r e there. m.current r ∙
              sym (ap (λ (x : Endpoint). x.incarnation) (endpoint_is n r engines datagrams w e f.joined there));
          knows = λ r e there x.
              m.knows e.sessions.place.endpoint x ∙
              ap (λ (y : Endpoint). (w.net.core y).known x) (endpoint_is n r engines datagrams w e f.joined there)
              ∙ ((f.joined.held r e there).queues 0).known_alike x;
          refuses = λ r e mid call back why there gives.
              subst (λ (o : Option ℕ). IsReason o why) (sym (faults r e there (call_meant e.core call)))
              (laws.refused n r engines datagrams history e mid call back why f there gives);
          takes = λ r e mid call reply there is gives.
              subst (λ (o : Option ℕ). IsFaultless o e.core call) (sym (faults r e there (call_seen call)))
              (laws.taken n r engines datagrams history e mid call reply f there is gives);
          holds = holds;
          one_group = λ r x e d first second a b e_there d_there a_is b_is same.
              one_of laws.one n f.limit m.events e.sessions.place.endpoint d.sessions.place.endpoint a b f.few m.run
              (real_there n r engines datagrams w e f.few f.joined e_there)
              (real_there n x engines datagrams w d f.few f.joined d_there)
              (subst (IsAmong a) (sym (holds r e e_there)) (among_held (member_of e.groups) first a a_is))
              (subst (IsAmong b) (sym (holds x d d_there)) (among_held (member_of d.groups) second b b_is)) same;
          quiet = λ quiet. m.quiet (still laws.idle laws.texts n engines datagrams w f.joined quiet).0;
          finds = λ quiet e sender current q none. m.finds
              (still laws.idle laws.texts n engines datagrams w f.joined quiet).0 e sender current q
              (holds_none e q none);
          leaves = λ quiet. m.leaves (still laws.idle laws.texts n engines datagrams w f.joined quiet).1;
        }

pub following_is_run : SeenLaws → FollowingIsRun
following_is_run laws n engines datagrams history f =
    (seen_of laws n engines datagrams history f (is_run_of_groups n f.limit f.happenings (omega (arith, f.few)))).seen

-- so does each run that goes with what the engines follow
pub following_is_each_run : RunsShowAll → SeenLaws → FollowingIsEachRun
following_is_each_run show laws n limit happenings events engines datagrams history f g =
    let shown : IsShownBy n limit (network_after n limit happenings) events = show n limit happenings events (omega (arith, f.few)) g in
    subst (λ (vs : List Event). IsSeenBy n limit engines history vs) shown.by
    (seen_of laws n engines datagrams history (followed n limit happenings engines datagrams history f) shown.shown)

-- ---- one group for each context, at any two moments

pub engines_share_groups : OneGroupAlongRuns → EnginesShareGroups
engines_share_groups one n limit earlier later events more engines engines' datagrams datagrams' history history' r x e
    d a b
    f g f' g' e_there d_there a_is b_is same =
    one n limit earlier later events more e.sessions.place.endpoint d.sessions.place.endpoint a b
    (omega (arith, f.few)) g g'
    (real_there n r engines datagrams (network_after n limit earlier) e f.few f.joined e_there)
    (real_there n x engines' datagrams' (network_after n limit later) d f'.few f'.joined d_there)
    (subst (IsAmong a)
    (sym (held_there n r engines datagrams (network_after n limit earlier) e
    (λ y. ((network_after n limit earlier).member y).membership) f.joined e_there (λ y. refl))) a_is)
    (subst (IsAmong b)
    (sym (held_there n x engines' datagrams' (network_after n limit later) d
    (λ y. ((network_after n limit later).member y).membership) f'.joined d_there (λ y. refl))) b_is) same
