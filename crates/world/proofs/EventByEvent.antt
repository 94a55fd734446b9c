-- The run of the machine that a world has come by goes on with each event.
use Rattle.std.proofs.Common.{◌≡◌, ℕ, zero, suc, ◌≤◌, List, [], ◌∷◌, ◌++◌, length, Option, Some, None, refl, sym, ap}
use Rattle.std.proofs.Common.{subst, ◌∙◌, append-nil, append_assoc, inl, inr, arith}
use Rattle.std.specs.Prelude.{Result, Ok, Err, slice_get}
use Rattle.std.specs.List.{AllByRecursion}
use Rattle.std.proofs.lemmas.List.{length-set}
use Rattle.std.proofs.lemmas.Option.{same_Some}
use Rattle.engine_calls.specs.EngineState.{EngineState, member_of}
use Rattle.incarnation.specs.declared.place.Place.{Place}
use Rattle.perfect_groups.specs.Calls.{held_at}
use Rattle.perfect_groups.specs.Communicators.{Communicator}
use Rattle.perfect_groups.specs.Events as machine
use Rattle.perfect_groups.specs.Machine.{machine_opening}
use Rattle.perfect_groups.specs.Membership.{Membership}
use Rattle.perfect_groups.specs.Runs.{seen}
use Rattle.perfect_groups.specs.Soundness.{IsAmong}
use Rattle.proof_group_network.specs.Network.{Happening}
use Rattle.proof_network_bridge.proofs.WorldLaws.{engines_share_groups, following_is_each_run}
use Rattle.proof_network_bridge.proofs.Worlds.{place_is}
use Rattle.proof_network_bridge.specs.GoingOn.{IsFollowedBy, IsSeenBy}
use Rattle.proof_network_bridge.specs.WorldViews.{limit_in, network_after, opening_engines}
use Rattle.proof_network_runs.proofs.GoingOn.{each_has_a_run, happenings_go_on, none_is_a_run}
use Rattle.proof_network_runs.specs.Runs.{GoesOnWith, GoesWith, HasARun, IsAt, IsOneAtMost, after, rank_of}
use Rattle.proof_pure_network.specs.Network.{here}
use Rattle.vocabulary.specs.declared.endpoint.Endpoint.{Endpoint}
use Rattle.vocabulary.specs.declared.message_limit.MessageLimit.{MessageLimit}
use Rattle.world.proofs.Keys.{means_what_is_seen}
use Rattle.world.proofs.OneEvent.{one_behind}
use Rattle.world.proofs.Refusals.{refusal_sound_by}
use Rattle.world.proofs.Sound.{Further, IsNoTick, IsSoundOn, Still, event_sound_on, opening_sound_by, sound_by}
use Rattle.world.specs.EventByEvent.{AllShareGroups, AreOwnSteps, AreStepsOf, GoesAllTheWay, GoesOn, GoesOnFrom, HasRun}
use Rattle.world.specs.EventByEvent.{HasSomeRun, IsOneFor, IsSoundBy, RunGoesOn, ShareGroups, SharesGroupsOnwards, StepGoesOn}
use Rattle.world.specs.Headline.{IsSound, history_seen}
use Rattle.world.specs.Steps.{ByTheEngine, ByTheWorld, ForRoom, Gave, IsRefusedBy, IsWhy, RanAt, StepGives, Went}
use Rattle.world.specs.Steps.{entry_of}
use Rattle.world.specs.WorldState.{WorldState, opening_world_of}
use Rattle.world.specs.declared.event.HistoryEntry.{HistoryEntry}
use Rattle.world.specs.declared.event.Event.{Event}
use Rattle.world.specs.declared.event.Failed.{Failed}
use Rattle.world.specs.declared.event.Stepped.{Stepped}
use Rattle.world.specs.declared.refusal.WorldRefusal.{WorldRefusal}

-- ---- A WORLD AND A RUN

-- a run that goes with what a world follows is one that the world has come by
pub has_run : (w : WorldState) (happenings : List Happening) (run_events : List machine.Event) →
    IsSoundBy happenings w.engines w.datagrams w.history →
    GoesWith (length w.engines) (limit_in w.engines) happenings run_events →
    HasRun w run_events
has_run w happenings run_events s g =
    let b : IsSeenBy (length w.engines) (limit_in w.engines) w.engines (history_seen w.history) run_events =
    following_is_each_run (length w.engines) (limit_in w.engines) happenings run_events w.engines w.datagrams
    (history_seen w.history)
    s.followed g in
    let m = b.seen in
    record {
      headline = record {
        run_events = m.events;
        run = m.run;
        tells = m.tells;
        now = m.now;
        knows = m.knows;
        refuses = m.refuses;
        own_requests = λ r e call there own. means_what_is_seen w.history e call (s.named r e there) own;
        takes = m.takes;
        holds = m.holds;
        one_group = m.one_group;
        quiet = m.quiet;
        finds = m.finds;
        leaves = m.leaves;
      };
      by = b.by;
      happenings = happenings;
      goes = g;
      sound = s;
    }

-- every sound world has come by some run
pub has_some_run : (w : WorldState) → IsSound w.engines w.datagrams w.history → HasSomeRun w
has_some_run w s =
    let r : HasARun (length w.engines) (limit_in w.engines) s.followed.happenings = each_has_a_run (length w.engines) (limit_in w.engines) s.followed.happenings (omega (arith, s.followed.few)) in
    record {
      run_events = r.events;
      has =
          has_run w s.followed.happenings r.events (sound_by w.engines w.datagrams w.history s) r.goes;
    }

-- an opening world has come by the run of no event
pub opening_has_none : (l : MessageLimit) (n : ℕ) → n ≤ 1024 → HasRun (opening_world_of l n) []
opening_has_none l n few =
    has_run (opening_world_of l n) [] [] (opening_sound_by l n few)
    (none_is_a_run (length (opening_world_of l n).engines) (limit_in (opening_world_of l n).engines))

-- the parts of a world, by what they equal
same_run : (a b : WorldState) (run_events : List machine.Event) → a ≡ b → HasRun b run_events → HasRun a run_events
same_run a b run_events is h = subst (λ (w : WorldState). HasRun w run_events) (sym is) h

-- so has one that is made so
pub made_has_none : (l : MessageLimit) (n : ℕ) (engines : List EngineState) (datagrams : List (ℕ × List ℕ))
    (history : List HistoryEntry)
    (datagram_room entry_room : ℕ) → n ≤ 1024 → engines ≡ opening_engines l n 0 n → datagrams ≡ [] → history ≡ [] →
    datagram_room ≡ 0 → entry_room ≡ 0 →
    HasRun (record {
      engines = engines;
      datagrams = datagrams;
      history = history;
      datagram_room =
          datagram_room;
      entry_room = entry_room;
    }) []
made_has_none l n engines datagrams history datagram_room entry_room few es ds hs dr er =
    same_run (record {
      engines = engines;
      datagrams = datagrams;
      history = history;
      datagram_room =
          datagram_room;
      entry_room = entry_room;
    }) (opening_world_of l n) []
    (λ t. record { engines = es t; datagrams = ds t; history = hs t; datagram_room = dr t; entry_room = er t })
    (opening_has_none l n few)

-- ---- A STEP

-- the endpoint of the engine at a rank is the network's
endpoint_there : (n : ℕ) (limit : MessageLimit) (rank : ℕ) (happenings : List Happening) (engines : List EngineState)
    (d : List (ℕ × List ℕ))
    (h : List machine.Entry) (e : EngineState) → IsFollowedBy n limit happenings engines d h →
    slice_get engines rank ≡ Some e →
    here (after n limit happenings).net rank ≡ e.sessions.place.endpoint
endpoint_there n limit rank happenings engines d h e f there =
    sym (ap (λ (p : Place). p.endpoint)
    (place_is n rank engines d (network_after n limit happenings) e f.joined there).1)

-- the run that a world has come by tells its history
tells_of : (w : WorldState) (run_events : List machine.Event) → HasRun w run_events →
    seen (machine_opening (length w.engines) (limit_in w.engines)) run_events ≡ history_seen w.history
tells_of w run_events h =
    subst (λ (vs : List machine.Event). seen (machine_opening (length w.engines) (limit_in w.engines)) vs ≡
    history_seen w.history) h.by
    h.headline.tells

-- what an event that was taken adds to the run
record Adds (old new : WorldState) (event : Event) (run_events : List machine.Event) : Type 0 where
  pub more : List machine.Event
  pub own : AreOwnSteps old event more
  pub still : (IsNoTick event → ⊥) → more ≡ []
  pub has : HasRun new (run_events ++ more)

event_adds : (old new : WorldState) (event : Event) (run_events : List machine.Event) (h : HasRun old run_events)
    (gave : Gave) → (ran : RanAt old.datagrams event old.engines (Ok gave) new.engines) →
    limit_in new.engines ≡ limit_in old.engines →
    IsSoundOn event ran.rank h.happenings new.engines new.datagrams new.history → Adds old new event run_events
event_adds old new event run_events h gave ran limit on = go on
  where
    size : length new.engines ≡ length old.engines
    size = ap length ran.others ∙ length-set old.engines ran.rank ran.next

    goes_there : (happenings : List Happening) (vs : List machine.Event) →
        GoesWith (length old.engines) (limit_in old.engines) happenings vs →
        GoesWith (length new.engines) (limit_in new.engines) happenings vs
    goes_there happenings vs g = subst (λ (l : MessageLimit). GoesWith (length new.engines) l happenings vs) (sym limit)
        (subst (λ (n : ℕ). GoesWith n (limit_in old.engines) happenings vs) (sym size) g)

    endpoint : here (after (length old.engines) (limit_in old.engines) h.happenings).net ran.rank ≡
        ran.engine.sessions.place.endpoint
    endpoint =
        endpoint_there (length old.engines) (limit_in old.engines) ran.rank h.happenings old.engines old.datagrams
        (history_seen old.history)
        ran.engine h.sound.followed ran.there

    steps : (more : List machine.Event) → AllByRecursion (IsAt ran.engine.sessions.place.endpoint) more →
        IsOneAtMost more → AreOwnSteps old event more
    steps more own one = record {
      rank = ran.rank;
      target = ran.target;
      engine = ran.engine;
      there = ran.there;
      own = own;
      one = one;
    }

    go : IsSoundOn event ran.rank h.happenings new.engines new.datagrams new.history → Adds old new event run_events
    go (Still s) = record {
      more = [];
      own = steps [] tt tt;
      still = λ tick. refl;
      has = subst (λ (vs : List machine.Event). HasRun new vs) (sym (append-nil run_events))
          (has_run new h.happenings run_events s (goes_there h.happenings run_events h.goes));
    }
    go (Further x at_rank no_tick s) =
        let g : GoesOnWith (length old.engines) (limit_in old.engines) (h.happenings ++ x ∷ []) run_events
        (here (after (length old.engines) (limit_in old.engines) h.happenings).net (rank_of x)) =
        happenings_go_on (length old.engines) (limit_in old.engines) h.happenings x run_events (omega (arith, h.sound.followed.few)) h.goes in
        record {
          more = g.more;
          own = steps g.more
              (subst (λ (e : Endpoint). AllByRecursion (IsAt e) g.more)
              (ap (λ (r : ℕ). here (after (length old.engines) (limit_in old.engines) h.happenings).net r) at_rank ∙
              endpoint) g.own)
              g.one;
          still = λ tick. absurd (tick no_tick);
          has = has_run new (h.happenings ++ x ∷ []) (run_events ++ g.more) s
              (goes_there (h.happenings ++ x ∷ []) (run_events ++ g.more) g.goes);
        }

went_on : (old new : WorldState) (event : Event) (added : Stepped) (run_events : List machine.Event) →
    Went old event added new → IsSound new.engines new.datagrams new.history → HasRun old run_events →
    StepGoesOn old run_events event (Ok added) new
went_on old new event added run_events w sound h = (a.more, (a.own, one), a.has)
  where
    on : IsSoundOn event w.ran.rank h.happenings new.engines new.datagrams new.history
    on =
        subst (λ (d : List (ℕ × List ℕ)). IsSoundOn event w.ran.rank h.happenings new.engines d new.history) (sym w.datagrams)
        (subst (λ (es : List HistoryEntry). IsSoundOn event w.ran.rank h.happenings new.engines (old.datagrams ++ w.gave.out)
        es) (sym w.history)
        (event_sound_on h.happenings old.engines new.engines old.datagrams old.history event w.gave h.sound w.allowed
        w.ran sound.world))

    limit : limit_in new.engines ≡ limit_in old.engines
    limit = w.limit

    a : Adds old new event run_events
    a = event_adds old new event run_events h w.gave w.ran limit on

    size : length new.engines ≡ length old.engines
    size = ap length w.ran.others ∙ length-set old.engines w.ran.rank w.ran.next

    one : IsOneFor event a.more
    one =
        one_behind (length old.engines) (limit_in old.engines) run_events a.more old.history old.datagrams event
        w.ran.engine w.ran.next
        w.gave w.ran.ran a.own.one a.still (tells_of old run_events h)
        (subst (λ (l : MessageLimit). seen (machine_opening (length old.engines) l) (run_events ++ a.more) ≡
        history_seen (old.history ++ entry_of event w.gave ∷ [])) limit
        (subst (λ (n : ℕ). seen (machine_opening n (limit_in new.engines)) (run_events ++ a.more) ≡
        history_seen (old.history ++ entry_of event w.gave ∷ [])) size
        (tells_of new (run_events ++ a.more) a.has ∙ ap history_seen w.history)))

-- a refusal adds nothing
refused_stands : (old : WorldState) (event : Event) (refused : WorldRefusal) (out : List (ℕ × List ℕ))
    (happenings : List Happening) → IsWhy old event refused out →
    IsSoundBy happenings old.engines old.datagrams old.history →
    IsSoundBy happenings old.engines (old.datagrams ++ out) old.history
refused_stands old event refused out happenings (ByTheWorld fault none) s = silent none
  where
    silent : out ≡ [] → IsSoundBy happenings old.engines (old.datagrams ++ out) old.history
    silent none =
        subst (λ (d : List (ℕ × List ℕ)). IsSoundBy happenings old.engines d old.history)
        (sym (ap (λ (o : List (ℕ × List ℕ)). old.datagrams ++ o) none ∙ append-nil old.datagrams)) s
refused_stands old event refused out happenings (ForRoom allowed asked needs memory none) s = silent none
  where
    silent : out ≡ [] → IsSoundBy happenings old.engines (old.datagrams ++ out) old.history
    silent none =
        subst (λ (d : List (ℕ × List ℕ)). IsSoundBy happenings old.engines d old.history)
        (sym (ap (λ (o : List (ℕ × List ℕ)). old.datagrams ++ o) none ∙ append-nil old.datagrams)) s
refused_stands old event refused out happenings (ByTheEngine e allowed is out_is ran) s =
    subst (λ (o : List (ℕ × List ℕ)). IsSoundBy happenings old.engines (old.datagrams ++ o) old.history) (sym out_is)
    (refusal_sound_by happenings old.engines old.datagrams old.history event e s allowed ran)

refused_on : (old new : WorldState) (event : Event) (failed : Failed) (run_events : List machine.Event) →
    IsRefusedBy old event failed new → HasRun old run_events → StepGoesOn old run_events event (Err failed) new
refused_on old new event failed run_events r h =
    let stood : WorldState = record old { datagrams = old.datagrams ++ r.out; datagram_room = new.datagram_room; entry_room = new.entry_room } in (
      [],
      refl,
      subst (λ (vs : List machine.Event). HasRun new vs) (sym (append-nil run_events))
          (same_run new stood run_events r.unchanged
          (has_run stood h.happenings run_events
          (refused_stands old event failed.refused r.out h.happenings r.why h.sound) h.goes)),
    )

pub step_goes_on : (old new : WorldState) (event : Event) (answer : Result Stepped Failed) →
    StepGives old event answer new → IsSound new.engines new.datagrams new.history → GoesOn old event answer new
step_goes_on old new event (Ok added) step sound run_events h = went_on old new event added run_events step sound h
step_goes_on old new event (Err failed) step sound run_events h = refused_on old new event failed run_events step h

-- ---- MANY STEPS

pub goes_on_none : (a : WorldState) (ys : List (Result Stepped Failed)) → ys ≡ [] → GoesOnFrom a [] ys a
goes_on_none a ys none =
    subst (λ (zs : List (Result Stepped Failed)). GoesOnFrom a [] zs a) (sym none)
    (record { from = λ vs h. ([], (refl, h)) })

-- one event more, behind the others
push : (a : WorldState) (us : List machine.Event) (vs : List Event) (ys : List (Result Stepped Failed))
    (way : List WorldState) (b : WorldState) (v : Event) (y : Result Stepped Failed) (c : WorldState) →
    StepGives b v y c → GoesOn b v y c → RunGoesOn a us vs ys way b →
    RunGoesOn a us (vs ++ v ∷ []) (ys ++ y ∷ []) (way ++ c ∷ []) c
push a us [] [] [] b v y c step next (is, here) = onto (next us (same_run b a us is here))
  where
    onto : StepGoesOn b us v y c → RunGoesOn a us (v ∷ []) (y ∷ []) (c ∷ []) c
    onto (more, own, has) = (
      here,
      subst (λ (x : WorldState). StepGives x v y c) is step,
      (more, subst (λ (x : WorldState). AreStepsOf x v y more) is own, (refl, has)),
    )
push a us [] [] (m ∷ way) b v y c step next run = absurd run
push a us [] (z ∷ zs) way b v y c step next run = absurd run
push a us (w ∷ vs) [] way b v y c step next run = absurd run
push a us (w ∷ vs) (z ∷ zs) [] b v y c step next run = absurd run
push a us (w ∷ vs) (z ∷ zs) (m ∷ way) b v y c step next (here, first, (more, own, rest)) =
    (here, first, (more, own, push m (us ++ more) vs zs way b v y c step next rest))

pub goes_on_pushed : (a : WorldState) (vs : List Event) (ys zs : List (Result Stepped Failed)) (b : WorldState)
    (v : Event) (y : Result Stepped Failed) (c : WorldState) →
    GoesOnFrom a vs ys b → StepGives b v y c → GoesOn b v y c → zs ≡ ys ++ y ∷ [] → GoesOnFrom a (vs ++ v ∷ []) zs c
goes_on_pushed a vs ys zs b v y c run step next is =
    subst (λ (xs : List (Result Stepped Failed)). GoesOnFrom a (vs ++ v ∷ []) xs c) (sym is)
    (record { from = λ us h. onto us (run.from us h) })
  where
    onto : (us : List machine.Event) → (way : List WorldState) × RunGoesOn a us vs ys way b →
        (way : List WorldState) × RunGoesOn a us (vs ++ v ∷ []) (ys ++ y ∷ []) way c
    onto us (way, goes) = (way ++ c ∷ [], push a us vs ys way b v y c step next goes)

-- ---- ONE GROUP

among_at : (cs : List Communicator) (i : ℕ) (a : Communicator) → slice_get cs i ≡ Some a → IsAmong a cs
among_at [] i a h = absurd cc
among_at (c ∷ cs) zero a h = inl (sym (same_Some c a h))
among_at (c ∷ cs) (suc i) a h = inr (among_at cs i a h)

-- what a place names is held
among_held : (m : Membership) (place : Option ℕ) (a : Communicator) → held_at m place ≡ Some a → IsAmong a m.held
among_held m None a h = absurd cc
among_held m (Some i) a h = among_at m.held i a h

pub shares_onwards : (w : WorldState) → SharesGroupsOnwards w
shares_onwards w us more v size limit h k r x e d first second a b e_there d_there a_is b_is same =
    engines_share_groups (length w.engines) (limit_in w.engines) h.happenings k.happenings us more w.engines v.engines
    w.datagrams
    v.datagrams (history_seen w.history) (history_seen v.history) r x e d a b
    h.sound.followed h.goes
    (subst (λ (l : MessageLimit). IsFollowedBy (length w.engines) l k.happenings v.engines v.datagrams
    (history_seen v.history))
    limit
    (subst (λ (n : ℕ). IsFollowedBy n (limit_in v.engines) k.happenings v.engines v.datagrams (history_seen v.history))
    size
    k.sound.followed))
    (subst (λ (l : MessageLimit). GoesWith (length w.engines) l k.happenings (us ++ more)) limit
    (subst (λ (n : ℕ). GoesWith n (limit_in v.engines) k.happenings (us ++ more)) size k.goes)) e_there d_there
    (among_held (member_of e.groups) first a a_is) (among_held (member_of d.groups) second b b_is) same

-- a step leaves the number of ranks
step_size : (old new : WorldState) (event : Event) (answer : Result Stepped Failed) → StepGives old event answer new →
    length new.engines ≡ length old.engines
step_size old new event (Ok added) w = ap length w.ran.others ∙ length-set old.engines w.ran.rank w.ran.next
step_size old new event (Err failed) r = ap (λ (w : WorldState). length w.engines) r.unchanged

-- and the limit of messages
step_limit : (old new : WorldState) (event : Event) (answer : Result Stepped Failed) → StepGives old event answer new →
    limit_in new.engines ≡ limit_in old.engines
step_limit old new event (Ok added) w = w.limit
step_limit old new event (Err failed) r = ap (λ (w : WorldState). limit_in w.engines) r.unchanged

-- a world that lies behind one that has come by a run
record IsOnwards (w : WorldState) (us : List machine.Event) (v : WorldState) : Type 0 where
  pub more : List machine.Event
  pub has : HasRun v (us ++ more)
  pub size : length v.engines ≡ length w.engines
  pub limit : limit_in v.engines ≡ limit_in w.engines

at_once : (a v : WorldState) (us : List machine.Event) → HasRun a us → a ≡ v → IsOnwards a us v
at_once a v us h is =
    subst (λ (x : WorldState). IsOnwards a us x) is
    (record {
      more = [];
      has = subst (λ (vs : List machine.Event). HasRun a vs) (sym (append-nil us)) h;
      size =
          refl;
      limit = refl;
    })

beyond : (a m v : WorldState) (us more : List machine.Event) → length m.engines ≡ length a.engines →
    limit_in m.engines ≡ limit_in a.engines → IsOnwards m (us ++ more) v → IsOnwards a us v
beyond a m v us more size limit o = record {
  more = more ++ o.more;
  has = subst (λ (vs : List machine.Event). HasRun v vs) (append_assoc us more o.more) o.has;
  size = o.size ∙ size;
  limit = o.limit ∙ limit;
}

onwards : (a : WorldState) (us : List machine.Event) (vs : List Event) (ys : List (Result Stepped Failed))
    (way : List WorldState) (b : WorldState) → RunGoesOn a us vs ys way b → (j : ℕ) (v : WorldState) →
    slice_get (a ∷ way) j ≡ Some v → IsOnwards a us v
onwards a us [] [] [] b (is, here) zero v there = at_once a v us here (same_Some a v there)
onwards a us [] [] [] b (is, here) (suc j) v there = absurd cc
onwards a us [] [] (m ∷ way) b run j v there = absurd run
onwards a us [] (y ∷ ys) way b run j v there = absurd run
onwards a us (w ∷ vs) [] way b run j v there = absurd run
onwards a us (w ∷ vs) (y ∷ ys) [] b run j v there = absurd run
onwards a us (w ∷ vs) (y ∷ ys) (m ∷ way) b (here, first, (more, own, rest)) zero v there =
    at_once a v us here (same_Some a v there)
onwards a us (w ∷ vs) (y ∷ ys) (m ∷ way) b (here, first, (more, own, rest)) (suc j) v there =
    beyond a m v us more (step_size a m w y first) (step_limit a m w y first)
    (onwards m (us ++ more) vs ys way b rest j v there)

-- what two share they share the other way round
shared : (w v : WorldState) → ShareGroups w v → ShareGroups v w
shared w v s r x e d first second a b e_there d_there a_is b_is same =
    sym (s x r d e second first b a d_there e_there b_is a_is (sym same))

-- the first world shares with all behind it
shares_first : (a : WorldState) (us : List machine.Event) (v : WorldState) → HasRun a us → IsOnwards a us v →
    ShareGroups a v
shares_first a us v here o = shares_onwards a us o.more v o.size o.limit here o.has

-- and so do any two
all_share : (a : WorldState) (us : List machine.Event) (vs : List Event) (ys : List (Result Stepped Failed))
    (way : List WorldState) (b : WorldState) → RunGoesOn a us vs ys way b → AllShareGroups (a ∷ way)
all_share a us [] [] [] b (is, here) zero j w v w_is v_is =
    subst (λ (x : WorldState). ShareGroups x v) (same_Some a w w_is)
    (shares_first a us v here (onwards a us [] [] [] b (is, here) j v v_is))
all_share a us [] [] [] b (is, here) (suc i) j w v w_is v_is = absurd cc
all_share a us [] [] (m ∷ way) b run i j w v w_is v_is = absurd run
all_share a us [] (y ∷ ys) way b run i j w v w_is v_is = absurd run
all_share a us (u ∷ vs) [] way b run i j w v w_is v_is = absurd run
all_share a us (u ∷ vs) (y ∷ ys) [] b run i j w v w_is v_is = absurd run
all_share a us (u ∷ vs) (y ∷ ys) (m ∷ way) b (here, first, (more, own, rest)) zero j w v w_is v_is =
    subst (λ (x : WorldState). ShareGroups x v) (same_Some a w w_is)
    (shares_first a us v here (onwards a us (u ∷ vs) (y ∷ ys) (m ∷ way) b (here, first, (more, own, rest)) j v v_is))
all_share a us (u ∷ vs) (y ∷ ys) (m ∷ way) b (here, first, (more, own, rest)) (suc i) zero w v w_is v_is =
    subst (λ (x : WorldState). ShareGroups w x) (same_Some a v v_is)
    (shared a w
    (shares_first a us w here
    (onwards a us (u ∷ vs) (y ∷ ys) (m ∷ way) b (here, first, (more, own, rest)) (suc i) w w_is)))
all_share a us (u ∷ vs) (y ∷ ys) (m ∷ way) b (here, first, (more, own, rest)) (suc i) (suc j) w v w_is v_is =
    all_share m (us ++ more) vs ys way b rest i j w v w_is v_is

-- all the way
pub goes_all_the_way : (a : WorldState) (vs : List Event) (ys : List (Result Stepped Failed)) (b : WorldState) →
    GoesOnFrom a vs ys b → GoesAllTheWay a vs ys b
goes_all_the_way a vs ys b goes_on us h = shows (goes_on.from us h)
  where
    shows : (way : List WorldState) × RunGoesOn a us vs ys way b →
        (way : List WorldState) × RunGoesOn a us vs ys way b × AllShareGroups (a ∷ way)
    shows (way, goes) = (way, goes, all_share a us vs ys way b goes)
