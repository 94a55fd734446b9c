-- The requests that engines gave stand under their keys in every world, and so a call that names them means what is
-- seen of it.
use Rattle.std.proofs.Common.{◌≡◌, ℕ, ◌<◌, ◌≤◌, ◌⊎◌, Bool, List, [], ◌∷◌, ◌++◌, length, Option, Some, None}
use Rattle.std.proofs.Common.{if◌then◌else◌, inl, inr, refl, sym, ap, ap₂, subst, ◌∙◌, arith}
use Rattle.std.specs.Prelude.{Ok, option_and_then, slice_get, slice_set}
use Rattle.std.specs.List.{AllByRecursion}
use Rattle.std.proofs.lemmas.Option.{slice_get_within}
use Rattle.engine_calls.specs.EngineState.{EngineState, opening}
use Rattle.engine_calls.specs.declared.call.Call.{Call}
use Rattle.engine_calls.specs.declared.call.Call.TheVariants as calls
use Rattle.engine_calls.specs.declared.reply.Reply.{Reply}
use Rattle.incarnation.specs.declared.place.Place.{Place}
use Rattle.perfect_groups.specs.Calls as machine
use Rattle.perfect_queues.specs.Completions as completions
use Rattle.proof_engine_view.specs.Rows.{IsRow}
use Rattle.proof_engine_view.specs.CoreViews.{IsShown}
use Rattle.proof_group_network.specs.Network.{GroupNetwork}
use Rattle.proof_pure_network.specs.Network.{here}
use Rattle.proof_session_carrying.specs.Announcements.{announcements_in}
use Rattle.observation.specs.CoreCalls.{own_serial, request_by, requests_by, serial_meant}
use Rattle.vocabulary.specs.declared.message_limit.MessageLimit.{MessageLimit}
use Rattle.proof_network_bridge.proofs.Worlds.{set_cases}
use Rattle.proof_network_bridge.specs.EventLaws.{next_place}
use Rattle.proof_network_bridge.specs.WorldViews.{IsFollowed, limit_in, network_after}
use Rattle.observation.specs.EngineCalls.{call_meant, call_seen}
use Rattle.proof_request_keys.proofs.Engines.{calls_keep_keys, datagrams_keep_keys, given_are_named, named_are_own}
use Rattle.proof_request_keys.proofs.Engines.{ticks_keep_keys}
use Rattle.proof_request_keys.specs.Keys.{AreGiven, IsBelow, IsNamed, KeepsKeys}
use Rattle.observation.specs.Requests.{request_given}
use Rattle.point_to_point.specs.CoreState.{CoreState}
use Rattle.requests.specs.Regions.{handed_of}
use Rattle.requests.specs.Table.{slot_at}
use Rattle.requests.specs.declared.table.TableEntry as table
use Rattle.requests.specs.declared.table.Request.{Request}
use Rattle.vocabulary.specs.declared.endpoint.Endpoint.{Endpoint}
use Rattle.world.specs.Faults.{event_fault}
use Rattle.world.specs.GivenRequests.{AreNamed, GivesRequest, IsPast, NamesOwn, WasGiven, WasGivenIf}
use Rattle.world.specs.Headline.{history_seen}
use Rattle.world.specs.Steps.{CallRuns, DatagramRuns, DeliveryRuns, EventRuns, Gave, Ran, RestartRuns, TakesBytes}
use Rattle.world.specs.Steps.{TakesCall, TakesTime, TickRuns, entry_of, nothing_of}
use Rattle.world.specs.WorldState.{ArePlaced}
use Rattle.world.specs.declared.event.HistoryEntry.{HistoryEntry}
use Rattle.world.specs.declared.event.Event.{Event}
use Rattle.world.specs.declared.event.Event.TheVariants as events
use Rattle.world.proofs.Strays.{stray_breaks}

-- ---- one entry more

given_more : (h : List HistoryEntry) (entry : HistoryEntry) (x : Endpoint) (q : Request) →
    WasGiven (h ++ entry ∷ []) x q → WasGiven h x q ⊎ GivesRequest entry x q
given_more [] entry x q (inl g) = inr g
given_more [] entry x q (inr g) = inl g
given_more (y ∷ h) entry x q (inl g) = inl (inl g)
given_more (y ∷ h) entry x q (inr g) = go (given_more h entry x q g)
  where
    go : WasGiven h x q ⊎ GivesRequest entry x q → WasGiven (y ∷ h) x q ⊎ GivesRequest entry x q
    go (inl before) = inl (inr before)
    go (inr now) = inr now

past_more : (x : Endpoint) (h : List HistoryEntry) (entry : HistoryEntry) → AllByRecursion (IsPast x) h →
    IsPast x entry → AllByRecursion (IsPast x) (h ++ entry ∷ [])
past_more x [] entry all here = (here, tt)
past_more x (y ∷ h) entry all here = (all.0, past_more x h entry all.1 here)

-- what is past at an endpoint is so at a later one of its rank
past_later : (x y : Endpoint) (h : List HistoryEntry) → y.rank ≡ x.rank → x.incarnation ≤ y.incarnation →
    AllByRecursion (IsPast x) h → AllByRecursion (IsPast y) h
past_later x y [] rank later all = tt
past_later x y (entry ∷ h) rank later all = (
  λ is. (let before : entry.endpoint.incarnation ≤ x.incarnation = all.0 (is ∙ rank) in omega
      (arith, before, later)),
  past_later x y h rank later all.1,
)

-- nothing was given at an endpoint that is to come
none_to_come : (x y : Endpoint) (h : List HistoryEntry) (q : Request) → y.rank ≡ x.rank →
    x.incarnation < y.incarnation → AllByRecursion (IsPast x) h → WasGiven h y q → ⊥
none_to_come x y [] q rank later all given = given
none_to_come x y (entry ∷ h) q rank later all (inl g) =
    let before : entry.endpoint.incarnation ≤ x.incarnation = all.0 (ap (λ (e : Endpoint). e.rank) g.endpoint ∙ rank) in
    let same : entry.endpoint.incarnation ≡ y.incarnation = ap (λ (e : Endpoint). e.incarnation) g.endpoint in
    omega (arith, before, same, later)
none_to_come x y (entry ∷ h) q rank later all (inr g) = none_to_come x y h q rank later all.1 g

-- ---- an engine after an event

-- of another rank nothing changed
named_elsewhere : (h : List HistoryEntry) (entry : HistoryEntry) (e : EngineState) →
    (entry.endpoint.rank ≡ e.sessions.place.endpoint.rank → ⊥) → AreNamed h e → AreNamed (h ++ entry ∷ []) e
named_elsewhere h entry e apart n =
    record { past = past_more e.sessions.place.endpoint h entry n.past (λ is. absurd (apart is)); named = named }
  where
    named : (q : Request) → WasGiven (h ++ entry ∷ []) e.sessions.place.endpoint q → IsNamed e.core q
    named q given = go (given_more h entry e.sessions.place.endpoint q given)
      where
        go : WasGiven h e.sessions.place.endpoint q ⊎ GivesRequest entry e.sessions.place.endpoint q → IsNamed e.core q
        go (inl before) = n.named q before
        go (inr now) = absurd (apart (ap (λ (x : Endpoint). x.rank) now.endpoint))

-- one that went on, and gave what the entry says
named_after : (h : List HistoryEntry) (entry : HistoryEntry) (e next : EngineState) →
    next.sessions.place ≡ e.sessions.place → entry.endpoint ≡ e.sessions.place.endpoint →
    ((q : Request) → IsNamed e.core q → IsNamed next.core q) →
    ((q : Request) → option_and_then request_given entry.reply ≡ Some q → IsNamed next.core q) → AreNamed h e →
    AreNamed (h ++ entry ∷ []) next
named_after h entry e next place endpoint keeps gives n =
    record {
      past = subst (λ (p : Place). AllByRecursion (IsPast p.endpoint) (h ++ entry ∷ [])) (sym place)
          (past_more e.sessions.place.endpoint h entry n.past (λ is. (let same : entry.endpoint.incarnation ≡ e.sessions.place.endpoint.incarnation = ap (λ (x : Endpoint). x.incarnation) endpoint in omega (arith, same))));
      named = λ q given. go q
          (given_more h entry e.sessions.place.endpoint q
          (subst (λ (p : Place). WasGiven (h ++ entry ∷ []) p.endpoint q) place given));
    }
  where
    go : (q : Request) → WasGiven h e.sessions.place.endpoint q ⊎ GivesRequest entry e.sessions.place.endpoint q →
        IsNamed next.core q
    go q (inl before) = keeps q (n.named q before)
    go q (inr now) = gives q now.gave

-- one that gave way to the next incarnation
named_anew : (h : List HistoryEntry) (entry : HistoryEntry) (e : EngineState) →
    entry.endpoint ≡ e.sessions.place.endpoint → entry.reply ≡ None → AreNamed h e →
    AreNamed (h ++ entry ∷ []) (opening (next_place e.sessions.place))
named_anew h entry e endpoint silent n =
    record {
      past = past_later x y (h ++ entry ∷ []) refl (omega arith) past;
      named = λ q given. absurd (none_to_come x y (h ++ entry ∷ []) q refl (omega arith) past given);
    }
  where
    x : Endpoint
    x = e.sessions.place.endpoint

    y : Endpoint
    y = (next_place e.sessions.place).endpoint

    past : AllByRecursion (IsPast x) (h ++ entry ∷ [])
    past = past_more x h entry n.past
        (λ is. (let same : entry.endpoint.incarnation ≡ x.incarnation = ap (λ (d : Endpoint). d.incarnation) endpoint in
        omega (arith, same)))

-- ---- what an engine of a world holds

-- a serial that stands in the table was given
given_there : (n r : ℕ) (engines : List EngineState) (datagrams : List (ℕ × List ℕ)) (h : List HistoryEntry)
    (e : EngineState) → IsFollowed n engines datagrams (history_seen h) → slice_get engines r ≡ Some e → AreGiven e.core
given_there n r engines datagrams h e f there key = go (slot_at e.core.slots key) refl
  where
    w : GroupNetwork
    w = network_after n f.limit f.happenings

    shown : IsShown (announcements_in 0 f.joined.sessions (here w.net r)) e.core e.sessions.known
        (w.net.core (here w.net r))
    shown = (f.joined.held r e there).queues 0

    go : (o : Option table.TableEntry) → slot_at e.core.slots key ≡ o → IsBelow e.core.serial o
    go None is = tt
    go (Some t) is =
        let row : IsRow shown.rows key t = shown.table.entries key t is in
        let low : t.serial < length shown.rows = slice_get_within shown.rows t.serial row.row row.there in
        let count : length shown.rows ≡ e.core.serial = shown.count in
        omega (arith, low, count)

-- its core stands where its sessions stand
placed_there : (n r : ℕ) (engines : List EngineState) (datagrams : List (ℕ × List ℕ)) (h : List HistoryEntry)
    (e : EngineState) → IsFollowed n engines datagrams (history_seen h) → slice_get engines r ≡ Some e →
    e.core.place ≡ e.sessions.place
placed_there n r engines datagrams h e f there = (f.joined.held r e there).placed

-- ---- an event

-- what an engine did that took an event, by its state before what it gave was taken out
ran_named : (h : List HistoryEntry) (event : Event) (e next : EngineState) (gave : Gave) (Takes : Option Reply →
    EngineState → Type 0) (ran : Ran e Takes gave next) → next.core.place ≡ next.sessions.place →
    e.core.place ≡ e.sessions.place →
    KeepsKeys e.core ran.mid.core →
    ((q : Request) → option_and_then request_given gave.reply ≡ Some q → IsNamed ran.mid.core q) → AreNamed h e →
    AreNamed (h ++ entry_of event gave ∷ []) next
ran_named h event e next gave Takes ran next_placed placed keeps gives n =
    named_after h (entry_of event gave) e next
    (sym next_placed ∙ ap (λ (x : EngineState). x.core.place) ran.state ∙ keeps.place ∙ placed) ran.endpoint
    (λ q before. out q (keeps.named q before)) (λ q is. out q (gives q is)) n
  where
    out : (q : Request) → IsNamed ran.mid.core q → IsNamed next.core q
    out q named =
        subst (λ (x : EngineState). IsNamed x.core q) (sym ran.state)
        (record { given = named.given; stands = named.stands })

-- no reply gives nothing
none_given : (o : Option Reply) (q : Request) → o ≡ None → option_and_then request_given o ≡ Some q → ⊥
none_given None q none is = absurd cc
none_given (Some reply) q none is = absurd cc

call_named : (h : List HistoryEntry) (r : ℕ) (call : Call) (e next : EngineState) (gave : Gave) →
    CallRuns e call (Ok gave) next → next.core.place ≡ next.sessions.place → e.core.place ≡ e.sessions.place →
    AreGiven e.core → AreNamed h e →
    AreNamed (h ++ entry_of (events.Call r call) gave ∷ []) next
call_named h r call e next gave ran next_placed placed given n = go gave.reply refl
  where
    go : (o : Option Reply) → gave.reply ≡ o → AreNamed (h ++ entry_of (events.Call r call) gave ∷ []) next
    go None is = absurd (subst (λ (o : Option Reply). TakesCall e call o ran.mid) is ran.event)
    go (Some reply) is =
        let took = subst (λ (o : Option Reply). TakesCall e call o ran.mid) is ran.event in
        ran_named h (events.Call r call) e next gave (TakesCall e call) ran next_placed placed
        (calls_keep_keys e ran.mid call reply took.1)
        (λ q gives. given_are_named e ran.mid call reply q given took.1 (sym (ap (option_and_then request_given) is) ∙
        gives)) n

datagram_named : (h : List HistoryEntry) (event : Event) (bytes : List ℕ) (e next : EngineState) (gave : Gave) →
    DatagramRuns e bytes (Ok gave) next → next.core.place ≡ next.sessions.place → e.core.place ≡ e.sessions.place →
    AreNamed h e →
    AreNamed (h ++ entry_of event gave ∷ []) next
datagram_named h event bytes e next gave ran next_placed placed n = go gave.reply refl
  where
    go : (o : Option Reply) → gave.reply ≡ o → AreNamed (h ++ entry_of event gave ∷ []) next
    go (Some reply) is = absurd (subst (λ (o : Option Reply). TakesBytes e bytes o ran.mid) is ran.event)
    go None is =
        ran_named h event e next gave (TakesBytes e bytes) ran next_placed placed
        (datagrams_keep_keys e ran.mid bytes
        (subst (λ (o : Option Reply). TakesBytes e bytes o ran.mid) is ran.event))
        (λ q gives. absurd (none_given gave.reply q is gives)) n

tick_named : (h : List HistoryEntry) (event : Event) (now : ℕ) (e next : EngineState) (gave : Gave) →
    TickRuns e now (Ok gave) next → next.core.place ≡ next.sessions.place → e.core.place ≡ e.sessions.place →
    AreNamed h e →
    AreNamed (h ++ entry_of event gave ∷ []) next
tick_named h event now e next gave ran next_placed placed n = go gave.reply refl
  where
    go : (o : Option Reply) → gave.reply ≡ o → AreNamed (h ++ entry_of event gave ∷ []) next
    go (Some reply) is = absurd (subst (λ (o : Option Reply). TakesTime e now o ran.mid) is ran.event)
    go None is =
        ran_named h event e next gave (TakesTime e now) ran next_placed placed
        (ticks_keep_keys e ran.mid now (subst (λ (o : Option Reply). TakesTime e now o ran.mid) is ran.event))
        (λ q gives. absurd (none_given gave.reply q is gives)) n

restart_named : (h : List HistoryEntry) (event : Event) (e next : EngineState) (gave : Gave) →
    RestartRuns e (Ok gave) next → AreNamed h e → AreNamed (h ++ entry_of event gave ∷ []) next
restart_named h event e next gave ran n =
    subst (λ (g : Gave). AreNamed (h ++ entry_of event g ∷ []) next) (sym ran.2)
    (subst (λ (x : EngineState). AreNamed (h ++ entry_of event (nothing_of e.sessions.place.endpoint) ∷ []) x)
    (sym ran.1) (named_anew h (entry_of event (nothing_of e.sessions.place.endpoint)) e refl refl n))

-- the engine to which it comes
event_named : (size : ℕ) (limit : MessageLimit) (d : List (ℕ × List ℕ)) (h : List HistoryEntry) (event : Event)
    (e next : EngineState)
    (gave : Gave) → event_fault size limit d event ≡ None → EventRuns d event e (Ok gave) next →
    next.core.place ≡ next.sessions.place → e.core.place ≡ e.sessions.place → AreGiven e.core → AreNamed h e →
    AreNamed (h ++ entry_of event gave ∷ []) next
event_named size limit d h (events.Call r call) e next gave allowed ran next_placed placed given n =
    call_named h r call e next gave ran next_placed placed given n
event_named size limit d h (events.Deliver number) e next gave allowed ran next_placed placed given n =
    go (slice_get d number) ran
  where
    go : (o : Option (ℕ × List ℕ)) → DeliveryRuns o e (Ok gave) next →
        AreNamed (h ++ entry_of (events.Deliver number) gave ∷ []) next
    go None g = absurd g
    go (Some (to, bytes)) g = datagram_named h (events.Deliver number) bytes e next gave g next_placed placed n
event_named size limit d h (events.Stray r bytes) e next gave allowed ran next_placed placed given n =
    absurd (stray_breaks size limit d r bytes allowed)
event_named size limit d h (events.Tick r now) e next gave allowed ran next_placed placed given n =
    tick_named h (events.Tick r now) now e next gave ran next_placed placed n
event_named size limit d h (events.Restart r) e next gave allowed ran next_placed placed given n =
    restart_named h (events.Restart r) e next gave ran n

-- the endpoint that an entry has is that of the engine that took it
gave_at : (d : List (ℕ × List ℕ)) (event : Event) (e next : EngineState) (gave : Gave) →
    EventRuns d event e (Ok gave) next → gave.endpoint ≡ e.sessions.place.endpoint
gave_at d (events.Call r call) e next gave ran = ran.endpoint
gave_at d (events.Deliver number) e next gave ran = go (slice_get d number) ran
  where
    go : (o : Option (ℕ × List ℕ)) → DeliveryRuns o e (Ok gave) next → gave.endpoint ≡ e.sessions.place.endpoint
    go None g = absurd g
    go (Some (to, bytes)) g = g.endpoint
gave_at d (events.Stray r bytes) e next gave ran = ran.endpoint
gave_at d (events.Tick r now) e next gave ran = ran.endpoint
gave_at d (events.Restart r) e next gave ran = ap (λ (g : Gave). g.endpoint) ran.2

-- all of them
pub all_named : (old new : List EngineState) (d d' : List (ℕ × List ℕ)) (h : List HistoryEntry) (event : Event)
    (rank : ℕ) (e next : EngineState) (gave : Gave) → slice_get old rank ≡ Some e → new ≡ slice_set old rank next →
    event_fault (length old) (limit_in old) d event ≡ None → EventRuns d event e (Ok gave) next →
    IsFollowed (length old) old d (history_seen h) →
    IsFollowed (length new) new d' (history_seen (h ++ entry_of event gave ∷ [])) → ArePlaced old →
    ((r : ℕ) (x : EngineState) → slice_get old r ≡ Some x → AreNamed h x) →
    (r : ℕ) (x : EngineState) → slice_get new r ≡ Some x → AreNamed (h ++ entry_of event gave ∷ []) x
all_named old new d d' h event rank e next gave there others allowed ran before after placed named r x is =
    go (set_cases old rank next r x (subst (λ (es : List EngineState). slice_get es r ≡ Some x) others is))
  where
    here : r ≡ rank → x ≡ next → AreNamed (h ++ entry_of event gave ∷ []) x
    here same is_next =
        subst (λ (y : EngineState). AreNamed (h ++ entry_of event gave ∷ []) y) (sym is_next)
        (event_named (length old) (limit_in old) d h event e next gave allowed ran
        (subst (λ (y : EngineState). y.core.place ≡ y.sessions.place) is_next
        (placed_there (length new) r new d' (h ++ entry_of event gave ∷ []) x after is))
        (placed_there (length old) rank old d h e before there) (given_there (length old) rank old d h e before there)
        (named rank e there))

    elsewhere : (r ≡ rank → ⊥) → slice_get old r ≡ Some x → AreNamed (h ++ entry_of event gave ∷ []) x
    elsewhere apart stands =
        named_elsewhere h (entry_of event gave) x
        (λ same. apart
        (sym (sym (placed rank e there).rank ∙
        ap (λ (y : Endpoint). y.rank) (sym (gave_at d event e next gave ran)) ∙ same ∙ (placed r x stands).rank)))
        (named r x stands)

    go : ((r ≡ rank) × (x ≡ next)) ⊎ ((r ≡ rank → ⊥) × (slice_get old r ≡ Some x)) →
        AreNamed (h ++ entry_of event gave ∷ []) x
    go (inl c) = here c.0 c.1
    go (inr c) = elsewhere c.0 c.1

-- ---- what a call means

-- a request of its own engine means its own serial
own_means : (c : CoreState) (q : Request) → IsNamed c q → serial_meant c q ≡ own_serial q
own_means c q n = ap (λ (b : Bool). if b then c.serial else q.serial) (named_are_own c q n)

request_means : (h : List HistoryEntry) (e : EngineState) (o : Option Request) → AreNamed h e →
    WasGivenIf h e.sessions.place.endpoint o → request_by (serial_meant e.core) o ≡ request_by own_serial o
request_means h e None n given = refl
request_means h e (Some q) n given = ap (λ (k : ℕ). Some k) (own_means e.core q (n.named q given))

requests_mean : (h : List HistoryEntry) (e : EngineState) (qs : List (Option Request)) → AreNamed h e →
    AllByRecursion (WasGivenIf h e.sessions.place.endpoint) qs →
    requests_by (serial_meant e.core) qs ≡ requests_by own_serial qs
requests_mean h e [] n all = refl
requests_mean h e (q ∷ qs) n all =
    ap₂ (λ (x : Option ℕ) (xs : List (Option ℕ)). x ∷ xs) (request_means h e q n all.0) (requests_mean h e qs n all.1)

pub means_what_is_seen : (h : List HistoryEntry) (e : EngineState) (call : Call) → AreNamed h e →
    NamesOwn h e.sessions.place.endpoint call → call_meant e.core call ≡ call_seen call
means_what_is_seen h e (calls.Isend s) n own = refl
means_what_is_seen h e (calls.Irecv v) n own = refl
means_what_is_seen h e (calls.Wait q) n own =
    ap (λ (k : Option ℕ). machine.Wait (completions.One k)) (request_means h e q n own.0)
means_what_is_seen h e (calls.Test q) n own = ap machine.Test (request_means h e q n own.0)
means_what_is_seen h e (calls.Waitany qs) n own =
    ap (λ (ks : List (Option ℕ)). machine.Wait (completions.AnyOf ks)) (requests_mean h e qs n own)
means_what_is_seen h e (calls.Waitall qs) n own =
    ap (λ (ks : List (Option ℕ)). machine.Wait (completions.AllOf ks)) (requests_mean h e qs n own)
means_what_is_seen h e (calls.Cancel q) n own = ap machine.Cancel (request_means h e q n own.0)
means_what_is_seen h e (calls.Iprobe p) n own = refl
means_what_is_seen h e (calls.Improbe p) n own = refl
means_what_is_seen h e (calls.Mrecv q into) n own =
    ap (λ (k : Option ℕ). machine.Mrecv k (handed_of into)) (request_means h e q n own.0)
means_what_is_seen h e (calls.Enter comm x) n own = refl
means_what_is_seen h e (calls.Ask comm q) n own = refl
