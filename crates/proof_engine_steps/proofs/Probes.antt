-- Probes of a rank are those of its core in the network: a look, and a matching probe, which takes a message out.
use Rattle.std.proofs.Common.{◌≡◌, ℕ, Bool, true, false, List, [], ◌∷◌, ◌++◌, map, length, Option, Some, None}
use Rattle.std.proofs.Common.{if◌then◌else◌, option_map, slice_get, refl, sym, ap, ap₂, ◌∙◌, subst, append-nil, ◌⊎◌}
use Rattle.std.proofs.Common.{inl, inr}
use Rattle.std.specs.List.{AllByRecursion}
use Rattle.vocabulary.specs.declared.endpoint.Endpoint.{Endpoint}
use Rattle.vocabulary.specs.declared.envelope.Source.{Source}
use Rattle.vocabulary.specs.declared.envelope.Source.TheVariants as sources
use Rattle.vocabulary.specs.declared.envelope.Status.{Status}
use Rattle.perfect_queues.specs.Calls as machine
use Rattle.perfect_queues.specs.Completions as completions
use Rattle.perfect_queues.specs.Completions.{Answer, Unanswered, answer_to}
use Rattle.perfect_queues.specs.Events.{Called, told}
use Rattle.perfect_queues.specs.Outcomes.{null_status}
use Rattle.perfect_queues.specs.Receives as receives
use Rattle.perfect_queues.specs.Refusals as rules
use Rattle.perfect_queues.specs.Refusals.{is_held, standing}
use Rattle.match_queues.specs.Bodies as bodies
use Rattle.match_queues.specs.declared.envelope.Body.{Body}
use Rattle.match_queues.specs.declared.envelope.Body.TheVariants.{Announced, Own, Whole}
use Rattle.match_queues.specs.declared.envelope.Message.{Message}
use Rattle.match_queues.specs.declared.envelope.PostedReceive as queued
use Rattle.match_queues.specs.State.{State, after_take, message_for, taken_at}
use Rattle.requests.specs.declared.awaited_requests.Awaited.{Awaited}
use Rattle.requests.specs.declared.table.RequestProgress.TheVariants.{TakenOut}
use Rattle.requests.specs.declared.table.Request.{Request}
use Rattle.communicator_members.specs.Statuses.{status_in}
use Rattle.point_to_point_calls.specs.CoreCalls as calls
use Rattle.point_to_point_calls.specs.declared.call.RoutedProbe.{RoutedProbe}
use Rattle.point_to_point_calls.specs.CoreCalls.{CoreReply}
use Rattle.point_to_point_calls.specs.declared.refusal.Refusal.{Refusal}
use Rattle.point_to_point_calls.specs.declared.refusal.Refusal.TheVariants as refusals
use Rattle.point_to_point_calls.specs.ReceiveMatches.{status_of}
use Rattle.point_to_point_calls.specs.FrameNews.{first_of}
use Rattle.point_to_point_calls.specs.Refusals.{number_of_refusal}
use Rattle.point_to_point.specs.Calls.{free_fault}
use Rattle.point_to_point.specs.CoreState.{CoreState}
use Rattle.point_to_point.specs.Messages.{IsTakingOut, Searches, SearchesFrom, TakesOut, found_for, looked, probe_rule}
use Rattle.point_to_point.specs.Messages.{probed_by, search_limit}
use Rattle.proof_pure_network.specs.Core.{Core, view}
use Rattle.proof_pure_network.specs.Engine.{core_ready, core_settled, core_settled_by}
use Rattle.proof_pure_network.specs.WaitingMessages as held
use Rattle.proof_pure_network.specs.WaitingMessages.{Held, blank}
use Rattle.proof_pure_network.specs.Jobs.{Job, Probed, Unmatched, over_at, request_of}
use Rattle.proof_pure_network.specs.Matches.{found, found_status, looked_at, looks, searched_at, searches}
use Rattle.proof_pure_network.proofs.JobLemmas.{push_at}
use Rattle.std.proofs.lemmas.List.{length-map}
use Rattle.proof_engine_view.specs.Faults.{queue_fault, queue_fault_by}
use Rattle.proof_engine_view.specs.Rows.{Row, body_seen, held_of, posted_rows}
use Rattle.observation.specs.CoreCalls.{match_seen, probe_seen}
use Rattle.proof_engine_view.specs.CoreViews.{IsBlocked, IsShown}
use Rattle.proof_engine_view.specs.Transfers.{Announcements, AnnouncementsGrow, Transfer}
use Rattle.proof_engine_view.specs.UnderWay.{AreUnderWay, IsFromLink}
use Rattle.proof_engine_matching.specs.Matches.{Takes, TakesMatch, TakesNone}
use Rattle.proof_engine_steps.specs.Probes.{HoldsNone, IsLookedAt, LooksAreJudged, LooksAreShown, SearchesFindAll}
use Rattle.proof_engine_steps.specs.Probes.{look_fault_at, told_of}
use Rattle.proof_engine_steps.specs.Steps.{IsCalled}
use Rattle.proof_engine_steps.proofs.CallMeanings.{IsMeant, meant_called}
use Rattle.proof_engine_steps.proofs.RequestStarts.{core_free, fault_free, holding_of, holding_started, shown_free}
use Rattle.proof_engine_steps.proofs.TakenRows.{IsLarge, IsUnmatched, back_pushed, forth_pushed, from_forth}
use Rattle.proof_engine_steps.proofs.TakenRows.{messages_forth, under_way_rows}
use Rattle.proof_engine_steps.proofs.UnderWay.{row_of}
use Rattle.proof_engine_steps.proofs.BlockedRanks.{Holding}
use Rattle.proof_engine_steps.proofs.Wholes.{found_at, removed}

-- ---- WHAT IS FOUND

-- both count the elements alike
count_seen : (ts : List Transfer) (b : Body) → held.count_of (body_seen ts b) ≡ bodies.count_of b
count_seen ts (Whole c) = refl
count_seen ts (Own o) = refl
count_seen ts (Announced a) = refl

-- and the status is the same
status_seen : (from : Endpoint → List Transfer) (p : RoutedProbe) (m : Message) →
    found_status (probe_seen p) (held_of from m) ≡ status_in p.group (status_of m)
status_seen from p m =
    ap (λ (n : ℕ). status_in p.group (record { source = sources.Rank m.sender.rank; tag = Some m.tag; count = n }))
    (count_seen (from m.sender) m.body)

-- what a message that was found tells
abbrev told_status : RoutedProbe → Option Message → Option Status
told_status p o = option_map (λ (m : Message). status_in p.group (status_of m)) o

-- ---- THE CORE

-- the core while its probe isn't answered
abbrev probing : Core → Unanswered → Core
probing core b = record core { blocked = Some b }

-- once it is answered, the core is as it was
probed_settled : (core : Core) (b : Unanswered) (x : Answer) → core.blocked ≡ None → answer_to (over_at core.jobs) b ≡
    Some (x, []) → core_settled (probing core b) ≡ core
probed_settled core b x free ready = ap (core_settled_by (probing core b)) ready ∙
    ap (λ (o : Option Unanswered). record core { blocked = o }) (sym free)

-- ---- LOOKS

-- a look by what both make of it
looked_by : (old : CoreState) (core : Core) (p : RoutedProbe) (b : Unanswered) (o : Option Status) → core.blocked ≡ None
    →
    looks core (probe_seen p) p.route.named ≡ probing core b →
    answer_to (over_at core.jobs) b ≡ Some (completions.ForProbe o, []) → told_of old p ≡ o →
    (o ≡ None → HoldsNone core p) → IsLookedAt old core p
looked_by old core p b o free is ready tells none =
    record {
      stays = ap core_settled is ∙ probed_settled core b (completions.ForProbe o) free ready;
      tells = ap (told old.place.endpoint (Some (machine.Iprobe (probe_seen p), None))) (ap core_ready is ∙ ready)
          ∙ ap (λ (x : Option Status). Called old.place.endpoint (machine.Iprobe (probe_seen p))
          (machine.Done (completions.ForProbe x)) ∷ []) (sym tells);
      finds = λ e. none (sym tells ∙ e);
    }

-- a probe from a rank, or from any, asks for messages
record Asks (old : CoreState) (core : Core) (p : RoutedProbe) : Type 0 where
  look : looks core (probe_seen p) p.route.named ≡
      looked_at core (probe_seen p) (found (receives.such_receive (probe_seen p)) core.held)
  tells : told_of old p ≡ told_status p (found_for old p.route.named p.probe.tag p.route.context)

-- such a look
asked_shown : TakesMatch → (links : Announcements) (old : CoreState) (known : List ℕ) (core : Core) (p : RoutedProbe) →
    IsShown links old known core → core.blocked ≡ None → Asks old core p → IsLookedAt old core p
asked_shown match links old known core p shown free asks = go (match links.from old.queues (probe_seen p))
  where
    such : receives.Receive
    such = receives.such_receive (probe_seen p)

    -- what is found by the core
    by_core : (o : Option (List Held × Held × List Held)) →
        found such (map (held_of links.from) old.queues.unexpected) ≡ o → found such core.held ≡ o
    by_core o e = ap (found such) shown.held ∙ e

    go : TakesNone links.from old.queues (probe_seen p) ⊎
        ((m : Message) × (earlier : List Held) ×
        (later : List Held) × Takes links.from old.queues (probe_seen p) m earlier later) → IsLookedAt old core p
    go (inl none) =
        looked_by old core p (completions.Looks (probe_seen p)) None free
        (asks.look ∙ ap (looked_at core (probe_seen p)) (by_core None none.core)) refl
        (asks.tells ∙ ap (told_status p) none.message)
        (λ e. by_core None none.core)
    go (inr t) =
        looked_by old core p (completions.Saw (found_status (probe_seen p) (held_of links.from t.0)))
        (Some (found_status (probe_seen p) (held_of links.from t.0))) free
        (asks.look ∙ ap (looked_at core (probe_seen p)) (by_core (Some (t.1, held_of links.from t.0, t.2)) t.3.core))
        refl
        (asks.tells ∙ (ap (told_status p) t.3.message ∙ ap Some (sym (status_seen links.from p t.0))))
        (λ e. absurd cc)

-- each look is a probe of the core
pub looks_are_shown : TakesMatch → LooksAreShown
looks_are_shown match links old known core p shown free = go p.route.named refl
  where
    core_is : core.blocked ≡ None
    core_is = core_free links old known core shown free

    go : (s : Source) → p.route.named ≡ s → IsLookedAt old core p
    go sources.Null is =
        looked_by old core p (completions.Saw null_status) (Some null_status) core_is
        (ap (looks core (probe_seen p)) is) refl (ap (λ (s : Source). looked old s p.probe.tag p.route.context p.group)
        is)
        (λ e. absurd cc)
    go sources.Any is =
        asked_shown match links old known core p shown core_is
        (record {
          look = ap (looks core (probe_seen p)) is;
          tells = ap (λ (s : Source). looked old s p.probe.tag p.route.context p.group) is ∙
              ap (λ (s : Source). told_status p (found_for old s p.probe.tag p.route.context)) (sym is);
        })
    go (sources.Rank r) is =
        asked_shown match links old known core p shown core_is
        (record {
          look = ap (looks core (probe_seen p)) is;
          tells = ap (λ (s : Source). looked old s p.probe.tag p.route.context p.group) is ∙
              ap (λ (s : Source). told_status p (found_for old s p.probe.tag p.route.context)) (sym is);
        })

-- ---- THEIR FAULTS

-- the machine's two rules on a probe are the rank's
rules_same : (high beyond : Bool) →
    rules.first_fault ((false, 6) ∷ (false, 4) ∷ (false, 2) ∷ (false, 1) ∷ (high, 3) ∷ (beyond, 5) ∷ (false, 7) ∷
    (false, 9) ∷ (false, 11) ∷ [])
    ≡ option_map number_of_refusal (if high then Some refusals.Tag else (if beyond then Some refusals.Rank else None))
rules_same true beyond = refl
rules_same false true = refl
rules_same false false = refl

-- while no call is blocked
judged_free : (links : Announcements) (old : CoreState) (known : List ℕ) (core : Core) (p : RoutedProbe) →
    IsShown links old known core → old.blocked ≡ None →
    queue_fault old.place (view blank core) (machine.Iprobe (probe_seen p)) ≡
    option_map number_of_refusal (probe_rule old.place.size p.route.named p.probe.tag)
unfolding probe_rule
judged_free links old known core p shown free =
    fault_free old.place core (machine.Iprobe (probe_seen p)) (core_free links old known core shown free)
    ∙ rules_same (rules.is_tag_above p.probe.tag) (rules.is_source_beyond old.place.size p.route.named)

-- the fault of a look is the machine's
pub looks_are_judged : LooksAreJudged
looks_are_judged links old known core p shown = go old.blocked refl shown.blocked
  where
    go : (b : Option Awaited) → old.blocked ≡ b → IsBlocked shown.rows b core.blocked →
        queue_fault old.place (view blank core) (machine.Iprobe (probe_seen p)) ≡
        option_map number_of_refusal (look_fault_at b old p)
    go None is c = judged_free links old known core p shown is
    go (Some a) is c =
        ap (λ (b : Option Unanswered). queue_fault_by old.place.size old.place.message_limit (is_held b)
        (λ k. standing (slice_get (map (request_of blank) core.jobs) k)) (machine.Iprobe (probe_seen p))) c.0

-- ---- MATCHING PROBES

-- the fault of a matching probe, but for its limit, is the machine's
pub searches_judged : (links : Announcements) (old : CoreState) (known : List ℕ) (core : Core) (p : RoutedProbe) →
    IsShown links old known core → old.blocked ≡ None →
    queue_fault old.place (view blank core) (machine.Improbe (probe_seen p)) ≡
    option_map number_of_refusal (probe_rule old.place.size p.route.named p.probe.tag)
unfolding probe_rule
searches_judged links old known core p shown free =
    fault_free old.place core (machine.Improbe (probe_seen p)) (core_free links old known core shown free)
    ∙ rules_same (rules.is_tag_above p.probe.tag) (rules.is_source_beyond old.place.size p.route.named)

-- where two rules find nothing, the first one doesn't
first_none : (a b : Option Refusal) → first_of a b ≡ None → a ≡ None
first_none None b h = refl
first_none (Some e) b h = absurd cc

-- no rule of the machine is broken by one that meets none
pub search_fit : (links : Announcements) (old : CoreState) (known : List ℕ) (core : Core) (p : RoutedProbe) →
    IsShown links old known core → old.blocked ≡ None → free_fault old (calls.Improbe p) ≡ None →
    queue_fault old.place (view blank core) (machine.Improbe (probe_seen p)) ≡ None
search_fit links old known core p shown free fine =
    searches_judged links old known core p shown free ∙
    ap (option_map number_of_refusal)
    (first_none (probe_rule old.place.size p.route.named p.probe.tag) (search_limit p.route.named old p) fine)

-- it takes nothing out
search_kept : (links : Announcements) (old : CoreState) (known : List ℕ) (core : Core) (p : RoutedProbe)
    (b : Unanswered)
    (o : Option (Option Request × Status)) → IsShown links old known core → old.blocked ≡ None →
    free_fault old (calls.Improbe p) ≡ None → searches core (probe_seen p) p.route.named ≡ probing core b →
    answer_to (over_at core.jobs) b ≡ Some (completions.ForMatch (match_seen o), []) →
    IsMeant links old known core (machine.Improbe (probe_seen p)) (calls.Matched o) old
search_kept links old known core p b o shown free fine is ready =
    record {
      fit = search_fit links old known core p shown free fine;
      place = refl;
      completion = refl;
      shown = subst (λ (c : Core). IsShown links old known c)
          (sym (ap core_settled is ∙
          probed_settled core b (completions.ForMatch (match_seen o)) (core_free links old known core shown free)
          ready)) shown;
      sends = refl;
      tells = ap (told old.place.endpoint (Some (machine.Improbe (probe_seen p), None))) (ap core_ready is ∙ ready);
    }

-- the messages that are left
take_leaves : (P : Message → Type 0) (s : State) (o : Option ℕ) → AllByRecursion P s.unexpected →
    AllByRecursion P (taken_at o s).unexpected
take_leaves P s None h = h
take_leaves P s (Some i) h = removed P s.unexpected i h

-- the message has the next serial
taken_serial : (links : Announcements) (old : CoreState) (known : List ℕ) (core : Core) (r : Request) →
    IsShown links old known core → r.serial ≡ old.serial → length core.jobs ≡ r.serial
taken_serial links old known core r shown serial =
    ap (λ (js : List Job). length js) shown.jobs ∙
    (length-map shown.rows (λ (x : Row). x.job) ∙ (shown.count ∙ sym serial))

-- a row of the message that was taken out
abbrev taken_row : (links : Announcements) → RoutedProbe → (key : ℕ) → Message → Row
taken_row links p key m = row_of key (Probed p.group (Some (held_of links.from m)))

-- the core once it was taken out, and the probe answered
abbrev taken_core : (links : Announcements) → Core → RoutedProbe → Message → (earlier later : List Held) → Core
taken_core links core p m earlier later =
    record core {
      jobs = core.jobs ++ Probed p.group (Some (held_of links.from m)) ∷ [];
      blocked = None;
      held =
          earlier ++ later;
    }

-- both hold it from then on
taken_holds : (links : Announcements) (old new : CoreState) (known : List ℕ) (core : Core) (p : RoutedProbe)
    (m : Message)
    (r : Request) (earlier later : List Held) → (shown : IsShown links old known core) →
    Takes links.from old.queues (probe_seen p) m earlier later → IsTakingOut old p m r new →
    Holding links new known (taken_core links core p m earlier later) (shown.rows ++ taken_row links p r.key m ∷ [])
taken_holds links old new known core p m r earlier later shown takes out =
    holding_started links links old new known core (taken_core links core p m earlier later) shown.rows r.key
    (TakenOut (record { group = p.group; message = Some m }))
    (Probed p.group (Some (held_of links.from m))) (holding_of links old known core shown) out.fresh out.entry
    (record { group_is = refl; there = refl }) refl (ap (λ (c : CoreState). c.serial) out.rest)
    (ap (λ (c : CoreState). c.queues.posted) out.rest ∙
    (takes.posted ∙ (shown.posted ∙ sym (append-nil (posted_rows shown.rows)))))
    (sym (ap (λ (c : CoreState). map (held_of links.from) c.queues.unexpected) out.rest ∙ takes.unexpected))
    (subst (λ (c : CoreState). AreUnderWay links known c.place left c.transfers c.queues.unexpected) (sym out.rest)
    (under_way_rows links known old.place shown.rows left old.transfers old.queues.unexpected
    (after_take old.queues such).unexpected shown.under_way (forth_pushed IsLarge shown.rows row)
    (back_pushed IsLarge shown.rows r.key row.job (λ i. i))
    (λ k key d h. shown.under_way.unmatched k key d
    (back_pushed IsUnmatched shown.rows r.key row.job (λ i. i) k key (Unmatched d) tt h))
    (messages_forth links.from known old.place shown.rows left (after_take old.queues such).unexpected
    (forth_pushed IsUnmatched shown.rows row)
    (take_leaves (λ (n : Message). IsFromLink links.from known old.place shown.rows n n.body) old.queues
    (message_for such old.queues.unexpected) shown.under_way.messages))))
    grows
    (record {
      key = r.key;
      row = ap (slice_get left) (sym shown.count) ∙ push_at shown.rows row;
      from_link =
          from_forth links.from known old.place shown.rows left m m.body (forth_pushed IsUnmatched shown.rows row)
          (found_at (λ (n : Message). IsFromLink links.from known old.place shown.rows n n.body) old.queues.unexpected
          (message_for such old.queues.unexpected) m shown.under_way.messages takes.message);
    })
    refl (ap (λ (c : CoreState). c.place) out.rest)
  where
    row : Row
    row = taken_row links p r.key m

    left : List Row
    left = shown.rows ++ row ∷ []

    such : queued.PostedReceive
    such = probed_by p.route.named p.probe.tag p.route.context

    grows : AnnouncementsGrow links links
    grows = record { to = λ d. ([], append-nil (links.to d)); from = λ s. ([], append-nil (links.from s)) }

-- it takes a message out
search_takes : (links : Announcements) (old new : CoreState) (known : List ℕ) (core : Core) (p : RoutedProbe)
    (m : Message) (r : Request) (earlier later : List Held) → (shown : IsShown links old known core) →
    old.blocked ≡ None →
    free_fault old (calls.Improbe p) ≡ None → searches core (probe_seen p) p.route.named ≡
    searched_at core (probe_seen p) (Some (earlier, held_of links.from m, later)) →
    Takes links.from old.queues (probe_seen p) m earlier later → IsTakingOut old p m r new →
    IsMeant links old known core (machine.Improbe (probe_seen p))
    (calls.Matched (Some (Some r, status_in p.group (status_of m)))) new
search_takes links old new known core p m r earlier later shown free fine is takes out =
    record {
      fit = search_fit links old known core p shown free fine;
      place = ap (λ (c : CoreState). c.place) out.rest;
      completion = ap (λ (c : CoreState). c.completion) out.rest;
      shown = subst (λ (c : Core). IsShown links new known c) (sym (ap core_settled is))
          (shown_free links new known (taken_core links core p m earlier later)
          (shown.rows ++ taken_row links p r.key m ∷ [])
          (taken_holds links old new known core p m r earlier later shown takes out)
          (ap (λ (c : CoreState). c.blocked) out.rest ∙ free) refl);
      sends = refl;
      tells = ap (told old.place.endpoint (Some (machine.Improbe (probe_seen p), None))) (ap core_ready is)
          ∙ ap₂ (λ (k : ℕ) (st : Status). Called old.place.endpoint (machine.Improbe (probe_seen p))
          (machine.Done (completions.ForMatch (Some (Some k, st)))) ∷ [])
          (taken_serial links old known core r shown out.serial) (status_seen links.from p m);
    }

-- from a rank, or from any, it searches the messages
record Seeks (old new : CoreState) (core : Core) (p : RoutedProbe) (reply : CoreReply) : Type 0 where
  search : searches core (probe_seen p) p.route.named ≡
      searched_at core (probe_seen p) (found (receives.such_receive (probe_seen p)) core.held)
  takes : TakesOut old p (found_for old p.route.named p.probe.tag p.route.context) reply new

-- such a one
sought : TakesMatch →
    (links : Announcements) (old new : CoreState) (known : List ℕ) (core : Core) (p : RoutedProbe) (reply : CoreReply) →
    IsShown links old known core → old.blocked ≡ None →
    free_fault old (calls.Improbe p) ≡ None → Seeks old new core p reply →
    IsMeant links old known core (machine.Improbe (probe_seen p)) reply new
sought match links old new known core p reply shown free fine seeks = go (match links.from old.queues (probe_seen p))
  where
    such : receives.Receive
    such = receives.such_receive (probe_seen p)

    c : machine.Call
    c = machine.Improbe (probe_seen p)

    by_core : (o : Option (List Held × Held × List Held)) →
        found such (map (held_of links.from) old.queues.unexpected) ≡ o → searches core (probe_seen p) p.route.named ≡
        searched_at core (probe_seen p) o
    by_core o e = seeks.search ∙ ap (searched_at core (probe_seen p)) (ap (found such) shown.held ∙ e)

    kept : TakesNone links.from old.queues (probe_seen p) → TakesOut old p None reply new →
        IsMeant links old known core c reply new
    kept none t =
        subst (λ (x : CoreReply). IsMeant links old known core c x new) (sym t.0)
        (subst (λ (x : CoreState). IsMeant links old known core c (calls.Matched None) x) (sym t.1)
        (search_kept links old known core p (completions.Searches (probe_seen p)) None shown free fine
        (by_core None none.core) refl))

    taken : (m : Message) (earlier later : List Held) → Takes links.from old.queues (probe_seen p) m earlier later →
        TakesOut old p (Some m) reply new → IsMeant links old known core c reply new
    taken m earlier later takes t =
        subst (λ (x : CoreReply). IsMeant links old known core c x new) (sym t.1)
        (search_takes links old new known core p m t.0 earlier later shown free fine
        (by_core (Some (earlier, held_of links.from m, later)) takes.core) takes t.2)

    go : TakesNone links.from old.queues (probe_seen p) ⊎
        ((m : Message) × (earlier : List Held) ×
        (later : List Held) × Takes links.from old.queues (probe_seen p) m earlier later) →
        IsMeant links old known core c reply new
    go (inl none) = kept none (subst (λ (o : Option Message). TakesOut old p o reply new) none.message seeks.takes)
    go (inr t) =
        taken t.0 t.1 t.2 t.3 (subst (λ (o : Option Message). TakesOut old p o reply new) t.3.message seeks.takes)

-- a matching probe that meets no rule, from whomever
pub searches_shown : TakesMatch →
    (links : Announcements) (old new : CoreState) (known : List ℕ) (core : Core) (p : RoutedProbe) (reply : CoreReply) →
    IsShown links old known core → old.blocked ≡ None →
    free_fault old (calls.Improbe p) ≡ None → Searches old p reply new →
    IsCalled links old known core (calls.Improbe p) reply new
searches_shown match links old new known core p reply shown free fine done =
    meant_called links old new known core (calls.Improbe p) reply refl (go p.route.named refl done)
  where
    c : machine.Call
    c = machine.Improbe (probe_seen p)

    go : (s : Source) → p.route.named ≡ s → SearchesFrom s old p reply new → IsMeant links old known core c reply new
    go sources.Null is d =
        subst (λ (x : CoreReply). IsMeant links old known core c x new) (sym d.0)
        (subst (λ (x : CoreState). IsMeant links old known core c (calls.Matched (Some (None, null_status))) x)
        (sym d.1)
        (search_kept links old known core p (completions.Took None null_status) (Some (None, null_status)) shown free
        fine (ap (searches core (probe_seen p)) is) refl))
    go sources.Any is d =
        sought match links old new known core p reply shown free fine
        (record {
          search = ap (searches core (probe_seen p)) is;
          takes = subst (λ (s : Source). TakesOut old p (found_for old s p.probe.tag p.route.context) reply new)
              (sym is) d;
        })
    go (sources.Rank r) is d =
        sought match links old new known core p reply shown free fine
        (record {
          search = ap (searches core (probe_seen p)) is;
          takes = subst (λ (s : Source). TakesOut old p (found_for old s p.probe.tag p.route.context) reply new)
              (sym is) d;
        })

-- where a matching probe answers none, the core holds none that it would take
pub searches_find_all : TakesMatch → SearchesFindAll
searches_find_all match links old new known core p shown done = go p.route.named refl done
  where
    such : receives.Receive
    such = receives.such_receive (probe_seen p)

    by_found : TakesOut old p (found_for old p.route.named p.probe.tag p.route.context) (calls.Matched None) new →
        HoldsNone core p
    by_found t = tried (match links.from old.queues (probe_seen p))
      where
        taken : (m : Message) → TakesOut old p (Some m) (calls.Matched None) new → HoldsNone core p
        taken m d = let wrong : calls.Matched None ≡ calls.Matched (Some (Some d.0, status_in p.group (status_of m))) = d.1 in absurd cc

        tried : TakesNone links.from old.queues (probe_seen p) ⊎
            ((m : Message) × (earlier : List Held) ×
            (later : List Held) × Takes links.from old.queues (probe_seen p) m earlier later) → HoldsNone core p
        tried (inl none) = ap (found such) shown.held ∙ none.core
        tried (inr m) =
            taken m.0 (subst (λ (o : Option Message). TakesOut old p o (calls.Matched None) new) m.3.message t)

    go : (s : Source) → p.route.named ≡ s → SearchesFrom s old p (calls.Matched None) new → HoldsNone core p
    go sources.Null is d =
        let wrong : calls.Matched None ≡ calls.Matched (Some (None, null_status)) = d.0 in absurd cc
    go sources.Any is d =
        by_found (subst (λ (s : Source). TakesOut old p (found_for old s p.probe.tag p.route.context)
        (calls.Matched None) new)
        (sym is) d)
    go (sources.Rank r) is d =
        by_found (subst (λ (s : Source). TakesOut old p (found_for old s p.probe.tag p.route.context)
        (calls.Matched None) new)
        (sym is) d)
