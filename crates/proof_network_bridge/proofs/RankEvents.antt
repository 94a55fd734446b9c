-- A world that follows the pure network with communicators follows it after an event at one rank.
use Rattle.std.proofs.Common.{◌≡◌, ℕ, ◌<◌, false, List, [], ◌∷◌, ◌++◌, Option, Some, None, refl, sym, ap, subst, ◌∙◌}
use Rattle.std.proofs.Common.{inl, inr, append-nil}
use Rattle.std.specs.Prelude.{slice_get, slice_set}
use Rattle.rendezvous.specs.PayloadState as payloads
use Rattle.datagram.specs.Spellings.{FrameText}
use Rattle.engine_calls.specs.EngineState.{EngineState, GroupsState, completion_by, completion_of, emptied}
use Rattle.engine_calls.specs.declared.reply.Completion.{Completion}
use Rattle.collective_steps.specs.declared.step.Ending.{Ending}
use Rattle.perfect_groups.specs.Events.{Entry}
use Rattle.proof_collective_steps.specs.MemberViews as groups
use Rattle.proof_engine_view.specs.CoreViews.{IsShown}
use Rattle.proof_engine_view.specs.Transfers.{Announcements}
use Rattle.proof_group_network.specs.SessionContents.{Sessions}
use Rattle.proof_group_network.specs.Happenings.{IsAfter}
use Rattle.proof_group_network.specs.Network.{GroupNetwork, Happening, NoticeLink, happens, new_group_network}
use Rattle.proof_group_network.specs.Notices.{Member}
use Rattle.proof_link_truth.specs.Events.{LeavesTrue}
use Rattle.link_truth.specs.Truth.{AreTrue}
use Rattle.endpoint_links.specs.Links.{LinksOf}
use Rattle.proof_pure_network.specs.Core.{Core, new_core}
use Rattle.proof_pure_network.specs.Links.{Link}
use Rattle.proof_pure_network.specs.Network.{here}
use Rattle.proof_session_carrying.specs.Announcements.{announcements_in}
use Rattle.proof_session_carrying.specs.SessionViews.{Saying}
use Rattle.proof_session_carrying.specs.EventLaws.{AreJoined}
use Rattle.point_to_point.specs.CoreState.{CoreState}
use Rattle.incarnation.specs.declared.place.Place.{Place}
use Rattle.vocabulary.specs.Endpoints.{is_same}
use Rattle.vocabulary.specs.declared.endpoint.Endpoint.{Endpoint}
use Rattle.vocabulary.specs.declared.message_limit.MessageLimit.{MessageLimit}
use Rattle.proof_network_bridge.specs.GoingOn.{Happened, IsFollowedBy, IsFollowedOn, LeavesFollowedOn, Stands}
use Rattle.proof_network_bridge.specs.WorldViews.{IsClean, IsFollowed, IsHeldBy, IsJoined, network_after}
use Rattle.observation.specs.Sessions.{sessions_in}
use Rattle.proof_network_bridge.specs.Payloads.{ArePayloads, SaidGrows}
use Rattle.observation.specs.EngineCalls.{told_completion}
use Rattle.proof_network_runs.specs.Runs.{rank_of}
use Rattle.proof_network_bridge.proofs.Payloads.{payloads_grow}
use Rattle.proof_network_bridge.proofs.Halves.{leaves_engines}
use Rattle.proof_network_bridge.proofs.Worlds.{OnlyFrom, later_apart, ranks_apart, run_push, set_cases, shown_more}

-- ---- what an engine holds

-- an engine holds what this core and this member of an endpoint hold
pub record IsHeldAs (a : Announcements) (own : Endpoint) (e : EngineState) (core : Core) (m : Member) : Type 0 where
  pub queues : IsShown a e.core e.sessions.known core
  pub groups : groups.IsShown own e.groups.collective e.groups.contexts m None
  pub placed : e.core.place ≡ e.sessions.place

-- under the numbers that sessions give, whatever serials notices have there
abbrev pub IsHeldUnder : Sessions → (own : Endpoint) → EngineState → Core → Member → Type 0
IsHeldUnder sessions own e core m = (serial : ℕ) → IsHeldAs (announcements_in serial sessions own) own e core m

-- the engine at a rank does
pub held_at : (n r : ℕ) (engines : List EngineState) (datagrams : List (ℕ × List ℕ)) (w : GroupNetwork)
    (e : EngineState) → (j : IsJoined n engines datagrams w) → slice_get engines r ≡ Some e →
    IsHeldUnder j.sessions (here w.net r) e (w.net.core (here w.net r)) (w.member (here w.net r))
held_at n r engines datagrams w e j there serial =
    let h : IsHeldBy w j.sessions r e = j.held r e there in record {
      queues = h.queues serial;
      groups =
          h.groups;
      placed = h.placed;
    }

-- what is held is held by the network
pub held_by : (w : GroupNetwork) (sessions : Sessions) (r : ℕ) (e : EngineState) →
    IsHeldUnder sessions (here w.net r) e (w.net.core (here w.net r)) (w.member (here w.net r)) →
    IsHeldBy w sessions r e
held_by w sessions r e h = record { queues = λ serial. (h serial).queues; groups = (h 0).groups; placed = (h 0).placed }

-- what is emitted and answered belongs to neither
pub held_emptied : (a : Announcements) (own : Endpoint) (e : EngineState) (core : Core) (m : Member) →
    IsHeldAs a own e core m → IsHeldAs a own (emptied e) core m
held_emptied a own e core m h =
    record {
      queues = record {
        rows = h.queues.rows;
        jobs = h.queues.jobs;
        count = h.queues.count;
        table = h.queues.table;
        posted = h.queues.posted;
        held = h.queues.held;
        under_way = h.queues.under_way;
        taken = h.queues.taken;
        blocked = h.queues.blocked;
        limited = h.queues.limited;
        width = h.queues.width;
        known_alike = h.queues.known_alike;
        itself = h.queues.itself;
      };
      groups = h.groups;
      placed = h.placed;
    }

pub clean_emptied : (e : EngineState) → IsClean (emptied e)
clean_emptied e = record { out = refl; completion = refl; ended = refl }

-- another engine holds what it held, whatever goes out elsewhere
pub held_more : (own x : Endpoint) (old new : Sessions) (e : EngineState) (core : Core) (m : Member) →
    OnlyFrom own old new → is_same x own ≡ false → IsHeldUnder old x e core m → IsHeldUnder new x e core m
held_more own x old new e core m o apart h serial =
    record {
      queues = shown_more serial own x old new e.core e.sessions.known core o apart (h serial).queues;
      groups =
          (h serial).groups;
      placed = (h serial).placed;
    }

-- ---- the world after an event at r

-- it is joined to the network after what happened there
pub joined_after : (n r : ℕ) (engines : List EngineState) (datagrams datagrams' : List (ℕ × List ℕ))
    (w after : GroupNetwork) (new : EngineState) (core : Core)
    (messages : Endpoint → Endpoint → Link) (m : Member) (notices : Endpoint → Endpoint → NoticeLink)
    (entries : List Entry) (said : Saying) (texts : LinksOf FrameText) (sessions : Sessions) →
    (j : IsJoined n engines datagrams w) → IsAfter w after (here w.net r) core messages m notices entries →
    AreJoined after said texts sessions → OnlyFrom (here w.net r) j.sessions sessions →
    AreTrue n (sessions_in (slice_set engines r new)) datagrams' texts w.net.current →
    IsHeldUnder sessions (here w.net r) new core m →
    SaidGrows j.said said →
    ArePayloads w.net.message_limit sessions said (here w.net r) new.sessions.known new.payloads → IsClean new →
    new.sessions.place.message_limit ≡ w.net.message_limit →
    IsJoined n (slice_set engines r new) datagrams' after
joined_after n r engines datagrams datagrams' w after new core messages m notices entries said texts sessions j a
    between only truth held grows kept clean limited =
    record {
      texts = texts;
      links = subst (λ (current : ℕ → ℕ). AreTrue n (sessions_in (slice_set engines r new)) datagrams' texts current)
          (sym a.current_is) truth;
      sessions = sessions;
      said = said;
      between = between;
      held = λ x e is. held_by after sessions x e (each x e is);
      clean = λ x e is. elim (set_cases engines r new x e is) [
        | inl p ↦ subst IsClean (sym p.1) clean
        | inr p ↦ j.clean x e p.1
      ];
      payloads = λ x e is.
          subst (λ (limit : MessageLimit). ArePayloads limit sessions said (here after.net x) e.sessions.known
          e.payloads)
          (sym a.limit_is)
          (subst (λ (current : ℕ → ℕ). ArePayloads w.net.message_limit sessions said
          (record { rank = x; incarnation = current x }) e.sessions.known e.payloads) (sym a.current_is)
          (elim (set_cases engines r new x e is) [
            | inl p ↦ subst (λ (y : ℕ). ArePayloads w.net.message_limit sessions said (here w.net y) e.sessions.known
                e.payloads) (sym p.0)
                (subst (λ (g : EngineState). ArePayloads w.net.message_limit sessions said (here w.net r)
                g.sessions.known g.payloads)
                (sym p.1) kept)
            | inr p ↦ payloads_grow w.net.message_limit j.sessions sessions j.said said (here w.net x) e.sessions.known
                e.payloads only.grow grows (j.payloads x e p.1)
          ]));
      limits = λ x e is. elim (set_cases engines r new x e is) [
        | inl p ↦ ap (λ (g : EngineState). g.sessions.place.message_limit) p.1 ∙ limited ∙ sym a.limit_is
        | inr p ↦ j.limits x e p.1 ∙ sym a.limit_is
      ];
      unborn = λ d later.
          let before : w.net.current d.rank < d.incarnation = subst (λ (current : ℕ → ℕ). current d.rank < d.incarnation) a.current_is later in
          a.cores d (later_apart w.net d r before) ∙ j.unborn d before ∙
          ap (λ (limit : MessageLimit). new_core limit d) (sym a.limit_is);
    }
  where
    -- at the endpoint where it was
    at_own : IsHeldUnder sessions (here w.net r) new (after.net.core (here w.net r)) (after.member (here w.net r))
    at_own =
        subst (λ (k : Core). IsHeldUnder sessions (here w.net r) new k (after.member (here w.net r))) (sym a.core_is)
        (subst (λ (y : Member). IsHeldUnder sessions (here w.net r) new core y) (sym a.member_is) held)

    -- and elsewhere
    at_other : (x : ℕ) (e : EngineState) → (x ≡ r → ⊥) → slice_get engines x ≡ Some e →
        IsHeldUnder sessions (here w.net x) e (after.net.core (here w.net x)) (after.member (here w.net x))
    at_other x e apart there =
        subst (λ (k : Core). IsHeldUnder sessions (here w.net x) e k (after.member (here w.net x)))
        (sym (a.cores (here w.net x) (ranks_apart w.net x r apart)))
        (subst (λ (y : Member). IsHeldUnder sessions (here w.net x) e (w.net.core (here w.net x)) y)
        (sym (a.members (here w.net x) (ranks_apart w.net x r apart)))
        (held_more (here w.net r) (here w.net x) j.sessions sessions e (w.net.core (here w.net x))
        (w.member (here w.net x)) only (ranks_apart w.net x r apart) (held_at n x engines datagrams w e j there)))

    each : (x : ℕ) (e : EngineState) → slice_get (slice_set engines r new) x ≡ Some e →
        IsHeldUnder sessions (here after.net x) e (after.net.core (here after.net x)) (after.member (here after.net x))
    each x e is =
        subst (λ (current : ℕ → ℕ). IsHeldUnder sessions (record { rank = x; incarnation = current x }) e
        (after.net.core (record { rank = x; incarnation = current x }))
        (after.member (record { rank = x; incarnation = current x }))) (sym a.current_is)
        (elim (set_cases engines r new x e is) [
          | inl p ↦ subst
              (λ (y : ℕ). IsHeldUnder sessions (here w.net y) e (after.net.core (here w.net y))
              (after.member (here w.net y))) (sym p.0)
              (subst (λ (g : EngineState). IsHeldUnder sessions (here w.net r) g (after.net.core (here w.net r))
              (after.member (here w.net r))) (sym p.1) at_own)
          | inr p ↦ at_other x e p.0 p.1
        ])

-- an event that is nothing to the network
joined_still : (n r : ℕ) (engines : List EngineState) (datagrams datagrams' : List (ℕ × List ℕ)) (w : GroupNetwork)
    (new : EngineState) →
    (j : IsJoined n engines datagrams w) →
    AreTrue n (sessions_in (slice_set engines r new)) datagrams' j.texts w.net.current →
    IsHeldUnder j.sessions (here w.net r) new (w.net.core (here w.net r)) (w.member (here w.net r)) →
    ArePayloads w.net.message_limit j.sessions j.said (here w.net r) new.sessions.known new.payloads → IsClean new →
    new.sessions.place.message_limit ≡ w.net.message_limit →
    IsJoined n (slice_set engines r new) datagrams' w
joined_still n r engines datagrams datagrams' w new j truth held kept clean limited =
    record {
      texts = j.texts;
      links = truth;
      sessions = j.sessions;
      said = j.said;
      between = j.between;
      held = λ x e is. elim (set_cases engines r new x e is) [
        | inl p ↦ subst (λ (y : ℕ). IsHeldBy w j.sessions y e) (sym p.0)
            (subst (λ (g : EngineState). IsHeldBy w j.sessions r g) (sym p.1) (held_by w j.sessions r new held))
        | inr p ↦ j.held x e p.1
      ];
      clean = λ x e is. elim (set_cases engines r new x e is) [
        | inl p ↦ subst IsClean (sym p.1) clean
        | inr p ↦ j.clean x e p.1
      ];
      payloads = λ x e is. elim (set_cases engines r new x e is) [
        | inl p ↦ subst (λ (y : ℕ). ArePayloads w.net.message_limit j.sessions j.said (here w.net y) e.sessions.known
            e.payloads) (sym p.0)
            (subst (λ (g : EngineState). ArePayloads w.net.message_limit j.sessions j.said (here w.net r)
            g.sessions.known g.payloads)
            (sym p.1) kept)
        | inr p ↦ j.payloads x e p.1
      ];
      limits = λ x e is. elim (set_cases engines r new x e is) [
        | inl p ↦ ap (λ (g : EngineState). g.sessions.place.message_limit) p.1 ∙ limited
        | inr p ↦ j.limits x e p.1
      ];
      unborn = j.unborn;
    }

-- ---- what follows

-- these happenings are some
abbrev pub followed : (n : ℕ) (limit : MessageLimit) (happenings : List Happening) (engines : List EngineState)
    (datagrams : List (ℕ × List ℕ)) (history : List Entry) →
    IsFollowedBy n limit happenings engines datagrams history → IsFollowed n engines datagrams history
followed n limit happenings engines datagrams history f =
    record { limit = limit; happenings = happenings; few = f.few; joined = f.joined; seen = f.seen }

-- and some are known
pub by_happenings : (n : ℕ) (engines : List EngineState) (datagrams : List (ℕ × List ℕ)) (history : List Entry) →
    (f : IsFollowed n engines datagrams history) → IsFollowedBy n f.limit f.happenings engines datagrams history
by_happenings n engines datagrams history f = record { few = f.few; joined = f.joined; seen = f.seen }

-- so it is with one more, or with none
pub followed_on : (n : ℕ) (limit : MessageLimit) (r : ℕ) (before : List Happening) (engines : List EngineState)
    (datagrams : List (ℕ × List ℕ)) (history : List Entry) → IsFollowedOn n limit r before engines datagrams history →
    IsFollowed n engines datagrams history
followed_on n limit r before engines datagrams history (Stands f) = followed n limit before engines datagrams history f
followed_on n limit r before engines datagrams history (Happened h is f) =
    followed n limit (before ++ h ∷ []) engines datagrams history f

-- a happening more
pub followed_after : (n r : ℕ) (engines : List EngineState) (datagrams : List (ℕ × List ℕ))
    (history entries : List Entry) (mid : EngineState) (h : Happening) (core : Core)
    (messages : Endpoint → Endpoint → Link) (m : Member) (notices : Endpoint → Endpoint → NoticeLink) (said : Saying)
    (texts : LinksOf FrameText) (sessions : Sessions) (f : IsFollowed n engines datagrams history) →
    IsAfter (network_after n f.limit f.happenings) (happens n (network_after n f.limit f.happenings) h)
    (here (network_after n f.limit f.happenings).net r) core messages m notices entries →
    AreJoined (happens n (network_after n f.limit f.happenings) h) said texts sessions →
    OnlyFrom (here (network_after n f.limit f.happenings).net r) f.joined.sessions sessions →
    LeavesTrue n (sessions_in engines) datagrams r mid.sessions texts
    (network_after n f.limit f.happenings).net.current →
    IsHeldUnder sessions (here (network_after n f.limit f.happenings).net r) mid core m →
    SaidGrows f.joined.said said →
    ArePayloads (network_after n f.limit f.happenings).net.message_limit sessions said
    (here (network_after n f.limit f.happenings).net r) mid.sessions.known mid.payloads →
    rank_of h ≡ r →
    (old : EngineState) → slice_get engines r ≡ Some old → mid.sessions.place ≡ old.sessions.place →
    LeavesFollowedOn n f.limit f.happenings engines datagrams r mid (history ++ entries)
followed_after n r engines datagrams history entries mid h core messages m notices said texts sessions f a between only
    truth held grows kept at_r old there place =
    let w : GroupNetwork = network_after n f.limit f.happenings in
    let own : Endpoint = here w.net r in
    let pushed : network_after n f.limit (f.happenings ++ h ∷ []) ≡ happens n w h = run_push n f.happenings h (new_group_network n f.limit) in
    Happened h at_r (record {
      few = f.few;
      joined = subst
          (λ (after : GroupNetwork). IsJoined n (slice_set engines r (emptied mid)) (datagrams ++ mid.sessions.out)
          after) (sym pushed)
          (joined_after n r engines datagrams (datagrams ++ mid.sessions.out) w (happens n w h)
          (emptied mid) core messages m notices entries said texts sessions f.joined a between only
          (leaves_engines n r engines datagrams mid texts w.net.current truth)
          (λ serial. held_emptied (announcements_in serial sessions own) own mid core m (held serial)) grows kept
          (clean_emptied mid)
          (ap (λ (p : Place). p.message_limit) place ∙ f.joined.limits r old there));
      seen = ap (λ (after : GroupNetwork). after.history) pushed ∙ a.seen ∙
          ap (λ (es : List Entry). es ++ entries) f.seen;
    })

-- an event after which the core and the groups are as they were, and the sessions know what they knew and stand where
-- they stood
pub record IsBeside (old new : EngineState) : Type 0 where
  pub core : new.core ≡ old.core
  pub groups : new.groups ≡ old.groups
  pub ended : new.ended ≡ old.ended
  pub payloads : new.payloads ≡ old.payloads
  pub known : new.sessions.known ≡ old.sessions.known
  pub place : new.sessions.place ≡ old.sessions.place

-- it leaves what the engine holds
held_beside : (a : Announcements) (own : Endpoint) (old new : EngineState) (core : Core) (m : Member) →
    IsBeside old new → IsHeldAs a own old core m → IsHeldAs a own new core m
held_beside a own old new core m b h = record {
  queues = subst (λ (known : List ℕ). IsShown a new.core known core) (sym b.known)
      (subst (λ (c : CoreState). IsShown a c old.sessions.known core) (sym b.core) h.queues);
  groups = subst (λ (g : GroupsState). groups.IsShown own g.collective g.contexts m None) (sym b.groups) h.groups;
  placed = ap (λ (c : CoreState). c.place) b.core ∙ h.placed ∙ sym b.place;
}

-- and the payloads that it keeps
payloads_beside : (limit : MessageLimit) (sessions : Sessions) (said : Saying) (own : Endpoint)
    (old new : EngineState) → IsBeside old new → ArePayloads limit sessions said own old.sessions.known old.payloads →
    ArePayloads limit sessions said own new.sessions.known new.payloads
payloads_beside limit sessions said own old new b h =
    subst (λ (known : List ℕ). ArePayloads limit sessions said own known new.payloads) (sym b.known)
    (subst (λ (p : payloads.State). ArePayloads limit sessions said own old.sessions.known p) (sym b.payloads) h)

-- nothing happens to the network
pub followed_still : (n r : ℕ) (engines : List EngineState) (datagrams : List (ℕ × List ℕ)) (history : List Entry)
    (old mid : EngineState) (f : IsFollowed n engines datagrams history) →
    slice_get engines r ≡ Some old → IsBeside old mid →
    LeavesTrue n (sessions_in engines) datagrams r mid.sessions f.joined.texts
    (network_after n f.limit f.happenings).net.current →
    IsFollowedBy n f.limit f.happenings (slice_set engines r (emptied mid)) (datagrams ++ mid.sessions.out) history
followed_still n r engines datagrams history old mid f there beside truth =
    let w : GroupNetwork = network_after n f.limit f.happenings in
    let own : Endpoint = here w.net r in
    record {
      few = f.few;
      joined = joined_still n r engines datagrams (datagrams ++ mid.sessions.out) w (emptied mid) f.joined
          (leaves_engines n r engines datagrams mid f.joined.texts w.net.current truth)
          (λ serial. held_emptied (announcements_in serial f.joined.sessions own) own mid (w.net.core own)
          (w.member own)
          (held_beside (announcements_in serial f.joined.sessions own) own old mid (w.net.core own)
          (w.member own) beside (held_at n r engines datagrams w old f.joined there serial)))
          (payloads_beside w.net.message_limit f.joined.sessions f.joined.said own old mid beside
          (f.joined.payloads r old there))
          (clean_emptied mid)
          (ap (λ (p : Place). p.message_limit) beside.place ∙ f.joined.limits r old there);
      seen = f.seen;
    }

-- nor is a blocked call answered
pub followed_unanswered : (n r : ℕ) (engines : List EngineState) (datagrams : List (ℕ × List ℕ)) (history : List Entry)
    (old mid : EngineState) (f : IsFollowed n engines datagrams history) →
    slice_get engines r ≡ Some old → IsBeside old mid →
    LeavesTrue n (sessions_in engines) datagrams r mid.sessions f.joined.texts
    (network_after n f.limit f.happenings).net.current →
    IsFollowedBy n f.limit f.happenings (slice_set engines r (emptied mid)) (datagrams ++ mid.sessions.out)
    (history ++ told_completion old.sessions.place.endpoint (completion_of mid))
followed_unanswered n r engines datagrams history old mid f there beside truth =
    let clean : IsClean old = f.joined.clean r old there in
    let none : completion_of mid ≡ None =
    ap (λ (o : Option Ending). completion_by o mid.core.completion) (beside.ended ∙ clean.ended) ∙
    ap (completion_by None) (ap (λ (c : CoreState). c.completion) beside.core ∙ clean.completion) in
    let nothing : history ≡ history ++ told_completion old.sessions.place.endpoint (completion_of mid) =
    sym (append-nil history) ∙ ap (λ (o : Option Completion). history ++ told_completion old.sessions.place.endpoint o)
    (sym none) in
    subst (λ (es : List Entry). IsFollowedBy n f.limit f.happenings (slice_set engines r (emptied mid))
    (datagrams ++ mid.sessions.out) es) nothing
    (followed_still n r engines datagrams history old mid f there beside truth)
