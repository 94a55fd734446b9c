-- A world in the middle of a delivery at one rank: some of what was delivered was handed up there, and nothing is
-- answered yet.
use Rattle.std.proofs.Common.{◌≡◌, ℕ, zero, suc, ◌<◌, ◌≤◌, false, List, [], ◌∷◌, Some, None, refl, sym, ap, subst}
use Rattle.std.proofs.Common.{◌∙◌}
use Rattle.std.specs.Prelude.{◌==◌, slice_get, slice_index, slice_set}
use Rattle.datagram.specs.Spellings.{FrameText, OutgoingText}
use Rattle.engine.specs.Datagrams.{ended_by, groups_met, lesson_in, payloads_met}
use Rattle.engine_calls.specs.EngineState.{EngineState, or_before}
use Rattle.perfect_groups.specs.Events.{Entry}
use Rattle.proof_collective_steps.specs.MemberViews as collectives
use Rattle.proof_engine_view.specs.CoreViews.{IsShown}
use Rattle.proof_group_network.specs.SessionContents.{Sessions}
use Rattle.proof_group_network.specs.Happenings.{IsAfter}
use Rattle.proof_group_network.specs.Midway.{Stands, unsettled}
use Rattle.proof_group_network.specs.Network.{GroupNetwork, NoticeLink}
use Rattle.proof_group_network.specs.Notices.{Member}
use Rattle.proof_link_truth.specs.Events.{IsTrueWord, MaySendAll, all_addressed, links_heeded}
use Rattle.link_truth.specs.Wire.{at, in_job, place_of}
use Rattle.endpoint_links.specs.Links.{LinksOf, accept_all}
use Rattle.proof_pure_network.specs.Core.{Core, new_core}
use Rattle.proof_pure_network.specs.Links.{Link}
use Rattle.proof_pure_network.specs.Network.{here}
use Rattle.proof_session_carrying.specs.Announcements.{announcements_in}
use Rattle.proof_session_carrying.specs.SessionViews.{Saying}
use Rattle.proof_session_carrying.specs.EventLaws.{AreJoined}
use Rattle.point_to_point.specs.Arrivals.{after_lesson}
use Rattle.sessions.specs.Events.{after_event, after_heard, sends_limit, taught_known}
use Rattle.sessions.specs.HeardBytes.{HeardText}
use Rattle.sessions.specs.SessionsState.{SessionsState}
use Rattle.incarnation.specs.declared.place.Place.{Place}
use Rattle.vocabulary.specs.declared.endpoint.Endpoint.{Endpoint}
use Rattle.vocabulary.specs.declared.message_limit.MessageLimit.{MessageLimit}
use Rattle.proof_network_bridge.specs.WorldViews.{IsClean, IsJoined}
use Rattle.proof_network_bridge.specs.Payloads.{ArePayloads, SaidGrows}
use Rattle.proof_network_bridge.proofs.RankEvents.{IsHeldUnder, held_at, held_more}
use Rattle.proof_network_bridge.proofs.KnownMembers.{MembersAreKnown}
use Rattle.proof_network_bridge.proofs.Payloads.{payloads_grow}
use Rattle.proof_network_bridge.proofs.Worlds.{OnlyFrom, places_apart, to_come_apart}

-- ---- lists

-- what was set at a place stands there
pub set_there : {A : Type 0} (xs : List A) (k : ℕ) (x y : A) → slice_get xs k ≡ Some x →
    slice_get (slice_set xs k y) k ≡ Some y
set_there [] k x y there = absurd cc
set_there (z ∷ zs) zero x y there = refl
set_there (z ∷ zs) (suc k) x y there = set_there zs k x y there

-- ---- the other ranks

-- the engines of all ranks but r hold what the endpoints hold that are there, and nothing is to be taken out of them;
-- and endpoints that are to come have done nothing
pub record AreOthers (r : ℕ) (engines : List EngineState) (current : ℕ → ℕ) (u : GroupNetwork) (sessions : Sessions)
    (said : Saying) : Type 0 where
  pub held : (x : ℕ) (e : EngineState) → (x ≡ r → ⊥) → slice_get engines x ≡ Some e →
      IsHeldUnder sessions (at x (current x)) e (u.net.core (at x (current x))) (u.member (at x (current x)))
  pub clean : (x : ℕ) (e : EngineState) → (x ≡ r → ⊥) → slice_get engines x ≡ Some e → IsClean e
  pub payloads : (x : ℕ) (e : EngineState) → (x ≡ r → ⊥) → slice_get engines x ≡ Some e →
      ArePayloads u.net.message_limit sessions said (at x (current x)) e.sessions.known e.payloads
  pub limits : (x : ℕ) (e : EngineState) → (x ≡ r → ⊥) → slice_get engines x ≡ Some e →
      e.sessions.place.message_limit ≡ u.net.message_limit
  pub unborn : (d : Endpoint) → current d.rank < d.incarnation → u.net.core d ≡ new_core u.net.message_limit d

-- so it is in a world that is joined to a network
pub others_joined : (n r : ℕ) (engines : List EngineState) (datagrams : List (ℕ × List ℕ)) (w : GroupNetwork) →
    (j : IsJoined n engines datagrams w) → AreOthers r engines w.net.current w j.sessions j.said
others_joined n r engines datagrams w j = record {
  held = λ x e apart is. held_at n x engines datagrams w e j is;
  clean = λ x e apart is. j.clean x e is;
  payloads = λ x e apart is. j.payloads x e is;
  limits = λ x e apart is. j.limits x e is;
  unborn = j.unborn;
}

-- what happens at r is nothing to the others
pub others_after : (r : ℕ) (engines : List EngineState) (current : ℕ → ℕ) (u after : GroupNetwork) (core : Core)
    (messages : Endpoint → Endpoint → Link) (m : Member) (notices : Endpoint → Endpoint → NoticeLink)
    (entries : List Entry)
    (sessions later : Sessions) (said more : Saying) → AreOthers r engines current u sessions said →
    IsAfter u after (at r (current r)) core messages m notices entries →
    OnlyFrom (at r (current r)) sessions later → SaidGrows said more →
    AreOthers r engines current after later more
others_after r engines current u after core messages m notices entries sessions later said more o a only grows =
    record {
      held = λ x e apart is.
          subst (λ (k : Core). IsHeldUnder later (at x (current x)) e k (after.member (at x (current x))))
          (sym (a.cores (at x (current x)) (places_apart current x r apart)))
          (subst (λ (y : Member). IsHeldUnder later (at x (current x)) e (u.net.core (at x (current x))) y)
          (sym (a.members (at x (current x)) (places_apart current x r apart)))
          (held_more (at r (current r)) (at x (current x)) sessions later e (u.net.core (at x (current x)))
          (u.member (at x (current x))) only (places_apart current x r apart) (o.held x e apart is)));
      clean = o.clean;
      payloads =
          λ x e apart is. subst
          (λ (limit : MessageLimit). ArePayloads limit later more (at x (current x)) e.sessions.known e.payloads)
          (sym a.limit_is)
          (payloads_grow u.net.message_limit sessions later said more (at x (current x)) e.sessions.known e.payloads
          only.grow grows (o.payloads x e apart is));
      limits = λ x e apart is. o.limits x e apart is ∙ sym a.limit_is;
      unborn = λ d late. a.cores d (to_come_apart current d r late) ∙ o.unborn d late ∙
          ap (λ (limit : MessageLimit). new_core limit d) (sym a.limit_is);
    }

-- ---- the rank at which it is delivered

-- an engine holds what this core and this member of an endpoint hold, whatever its blocked call waits for, and with
-- what ended so far
pub record IsHolding (sessions : Sessions) (own : Endpoint) (e : EngineState) (core : Core) (m : Member) : Type 0 where
  pub queues : (serial : ℕ) → IsShown (announcements_in serial sessions own) e.core e.sessions.known core
  pub groups : collectives.IsShown own e.groups.collective e.groups.contexts m e.ended
  pub placed : e.core.place ≡ e.sessions.place

-- The world is joined to the network u in the middle of a word at r, where no answer is told yet, and its links carry
-- these texts. The engine there is e now; the others are as they were
pub record IsMidway (n r : ℕ) (engines : List EngineState) (current : ℕ → ℕ) (u : GroupNetwork)
    (texts : LinksOf FrameText) (e : EngineState) : Type 0 where
  pub sessions : Sessions
  pub said : Saying
  pub between : AreJoined u said texts sessions
  pub others : AreOthers r engines current u sessions said
  pub completion : e.core.completion ≡ None
  pub held : IsHolding sessions (at r (current r)) e (u.net.core (at r (current r))) (u.member (at r (current r)))
  pub limited : e.sessions.place.message_limit ≡ u.net.message_limit
  pub payloads : ArePayloads u.net.message_limit sessions said (at r (current r)) e.sessions.known e.payloads

-- what the links say of the sessions at r
pub record AreTold (n r : ℕ) (current : ℕ → ℕ) (texts : LinksOf FrameText) (sessions : SessionsState) : Type 0 where
  pub there : r < n
  pub place : sessions.place ≡ in_job sessions.place.message_limit (place_of n (at r (current r)))
  pub untold : (d : Endpoint) → slice_index sessions.known d.rank < d.incarnation →
      (texts (at r (current r)) d).accepted ≡ []

-- The same of an engine that just learnt the lesson of s, if there was one: it is nothing yet to its links
pub record IsOpen (n r : ℕ) (engines : List EngineState) (current : ℕ → ℕ) (u : GroupNetwork)
    (texts : LinksOf FrameText) (s : Endpoint) (e : EngineState) : Type 0 where
  pub told : AreTold n r current texts e.sessions
  pub sessions : Sessions
  pub said : Saying
  pub between : AreJoined u said texts sessions
  pub others : AreOthers r engines current u sessions said
  pub source : s.rank < n
  pub apart : (s.rank == r) ≡ false
  pub known : slice_index e.sessions.known s.rank ≡ s.incarnation
  pub completion : e.core.completion ≡ None
  pub held : IsHolding sessions (at r (current r)) e (u.net.core (at r (current r))) (u.member (at r (current r)))
  pub limited : e.sessions.place.message_limit ≡ u.net.message_limit
  pub payloads : ArePayloads u.net.message_limit sessions said (at r (current r)) e.sessions.known e.payloads

-- the engine once it learnt the lesson of what it hears, if there is one
abbrev pub opened : EngineState → HeardText → EngineState
opened e h = record {
  core = after_lesson h.lesson e.core h.source;
  groups = groups_met e.groups (lesson_in h);
  ended = or_before (ended_by e.groups (lesson_in h)) e.ended;
  payloads = payloads_met e.payloads (lesson_in h);
  sessions = record e.sessions { known = taught_known h.lesson e.sessions.known h.source };
}

-- ---- a word that is heard

-- whatever the rank may send for what it hears, T says of the links that they handed up what was heard, and took that
-- in
abbrev pub LeavesLinks : (n r : ℕ) → (T : SessionsState → LinksOf FrameText → Type 0) → SessionsState → HeardText →
    LinksOf FrameText → (current : ℕ → ℕ) → Type 0
LeavesLinks n r T old h texts current =
    (sendings : List OutgoingText) → MaySendAll n r sendings → sends_limit (after_heard old (Some h)) sendings ≡ None →
    T (after_event old (Some h) sendings)
    (accept_all (links_heeded texts h.source (at r (current r)) h.word) (at r (current r))
    (all_addressed (after_heard old (Some h)).known sendings))

-- The engine `old` hears h at r: it stands so once it learnt the lesson, what h says is true, and what it may send
-- leaves the links true
pub record IsReady (n r : ℕ) (engines : List EngineState) (current : ℕ → ℕ) (u : GroupNetwork) (T : SessionsState →
    LinksOf FrameText → Type 0) (old : EngineState) (h : HeardText) : Type 0 where
  pub texts : LinksOf FrameText
  pub opens : IsOpen n r engines current u texts h.source (opened old h)
  pub says : IsTrueWord n texts h.source (at r (current r)) h.word
  pub leaves : LeavesLinks n r T old.sessions h texts current

-- so it is in the middle of a word of its source, where the network stands as any does
pub record IsHearing (n r : ℕ) (engines : List EngineState) (u : GroupNetwork) (T : SessionsState → LinksOf FrameText →
    Type 0) (old : EngineState) (h : HeardText) : Type 0 where
  pub few : n ≤ 1024
  pub stands : Stands n u
  pub knows : MembersAreKnown u
  pub texts : LinksOf FrameText
  pub opens : IsOpen n r engines u.net.current u texts h.source (opened old h)
  pub says : IsTrueWord n texts h.source (here u.net r) h.word
  pub leaves : LeavesLinks n r T old.sessions h texts u.net.current

-- ---- what it leaves

-- a part of a word of s, with so many messages and these notices, leads to a network in the middle of it, with the
-- engine `mid` at r
pub record IsStepped (n r : ℕ) (engines : List EngineState) (u : GroupNetwork) (s : Endpoint) (T : SessionsState →
    LinksOf FrameText → Type 0) (mid : EngineState) : Type 0 where
  pub frames : ℕ
  pub notices : List ℕ
  pub texts : LinksOf FrameText
  pub truth : T mid.sessions texts
  pub midway : IsMidway n r engines u.net.current (unsettled u (here u.net r) s frames notices) texts mid

-- one step more
pub stepped : (n r frames : ℕ) (numbers : List ℕ) (engines : List EngineState) (u : GroupNetwork) (s : Endpoint)
    (T : SessionsState → LinksOf FrameText → Type 0) (e mid : EngineState) (core : Core)
    (messages : Endpoint → Endpoint → Link) (m : Member) (notices : Endpoint → Endpoint → NoticeLink)
    (before : LinksOf FrameText) (said : Saying) (texts : LinksOf FrameText) (sessions : Sessions) →
    (o : IsOpen n r engines u.net.current u before s e) →
    IsAfter u (unsettled u (here u.net r) s frames numbers) (here u.net r) core messages m notices [] →
    AreJoined (unsettled u (here u.net r) s frames numbers) said texts sessions →
    OnlyFrom (here u.net r) o.sessions sessions → SaidGrows o.said said → T mid.sessions texts →
    IsHolding sessions (here u.net r) mid core m → mid.core.completion ≡ None →
    ArePayloads u.net.message_limit sessions said (here u.net r) mid.sessions.known mid.payloads →
    mid.sessions.place ≡ e.sessions.place →
    IsStepped n r engines u s T mid
stepped n r frames numbers engines u s T e mid core messages m notices before said texts sessions o a between only grows
    truth held free kept place =
    record {
      frames = frames;
      notices = numbers;
      texts = texts;
      truth = truth;
      midway = record {
        sessions = sessions;
        said = said;
        between = between;
        others = others_after r engines u.net.current u after core messages m notices [] o.sessions sessions o.said said
            o.others a only grows;
        completion = free;
        held = subst (λ (k : Core). IsHolding sessions (here u.net r) mid k (after.member (here u.net r)))
            (sym a.core_is)
            (subst (λ (y : Member). IsHolding sessions (here u.net r) mid core y) (sym a.member_is) held);
        limited = ap (λ (p : Place). p.message_limit) place ∙ o.limited ∙ sym a.limit_is;
        payloads = subst
            (λ (limit : MessageLimit). ArePayloads limit sessions said (here u.net r) mid.sessions.known mid.payloads)
            (sym a.limit_is) kept;
      };
    }
  where
    after : GroupNetwork
    after = unsettled u (here u.net r) s frames numbers
