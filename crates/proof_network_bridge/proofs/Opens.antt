-- A rank that hears another one learns first what that teaches, and stands in the middle of its word.
use Rattle.std.proofs.Common.{◌≡◌, ℕ, zero, suc, ◌≤◌, Bool, true, false, max, nat_lt, List, [], ◌∷◌, Option, None, refl}
use Rattle.std.proofs.Common.{sym, ap, subst, ◌∙◌, arith}
use Rattle.std.specs.Prelude.{slice_index, slice_set}
use Rattle.std.proofs.lemmas.Bool.{eqb-false, le-ltb}
use Rattle.datagram.specs.Spellings.{FrameText}
use Rattle.engine_calls.specs.EngineState.{EngineState}
use Rattle.incarnation.specs.declared.place.Place.{Place}
use Rattle.proof_collective_steps.specs.MemberViews as collectives
use Rattle.proof_engine_steps.proofs.Further.{met_known}
use Rattle.proof_engine_steps.proofs.SourceKnowledge.{source_incarnation}
use Rattle.proof_engine_steps.specs.Steps.{IsFromOther, IsHeard, NewsAreShown}
use Rattle.proof_engine_view.specs.CoreViews.{IsShown}
use Rattle.proof_group_network.specs.SessionContents.{Sessions}
use Rattle.proof_group_network.specs.Happenings.{IsAfter, met_core}
use Rattle.proof_group_network.specs.Network.{GroupNetwork, hear_member}
use Rattle.proof_group_network.specs.Notices.{Member}
use Rattle.proof_group_network.specs.NoticesStand.{heard_member}
use Rattle.proof_link_truth.specs.Events as below
use Rattle.link_truth.specs.Wire.{at, in_job, place_of}
use Rattle.endpoint_links.specs.Links.{LinksOf}
use Rattle.proof_pure_network.specs.Announcements.{MeetingsStand}
use Rattle.proof_pure_network.specs.Core.{Core}
use Rattle.proof_pure_network.specs.Engine.{met}
use Rattle.proof_pure_network.specs.Network.{here}
use Rattle.proof_session_carrying.proofs.MessageSteps.{others_are_carried}
use Rattle.proof_session_carrying.specs.Announcements.{announcements_in}
use Rattle.point_to_point_calls.specs.FrameNews.{NewsText}
use Rattle.point_to_point.specs.Arrivals.{after_lesson}
use Rattle.sessions.specs.Events.{taught_known}
use Rattle.sessions.specs.HeardBytes.{HeardText}
use Rattle.vocabulary.specs.declared.endpoint.Endpoint.{Endpoint}
use Rattle.vocabulary.specs.declared.message_limit.MessageLimit.{MessageLimit}
use Rattle.proof_network_bridge.specs.Payloads.{ArePayloads}
use Rattle.proof_network_bridge.proofs.HeardWords.{known_alike, is_from_other, news}
use Rattle.proof_network_bridge.proofs.Midway.{AreTold, IsHolding, IsMidway, IsOpen, opened, others_after}
use Rattle.proof_network_bridge.proofs.Payloads.{payloads_taught, said_same}
use Rattle.proof_network_bridge.proofs.Worlds.{announced_none, only_same, shown_out}

-- ---- what is known

-- what is raised at a place is raised
raised : (xs : List ℕ) (k v x : ℕ) → slice_index xs k ≤ v → slice_index xs x ≤ slice_index (slice_set xs k v) x
raised [] k v x h = omega arith
raised (y ∷ ys) zero v zero h = h
raised (y ∷ ys) zero v (suc x) h = omega arith
raised (y ∷ ys) (suc k) v zero h = omega arith
raised (y ∷ ys) (suc k) v (suc x) h = raised ys k v x h

-- by a lesson no rank is known at less
taught_more : (lesson : Bool) (known : List ℕ) (s : Endpoint) (x : ℕ) →
    slice_index known x ≤ slice_index (taught_known lesson known s) x
taught_more true known s x = raised known s.rank (max (slice_index known s.rank) s.incarnation) x (omega arith)
taught_more false known s x = omega arith

-- ---- whoever is known as it is teaches nothing

pub learns_none : (known : ℕ → ℕ) (s : Endpoint) (m : Member) → known s.rank ≡ s.incarnation → hear_member known s m ≡ m
learns_none known s m is =
    let plain : nat_lt (known s.rank) s.incarnation ≡ false = le-ltb (known s.rank) s.incarnation (omega (arith, is)) in
    rw plain refl

-- so what is held is held when it is heard again
pub taught_nothing : (u : GroupNetwork) (r : ℕ) (s : Endpoint) (sessions : Sessions) (e : EngineState) →
    (u.net.core (here u.net r)).known s.rank ≡ s.incarnation →
    IsHolding sessions (here u.net r) e (u.net.core (here u.net r)) (u.member (here u.net r)) →
    IsHolding sessions (here u.net r) e (met_core u r s) (heard_member u r s)
taught_nothing u r s sessions e known h =
    subst (λ (k : Core). IsHolding sessions own e k (heard_member u r s)) (sym (met_known (u.net.core own) s known))
    (subst (λ (m : Member). IsHolding sessions own e (u.net.core own) m)
    (sym (learns_none (u.net.core own).known s (u.member own) known)) h)
  where
    own : Endpoint
    own = here u.net r

-- and what comes from it is from another rank, and no lesson
pub from_known : (n r : ℕ) (engines : List EngineState) (current : ℕ → ℕ) (u : GroupNetwork) (texts : LinksOf FrameText)
    (s : Endpoint) (e : EngineState) (text : Option FrameText) → IsOpen n r engines current u texts s e →
    IsFromOther e.core e.sessions.known (news s false text)
from_known n r engines current u texts s e text o =
    let place : e.core.place ≡ in_job e.sessions.place.message_limit (place_of n (at r (current r))) = o.held.placed ∙ o.told.place in
    let size_is : e.core.place.size ≡ n = ap (λ (p : Place). p.size) place in
    let rank_is : e.core.place.endpoint.rank ≡ r = ap (λ (p : Place). p.endpoint.rank) place in
    let known : slice_index e.sessions.known s.rank ≡ s.incarnation = o.known in
    record {
      there = omega (arith, o.source, size_is);
      apart = λ same. eqb-false s.rank r o.apart (same ∙ rank_is);
      fresh = omega (arith, known);
      lesson = le-ltb (slice_index e.sessions.known s.rank) s.incarnation (omega (arith, known));
    }

-- ---- the lesson

-- the core hears of a word without a frame
heard_alone : NewsAreShown →
    (n r : ℕ) (engines : List EngineState) (current : ℕ → ℕ) (u : GroupNetwork) (texts : LinksOf FrameText)
    (old : EngineState) (s : Endpoint) (lesson : Bool) → MeetingsStand u.net →
    (m : IsMidway n r engines current u texts old) → AreTold n r current texts old.sessions →
    IsFromOther old.core old.sessions.known (news s lesson None) → (serial : ℕ) →
    IsHeard (announcements_in serial m.sessions (at r (current r))) old.core old.sessions.known
    (u.net.core (at r (current r))) (news s lesson None) None
heard_alone shows n r engines current u texts old s lesson meetings m told other serial =
    shows (announcements_in serial m.sessions own) old.core old.sessions.known (u.net.core own)
    (news s lesson None) None (m.held.queues serial) (record {
      other = other;
      meant = tt;
      within = tt;
      taken = refl;
      once = λ d k i j x y at_i ix at_j iy. meetings.once d own k i j x y at_i ix at_j iy;
      untold = λ d late. announced_none u m.said texts m.sessions m.between serial own d (told.untold d late);
    })
  where
    own : Endpoint
    own = at r (current r)

-- what is said of the network once the word was heard is said of the engine that learnt its lesson
pub opens_by : NewsAreShown →
    (n r : ℕ) (engines : List EngineState) (current : ℕ → ℕ) (u after : GroupNetwork) (texts : LinksOf FrameText)
    (old : EngineState) (h : HeardText) → MeetingsStand u.net →
    (m : IsMidway n r engines current u texts old) → AreTold n r current texts old.sessions →
    below.IsHeard n r current old.sessions.known h.source h.lesson →
    IsAfter u after (at r (current r)) (met (u.net.core (at r (current r))) h.source) u.net.link
    (hear_member (u.net.core (at r (current r))).known h.source (u.member (at r (current r)))) u.notices [] →
    collectives.IsShown (at r (current r)) (opened old h).groups.collective (opened old h).groups.contexts
    (hear_member (u.net.core (at r (current r))).known h.source (u.member (at r (current r))))
    (opened old h).ended →
    IsOpen n r engines current after texts h.source (opened old h)
opens_by shows n r engines current u after texts old h meetings m told heard a groups =
    record {
      told = record {
        there = told.there;
        place = told.place;
        untold = λ d late.
            let more : slice_index old.sessions.known d.rank ≤ slice_index (taught_known h.lesson old.sessions.known s) d.rank = taught_more h.lesson old.sessions.known s d.rank in
            told.untold d (omega (arith, more, late));
      };
      sessions = m.sessions;
      said = m.said;
      between = others_are_carried u after m.said texts m.sessions own core member [] m.between a;
      others = others_after r engines current u after core u.net.link member u.notices [] m.sessions m.sessions m.said
          m.said m.others a (only_same m.sessions own) (said_same m.said);
      source = heard.there;
      apart = heard.apart;
      known = ap (λ (known : List ℕ). slice_index known s.rank) (known_alike h.lesson old.sessions.known s) ∙
          source_incarnation old.core old.sessions.known heard_news (m.held.queues 0).width other;
      completion = (alone 0).completion ∙ m.completion;
      held = subst (λ (k : Core). IsHolding m.sessions own (opened old h) k (after.member own)) (sym a.core_is)
          (subst (λ (y : Member). IsHolding m.sessions own (opened old h) core y) (sym a.member_is) (record {
            queues = queues;
            groups = groups;
            placed = (alone 0).place ∙ m.held.placed;
          }));
      limited = m.limited ∙ sym a.limit_is;
      payloads =
          subst (λ (limit : MessageLimit). ArePayloads limit m.sessions m.said own (opened old h).sessions.known
          (opened old h).payloads) (sym a.limit_is)
          (subst (λ (known : List ℕ). ArePayloads u.net.message_limit m.sessions m.said own known
          (opened old h).payloads)
          (sym (known_alike h.lesson old.sessions.known s))
          (payloads_taught u.net.message_limit m.sessions m.said own old.sessions.known old.payloads s h.lesson
          m.payloads));
    }
  where
    own : Endpoint
    own = at r (current r)

    s : Endpoint
    s = h.source

    core : Core
    core = met (u.net.core own) s

    member : Member
    member = hear_member (u.net.core own).known s (u.member own)

    heard_news : NewsText
    heard_news = news s h.lesson None

    other : IsFromOther old.core old.sessions.known heard_news
    other = is_from_other n r current old.core old.sessions.known heard_news old.sessions.place.message_limit
        (m.held.placed ∙ told.place) heard

    alone : (serial : ℕ) →
        IsHeard (announcements_in serial m.sessions own) old.core old.sessions.known (u.net.core own) heard_news None
    alone serial = heard_alone shows n r engines current u texts old s h.lesson meetings m told other serial

    queues : (serial : ℕ) →
        IsShown (announcements_in serial m.sessions own) (after_lesson h.lesson old.core s)
        (taught_known h.lesson old.sessions.known s) core
    queues serial =
        subst (λ (known : List ℕ). IsShown (announcements_in serial m.sessions own) (after_lesson h.lesson old.core s)
        known core) (sym (known_alike h.lesson old.sessions.known s))
        (shown_out serial m.sessions own [] (after_lesson h.lesson old.core s) _ core (alone serial).shown)
