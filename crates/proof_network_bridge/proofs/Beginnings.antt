-- A world of engines follows the pure network with communicators: its opening, and the restarts of its ranks.
use Rattle.std.proofs.Common.{◌≡◌, ℕ, zero, suc, ◌+◌, ◌<◌, ◌≤◌, List, [], ◌∷◌, ◌++◌, Some, refl, sym, ap, subst, ◌∙◌}
use Rattle.std.proofs.Common.{arith, inl, inr}
use Rattle.std.specs.Prelude.{slice_get, slice_set}
use Rattle.std.proofs.lemmas.Bool.{ne_eqb}
use Rattle.std.proofs.lemmas.Option.{same_Some}
use Rattle.rendezvous.specs.PayloadState as payloads
use Rattle.engine_calls.specs.EngineState.{EngineState, opening}
use Rattle.incarnation.specs.declared.place.Place.{Place}
use Rattle.perfect_groups.specs.Events.{Entry, Restarted}
use Rattle.perfect_queues.specs.State.{with_number}
use Rattle.proof_collective_steps.specs.RankLaws.{OpeningsAreShown}
use Rattle.proof_engine_steps.specs.Steps.{OpeningIsShown}
use Rattle.proof_group_network.specs.SessionContents.{Sessions}
use Rattle.proof_group_network.specs.Happenings.{RestartsHappen}
use Rattle.proof_group_network.specs.Network.{GroupNetwork, Restarts, new_group_network}
use Rattle.proof_group_network.specs.Notices.{Member}
use Rattle.proof_group_network.specs.SessionLaws.{NewSessionsArePart}
use Rattle.proof_group_network.specs.Unborn.{MembersAreNew, UnbornAreNew}
use Rattle.proof_link_truth.specs.Events.{OpeningIsTrue, RestartsAreTrue, no_links, opening_sessions}
use Rattle.link_truth.specs.Truth.{AreTrue}
use Rattle.link_truth.specs.Wire.{at, in_job, place_of}
use Rattle.proof_pure_network.proofs.EventInvariant.{current_more}
use Rattle.proof_pure_network.specs.Core.{Core, new_core}
use Rattle.proof_pure_network.specs.Network.{here}
use Rattle.proof_session_carrying.specs.Announcements.{announcements_in}
use Rattle.sessions.specs.SessionsState.{SessionsState}
use Rattle.vocabulary.specs.declared.endpoint.Endpoint.{Endpoint}
use Rattle.vocabulary.specs.declared.message_limit.MessageLimit.{MessageLimit}
use Rattle.proof_network_bridge.specs.EventLaws.{next_place}
use Rattle.proof_network_bridge.specs.GoingOn.{Happened, OpeningFollowsNone, RestartsFollowOn}
use Rattle.proof_network_bridge.specs.WorldViews.{IsClean, IsJoined, network_after, opening_engines}
use Rattle.observation.specs.Sessions.{sessions_in}
use Rattle.proof_network_bridge.specs.Payloads.{ArePayloads}
use Rattle.proof_network_bridge.proofs.RankEvents.{IsHeldUnder, held_at, held_by}
use Rattle.proof_network_bridge.proofs.Halves.{sessions_set, sessions_there}
use Rattle.proof_network_bridge.proofs.Payloads.{none_kept}
use Rattle.proof_network_bridge.proofs.Worlds.{none_announced, place_is, run_push, set_cases, with_new, with_old}

-- ---- an engine at its start

-- it holds what a new core and a new member hold, and nothing is to be taken out of it
record IsNew (sessions : Sessions) (own : Endpoint) (e : EngineState) (core : Core) (m : Member) : Type 0 where
  held : IsHeldUnder sessions own e core m
  clean : IsClean e
  kept : e.payloads ≡ payloads.opening

new_is : OpeningIsShown → OpeningsAreShown → (l : MessageLimit) (n : ℕ) (limit : MessageLimit) (own : Endpoint)
    (sessions : Sessions) → l ≡ limit → own.rank < n →
    ((serial : ℕ) (d : Endpoint) → (announcements_in serial sessions own).to d ≡ []) →
    IsNew sessions own (opening (in_job l (place_of n own))) (new_core limit own)
    ((new_group_network n limit).member own)
new_is shows groups_show l n limit own sessions same within none =
    record {
      held = λ serial. record {
        queues =
            shows (in_job l (place_of n own)) limit (announcements_in serial sessions own) same within (none serial);
        groups =
            groups_show n limit own;
        placed = refl;
      };
      clean = record { out = refl; completion = refl; ended = refl };
      kept = refl;
    }

-- ---- the opening

opening_at : (l : MessageLimit) (n a k : ℕ) (r : ℕ) (e : EngineState) → slice_get (opening_engines l n a k) r ≡ Some e →
    (r < k) × (e ≡ opening (in_job l (place_of n (at (a + r) 0))))
opening_at l n a zero r e is = absurd cc
opening_at l n a (suc k) zero e is = (
  omega arith,
  sym (same_Some (opening (in_job l (place_of n (at a 0)))) e is) ∙
      ap (λ (x : ℕ). opening (in_job l (place_of n (at x 0)))) (omega arith),
)
opening_at l n a (suc k) (suc r) e is =
    let rest = opening_at l n (suc a) k r e is in
    (omega (arith, rest.0), rest.1 ∙ ap (λ (x : ℕ). opening (in_job l (place_of n (at x 0)))) (omega arith))

-- the sessions of engines at their start
opening_halves : (l : MessageLimit) (n a k : ℕ) → sessions_in (opening_engines l n a k) ≡ opening_sessions l n a k
opening_halves l n a zero = refl
opening_halves l n a (suc k) =
    ap (λ (ss : List SessionsState). (opening (in_job l (place_of n (at a 0)))).sessions ∷ ss)
    (opening_halves l n (suc a) k)

-- nothing was accepted
abbrev no_sessions : Sessions
no_sessions s d = record { accepted = []; handed = 0 }

opening_is : OpeningIsShown → OpeningsAreShown → (l : MessageLimit) (n r : ℕ) (e : EngineState) →
    slice_get (opening_engines l n 0 n) r ≡
    Some e →
    IsNew no_sessions (at r 0) e (new_core l (at r 0)) ((new_group_network n l).member (at r 0))
opening_is shows groups_show l n r e is =
    let start : 0 + r ≡ r = omega arith in
    let found = opening_at l n 0 n r e is in
    let here_is : e ≡ opening (in_job l (place_of n (at r 0))) = found.1 ∙ ap (λ (x : ℕ). opening (in_job l (place_of n (at x 0)))) start in
    subst (λ (g : EngineState). IsNew no_sessions (at r 0) g (new_core l (at r 0))
    ((new_group_network n l).member (at r 0))) (sym here_is)
    (new_is shows groups_show l n l (at r 0) no_sessions refl found.0 (λ serial d. refl))

pub opening_follows : OpeningIsShown → OpeningsAreShown → NewSessionsArePart → OpeningIsTrue → OpeningFollowsNone
opening_follows shows groups_show parts truth l n few =
    record {
      few = few;
      joined = record {
        texts = no_links;
        links = subst
            (λ (ss : List SessionsState). AreTrue n ss [] no_links (new_group_network n l).net.current)
            (sym (opening_halves l n 0 n)) (truth l n few);
        sessions = no_sessions;
        said = λ s d. [];
        between = record {
          parts = parts n l;
          alike = λ s d. record { accepted = tt; handed = refl };
          brought =
              λ s d. tt;
        };
        held = λ r e is. held_by (new_group_network n l) no_sessions r e
            (opening_is shows groups_show l n r e is).held;
        clean = λ r e is. (opening_is shows groups_show l n r e is).clean;
        payloads =
            λ r e is. none_kept l no_sessions (λ s d. []) (here (new_group_network n l).net r)
            e.sessions.known e.payloads
            (opening_is shows groups_show l n r e is).kept;
        limits = λ r e is.
            let at_start = opening_at l n 0 n r e is in
            ap (λ (g : EngineState). g.sessions.place.message_limit) at_start.1;
        unborn = λ d later. refl;
      };
      seen = refl;
    }

-- ---- a restart

-- the network once rank r was started anew
abbrev anew : GroupNetwork → (r : ℕ) → GroupNetwork
anew w r = record w {
  net = record w.net { current = with_number w.net.current r (suc (w.net.current r)) };
  history =
      w.history ++ Restarted r ∷ [];
}

-- its next endpoint
abbrev next_of : GroupNetwork → (r : ℕ) → Endpoint
next_of w r = at r (suc (w.net.current r))

-- what is held by a core and a member that nobody touched
held_anew : (sessions : Sessions) (w : GroupNetwork) (r : ℕ) (new : EngineState) →
    w.net.core (next_of w r) ≡ new_core w.net.message_limit (next_of w r) → (m : Member) → w.member (next_of w r) ≡ m →
    IsHeldUnder sessions (next_of w r) new (new_core w.net.message_limit (next_of w r)) m →
    IsHeldUnder sessions (here (anew w r).net r) new (w.net.core (here (anew w r).net r))
    (w.member (here (anew w r).net r))
held_anew sessions w r new core_is m member_is held =
    subst (λ (i : ℕ). IsHeldUnder sessions (at r i) new (w.net.core (at r i)) (w.member (at r i)))
    (sym (with_new w.net.current r (suc (w.net.current r))))
    (subst (λ (k : Core). IsHeldUnder sessions (next_of w r) new k (w.member (next_of w r))) (sym core_is)
    (subst (λ (y : Member). IsHeldUnder sessions (next_of w r) new (new_core w.net.message_limit (next_of w r)) y)
    (sym member_is) held))

-- the new engine shows the new core and the new member, and the other ranks' endpoints stay
joined_anew : (n r : ℕ) (engines : List EngineState) (datagrams : List (ℕ × List ℕ)) (w : GroupNetwork)
    (new : EngineState) →
    (j : IsJoined n engines datagrams w) → MembersAreNew n w →
    AreTrue n (sessions_in (slice_set engines r new)) datagrams j.texts (anew w r).net.current →
    IsNew j.sessions (next_of w r) new (new_core w.net.message_limit (next_of w r))
    ((new_group_network n w.net.message_limit).member (next_of w r)) →
    new.sessions.place.message_limit ≡ w.net.message_limit →
    IsJoined n (slice_set engines r new) datagrams (anew w r)
joined_anew n r engines datagrams w new j members truth is_new limited =
    record {
      texts = j.texts;
      links = truth;
      sessions = j.sessions;
      said = j.said;
      between = record { parts = j.between.parts; alike = j.between.alike; brought = j.between.brought };
      held = λ x e is. held_by (anew w r) j.sessions x e (each x e is);
      clean = λ x e is. elim (set_cases engines r new x e is) [
        | inl p ↦ subst IsClean (sym p.1) is_new.clean
        | inr p ↦ j.clean x e p.1
      ];
      payloads = λ x e is. elim (set_cases engines r new x e is) [
        | inl p ↦ none_kept w.net.message_limit j.sessions j.said (here (anew w r).net x) e.sessions.known e.payloads
            (ap (λ (g : EngineState). g.payloads) p.1 ∙ is_new.kept)
        | inr p ↦ subst (λ (i : ℕ). ArePayloads w.net.message_limit j.sessions j.said (at x i) e.sessions.known
            e.payloads)
            (sym (with_old w.net.current r (suc (w.net.current r)) x (ne_eqb x r p.0))) (j.payloads x e p.1)
      ];
      limits = λ x e is. elim (set_cases engines r new x e is) [
        | inl p ↦ ap (λ (g : EngineState). g.sessions.place.message_limit) p.1 ∙ limited
        | inr p ↦ j.limits x e p.1
      ];
      unborn = λ d later.
          let more : w.net.current d.rank ≤ with_number w.net.current r (suc (w.net.current r)) d.rank = current_more w.net.current r d.rank in
          j.unborn d (omega (arith, later, more));
    }
  where
    first : IsHeldUnder j.sessions (here (anew w r).net r) new (w.net.core (here (anew w r).net r))
        (w.member (here (anew w r).net r))
    first = held_anew j.sessions w r new (j.unborn (next_of w r) (omega arith))
        ((new_group_network n w.net.message_limit).member (next_of w r)) (members (next_of w r) (omega arith))
        is_new.held

    each : (x : ℕ) (e : EngineState) → slice_get (slice_set engines r new) x ≡ Some e →
        IsHeldUnder j.sessions (here (anew w r).net x) e (w.net.core (here (anew w r).net x))
        (w.member (here (anew w r).net x))
    each x e is = elim (set_cases engines r new x e is) [
      | inl p ↦ subst (λ (y : ℕ). IsHeldUnder j.sessions (here (anew w r).net y) e (w.net.core (here (anew w r).net y))
          (w.member (here (anew w r).net y))) (sym p.0)
          (subst (λ (g : EngineState). IsHeldUnder j.sessions (here (anew w r).net r) g
          (w.net.core (here (anew w r).net r)) (w.member (here (anew w r).net r))) (sym p.1) first)
      | inr p ↦ subst (λ (i : ℕ). IsHeldUnder j.sessions (at x i) e (w.net.core (at x i)) (w.member (at x i)))
          (sym (with_old w.net.current r (suc (w.net.current r)) x (ne_eqb x r p.0)))
          (held_at n x engines datagrams w e j p.1)
    ]

-- the new engine of the rank is one at the next endpoint
restarted_at : OpeningIsShown → OpeningsAreShown → RestartsAreTrue →
    (n r : ℕ) (engines : List EngineState) (datagrams : List (ℕ × List ℕ)) (w : GroupNetwork) (old : EngineState) →
    MembersAreNew n w →
    IsJoined n engines datagrams w → slice_get engines r ≡ Some old → w.net.current r < 65535 →
    IsJoined n
    (slice_set engines r (opening (in_job old.sessions.place.message_limit (place_of n (next_of w r))))) datagrams
    (anew w r)
restarted_at shows groups_show truth n r engines datagrams w old members j there few =
    let new : EngineState = opening (in_job old.sessions.place.message_limit (place_of n (next_of w r))) in
    joined_anew n r engines datagrams w new j members
    (subst (λ (ss : List SessionsState). AreTrue n ss datagrams j.texts (anew w r).net.current)
    (sym (sessions_set engines r new))
    (truth n r (sessions_in engines) datagrams j.texts w.net.current old.sessions j.links
    (sessions_there engines r old there) few))
    (new_is shows groups_show old.sessions.place.message_limit n w.net.message_limit (next_of w r) j.sessions
    (j.limits r old there) (place_is n r engines datagrams w old j there).0
    (λ serial d. none_announced n engines datagrams w j serial (next_of w r) d
    (j.links.none_accepted (next_of w r) d (omega arith))))
    (j.limits r old there)

pub restarts_follow : OpeningIsShown → OpeningsAreShown → RestartsAreTrue → RestartsHappen → UnbornAreNew →
    RestartsFollowOn
restarts_follow shows groups_show truth restarts unborn n limit r before engines datagrams history old f there few =
    let w : GroupNetwork = network_after n limit before in
    let place = place_is n r engines datagrams w old f.joined there in
    let incarnation_is : old.sessions.place.endpoint.incarnation ≡ w.net.current r = ap (λ (p : Place). p.endpoint.incarnation) place.1 in
    let room : w.net.current r < 65535 = omega (arith, few, incarnation_is) in
    let pushed : network_after n limit (before ++ Restarts r ∷ []) ≡ anew w r = run_push n before (Restarts r) (new_group_network n limit) ∙ restarts n r w place.0 room in
    Happened (Restarts r) refl (record {
      few = f.few;
      joined = subst
          (λ (after : GroupNetwork). IsJoined n (slice_set engines r (opening (next_place old.sessions.place)))
          datagrams after) (sym pushed)
          (subst (λ (p : Place). IsJoined n (slice_set engines r (opening (next_place p))) datagrams (anew w r))
          (sym place.1)
          (restarted_at shows groups_show truth n r engines datagrams w old (unborn n limit before) f.joined there
          room));
      seen = ap (λ (after : GroupNetwork). after.history) pushed ∙
          ap (λ (es : List Entry). es ++ Restarted r ∷ []) f.seen;
    })
