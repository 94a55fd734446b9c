-- What stays of a world's links and ranks after an event at one of them.
use Rattle.std.proofs.Common.{◌≡◌, ◌⊎◌, inl, inr, ℕ, zero, suc, ◌<◌, Bool, true, false, ◌&&◌, List, [], ◌∷◌, ◌++◌, Some}
use Rattle.std.proofs.Common.{if◌then◌else◌, refl, sym, ap, subst, ◌∙◌, arith, append-nil}
use Rattle.std.specs.Prelude.{slice_get, slice_index, slice_set, ◌==◌, nat_lt, not}
use Rattle.std.proofs.lemmas.Bool.{and_parts, eqb-false, ltb-true, ne_eqb}
use Rattle.std.proofs.lemmas.List.{append_assoc, map-append}
use Rattle.std.proofs.lemmas.Option.{same_Some, slice_get_within}
use Rattle.vocabulary.specs.Endpoints.{is_same}
use Rattle.perfect_queues.specs.State.{with_number}
use Rattle.vocabulary.specs.declared.endpoint.Endpoint.{Endpoint}
use Rattle.vocabulary.specs.declared.message_limit.MessageLimit.{MessageLimit}
use Rattle.perfect_queues.proofs.EndpointLemmas.{same_eq}
use Rattle.point_to_point.specs.CoreState.{CoreState}
use Rattle.engine_calls.specs.EngineState.{EngineState}
use Rattle.incarnation.specs.declared.place.Place.{Place}
use Rattle.proof_pure_network.specs.Core.{Core}
use Rattle.proof_pure_network.specs.Announcements.{Begins}
use Rattle.proof_pure_network.specs.Frames.{Cts, Data, Eager, Frame, Rts}
use Rattle.proof_engine_view.specs.Transfers.{AnnouncementsGrow, Transfer, after_out, frames_to}
use Rattle.proof_engine_view.specs.Transfers.{announced_in as frames_announced}
use Rattle.proof_engine_view.proofs.LastingViews.{announced_append as frames_append}
use Rattle.proof_group_network.proofs.SessionParts.{same_accepted}
use Rattle.proof_group_network.specs.SessionContents.{Carried, OfMessages, Session, Sessions, frames_carried}
use Rattle.endpoint_links.specs.Links.{LinksOf, accept, accept_all, handed_on}
use Rattle.proof_session_carrying.proofs.SessionViews.{accepted_begins}
use Rattle.proof_session_carrying.proofs.AnnouncementLaws.{announced_append, announced_grow, at_here, same_begins}
use Rattle.proof_session_carrying.proofs.AnnouncementLaws.{transfers_grow}
use Rattle.collective_messages.specs.declared.message.CollectiveMessage.{CollectiveMessage}
use Rattle.datagram.specs.Spellings.{FrameText}
use Rattle.link_truth.specs.Sessions.{SessionsTell, is_pair}
use Rattle.proof_session_carrying.specs.Announcements.{Announced, all_announced, announced_in, announcements_in}
use Rattle.proof_session_carrying.specs.Announcements.{transfer_as, transfers_as}
use Rattle.proof_engine_steps.proofs.UnderWay.{others_may_announce}
use Rattle.proof_pure_network.specs.Network.{Network, here}
use Rattle.proof_engine_view.specs.CoreViews.{IsShown}
use Rattle.proof_group_network.specs.Network.{GroupNetwork, Happening, happens, run}
use Rattle.proof_link_truth.specs.Events.{IsAt}
use Rattle.link_truth.specs.Truth.{AreTrue}
use Rattle.link_truth.specs.Wire.{at, in_job, place_of}
use Rattle.proof_session_carrying.specs.SessionViews.{Saying, StandFor}
use Rattle.proof_session_carrying.specs.EventLaws.{AreJoined}
use Rattle.proof_network_bridge.specs.WorldViews.{IsJoined}
use Rattle.observation.specs.Sessions.{sessions_in}
use Rattle.proof_network_bridge.proofs.Halves.{sessions_there}

-- what stands at a place of a list of which one place was set
pub set_cases : {A : Type 0} (xs : List A) (k : ℕ) (y : A) (j : ℕ) (e : A) → slice_get (slice_set xs k y) j ≡ Some e →
    ((j ≡ k) × (e ≡ y)) ⊎ ((j ≡ k → ⊥) × (slice_get xs j ≡ Some e))
set_cases [] k y j e h = absurd cc
set_cases (z ∷ zs) zero y zero e h = inl (refl, sym (same_Some y e h))
set_cases (z ∷ zs) zero y (suc j) e h = inr (λ is. omega (arith, is), h)
set_cases (z ∷ zs) (suc k) y zero e h = inr (λ is. omega (arith, is), h)
set_cases (z ∷ zs) (suc k) y (suc j) e h =
    elim (set_cases zs k y j e h) [
      | inl p ↦ inl (omega (arith, p.0), p.1)
      | inr p ↦ inr (λ is. p.0 (omega (arith, is)), p.1)
    ]

-- two ranks have two endpoints
pub places_apart : (current : ℕ → ℕ) (x r : ℕ) → (x ≡ r → ⊥) → is_same (at x (current x)) (at r (current r)) ≡ false
places_apart current x r apart = go (is_same (at x (current x)) (at r (current r))) refl
  where
    go : (t : Bool) → is_same (at x (current x)) (at r (current r)) ≡ t →
        is_same (at x (current x)) (at r (current r)) ≡ false
    go false h = h
    go true h = absurd (apart (ap (λ (e : Endpoint). e.rank) (same_eq (at x (current x)) (at r (current r)) h)))

pub ranks_apart : (w : Network) (x r : ℕ) → (x ≡ r → ⊥) → is_same (here w x) (here w r) ≡ false
ranks_apart w x r apart = places_apart w.current x r apart

-- an endpoint that is to come is not the one that is there
pub to_come_apart : (current : ℕ → ℕ) (d : Endpoint) (r : ℕ) → current d.rank < d.incarnation →
    is_same d (at r (current r)) ≡ false
to_come_apart current d r later = go (is_same d (at r (current r))) refl
  where
    go : (t : Bool) → is_same d (at r (current r)) ≡ t → is_same d (at r (current r)) ≡ false
    go false h = h
    go true h =
        let is : d ≡ at r (current r) = same_eq d (at r (current r)) h in
        let rank_is : current d.rank ≡ current r = ap (λ (e : Endpoint). current e.rank) is in
        let incarnation_is : d.incarnation ≡ current r = ap (λ (e : Endpoint). e.incarnation) is in
        absurd (omega (arith, later, rank_is, incarnation_is))

pub later_apart : (w : Network) (d : Endpoint) (r : ℕ) → w.current d.rank < d.incarnation → is_same d (here w r) ≡ false
later_apart w d r later = to_come_apart w.current d r later

-- where the sessions of the engine at a rank stand
pub place_by : (n r : ℕ) (engines : List EngineState) (datagrams : List (ℕ × List ℕ)) (texts : LinksOf FrameText)
    (current : ℕ → ℕ) (e : EngineState) → AreTrue n (sessions_in engines) datagrams texts current →
    slice_get engines r ≡ Some e →
    (r < n) × (e.sessions.place ≡ in_job e.sessions.place.message_limit (place_of n (at r (current r))))
place_by n r engines datagrams texts current e links there =
    let sessions = sessions_there engines r e there in (
      omega (arith, slice_get_within (sessions_in engines) r e.sessions sessions, links.count),
      (links.tells r e.sessions sessions).place,
    )

-- where one place is such, another that is the same is, too
pub place_alike : (p q x : Place) → p ≡ q → q ≡ in_job q.message_limit x → p ≡ in_job p.message_limit x
place_alike p q x same is = subst (λ (y : Place). y ≡ in_job y.message_limit x) (sym same) is

pub place_is : (n r : ℕ) (engines : List EngineState) (datagrams : List (ℕ × List ℕ)) (w : GroupNetwork)
    (e : EngineState) → IsJoined n engines datagrams w → slice_get engines r ≡ Some e →
    (r < n) × (e.sessions.place ≡ in_job e.sessions.place.message_limit (place_of n (here w.net r)))
place_is n r engines datagrams w e j there = place_by n r engines datagrams j.texts w.net.current e j.links there

-- the sessions of a rank of the world, out of which everything was taken
pub is_at : (n r : ℕ) (engines : List EngineState) (datagrams : List (ℕ × List ℕ)) (w : GroupNetwork)
    (old : EngineState) → IsJoined n engines datagrams w → slice_get engines r ≡ Some old →
    IsAt (sessions_in engines) r old.sessions
is_at n r engines datagrams w old j there =
    record { there = sessions_there engines r old there; out = (j.clean r old there).out }

-- ---- what was accepted nowhere

-- where no text was accepted, nothing was
nothing_stands : (limit : MessageLimit) (out back : List Announced) (said : List CollectiveMessage)
    (texts : List FrameText) (xs : List Carried) → StandFor limit out back said texts xs → texts ≡ [] → xs ≡ []
nothing_stands limit out back said [] [] stand none = refl
nothing_stands limit out back said [] (x ∷ xs) stand none = absurd stand
nothing_stands limit out back said (t ∷ ts) xs stand none = absurd cc

-- so nothing was announced
pub announced_none : (w : GroupNetwork) (said : Saying) (texts : LinksOf FrameText) (sessions : Sessions) →
    AreJoined w said texts sessions → (serial : ℕ) (own d : Endpoint) → (texts own d).accepted ≡ [] →
    (announcements_in serial sessions own).to d ≡ []
announced_none w said texts sessions j serial own d none =
    ap (λ (xs : List Carried). transfers_as serial (announced_in xs))
    (nothing_stands w.net.message_limit (all_announced sessions own d) (all_announced sessions d own) (said own d)
    (texts own d).accepted
    (sessions own d).accepted (j.alike own d).accepted none)

pub none_announced : (n : ℕ) (engines : List EngineState) (datagrams : List (ℕ × List ℕ)) (w : GroupNetwork) →
    (j : IsJoined n engines datagrams w) → (serial : ℕ) (own d : Endpoint) → (j.texts own d).accepted ≡ [] →
    (announcements_in serial j.sessions own).to d ≡ []
none_announced n engines datagrams w j serial own d none =
    announced_none w j.said j.texts j.sessions j.between serial own d none

-- a rank sent nothing to an endpoint that it doesn't know yet
pub none_untold : (n r : ℕ) (engines : List EngineState) (datagrams : List (ℕ × List ℕ)) (texts : LinksOf FrameText)
    (current : ℕ → ℕ) (e : EngineState) → AreTrue n (sessions_in engines) datagrams texts current →
    slice_get engines r ≡ Some e → (d : Endpoint) → slice_index e.sessions.known d.rank < d.incarnation →
    (texts (at r (current r)) d).accepted ≡ []
none_untold n r engines datagrams texts current e links there d late = go (is_pair n (at r (current r)) d) refl
  where
    tells : SessionsTell n current r e.sessions texts
    tells = links.tells r e.sessions (sessions_there engines r e there)

    go : (t : Bool) → is_pair n (at r (current r)) d ≡ t → (texts (at r (current r)) d).accepted ≡ []
    go false is = links.strangers (at r (current r)) d is
    go true is =
        let p = and_parts (not (r == d.rank)) (nat_lt r n && nat_lt d.rank n) is in
        (tells.peers d.rank (ltb-true d.rank n (and_parts (nat_lt r n) (nat_lt d.rank n) p.1).1)
        (other (r == d.rank) refl p.0)).no_accepted d.incarnation late
      where
        other : (t : Bool) → (r == d.rank) ≡ t → not t ≡ true → (d.rank == r) ≡ false
        other true h apart = absurd cc
        other false h apart = ne_eqb d.rank r (λ same. eqb-false r d.rank h (sym same))

-- ---- what goes on

-- sessions that took in more from one endpoint alone
pub record OnlyFrom (own : Endpoint) (old new : Sessions) : Type 0 where
  pub grow : (s d : Endpoint) → Begins (old s d).accepted (new s d).accepted
  pub others : (s d : Endpoint) → is_same s own ≡ false → (new s d).accepted ≡ (old s d).accepted

-- what was announced there stays so
announcements_grow : (serial : ℕ) (old new : Sessions) (x : Endpoint) →
    ((s d : Endpoint) → Begins (old s d).accepted (new s d).accepted) →
    AnnouncementsGrow (announcements_in serial old x) (announcements_in serial new x)
announcements_grow serial old new x grow =
    record {
      to = λ d. transfers_grow serial (all_announced old x d) (all_announced new x d)
          (announced_grow (old x d).accepted (new x d).accepted (grow x d));
      from = λ s. transfers_grow serial (all_announced old s x) (all_announced new s x)
          (announced_grow (old s x).accepted (new s x).accepted (grow s x));
    }

-- what another core holds is under the numbers that the new sessions give
pub shown_more : (serial : ℕ) (own x : Endpoint) (old new : Sessions) (c : CoreState) (known : List ℕ) (core : Core) →
    OnlyFrom own old new → is_same x own ≡ false → IsShown (announcements_in serial old x) c known core →
    IsShown (announcements_in serial new x) c known core
shown_more serial own x old new c known core o apart h =
    others_may_announce (announcements_in serial old x) (announcements_in serial new x) c known core h
    (announcements_grow serial old new x o.grow)
    (λ d. ap (λ (xs : List Carried). transfers_as serial (announced_in xs)) (o.others x d apart))

-- what goes out at e goes out nowhere else
else_kept : (sessions : Sessions) (e : Endpoint) (out : List (Endpoint × Carried)) (s d : Endpoint) →
    is_same s e ≡ false → (accept_all sessions e out s d).accepted ≡ (sessions s d).accepted
else_kept sessions e [] s d apart = refl
else_kept sessions e ((y, c) ∷ out) s d apart = else_kept (accept sessions e (y, c)) e out s d apart ∙
    go (is_same s e) apart
  where
    go : (t : Bool) → t ≡ false →
        (if t && is_same d y then record (sessions e y) { accepted = (sessions e y).accepted ++ c ∷ [] } else
        sessions s d).accepted ≡ (sessions s d).accepted
    go true h = absurd cc
    go false h = refl

-- what goes out at e
pub only_out : (sessions : Sessions) (e : Endpoint) (out : List (Endpoint × Carried)) →
    OnlyFrom e sessions (accept_all sessions e out)
only_out sessions e out =
    record { grow = accepted_begins sessions e out; others = λ s d apart. else_kept sessions e out s d apart }

-- and what goes nowhere
pub only_same : (sessions : Sessions) (e : Endpoint) → OnlyFrom e sessions sessions
only_same sessions e = only_out sessions e []

-- and what goes out after the next was handed up to e
pub only_handed : (sessions : Sessions) (s e : Endpoint) (out : List (Endpoint × Carried)) →
    OnlyFrom e sessions (accept_all (handed_on sessions s e) e out)
only_handed sessions s e out =
    record {
      grow = λ x d. subst (λ (xs : List Carried). Begins xs (accept_all (handed_on sessions s e) e out x d).accepted)
          (same_accepted sessions s e x d) (accepted_begins (handed_on sessions s e) e out x d);
      others = λ x d apart. else_kept (handed_on sessions s e) e out x d apart ∙ same_accepted sessions s e x d;
    }

-- what one frame more announces
one_announced : (serial : ℕ) (xs : List Carried) (f : Frame) →
    transfers_as serial (announced_in (xs ++ OfMessages f ∷ [])) ≡ transfers_as serial (announced_in xs) ++
    frames_announced (f ∷ [])
one_announced serial xs f =
    ap (transfers_as serial) (announced_append xs (OfMessages f ∷ [])) ∙
    map-append (transfer_as serial) (announced_in xs) (announced_in (OfMessages f ∷ []))
    ∙ ap (λ (ts : List Transfer). transfers_as serial (announced_in xs) ++ ts) (alone f)
  where
    alone : (g : Frame) → transfers_as serial (announced_in (OfMessages g ∷ [])) ≡ frames_announced (g ∷ [])
    alone (Eager c tag basic values) = refl
    alone (Rts c tag basic k count) = refl
    alone (Cts k wanted) = refl
    alone (Data k offset values) = refl

-- what was announced once frames went out is what the sessions announce then
pub announced_after : (serial : ℕ) (sessions : Sessions) (e : Endpoint) (out : List (Endpoint × Frame)) (d : Endpoint) →
    (announcements_in serial (accept_all sessions e (frames_carried out)) e).to d ≡
    (after_out (announcements_in serial sessions e) out).to d
announced_after serial sessions e [] d = sym (append-nil (transfers_as serial (all_announced sessions e d)))
announced_after serial sessions e ((y, f) ∷ out) d =
    announced_after serial (accept sessions e (y, OfMessages f)) e out d ∙ go (is_same d y) refl
  where
    before : List Transfer
    before = transfers_as serial (all_announced sessions e d)

    go : (t : Bool) → is_same d y ≡ t →
        transfers_as serial (all_announced (accept sessions e (y, OfMessages f)) e d) ++
        frames_announced (frames_to d out) ≡ before ++
        frames_announced (if t then f ∷ frames_to d out else frames_to d out)
    go true is =
        ap (λ (xs : List Carried). transfers_as serial (announced_in xs) ++ frames_announced (frames_to d out))
        (taken is)
        ∙ ap (λ (ts : List Transfer). ts ++ frames_announced (frames_to d out))
        (one_announced serial (sessions e d).accepted f)
        ∙ append_assoc before (frames_announced (f ∷ [])) (frames_announced (frames_to d out))
        ∙ ap (λ (ts : List Transfer). before ++ ts) (sym (frames_append (f ∷ []) (frames_to d out)))
      where
        taken : is_same d y ≡ true → (accept sessions e (y, OfMessages f) e d).accepted ≡ (sessions e d).accepted ++
            OfMessages f ∷ []
        taken there =
            ap (λ (z : Endpoint). (accept sessions e (y, OfMessages f) e z).accepted) (same_eq d y there)
            ∙ ap (λ (l : Session). l.accepted)
            (at_here e y (record (sessions e y) { accepted = (sessions e y).accepted ++ OfMessages f ∷ [] })
            (sessions e y))
            ∙ ap (λ (z : Endpoint). (sessions e z).accepted ++ OfMessages f ∷ []) (sym (same_eq d y there))
    go false is =
        ap (λ (xs : List Carried). transfers_as serial (announced_in xs) ++ frames_announced (frames_to d out))
        (left (is_same e e) (is_same d y) is)
      where
        left : (a b : Bool) → b ≡ false →
            (if a && b then record (sessions e y) { accepted = (sessions e y).accepted ++ OfMessages f ∷ [] } else
            sessions e d).accepted ≡ (sessions e d).accepted
        left true true h = absurd cc
        left true false h = refl
        left false b h = refl

-- so it grew from the one to the other
pub after_grows : (serial : ℕ) (sessions : Sessions) (e : Endpoint) (out : List (Endpoint × Frame)) →
    AnnouncementsGrow (after_out (announcements_in serial sessions e) out)
    (announcements_in serial (accept_all sessions e (frames_carried out)) e)
after_grows serial sessions e out =
    record {
      to = λ d. same_begins ((after_out (announcements_in serial sessions e) out).to d)
          ((announcements_in serial (accept_all sessions e (frames_carried out)) e).to d)
          (sym (announced_after serial sessions e out d));
      from = (announcements_grow serial sessions (accept_all sessions e (frames_carried out)) e
          (accepted_begins sessions e (frames_carried out))).from;
    }

-- what is held under the former is held under the latter
pub shown_out : (serial : ℕ) (sessions : Sessions) (own : Endpoint) (out : List (Endpoint × Frame)) (c : CoreState)
    (known : List ℕ) (core : Core) → IsShown (after_out (announcements_in serial sessions own) out) c known core →
    IsShown (announcements_in serial (accept_all sessions own (frames_carried out)) own) c known core
shown_out serial sessions own out c known core h =
    others_may_announce (after_out (announcements_in serial sessions own) out)
    (announcements_in serial (accept_all sessions own (frames_carried out)) own) c known core h
    (after_grows serial sessions own out)
    (λ d. announced_after serial sessions own out d)

-- the same, after the next frame was handed up to it
pub handed_to_same : (serial : ℕ) (sessions : Sessions) (s e : Endpoint) (out : List (Endpoint × Frame))
    (d : Endpoint) →
    (announcements_in serial (accept_all (handed_on sessions s e) e (frames_carried out)) e).to d ≡
    (after_out (announcements_in serial sessions e) out).to d
handed_to_same serial sessions s e out d =
    announced_after serial (handed_on sessions s e) e out d ∙
    ap (λ (xs : List Carried). transfers_as serial (announced_in xs) ++ frames_announced (frames_to d out))
    (same_accepted sessions s e e d)

pub handed_grow_out : (serial : ℕ) (sessions : Sessions) (s e : Endpoint) (out : List (Endpoint × Frame)) →
    AnnouncementsGrow (after_out (announcements_in serial sessions e) out)
    (announcements_in serial (accept_all (handed_on sessions s e) e (frames_carried out)) e)
handed_grow_out serial sessions s e out =
    record {
      to = λ d. same_begins ((after_out (announcements_in serial sessions e) out).to d)
          ((announcements_in serial (accept_all (handed_on sessions s e) e (frames_carried out)) e).to d)
          (sym (handed_to_same serial sessions s e out d));
      from = (announcements_grow serial sessions (accept_all (handed_on sessions s e) e (frames_carried out)) e
          (only_handed sessions s e (frames_carried out)).grow).from;
    }

-- ---- a restart

-- the new endpoint of the rank, and those of others
pub with_new : (f : ℕ → ℕ) (r i : ℕ) → with_number f r i r ≡ i
with_new f r i = go (r == r) refl
  where
    go : (t : Bool) → (r == r) ≡ t → (if r == r then i else f r) ≡ i
    go true h = rw h refl
    go false h = absurd (eqb-false r r h refl)

pub with_old : (f : ℕ → ℕ) (r i x : ℕ) → (x == r) ≡ false → with_number f r i x ≡ f x
with_old f r i x apart = rw apart refl

-- ---- a list of happenings

-- one happening more
pub run_push : (n : ℕ) (hs : List Happening) (h : Happening) (w : GroupNetwork) →
    run n (hs ++ h ∷ []) w ≡ happens n (run n hs w) h
run_push n [] h w = refl
run_push n (g ∷ gs) h w = run_push n gs h (happens n w g)
