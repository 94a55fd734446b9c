-- Links grow: more is accepted at their ends, and more is handed up.
use Rattle.std.proofs.Common.{◌≡◌, ℕ, suc, ◌+◌, ◌<◌, ◌≤◌, ◌^◌, Bool, true, false, ◌&&◌, List, [], ◌∷◌, ◌++◌, length}
use Rattle.std.proofs.Common.{Some, if◌then◌else◌, ◌==◌, slice_get, refl, sym, ap, ◌∙◌, subst, arith}
use Rattle.std.proofs.lemmas.Bool.{and_parts, eq-eqb, both_ways}
use Rattle.std.proofs.lemmas.List.{length-append}
use Rattle.vocabulary.specs.Endpoints.{is_same}
use Rattle.vocabulary.specs.declared.endpoint.Endpoint.{Endpoint}
use Rattle.perfect_queues.proofs.EndpointLemmas.{same_eq, same_refl}
use Rattle.datagram.specs.Spellings.{FrameText}
use Rattle.reliable_link.proofs.Places.{place_stays}
use Rattle.sessions.specs.SessionsState.{SessionsState}
use Rattle.link_truth.specs.Links.{Link, Links, accept, handed_on, with_link}
use Rattle.link_truth.specs.Sessions.{IsLink, is_pair}
use Rattle.link_truth.specs.DatagramTruth.{IsTold, Tells, TellsAck, TellsFrame, TellsReset}
use Rattle.link_truth.specs.Truth.{AreTrue}
use Rattle.link_truth.specs.Wire.{CanBeSent}
use Rattle.proof_link_truth.proofs.Lists.{All_append}

-- a link is the changed one, or as it was
pub link_cases : (P : Link → Type 0) (links : Links) (s d : Endpoint) (l : Link) (s' d' : Endpoint)
    → (s' ≡ s → d' ≡ d → P l) → ((is_same s' s && is_same d' d) ≡ false → P (links s' d')) →
    P (with_link links s d l s' d')
link_cases P links s d l s' d' there elsewhere = go (is_same s' s && is_same d' d) refl
  where
    go : (t : Bool) → (is_same s' s && is_same d' d) ≡ t → P (if t then l else links s' d')
    go true h = let q = and_parts (is_same s' s) (is_same d' d) h in there (same_eq s' s q.0) (same_eq d' d q.1)
    go false h = elsewhere h

-- the changed link itself
pub link_here : (links : Links) (s d : Endpoint) (l : Link) → with_link links s d l s d ≡ l
link_here links s d l = go (is_same s s) (is_same d d) (same_refl s) (same_refl d)
  where
    go : (t u : Bool) → t ≡ true → u ≡ true → (if t && u then l else links s d) ≡ l
    go t u ht hu = rw (ht, hu)

-- what is accepted hands up nothing
pub accepted_handed : (links : Links) (s d : Endpoint) (f : FrameText) (s' d' : Endpoint) →
    (accept links s (d, f) s' d').handed ≡ (links s' d').handed
accepted_handed links s d f s' d' =
    link_cases (λ l. l.handed ≡ (links s' d').handed) links s d
    (record { accepted = (links s d).accepted ++ f ∷ []; handed = (links s d).handed }) s' d'
    (λ es ed. rw (es, ed)) (λ h. refl)

-- what is handed up is no more accepted than before
pub handed_accepted : (links : Links) (s d s' d' : Endpoint) → (handed_on links s d s' d').accepted ≡
    (links s' d').accepted
handed_accepted links s d s' d' =
    link_cases (λ l. l.accepted ≡ (links s' d').accepted) links s d
    (record { accepted = (links s d).accepted; handed = suc (links s d).handed }) s' d'
    (λ es ed. rw (es, ed)) (λ h. refl)

-- what an event at a rank leaves to the others
pub record Grows (r : ℕ) (a b : Links) : Type 0 where
  pub accepted : (s d : Endpoint) → (s.rank == r) ≡ false → (b s d).accepted ≡ (a s d).accepted
  pub handed : (s d : Endpoint) → (d.rank == r) ≡ false → (b s d).handed ≡ (a s d).handed
  pub more : (s d : Endpoint) → (a s d).handed ≤ (b s d).handed
  pub kept : (s d : Endpoint) (q : ℕ) (f : FrameText) → slice_get (a s d).accepted q ≡ Some f →
      slice_get (b s d).accepted q ≡ Some f

-- links that stay as they are
pub grows_none : (r : ℕ) (a : Links) → Grows r a a
grows_none r a = record {
  accepted = λ s d h. refl;
  handed = λ s d h. refl;
  more = λ s d. omega arith;
  kept =
      λ s d q f h. h;
}

-- of two different ranks the endpoints are not one
apart_ranks : (a b : Endpoint) → (a.rank == b.rank) ≡ false → a ≡ b → ⊥
apart_ranks a b h e = both_ways (a.rank == b.rank) h (eq-eqb a.rank b.rank (ap (λ (u : Endpoint). u.rank) e))

-- a frame that is accepted
pub accept_grows : (a : Links) (s d : Endpoint) (f : FrameText) → Grows s.rank a (accept a s (d, f))
accept_grows a s d f =
    let longer : Link = record { accepted = (a s d).accepted ++ f ∷ []; handed = (a s d).handed } in
    record {
      accepted =
          λ s' d' h. link_cases (λ l. l.accepted ≡ (a s' d').accepted) a s d longer s' d'
          (λ es ed. absurd (apart_ranks s' s h es)) (λ k. refl);
      handed = λ s' d' h. accepted_handed a s d f s' d';
      more = λ s' d'. omega (arith, accepted_handed a s d f s' d');
      kept = λ s' d' q g h. link_cases (λ l. slice_get l.accepted q ≡ Some g) a s d longer s' d'
          (λ es ed. place_stays (a s d).accepted (f ∷ []) q g
          (subst (λ (x : Endpoint). slice_get (a s x).accepted q ≡ Some g) ed
          (subst (λ (x : Endpoint). slice_get (a x d').accepted q ≡ Some g) es h))) (λ k. h);
    }

-- a frame that is handed up
pub handed_grows : (a : Links) (s d : Endpoint) → Grows d.rank a (handed_on a s d)
handed_grows a s d =
    let further : Link = record { accepted = (a s d).accepted; handed = suc (a s d).handed } in
    record {
      accepted = λ s' d' h. handed_accepted a s d s' d';
      handed = λ s' d' h. link_cases (λ l. l.handed ≡ (a s' d').handed) a s d further s' d'
          (λ es ed. absurd (apart_ranks d' d h ed)) (λ k. refl);
      more = λ s' d'. link_cases (λ l. (a s' d').handed ≤ l.handed) a s d further s' d'
          (λ es ed. subst (λ (x : Endpoint). (a x d').handed ≤ suc (a s d).handed) (sym es)
          (subst (λ (x : Endpoint). (a s x).handed ≤ suc (a s d).handed) (sym ed) (omega arith)))
          (λ k. omega arith);
      kept = λ s' d' q g h. subst (λ (fs : List FrameText). slice_get fs q ≡ Some g) (sym (handed_accepted a s d s' d'))
          h;
    }

-- what was told stays true
pub told_more : (n r : ℕ) (a b : Links) (current : ℕ → ℕ) → Grows r a b → (t : ℕ × List ℕ) → IsTold n a current t →
    IsTold n b current t
told_more n r a b current grows t told = record {
  source = told.source;
  target = told.target;
  to = told.to;
  source_is = told.source_is;
  target_is = told.target_is;
  apart = told.apart;
  source_begun = told.source_begun;
  target_begun = told.target_begun;
  tells = go told.tells;
}
  where
    go : Tells n told.source told.target a t.1 → Tells n told.source told.target b t.1
    go (TellsFrame number frame there is) =
        TellsFrame number frame (grows.kept told.source told.target number frame there) is
    go (TellsAck number held there even width is) =
        TellsAck number held (omega (arith, there, grows.more told.target told.source)) even width is
    go (TellsReset is) = TellsReset is

-- and once ranks are at later incarnations
pub told_later : (n : ℕ) (a : Links) (current later : ℕ → ℕ) → ((x : ℕ) → current x ≤ later x) →
    (t : ℕ × List ℕ) → IsTold n a current t → IsTold n a later t
told_later n a current later up t told = record {
  source = told.source;
  target = told.target;
  to = told.to;
  source_is = told.source_is;
  target_is = told.target_is;
  apart = told.apart;
  source_begun = omega (arith, told.source_begun, up told.source.rank);
  target_begun = omega (arith, told.target_begun, up told.target.rank);
  tells = told.tells;
}

-- each link is sound still once a frame that may be sent was accepted
pub accept_sound : (a : Links) (s d : Endpoint) (f : FrameText) → ((s' d' : Endpoint) → IsLink (a s' d')) →
    CanBeSent f → length (a s d).accepted + 1 < 2 ^ 64 → (s' d' : Endpoint) → IsLink (accept a s (d, f) s' d')
accept_sound a s d f sound is_sent numbered s' d' =
    let one : length ((a s d).accepted ++ f ∷ []) ≡ length (a s d).accepted + 1 = length-append (a s d).accepted (f ∷ []) in
    let h : IsLink (a s d) = sound s d in
    link_cases IsLink a s d (record { accepted = (a s d).accepted ++ f ∷ []; handed = (a s d).handed }) s' d'
    (λ es ed. record {
      reach = omega (arith, h.reach, one);
      sent =
          All_append CanBeSent (a s d).accepted (f ∷ []) h.sent (is_sent, tt);
      numbered = omega (arith, one, numbered);
    })
    (λ k. sound s' d')

-- and once one that was accepted was handed up
pub handed_sound : (a : Links) (s d : Endpoint) → ((s' d' : Endpoint) → IsLink (a s' d')) →
    (a s d).handed < length (a s d).accepted → (s' d' : Endpoint) → IsLink (handed_on a s d s' d')
handed_sound a s d sound within s' d' =
    let h : IsLink (a s d) = sound s d in
    link_cases IsLink a s d (record { accepted = (a s d).accepted; handed = suc (a s d).handed }) s' d'
    (λ es ed. record { reach = omega (arith, within); sent = h.sent; numbered = h.numbered })
    (λ k. sound s' d')

-- strangers send nothing still where a pair does
pub accept_strangers : (n : ℕ) (a : Links) (s d : Endpoint) (f : FrameText) →
    ((s' d' : Endpoint) → is_pair n s' d' ≡ false → (a s' d').accepted ≡ []) → is_pair n s d ≡ true
    → (s' d' : Endpoint) → is_pair n s' d' ≡ false → (accept a s (d, f) s' d').accepted ≡ []
accept_strangers n a s d f strangers pair s' d' no_pair =
    link_cases (λ l. l.accepted ≡ []) a s d (record { accepted = (a s d).accepted ++ f ∷ []; handed = (a s d).handed })
    s' d'
    (λ es ed. absurd
    (both_ways (is_pair n s d)
    (subst (λ (x : Endpoint). is_pair n s x ≡ false) ed
    (subst (λ (x : Endpoint). is_pair n x d' ≡ false) es no_pair)) pair))
    (λ k. strangers s' d' no_pair)

-- nor where one is handed up
pub handed_strangers : (n : ℕ) (a : Links) (s d : Endpoint) →
    ((s' d' : Endpoint) → is_pair n s' d' ≡ false → (a s' d').accepted ≡ [])
    → (s' d' : Endpoint) → is_pair n s' d' ≡ false → (handed_on a s d s' d').accepted ≡ []
handed_strangers n a s d strangers s' d' no_pair = handed_accepted a s d s' d' ∙ strangers s' d' no_pair

-- what is true of links by themselves, at these incarnations
pub record LinksFit (n : ℕ) (links : Links) (current : ℕ → ℕ) : Type 0 where
  pub sound : (s d : Endpoint) → IsLink (links s d)
  pub strangers : (s d : Endpoint) → is_pair n s d ≡ false → (links s d).accepted ≡ []
  pub none_accepted : (s d : Endpoint) → current s.rank < s.incarnation → (links s d).accepted ≡ []
  pub none_handed : (s d : Endpoint) → current d.rank < d.incarnation → (links s d).handed ≡ 0

-- a world's links do
pub links_fit : (n : ℕ) (sessions : List SessionsState) (datagrams : List (ℕ × List ℕ)) (links : Links) (current : ℕ →
    ℕ)
    → AreTrue n sessions datagrams links current → LinksFit n links current
links_fit n sessions datagrams links current true_now = record {
  sound = true_now.sound;
  strangers = true_now.strangers;
  none_accepted = true_now.none_accepted;
  none_handed = true_now.none_handed;
}

-- a frame that an endpoint which was there accepts
pub accept_fits : (n : ℕ) (a : Links) (current : ℕ → ℕ) (s d : Endpoint) (f : FrameText) → LinksFit n a current →
    CanBeSent f
    → length (a s d).accepted + 1 < 2 ^ 64 → is_pair n s d ≡ true → s.incarnation ≤ current s.rank →
    LinksFit n (accept a s (d, f)) current
accept_fits n a current s d f fit is_sent numbered pair begun = record {
  sound = accept_sound a s d f fit.sound is_sent numbered;
  strangers = accept_strangers n a s d f fit.strangers pair;
  none_accepted =
      λ s' d' above. link_cases (λ l. l.accepted ≡ []) a s d
      (record { accepted = (a s d).accepted ++ f ∷ []; handed = (a s d).handed }) s' d'
      (λ es ed. absurd
      (let k : current s.rank < s.incarnation = subst (λ (x : Endpoint). current x.rank < x.incarnation) es above in
      omega (arith, begun, k))) (λ k. fit.none_accepted s' d' above);
  none_handed = λ s' d' above. accepted_handed a s d f s' d' ∙ fit.none_handed s' d' above;
}

-- a frame that is handed up at an endpoint which was there
pub handed_fits : (n : ℕ) (a : Links) (current : ℕ → ℕ) (s d : Endpoint) → LinksFit n a current →
    (a s d).handed < length (a s d).accepted
    → d.incarnation ≤ current d.rank → LinksFit n (handed_on a s d) current
handed_fits n a current s d fit within begun = record {
  sound = handed_sound a s d fit.sound within;
  strangers = handed_strangers n a s d fit.strangers;
  none_accepted = λ s' d' above. handed_accepted a s d s' d' ∙ fit.none_accepted s' d' above;
  none_handed =
      λ s' d' above. link_cases (λ l. l.handed ≡ 0) a s d
      (record { accepted = (a s d).accepted; handed = suc (a s d).handed }) s' d'
      (λ es ed. absurd
      (let k : current d.rank < d.incarnation = subst (λ (x : Endpoint). current x.rank < x.incarnation) ed above in
      omega (arith, begun, k))) (λ k. fit.none_handed s' d' above);
}
