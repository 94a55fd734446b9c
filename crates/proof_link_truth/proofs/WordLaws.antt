-- What a rank does with the word of an endpoint, once it knows that endpoint's incarnation.
use Rattle.std.proofs.Common.{◌≡◌, ℕ, suc, ◌+◌, ◌<◌, ◌≤◌, Bool, false, List, [], ◌∷◌, ◌++◌, length, ◌==◌, slice_index}
use Rattle.std.proofs.Common.{refl, sym, ap, ◌∙◌, subst, inl, inr, arith}
use Rattle.std.specs.List.{AllByRecursion}
use Rattle.std.proofs.lemmas.Bool.{eqb-false}
use Rattle.std.proofs.lemmas.Option.{slice_get_within}
use Rattle.vocabulary.specs.declared.endpoint.Endpoint.{Endpoint}
use Rattle.datagram.specs.Spellings.{FrameText}
use Rattle.incarnation.specs.declared.place.Place.{Place}
use Rattle.reliable_link.specs.ReceiverState.{ReceiverState, advanced, after_frame, held_at, held_bits}
use Rattle.reliable_link.specs.SenderState.{SenderState, after_ack, entered_on_ack}
use Rattle.sessions.specs.declared.peers.Peer.{Peer}
use Rattle.sessions.specs.Events.{answer_in, linked, taught}
use Rattle.sessions.specs.HeardBytes.{Acknowledges, EarlyText, Follows, Hands, Holds, Nothing, Repeats, WordText}
use Rattle.sessions.specs.Peers.{frames_out, peer_at}
use Rattle.sessions.specs.SessionsState.{SessionsState}
use Rattle.sessions.specs.Spellings.{ack_bytes, ack_of}
use Rattle.proof_link_truth.specs.Events.{IsBehind, IsHeard, IsNext, LeavesTrue, links_heeded}
use Rattle.link_truth.specs.Links.{Link, Links, handed_on}
use Rattle.link_truth.specs.Sessions.{PeerTells, ReceiverTells, SenderTells, SessionsTell}
use Rattle.link_truth.specs.DatagramTruth.{IsTold, TellsAck}
use Rattle.link_truth.specs.Truth.{AreTrue}
use Rattle.link_truth.specs.Wire.{at, place_of, wire}
use Rattle.link_truth.specs.Witness.{AreHeldEmitted, IsAmong, IsEmitted, IsWitnessed}
use Rattle.proof_link_truth.proofs.Witnesses.{all_witnessed, witnessed_more, witnessed_next}
use Rattle.proof_link_truth.proofs.LinkChanges.{sessions_stay, sessions_with, world_leaves}
use Rattle.proof_link_truth.proofs.LinkGrowth.{
  Grows,
  grows_none,
  handed_accepted,
  handed_fits,
  handed_grows,
  link_cases,
}
use Rattle.proof_link_truth.proofs.LinkGrowth.{link_here, links_fit}
use Rattle.proof_link_truth.proofs.HeldFrames.{IsHeldEmitted, held_stays, held_with}
use Rattle.proof_link_truth.proofs.RestartLaws.{taught_held, taught_is, taught_tells}
use Rattle.proof_link_truth.proofs.Lists.{false_sym}
use Rattle.proof_link_truth.proofs.Receivers.{bits_even, bits_small, held_on, held_or, is_holding, receiver_advanced}
use Rattle.proof_link_truth.proofs.Receivers.{receiver_holds, receiver_more}
use Rattle.proof_link_truth.proofs.Senders.{AreBegun, ack_tells, frames_are_told, is_told}
use Rattle.proof_link_truth.proofs.InJob.{ack_is}

-- sessions that stay as they are, know what they knew, and emit what is told
pub stays : (n r : ℕ) (sessions : List SessionsState) (datagrams : List (ℕ × List ℕ)) (links : Links) (current : ℕ →
    ℕ) (e new : SessionsState)
    → AreTrue n sessions datagrams links current → SessionsTell n current r e links → AreHeldEmitted n datagrams r e →
    new.place ≡ e.place → new.known ≡ e.known → new.peers ≡ e.peers
    → AllByRecursion (IsTold n links current) new.out → LeavesTrue n sessions datagrams r new links current
stays n r sessions datagrams links current e new true_now tells held place_is known_is peers_are told =
    world_leaves n r sessions datagrams links links current new true_now (grows_none r links)
    (sessions_stay n r current links e new tells place_is known_is peers_are)
    (links_fit n sessions datagrams links current true_now) told
    (all_witnessed n r sessions datagrams new.out links links current true_now (grows_none r links) (λ s d. refl))
    (held_stays n r datagrams e new held peers_are)

-- the next frame of the link from s to d is this, and it was emitted
pub record IsNextEmitted (n : ℕ) (datagrams : List (ℕ × List ℕ)) (links : Links) (s d : Endpoint)
    (frame : FrameText) : Type 0 where
  pub next : IsNext links s d frame
  pub sent : IsAmong datagrams (d.rank, wire n s d (links s d).handed frame)

-- the frame is one behind the next one of the link from s to d, and it was emitted
pub record IsBehindEmitted (n : ℕ) (datagrams : List (ℕ × List ℕ)) (links : Links) (s d : Endpoint)
    (t : EarlyText) : Type 0 where
  pub behind : IsBehind n links s d t
  pub sent : IsAmong datagrams (d.rank, t.bytes)

-- what a word of s that a datagram may bear says to d of their links, and that its frame was emitted
abbrev pub Bears : (n : ℕ) → (datagrams : List (ℕ × List ℕ)) → Links → (s d : Endpoint) → WordText → Type 0
Bears n datagrams links s d (Acknowledges number held) = number ≤ (links d s).handed
Bears n datagrams links s d Repeats = Unit {0}
Bears n datagrams links s d (Hands frame) = IsNextEmitted n datagrams links s d frame
Bears n datagrams links s d (Holds t) = IsBehindEmitted n datagrams links s d t
Bears n datagrams links s d (Follows frame) = ⊥
Bears n datagrams links s d Nothing = Unit {0}

-- the sessions once they heeded and answered a word
abbrev pub heeds : SessionsState → Endpoint → WordText → SessionsState
heeds e s w = linked e s w (answer_in w e.place (peer_at e.peers s.rank) s)

-- the sessions of rank r, which have emitted nothing, know the endpoint that they hear
pub record Hears (n r : ℕ) (s : Endpoint) (sessions : List SessionsState) (datagrams : List (ℕ × List ℕ))
    (links : Links) (current : ℕ → ℕ)
    (e : SessionsState) : Type 0 where
  pub true_now : AreTrue n sessions datagrams links current
  pub tells : SessionsTell n current r e links
  pub held : AreHeldEmitted n datagrams r e
  pub out : e.out ≡ []
  pub known_is : slice_index e.known s.rank ≡ s.incarnation
  pub begun : AreBegun n s (at r (current r)) current

module _ (n r : ℕ) (s : Endpoint) (sessions : List SessionsState) (datagrams : List (ℕ × List ℕ)) (links : Links)
    (current : ℕ → ℕ)
    (e : SessionsState) (c : Hears n r s sessions datagrams links current e) where
  -- its own endpoint
  abbrev own : Endpoint
  own = at r (current r)

  -- what its session with the endpoint holds
  pub peer_of : PeerTells n current (at r (current r)) s.rank s.incarnation (peer_at e.peers s.rank) links
  peer_of =
      subst (λ (k : ℕ). PeerTells n current own s.rank k (peer_at e.peers s.rank) links) c.known_is
      (c.tells.peers s.rank c.begun.source c.begun.apart)

  -- what goes back to the endpoint
  back : AreBegun n (at r (current r)) s current
  back = record {
    source = c.begun.target;
    target = c.begun.source;
    apart = false_sym s.rank r c.begun.apart;
    source_begun = c.begun.target_begun;
    target_begun = c.begun.source_begun;
  }

  -- what the session with it holds was emitted
  held_of : IsHeldEmitted datagrams r (peer_at e.peers s.rank)
  held_of place bytes there = c.held s.rank place bytes c.begun.source c.begun.apart there

  -- an acknowledgement of what was handed up and is held is told
  ack_is_told : (after : Links) (t : ReceiverState) →
      ReceiverTells n s (at r (current r)) t (after s (at r (current r))) →
      IsTold n after current (s.rank, ack_of e.place s t)
  ack_is_told after t receiver =
      is_told n own s after current (ack_of e.place s t) back
      (TellsAck t.next (held_bits t) (omega (arith, receiver.next)) (bits_even t)
      (bits_small n s own t (after s own) receiver) (ack_is _ _ s t c.tells.place))

  -- ---- what changes no link

  -- the frames below an acknowledged number are forgotten, and those that come into the window go out
  acked : (k held : ℕ) → k ≤ (links (at r (current r)) s).handed →
      LeavesTrue n sessions datagrams r (heeds e s (Acknowledges k held)) links current
  acked k held le =
      world_leaves n r sessions datagrams links links current (heeds e s (Acknowledges k held)) c.true_now
      (grows_none r links)
      (sessions_with n r s.rank current links links e (heeds e s (Acknowledges k held)) next c.tells c.begun.source
      c.begun.apart here (λ y j o differs p. p) refl refl refl)
      (links_fit n sessions datagrams links current c.true_now) told
      (all_witnessed n r sessions datagrams (heeds e s (Acknowledges k held)).out links links current c.true_now
      (grows_none r links) (λ a b. refl))
      (held_with n r s.rank datagrams e (heeds e s (Acknowledges k held)) next c.held
      (omega (arith, c.begun.source, c.tells.each)) held_of refl)
    where
      sender : SenderState
      sender = (peer_at e.peers s.rank).sender

      next : Peer
      next = record { sender = after_ack sender k held; receiver = (peer_at e.peers s.rank).receiver }

      here : PeerTells n current own s.rank (slice_index e.known s.rank) next links
      here = subst (λ (i : ℕ). PeerTells n current own s.rank i next links) (sym c.known_is) (record {
        begun = peer_of.begun;
        sender = ack_tells n own s sender (links own s) k held peer_of.sender le;
        receiver = peer_of.receiver;
        no_accepted = peer_of.no_accepted;
        no_handed = peer_of.no_handed;
      })

      told : AllByRecursion (IsTold n links current) (e.out ++ frames_out s.rank sender (entered_on_ack sender k))
      told = subst
          (λ (out : List (ℕ × List ℕ)). AllByRecursion (IsTold n links current)
          (out ++ frames_out s.rank sender (entered_on_ack sender k))) (sym c.out)
          (frames_are_told n own s sender links current (entered_on_ack sender k) back peer_of.sender)

  -- a frame that came before is acknowledged once more
  again : LeavesTrue n sessions datagrams r (heeds e s Repeats) links current
  again = stays n r sessions datagrams links current e (heeds e s Repeats) c.true_now c.tells c.held refl refl refl
      (subst (λ (out : List (ℕ × List ℕ)). AllByRecursion (IsTold n links current) (out ++
      (s.rank, ack_of e.place s (peer_at e.peers s.rank).receiver) ∷ [])) (sym c.out)
      (ack_is_told links (peer_at e.peers s.rank).receiver peer_of.receiver, tt))

  -- a frame behind the next one is held, and acknowledged as that
  held_back : (t : EarlyText) → IsBehindEmitted n datagrams links s (at r (current r)) t →
      LeavesTrue n sessions datagrams r (heeds e s (Holds t)) links current
  held_back t is =
      world_leaves n r sessions datagrams links links current (heeds e s (Holds t)) c.true_now (grows_none r links)
      (sessions_with n r s.rank current links links e (heeds e s (Holds t)) next c.tells c.begun.source c.begun.apart
      here (λ y j o differs p. p) refl refl refl)
      (links_fit n sessions datagrams links current c.true_now) told
      (all_witnessed n r sessions datagrams (heeds e s (Holds t)).out links links current c.true_now
      (grows_none r links) (λ a b. refl))
      (held_with n r s.rank datagrams e (heeds e s (Holds t)) next c.held (omega (arith, c.begun.source, c.tells.each))
      emitted refl)
    where
      receiver : ReceiverState
      receiver = (peer_at e.peers s.rank).receiver

      above : receiver.next < t.number
      above = omega (arith, is.behind.above, peer_of.receiver.next)

      next : Peer
      next = record { sender = (peer_at e.peers s.rank).sender; receiver = after_frame receiver t.number t.bytes }

      tells : ReceiverTells n s own (after_frame receiver t.number t.bytes) (links s own)
      tells = receiver_holds n s own receiver (links s own) t.number t.bytes peer_of.receiver above
          (omega (arith, is.behind.near, peer_of.receiver.next)) is.behind.held

      here : PeerTells n current own s.rank (slice_index e.known s.rank) next links
      here = subst (λ (i : ℕ). PeerTells n current own s.rank i next links) (sym c.known_is) (record {
        begun = peer_of.begun;
        sender = peer_of.sender;
        receiver = tells;
        no_accepted = peer_of.no_accepted;
        no_handed = peer_of.no_handed;
      })

      told : AllByRecursion (IsTold n links current) (e.out ++
          (s.rank, ack_of e.place s (after_frame receiver t.number t.bytes)) ∷ [])
      told = subst
          (λ (out : List (ℕ × List ℕ)). AllByRecursion (IsTold n links current) (out ++
          (s.rank, ack_of e.place s (after_frame receiver t.number t.bytes)) ∷ [])) (sym c.out)
          (ack_is_told links (after_frame receiver t.number t.bytes) tells, tt)

      emitted : IsHeldEmitted datagrams r next
      emitted place bytes there =
          elim (held_or receiver t.number t.bytes place bytes
          (ap (λ (x : ReceiverState). held_at x.held place) (sym (is_holding receiver t.number t.bytes above)) ∙ there)) [
            | inl it ↦ subst (λ (b : List ℕ). IsAmong datagrams (r, b)) it.1 is.sent
            | inr before ↦ held_of place bytes before
          ]

  -- a reset says nothing more
  nothing : LeavesTrue n sessions datagrams r (heeds e s Nothing) links current
  nothing = stays n r sessions datagrams links current e (heeds e s Nothing) c.true_now c.tells c.held refl refl refl
      (subst (λ (out : List (ℕ × List ℕ)). AllByRecursion (IsTold n links current) (out ++ [])) (sym c.out) tt)

-- ---- the next frame

-- it is handed up on its link, and acknowledged
pub taken : (n r : ℕ) (s : Endpoint) (sessions : List SessionsState) (datagrams : List (ℕ × List ℕ)) (links : Links)
    (current : ℕ → ℕ)
    (e : SessionsState) (frame : FrameText) → Hears n r s sessions datagrams links current e →
    IsNextEmitted n datagrams links s (at r (current r)) frame
    → LeavesTrue n sessions datagrams r (heeds e s (Hands frame)) (handed_on links s (at r (current r))) current
taken n r s sessions datagrams links current e frame c n_e =
    world_leaves n r sessions datagrams links after current new c.true_now (handed_grows links s own)
    (sessions_with n r s.rank current links after e new next c.tells c.begun.source c.begun.apart here beside refl refl
    refl)
    (handed_fits n links current s own (links_fit n sessions datagrams links current c.true_now) within
    c.begun.target_begun) told witnessed
    (held_with n r s.rank datagrams e new next c.held (omega (arith, c.begun.source, c.tells.each))
    (λ place bytes there. held_of n r s sessions datagrams links current e c (1 + place) bytes
    (held_on receiver place bytes there)) refl)
  where
    new : SessionsState
    new = heeds e s (Hands frame)

    own : Endpoint
    own = at r (current r)

    link : Link
    link = links s own

    further : Link
    further = record link { handed = suc link.handed }

    after : Links
    after = handed_on links s own

    within : link.handed < length link.accepted
    within = slice_get_within link.accepted link.handed frame n_e.next.next

    emitted : IsEmitted n datagrams s own link link.handed
    emitted = record { frame = frame; accepted = n_e.next.next; sent = n_e.sent }

    receiver : ReceiverState
    receiver = (peer_at e.peers s.rank).receiver

    next : Peer
    next = record { sender = (peer_at e.peers s.rank).sender; receiver = advanced receiver }

    peer : PeerTells n current own s.rank s.incarnation (peer_at e.peers s.rank) links
    peer = peer_of n r s sessions datagrams links current e c

    is_further : after s own ≡ further
    is_further = link_here links s own further

    tells : ReceiverTells n s own (advanced receiver) (after s own)
    tells = subst (ReceiverTells n s own (advanced receiver)) (sym is_further)
        (receiver_advanced n s own receiver link peer.receiver)

    grows : Grows own.rank links after
    grows = handed_grows links s own

    -- what the rank sends is as it was
    as_before : (d : Endpoint) (t : SenderState) → SenderTells n own d t (links own d) →
        SenderTells n own d t (after own d)
    as_before d t tells = link_cases (λ l. SenderTells n own d t l) links s own further own d
        (λ es ed. absurd (eqb-false s.rank r c.begun.apart (ap (λ (x : Endpoint). x.rank) (sym es)))) (λ k. tells)

    -- what came from another endpoint is as it was
    other_handed : (x : Endpoint) → (x ≡ s → ⊥) → (after x own).handed ≡ (links x own).handed
    other_handed x differs = link_cases (λ l. l.handed ≡ (links x own).handed) links s own further x own
        (λ es ed. absurd (differs es)) (λ k. refl)

    -- of another incarnation
    not_later : (i : ℕ) → s.incarnation < i → at s.rank i ≡ s → ⊥
    not_later i above same =
        let q : i ≡ s.incarnation = ap (λ (x : Endpoint). x.incarnation) same in omega (arith, q, above)

    -- of another rank
    not_there : (y j : ℕ) → (y == s.rank) ≡ false → at y j ≡ s → ⊥
    not_there y j differs same = eqb-false y s.rank differs (ap (λ (x : Endpoint). x.rank) same)

    here : PeerTells n current own s.rank (slice_index e.known s.rank) next after
    here = subst (λ (i : ℕ). PeerTells n current own s.rank i next after) (sym c.known_is) (record {
      begun = peer.begun;
      sender = as_before s next.sender peer.sender;
      receiver = tells;
      no_accepted = λ i above. handed_accepted links s own own (at s.rank i) ∙ peer.no_accepted i above;
      no_handed = λ i above. other_handed (at s.rank i) (not_later i above) ∙ peer.no_handed i above;
    })

    beside : (y j : ℕ) (o : Peer) → (y == s.rank) ≡ false → PeerTells n current own y j o links →
        PeerTells n current own y j o after
    beside y j o differs p = record {
      begun = p.begun;
      sender = as_before (at y j) o.sender p.sender;
      receiver =
          receiver_more n (at y j) own o.receiver (links (at y j) own) (after (at y j) own)
          (other_handed (at y j) (not_there y j differs)) (grows.kept (at y j) own) p.receiver;
      no_accepted = λ i above. handed_accepted links s own own (at y i) ∙ p.no_accepted i above;
      no_handed = λ i above. other_handed (at y i) (not_there y i differs) ∙ p.no_handed i above;
    }

    told : AllByRecursion (IsTold n after current) (e.out ++ (s.rank, ack_of e.place s (advanced receiver)) ∷ [])
    told = subst
        (λ (out : List (ℕ × List ℕ)). AllByRecursion (IsTold n after current) (out ++
        (s.rank, ack_of e.place s (advanced receiver)) ∷ [])) (sym c.out)
        (ack_is_told n r s sessions datagrams links current e c after (advanced receiver) tells, tt)

    -- what it emits: the acknowledgement of one frame more
    gave : new.out ≡ (s.rank, ack_bytes (place_of n own) s (suc link.handed) (held_bits (advanced receiver))) ∷ []
    gave =
        let one : receiver.next + 1 ≡ suc link.handed = omega (arith, peer.receiver.next) in
        ap (λ (out : List (ℕ × List ℕ)). out ++ (s.rank, ack_of e.place s (advanced receiver)) ∷ []) c.out
        ∙ ap (λ (sent : List ℕ). (s.rank, sent) ∷ []) (ack_is _ _ s (advanced receiver) c.tells.place)
        ∙ ap (λ (k : ℕ). (s.rank, ack_bytes (place_of n own) s k (held_bits (advanced receiver))) ∷ []) one

    witnessed : (a b : Endpoint) → IsWitnessed n (datagrams ++ new.out) a b (after a b)
    witnessed a b = link_cases (λ l. IsWitnessed n (datagrams ++ new.out) a b l) links s own further a b
        (λ es ed. subst (λ (x : Endpoint). IsWitnessed n (datagrams ++ new.out) x b further) (sym es)
        (subst (λ (y : Endpoint). IsWitnessed n (datagrams ++ new.out) s y further) (sym ed)
        (witnessed_next n datagrams new.out s own link (held_bits (advanced receiver)) (c.true_now.witnessed s own)
        emitted (bits_even (advanced receiver))
        (bits_small n s own (advanced receiver) (after s own) tells) gave)))
        (λ k. witnessed_more n datagrams new.out a b (links a b) (links a b) refl (λ q f h. h)
        (c.true_now.witnessed a b))

-- ---- any word

-- a word that is true leaves the links true, once it is heeded
pub heeded : (n r : ℕ) (s : Endpoint) (sessions : List SessionsState) (datagrams : List (ℕ × List ℕ)) (links : Links)
    (current : ℕ → ℕ)
    (e : SessionsState) (w : WordText) → Hears n r s sessions datagrams links current e →
    Bears n datagrams links s (at r (current r)) w
    → LeavesTrue n sessions datagrams r (heeds e s w) (links_heeded links s (at r (current r)) w) current
heeded n r s sessions datagrams links current e (Acknowledges k held) c bears =
    acked n r s sessions datagrams links current e c k held bears
heeded n r s sessions datagrams links current e Repeats c bears = again n r s sessions datagrams links current e c
heeded n r s sessions datagrams links current e (Hands frame) c bears =
    taken n r s sessions datagrams links current e frame c bears
heeded n r s sessions datagrams links current e (Holds t) c bears =
    held_back n r s sessions datagrams links current e c t bears
heeded n r s sessions datagrams links current e (Follows frame) c bears = absurd bears
heeded n r s sessions datagrams links current e Nothing c bears = nothing n r s sessions datagrams links current e c

-- sessions that heard a word know its endpoint
pub hears : (n r : ℕ) (s : Endpoint) (lesson : Bool) (sessions : List SessionsState) (datagrams : List (ℕ × List ℕ))
    (links : Links) (current : ℕ → ℕ)
    (old : SessionsState) → AreTrue n sessions datagrams links current → SessionsTell n current r old links →
    AreHeldEmitted n datagrams r old → old.out ≡ []
    → AreBegun n s (at r (current r)) current → IsHeard n r current old.known s lesson →
    Hears n r s sessions datagrams links current (taught lesson old s)
hears n r s lesson sessions datagrams links current old true_now tells held out begun heard = record {
  true_now = true_now;
  tells = taught_tells n r current links old s lesson tells heard;
  held = taught_held n r datagrams old s lesson held (omega (arith, heard.there, tells.each));
  out = out;
  known_is = taught_is old.known s lesson (omega (arith, heard.there, tells.width)) heard.incarnation;
  begun = begun;
}
