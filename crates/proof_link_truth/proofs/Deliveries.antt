-- Deliveries that hand up several frames: each leaves the links true, from its first frame to the last.
use Rattle.std.proofs.Common.{◌≡◌, ℕ, suc, ◌+◌, ◌-◌, ◌<◌, Bool, true, false, List, [], ◌∷◌, ◌++◌, length, Option, Some}
use Rattle.std.proofs.Common.{None, Ok, append-nil, cond, slice_get, slice_index, slice_set, refl, sym, ap, ◌∙◌, subst}
use Rattle.std.proofs.Common.{arith}
use Rattle.std.specs.Option.{option_map}
use Rattle.std.proofs.lemmas.List.{length-set, set-append_right, set-set}
use Rattle.std.proofs.lemmas.Option.{same_Some, slice_get_within}
use Rattle.vocabulary.specs.declared.endpoint.Endpoint.{Endpoint}
use Rattle.perfect_queues.proofs.ListLemmas.{get_last, get_set}
use Rattle.datagram.specs.ByteMeanings.{datagram_of}
use Rattle.datagram.specs.Spellings.{DatagramText, FrameText, OutgoingText}
use Rattle.incarnation.specs.declared.place.Place.{Place}
use Rattle.reliable_link.specs.ReceiverState.{ReceiverState, advanced, discarded, held_bits}
use Rattle.sessions.specs.declared.peers.Peer.{Peer}
use Rattle.sessions.specs.declared.refusal.SessionRefusal.TheVariants as refusals
use Rattle.sessions.specs.Events.{after_event, after_heard, after_send, after_sends, answer_in, heeded_by}
use Rattle.sessions.specs.Events.{is_worn_out, next_bytes, out_on_accept, sends_limit, taught_peers}
use Rattle.sessions.specs.HeldFrames.{acknowledged_at, ready_from, turn_of, turn_of_body, turn_read, without_ready}
use Rattle.sessions.specs.HeardBytes.{Follows, Hands, HeardText, WordText, session_met}
use Rattle.sessions.specs.Peers.{peer_at}
use Rattle.sessions.specs.SessionsState.{SessionsState}
use Rattle.sessions.specs.Spellings.{ack_bytes, ack_of}
use Rattle.proof_link_truth.specs.Deliveries.{DeliveriesBegin, DiscardsAreTrue, IsMidway, TurnIsTrue, TurnsAreTrue}
use Rattle.proof_link_truth.specs.Deliveries.{TurnsTellTheTruth, turn_from}
use Rattle.proof_link_truth.specs.Events.{HearsTruth, LeavesTrue, MaySendAll, IsAt, all_addressed, emptied, links_heard}
use Rattle.link_truth.specs.Links.{Link, Links, accept_all, handed_on}
use Rattle.link_truth.specs.Sessions.{IsHeldOf, IsLink, PeerTells, SessionsTell}
use Rattle.link_truth.specs.Truth.{AreTrue}
use Rattle.link_truth.specs.Wire.{CanBeSent, at, place_of, text_of, wire}
use Rattle.link_truth.specs.Witness.{AreHeldEmitted, IsAmong}
use Rattle.proof_link_truth.proofs.LinkChanges.{peer_set, sessions_with, world_leaves}
use Rattle.proof_link_truth.proofs.Datagrams.{hearing_is_true}
use Rattle.proof_link_truth.proofs.Acknowledgements.{IsReadAck, exchanged}
use Rattle.proof_link_truth.proofs.LinkGrowth.{grows_none, link_here, links_fit}
use Rattle.proof_link_truth.proofs.WordLaws.{Hears, IsNextEmitted, taken}
use Rattle.proof_link_truth.proofs.HeldFrames.{held_with}
use Rattle.proof_link_truth.proofs.RestartLaws.{taught_is, taught_peer}
use Rattle.proof_link_truth.proofs.Lists.{All_get}
use Rattle.proof_link_truth.proofs.ByteLaws.{HaveWidths, frame_is_read}
use Rattle.proof_link_truth.proofs.Receivers.{bits_apart, bits_even, bits_small, held_apart, receiver_discarded}
use Rattle.proof_link_truth.proofs.Sendings.{events_are_true, sends_leave}
use Rattle.proof_link_truth.proofs.SentFrames.{acknowledged_beside, emitting, sends_keep_known, sends_keep_out}
use Rattle.proof_link_truth.proofs.SentFrames.{sends_keep_place, sends_keep_receiver}
use Rattle.proof_link_truth.proofs.Witnesses.{all_witnessed}
use Rattle.proof_link_truth.proofs.InJob.{ack_is}

-- ---- the acknowledgement of a delivery

-- what stands at a place of what was emitted acknowledges what the session with its endpoint reached
abbrev IsAcknowledgedAt : (place : ℕ) → Endpoint → SessionsState → Type 0
IsAcknowledgedAt place s e = slice_get e.out place ≡ Some (s.rank, ack_of e.place s (peer_at e.peers s.rank).receiver)

-- frames that are sent change neither
acknowledged_sent : (e : SessionsState) (fs : List OutgoingText) (place : ℕ) (s : Endpoint) →
    IsAcknowledgedAt place s e →
    IsAcknowledgedAt place s (after_sends e fs)
acknowledged_sent e fs place s there =
    sends_keep_out e fs place (s.rank, ack_of e.place s (peer_at e.peers s.rank).receiver) there
    ∙ ap (λ (p : Place). Some (s.rank, ack_of p s (peer_at e.peers s.rank).receiver)) (sym (sends_keep_place e fs))
    ∙ ap (λ (t : ReceiverState). Some (s.rank, ack_of (after_sends e fs).place s t))
    (sym (sends_keep_receiver e fs s.rank))

-- where a frame is handed up, it is the first that goes out
acknowledged_first : (out : List (ℕ × List ℕ)) (place : Place) (s : Endpoint) (p : Peer) (peers : List Peer)
    (w : WordText) (frame : FrameText)
    → peer_at peers s.rank ≡ p → s.rank < length peers → w ≡ Hands frame
    → slice_get (out ++ answer_in w place p s) (length out) ≡
    Some (s.rank, ack_of place s (peer_at (heeded_by w peers s.rank) s.rank).receiver)
acknowledged_first out place s p peers w frame met within is =
    subst (λ (x : WordText). slice_get (out ++ answer_in x place p s) (length out) ≡
    Some (s.rank, ack_of place s (peer_at (heeded_by x peers s.rank) s.rank).receiver)) (sym is)
    (get_last out (s.rank, ack_of place s (advanced p.receiver))
    ∙ ap (λ (o : Peer). Some (s.rank, ack_of place s (advanced o.receiver))) (sym met)
    ∙ ap (λ (o : Peer). Some (s.rank, ack_of place s o.receiver))
    (sym (peer_set peers s.rank
    (record { sender = (peer_at peers s.rank).sender; receiver = advanced (peer_at peers s.rank).receiver })
    within)))

-- the sessions with all ranks are as many after a lesson
taught_length : (lesson : Bool) (peers : List Peer) (rank : ℕ) → length (taught_peers lesson peers rank) ≡ length peers
taught_length true peers rank = length-set peers rank _
taught_length false peers rank = refl

-- the law of the first frame
pub deliveries_begin : DeliveriesBegin
deliveries_begin n r sessions datagrams links current old h frame sendings true_now stands from is may limit = record {
  leaves = events_are_true n r sessions datagrams links current old (Some h) sendings true_now stands from may limit;
  own = omega (arith, slice_get_within sessions r old stands.there, true_now.count);
  there = truth.heard.there;
  apart = truth.heard.apart;
  known = ap (λ (ks : List ℕ). slice_index ks s.rank) (sends_keep_known e sendings)
      ∙ taught_is old.known s h.lesson (omega (arith, truth.heard.there, tells.width)) truth.heard.incarnation;
  acknowledged = acknowledged_sent e sendings (length old.out) s
      (acknowledged_first old.out old.place s (session_met h.lesson (peer_at old.peers s.rank))
      (taught_peers h.lesson old.peers s.rank) h.word frame
      (taught_peer old.peers s.rank h.lesson (omega (arith, truth.heard.there, tells.each)))
      (omega (arith, truth.heard.there, tells.each, taught_length h.lesson old.peers s.rank)) is);
}
  where
    s : Endpoint
    s = h.source

    e : SessionsState
    e = after_heard old (Some h)

    truth : HearsTruth n r current old links h
    truth = hearing_is_true n r sessions datagrams links current old h true_now stands from

    tells : SessionsTell n current r old links
    tells = true_now.tells r old stands.there

-- ---- in the middle of a delivery

-- what stands behind a list
get_behind : {A : Type 0} (xs ys : List A) (k : ℕ) → slice_get (xs ++ ys) (length xs + k) ≡ slice_get ys k
get_behind [] ys k = ap (slice_get ys) (let e : 0 + k ≡ k = omega arith in e)
get_behind (x ∷ xs) ys k =
    ap (slice_get (x ∷ (xs ++ ys))) (let e : suc (length xs) + k ≡ suc (length xs + k) = omega arith in e) ∙
    get_behind xs ys k

-- what a word says of the bytes that it is read from
turn_is : (source : Endpoint) (bytes : List ℕ) (d : DatagramText) → datagram_of bytes ≡ Ok d →
    turn_of source bytes ≡ turn_of_body source d.body
unfolding turn_of
turn_is source bytes d is = ap (turn_read source) is

-- no limit is met by what was emitted
limit_beside : (s : SessionsState) (out : List (ℕ × List ℕ)) (fs : List OutgoingText) →
    sends_limit (emitting s out) fs ≡
    sends_limit s fs
limit_beside s out [] = refl
limit_beside s out (f ∷ fs) =
    let more : List (ℕ × List ℕ) = out_on_accept (peer_at s.peers f.target).sender f.target (next_bytes s f) in
    ap (λ o. cond (is_worn_out (peer_at s.peers f.target).sender) (Some refusals.Limit) o)
    (limit_beside (after_send s f) (out ++ more) fs)

-- what is heard when the turn of a frame comes
abbrev turn : Endpoint → FrameText → HeardText
turn source frame = record { source = source; lesson = false; word = Follows frame }

module _ (n r place : ℕ) (sessions : List SessionsState) (datagrams : List (ℕ × List ℕ)) (links : Links) (current : ℕ →
    ℕ) (source : Endpoint) (mid : SessionsState)
    (c : IsMidway n sessions datagrams r place source mid links current) where
  -- the endpoint of the rank
  abbrev own : Endpoint
  own = at r (current r)

  -- the world, with all that was emitted so far
  abbrev here : List SessionsState
  here = slice_set sessions r (emptied mid)

  abbrev sent : List (ℕ × List ℕ)
  sent = datagrams ++ mid.out

  abbrev receiver : ReceiverState
  receiver = (peer_at mid.peers source.rank).receiver

  within : r < length sessions
  within = omega (arith, c.own, c.leaves.count, length-set sessions r (emptied mid))

  stands : IsAt (slice_set sessions r (emptied mid)) r (emptied mid)
  stands = record { there = get_set sessions r (emptied mid) within; out = refl }

  tells : SessionsTell n current r (emptied mid) links
  tells = c.leaves.tells r (emptied mid) stands.there

  known_peer : PeerTells n current (at r (current r)) source.rank source.incarnation (peer_at mid.peers source.rank)
      links
  known_peer = subst (λ (k : ℕ). PeerTells n current own source.rank k (peer_at mid.peers source.rank) links) c.known
      (tells.peers source.rank c.there c.apart)

  hears : Hears n r source (slice_set sessions r (emptied mid)) (datagrams ++ mid.out) links current (emptied mid)
  hears = record {
    true_now = c.leaves;
    tells = tells;
    held = c.leaves.held r (emptied mid) stands.there;
    out = refl;
    known_is = c.known;
    begun = record {
      source = c.there;
      target = c.own;
      apart = c.apart;
      source_begun = known_peer.begun;
      target_begun =
          omega arith;
    };
  }

  widths : HaveWidths n source (at r (current r))
  widths = record {
    few = c.leaves.few;
    source_is = c.there;
    target_is = c.own;
    source_last = omega (arith, known_peer.begun, c.leaves.last source.rank);
    target_last = c.leaves.last r;
  }

  back : HaveWidths n (at r (current r)) source
  back = record {
    few = widths.few;
    source_is = widths.target_is;
    target_is = widths.source_is;
    source_last =
        widths.target_last;
    target_last = widths.source_last;
  }

  -- ---- a turn

  -- the next frame is held, and this is what it says
  record IsNextHeld (h : HeardText) : Type 0 where
    frame : FrameText
    says : h ≡ turn source frame
    next : IsNextEmitted n (datagrams ++ mid.out) links source (at r (current r)) frame

  is_next_held : (h : HeardText) → turn_from mid source ≡ Some (Some h) → IsNextHeld h
  is_next_held h said = go (ready_from mid source.rank) refl said
    where
      go : (o : Option (List ℕ)) → ready_from mid source.rank ≡ o → option_map (turn_of source) o ≡ Some (Some h) →
          IsNextHeld h
      go None ready is = absurd cc
      go (Some bytes) ready is = record {
        frame = f;
        says = sym
            (same_Some (turn source f) h (sym (turn_is source bytes (text_of n source own q f) read) ∙
            same_Some (turn_of source bytes) (Some h) is));
        next = record {
          next = record {
            next = subst (λ (k : ℕ). slice_get (links source own).accepted k ≡ Some f) first k.accepted;
            carried = carried;
          };
          sent = subst (λ (j : ℕ). IsAmong sent (r, wire n source own j f)) first
              (subst (λ (b : List ℕ). IsAmong sent (r, b)) k.spelled
              (c.leaves.held r (emptied mid) stands.there source.rank 0 bytes c.there c.apart ready));
        };
      }
        where
          q : ℕ
          q = receiver.next + 0

          k : IsHeldOf n source own q (links source own) bytes
          k = known_peer.receiver.held 0 bytes ready

          f : FrameText
          f = k.frame

          link : IsLink (links source own)
          link = c.leaves.sound source own

          first : q ≡ (links source own).handed
          first = omega (arith, known_peer.receiver.next)

          below : q < length (links source own).accepted
          below = slice_get_within (links source own).accepted q f k.accepted

          carried : CanBeSent f
          carried = All_get CanBeSent (links source own).accepted q f link.sent k.accepted

          read : datagram_of bytes ≡ Ok (text_of n source own q f)
          read = ap datagram_of k.spelled ∙
              frame_is_read n source own q f carried widths (omega (arith, below, link.numbered))

  -- and that is true
  heard_in_turn : (h : HeardText) → turn_from mid source ≡ Some (Some h) → TurnIsTrue n r current mid links source h
  heard_in_turn h said =
      let k : IsNextHeld h = is_next_held h said in
      record {
        frame = k.frame;
        says = k.says;
        hears = subst (HearsTruth n r current mid links) (sym k.says) (record {
          heard = record { there = c.there; apart = c.apart; begun = known_peer.begun; incarnation = c.known };
          word = k.next.next;
        });
      }

  module _ (frame : FrameText)
      (next : IsNextEmitted n (datagrams ++ mid.out) links source (at r (current r)) frame) where
    -- the links once it is handed up
    abbrev after : Links
    after = handed_on links source (at r (current r))

    -- the acknowledgement that says so
    abbrev told_further : ℕ × List ℕ
    told_further = (source.rank, ack_of mid.place source (advanced receiver))

    -- the sessions, with that acknowledgement in the place of the other
    abbrev further : SessionsState
    further = acknowledged_at place source (after_heard mid (Some (turn source frame)))

    -- what is emitted then
    further_out : further.out ≡ slice_set mid.out place told_further
    further_out =
        ap (λ (out : List (ℕ × List ℕ)). slice_set out place
        (source.rank, ack_of mid.place source (peer_at further.peers source.rank).receiver)) (append-nil mid.out)
        ∙ ap (λ (o : Peer). slice_set mid.out place (source.rank, ack_of mid.place source o.receiver))
        (peer_set mid.peers source.rank
        (record { sender = (peer_at mid.peers source.rank).sender; receiver = advanced receiver })
        (omega (arith, c.there, tells.each)))

    -- the acknowledgement that stood there
    stood : slice_get (datagrams ++ mid.out) (length datagrams + place) ≡
        Some (source.rank, ack_bytes (place_of n (at r (current r))) source receiver.next (held_bits receiver))
    stood = get_behind datagrams mid.out place ∙ c.acknowledged ∙
        ap (λ (sent : List ℕ). Some (source.rank, sent)) (ack_is _ _ source receiver tells.place)

    read : IsReadAck n (at r (current r)) source receiver.next (held_bits receiver)
    read = record {
      widths = back;
      numbered =
          let link : IsLink (links source own) = c.leaves.sound source own in omega (
            arith,
            known_peer.receiver.next,
            link.reach,
            link.numbered,
          );
      even = bits_even receiver;
      width = bits_small n source own receiver (links source own) known_peer.receiver;
    }

    more : receiver.next < (handed_on links source (at r (current r)) source (at r (current r))).handed
    more =
        let link : Link = links source own in
        let is : (handed_on links source own source own).handed ≡ suc link.handed =
        ap (λ (l : Link). l.handed) (link_here links source own (record link { handed = suc link.handed })) in
        omega (arith, is, known_peer.receiver.next)

    -- it is handed up, and the acknowledgement gives way
    taken_in : AreTrue n (slice_set (slice_set sessions r (emptied mid)) r (emptied further))
        (slice_set (datagrams ++ mid.out) (length datagrams + place) told_further) after current
    taken_in =
        exchanged n (slice_set here r (emptied further)) sent after current (length datagrams + place) own source
        receiver.next (held_bits receiver) told_further read stood more
        (taken n r source here sent links current (emptied mid) frame hears next)

    -- so the sessions leave the links true
    further_leaves : LeavesTrue n sessions datagrams r further after current
    further_leaves =
        subst (λ (ss : List SessionsState). AreTrue n ss (datagrams ++ further.out) after current)
        (set-set sessions r (emptied mid) (emptied further))
        (subst (λ (ds : List (ℕ × List ℕ)). AreTrue n (slice_set here r (emptied further)) ds after current)
        (moved ∙ ap (λ (out : List (ℕ × List ℕ)). datagrams ++ out) (sym further_out)) taken_in)
      where
        behind : length datagrams + place - length datagrams ≡ place
        behind = omega arith

        moved : slice_set sent (length datagrams + place) told_further ≡ datagrams ++
            slice_set mid.out place told_further
        moved = set-append_right datagrams mid.out (length datagrams) (length datagrams + place) told_further refl
            (omega arith)
            ∙ ap (λ (k : ℕ). datagrams ++ slice_set mid.out k told_further) behind

    -- with what is sent for it
    turned_to : (sendings : List OutgoingText) → MaySendAll n r sendings →
        sends_limit (after_heard mid (Some (turn source frame))) sendings ≡ None
        → IsMidway n sessions datagrams r place source
        (acknowledged_at place source (after_event mid (Some (turn source frame)) sendings))
        (accept_all after (at r (current r)) (all_addressed mid.known sendings)) current
    turned_to sendings may limit = record {
      leaves = subst
          (λ (e : SessionsState). LeavesTrue n sessions datagrams r e
          (accept_all after own (all_addressed mid.known sendings)) current)
          (acknowledged_beside heard sendings place source long)
          (sends_leave n r sessions datagrams after current further sendings further_leaves within may
          (limit_beside heard further.out sendings ∙ limit));
      own = c.own;
      there = c.there;
      apart = c.apart;
      known = ap (λ (ks : List ℕ). slice_index ks source.rank) (sends_keep_known heard sendings) ∙ c.known;
      acknowledged =
          get_set (after_sends heard sendings).out place (
            source.rank,
            ack_of (after_sends heard sendings).place source
                (peer_at (after_sends heard sendings).peers source.rank).receiver,
          )
          (slice_get_within (after_sends heard sendings).out place was
          (sends_keep_out heard sendings place was before));
    }
      where
        heard : SessionsState
        heard = after_heard mid (Some (turn source frame))

        was : ℕ × List ℕ
        was = (source.rank, ack_of mid.place source receiver)

        before : slice_get (mid.out ++ []) place ≡ Some was
        before = ap (λ (out : List (ℕ × List ℕ)). slice_get out place) (append-nil mid.out) ∙ c.acknowledged

        long : place < length (mid.out ++ [])
        long = slice_get_within (mid.out ++ []) place was before

  -- whatever it says
  turn_leaves : (h : HeardText) (sendings : List OutgoingText) → turn_from mid source ≡ Some (Some h) →
      MaySendAll n r sendings → sends_limit (after_heard mid (Some h)) sendings ≡ None
      → IsMidway n sessions datagrams r place source (acknowledged_at place source (after_event mid (Some h) sendings))
      (accept_all (links_heard links (at r (current r)) (Some h)) (at r (current r))
      (all_addressed (after_heard mid (Some h)).known sendings)) current
  turn_leaves h sendings said may limit =
      let k : IsNextHeld h = is_next_held h said in
      subst (λ (x : HeardText). IsMidway n sessions datagrams r place source
      (acknowledged_at place source (after_event mid (Some x) sendings))
      (accept_all (links_heard links own (Some x)) own (all_addressed (after_heard mid (Some x)).known sendings))
      current) (sym k.says)
      (turned_to k.frame k.next sendings may
      (subst (λ (x : HeardText). sends_limit (after_heard mid (Some x)) sendings ≡ None) k.says limit))

  -- ---- a frame that is taken out in its turn

  -- its session
  abbrev lighter : Peer
  lighter =
      record {
        sender = (peer_at mid.peers source.rank).sender;
        receiver =
            discarded (peer_at mid.peers source.rank).receiver;
      }

  -- what the rank holds of the link
  lighter_tells : PeerTells n current (at r (current r)) source.rank (slice_index mid.known source.rank) lighter links
  lighter_tells =
      let p : PeerTells n current own source.rank (slice_index mid.known source.rank) (peer_at mid.peers source.rank) links = tells.peers source.rank c.there c.apart in
      record {
        begun = p.begun;
        sender = p.sender;
        receiver =
            receiver_discarded n (at source.rank (slice_index mid.known source.rank)) own receiver
            (links (at source.rank (slice_index mid.known source.rank)) own) p.receiver;
        no_accepted = p.no_accepted;
        no_handed = p.no_handed;
      }

  without_leaves : LeavesTrue n sessions datagrams r (without_ready mid source.rank) links current
  without_leaves =
      subst (λ (ss : List SessionsState). AreTrue n ss sent links current)
      (set-set sessions r (emptied mid) (emptied new))
      (subst (λ (ds : List (ℕ × List ℕ)). AreTrue n (slice_set here r (emptied new)) ds links current) (append-nil sent)
      (world_leaves n r here sent links links current new c.leaves (grows_none r links)
      (sessions_with n r source.rank current links links (emptied mid) new lighter tells c.there c.apart lighter_tells
      (λ y j o differs p. p) refl refl refl)
      (links_fit n here sent links current c.leaves) tt
      (all_witnessed n r here sent [] links links current c.leaves (grows_none r links) (λ a b. refl))
      (held_with n r source.rank sent (emptied mid) new lighter held (omega (arith, c.there, tells.each))
      (λ spot bytes there. held source.rank spot bytes c.there c.apart (held_apart receiver spot bytes there)) refl)))
    where
      new : SessionsState
      new = without_ready (emptied mid) source.rank

      held : AreHeldEmitted n sent r (emptied mid)
      held = c.leaves.held r (emptied mid) stands.there

  -- the acknowledgement says the same
  taken_out : IsMidway n sessions datagrams r place source (without_ready mid source.rank) links current
  taken_out = record {
    leaves = without_leaves;
    own = c.own;
    there = c.there;
    apart = c.apart;
    known = c.known;
    acknowledged = c.acknowledged
        ∙ ap (λ (bits : ℕ). Some (source.rank, ack_bytes mid.place source receiver.next bits))
        (sym (bits_apart receiver))
        ∙ ap (λ (o : Peer). Some (source.rank, ack_of mid.place source o.receiver))
        (sym (peer_set mid.peers source.rank lighter (omega (arith, c.there, tells.each))));
  }

-- ---- the laws

-- of what is heard in a turn
pub turns_tell_the_truth : TurnsTellTheTruth
turns_tell_the_truth n r place sessions datagrams links current source mid h c said =
    heard_in_turn n r place sessions datagrams links current source mid c h said

-- of turns
pub turns_are_true : TurnsAreTrue
turns_are_true n r place sessions datagrams links current source mid h sendings c said may limit =
    turn_leaves n r place sessions datagrams links current source mid c h sendings said may limit

-- of frames that are taken out
pub discards_are_true : DiscardsAreTrue
discards_are_true n r place sessions datagrams links current source mid c =
    taken_out n r place sessions datagrams links current source mid c
