-- What a rank sends is accepted by its links, frame by frame.
use Rattle.std.proofs.Common.{◌≡◌, ℕ, ◌+◌, ◌<◌, ◌≤◌, ◌^◌, Bool, true, false, cond, ◌&&◌, not, nat_lt, List, [], ◌∷◌}
use Rattle.std.proofs.Common.{◌++◌, length, Option, Some, None, ◌==◌, slice_get, slice_index, slice_set, refl, sym, ap}
use Rattle.std.proofs.Common.{◌∙◌, subst, arith}
use Rattle.std.specs.List.{AllByRecursion}
use Rattle.std.proofs.lemmas.Bool.{eqb-false, leb-false, lt-ltb}
use Rattle.std.proofs.lemmas.List.{append_assoc, set-set}
use Rattle.std.proofs.lemmas.Option.{slice_get_within}
use Rattle.vocabulary.specs.declared.endpoint.Endpoint.{Endpoint}
use Rattle.perfect_queues.proofs.ListLemmas.{get_last, get_set}
use Rattle.datagram.specs.Spellings.{FrameText, OutgoingText}
use Rattle.incarnation.specs.declared.place.Place.{Place}
use Rattle.reliable_link.specs.SenderState.{SenderState, after_accept, next_number}
use Rattle.sessions.specs.declared.peers.Peer.{Peer}
use Rattle.sessions.specs.declared.refusal.SessionRefusal.{SessionRefusal}
use Rattle.sessions.specs.declared.refusal.SessionRefusal.TheVariants as refusals
use Rattle.sessions.specs.Events.{after_heard, after_send, after_sends, is_worn_out, next_bytes, out_on_accept}
use Rattle.sessions.specs.Events.{sends_limit}
use Rattle.sessions.specs.HeardBytes.{HeardText}
use Rattle.sessions.specs.Peers.{peer_at}
use Rattle.sessions.specs.SessionsState.{SessionsState, known_endpoint}
use Rattle.sessions.specs.Spellings.{frame_bytes}
use Rattle.proof_link_truth.specs.Events.{Comes, EventsAreTrue, IsAt, LeavesTrue, MaySend, MaySendAll, RestIsTrue}
use Rattle.proof_link_truth.specs.Events.{addressed, all_addressed, emptied, links_heard}
use Rattle.link_truth.specs.Links.{Link, Links, accept, accept_all}
use Rattle.link_truth.specs.Sessions.{PeerTells, SenderTells, SessionsTell, is_pair}
use Rattle.link_truth.specs.DatagramTruth.{IsTold, TellsFrame}
use Rattle.link_truth.specs.Truth.{AreTrue}
use Rattle.link_truth.specs.Wire.{at, place_of, wire}
use Rattle.link_truth.specs.Witness.{AreHeldEmitted}
use Rattle.proof_link_truth.proofs.LinkChanges.{sessions_with, world_leaves}
use Rattle.proof_link_truth.proofs.Datagrams.{heard_leaves}
use Rattle.proof_link_truth.proofs.LinkGrowth.{Grows, accept_fits, accept_grows, accepted_handed, link_cases, link_here}
use Rattle.proof_link_truth.proofs.LinkGrowth.{links_fit}
use Rattle.proof_link_truth.proofs.WordLaws.{stays}
use Rattle.proof_link_truth.proofs.HeldFrames.{held_with}
use Rattle.proof_link_truth.proofs.Lists.{false_sym}
use Rattle.proof_link_truth.proofs.Receivers.{receiver_more}
use Rattle.proof_link_truth.proofs.Senders.{accept_tells, is_told, next_is}
use Rattle.proof_link_truth.proofs.Witnesses.{all_witnessed}
use Rattle.proof_link_truth.proofs.InJob.{frame_is}

-- ---- one frame

-- the bytes of a frame that is sent
sent_bytes_are : (n : ℕ) (own target : Endpoint) (f : FrameText) (k : ℕ) → frame_bytes (place_of n own) target f k ≡
    wire n own target k f
unfolding frame_bytes wire
sent_bytes_are n own target f k = refl

-- a test by three parts
pairs : (a b c : Bool) → a ≡ false → b ≡ true → c ≡ true → (not a && (b && c)) ≡ true
pairs a b c ha hb hc = rw (ha, hb, hc)

-- endpoints of two ranks of the world
are_pair : (n : ℕ) (s d : Endpoint) → s.rank < n → d.rank < n → (s.rank == d.rank) ≡ false → is_pair n s d ≡ true
are_pair n s d s_is d_is apart =
    pairs (s.rank == d.rank) (nat_lt s.rank n) (nat_lt d.rank n) apart (lt-ltb s.rank n s_is) (lt-ltb d.rank n d_is)

-- what goes out at once is told
sent_is_told : (n target : ℕ) (links : Links) (current : ℕ → ℕ) (bytes : List ℕ) (t : Bool) →
    IsTold n links current (target, bytes)
    → AllByRecursion (IsTold n links current) (cond t ((target, bytes) ∷ []) [])
sent_is_told n target links current bytes true told = (told, tt)
sent_is_told n target links current bytes false told = tt

-- the sessions of a sender, once a frame to one rank was accepted
record IsAccepted (n : ℕ) (current : ℕ → ℕ) (own : Endpoint) (target k : ℕ) (links : Links) (f : FrameText)
    (bytes : List ℕ) (p : Peer) : Type 0 where
  here : PeerTells n current own target k (record { sender = after_accept p.sender bytes; receiver = p.receiver })
      (accept links own (at target k, f))
  beside : (y j : ℕ) (o : Peer) → (y == target) ≡ false → PeerTells n current own y j o links →
      PeerTells n current own y j o (accept links own (at target k, f))

-- it stands under its number
is_accepted : (n : ℕ) (current : ℕ → ℕ) (own : Endpoint) (target k : ℕ) (links : Links) (f : FrameText) (bytes : List ℕ)
    (p : Peer)
    → PeerTells n current own target k p links →
    (links own (at target k)).handed ≤ length (links own (at target k)).accepted
    → bytes ≡ wire n own (at target k) (length (links own (at target k)).accepted) f →
    IsAccepted n current own target k links f bytes p
is_accepted n current own target k links f bytes p tells reach bytes_are = record {
  here = record {
    begun = tells.begun;
    sender = subst (λ (l : Link). SenderTells n own d (after_accept p.sender bytes) l)
        (sym (link_here links own d longer))
        (accept_tells n own d p.sender (links own d) f bytes tells.sender reach bytes_are);
    receiver =
        receiver_more n d own p.receiver (links d own) (accept links own (d, f) d own)
        (accepted_handed links own d f d own) (grows.kept d own) tells.receiver;
    no_accepted =
        λ i above. none_later target i
        (λ same. absurd (let q : i ≡ k = ap (λ (e : Endpoint). e.incarnation) same in omega (arith, above, q)))
        (tells.no_accepted i above);
    no_handed = λ i above. accepted_handed links own d f (at target i) own ∙ tells.no_handed i above;
  };
  beside = λ y j o differs q. record {
    begun = q.begun;
    sender = link_cases (λ l. SenderTells n own (at y j) o.sender l) links own d longer own (at y j)
        (λ es ed. absurd (eqb-false y target differs (ap (λ (e : Endpoint). e.rank) ed))) (λ h. q.sender);
    receiver = receiver_more n (at y j) own o.receiver (links (at y j) own) (accept links own (d, f) (at y j) own)
        (accepted_handed links own d f (at y j) own) (grows.kept (at y j) own) q.receiver;
    no_accepted =
        λ i above. none_later y i (λ same. absurd (eqb-false y target differs (ap (λ (e : Endpoint). e.rank) same)))
        (q.no_accepted i above);
    no_handed = λ i above. accepted_handed links own d f (at y i) own ∙ q.no_handed i above;
  };
}
  where
    d : Endpoint
    d = at target k

    longer : Link
    longer = record (links own d) { accepted = (links own d).accepted ++ f ∷ [] }

    grows : Grows own.rank links (accept links own (d, f))
    grows = accept_grows links own d f

    none_later : (y i : ℕ) → (at y i ≡ d → ⊥) → (links own (at y i)).accepted ≡ [] →
        (accept links own (d, f) own (at y i)).accepted ≡ []
    none_later y i other none =
        link_cases (λ l. l.accepted ≡ []) links own d longer own (at y i) (λ es ed. absurd (other ed)) (λ h. none)

-- what is sent is accepted by the link to the known endpoint of its rank
send_leaves : (n r : ℕ) (sessions : List SessionsState) (datagrams : List (ℕ × List ℕ)) (links : Links) (current : ℕ →
    ℕ) (old : SessionsState) (s : OutgoingText)
    → AreTrue n sessions datagrams links current → IsAt sessions r old → MaySend n r s →
    is_worn_out (peer_at old.peers s.target).sender ≡ false
    → LeavesTrue n sessions datagrams r (after_send old s) (accept links (at r (current r)) (addressed old.known s))
    current
send_leaves n r sessions datagrams links current old s true_now stands c room =
    world_leaves n r sessions datagrams links after current (after_send old s) true_now (accept_grows links own d f)
    (sessions_with n r s.target current links after old (after_send old s)
    (record { sender = after_accept sender bytes; receiver = (peer_at old.peers s.target).receiver }) tells c.there
    c.apart
    accepted.here accepted.beside refl refl refl)
    (accept_fits n links current own d f (links_fit n sessions datagrams links current true_now) c.carried numbered
    (are_pair n own d r_is c.there apart) (omega arith))
    (subst (AllByRecursion (IsTold n after current)) (sym out_is)
    (sent_is_told n s.target after current bytes (nat_lt (length sender.frames) 64) told))
    (all_witnessed n r sessions datagrams (after_send old s).out links after current true_now
    (accept_grows links own d f) (λ a b. accepted_handed links own d f a b))
    (held_with n r s.target datagrams old (after_send old s)
    (record { sender = after_accept sender bytes; receiver = (peer_at old.peers s.target).receiver })
    held (omega (arith, c.there, tells.each)) (λ place held_bytes at. held s.target place held_bytes c.there c.apart at)
    refl)
  where
    own : Endpoint
    own = at r (current r)

    d : Endpoint
    d = known_endpoint old.known s.target

    f : FrameText
    f = s.frame

    link : Link
    link = links own d

    after : Links
    after = accept links own (d, f)

    sender : SenderState
    sender = (peer_at old.peers s.target).sender

    tells : SessionsTell n current r old links
    tells = true_now.tells r old stands.there

    held : AreHeldEmitted n datagrams r old
    held = true_now.held r old stands.there

    r_is : r < n
    r_is = omega (arith, slice_get_within sessions r old stands.there, true_now.count)

    apart : (r == s.target) ≡ false
    apart = false_sym s.target r c.apart

    peer : PeerTells n current own s.target (slice_index old.known s.target) (peer_at old.peers s.target) links
    peer = tells.peers s.target c.there c.apart

    reach : link.handed ≤ length link.accepted
    reach = (true_now.sound own d).reach

    next_is_length : next_number sender ≡ length link.accepted
    next_is_length = next_is n own d sender link peer.sender reach

    bytes : List ℕ
    bytes = next_bytes old s

    bytes_are : bytes ≡ wire n own d (length link.accepted) f
    bytes_are =
        frame_is _ _ d f (next_number sender) tells.place
        ∙ sent_bytes_are n own d f (next_number sender) ∙ ap (λ (j : ℕ). wire n own d j f) next_is_length

    numbered : length link.accepted + 1 < 2 ^ 64
    numbered = omega (arith, next_is_length, leb-false 18446744073709551615 (next_number sender) room)

    accepted : IsAccepted n current own s.target (slice_index old.known s.target) links f bytes
        (peer_at old.peers s.target)
    accepted =
        is_accepted n current own s.target (slice_index old.known s.target) links f bytes (peer_at old.peers s.target)
        peer
        reach bytes_are

    out_is : (after_send old s).out ≡ out_on_accept sender s.target bytes
    out_is = ap (λ (out : List (ℕ × List ℕ)). out ++ out_on_accept sender s.target bytes) stands.out

    told : IsTold n after current (s.target, bytes)
    told = is_told n own d after current bytes
        (record {
          source = r_is;
          target = c.there;
          apart = apart;
          source_begun = omega arith;
          target_begun =
              peer.begun;
        })
        (TellsFrame (length link.accepted) f
        (ap (λ (l : Link). slice_get l.accepted (length link.accepted))
        (link_here links own d (record link { accepted = link.accepted ++ f ∷ [] })) ∙ get_last link.accepted f)
        bytes_are)

-- ---- frames, one after the other

-- what is sent in the middle of an event is sent by sessions out of which everything was taken
goes_on : (n r : ℕ) (sessions : List SessionsState) (datagrams : List (ℕ × List ℕ)) (after : Links) (current : ℕ →
    ℕ) (mid : SessionsState) (s : OutgoingText)
    → LeavesTrue n (slice_set sessions r (emptied mid)) (datagrams ++ mid.out) r (after_send (emptied mid) s) after
    current
    → LeavesTrue n sessions datagrams r (after_send mid s) after current
goes_on n r sessions datagrams after current mid s gives =
    let new : SessionsState = after_send mid s in
    let out : List (ℕ × List ℕ) = out_on_accept (peer_at mid.peers s.target).sender s.target (next_bytes mid s) in
    subst (λ (ss : List SessionsState). AreTrue n ss (datagrams ++ new.out) after current)
    (set-set sessions r (emptied mid) (emptied new))
    (subst (λ (ds : List (ℕ × List ℕ)). AreTrue n (slice_set (slice_set sessions r (emptied mid)) r (emptied new)) ds
    after current)
    (append_assoc datagrams mid.out out) gives)

-- a limit that wasn't met, and the rest
passed : (t : Bool) (o : Option SessionRefusal) → cond t (Some refusals.Limit) o ≡ None → (t ≡ false) × (o ≡ None)
passed false o h = (refl, h)
passed true o h = absurd cc

-- each frame is accepted by its link
pub sends_leave : (n r : ℕ) (sessions : List SessionsState) (datagrams : List (ℕ × List ℕ)) (links : Links)
    (current : ℕ → ℕ) (mid : SessionsState) (sendings : List OutgoingText)
    → LeavesTrue n sessions datagrams r mid links current → r < length sessions → MaySendAll n r sendings
    → sends_limit mid sendings ≡ None →
    LeavesTrue n sessions datagrams r (after_sends mid sendings)
    (accept_all links (at r (current r)) (all_addressed mid.known sendings)) current
sends_leave n r sessions datagrams links current mid [] leaves within may limit = leaves
sends_leave n r sessions datagrams links current mid (s ∷ ss) leaves within may limit =
    let room = passed (is_worn_out (peer_at mid.peers s.target).sender) (sends_limit (after_send mid s) ss) limit in
    let longer : Links = accept links (at r (current r)) (addressed mid.known s) in
    sends_leave n r sessions datagrams longer current (after_send mid s) ss
    (goes_on n r sessions datagrams longer current mid s
    (send_leaves n r (slice_set sessions r (emptied mid)) (datagrams ++ mid.out) links current (emptied mid) s leaves
    (record { there = get_set sessions r (emptied mid) within; out = refl }) may.0 room.0))
    within may.1 room.1

-- ---- an event

-- the law of rest
pub rest_is_true : RestIsTrue
rest_is_true n r sessions datagrams links current old true_now stands =
    stays n r sessions datagrams links current old old true_now (true_now.tells r old stands.there)
    (true_now.held r old stands.there) refl refl refl
    (subst (AllByRecursion (IsTold n links current)) (sym stands.out) tt)

-- what was heard is heeded first
heeded_first : (n r : ℕ) (sessions : List SessionsState) (datagrams : List (ℕ × List ℕ)) (links : Links) (current : ℕ →
    ℕ) (old : SessionsState) (heard : Option HeardText)
    → AreTrue n sessions datagrams links current → IsAt sessions r old → Comes datagrams r old heard
    → LeavesTrue n sessions datagrams r (after_heard old heard) (links_heard links (at r (current r)) heard) current
heeded_first n r sessions datagrams links current old None true_now stands comes =
    rest_is_true n r sessions datagrams links current old true_now stands
heeded_first n r sessions datagrams links current old (Some h) true_now stands comes =
    heard_leaves n r sessions datagrams links current old h true_now stands comes

-- the law of events
pub events_are_true : EventsAreTrue
events_are_true n r sessions datagrams links current old heard sendings true_now stands comes may limit =
    sends_leave n r sessions datagrams (links_heard links (at r (current r)) heard) current (after_heard old heard)
    sendings
    (heeded_first n r sessions datagrams links current old heard true_now stands comes)
    (slice_get_within sessions r old stands.there) may limit
