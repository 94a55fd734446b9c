-- A tick changes sessions alone, and sends what was accepted.
use Rattle.std.proofs.Common.{◌≡◌, ℕ, zero, suc, ◌+◌, ◌<◌, Bool, true, false, List, [], ◌∷◌, ◌++◌, length, ◌==◌}
use Rattle.std.proofs.Common.{slice_index, refl, sym, ap, ◌∙◌, subst, arith}
use Rattle.std.specs.List.{AllByRecursion}
use Rattle.std.proofs.lemmas.Bool.{eqb-true}
use Rattle.std.proofs.lemmas.List.{length-map, nil_from_length}
use Rattle.std.proofs.lemmas.Option.{slice_get_within}
use Rattle.reliable_link.specs.declared.out_frame.OutFrame.{OutFrame}
use Rattle.reliable_link.specs.ReceiverState.{held_at}
use Rattle.reliable_link.specs.SenderState.{after_due, due_at}
use Rattle.reliable_link.proofs.KeptBytes.{bytes_after_due, bytes_of}
use Rattle.sessions.specs.declared.peers.Peer.{Peer}
use Rattle.sessions.specs.SessionsState.{SessionsState}
use Rattle.sessions.specs.Peers.{after_all_due, due_out, due_peer, frames_out, peer_at}
use Rattle.sessions.specs.Ticks.{after_tick}
use Rattle.proof_link_truth.specs.Events.{TicksAreTrue}
use Rattle.link_truth.specs.Links.{Links}
use Rattle.link_truth.specs.Sessions.{SessionsTell, PeerTells}
use Rattle.link_truth.specs.DatagramTruth.{IsTold}
use Rattle.link_truth.specs.Wire.{at}
use Rattle.link_truth.specs.Witness.{AreHeldEmitted}
use Rattle.proof_link_truth.proofs.LinkChanges.{world_leaves}
use Rattle.proof_link_truth.proofs.LinkGrowth.{grows_none, links_fit}
use Rattle.proof_link_truth.proofs.Lists.{All_append, false_sym}
use Rattle.proof_link_truth.proofs.Witnesses.{all_witnessed}
use Rattle.proof_link_truth.proofs.Senders.{due_tells, frames_are_told, none_out}

-- what stands at a place of the sessions after a tick
due_at_place : (peers : List Peer) (now x : ℕ) → x < length peers → peer_at (after_all_due peers now) x ≡
    due_peer now (peer_at peers x)
due_at_place [] now x h = absurd (omega arith)
due_at_place (p ∷ ps) now zero h = refl
due_at_place (p ∷ ps) now (suc x) h = due_at_place ps now x (omega arith)

-- a sender that keeps nothing keeps nothing after a tick
due_keeps_none : (p : Peer) (now : ℕ) → p.sender.frames ≡ [] → (due_peer now p).sender.frames ≡ []
due_keeps_none p now empty =
    nil_from_length (after_due p.sender now).frames (
    sym (length-map (after_due p.sender now).frames (λ (f : OutFrame). f.bytes)) ∙
    ap (λ (t : List (List ℕ)). length t) (bytes_after_due p.sender now)
    ∙ ap (λ (fs : List OutFrame). length (bytes_of fs)) empty)

-- the sessions of a rank after a tick
tick_tells : (n r now : ℕ) (current : ℕ → ℕ) (links : Links) (old : SessionsState) →
    SessionsTell n current r old links → r < n → SessionsTell n current r (after_tick old now) links
tick_tells n r now current links old tells r_is = record {
  place = tells.place;
  each = length-map old.peers (due_peer now) ∙ tells.each;
  width = tells.width;
  peers = λ x x_is apart.
      let k : ℕ = slice_index old.known x in
      let p : PeerTells n current (at r (current r)) x k (peer_at old.peers x) links = tells.peers x x_is apart in
      let after : PeerTells n current (at r (current r)) x k (due_peer now (peer_at old.peers x)) links =
      record {
        begun = p.begun;
        sender = due_tells n (at r (current r)) (at x k) (peer_at old.peers x).sender
            (links (at r (current r)) (at x k)) now p.sender;
        receiver = p.receiver;
        no_accepted = p.no_accepted;
        no_handed = p.no_handed;
      } in
      subst (λ (o : Peer). PeerTells n current (at r (current r)) x k o links)
      (sym (due_at_place old.peers now x (omega (arith, x_is, tells.each)))) after;
  itself = ap (λ (o : Peer). o.sender.frames) (due_at_place old.peers now r (omega (arith, r_is, tells.each))) ∙
      due_keeps_none (peer_at old.peers r) now tells.itself;
}

-- what the session with a rank that is known so holds; it may be the own one
record Stands (n r : ℕ) (current : ℕ → ℕ) (links : Links) (known : List ℕ) (y : ℕ) (p : Peer) : Type 0 where
  within : y < n
  other : (y == r) ≡ false → PeerTells n current (at r (current r)) y (slice_index known y) p links
  itself : (y == r) ≡ true → p.sender.frames ≡ []

-- the same of the sessions from a rank on
abbrev Each : (n r : ℕ) (current : ℕ → ℕ) (links : Links) (known : List ℕ) (rank : ℕ) → List Peer → Type 0
Each n r current links known rank peers = (x y : ℕ) → x < length peers → rank + x ≡ y →
    Stands n r current links known y (peer_at peers x)

-- whatever of one session is due is told
first_is_told : (n r rank : ℕ) (current : ℕ → ℕ) (links : Links) (known : List ℕ) (p : Peer) (numbers : List ℕ) →
    r < n → Stands n r current links known rank p
    → AllByRecursion (IsTold n links current) (frames_out rank p.sender numbers)
first_is_told n r rank current links known p numbers r_is stands = go (rank == r) refl
  where
    go : (t : Bool) → (rank == r) ≡ t → AllByRecursion (IsTold n links current) (frames_out rank p.sender numbers)
    go true same =
        subst (AllByRecursion (IsTold n links current)) (sym (none_out rank p.sender numbers (stands.itself same))) tt
    go false apart =
        let tells : PeerTells n current (at r (current r)) rank (slice_index known rank) p links = stands.other apart in
        frames_are_told n (at r (current r)) (at rank (slice_index known rank)) p.sender links current numbers (record {
          source = r_is;
          target = stands.within;
          apart = false_sym rank r apart;
          source_begun = omega arith;
          target_begun = tells.begun;
        }) tells.sender

-- whatever is due is told
due_is_told : (n r now : ℕ) (current : ℕ → ℕ) (links : Links) (known : List ℕ) (rank : ℕ) (peers : List Peer) → r < n →
    Each n r current links known rank peers
    → AllByRecursion (IsTold n links current) (due_out rank peers now)
due_is_told n r now current links known rank [] r_is each = tt
due_is_told n r now current links known rank (p ∷ ps) r_is each =
    All_append (IsTold n links current) (frames_out rank p.sender (due_at p.sender now)) (due_out (suc rank) ps now)
    (first_is_told n r rank current links known p (due_at p.sender now) r_is (each 0 rank (omega arith) (omega arith)))
    (due_is_told n r now current links known (suc rank) ps r_is
    (λ x y lt is. each (suc x) y (omega arith) (omega arith)))

-- a rank of the world holds this of each session
each_stands : (n r : ℕ) (current : ℕ → ℕ) (links : Links) (old : SessionsState) → SessionsTell n current r old links →
    Each n r current links old.known 0 old.peers
each_stands n r current links old tells x y lt is =
    let x_is : x < n = omega (arith, lt, tells.each) in
    let same : x ≡ y = omega arith in
    subst (λ (z : ℕ). Stands n r current links old.known z (peer_at old.peers x)) same (record {
      within = x_is;
      other = λ apart. tells.peers x x_is apart;
      itself = λ own. ap (λ (z : ℕ). (peer_at old.peers z).sender.frames) (eqb-true x r own) ∙ tells.itself;
    })

-- what the sessions hold of the frames of others is as it was
tick_held : (n r now : ℕ) (datagrams : List (ℕ × List ℕ)) (old : SessionsState) → length old.peers ≡ n →
    AreHeldEmitted n datagrams r old
    → AreHeldEmitted n datagrams r (after_tick old now)
tick_held n r now datagrams old each held x place bytes x_is apart there =
    held x place bytes x_is apart
    (ap (λ (p : Peer). held_at p.receiver.held place)
    (sym (due_at_place old.peers now x (omega (arith, x_is, each)))) ∙ there)

-- the law of ticks
pub ticks_are_true : TicksAreTrue
ticks_are_true n r now sessions datagrams links current old true_now here =
    world_leaves n r sessions datagrams links links current (after_tick old now) true_now (grows_none r links)
    (tick_tells n r now current links old tells r_is)
    (links_fit n sessions datagrams links current true_now) told
    (all_witnessed n r sessions datagrams (after_tick old now).out links links current true_now (grows_none r links)
    (λ s d. refl))
    (tick_held n r now datagrams old tells.each (true_now.held r old here.there))
  where
    r_is : r < n
    r_is = omega (arith, slice_get_within sessions r old here.there, true_now.count)

    tells : SessionsTell n current r old links
    tells = true_now.tells r old here.there

    told : AllByRecursion (IsTold n links current) (old.out ++ due_out 0 old.peers now)
    told = subst (λ (out : List (ℕ × List ℕ)). AllByRecursion (IsTold n links current) (out ++ due_out 0 old.peers now))
        (sym here.out)
        (due_is_told n r now current links old.known 0 old.peers r_is (each_stands n r current links old tells))
