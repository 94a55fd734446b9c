-- What the sessions of ranks that know each other hold: what was handed up is a beginning of what was accepted, and
-- what is held before its turn is what its sender keeps.
use Rattle.std.proofs.Common.{◌≡◌, ℕ, zero, suc, ◌+◌, ◌-◌, ◌≤◌, Bool, List, [], ◌∷◌, length, Some, None, if◌then◌else◌}
use Rattle.std.proofs.Common.{slice_get, sym, ap, subst, ◌∙◌, arith}
use Rattle.std.specs.Prelude.{slice_index}
use Rattle.std.specs.Option.{option_map}
use Rattle.std.proofs.lemmas.Bool.{le-leb}
use Rattle.std.proofs.lemmas.Option.{same_Some, slice_get-map, slice_get_within}
use Rattle.datagram.specs.Spellings.{FrameText}
use Rattle.reliable_link.specs.ReceiverState.{ReceiverState, held_at}
use Rattle.reliable_link.specs.SenderState.{SenderState, frame_at}
use Rattle.reliable_link.specs.declared.out_frame.OutFrame.{OutFrame}
use Rattle.reliable_link.proofs.Places.{place_in_drop}
use Rattle.engine_calls.specs.EngineState.{EngineState}
use Rattle.sessions.specs.Peers.{peer_at}
use Rattle.incarnation.specs.declared.place.Place.{Place}
use Rattle.proof_pure_network.specs.Network.{Network}
use Rattle.proof_link_truth.proofs.Idle.{idle_holds_nothing}
use Rattle.proof_link_truth.proofs.Lists.{false_sym}
use Rattle.proof_link_truth.proofs.Senders.{next_is}
use Rattle.link_truth.specs.Links.{Link, Links}
use Rattle.link_truth.specs.Quiet.{AreQuiet}
use Rattle.link_truth.specs.Sessions.{IsHeldOf, ReceiverTells, SenderTells}
use Rattle.link_truth.specs.Wire.{at, wire, wires}
use Rattle.proof_network_bridge.proofs.Halves.{sessions_there}
use Rattle.proof_network_bridge.specs.WorldViews.{network_after}
use Rattle.observation.specs.Sessions.{sessions_in}
use Rattle.world.specs.Headline.{IsSound, NothingIsHeld, SessionsAreInOrder}
use Rattle.world.specs.declared.event.HistoryEntry.{HistoryEntry}
use Rattle.vocabulary.specs.declared.endpoint.Endpoint.{Endpoint}

-- the frame at a place is spelled there, under its number
wires_at : (n : ℕ) (s d : Endpoint) (q : ℕ) (fs : List FrameText) (k : ℕ) (f : FrameText) → slice_get fs k ≡ Some f →
    slice_get (wires n s d q fs) k ≡ Some (wire n s d (q + k) f)
wires_at n s d q [] k f is = absurd (grind arith)
wires_at n s d q (x ∷ fs) zero f is =
    let same : q ≡ q + 0 = omega arith in
    ap (λ (y : FrameText). Some (wire n s d q y)) (same_Some x f is) ∙ ap (λ (j : ℕ). Some (wire n s d j f)) same
wires_at n s d q (x ∷ fs) (suc k) f is =
    let same : suc q + k ≡ q + suc k = omega arith in
    wires_at n s d (suc q) fs k f is ∙ ap (λ (j : ℕ). Some (wire n s d j f)) same

-- a frame that is held was accepted and not handed up, so its sender keeps it, unacknowledged, under the same number
pub held_is_kept : (n : ℕ) (s d : Endpoint) (sender : SenderState) (receiver : ReceiverState) (link : Link) →
    SenderTells n s d sender link → ReceiverTells n s d receiver link →
    (place : ℕ) (bytes : List ℕ) → held_at receiver.held place ≡ Some bytes → frame_at sender (receiver.next + place) ≡
    Some bytes
held_is_kept n s d sender receiver link sends gets place bytes is =
    ap (λ (b : Bool). if b then
    option_map (λ (f : OutFrame). f.bytes) (slice_get sender.frames (q - sender.lowest)) else None)
    (le-leb sender.lowest q low)
    ∙ (sym (slice_get-map (λ (f : OutFrame). f.bytes) sender.frames (q - sender.lowest))
    ∙ (ap (λ (t : List (List ℕ)). slice_get t (q - sender.lowest)) sends.kept
    ∙ (place_in_drop sender.lowest (wires n s d 0 link.accepted) (q - sender.lowest) q there ∙ got)))
  where
    q : ℕ
    q = receiver.next + place

    low : sender.lowest ≤ q
    low = omega (arith, sends.below, gets.next)

    there : sender.lowest + (q - sender.lowest) ≡ q
    there = omega (arith, low)

    held : IsHeldOf n s d q link bytes
    held = gets.held place bytes is

    got : slice_get (wires n s d 0 link.accepted) q ≡ Some bytes
    got =
        let same : 0 + q ≡ q = omega arith in
        wires_at n s d 0 link.accepted q held.frame held.accepted ∙
        ap (λ (j : ℕ). Some (wire n s d j held.frame)) same ∙ ap Some (sym held.spelled)

-- the law of a session, of each two ranks of a world that know each other as they are
pub sessions_are_in_order : (engines : List EngineState) (datagrams : List (ℕ × List ℕ)) (history : List HistoryEntry) →
    IsSound engines datagrams history → SessionsAreInOrder engines
sessions_are_in_order engines datagrams history s r x e d there other apart knows known =
    let n : ℕ = length engines in
    let w : Network = (network_after n s.followed.limit s.followed.happenings).net in
    let j = s.followed.joined in
    let here : Endpoint = at r (w.current r) in
    let away : Endpoint = at x (w.current x) in
    let links : Links = j.texts in
    let link : Link = links here away in
    let sends = (j.links.tells r e.sessions (sessions_there engines r e there)).peers x (slice_get_within engines x d other) apart in
    let gets = (j.links.tells x d.sessions (sessions_there engines x d other)).peers r (slice_get_within engines r e there) (false_sym x r apart) in
    let away_is : slice_index e.sessions.known x ≡ w.current x = knows ∙ ap (λ (p : Place). p.endpoint.incarnation) (j.links.tells x d.sessions (sessions_there engines x d other)).place in
    let here_is : slice_index d.sessions.known r ≡ w.current r = known ∙ ap (λ (p : Place). p.endpoint.incarnation) (j.links.tells r e.sessions (sessions_there engines r e there)).place in
    let sender : SenderTells n here away (peer_at e.sessions.peers x).sender link =
    subst (λ (k : ℕ). SenderTells n here (at x k) (peer_at e.sessions.peers x).sender (links here (at x k))) away_is
    sends.sender in
    let receiver : ReceiverTells n here away (peer_at d.sessions.peers r).receiver link =
    subst (λ (k : ℕ). ReceiverTells n (at r k) away (peer_at d.sessions.peers r).receiver (links (at r k) away)) here_is
    gets.receiver in
    let reach : link.handed ≤ length link.accepted = (j.links.sound here away).reach in
    let next_is_length = next_is n here away (peer_at e.sessions.peers x).sender link sender reach in
    record {
      acknowledged = omega (arith, sender.below, receiver.next);
      accepted = omega (arith, reach, receiver.next, next_is_length);
      held = held_is_kept n here away (peer_at e.sessions.peers x).sender (peer_at d.sessions.peers r).receiver link
          sender receiver;
    }

-- a quiet world holds nothing before its turn
pub nothing_is_held : (engines : List EngineState) (datagrams : List (ℕ × List ℕ)) (history : List HistoryEntry) →
    IsSound engines datagrams history → AreQuiet (sessions_in engines) → NothingIsHeld engines
nothing_is_held engines datagrams history s quiet r x e d there other apart knows known place =
    idle_holds_nothing (length engines) x r place (sessions_in engines) datagrams s.followed.joined.texts
    (network_after (length engines) s.followed.limit s.followed.happenings).net.current d.sessions e.sessions
    s.followed.joined.links quiet (sessions_there engines x d other) (sessions_there engines r e there)
    (false_sym x r apart) known knows
