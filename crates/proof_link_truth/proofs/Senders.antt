-- What one sender keeps of its link, and what it sends.
use Rattle.std.proofs.Common.{◌≡◌, ℕ, ◌+◌, ◌-◌, ◌<◌, ◌≤◌, Bool, true, false, cond, leb, nat_le, ◌==◌, List, [], ◌∷◌}
use Rattle.std.proofs.Common.{◌++◌, length, drop, Option, Some, None, slice_get, refl, sym, ap, subst, ◌∙◌, inl, inr}
use Rattle.std.proofs.Common.{arith}
use Rattle.std.specs.List.{AllByRecursion}
use Rattle.std.specs.Option.{option_map}
use Rattle.std.proofs.lemmas.Bool.{cases_lt, leb-true}
use Rattle.std.proofs.lemmas.List.{drop-append-le, drop-drop, length-drop, length-map}
use Rattle.std.proofs.lemmas.Option.{slice_get-map}
use Rattle.vocabulary.specs.declared.endpoint.Endpoint.{Endpoint}
use Rattle.datagram.specs.Spellings.{FrameText}
use Rattle.reliable_link.specs.declared.out_frame.OutFrame.{OutFrame}
use Rattle.reliable_link.specs.SenderState.{SenderState, after_accept, after_ack, after_due, frame_at, next_number}
use Rattle.reliable_link.proofs.KeptBytes.{bytes_after_accept, bytes_after_ack, bytes_after_due, lowest_after_due}
use Rattle.reliable_link.proofs.Places.{place_in_drop}
use Rattle.reliable_link.proofs.Senders.{is_passed, lowest_after_ack, lowest_passed}
use Rattle.sessions.specs.Peers.{frame_out, frames_out}
use Rattle.link_truth.specs.Links.{Link, Links}
use Rattle.link_truth.specs.Sessions.{SenderTells}
use Rattle.link_truth.specs.DatagramTruth.{IsTold, Tells, TellsFrame}
use Rattle.link_truth.specs.Wire.{wire, wires}
use Rattle.proof_link_truth.proofs.Lists.{All_flat}
use Rattle.proof_link_truth.proofs.Wires.{IsWire, wires_get, wires_length, wires_push}

-- the next number is how many frames the link accepted
pub next_is : (n : ℕ) (s d : Endpoint) (sender : SenderState) (link : Link) → SenderTells n s d sender link →
    link.handed ≤ length link.accepted → next_number sender ≡ length link.accepted
next_is n s d sender link tells reach =
    let kept : length sender.frames ≡ length link.accepted - sender.lowest =
    sym (length-map sender.frames (λ (f : OutFrame). f.bytes)) ∙ ap (λ (t : List (List ℕ)). length t) tells.kept
    ∙ length-drop sender.lowest (wires n s d 0 link.accepted) ∙
    ap (λ (k : ℕ). k - sender.lowest) (wires_length n s d 0 link.accepted)
    in
    omega (arith, kept, reach, tells.below)

-- a new frame, under the next number
pub accept_tells : (n : ℕ) (s d : Endpoint) (sender : SenderState) (link : Link) (f : FrameText) (bytes : List ℕ) →
    SenderTells n s d sender link → link.handed ≤ length link.accepted
    → bytes ≡ wire n s d (length link.accepted) f →
    SenderTells n s d (after_accept sender bytes) (record link { accepted = link.accepted ++ f ∷ [] })
accept_tells n s d sender link f bytes tells reach is =
    let within : sender.lowest ≤ length (wires n s d 0 link.accepted) = omega (arith, wires_length n s d 0 link.accepted, reach, tells.below) in
    let last : wires n s d 0 link.accepted ++ bytes ∷ [] ≡ wires n s d 0 (link.accepted ++ f ∷ []) =
    ap (λ (b : List ℕ). wires n s d 0 link.accepted ++ b ∷ []) (is ∙ ap (λ (k : ℕ). wire n s d k f) (omega arith)) ∙
    sym (wires_push n s d 0 link.accepted f)
    in
    record {
      kept = bytes_after_accept sender bytes
          ∙ ap (λ (t : List (List ℕ)). t ++ bytes ∷ []) tells.kept
          ∙ sym (drop-append-le sender.lowest (wires n s d 0 link.accepted) (bytes ∷ []) within)
          ∙ ap (drop sender.lowest) last;
      below = tells.below;
    }

-- an acknowledgement of what was handed up, where it leaves this number as the lowest one
acked_to : (n : ℕ) (s d : Endpoint) (sender : SenderState) (link : Link) (k held : ℕ) → SenderTells n s d sender link →
    k ≤ link.handed
    → sender.lowest + (k - sender.lowest) ≡ (after_ack sender k held).lowest →
    SenderTells n s d (after_ack sender k held) link
acked_to n s d sender link k held tells le lowest_is = record {
  kept = bytes_after_ack sender k held ∙ ap (drop (k - sender.lowest)) tells.kept ∙
      drop-drop (k - sender.lowest) sender.lowest (wires n s d 0 link.accepted)
      ∙ ap (λ (m : ℕ). drop m (wires n s d 0 link.accepted)) lowest_is;
  below = omega (arith, lowest_is, tells.below);
}

-- what it says is held changes nothing of that
pub ack_tells : (n : ℕ) (s d : Endpoint) (sender : SenderState) (link : Link) (k held : ℕ) →
    SenderTells n s d sender link → k ≤ link.handed
    → SenderTells n s d (after_ack sender k held) link
ack_tells n s d sender link k held tells le =
    elim (cases_lt sender.lowest k) [
      | inl lt ↦ acked_to n s d sender link k held tells le
          (omega (arith, lowest_after_ack sender k held, lowest_passed sender k (omega (arith, lt))))
      | inr passed ↦ acked_to n s d sender link k held tells le
          (omega (
            arith,
            lowest_after_ack sender k held,
            ap (λ (t : SenderState). t.lowest) (is_passed sender k passed),
          ))
    ]

-- a tick
pub due_tells : (n : ℕ) (s d : Endpoint) (sender : SenderState) (link : Link) (now : ℕ) →
    SenderTells n s d sender link → SenderTells n s d (after_due sender now) link
due_tells n s d sender link now tells = record {
  kept = bytes_after_due sender now ∙ tells.kept ∙
      ap (λ (m : ℕ). drop m (wires n s d 0 link.accepted)) (sym (lowest_after_due sender now));
  below = omega (arith, tells.below, lowest_after_due sender now);
}

-- the bytes that are kept under a number are those of the frame that was accepted under it
kept_is_accepted : (n : ℕ) (s d : Endpoint) (sender : SenderState) (link : Link) (q : ℕ) (bytes : List ℕ) →
    SenderTells n s d sender link → (t : Bool) → leb sender.lowest q ≡ t
    → cond t (option_map (λ (f : OutFrame). f.bytes) (slice_get sender.frames (q - sender.lowest))) None ≡ Some bytes →
    IsWire n s d q link.accepted q bytes
kept_is_accepted n s d sender link q bytes tells true le e =
    let there : sender.lowest + (q - sender.lowest) ≡ q = omega (arith, leb-true sender.lowest q le) in
    let got : slice_get (wires n s d 0 link.accepted) q ≡ Some bytes =
    sym (place_in_drop sender.lowest (wires n s d 0 link.accepted) (q - sender.lowest) q there)
    ∙ ap (λ (t : List (List ℕ)). slice_get t (q - sender.lowest)) (sym tells.kept)
    ∙ slice_get-map (λ (f : OutFrame). f.bytes) sender.frames (q - sender.lowest) ∙ e
    in
    let zero_and : 0 + q ≡ q = omega arith in
    subst (λ (k : ℕ). IsWire n s d k link.accepted q bytes) zero_and (wires_get n s d 0 link.accepted q bytes got)
kept_is_accepted n s d sender link q bytes tells false le e = absurd cc

-- a datagram goes between endpoints of two ranks of n, which were there
pub record AreBegun (n : ℕ) (s d : Endpoint) (current : ℕ → ℕ) : Type 0 where
  pub source : s.rank < n
  pub target : d.rank < n
  pub apart : (s.rank == d.rank) ≡ false
  pub source_begun : s.incarnation ≤ current s.rank
  pub target_begun : d.incarnation ≤ current d.rank

-- what tells something between such endpoints is told
pub is_told : (n : ℕ) (s d : Endpoint) (links : Links) (current : ℕ → ℕ) (bytes : List ℕ) → AreBegun n s d current
    → Tells n s d links bytes → IsTold n links current (d.rank, bytes)
is_told n s d links current bytes begun tells = record {
  source = s;
  target = d;
  to = refl;
  source_is = begun.source;
  target_is = begun.target;
  apart = begun.apart;
  source_begun = begun.source_begun;
  target_begun = begun.target_begun;
  tells = tells;
}

-- a frame that goes out is told
frame_is_told : (n : ℕ) (s d : Endpoint) (links : Links) (current : ℕ → ℕ) (q : ℕ) (o : Option (List ℕ)) →
    AreBegun n s d current
    → ((bytes : List ℕ) → o ≡ Some bytes → IsWire n s d q (links s d).accepted q bytes) →
    AllByRecursion (IsTold n links current) (frame_out d.rank o)
frame_is_told n s d links current q None begun says = tt
frame_is_told n s d links current q (Some bytes) begun says =
    let w = says bytes refl in
    (is_told n s d links current bytes begun (TellsFrame q w.frame w.there w.bytes_are), tt)

-- whatever numbers go out, each frame is told
pub frames_are_told : (n : ℕ) (s d : Endpoint) (sender : SenderState) (links : Links) (current : ℕ →
    ℕ) (numbers : List ℕ) → AreBegun n s d current
    → SenderTells n s d sender (links s d) → AllByRecursion (IsTold n links current) (frames_out d.rank sender numbers)
frames_are_told n s d sender links current numbers begun tells =
    All_flat (IsTold n links current) (λ (q : ℕ). frame_out d.rank (frame_at sender q)) numbers (λ q.
    frame_is_told n s d links current q (frame_at sender q) begun (λ bytes e.
    kept_is_accepted n s d sender (links s d) q bytes tells (leb sender.lowest q) refl e))

-- where no frame is kept, none goes out
pub none_out : (d : ℕ) (sender : SenderState) (numbers : List ℕ) → sender.frames ≡ [] → frames_out d sender numbers ≡ []
none_out d sender [] empty = refl
none_out d sender (q ∷ qs) empty =
    ap (λ (t : List (ℕ × List ℕ)). t ++ frames_out d sender qs) (nothing (nat_le sender.lowest q)) ∙
    none_out d sender qs empty
  where
    gone : option_map (λ (f : OutFrame). f.bytes) (slice_get sender.frames (q - sender.lowest)) ≡ None
    gone = ap (λ (t : List OutFrame). option_map (λ (f : OutFrame). f.bytes) (slice_get t (q - sender.lowest))) empty

    nothing : (t : Bool) →
        frame_out d (cond t (option_map (λ (f : OutFrame). f.bytes) (slice_get sender.frames (q - sender.lowest))) None)
        ≡ []
    nothing true = ap (frame_out d) gone
    nothing false = refl
