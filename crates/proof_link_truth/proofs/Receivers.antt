-- What one receiver holds of its link.
use Rattle.std.proofs.Common.{◌≡◌, ℕ, suc, ◌+◌, ◌-◌, ◌*◌, ◌%◌, ◌^◌, ◌<◌, ◌≤◌, Bool, List, [], ◌∷◌, ◌++◌, length, drop}
use Rattle.std.proofs.Common.{replicate, Option, Some, None, if◌then◌else◌, slice_get, slice_set, refl, sym, ap, subst}
use Rattle.std.proofs.Common.{◌∙◌, inl, inr, ◌⊎◌, arith}
use Rattle.std.proofs.lemmas.Bool.{cases_eq, ne_eqb}
use Rattle.std.proofs.lemmas.List.{get_or-drop, get_or-set_other, length-append, length-drop, length-replicate}
use Rattle.std.proofs.lemmas.List.{length-set}
use Rattle.std.proofs.lemmas.Option.{same_Some}
use Rattle.vocabulary.specs.declared.endpoint.Endpoint.{Endpoint}
use Rattle.datagram.specs.Spellings.{FrameText}
use Rattle.reliable_link.specs.ReceiverState.{ReceiverState, advanced, after_frame, bits_of, discarded, held_at}
use Rattle.reliable_link.specs.ReceiverState.{held_bits, with_held}
use Rattle.reliable_link.proofs.Bits.{bits_few}
use Rattle.reliable_link.proofs.HeldFrames.{first_gone, held_other, held_there}
use Rattle.sessions.specs.Peers.{new_receiver}
use Rattle.link_truth.specs.Links.{Link}
use Rattle.link_truth.specs.Sessions.{IsHeldOf, ReceiverTells}

-- ---- what was held before

-- what is held once the next frame was handed up
pub held_on : (r : ReceiverState) (place : ℕ) (bytes : List ℕ) → held_at (advanced r).held place ≡ Some bytes →
    held_at r.held (1 + place) ≡ Some bytes
held_on r place bytes there = sym (get_or-drop 1 r.held place None) ∙ there

-- once the next frame isn't held any more
pub held_apart : (r : ReceiverState) (place : ℕ) (bytes : List ℕ) → held_at (discarded r).held place ≡ Some bytes →
    held_at r.held place ≡ Some bytes
held_apart r place bytes there =
    elim (cases_eq place 0) [
      | inl first ↦ absurd
          (let e : None ≡ Some bytes = sym (first_gone r.held) ∙ ap (held_at (discarded r).held) (sym first) ∙ there in
          cc)
      | inr other ↦ sym (get_or-set_other r.held 0 place None None other) ∙ there
    ]

-- a receiver that holds one frame more
abbrev pub holding : ReceiverState → (number : ℕ) → List ℕ → ReceiverState
holding r number bytes = record r { held = with_held r.held (number - r.next) bytes }

-- a frame behind the next one is held
pub is_holding : (r : ReceiverState) (number : ℕ) (bytes : List ℕ) → r.next < number →
    after_frame r number bytes ≡ holding r number bytes
is_holding r number bytes above =
    ap (λ (t : Bool). if t then advanced r else holding r number bytes)
    (ne_eqb number r.next (λ e. omega (arith, e, above)))

-- what it holds is that frame, at its place, or was held before
pub held_or : (r : ReceiverState) (number : ℕ) (bytes : List ℕ) (place : ℕ) (b : List ℕ) →
    held_at (holding r number bytes).held place ≡ Some b
    → ((place ≡ number - r.next) × (bytes ≡ b)) ⊎ (held_at r.held place ≡ Some b)
held_or r number bytes place b there =
    elim (cases_eq place (number - r.next)) [
      | inl same ↦ inl (
        same,
        same_Some bytes b (sym (held_there r.held (number - r.next) bytes) ∙
            ap (held_at (holding r number bytes).held) (sym same) ∙ there),
      )
      | inr other ↦ inr (sym (held_other r.held (number - r.next) place bytes other) ∙ there)
    ]

-- a new receiver holds nothing
pub none_held : (place : ℕ) (bytes : List ℕ) → held_at new_receiver.held place ≡ Some bytes → ⊥
none_held place bytes there = cc

-- ---- what is held is true

-- under another name of its number
held_named : (n : ℕ) (s d : Endpoint) (a b : ℕ) (link : Link) (bytes : List ℕ) → a ≡ b → IsHeldOf n s d a link bytes →
    IsHeldOf n s d b link bytes
held_named n s d a b link bytes same h = subst (λ (q : ℕ). IsHeldOf n s d q link bytes) same h

-- on a link of which as much was handed up, and no less accepted
pub receiver_more : (n : ℕ) (s d : Endpoint) (r : ReceiverState) (a b : Link) → b.handed ≡ a.handed
    → ((q : ℕ) (f : FrameText) → slice_get a.accepted q ≡ Some f → slice_get b.accepted q ≡ Some f) →
    ReceiverTells n s d r a → ReceiverTells n s d r b
receiver_more n s d r a b same kept tells = record {
  next = tells.next ∙ sym same;
  few = tells.few;
  held = λ place bytes there.
      let h : IsHeldOf n s d (r.next + place) a bytes = tells.held place bytes there in
      record { frame = h.frame; accepted = kept (r.next + place) h.frame h.accepted; spelled = h.spelled };
}

-- once the next frame was handed up
pub receiver_advanced : (n : ℕ) (s d : Endpoint) (r : ReceiverState) (link : Link) → ReceiverTells n s d r link
    → ReceiverTells n s d (advanced r) (record link { handed = suc link.handed })
receiver_advanced n s d r link tells = record {
  next = omega (arith, tells.next);
  few = omega (arith, tells.few, length-drop 1 r.held);
  held = λ place bytes there.
      let h : IsHeldOf n s d (r.next + (1 + place)) link bytes = tells.held (1 + place) bytes (held_on r place bytes there) in
      let k : IsHeldOf n s d (r.next + 1 + place) link bytes = held_named n s d (r.next + (1 + place)) (r.next + 1 + place) link bytes (omega arith) h in
      record { frame = k.frame; accepted = k.accepted; spelled = k.spelled };
}

-- once a frame behind the next one is held
pub receiver_holds : (n : ℕ) (s d : Endpoint) (r : ReceiverState) (link : Link) (number : ℕ) (bytes : List ℕ) →
    ReceiverTells n s d r link
    → r.next < number → number < r.next + 64 → IsHeldOf n s d number link bytes →
    ReceiverTells n s d (after_frame r number bytes) link
receiver_holds n s d r link number bytes tells above near held_of =
    subst (λ (x : ReceiverState). ReceiverTells n s d x link) (sym (is_holding r number bytes above))
    (record { next = tells.next; few = few; held = held })
  where
    rest : List (Option (List ℕ))
    rest = replicate (number - r.next + 1 - length r.held) None

    few : length (with_held r.held (number - r.next) bytes) ≤ 64
    few = omega (
      arith,
      near,
      tells.few,
      length-set (r.held ++ rest) (number - r.next) (Some bytes),
      length-append r.held rest,
      length-replicate {A = Option (List ℕ)} (number - r.next + 1 - length r.held) None,
    )

    held : (place : ℕ) (b : List ℕ) → held_at (with_held r.held (number - r.next) bytes) place ≡ Some b →
        IsHeldOf n s d (r.next + place) link b
    held place b there = elim (held_or r number bytes place b there) [
      | inl it ↦ subst (IsHeldOf n s d (r.next + place) link) it.1
          (held_named n s d number (r.next + place) link bytes (omega (arith, it.0, above)) held_of)
      | inr before ↦ tells.held place b before
    ]

-- once the next frame isn't held any more
pub receiver_discarded : (n : ℕ) (s d : Endpoint) (r : ReceiverState) (link : Link) → ReceiverTells n s d r link →
    ReceiverTells n s d (discarded r) link
receiver_discarded n s d r link tells = record {
  next = tells.next;
  few = omega (arith, tells.few, length-set r.held 0 None);
  held = λ place bytes there. tells.held place bytes (held_apart r place bytes there);
}

-- before anything was handed up
pub receiver_new : (n : ℕ) (s d : Endpoint) (link : Link) → link.handed ≡ 0 → ReceiverTells n s d new_receiver link
receiver_new n s d link none =
    record { next = sym none; few = omega arith; held = λ place bytes there. absurd (none_held place bytes there) }

-- ---- what it acknowledges

-- it says of the next frame that it isn't held
pub bits_even : (r : ReceiverState) → held_bits r % 2 ≡ 0
bits_even r = omega arith

-- and speaks of 63 frames at most
pub bits_small : (n : ℕ) (s d : Endpoint) (r : ReceiverState) (link : Link) → ReceiverTells n s d r link →
    held_bits r < 2 ^ 64
bits_small n s d r link tells = omega (arith, bits_few (drop 1 r.held) (omega (arith, tells.few, length-drop 1 r.held)))

-- whether the next frame is held or not
behind_first : (held : List (Option (List ℕ))) → drop 1 (slice_set held 0 None) ≡ drop 1 held
behind_first [] = refl
behind_first (x ∷ held) = refl

pub bits_apart : (r : ReceiverState) → held_bits (discarded r) ≡ held_bits r
bits_apart r = ap (λ (held : List (Option (List ℕ))). 2 * bits_of held) (behind_first r.held)
