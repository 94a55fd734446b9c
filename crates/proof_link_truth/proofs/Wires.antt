-- The bytes of frames that follow one another.
use Rattle.std.proofs.Common.{◌≡◌, ℕ, zero, suc, ◌+◌, List, [], ◌∷◌, ◌++◌, length, Some, slice_get, refl, sym, ap, ◌∙◌}
use Rattle.std.proofs.Common.{arith}
use Rattle.std.proofs.lemmas.Option.{same_Some}
use Rattle.vocabulary.specs.declared.endpoint.Endpoint.{Endpoint}
use Rattle.datagram.specs.Spellings.{FrameText}
use Rattle.link_truth.specs.Wire.{wire, wires}

-- as many as frames
pub wires_length : (n : ℕ) (s d : Endpoint) (q : ℕ) (fs : List FrameText) → length (wires n s d q fs) ≡ length fs
wires_length n s d q [] = refl
wires_length n s d q (f ∷ fs) = ap suc (wires_length n s d (suc q) fs)

-- one more frame gives one more
pub wires_push : (n : ℕ) (s d : Endpoint) (q : ℕ) (fs : List FrameText) (f : FrameText) → wires n s d q (fs ++ f ∷ []) ≡
    wires n s d q fs ++ wire n s d (q + length fs) f ∷ []
wires_push n s d q [] f = ap (λ (k : ℕ). wire n s d k f ∷ []) (omega arith)
wires_push n s d q (x ∷ fs) f =
    ap (λ (t : List (List ℕ)). wire n s d q x ∷ t) (wires_push n s d (suc q) fs f)
    ∙ ap (λ (k : ℕ). wire n s d q x ∷ (wires n s d (suc q) fs ++ wire n s d k f ∷ [])) (omega arith)

-- a frame and the number that its bytes carry
pub record IsWire (n : ℕ) (s d : Endpoint) (number : ℕ) (fs : List FrameText) (k : ℕ) (bytes : List ℕ) : Type 0 where
  pub frame : FrameText
  pub there : slice_get fs k ≡ Some frame
  pub bytes_are : bytes ≡ wire n s d number frame

-- at a place stands the frame of that place, under its number
pub wires_get : (n : ℕ) (s d : Endpoint) (q : ℕ) (fs : List FrameText) (k : ℕ) (bytes : List ℕ) →
    slice_get (wires n s d q fs) k ≡ Some bytes → IsWire n s d (q + k) fs k bytes
wires_get n s d q [] k bytes h = absurd (grind arith)
wires_get n s d q (f ∷ fs) zero bytes h =
    record {
      frame = f;
      there = refl;
      bytes_are = sym (same_Some (wire n s d q f) bytes h) ∙
          ap (λ (k : ℕ). wire n s d k f) (omega arith);
    }
wires_get n s d q (f ∷ fs) (suc k) bytes h =
    let w : IsWire n s d (suc q + k) fs k bytes = wires_get n s d (suc q) fs k bytes h in
    record {
      frame = w.frame;
      there = w.there;
      bytes_are =
          w.bytes_are ∙ ap (λ (j : ℕ). wire n s d j w.frame) (omega arith);
    }
