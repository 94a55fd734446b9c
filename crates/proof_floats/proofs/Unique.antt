-- Two floats of one format that are the same number are the same.
use Rattle.std.proofs.Common.{◌≡◌, ℕ, ◌+◌, ◌-◌, ◌*◌, ◌/◌, ◌^◌, ◌<◌, ◌≤◌, Bool, true, false, cond, refl, sym, ◌∙◌, ap}
use Rattle.std.proofs.Common.{subst, le_of_eq}
use Rattle.std.proofs.Common.{zero-lt-suc, mul_assoc}
use Rattle.std.proofs.Math.Nat.{le_antisymm, mul_comm, mul_right_comm}
use lib.Dec.{T}
use lib.Pow.{pow_pos}
use lib.IntN.{ℤ, pos, negsuc}
use lib.Ieee.{Float, nan, inf, fin, Format, prec, hid, top, up, down, low, size, fits, to_bits, of_bits}
use lib.Ieee.Bits.{of_bits-to_bits}
use lib.Ieee.Exact.{HasValue}
use lib.Ieee.Fits.{down_pos}
use lib.Ieee.Nearest.{div_same}
use lib.Ieee.Order.{transfer}

-- both stand for one number: as fractions they are the same
crossed : (x y p q a b c d : ℕ) → 0 < c → 0 < d → x * c ≡ a * p → y * d ≡ b * q → a * d ≡ b * c → x * q ≡ y * p
crossed x y p q a b c d cp dp hx hy same =
    le_antisymm (transfer x y p q a b c d cp dp hx hy (le_of_eq same))
    (transfer y x q p b a d c dp cp hy hx (le_of_eq (sym same)))

scaled : (x y p q k : ℕ) → x * q ≡ y * p → x * k * q ≡ y * k * p
scaled x y p q k same = mul_right_comm x k q ∙ ap (λ (n : ℕ). n * k) same ∙ mul_right_comm y p k

-- the pattern of a number, by its magnitude in units of the least value
abbrev pattern : Format → Bool → ℕ → ℕ
pattern f s n = cond s (top f) 0 + (size n - prec f) * hid f + n / 2 ^ (size n - prec f)

same_pattern : (f : Format) (s t : Bool) (m n : ℕ) (e g : ℤ) →
    s ≡ t → m * up e * 2 ^ low f / down e ≡ n * up g * 2 ^ low f / down g →
    to_bits f (fin s m e) ≡ to_bits f (fin t n g)
unfolding to_bits
same_pattern f s t m n e g signs same =
    ap (λ (b : Bool). pattern f b (m * up e * 2 ^ low f / down e)) signs ∙ ap (λ (k : ℕ). pattern f t k) same

pub unique : (f : Format) (x y : Float) (s : Bool) (a b c d : ℕ) →
    T (fits f x) → T (fits f y) → 0 < c → 0 < d → a * d ≡ b * c → HasValue x s a c → HasValue y s b d → x ≡ y
unique f nan y s a b c d fx fy cp dp same hx hy = absurd hx
unique f (inf t) y s a b c d fx fy cp dp same hx hy = absurd hx
unique f (fin t m e) nan s a b c d fx fy cp dp same hx hy = absurd hy
unique f (fin t m e) (inf u) s a b c d fx fy cp dp same hx hy = absurd hy
unique f (fin t m e) (fin u n g) s a b c d fx fy cp dp same hx hy =
    let units : m * up e * 2 ^ low f / down e ≡ n * up g * 2 ^ low f / down g =
    div_same (m * up e * 2 ^ low f) (down e) (n * up g * 2 ^ low f) (down g) (down_pos e) (down_pos g)
    (scaled (m * up e) (n * up g) (down e) (down g) (2 ^ low f)
    (crossed (m * up e) (n * up g) (down e) (down g) a b c d cp dp hx.1 hy.1 same)) in
    sym (of_bits-to_bits f (fin t m e) fx)
    ∙ ap (λ (k : ℕ). of_bits f k) (same_pattern f t u m n e g (hx.0 ∙ sym hy.0) units)
    ∙ of_bits-to_bits f (fin u n g) fy
