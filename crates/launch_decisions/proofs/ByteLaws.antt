-- Numbers of the system's that are bytes.
use Rattle.std.proofs.Common.{◌≡◌, ◌<◌, ℕ, ℤ, pos, negsuc, Bool, true, false, refl, sym, ap, ◌∙◌}
use Rattle.std.specs.Prelude.{Option, Some, None, unsigned_abs, nat_lt, if◌then◌else◌}
use Rattle.std.specs.Int.{FitsUnsignedBits}
use Rattle.std.proofs.lemmas.Bool.{lt-ltb, ltb-true}
use Rattle.launch_decisions.specs.Endings.{byte_in}

chosen : (n : ℕ) (is : Bool) → is ≡ true → Some n ≡ (if is then Some n else None)
chosen n true q = refl
chosen n false q = absurd cc

-- one that a byte holds is read
pub read_byte : (number : ℤ) (byte : ℕ) → FitsUnsignedBits 8 number → byte ≡ unsigned_abs number →
    Some byte ≡ byte_in number
read_byte (pos n) byte fits is = ap (λ (b : ℕ). Some b) is ∙ chosen n (nat_lt n 256) (lt-ltb n 256 fits)
read_byte (negsuc n) byte fits is = absurd fits

unread_by : (n : ℕ) (is : Bool) → nat_lt n 256 ≡ is → ¬ (n < 256) → (if is then Some n else None) ≡ None
unread_by n true q greater = absurd (greater (ltb-true n 256 q))
unread_by n false q greater = refl

-- another one isn't
pub unread_byte : (number : ℤ) → ¬ (FitsUnsignedBits 8 number) → None ≡ byte_in number
unread_byte (pos n) greater = sym (unread_by n (nat_lt n 256) refl greater)
unread_byte (negsuc n) greater = refl
