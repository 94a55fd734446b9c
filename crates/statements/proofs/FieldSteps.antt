-- Fields that don't depend on one another.
use Rattle.std.proofs.Common.{◌≡◌, Option, Some, None, refl}
use Rattle.tokens.specs.Results.{◌>>=◌}

pub two : {A B S : Type 0} (a : Option A) (b : Option B) (make : A → B → S) (s : S)
    → (a >>= λ x. b >>= λ y. Some (make x y)) ≡ Some s → (x : A) × (y : B) × (a ≡ Some x) × (b ≡ Some y) ×
    (make x y ≡ s)
two (Some x) (Some y) make s h = (x, y, refl, refl, cc)
two None b make s h = absurd cc
two (Some x) None make s h = absurd cc

pub three : {A B C S : Type 0} (a : Option A) (b : Option B) (c : Option C) (make : A → B → C → S) (s : S)
    → (a >>= λ x. b >>= λ y. c >>= λ z. Some (make x y z)) ≡ Some s
    → (x : A) × (y : B) × (z : C) × (a ≡ Some x) × (b ≡ Some y) × (c ≡ Some z) × (make x y z ≡ s)
three (Some x) (Some y) (Some z) make s h = (x, y, z, refl, refl, refl, cc)
three None b c make s h = absurd cc
three (Some x) None c make s h = absurd cc
three (Some x) (Some y) None make s h = absurd cc

pub four : {A B C D S : Type 0} (a : Option A) (b : Option B) (c : Option C) (d : Option D) (make : A → B → C → D →
    S) (s : S)
    → (a >>= λ x. b >>= λ y. c >>= λ z. d >>= λ u. Some (make x y z u)) ≡ Some s
    → (x : A) × (y : B) × (z : C) × (u : D) × (a ≡ Some x) × (b ≡ Some y) × (c ≡ Some z) × (d ≡ Some u) ×
    (make x y z u ≡ s)
four (Some x) (Some y) (Some z) (Some u) make s h = (x, y, z, u, refl, refl, refl, refl, cc)
four None b c d make s h = absurd cc
four (Some x) None c d make s h = absurd cc
four (Some x) (Some y) None d make s h = absurd cc
four (Some x) (Some y) (Some z) None make s h = absurd cc

pub five : {A B C D E S : Type 0} (a : Option A) (b : Option B) (c : Option C) (d : Option D) (e : Option E) (make : A →
    B → C → D → E → S) (s : S)
    → (a >>= λ x. b >>= λ y. c >>= λ z. d >>= λ u. e >>= λ v. Some (make x y z u v)) ≡ Some s
    → (x : A) × (y : B) × (z : C) × (u : D) × (v : E) × (a ≡ Some x) × (b ≡ Some y) × (c ≡ Some z) × (d ≡ Some u) ×
    (e ≡ Some v) × (make x y z u v ≡ s)
five (Some x) (Some y) (Some z) (Some u) (Some v) make s h = (x, y, z, u, v, refl, refl, refl, refl, refl, cc)
five None b c d e make s h = absurd cc
five (Some x) None c d e make s h = absurd cc
five (Some x) (Some y) None d e make s h = absurd cc
five (Some x) (Some y) (Some z) None e make s h = absurd cc
five (Some x) (Some y) (Some z) (Some u) None make s h = absurd cc
