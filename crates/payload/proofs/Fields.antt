-- A field that is read is the field that was written, and what was written is read again.
use Rattle.std.proofs.Common.{◌≡◌, ℕ, suc, ◌+◌, ◌^◌, ◌<◌, ◌≤◌, Bool, true, false, cond, eqb, List, ◌∷◌, ◌++◌, length}
use Rattle.std.proofs.Common.{get_or, take, drop, Option, Some, None, refl, sym, ap, ◌∙◌, arith, inl, inr, ◌⊎◌}
use Rattle.std.proofs.lemmas.Bool.{cases_lt, eqb-true}
use Rattle.std.proofs.lemmas.List.{take-append-drop, drop-drop, length-take, length-drop, get_or-drop, get_or-take}
use Rattle.std.proofs.lemmas.List.{get_or_past}
use Rattle.std.proofs.lemmas.Nat.{be_bytes_2, be_bytes_4, be_bytes_8}
use Rattle.std.proofs.Math.Seq.{drop-cons}
use Rattle.byteorder.specs.Endian.{big_bytes, big_number}
use Rattle.byteorder.specs.Numbers.{big_from-lt, big_from-take}
use Rattle.vocabulary.specs.declared.basic_type.BasicType.{BasicType}
use Rattle.payload.specs.declared.kind.CollectiveKind.{CollectiveKind}
use Rattle.payload.specs.declared.kind.Phase.{Phase}
use Rattle.vocabulary.specs.declared.operation.Operation.{Operation}
use Rattle.vocabulary.specs.BasicTypes.{code_of, type_at}
use Rattle.payload.specs.Codes.{kind_code, kind_at, phase_code, phase_at}
use Rattle.vocabulary.specs.Operations.{operation_at, operation_code}
use Rattle.payload.specs.ByteMeanings.{◌>>=◌, given, number_at}

abbrev pub IsBytes : List ℕ → Type 0
IsBytes bytes = (i : ℕ) → get_or bytes i 0 < 256

pub IsBytes-drop : (n : ℕ) (bytes : List ℕ) → IsBytes bytes → IsBytes (drop n bytes)
IsBytes-drop n bytes h i = rw get_or-drop (h (n + i))

pub IsBytes-take : (n : ℕ) (bytes : List ℕ) → IsBytes bytes → IsBytes (take n bytes)
IsBytes-take n bytes h i =
    elim (cases_lt i n) [
      | inl lt ↦ rw (get_or-take n bytes i 0 lt) (h i)
      | inr le ↦ rw (get_or_past (take n bytes) i 0 (omega (arith, length-take n bytes))) (omega arith)
    ]

-- ---- steps that gave something

pub bind_some : {A B : Type 0} (o : Option A) (f : A → Option B) (y : B) → (o >>= f) ≡ Some y →
    (x : A) × (o ≡ Some x) × (f x ≡ Some y)
bind_some (Some x) f y e = (x, refl, e)
bind_some None f y e = absurd cc

pub given_some : {A : Type 0} (b : Bool) (next : Option A) (y : A) → given b next ≡ Some y →
    (b ≡ true) × (next ≡ Some y)
given_some true next y e = (refl, e)
given_some false next y e = absurd cc

abbrev pub there : {A : Type 0} → A → Option A
there x = Some x

abbrev pub nothing : Option ℕ
nothing = None

pub some_is : {A : Type 0} (x y : A) → there x ≡ there y → x ≡ y
some_is x y e = cc

-- ---- numbers

pub record IsWide (n : ℕ) : Type 0 where
  pub back : (bytes : List ℕ) → length bytes ≡ n → IsBytes bytes → big_bytes n (big_number n bytes) ≡ bytes

pub wide2 : IsWide 2
wide2 = record { back = λ bytes len fits. be_bytes_2 bytes _ len fits (omega arith) }

pub wide4 : IsWide 4
wide4 = record { back = λ bytes len fits. be_bytes_4 bytes _ len fits (omega arith) }

pub wide8 : IsWide 8
wide8 = record { back = λ bytes len fits. be_bytes_8 bytes _ len fits (omega arith) }

-- the bytes from place i are those of the number there, and then the rest
pub number_takes : (n i : ℕ) (wide : IsWide n) (bytes : List ℕ) → IsBytes bytes → i + n ≤ length bytes →
    drop i bytes ≡ big_bytes n (number_at i n bytes) ++ drop (i + n) bytes
number_takes n i wide bytes fits long =
    let front = take n (drop i bytes) in
    let len : length front ≡ n = omega (arith, length-take n (drop i bytes), length-drop i bytes) in
    let same : big_number n front ≡ number_at i n bytes = big_from-take 0 n n (drop i bytes) (omega arith) in
    let whole : big_bytes n (number_at i n bytes) ≡ front = ap (big_bytes n) (sym same) ∙ wide.back front len (IsBytes-take n (drop i bytes) (IsBytes-drop i bytes fits)) in
    sym (take-append-drop n (drop i bytes)) ∙ ap (λ (t : List ℕ). t ++ drop n (drop i bytes)) (sym whole) ∙
    ap (λ (t : List ℕ). big_bytes n (number_at i n bytes) ++ t) (drop-drop n i bytes)

pub byte_takes : (i : ℕ) (bytes : List ℕ) → i < length bytes → drop i bytes ≡ get_or bytes i 0 ∷ drop (suc i) bytes
byte_takes i bytes long = drop-cons bytes i 0 long

pub number_fits : (i n : ℕ) (bytes : List ℕ) → IsBytes bytes → number_at i n bytes < 256 ^ n
number_fits i n bytes fits = big_from-lt 0 n (drop i bytes) (IsBytes-drop i bytes fits)

-- ---- codes

test : {A : Type 0} (b : Bool) (x y : A) (o : Option A) → cond b (Some x) o ≡ Some y →
    ((b ≡ true) × (x ≡ y)) ⊎ (o ≡ Some y)
test true x y o e = inl (refl, cc)
test false x y o e = inr e

none : {A P : Type 0} (y : A) → None ≡ Some y → P
none y e = absurd cc

-- one row of a table of codes
row : {A : Type 0} (code_of : A → ℕ) (code n : ℕ) (x y : A) (o : Option A) → cond (eqb code n) (Some x) o ≡ Some y →
    code_of x ≡ n → (o ≡ Some y → code_of y ≡ code) → code_of y ≡ code
row code_of code n x y o e is rest =
    elim (test (eqb code n) x y o e) [
      | inl h ↦ ap code_of (sym h.1) ∙ is ∙ sym (eqb-true code n h.0)
      | inr h ↦ rest h
    ]

pub kind_back : (code : ℕ) (y : CollectiveKind) → kind_at code ≡ Some y → kind_code y ≡ code
kind_back code y e =
    row kind_code code _ _ y _ e refl
    (λ e1. row kind_code code _ _ y _ e1 refl (λ e2. row kind_code code _ _ y _ e2 refl
    (λ e3. row kind_code code _ _ y _ e3 refl
    (λ e4. row kind_code code _ _ y _ e4 refl (λ e5. row kind_code code _ _ y _ e5 refl
    (λ e6. row kind_code code _ _ y _ e6 refl (λ e7. row kind_code code _ _ y _ e7 refl (none y))))))))

pub phase_back : (code : ℕ) (y : Phase) → phase_at code ≡ Some y → phase_code y ≡ code
phase_back code y e =
    row phase_code code _ _ y _ e refl
    (λ e1. row phase_code code _ _ y _ e1 refl (λ e2. row phase_code code _ _ y _ e2 refl (none y)))

pub operation_back : (code : ℕ) (y : Operation) → operation_at code ≡ Some y → operation_code y ≡ code
operation_back code y e =
    row operation_code code _ _ y _ e refl
    (λ e1. row operation_code code _ _ y _ e1 refl (λ e2. row operation_code code _ _ y _ e2 refl
    (λ e3. row operation_code code _ _ y _ e3 refl
    (λ e4. row operation_code code _ _ y _ e4 refl (λ e5. row operation_code code _ _ y _ e5 refl
    (λ e6. row operation_code code _ _ y _ e6 refl
    (λ e7. row operation_code code _ _ y _ e7 refl (λ e8. row operation_code code _ _ y _ e8 refl
    (λ e9. row operation_code code _ _ y _ e9 refl (λ e10. row operation_code code _ _ y _ e10 refl (none y)))))))))))

pub basic_back : (code : ℕ) (y : BasicType) → type_at code ≡ Some y → code_of y ≡ code
basic_back code y e =
    row code_of code _ _ y _ e refl (λ e1. row code_of code _ _ y _ e1 refl (λ e2. row code_of code _ _ y _ e2 refl
    (λ e3. row code_of code _ _ y _ e3 refl
    (λ e4. row code_of code _ _ y _ e4 refl (λ e5. row code_of code _ _ y _ e5 refl
    (λ e6. row code_of code _ _ y _ e6 refl
    (λ e7. row code_of code _ _ y _ e7 refl (λ e8. row code_of code _ _ y _ e8 refl
    (λ e9. row code_of code _ _ y _ e9 refl (λ e10. row code_of code _ _ y _ e10 refl (none y)))))))))))
