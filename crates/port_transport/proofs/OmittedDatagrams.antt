-- What went of datagrams of which some may stay out.
use Rattle.std.proofs.Common.{◌≡◌, List, [], ◌∷◌, ◌++◌, refl, sym, ap, subst, inl, inr}
use Rattle.port_transport.specs.Wires.{Parcel}
use Rattle.port_transport.specs.Ports.{IsCoveredByNext, Thins}

-- each of them goes
pub all_go : (ps : List Parcel) → Thins ps ps
all_go [] = refl
all_go (p ∷ ps) = inl (ps, refl, all_go ps)

-- what is covered by the next one is so where more follows
covered_on : (a : Parcel) (ps qs : List Parcel) → IsCoveredByNext a ps → IsCoveredByNext a (ps ++ qs)
covered_on a [] qs is = absurd is
covered_on a (p ∷ ps) qs is = is

-- none of them goes only where there are none
none_go : (ps : List Parcel) → Thins ps [] → ps ≡ []
none_go [] is = refl
none_go (a ∷ ps) (inl goes) = absurd cc
none_go (a ∷ ps) (inr stays) =
    absurd (subst (λ (q : List Parcel). IsCoveredByNext a q) (none_go ps stays.1) stays.0)

first_of_equal : {A : Type 0} (x y : A) (xs ys : List A) → x ∷ xs ≡ y ∷ ys → x ≡ y
first_of_equal x y xs ys is = cc

rest_of_equal : {A : Type 0} (x y : A) (xs ys : List A) → x ∷ xs ≡ y ∷ ys → xs ≡ ys
rest_of_equal x y xs ys is = cc

-- at most one
abbrev pub IsAtMostOne : List Parcel → Type 0
IsAtMostOne [] = Unit {0}
IsAtMostOne (k ∷ []) = Unit {0}
IsAtMostOne (k ∷ l ∷ ks) = ⊥

-- Where at most one is kept back, what follows goes on behind it
pub joined : (ps went kept more later : List Parcel) → IsAtMostOne kept → Thins ps (went ++ kept) →
    Thins (kept ++ more) later → Thins (ps ++ more) (went ++ later)
joined [] [] kept more later few first then = subst (λ (k : List Parcel). Thins (k ++ more) later) first then
joined [] (w ∷ went) kept more later few first then = absurd cc
joined (a ∷ ps) went kept more later few (inr stays) then =
    inr (covered_on a ps more stays.0, joined ps went kept more later few stays.1 then)
joined (a ∷ ps) (w ∷ went) kept more later few (inl goes) then =
    let same : w ≡ a = first_of_equal w a (went ++ kept) goes.0 goes.1 in
    let rest : went ++ kept ≡ goes.0 = rest_of_equal w a (went ++ kept) goes.0 goes.1 in
    inl (
      went ++ later,
      ap (λ (x : Parcel). x ∷ (went ++ later)) same,
      joined ps went kept more later few (subst (λ (q : List Parcel). Thins ps q) (sym rest) goes.2) then,
    )
joined (a ∷ ps) [] [] more later few (inl goes) then = absurd cc
joined (a ∷ ps) [] (k ∷ []) more later few (inl goes) then =
    let same : k ≡ a = first_of_equal k a [] goes.0 goes.1 in
    let rest : [] ≡ goes.0 = rest_of_equal k a [] goes.0 goes.1 in
    let none : ps ≡ [] = none_go ps (subst (λ (q : List Parcel). Thins ps q) (sym rest) goes.2) in
    subst (λ (q : List Parcel). Thins ((a ∷ q) ++ more) later) (sym none)
    (subst (λ (x : Parcel). Thins (x ∷ more) later) same then)
joined (a ∷ ps) [] (k ∷ l ∷ kept) more later few goes then = absurd few
