-- Frames that stand in the order of the ranks that they go to are in it.
use Rattle.std.proofs.Common.{◌≡◌, ℕ, zero, suc, ◌+◌, ◌<◌, ◌≤◌, ◌==◌, inl, inr, append_assoc, Bool, cond, List, [], ◌∷◌}
use Rattle.std.proofs.Common.{◌++◌, length, map, filter, take, get_or, refl, sym, ap, subst, ◌∙◌, arith}
use Rattle.std.specs.List.{AllByRecursion}
use Rattle.std.proofs.lemmas.Bool.{cases_order, eq-eqb, ne_eqb}
use Rattle.std.proofs.lemmas.List.{append-nil, map_more}
use Rattle.std.proofs.lemmas.List.Elements.{filter-append}
use Rattle.datagram.specs.Spellings.{OutgoingText}
use Rattle.engine_calls.specs.Frames.{by_rank}
use Rattle.engine_calls.specs.Steps.{written}
use Rattle.engine_calls.specs.declared.frames.Written.{Written}

-- it goes to this rank at most
abbrev pub IsUpTo : ℕ → OutgoingText → Type 0
IsUpTo m f = f.target ≤ m

-- those that go to a rank
abbrev those : ℕ → List OutgoingText → List OutgoingText
those k fs = filter (λ (f : OutgoingText). f.target == k) fs

one_is : (k : ℕ) (f : OutgoingText) → f.target ≡ k → those k (f ∷ []) ≡ f ∷ []
one_is k f is = ap (λ (t : Bool). cond t (f ∷ []) []) (eq-eqb f.target k is)

one_not : (k : ℕ) (f : OutgoingText) → (f.target ≡ k → ⊥) → those k (f ∷ []) ≡ []
one_not k f not_it = ap (λ (t : Bool). cond t (f ∷ []) []) (ne_eqb f.target k not_it)

-- nothing goes to a rank above all
none_above : (k m : ℕ) (fs : List OutgoingText) → m < k → AllByRecursion (IsUpTo m) fs → those k fs ≡ []
none_above k m [] above all = refl
none_above k m (f ∷ fs) above all =
    ap (λ (t : Bool). cond t (f ∷ those k fs) (those k fs))
    (ne_eqb f.target k (λ same. omega (arith, same, above, all.0)))
    ∙ none_above k m fs above all.1

-- what goes to a rank from k on is none of the first k
beyond : (k : ℕ) (fs : List OutgoingText) (f : OutgoingText) → k ≤ f.target → by_rank k (fs ++ f ∷ []) ≡ by_rank k fs
beyond zero fs f from = refl
beyond (suc k) fs f from =
    ap (λ (t : List OutgoingText). t ++ those k (fs ++ f ∷ [])) (beyond k fs f (omega (arith, from)))
    ∙ ap (λ (t : List OutgoingText). by_rank k fs ++ t)
    (filter-append (λ (g : OutgoingText). g.target == k) fs (f ∷ [])
    ∙ ap (λ (t : List OutgoingText). those k fs ++ t) (one_not k f (λ same. omega (arith, same, from)))
    ∙ append-nil (those k fs))

-- one to the highest rank of all
at_last : (k : ℕ) (fs : List OutgoingText) (f : OutgoingText) → f.target ≡ k → by_rank (suc k) (fs ++ f ∷ []) ≡
    by_rank (suc k) fs ++ f ∷ []
at_last k fs f same =
    ap (λ (t : List OutgoingText). t ++ those k (fs ++ f ∷ [])) (beyond k fs f (omega (arith, same)))
    ∙ ap (λ (t : List OutgoingText). by_rank k fs ++ t)
    (filter-append (λ (g : OutgoingText). g.target == k) fs (f ∷ []) ∙
    ap (λ (t : List OutgoingText). those k fs ++ t) (one_is k f same))
    ∙ sym (append_assoc (by_rank k fs) (those k fs) (f ∷ []))

-- one to a lower rank, where nothing goes to the highest
below_last : (k : ℕ) (fs : List OutgoingText) (f : OutgoingText) → f.target < k → AllByRecursion (IsUpTo f.target) fs →
    by_rank k (fs ++ f ∷ []) ≡ by_rank k fs ++ f ∷ [] → by_rank (suc k) (fs ++ f ∷ []) ≡ by_rank (suc k) fs ++ f ∷ []
below_last k fs f below all so =
    let none : those k fs ≡ [] = none_above k f.target fs below all in
    let more : those k (fs ++ f ∷ []) ≡ [] =
    filter-append (λ (g : OutgoingText). g.target == k) fs (f ∷ [])
    ∙ ap (λ (t : List OutgoingText). t ++ those k (f ∷ [])) none
    ∙ one_not k f (λ same. omega (arith, same, below)) in
    ap (λ (t : List OutgoingText). by_rank k (fs ++ f ∷ []) ++ t) more
    ∙ append-nil (by_rank k (fs ++ f ∷ []))
    ∙ so
    ∙ ap (λ (t : List OutgoingText). t ++ f ∷ [])
    (sym (ap (λ (t : List OutgoingText). by_rank k fs ++ t) none ∙ append-nil (by_rank k fs)))

-- one behind all, which goes to a rank that is none of theirs, or the highest of them
by_rank_last : (n : ℕ) (fs : List OutgoingText) (f : OutgoingText) → f.target < n →
    AllByRecursion (IsUpTo f.target) fs →
    by_rank n (fs ++ f ∷ []) ≡ by_rank n fs ++ f ∷ []
by_rank_last zero fs f below all = absurd (omega (arith, below))
by_rank_last (suc k) fs f below all =
    elim (cases_order f.target k) [
      | inl same ↦ at_last k fs f same
      | inr (inl under) ↦ below_last k fs f under all (by_rank_last k fs f under all)
      | inr (inr over) ↦ absurd (omega (arith, below, over))
    ]

all_up : (m n : ℕ) (fs : List OutgoingText) → m ≤ n → AllByRecursion (IsUpTo m) fs → AllByRecursion (IsUpTo n) fs
all_up m n [] up all = tt
all_up m n (f ∷ fs) up all = (omega (arith, up, all.0), all_up m n fs up all.1)

all_last : (m : ℕ) (fs : List OutgoingText) (f : OutgoingText) → AllByRecursion (IsUpTo m) fs → f.target ≤ m →
    AllByRecursion (IsUpTo m) (fs ++ f ∷ [])
all_last m [] f all is = (is, tt)
all_last m (g ∷ fs) f all is = (all.0, all_last m fs f all.1 is)

-- so many frames stand in the order of the ranks that they go to, the last of these ranks at most `last`
pub record AreOrdered (size last : ℕ) (ws : List Written) (frames : List OutgoingText) : Type 0 where
  pub frames_are : frames ≡ by_rank size (map written ws)
  pub all : AllByRecursion (IsUpTo last) (map written ws)

by_rank_none : (n : ℕ) → by_rank n [] ≡ []
by_rank_none zero = refl
by_rank_none (suc k) = ap (λ (t : List OutgoingText). t ++ []) (by_rank_none k)

-- before the first there is none
pub none_in_order : (size : ℕ) → AreOrdered size 0 [] []
none_in_order size = record { frames_are = sym (by_rank_none size); all = tt }

-- one more stands in it
pub one_in_order : (size last : ℕ) (ws : List Written) (i : ℕ) (d : Written) (before after : List OutgoingText) →
    i < length ws →
    (written (get_or ws i d)).target < size → last ≤ (written (get_or ws i d)).target →
    AreOrdered size last (take i ws) before →
    after ≡ before ++ written (get_or ws i d) ∷ [] →
    AreOrdered size (written (get_or ws i d)).target (take (i + 1) ws) after
one_in_order size last ws i d before after within there up was is =
    let f : OutgoingText = written (get_or ws i d) in
    let fs : List OutgoingText = map written (take i ws) in
    let more : map written (take (i + 1) ws) ≡ fs ++ f ∷ [] = map_more written ws i d within in
    let all : AllByRecursion (IsUpTo f.target) fs = all_up last f.target fs up was.all in
    record {
      frames_are = is ∙ ap (λ (t : List OutgoingText). t ++ f ∷ []) was.frames_are ∙
          sym (by_rank_last size fs f there all) ∙
          ap (by_rank size) (sym more);
      all = subst (λ (t : List OutgoingText). AllByRecursion (IsUpTo f.target) t) (sym more)
          (all_last f.target fs f all (omega arith));
    }

-- the same of one that stands at its place
pub one_in_order_as : (size last : ℕ) (ws : List Written) (i : ℕ) (w : Written) (before after : List OutgoingText) →
    w ≡ get_or ws i w → i < length ws →
    w.target < size → last ≤ w.target → AreOrdered size last (take i ws) before →
    after ≡ before ++ written w ∷ [] → AreOrdered size w.target (take (i + 1) ws) after
one_in_order_as size last ws i w before after at within there up was is =
    subst (λ (v : Written). v.target < size → last ≤ v.target → after ≡ before ++ written v ∷ [] →
    AreOrdered size v.target (take (i + 1) ws) after)
    (sym at) (λ t u e. one_in_order size last ws i w before after within t u was e) there up is
