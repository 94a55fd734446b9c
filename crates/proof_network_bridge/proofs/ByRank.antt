-- What an event sends goes out by rising rank: each link takes in the same as if it went out in its own order.
use Rattle.std.proofs.Common.{◌≡◌, inl, inr, ℕ, zero, suc, ◌<◌, ◌≤◌, Bool, true, false, cond, ◌&&◌, ◌==◌, List, [], ◌∷◌}
use Rattle.std.proofs.Common.{◌++◌, if◌then◌else◌, refl, sym, ap, ◌∙◌, arith, append-nil, append_assoc}
use Rattle.std.specs.Prelude.{filter}
use Rattle.std.specs.List.{AllByRecursion}
use Rattle.std.proofs.lemmas.Bool.{cases_lt, eqb-false, eqb-true}
use mathlib.Core.Path.{fun_ext}
use Rattle.datagram.specs.Spellings.{FrameText, OutgoingText}
use Rattle.engine_calls.specs.Frames.{by_rank}
use Rattle.perfect_queues.proofs.EndpointLemmas.{same_eq}
use Rattle.proof_link_truth.proofs.Lists.{All_append}
use Rattle.proof_link_truth.specs.Events.{all_addressed}
use Rattle.endpoint_links.specs.Links.{LinkOf, LinksOf, accept, accept_all}
use Rattle.sessions.specs.SessionsState.{known_endpoint}
use Rattle.vocabulary.specs.Endpoints.{is_same}
use Rattle.vocabulary.specs.declared.endpoint.Endpoint.{Endpoint}

-- ---- what a link takes in

-- what of this goes to an endpoint, in its order
abbrev pub goes_to : {F : Type 0} → Endpoint → List (Endpoint × F) → List F
goes_to d [] = []
goes_to d (x ∷ xs) = if is_same d x.0 then x.1 ∷ goes_to d xs else goes_to d xs

-- a link that took in this in all
abbrev pub link_with : {F : Type 0} → LinkOf F → List F → LinkOf F
link_with l fs = record { accepted = fs; handed = l.handed }

-- a link once it took this in, if it is one of the sender
abbrev pub link_after : {F : Type 0} → (is_own : Bool) → LinkOf F → List F → LinkOf F
link_after true l fs = link_with l (l.accepted ++ fs)
link_after false l fs = l

-- one thing more
accept_is : {F : Type 0} (links : LinksOf F) (e : Endpoint) (x : Endpoint × F) (s d : Endpoint) →
    accept links e x s d ≡ link_after (is_same s e) (links s d) (goes_to d (x ∷ []))
accept_is {F} links e x s d = go (is_same s e) (is_same d x.0) refl refl
  where
    go : (a b : Bool) → is_same s e ≡ a → is_same d x.0 ≡ b →
        (if a && b then record (links e x.0) { accepted = (links e x.0).accepted ++ x.1 ∷ [] } else links s d) ≡
        link_after a (links s d) (if b then x.1 ∷ [] else [])
    go false b p q = refl
    go true false p q = ap (λ (fs : List F). link_with (links s d) fs) (sym (append-nil (links s d).accepted))
    go true true p q =
        ap (λ (z : Endpoint). link_with (links z x.0) ((links z x.0).accepted ++ x.1 ∷ [])) (sym (same_eq s e p))
        ∙ ap (λ (z : Endpoint). link_with (links s z) ((links s z).accepted ++ x.1 ∷ [])) (sym (same_eq d x.0 q))

-- nothing more
none_more : {F : Type 0} (own : Bool) (l : LinkOf F) → l ≡ link_after own l []
none_more false l = refl
none_more {F} true l = ap (λ (fs : List F). link_with l fs) (sym (append-nil l.accepted))

-- one thing, and then more
then_more : {F : Type 0} (own : Bool) (l : LinkOf F) (fs gs : List F) → link_after own (link_after own l fs) gs ≡
    link_after own l (fs ++ gs)
then_more false l fs gs = refl
then_more {F} true l fs gs = ap (λ (hs : List F). link_with l hs) (append_assoc l.accepted fs gs)

goes_then : {F : Type 0} (d : Endpoint) (x : Endpoint × F) (xs : List (Endpoint × F)) →
    goes_to d (x ∷ []) ++ goes_to d xs ≡ goes_to d (x ∷ xs)
goes_then {F} d x xs = go (is_same d x.0)
  where
    go : (t : Bool) → (if t then x.1 ∷ [] else []) ++ goes_to d xs ≡ (if t then x.1 ∷ goes_to d xs else goes_to d xs)
    go true = refl
    go false = refl

-- all of it: a link of the sender takes in what goes to its receiver
pub accept_all_is : {F : Type 0} (links : LinksOf F) (e : Endpoint) (xs : List (Endpoint × F)) (s d : Endpoint) →
    accept_all links e xs s d ≡ link_after (is_same s e) (links s d) (goes_to d xs)
accept_all_is links e [] s d = none_more (is_same s e) (links s d)
accept_all_is {F} links e (x ∷ xs) s d =
    accept_all_is (accept links e x) e xs s d
    ∙ (ap (λ (l : LinkOf F). link_after (is_same s e) l (goes_to d xs)) (accept_is links e x s d)
    ∙ (then_more (is_same s e) (links s d) (goes_to d (x ∷ [])) (goes_to d xs)
    ∙ ap (λ (fs : List F). link_after (is_same s e) (links s d) fs) (goes_then d x xs)))

-- links are the same where the same goes to each endpoint
pub links_same : {F : Type 0} (links : LinksOf F) (e : Endpoint) (xs ys : List (Endpoint × F)) →
    ((d : Endpoint) → goes_to d xs ≡ goes_to d ys) →
    accept_all links e xs ≡ accept_all links e ys
links_same {F} links e xs ys same = fun_ext (λ s. fun_ext (λ d.
    accept_all_is links e xs s d ∙
    (ap (λ (fs : List F). link_after (is_same s e) (links s d) fs) (same d) ∙ sym (accept_all_is links e ys s d))))

-- ---- by rank

-- what of frames for ranks goes to an endpoint
abbrev sent_to : (known : List ℕ) → Endpoint → List OutgoingText → List FrameText
sent_to known d fs = goes_to d (all_addressed known fs)

sent_append : (known : List ℕ) (d : Endpoint) (fs gs : List OutgoingText) →
    sent_to known d (fs ++ gs) ≡ sent_to known d fs ++ sent_to known d gs
sent_append known d [] gs = refl
sent_append known d (f ∷ fs) gs = go (is_same d (known_endpoint known f.target)) (sent_append known d fs gs)
  where
    go : (t : Bool) → sent_to known d (fs ++ gs) ≡ sent_to known d fs ++ sent_to known d gs →
        (if t then f.frame ∷ sent_to known d (fs ++ gs) else sent_to known d (fs ++ gs)) ≡
        (if t then f.frame ∷ sent_to known d fs else sent_to known d fs) ++ sent_to known d gs
    go true rest = ap (λ (ts : List FrameText). f.frame ∷ ts) rest
    go false rest = rest

-- an endpoint is not one of another rank
other_rank : (known : List ℕ) (d : Endpoint) (r : ℕ) → (d.rank ≡ r → ⊥) → is_same d (known_endpoint known r) ≡ false
other_rank known d r apart = go (is_same d (known_endpoint known r)) refl
  where
    go : (t : Bool) → is_same d (known_endpoint known r) ≡ t → t ≡ false
    go false h = refl
    go true h = absurd (apart (ap (λ (e : Endpoint). e.rank) (same_eq d (known_endpoint known r) h)))

-- the frames for one rank
abbrev for_rank : ℕ → List OutgoingText → List OutgoingText
for_rank k fs = filter (λ (f : OutgoingText). f.target == k) fs

-- of those for its rank all go to an endpoint that went there
for_own : (known : List ℕ) (d : Endpoint) (fs : List OutgoingText) → sent_to known d (for_rank d.rank fs) ≡
    sent_to known d fs
for_own known d [] = refl
for_own known d (f ∷ fs) = go (f.target == d.rank) refl (for_own known d fs)
  where
    go : (t : Bool) → (f.target == d.rank) ≡ t → sent_to known d (for_rank d.rank fs) ≡ sent_to known d fs →
        sent_to known d (cond t (f ∷ for_rank d.rank fs) (for_rank d.rank fs)) ≡ sent_to known d (f ∷ fs)
    go true h rest = kept (is_same d (known_endpoint known f.target))
      where
        kept : (t : Bool) →
            (if t then f.frame ∷ sent_to known d (for_rank d.rank fs) else sent_to known d (for_rank d.rank fs)) ≡
            (if t then f.frame ∷ sent_to known d fs else sent_to known d fs)
        kept true = ap (λ (ts : List FrameText). f.frame ∷ ts) rest
        kept false = rest
    go false h rest =
        rest ∙ ap (λ (t : Bool). if t then f.frame ∷ sent_to known d fs else sent_to known d fs)
        (sym (other_rank known d f.target (λ is. eqb-false f.target d.rank h (sym is))))

-- of those for another rank none
for_other : (known : List ℕ) (d : Endpoint) (k : ℕ) (fs : List OutgoingText) →
    (d.rank ≡ k → ⊥) → sent_to known d (for_rank k fs) ≡ []
for_other known d k [] apart = refl
for_other known d k (f ∷ fs) apart = go (f.target == k) refl (for_other known d k fs apart)
  where
    go : (t : Bool) → (f.target == k) ≡ t → sent_to known d (for_rank k fs) ≡ [] →
        sent_to known d (cond t (f ∷ for_rank k fs) (for_rank k fs)) ≡ []
    go false h rest = rest
    go true h rest =
        ap (λ (t : Bool). if t then f.frame ∷ sent_to known d (for_rank k fs) else sent_to known d (for_rank k fs))
        (other_rank known d f.target (λ is. apart (is ∙ eqb-true f.target k h)))
        ∙ rest

-- of those for ranks up to its own, none
none_below : (known : List ℕ) (d : Endpoint) (k : ℕ) (fs : List OutgoingText) → k ≤ d.rank →
    sent_to known d (by_rank k fs) ≡
    []
none_below known d zero fs le = refl
none_below known d (suc k) fs le =
    sent_append known d (by_rank k fs) (for_rank k fs)
    ∙ (ap (λ (ts : List FrameText). ts ++ sent_to known d (for_rank k fs)) (none_below known d k fs (omega (arith, le)))
    ∙ for_other known d k fs (λ is. omega (arith, le, is)))

-- of those for ranks beyond its own, all
all_below : (known : List ℕ) (d : Endpoint) (k : ℕ) (fs : List OutgoingText) → d.rank < k →
    sent_to known d (by_rank k fs) ≡
    sent_to known d fs
all_below known d zero fs lt = absurd (omega (arith, lt))
all_below known d (suc k) fs lt =
    elim (cases_lt d.rank k) [
      | inl less ↦
          sent_append known d (by_rank k fs) (for_rank k fs)
          ∙ (ap (λ (ts : List FrameText). sent_to known d (by_rank k fs) ++ ts)
          (for_other known d k fs (λ is. omega (arith, less, is)))
          ∙ (append-nil (sent_to known d (by_rank k fs)) ∙ all_below known d k fs less))
      | inr most ↦
          sent_append known d (by_rank k fs) (for_rank k fs)
          ∙ (ap (λ (ts : List FrameText). ts ++ sent_to known d (for_rank k fs)) (none_below known d k fs most)
          ∙ (ap (λ (j : ℕ). sent_to known d (for_rank j fs)) (is k lt most) ∙ for_own known d fs))
    ]
  where
    is : (k : ℕ) → d.rank < suc k → k ≤ d.rank → k ≡ d.rank
    is k lt le = omega (arith, lt, le)

-- frames for ranks below n, so for none from n on
none_beyond : (n : ℕ) (known : List ℕ) (d : Endpoint) (fs : List OutgoingText) → n ≤ d.rank →
    AllByRecursion (λ (f : OutgoingText). f.target < n) fs → sent_to known d fs ≡ []
none_beyond n known d [] le all = refl
none_beyond n known d (f ∷ fs) le all =
    ap (λ (t : Bool). if t then f.frame ∷ sent_to known d fs else sent_to known d fs)
    (other_rank known d f.target (λ is. let there : f.target < n = all.0 in omega (arith, there, le, is)))
    ∙ none_beyond n known d fs le all.1

-- to each endpoint the same goes by rank
by_rank_goes : (n : ℕ) (known : List ℕ) (fs : List OutgoingText) (d : Endpoint) →
    AllByRecursion (λ (f : OutgoingText). f.target < n) fs →
    sent_to known d (by_rank n fs) ≡ sent_to known d fs
by_rank_goes n known fs d all =
    elim (cases_lt d.rank n) [
      | inl less ↦ all_below known d n fs less
      | inr most ↦ none_below known d n fs most ∙ sym (none_beyond n known d fs most all)
    ]

-- Frames for ranks below n that go out by rising rank leave the links as if they went out in their own order
pub by_rank_same : (n : ℕ) (links : LinksOf FrameText) (e : Endpoint) (known : List ℕ) (fs : List OutgoingText) →
    AllByRecursion (λ (f : OutgoingText). f.target < n) fs →
    accept_all links e (all_addressed known (by_rank n fs)) ≡ accept_all links e (all_addressed known fs)
by_rank_same n links e known fs all =
    links_same links e (all_addressed known (by_rank n fs)) (all_addressed known fs)
    (λ d. by_rank_goes n known fs d all)

-- ---- what holds of each

all_for : (P : OutgoingText → Type 0) (k : ℕ) (fs : List OutgoingText) → AllByRecursion P fs →
    AllByRecursion P (for_rank k fs)
all_for P k [] all = tt
all_for P k (f ∷ fs) all = go (f.target == k) (all_for P k fs all.1)
  where
    go : (t : Bool) → AllByRecursion P (for_rank k fs) → AllByRecursion P (cond t (f ∷ for_rank k fs) (for_rank k fs))
    go true rest = (all.0, rest)
    go false rest = rest

-- what holds of each frame holds of each by rank
pub all_by_rank : (P : OutgoingText → Type 0) (n : ℕ) (fs : List OutgoingText) → AllByRecursion P fs →
    AllByRecursion P (by_rank n fs)
all_by_rank P zero fs all = tt
all_by_rank P (suc k) fs all = All_append P (by_rank k fs) (for_rank k fs) (all_by_rank P k fs all) (all_for P k fs all)
