-- What the code of plans in rounds adds to a plan, piece by piece.
use Rattle.std.proofs.Common.{◌≡◌, ◌<◌, ◌≤◌, ℕ, zero, suc, ◌+◌, ◌-◌, ◌/◌, ◌%◌, Bool, true, false, List, [], ◌∷◌, ◌++◌}
use Rattle.std.proofs.Common.{if◌then◌else◌, ◌==◌, nat_lt, refl, sym, ap, ap₂, ◌∙◌, arith, append_assoc, append-nil}
use Rattle.std.proofs.lemmas.Bool.{lt-ltb, le-ltb, ltb-true, ltb-false}
use Rattle.collective_plans.specs.declared.plan.Slot.{Slot}
use Rattle.collective_plans.specs.declared.plan.Slot.TheVariants.{Given, Got, Kept}
use Rattle.collective_plans.specs.declared.plan.Step.{Step}
use Rattle.collective_plans.specs.declared.plan.Step.TheVariants.{Copy, Fold, Receive, Send}
use Rattle.collective_plans.specs.Rounds.{Each, Pairs, Round, Shift, copies_of, doubling, exchanging_in_rounds}
use Rattle.collective_plans.specs.Rounds.{gathering_in_rounds, going, in_rounds, more_of, moved_on, on}
use Rattle.collective_plans.specs.Rounds.{passing, put_where}
use Rattle.collective_plans.specs.Rounds.{receives_of, round_allgather, round_alltoall, sends_of, turned}
use Rattle.collective_plans.proofs.BruckProofs.{more_some}

-- a loop adds one more
pub one_more : (steps : ℕ → ℕ → List Step) (x : ℕ → Step) →
    ((i k : ℕ) → steps i (suc k) ≡ x i ∷ steps (suc i) k) → (old all : List Step) (i end : ℕ) → i < end →
    old ++ steps i (end - i) ≡ all → (old ++ x i ∷ []) ++ steps (i + 1) (end - (i + 1)) ≡ all
one_more steps x next old all i end lt h =
    ap (λ (y : ℕ). (old ++ x i ∷ []) ++ steps y (end - y)) after
    ∙ append_assoc old (x i ∷ []) (steps (suc i) (end - suc i))
    ∙ ap (λ (ss : List Step). old ++ ss) (sym (next i (end - suc i)) ∙ ap (λ (k : ℕ). steps i k) is)
    ∙ h
  where
    after : i + 1 ≡ suc i
    after = omega arith

    is : suc (end - suc i) ≡ end - i
    is = omega (arith, lt)

-- or it adds one more where something holds of its place
pub one_more_if : (steps : ℕ → ℕ → List Step) (holds : ℕ → Bool) (x : ℕ → Step) →
    ((i k : ℕ) → steps i (suc k) ≡ (if holds i then x i ∷ steps (suc i) k else steps (suc i) k)) →
    (old all : List Step) (i end : ℕ) → i < end → old ++ steps i (end - i) ≡ all →
    (old ++ (if holds i then x i ∷ [] else [])) ++ steps (i + 1) (end - (i + 1)) ≡ all
one_more_if steps holds x next old all i end lt h =
    ap (λ (y : ℕ). (old ++ (if holds i then x i ∷ [] else [])) ++ steps y (end - y)) after
    ∙ append_assoc old (if holds i then x i ∷ [] else []) (steps (suc i) (end - suc i))
    ∙ ap (λ (ss : List Step). old ++ ss) (go (holds i) ∙ sym (next i (end - suc i))
    ∙ ap (λ (k : ℕ). steps i k) is)
    ∙ h
  where
    after : i + 1 ≡ suc i
    after = omega arith

    is : suc (end - suc i) ≡ end - i
    is = omega (arith, lt)

    go : (c : Bool) → (if c then x i ∷ [] else []) ++ steps (suc i) (end - suc i) ≡
        (if c then x i ∷ steps (suc i) (end - suc i) else steps (suc i) (end - suc i))
    go true = refl
    go false = refl

-- what goes on, and what comes on, place by place
pub going_sends : (to d i k : ℕ) → sends_of to (going d i (suc k)) [] ≡
    (if i / d % 2 == 1 then Send to (Kept i) ∷ sends_of to (going d (suc i) k) [] else
    sends_of to (going d (suc i) k) [])
going_sends to d i k = go (i / d % 2 == 1)
  where
    go : (t : Bool) → sends_of to (if t then (Kept i, Kept i) ∷ going d (suc i) k else going d (suc i) k) [] ≡
        (if t then Send to (Kept i) ∷ sends_of to (going d (suc i) k) [] else sends_of to (going d (suc i) k) [])
    go true = refl
    go false = refl

pub going_receives : (s d i k : ℕ) → receives_of s (going d i (suc k)) [] ≡
    (if i / d % 2 == 1 then Receive s (Kept i) ∷ receives_of s (going d (suc i) k) [] else
    receives_of s (going d (suc i) k) [])
going_receives s d i k = go (i / d % 2 == 1)
  where
    go : (t : Bool) → receives_of s (if t then (Kept i, Kept i) ∷ going d (suc i) k else going d (suc i) k) [] ≡
        (if t then Receive s (Kept i) ∷ receives_of s (going d (suc i) k) [] else
        receives_of s (going d (suc i) k) [])
    go true = refl
    go false = refl

-- what stands behind steps
pub sends_then : (to : ℕ) (ps : Pairs) (rest : List Step) → sends_of to ps rest ≡ sends_of to ps [] ++ rest
sends_then to [] rest = refl
sends_then to (p ∷ ps) rest = ap (λ (ss : List Step). Send to p.0 ∷ ss) (sends_then to ps rest)

pub receives_then : (s : ℕ) (ps : Pairs) (rest : List Step) → receives_of s ps rest ≡ receives_of s ps [] ++ rest
receives_then s [] rest = refl
receives_then s (p ∷ ps) rest = ap (λ (ss : List Step). Receive s p.1 ∷ ss) (receives_then s ps rest)

pub copies_then : (ps : Pairs) (rest : List Step) → copies_of ps rest ≡ copies_of ps [] ++ rest
copies_then [] rest = refl
copies_then (p ∷ ps) rest = ap (λ (ss : List Step). Copy p.0 p.1 ∷ ss) (copies_then ps rest)

-- where blocks go to makes no difference to who sends them
first_sends : (to i k a b : ℕ) → sends_of to (moved_on i k a) [] ≡ sends_of to (moved_on i k b) []
first_sends to i zero a b = refl
first_sends to i (suc k) a b = ap (λ (ss : List Step). Send to (Kept i) ∷ ss) (first_sends to (suc i) k a b)

-- how many rounds there may be makes no difference, where they are enough
doubling_enough : (k j n d : ℕ) → 0 < d → n ≤ d + k → n ≤ d + j → doubling k n d ≡ doubling j n d
doubling_enough zero zero n d some u v = refl
doubling_enough zero (suc j) n d some u v = sym (ap (λ (t : Bool). if t then
    Shift (n - d) (moved_on 0 (more_of n d) d) ∷ doubling j n (d + more_of n d) else [])
    (le-ltb d n (omega (arith, u))))
doubling_enough (suc k) zero n d some u v = ap (λ (t : Bool). if t then
    Shift (n - d) (moved_on 0 (more_of n d) d) ∷ doubling k n (d + more_of n d) else [])
    (le-ltb d n (omega (arith, v)))
doubling_enough (suc k) (suc j) n d some u v =
    go (λ lt. doubling_enough k j n (d + more_of n d) (omega (arith, some))
    (let c : 0 < more_of n d = more_some n d some lt in omega (arith, u, c))
    (let c : 0 < more_of n d = more_some n d some lt in omega (arith, v, c))) (nat_lt d n) refl
  where
    go : (d < n → doubling k n (d + more_of n d) ≡ doubling j n (d + more_of n d)) → (t : Bool) → nat_lt d n ≡ t →
        (if t then Shift (n - d) (moved_on 0 (more_of n d) d) ∷ doubling k n (d + more_of n d) else []) ≡
        (if t then Shift (n - d) (moved_on 0 (more_of n d) d) ∷ doubling j n (d + more_of n d) else [])
    go ih true e = ap (λ (xs : List Round). Shift (n - d) (moved_on 0 (more_of n d) d) ∷ xs) (ih (ltb-true d n e))
    go ih false e = refl

passing_enough : (k j n d : ℕ) → 0 < d → n ≤ d + k → n ≤ d + j → passing k n d ≡ passing j n d
passing_enough zero zero n d some u v = refl
passing_enough zero (suc j) n d some u v = sym (ap (λ (t : Bool). if t then
    Shift d (going d 0 n) ∷ passing j n (d + d) else []) (le-ltb d n (omega (arith, u))))
passing_enough (suc k) zero n d some u v = ap (λ (t : Bool). if t then
    Shift d (going d 0 n) ∷ passing k n (d + d) else []) (le-ltb d n (omega (arith, v)))
passing_enough (suc k) (suc j) n d some u v =
    ap (λ (xs : List Round). if nat_lt d n then Shift d (going d 0 n) ∷ xs else [])
    (passing_enough k j n (d + d) (omega (arith, some)) (omega (arith, u, some)) (omega (arith, v, some)))

-- a member that has all takes part in no further round
pub doubling_done : (n r d : ℕ) → n ≤ d → in_rounds n r (doubling n n d) ≡ []
doubling_done zero r d le = refl
doubling_done (suc k) r d le = ap (λ (t : Bool). in_rounds (suc k) r (if t then
    Shift (suc k - d) (moved_on 0 (more_of (suc k) d) d) ∷ doubling k (suc k) (d + more_of (suc k) d) else []))
    (le-ltb d (suc k) le)

pub passing_done : (n r d : ℕ) → n ≤ d → in_rounds n r (passing n n d) ≡ []
passing_done zero r d le = refl
passing_done (suc k) r d le = ap (λ (t : Bool). in_rounds (suc k) r (if t then
    Shift d (going d 0 (suc k)) ∷ passing k (suc k) (d + d) else [])) (le-ltb d (suc k) le)

pub doubling_none : (n r d : ℕ) (old : List Step) → n ≤ d → old ≡ old ++ in_rounds n r (doubling n n d)
doubling_none n r d old le =
    sym (ap (λ (ss : List Step). old ++ ss) (doubling_done n r d le) ∙ append-nil old)

pub passing_none : (n r d : ℕ) (old : List Step) → n ≤ d → old ≡ old ++ in_rounds n r (passing n n d)
passing_none n r d old le =
    sym (ap (λ (ss : List Step). old ++ ss) (passing_done n r d le) ∙ append-nil old)

pub below : (a b : ℕ) → a ≤ b → (a ≡ b → ⊥) → a < b
below a b le ne = go (nat_lt a b) refl
  where
    go : (t : Bool) → nat_lt a b ≡ t → a < b
    go true e = ltb-true a b e
    go false e = let g : b ≤ a = ltb-false a b e in absurd (ne (omega (arith, le, g)))

-- one round, and those behind it
doubling_round : (k n r d : ℕ) → n ≡ suc k → 0 < d → d < n →
    in_rounds n r (doubling n n d) ≡
    sends_of (on n r (n - d)) (moved_on 0 (more_of n d) 0) [] ++
    (receives_of (on n r d) (moved_on 0 (more_of n d) d) [] ++ in_rounds n r (doubling n n (d + more_of n d)))
doubling_round k n r d is some lt =
    ap (λ (x : ℕ). in_rounds n r (doubling x n d)) is
    ∙ ap (λ (t : Bool). in_rounds n r (if t then
    Shift (n - d) (moved_on 0 (more_of n d) d) ∷ doubling k n (d + more_of n d) else [])) (lt-ltb d n lt)
    ∙ sends_then (on n r (n - d)) (moved_on 0 (more_of n d) d) _
    ∙ ap₂ (λ (ss us : List Step). ss ++ us) (first_sends (on n r (n - d)) 0 (more_of n d) d 0)
    (receives_then (on n r (n - (n - d))) (moved_on 0 (more_of n d) d) _
    ∙ ap₂ (λ (x : ℕ) (xs : List Round). receives_of (on n r x) (moved_on 0 (more_of n d) d) [] ++ in_rounds n r xs)
    back (doubling_enough k n n (d + more_of n d) (omega (arith, some))
    (let c : 0 < more_of n d = more_some n d some lt in omega (arith, is, some, c)) (omega (arith, some))))
  where
    back : n - (n - d) ≡ d
    back = omega (arith, lt)

pub doubling_more : (n r d : ℕ) (old : List Step) → 0 < d → d < n →
    ((old ++ sends_of (on n r (n - d)) (moved_on 0 (more_of n d) 0) []) ++
    receives_of (on n r d) (moved_on 0 (more_of n d) d) []) ++ in_rounds n r (doubling n n (d + more_of n d)) ≡
    old ++ in_rounds n r (doubling n n d)
doubling_more zero r d old some lt = absurd (omega (arith, lt))
doubling_more (suc k) r d old some lt =
    append_assoc (old ++ sends_of (on (suc k) r (suc k - d)) (moved_on 0 (more_of (suc k) d) 0) [])
    (receives_of (on (suc k) r d) (moved_on 0 (more_of (suc k) d) d) []) _
    ∙ append_assoc old (sends_of (on (suc k) r (suc k - d)) (moved_on 0 (more_of (suc k) d) 0) []) _
    ∙ ap (λ (ss : List Step). old ++ ss) (sym (doubling_round k (suc k) r d refl some lt))

passing_round : (k n r d : ℕ) → n ≡ suc k → 0 < d → d < n →
    in_rounds n r (passing n n d) ≡
    sends_of (on n r d) (going d 0 n) [] ++
    (receives_of (on n r (n - d)) (going d 0 n) [] ++ in_rounds n r (passing n n (d + d)))
passing_round k n r d is some lt =
    ap (λ (x : ℕ). in_rounds n r (passing x n d)) is
    ∙ ap (λ (t : Bool). in_rounds n r (if t then Shift d (going d 0 n) ∷ passing k n (d + d) else [])) (lt-ltb d n lt)
    ∙ sends_then (on n r d) (going d 0 n) _
    ∙ ap (λ (ss : List Step). sends_of (on n r d) (going d 0 n) [] ++ ss)
    (receives_then (on n r (n - d)) (going d 0 n) _
    ∙ ap (λ (xs : List Round). receives_of (on n r (n - d)) (going d 0 n) [] ++ in_rounds n r xs)
    (passing_enough k n n (d + d) (omega (arith, some)) (omega (arith, is, some)) (omega arith)))

pub passing_more : (n r d : ℕ) (old : List Step) → 0 < d → d < n →
    ((old ++ sends_of (on n r d) (going d 0 n) []) ++ receives_of (on n r (n - d)) (going d 0 n) []) ++
    in_rounds n r (passing n n (d + d)) ≡ old ++ in_rounds n r (passing n n d)
passing_more zero r d old some lt = absurd (omega (arith, lt))
passing_more (suc k) r d old some lt =
    append_assoc (old ++ sends_of (on (suc k) r d) (going d 0 (suc k)) [])
    (receives_of (on (suc k) r (suc k - d)) (going d 0 (suc k)) []) _
    ∙ append_assoc old (sends_of (on (suc k) r d) (going d 0 (suc k)) []) _
    ∙ ap (λ (ss : List Step). old ++ ss) (sym (passing_round k (suc k) r d refl some lt))

rounds_then : (n r : ℕ) (xs ys : List Round) → in_rounds n r (xs ++ ys) ≡ in_rounds n r xs ++ in_rounds n r ys
rounds_then n r [] ys = refl
rounds_then n r (Each c ∷ xs) ys =
    ap (λ (ss : List Step). copies_of (c r) ss) (rounds_then n r xs ys)
    ∙ copies_then (c r) (in_rounds n r xs ++ in_rounds n r ys)
    ∙ sym (append_assoc (copies_of (c r) []) (in_rounds n r xs) (in_rounds n r ys))
    ∙ ap (λ (ss : List Step). ss ++ in_rounds n r ys) (sym (copies_then (c r) (in_rounds n r xs)))
rounds_then n r (Shift d ps ∷ xs) ys =
    ap (λ (ss : List Step). sends_of (on n r d) ps (receives_of (on n r (n - d)) ps ss)) (rounds_then n r xs ys)
    ∙ shift (in_rounds n r xs ++ in_rounds n r ys)
    ∙ sym (append_assoc both (in_rounds n r xs) (in_rounds n r ys))
    ∙ ap (λ (ss : List Step). ss ++ in_rounds n r ys) (sym (shift (in_rounds n r xs)))
  where
    both : List Step
    both = sends_of (on n r d) ps [] ++ receives_of (on n r (n - d)) ps []

    shift : (rest : List Step) → sends_of (on n r d) ps (receives_of (on n r (n - d)) ps rest) ≡
        (sends_of (on n r d) ps [] ++ receives_of (on n r (n - d)) ps []) ++ rest
    shift rest =
        sends_then (on n r d) ps (receives_of (on n r (n - d)) ps rest)
        ∙ ap (λ (ss : List Step). sends_of (on n r d) ps [] ++ ss) (receives_then (on n r (n - d)) ps rest)
        ∙ sym (append_assoc (sends_of (on n r d) ps []) (receives_of (on n r (n - d)) ps []) rest)

-- all pieces of an allgather, and of an alltoall
pub allgather_pieces : (n r : ℕ) →
    ([] ++ Copy (Given 0) (Kept 0) ∷ []) ++ in_rounds n r (doubling n n 1) ++ copies_of (put_where (on n r) 0 n) [] ≡
    round_allgather n r
allgather_pieces n r =
    ap (λ (ss : List Step). Copy (Given 0) (Kept 0) ∷ ss)
    (sym (rounds_then n r (doubling n n 1) (Each (λ x. put_where (on n x) 0 n) ∷ [])))

pub alltoall_pieces : (n r : ℕ) →
    (([] ++ copies_of (turned (λ x. Given) n r 0 n) []) ++ in_rounds n r (passing n n 1)) ++
    copies_of (put_where (λ i. on n r (n - i)) 0 n) [] ≡ round_alltoall n r
alltoall_pieces n r =
    append_assoc (copies_of (turned (λ x. Given) n r 0 n) []) (in_rounds n r (passing n n 1)) _
    ∙ ap (λ (ss : List Step). copies_of (turned (λ x. Given) n r 0 n) [] ++ ss)
    (sym (rounds_then n r (passing n n 1) (Each (λ x. put_where (λ i. on n x (n - i)) 0 n) ∷ [])))
    ∙ sym (copies_then (turned (λ x. Given) n r 0 n) _)
