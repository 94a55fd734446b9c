-- Parts of scripts whose members stand within a range.
use Rattle.std.proofs.Common.{◌≡◌, ◌<◌, ◌≤◌, ◌⊎◌, inl, inr, ℕ, zero, suc, ◌+◌, ◌-◌, Bool, true, false, List, [], ◌∷◌}
use Rattle.std.proofs.Common.{◌++◌, if◌then◌else◌, ◌==◌, nat_lt, refl, sym, ap, ◌∙◌, subst, arith, ne_eqb}
use Rattle.std.proofs.lemmas.Bool.{eqb-true, eq-eqb, lt-ltb, ltb-true, ltb-false}
use mathlib.Core.Path.{fun_ext}
use Rattle.collective_plans.specs.declared.plan.Slot.{Slot}
use Rattle.collective_plans.specs.declared.plan.Slot.TheVariants.{Given, Got, Kept}
use Rattle.collective_plans.specs.declared.plan.Step.{Step}
use Rattle.collective_plans.specs.declared.plan.Step.TheVariants.{Copy, Fold, Receive, Send}
use Rattle.collective_plans.specs.Slots.{Block, Memory, is_slot, with_block}
use Rattle.collective_plans.specs.Networks.{Folding}
use Rattle.collective_plans.specs.PlanLaws.{among}
use Rattle.collective_plans.specs.Ahead.{Ahead, EndsAhead, Turn, after_turns, opening_ahead}
use Rattle.collective_plans.specs.Scripts.{Act, Copies, Folds, Hands, done, own_step, part, part_of, played}
use Rattle.collective_plans.specs.Scripts.{with_memory}
use Rattle.collective_plans.proofs.ScriptProofs.{scripts_are_played}

-- a rank that is one of so many from this one on
abbrev pub Inside : (low count r : ℕ) → Type 0
Inside l n r = (l ≤ r) × (r < l + n)

abbrev pub Beside : (low count r : ℕ) → Type 0
Beside l n r = (r < l) ⊎ (l + n ≤ r)

abbrev pub ActWithin : (low count : ℕ) → Act → Type 0
ActWithin l n (Copies r a b) = Inside l n r
ActWithin l n (Folds r a b c) = Inside l n r
ActWithin l n (Hands s a d b) = Inside l n s × Inside l n d

-- all that is done is done by these
abbrev pub Within : (low count : ℕ) → List Act → Type 0
Within l n [] = (0 < 1)
Within l n (x ∷ xs) = ActWithin l n x × Within l n xs

pub within_append : (l n : ℕ) (xs ys : List Act) → Within l n xs → Within l n ys → Within l n (xs ++ ys)
within_append l n [] ys h k = k
within_append l n (x ∷ xs) ys h k = (h.0, within_append l n xs ys h.1 k)

act_wider : (l n a b : ℕ) → a ≤ l → l + n ≤ a + b → (x : Act) → ActWithin l n x → ActWithin a b x
act_wider l n a b le ge (Copies r s d) h =
    let u : l ≤ r = h.0 in let v : r < l + n = h.1 in (omega (arith, le, u), omega (arith, ge, v))
act_wider l n a b le ge (Folds r s d e) h =
    let u : l ≤ r = h.0 in let v : r < l + n = h.1 in (omega (arith, le, u), omega (arith, ge, v))
act_wider l n a b le ge (Hands s x d y) h =
    let u : l ≤ s = h.0.0 in let v : s < l + n = h.0.1 in
    let w : l ≤ d = h.1.0 in let z : d < l + n = h.1.1 in
    ((omega (arith, le, u), omega (arith, ge, v)), (omega (arith, le, w), omega (arith, ge, z)))

pub within_wider : (l n a b : ℕ) → a ≤ l → l + n ≤ a + b → (xs : List Act) → Within l n xs → Within a b xs
within_wider l n a b le ge [] h = h
within_wider l n a b le ge (x ∷ xs) h = (act_wider l n a b le ge x h.0, within_wider l n a b le ge xs h.1)

pub differs : (l n r x : ℕ) → Beside l n r → Inside l n x → (r == x) ≡ false
differs l n r x (inl lt) h = let u : l ≤ x = h.0 in ne_eqb r x (λ (e : r ≡ x). omega (arith, lt, u, e))
differs l n r x (inr ge) h = let u : x < l + n = h.1 in ne_eqb r x (λ (e : r ≡ x). omega (arith, ge, u, e))

-- what others do changes nothing of a member
done_beside : (f : Folding) (l n r : ℕ) → Beside l n r → (ms : ℕ → Memory) (x : Act) → ActWithin l n x →
    done f ms x r ≡ ms r
done_beside f l n r o ms (Copies x a b) h =
    ap (λ (t : Bool). if t then with_block (ms x) b (ms x a) else ms r) (differs l n r x o h)
done_beside f l n r o ms (Folds x a b c) h =
    ap (λ (t : Bool). if t then with_block (ms x) c (f (ms x a) (ms x b)) else ms r) (differs l n r x o h)
done_beside f l n r o ms (Hands s a d b) h =
    ap (λ (t : Bool). if t then with_block (ms d) b (ms s a) else ms r) (differs l n r d o h.1)

pub played_beside : (f : Folding) (l n r : ℕ) → Beside l n r → (xs : List Act) → Within l n xs → (ms : ℕ → Memory) →
    played f ms xs r ≡ ms r
played_beside f l n r o [] h ms = refl
played_beside f l n r o (x ∷ xs) h ms =
    played_beside f l n r o xs h.1 (done f ms x) ∙ done_beside f l n r o ms x h.0

-- it has no step of what others do
not_own : (x : Step) (rest : List Step) (t : Bool) → t ≡ false → own_step t x rest ≡ rest
not_own x rest t h = ap (λ (b : Bool). own_step b x rest) h

no_step : (l n r : ℕ) → Beside l n r → (x : Act) → ActWithin l n x → (rest : List Step) → part_of r x rest ≡ rest
no_step l n r o (Copies x a b) h rest = not_own (Copy a b) rest (r == x) (differs l n r x o h)
no_step l n r o (Folds x a b c) h rest = not_own (Fold a b c) rest (r == x) (differs l n r x o h)
no_step l n r o (Hands s a d b) h rest =
    not_own (Send d a) (own_step (r == d) (Receive s b) rest) (r == s) (differs l n r s o h.0)
    ∙ not_own (Receive s b) rest (r == d) (differs l n r d o h.1)

pub part_beside : (l n r : ℕ) → Beside l n r → (xs : List Act) → Within l n xs → part r xs ≡ []
part_beside l n r o [] h = refl
part_beside l n r o (x ∷ xs) h = no_step l n r o x h.0 (part r xs) ∙ part_beside l n r o xs h.1

own_append : (x : Step) (t : Bool) (ss us : List Step) → own_step t x (ss ++ us) ≡ own_step t x ss ++ us
own_append x true ss us = refl
own_append x false ss us = refl

part_of_append : (r : ℕ) (x : Act) (ss us : List Step) → part_of r x (ss ++ us) ≡ part_of r x ss ++ us
part_of_append r (Copies x a b) ss us = own_append (Copy a b) (r == x) ss us
part_of_append r (Folds x a b c) ss us = own_append (Fold a b c) (r == x) ss us
part_of_append r (Hands s a d b) ss us =
    ap (λ (ws : List Step). own_step (r == s) (Send d a) ws) (own_append (Receive s b) (r == d) ss us)
    ∙ own_append (Send d a) (r == s) (own_step (r == d) (Receive s b) ss) us

pub part_append : (r : ℕ) (xs ys : List Act) → part r (xs ++ ys) ≡ part r xs ++ part r ys
part_append r [] ys = refl
part_append r (x ∷ xs) ys =
    ap (λ (ss : List Step). part_of r x ss) (part_append r xs ys) ∙ part_of_append r x (part r xs) (part r ys)

pub played_append : (f : Folding) (xs ys : List Act) (ms : ℕ → Memory) →
    played f ms (xs ++ ys) ≡ played f (played f ms xs) ys
played_append f [] ys ms = refl
played_append f (x ∷ xs) ys ms = played_append f xs ys (done f ms x)

-- where all stands within n members, no one else has a part
pub parts_among : (n : ℕ) (xs : List Act) → Within 0 n xs → among n (λ r. part r xs) ≡ (λ r. part r xs)
parts_among n xs h = fun_ext (λ r. go r (nat_lt r n) refl)
  where
    go : (r : ℕ) (t : Bool) → nat_lt r n ≡ t → (if t then part r xs else []) ≡ part r xs
    go r true e = refl
    go r false e = let k : n ≤ r = ltb-false r n e in sym (part_beside 0 n r (inr (omega (arith, k))) xs h)

-- what a member's part gives
pub part_gives : (f : Folding) (n : ℕ) (xs : List Act) (given : ℕ → Memory) (r : ℕ) (slot : Slot) (b : Block) →
    Within 0 n xs → played f given xs r slot ≡ b → EndsAhead f n (λ x. part x xs) given r slot b
part_gives f n xs given r slot b h e =
    subst (λ (plans : ℕ → List Step). (turns : List Turn) →
    ((after_turns f (opening_ahead plans given) turns).at r).steps ≡ [] →
    ((after_turns f (opening_ahead plans given) turns).at r).begun ≡ [] →
    ((after_turns f (opening_ahead plans given) turns).at r).memory slot ≡ b) (sym (parts_among n xs h))
    (λ turns ended come. ap (λ (m : Memory). m slot) (scripts_are_played f xs given turns r ended come) ∙ e)

-- SLOTS

pub slot_itself : (b : Slot) → is_slot b b ≡ true
slot_itself (Given i) = eq-eqb i i refl
slot_itself (Got i) = eq-eqb i i refl
slot_itself (Kept i) = eq-eqb i i refl

pub put_there : (m : Memory) (b : Slot) (v : Block) → with_block m b v b ≡ v
put_there m b v = ap (λ (t : Bool). if t then v else m b) (slot_itself b)

pub put_apart : (m : Memory) (b x : Slot) (v : Block) → is_slot x b ≡ false → with_block m b v x ≡ m x
put_apart m b x v h = ap (λ (t : Bool). if t then v else m x) h

-- the memory that was put for a member, and that of another one
pub own_memory : (ms : ℕ → Memory) (r : ℕ) (m : Memory) → with_memory ms r m r ≡ m
own_memory ms r m = ap (λ (t : Bool). if t then m else ms r) (eq-eqb r r refl)

pub other_memory : (ms : ℕ → Memory) (r x : ℕ) (m : Memory) → (x == r) ≡ false → with_memory ms r m x ≡ ms x
other_memory ms r x m h = ap (λ (t : Bool). if t then m else ms x) h
