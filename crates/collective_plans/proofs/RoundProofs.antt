-- Rounds, carried out in any order, give what they give one behind the other.
use Rattle.std.proofs.Common.{◌≡◌, ◌<◌, ◌≤◌, ℕ, zero, suc, ◌+◌, ◌-◌, Bool, true, false, ◌&&◌, List, [], ◌∷◌, ◌++◌}
use Rattle.std.proofs.Common.{if◌then◌else◌, ◌==◌, nat_lt, refl, sym, ap, ap₂, ◌∙◌, subst, arith, ne_eqb}
use Rattle.std.proofs.lemmas.Bool.{eqb-true, eqb-false, eq-eqb, lt-ltb, le-ltb, ltb-true, ltb-false}
use mathlib.Core.Path.{fun_ext}
use Rattle.collective_plans.specs.declared.plan.Slot.{Slot}
use Rattle.collective_plans.specs.declared.plan.Step.{Step}
use Rattle.collective_plans.specs.declared.plan.Step.TheVariants.{Copy, Send, Receive, Fold}
use Rattle.collective_plans.specs.Slots.{Block, Memory, with_block}
use Rattle.collective_plans.specs.Networks.{Folding}
use Rattle.collective_plans.specs.Meanings.{Inbox, Talk, ends_with, first_of, is_fed, is_filled, others_of, said_to}
use Rattle.collective_plans.specs.Meanings.{told, without_first}
use Rattle.collective_plans.specs.PlanLaws.{among}
use Rattle.collective_plans.specs.Ahead.{EndsAhead, after_turns, opening_ahead}
use Rattle.collective_plans.specs.Rounds.{Each, Pairs, Round, Shift, behind_round, behind_rounds, copied, copies_of}
use Rattle.collective_plans.specs.Rounds.{in_round, in_rounds, on, receives_of, sends_of, taken}
use Rattle.collective_plans.proofs.AheadProofs.{ahead_is_meant}
use Rattle.collective_plans.proofs.ScriptProofs.{Reads, with_own}

-- THE MEMBERS OF A RING

pub on_back : (n r d : ℕ) → r < n → d < n → on n (on n r (n - d)) d ≡ r
on_back n r d lr less = go (nat_lt (r + (n - d)) n) refl
  where
    first : (t : Bool) → nat_lt (r + (n - d) + d) n ≡ t → r + (n - d) < n →
        (if t then r + (n - d) + d else r + (n - d) + d - n) ≡ r
    first true e k = let l : r + (n - d) + d < n = ltb-true (r + (n - d) + d) n e in absurd (omega (arith, l, less))
    first false e k = omega (arith, less)

    second : (t : Bool) → nat_lt (r + (n - d) - n + d) n ≡ t → n ≤ r + (n - d) →
        (if t then r + (n - d) - n + d else r + (n - d) - n + d - n) ≡ r
    second true e k = omega (arith, less, k)
    second false e k =
        let l : n ≤ r + (n - d) - n + d = ltb-false (r + (n - d) - n + d) n e in absurd (omega (arith, l, lr, less, k))

    go : (t : Bool) → nat_lt (r + (n - d)) n ≡ t → on n (if t then r + (n - d) else r + (n - d) - n) d ≡ r
    go true e = first (nat_lt (r + (n - d) + d) n) refl (ltb-true (r + (n - d)) n e)
    go false e = second (nat_lt (r + (n - d) - n + d) n) refl (ltb-false (r + (n - d)) n e)

pub on_below : (n r d : ℕ) → r < n → d ≤ n → on n r d < n
on_below n r d lr ld = go (nat_lt (r + d) n) refl
  where
    go : (t : Bool) → nat_lt (r + d) n ≡ t → (if t then r + d else r + d - n) < n
    go true e = ltb-true (r + d) n e
    go false e = let k : n ≤ r + d = ltb-false (r + d) n e in omega (arith, lr, ld, k)

-- of two members that are the same after going on, each is the other
pub on_one : (n x y d : ℕ) → x < n → y < n → d ≤ n → on n x d ≡ on n y d → x ≡ y
on_one n x y d lx ly ld h = go (nat_lt (x + d) n) refl (nat_lt (y + d) n) refl h
  where
    go : (t : Bool) → nat_lt (x + d) n ≡ t → (u : Bool) → nat_lt (y + d) n ≡ u →
        (if t then x + d else x + d - n) ≡ (if u then y + d else y + d - n) → x ≡ y
    go true e true v k = omega (arith, k)
    go true e false v k =
        let a : x + d < n = ltb-true (x + d) n e in
        let b : n ≤ y + d = ltb-false (y + d) n v in absurd (omega (arith, k, a, b, ly, lx, ld))
    go false e true v k =
        let a : n ≤ x + d = ltb-false (x + d) n e in
        let b : y + d < n = ltb-true (y + d) n v in absurd (omega (arith, k, a, b, ly, lx, ld))
    go false e false v k =
        let a : n ≤ x + d = ltb-false (x + d) n e in
        let b : n ≤ y + d = ltb-false (y + d) n v in omega (arith, k, a, b)

-- WHAT STEPS MEAN

abbrev values : Memory → Pairs → List Block
values m [] = []
values m (p ∷ ps) = m p.0 ∷ values m ps

copies_read : (f : Folding) (q : Inbox) (ps : Pairs) (m : Memory) (ss : List Step) (t : ℕ → List Block) (e : Memory) →
    Reads f q (copied m ps) ss t e → Reads f q m (copies_of ps ss) t e
copies_read f q [] m ss t e h = h
copies_read f q (p ∷ ps) m ss t e h =
    let k = copies_read f q ps (with_block m p.1 (m p.0)) ss t e h in
    record { said = k.said; ends = k.ends; fed = k.fed }

sends_read : (f : Folding) (q : Inbox) (to : ℕ) (ps : Pairs) (m : Memory) (ss : List Step) (t : ℕ → List Block)
    (e : Memory) → Reads f q m ss t e →
    Reads f q m (sends_of to ps ss) (λ d. if d == to then values m ps ++ t d else t d) e
sends_read f q to [] m ss t e h =
    record { said = λ d. h.said d ∙ none d (d == to); ends = h.ends; fed = h.fed }
  where
    none : (d : ℕ) (b : Bool) → t d ≡ (if b then t d else t d)
    none d true = refl
    none d false = refl
sends_read f q to (p ∷ ps) m ss t e h = go (sends_read f q to ps m ss t e h)
  where
    said : (d : ℕ) (b : Bool) →
        said_to f d q m (sends_of to ps ss) ≡ (if b then values m ps ++ t d else t d) →
        (if b then m p.0 ∷ said_to f d q m (sends_of to ps ss) else said_to f d q m (sends_of to ps ss)) ≡
        (if b then m p.0 ∷ (values m ps ++ t d) else t d)
    said d true u = ap (λ (bs : List Block). m p.0 ∷ bs) u
    said d false u = u

    go : Reads f q m (sends_of to ps ss) (λ d. if d == to then values m ps ++ t d else t d) e →
        Reads f q m (Send to p.0 ∷ sends_of to ps ss)
        (λ d. if d == to then m p.0 ∷ (values m ps ++ t d) else t d) e
    go k = record { said = λ d. said d (d == to) (k.said d); ends = k.ends; fed = k.fed }

-- what a member is told where one hands some blocks to it
abbrev told_first : Inbox → (from : ℕ) → List Block → Inbox
told_first q s bs z = if z == s then bs ++ q z else q z

receives_read : (f : Folding) (q : Inbox) (s : ℕ) (g : Memory) (ps : Pairs) (m : Memory) (ss : List Step)
    (t : ℕ → List Block) (e : Memory) → Reads f q (taken g m ps) ss t e →
    Reads f (told_first q s (values g ps)) m (receives_of s ps ss) t e
receives_read f q s g [] m ss t e h =
    subst (λ (x : Inbox). Reads f x m ss t e) (fun_ext (λ z. none z (z == s))) h
  where
    none : (z : ℕ) (b : Bool) → q z ≡ (if b then q z else q z)
    none z true = refl
    none z false = refl
receives_read f q s g (p ∷ ps) m ss t e h =
    let k = receives_read f q s g ps (with_block m p.1 (g p.0)) ss t e h in
    let l = subst (λ (x : Inbox). Reads f x (with_block m p.1 (g p.0)) (receives_of s ps ss) t e) (sym rest) k in
    let j = subst (λ (b : Block). Reads f (without_first (told_first q s (g p.0 ∷ values g ps)) s)
    (with_block m p.1 b) (receives_of s ps ss) t e) (sym (ap first_of here)) l in
    record {
      said = j.said;
      ends = j.ends;
      fed = ap (λ (b : Bool). b && is_fed f (without_first (told_first q s (g p.0 ∷ values g ps)) s)
          (with_block m p.1 (first_of (told_first q s (g p.0 ∷ values g ps) s))) (receives_of s ps ss))
          (ap is_filled here) ∙ j.fed;
    }
  where
    here : told_first q s (g p.0 ∷ values g ps) s ≡ g p.0 ∷ (values g ps ++ q s)
    here = ap (λ (b : Bool). if b then g p.0 ∷ (values g ps ++ q s) else q s) (eq-eqb s s refl)

    rest : without_first (told_first q s (g p.0 ∷ values g ps)) s ≡ told_first q s (values g ps)
    rest = fun_ext (λ z. go z (z == s) refl)
      where
        go : (z : ℕ) (b : Bool) → (z == s) ≡ b →
            (if b then others_of (told_first q s (g p.0 ∷ values g ps) s) else
            (if b then g p.0 ∷ (values g ps ++ q z) else q z)) ≡ (if b then values g ps ++ q z else q z)
        go z true u = ap others_of here ∙ ap (λ (y : ℕ). values g ps ++ q y) (sym (eqb-true z s u))
        go z false u = refl

-- THE TALK OF ROUNDS

-- how far a round goes
abbrev pub Goes : (n : ℕ) → Round → Type 0
Goes n (Each c) = (0 < 1)
Goes n (Shift d ps) = (0 < d) × (d < n)

abbrev pub AllGo : (n : ℕ) → List Round → Type 0
AllGo n [] = (0 < 1)
AllGo n (x ∷ xs) = Goes n x × AllGo n xs

abbrev says_in : (n : ℕ) → (ℕ → Memory) → Round → Talk → Talk
says_in n ms (Each c) t = t
says_in n ms (Shift d ps) t = λ x y. if nat_lt x n && (y == on n x d) then values (ms x) ps ++ t x y else t x y

abbrev said_in_all : (n : ℕ) → (ℕ → Memory) → List Round → Talk
said_in_all n ms [] = λ x y. []
said_in_all n ms (x ∷ xs) = says_in n ms x (said_in_all n (behind_round n ms x) xs)

-- who isn't one of the n says nothing
abbrev Quiet : (n : ℕ) → Talk → Type 0
Quiet n t = (x y : ℕ) → nat_lt x n ≡ false → t x y ≡ []

round_quiet : (n : ℕ) (ms : ℕ → Memory) (x : Round) (t : Talk) → Quiet n t → Quiet n (says_in n ms x t)
round_quiet n ms (Each c) t h = h
round_quiet n ms (Shift d ps) t h = λ x y e.
    ap (λ (b : Bool). if b && (y == on n x d) then values (ms x) ps ++ t x y else t x y) e ∙ h x y e

all_quiet : (n : ℕ) (xs : List Round) (ms : ℕ → Memory) → Quiet n (said_in_all n ms xs)
all_quiet n [] ms = λ x y e. refl
all_quiet n (z ∷ xs) ms =
    round_quiet n ms z (said_in_all n (behind_round n ms z) xs) (all_quiet n xs (behind_round n ms z))

-- what a member is told in a shift
shift_told : (n d s : ℕ) (ms : ℕ → Memory) (ps : Pairs) (t : Talk) → s < n → 0 < d → d < n →
    told (says_in n ms (Shift d ps) t) s ≡
    told_first (told t s) (on n s (n - d)) (values (ms (on n s (n - d))) ps)
shift_told n d s ms ps t ls some less = fun_ext (λ z. go z (z == on n s (n - d)) refl)
  where
    back : ℕ
    back = on n s (n - d)

    there : nat_lt (on n s (n - d)) n ≡ true
    there = lt-ltb (on n s (n - d)) n (on_below n s (n - d) ls (omega arith))

    meets : (s == on n (on n s (n - d)) d) ≡ true
    meets = eq-eqb s (on n (on n s (n - d)) d) (sym (on_back n s d ls less))

    go : (z : ℕ) (b : Bool) → (z == on n s (n - d)) ≡ b →
        (if nat_lt z n && (s == on n z d) then values (ms z) ps ++ t z s else t z s) ≡
        (if b then values (ms (on n s (n - d))) ps ++ t z s else t z s)
    go z true e = let is : z ≡ on n s (n - d) = eqb-true z (on n s (n - d)) e in
        ap (λ (y : ℕ). if nat_lt y n && (s == on n y d) then values (ms y) ps ++ t z s else t z s) is
        ∙ ap (λ (b : Bool). if b && (s == on n (on n s (n - d)) d)
        then values (ms (on n s (n - d))) ps ++ t z s else t z s) there
        ∙ ap (λ (b : Bool). if b then values (ms (on n s (n - d))) ps ++ t z s else t z s) meets
    go z false e = side (nat_lt z n) refl (s == on n z d) refl
      where
        side : (a : Bool) → nat_lt z n ≡ a → (c : Bool) → (s == on n z d) ≡ c →
            (if a && c then values (ms z) ps ++ t z s else t z s) ≡ t z s
        side false u c v = refl
        side true u false v = refl
        side true u true v =
            let k : on n z d ≡ on n (on n s (n - d)) d =
            sym (eqb-true s (on n z d) v) ∙ sym (on_back n s d ls less) in
            absurd (eqb-false z (on n s (n - d)) e
            (on_one n z (on n s (n - d)) d (ltb-true z n u) (on_below n s (n - d) ls (omega arith))
            (omega (arith, less)) k))

round_read : (f : Folding) (n : ℕ) (x : Round) (ms : ℕ → Memory) (s : ℕ) (t : Talk) (ss : List Step) (e : Memory) →
    s < n → Goes n x → Reads f (told t s) (behind_round n ms x s) ss (t s) e →
    Reads f (told (says_in n ms x t) s) (ms s) (in_round n s x ss) (says_in n ms x t s) e
round_read f n (Each c) ms s t ss e ls g h = copies_read f (told t s) (c s) (ms s) ss (t s) e h
round_read f n (Shift d ps) ms s t ss e ls g h =
    subst (λ (u : ℕ → List Block). Reads f (told (says_in n ms (Shift d ps) t) s) (ms s)
    (sends_of (on n s d) ps (receives_of (on n s (n - d)) ps ss)) u e) (fun_ext says)
    (sends_read f (told (says_in n ms (Shift d ps) t) s) (on n s d) ps (ms s)
    (receives_of (on n s (n - d)) ps ss) (t s) e
    (subst (λ (q : Inbox). Reads f q (ms s) (receives_of (on n s (n - d)) ps ss) (t s) e)
    (sym (shift_told n d s ms ps t ls g.0 g.1))
    (receives_read f (told t s) (on n s (n - d)) (ms (on n s (n - d))) ps (ms s) ss (t s) e h)))
  where
    says : (y : ℕ) → (if y == on n s d then values (ms s) ps ++ t s y else t s y) ≡
        (if nat_lt s n && (y == on n s d) then values (ms s) ps ++ t s y else t s y)
    says y = ap (λ (b : Bool). if b && (y == on n s d) then values (ms s) ps ++ t s y else t s y)
        (sym (lt-ltb s n ls))

rounds_read : (f : Folding) (n : ℕ) (xs : List Round) (ms : ℕ → Memory) (s : ℕ) → s < n → AllGo n xs →
    Reads f (told (said_in_all n ms xs) s) (ms s) (in_rounds n s xs) (said_in_all n ms xs s) (behind_rounds n ms xs s)
rounds_read f n [] ms s ls g = record { said = λ d. refl; ends = refl; fed = refl }
rounds_read f n (x ∷ xs) ms s ls g =
    round_read f n x ms s (said_in_all n (behind_round n ms x) xs) (in_rounds n s xs)
    (behind_rounds n (behind_round n ms x) xs s) ls g.0 (rounds_read f n xs (behind_round n ms x) s ls g.1)

-- what a member's steps in rounds give
pub rounds_give : (f : Folding) (n : ℕ) (xs : List Round) (given : ℕ → Memory) (r : ℕ) (slot : Slot) (b : Block) →
    AllGo n xs → r < n → behind_rounds n given xs r slot ≡ b →
    EndsAhead f n (λ x. in_rounds n x xs) given r slot b
rounds_give f n xs given r slot b g lr h turns ended come =
    ap (λ (m : Memory). m slot) (ahead_is_meant f (among n (λ x. in_rounds n x xs)) given (said_in_all n given xs)
    talk turns r ended come
    ∙ ap (λ (c : Bool). ends_with f (told (said_in_all n given xs) r) (given r) (if c then in_rounds n r xs else []))
    (lt-ltb r n lr)
    ∙ (rounds_read f n xs given r lr g).ends)
    ∙ h
  where
    talk : (s d : ℕ) → said_to f d (told (said_in_all n given xs) s) (given s)
        (among n (λ x. in_rounds n x xs) s) ≡ said_in_all n given xs s d
    talk s d = go (nat_lt s n) refl
      where
        go : (c : Bool) → nat_lt s n ≡ c → said_to f d (told (said_in_all n given xs) s) (given s)
            (if c then in_rounds n s xs else []) ≡ said_in_all n given xs s d
        go true e = (rounds_read f n xs given s (ltb-true s n e) g).said d
        go false e = sym (all_quiet n xs given s d e)
