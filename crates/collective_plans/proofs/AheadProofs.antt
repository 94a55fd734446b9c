-- Receives that are begun ahead change nothing.
use Rattle.std.proofs.Common.{◌≡◌, ℕ, zero, suc, Bool, true, false}
use Rattle.std.proofs.Common.{◌&&◌, ◌||◌, List, [], ◌∷◌, ◌++◌, if◌then◌else◌, ◌==◌}
use Rattle.std.proofs.Common.{refl, sym, ap, ap₂, ◌∙◌, subst, append_assoc, arith}
use Rattle.std.proofs.lemmas.Bool.{eqb-true, eq-eqb}
use mathlib.Core.Path.{fun_ext}
use Rattle.collective_plans.specs.declared.plan.Slot.{Slot}
use Rattle.collective_plans.specs.declared.plan.Slot.TheVariants.{Given, Got, Kept}
use Rattle.collective_plans.specs.declared.plan.Step.{Step}
use Rattle.collective_plans.specs.declared.plan.Step.TheVariants.{Copy, Send, Receive, Fold}
use Rattle.collective_plans.specs.Slots.{Block, Memory, is_slot, with_block}
use Rattle.collective_plans.specs.Networks.{Folding, Member, Network, goes, steps_on, takes, with_queue}
use Rattle.collective_plans.specs.Meanings.{Inbox, IsTalk, Talk, ends_with, first_of, is_fed, is_filled, others_of}
use Rattle.collective_plans.specs.Meanings.{said_to, told, without_first}
use Rattle.collective_plans.specs.Ahead.{Ahead, AheadNetwork, Begun, Comes, Next, Turn, after_turns, arrives, comes}
use Rattle.collective_plans.specs.Ahead.{goes_ahead, meets, meets_any, opening_ahead, steps_ahead, turn, with_ahead}
use Rattle.collective_plans.proofs.RunProofs.{Holds, quiet, step_holds}

-- SLOTS

same_slot : (x y : Slot) → is_slot x y ≡ true → x ≡ y
same_slot (Given i) (Given j) h = ap Given (eqb-true i j h)
same_slot (Given i) (Got j) h = let e : false ≡ true = h in absurd (grind arith)
same_slot (Given i) (Kept j) h = let e : false ≡ true = h in absurd (grind arith)
same_slot (Got i) (Given j) h = let e : false ≡ true = h in absurd (grind arith)
same_slot (Got i) (Got j) h = ap Got (eqb-true i j h)
same_slot (Got i) (Kept j) h = let e : false ≡ true = h in absurd (grind arith)
same_slot (Kept i) (Given j) h = let e : false ≡ true = h in absurd (grind arith)
same_slot (Kept i) (Got j) h = let e : false ≡ true = h in absurd (grind arith)
same_slot (Kept i) (Kept j) h = ap Kept (eqb-true i j h)

-- what is put into two slots that are apart
puts_commute : (m : Memory) (i b : Slot) (v w : Block) → is_slot b i ≡ false →
    with_block (with_block m i v) b w ≡ with_block (with_block m b w) i v
puts_commute m i b v w h = fun_ext (λ x. go x (is_slot x b) refl (is_slot x i) refl)
  where
    go : (x : Slot) (s : Bool) → is_slot x b ≡ s → (t : Bool) → is_slot x i ≡ t →
        (if s then w else (if t then v else m x)) ≡ (if t then v else (if s then w else m x))
    go x true e true u =
        let k : true ≡ false = sym u ∙ ap (λ (y : Slot). is_slot y i) (same_slot x b e) ∙ h in absurd (grind arith)
    go x true e false u = refl
    go x false e true u = refl
    go x false e false u = refl

-- a slot that is apart is as it was
put_elsewhere : (m : Memory) (i x : Slot) (v : Block) → is_slot x i ≡ false → with_block m i v x ≡ m x
put_elsewhere m i x v h = ap (λ (b : Bool). if b then v else m x) h

-- what is taken from two senders
takes_commute : (q : Inbox) (s t : ℕ) → (t == s) ≡ false →
    without_first (without_first q s) t ≡ without_first (without_first q t) s
takes_commute q s t h = fun_ext (λ x. go x (x == t) refl (x == s) refl)
  where
    go : (x : ℕ) (a : Bool) → (x == t) ≡ a → (b : Bool) → (x == s) ≡ b →
        (if a then others_of (if t == s then others_of (q s) else q t) else (if b then others_of (q s) else q x)) ≡
        (if b then others_of (if s == t then others_of (q t) else q s) else (if a then others_of (q t) else q x))
    go x true e true u =
        let k : true ≡ false = sym (eq-eqb t s (sym (eqb-true x t e) ∙ eqb-true x s u)) ∙ h in absurd (grind arith)
    go x true e false u = ap (λ (b : Bool). others_of (if b then others_of (q s) else q t)) h
    go x false e true u = ap (λ (b : Bool). others_of (if b then others_of (q t) else q s)) (turned (s == t) refl)
      where
        turned : (b : Bool) → (s == t) ≡ b → false ≡ (s == t)
        turned false k = sym k
        turned true k = let j : true ≡ false = sym (eq-eqb t s (sym (eqb-true s t k))) ∙ h in absurd (grind arith)
    go x false e false u = refl

neither : (a b : Bool) → (a || b) ≡ false → (a ≡ false) × (b ≡ false)
neither false false h = (refl, refl)
neither false true h = let e : true ≡ false = h in absurd (grind arith)
neither true b h = let e : true ≡ false = h in absurd (grind arith)

-- TWO ORDERS OF STEPS THAT MEAN ONE THING

record Alike (f : Folding) (ss tt : List Step) : Type 0 where
  said : (d : ℕ) (q : Inbox) (m : Memory) → said_to f d q m ss ≡ said_to f d q m tt
  ends : (q : Inbox) (m : Memory) → ends_with f q m ss ≡ ends_with f q m tt
  fed : (q : Inbox) (m : Memory) → is_fed f q m ss ≡ is_fed f q m tt

alike_behind : (f : Folding) (s : ℕ) (i : Slot) (ss tt : List Step) → Alike f ss tt →
    Alike f (Receive s i ∷ ss) (Receive s i ∷ tt)
alike_behind f s i ss tt a =
    record {
      said = λ d q m. a.said d (without_first q s) (with_block m i (first_of (q s)));
      ends = λ q m. a.ends (without_first q s) (with_block m i (first_of (q s)));
      fed = λ q m. ap (λ (b : Bool). is_filled (q s) && b) (a.fed (without_first q s) (with_block m i (first_of
          (q s))));
    }

alike_then : (f : Folding) (ss tt uu : List Step) → Alike f ss tt → Alike f tt uu → Alike f ss uu
alike_then f ss tt uu a b =
    record {
      said = λ d q m. a.said d q m ∙ b.said d q m;
      ends = λ q m. a.ends q m ∙ b.ends q m;
      fed = λ q m. a.fed q m ∙ b.fed q m;
    }

-- a memory that is put together in two ways
by_memory : (f : Folding) (q : Inbox) (rest : List Step) (m n : Memory) → m ≡ n →
    ((d : ℕ) → said_to f d q m rest ≡ said_to f d q n rest) × (ends_with f q m rest ≡ ends_with f q n rest) ×
    (is_fed f q m rest ≡ is_fed f q n rest)
by_memory f q rest m n e = (
  λ d. ap (λ (x : Memory). said_to f d q x rest) e,
  ap (λ (x : Memory). ends_with f q x rest) e,
  ap (λ (x : Memory). is_fed f q x rest) e,
)

-- a step that meets no receive may come before it
swaps : (f : Folding) (x : Step) (p : ℕ × Slot) (rest : List Step) → meets x p ≡ false →
    Alike f (Receive p.0 p.1 ∷ x ∷ rest) (x ∷ Receive p.0 p.1 ∷ rest)
swaps f (Copy a b) p rest h =
    record {
      said = λ d q m. (by_memory f (without_first q p.0) rest _ _ (is q m)).0 d;
      ends = λ q m. (by_memory f (without_first q p.0) rest _ _ (is q m)).1;
      fed = λ q m. ap (λ (y : Bool). is_filled (q p.0) && y) (by_memory f (without_first q p.0) rest _ _ (is q m)).2;
    }
  where
    is : (q : Inbox) (m : Memory) →
        with_block (with_block m p.1 (first_of (q p.0))) b (with_block m p.1 (first_of (q p.0)) a) ≡
        with_block (with_block m b (m a)) p.1 (first_of (q p.0))
    is q m = let n = neither (is_slot a p.1) (is_slot b p.1) h in
        ap (λ (w : Block). with_block (with_block m p.1 (first_of (q p.0))) b w)
        (put_elsewhere m p.1 a (first_of (q p.0)) n.0)
        ∙ puts_commute m p.1 b (first_of (q p.0)) (m a) n.1
swaps f (Fold l g b) p rest h =
    record {
      said = λ d q m. (by_memory f (without_first q p.0) rest _ _ (is q m)).0 d;
      ends = λ q m. (by_memory f (without_first q p.0) rest _ _ (is q m)).1;
      fed = λ q m. ap (λ (y : Bool). is_filled (q p.0) && y) (by_memory f (without_first q p.0) rest _ _ (is q m)).2;
    }
  where
    is : (q : Inbox) (m : Memory) →
        with_block (with_block m p.1 (first_of (q p.0))) b
        (f (with_block m p.1 (first_of (q p.0)) l) (with_block m p.1 (first_of (q p.0)) g)) ≡
        with_block (with_block m b (f (m l) (m g))) p.1 (first_of (q p.0))
    is q m = let n = neither (is_slot l p.1) (is_slot g p.1 || is_slot b p.1) h in
        let k = neither (is_slot g p.1) (is_slot b p.1) n.1 in
        ap₂ (λ (u w : Block). with_block (with_block m p.1 (first_of (q p.0))) b (f u w))
        (put_elsewhere m p.1 l (first_of (q p.0)) n.0) (put_elsewhere m p.1 g (first_of (q p.0)) k.0)
        ∙ puts_commute m p.1 b (first_of (q p.0)) (f (m l) (m g)) k.1
swaps f (Send to a) p rest h =
    record {
      said = λ d q m. ap (λ (w : Block). if d == to then
          w ∷ said_to f d (without_first q p.0) (with_block m p.1 (first_of (q p.0))) rest
          else said_to f d (without_first q p.0) (with_block m p.1 (first_of (q p.0))) rest)
          (put_elsewhere m p.1 a (first_of (q p.0)) h);
      ends = λ q m. refl;
      fed = λ q m. refl;
    }
swaps f (Receive s i) p rest h =
    record {
      said = λ d q m. ap (λ (z : Inbox × Memory). said_to f d z.0 z.1 rest) (is q m);
      ends = λ q m. ap (λ (z : Inbox × Memory). ends_with f z.0 z.1 rest) (is q m);
      fed = λ q m. fed_is q m;
    }
  where
    apart : ((s == p.0) ≡ false) × (is_slot i p.1 ≡ false)
    apart = neither (s == p.0) (is_slot i p.1) h

    other : (p.0 == s) ≡ false
    other = turned (p.0 == s) refl
      where
        turned : (b : Bool) → (p.0 == s) ≡ b → (p.0 == s) ≡ false
        turned false k = k
        turned true k = let j : true ≡ false = sym (eq-eqb s p.0 (sym (eqb-true p.0 s k))) ∙ apart.0 in
            absurd (grind arith)

    here : (q : Inbox) → without_first q p.0 s ≡ q s
    here q = ap (λ (b : Bool). if b then others_of (q p.0) else q s) apart.0

    there : (q : Inbox) → without_first q s p.0 ≡ q p.0
    there q = ap (λ (b : Bool). if b then others_of (q s) else q p.0) other

    memories : (q : Inbox) (m : Memory) →
        with_block (with_block m p.1 (first_of (q p.0))) i (first_of (without_first q p.0 s)) ≡
        with_block (with_block m i (first_of (q s))) p.1 (first_of (without_first q s p.0))
    memories q m =
        ap (λ (bs : List Block). with_block (with_block m p.1 (first_of (q p.0))) i (first_of bs)) (here q)
        ∙ puts_commute m p.1 i (first_of (q p.0)) (first_of (q s)) apart.1
        ∙ ap (λ (bs : List Block). with_block (with_block m i (first_of (q s))) p.1 (first_of bs)) (sym (there q))

    is : (q : Inbox) (m : Memory) → ◌≡◌ {A = Inbox × Memory} (
      without_first (without_first q p.0) s,
      with_block (with_block m p.1 (first_of (q p.0))) i (first_of (without_first q p.0 s)),
    ) (
      without_first (without_first q s) p.0,
      with_block (with_block m i (first_of (q s))) p.1 (first_of (without_first q s p.0)),
    )
    is q m = ap₂ (λ (a : Inbox) (b : Memory). (a, b)) (takes_commute q p.0 s apart.0) (memories q m)

    fed_is : (q : Inbox) (m : Memory) →
        is_fed f q m (Receive p.0 p.1 ∷ Receive s i ∷ rest) ≡ is_fed f q m (Receive s i ∷ Receive p.0 p.1 ∷ rest)
    fed_is q m =
        ap₂ (λ (bs : List Block) (z : Inbox × Memory). is_filled (q p.0) && (is_filled bs && is_fed f z.0 z.1 rest))
        (here q) (is q m)
        ∙ turned (is_filled (q p.0)) (is_filled (q s)) (is_fed f (without_first (without_first q s) p.0)
        (with_block (with_block m i (first_of (q s))) p.1 (first_of (without_first q s p.0))) rest)
        ∙ ap (λ (bs : List Block). is_filled (q s) && (is_filled bs &&
        is_fed f (without_first (without_first q s) p.0)
        (with_block (with_block m i (first_of (q s))) p.1 (first_of (without_first q s p.0))) rest)) (sym (there q))
      where
        turned : (a b c : Bool) → (a && (b && c)) ≡ (b && (a && c))
        turned false false c = refl
        turned false true c = refl
        turned true false c = refl
        turned true true c = refl

abbrev receives_of : Begun → List Step
receives_of [] = []
receives_of (p ∷ ps) = Receive p.0 p.1 ∷ receives_of ps

-- a step that meets none of them may come before them all
comes_first : (f : Folding) (x : Step) (ps : Begun) (rest : List Step) → meets_any x ps ≡ false →
    Alike f (receives_of ps ++ x ∷ rest) (x ∷ (receives_of ps ++ rest))
comes_first f x [] rest h = record { said = λ d q m. refl; ends = λ q m. refl; fed = λ q m. refl }
comes_first f x (p ∷ ps) rest h =
    let n = neither (meets x p) (meets_any x ps) h in
    alike_then f (Receive p.0 p.1 ∷ (receives_of ps ++ x ∷ rest)) (Receive p.0 p.1 ∷ x ∷ (receives_of ps ++ rest))
    (x ∷ Receive p.0 p.1 ∷ (receives_of ps ++ rest))
    (alike_behind f p.0 p.1 (receives_of ps ++ x ∷ rest) (x ∷ (receives_of ps ++ rest)) (comes_first f x ps rest n.1))
    (swaps f x p (receives_of ps ++ rest) n.0)

-- THE SAME NETWORK WITHOUT RECEIVES AHEAD

abbrev plain : Ahead → Member
plain c = record { steps = receives_of c.begun ++ c.steps; memory = c.memory }

abbrev plain_net : AheadNetwork → Network
plain_net net = record { at = λ x. plain (net.at x); queue = net.queue }

-- members that are the same
alike_members : (f : Folding) (at at' : ℕ → Member) (queue : ℕ → ℕ → List Block) (left : Talk) (goal : ℕ → Memory)
    (was : ℕ → Bool) → ((x : ℕ) → at x ≡ at' x) → Holds f (record { at = at; queue = queue }) left goal was →
    Holds f (record { at = at'; queue = queue }) left goal was
alike_members f at at' queue left goal was h inv =
    subst (λ (a : ℕ → Member). Holds f (record { at = a; queue = queue }) left goal was) (fun_ext h) inv

-- a member's steps in an order that means the same, of which the first one is taken
taken_first : (f : Folding) (net : Network) (left : Talk) (goal : ℕ → Memory) (was : ℕ → Bool) →
    Holds f net left goal was → (r : ℕ) (x : Step) (rest : List Step) → Alike f (net.at r).steps (x ∷ rest) →
    (next : Talk) × Holds f (steps_on f (goes net r (x ∷ rest) (net.at r).memory) r (net.at r).memory
    (x ∷ rest)) next goal was
taken_first f net left goal was inv r x rest a =
    step_holds f (goes net r (x ∷ rest) (net.at r).memory) left goal was
    (quiet f net left goal was inv r (net.at r).memory (x ∷ rest)
    (λ d. sym (a.said d (told left r) (net.at r).memory)) (sym (a.ends (told left r) (net.at r).memory))
    (sym (a.fed (told left r) (net.at r).memory)))
    r (net.at r).memory (x ∷ rest)
    (ap (λ (b : Bool). (if b then record { steps = x ∷ rest; memory = (net.at r).memory } else net.at r).memory)
    (eq-eqb r r refl))
    (ap (λ (b : Bool). (if b then record { steps = x ∷ rest; memory = (net.at r).memory } else net.at r).steps)
    (eq-eqb r r refl))

abbrev pub HoldsAhead : (f : Folding) (net : AheadNetwork) (goal : ℕ → Memory) (was : ℕ → Bool) → Type 0
HoldsAhead f net goal was = (left : Talk) × Holds f (plain_net net) left goal was

-- one member is another one now
one_plain : (net : AheadNetwork) (r : ℕ) (c : Ahead) (d e : Member) → plain c ≡ d → (x : ℕ) →
    (if x == r then d else (if x == r then e else plain (net.at x))) ≡ plain (with_ahead net.at r c x)
one_plain net r c d e h x = go (x == r)
  where
    go : (b : Bool) →
        (if b then d else (if b then e else plain (net.at x))) ≡ plain (if b then c else net.at x)
    go true = sym h
    go false = refl

-- a receive is begun
begins : (f : Folding) (net : AheadNetwork) (goal : ℕ → Memory) (was : ℕ → Bool) → HoldsAhead f net goal was → (r : ℕ)
    (s : ℕ) (into : Slot) (rest : List Step) → (net.at r).steps ≡ Receive s into ∷ rest →
    HoldsAhead f (goes_ahead net r ((net.at r).begun ++ (s, into) ∷ []) rest (net.at r).memory) goal was
begins f net goal was inv r s into rest es = (
  inv.0,
  alike_members f (λ x. plain (net.at x)) (λ x. plain (with_ahead net.at r c x)) net.queue inv.0 goal was same inv.1,
)
  where
    c : Ahead
    c = record { begun = (net.at r).begun ++ (s, into) ∷ []; steps = rest; memory = (net.at r).memory }

    more : (ps : Begun) → receives_of (ps ++ (s, into) ∷ []) ++ rest ≡ receives_of ps ++ Receive s into ∷ rest
    more [] = refl
    more (p ∷ ps) = ap (λ (ss : List Step). Receive p.0 p.1 ∷ ss) (more ps)

    at_r : plain (net.at r) ≡
        plain (record { begun = (net.at r).begun ++ (s, into) ∷ []; steps = rest; memory = (net.at r).memory })
    at_r = ap (λ (ss : List Step). let y : Member = record { steps = ss; memory = (net.at r).memory } in y)
        (ap (λ (ss : List Step). receives_of (net.at r).begun ++ ss) es ∙ sym (more (net.at r).begun))

    same : (x : ℕ) → plain (net.at x) ≡ plain (with_ahead net.at r
        (record { begun = (net.at r).begun ++ (s, into) ∷ []; steps = rest; memory = (net.at r).memory }) x)
    same x = go (x == r) refl
      where
        go : (b : Bool) → (x == r) ≡ b → plain (net.at x) ≡ plain (if b then
            record {
              begun = (net.at r).begun ++ (s, into) ∷ [];
              steps = rest;
              memory =
                  (net.at r).memory;
            } else net.at x)
        go true e = ap (λ (y : ℕ). plain (net.at y)) (eqb-true x r e) ∙ at_r
        go false e = refl

-- another step is taken that meets none of the receives that were begun
steps_by : (f : Folding) (net : AheadNetwork) (goal : ℕ → Memory) (was : ℕ → Bool) → HoldsAhead f net goal was → (r : ℕ)
    (x : Step) (rest : List Step) → (net.at r).steps ≡ x ∷ rest → meets_any x (net.at r).begun ≡ false →
    (next : Talk) × Holds f (steps_on f (goes (plain_net net) r (x ∷ (receives_of (net.at r).begun ++ rest))
    (net.at r).memory) r (net.at r).memory (x ∷ (receives_of (net.at r).begun ++ rest))) next goal was
steps_by f net goal was inv r x rest es clear =
    taken_first f (plain_net net) inv.0 goal was inv.1 r x (receives_of (net.at r).begun ++ rest)
    (subst (λ (ss : List Step). Alike f (receives_of (net.at r).begun ++ ss) (x ∷ (receives_of (net.at r).begun ++
    rest)))
    (sym es) (comes_first f x (net.at r).begun rest clear))

steps_ahead_hold : (f : Folding) (net : AheadNetwork) (goal : ℕ → Memory) (was : ℕ → Bool) → HoldsAhead f net goal was →
    (r : ℕ) (ss : List Step) → (net.at r).steps ≡ ss →
    HoldsAhead f (steps_ahead f net r (net.at r).begun (net.at r).memory ss) goal was
steps_ahead_hold f net goal was inv r [] es = inv
steps_ahead_hold f net goal was inv r (Receive s into ∷ rest) es = begins f net goal was inv r s into rest es
steps_ahead_hold f net goal was inv r (Copy a b ∷ rest) es = go (meets_any (Copy a b) (net.at r).begun) refl
  where
    go : (t : Bool) → meets_any (Copy a b) (net.at r).begun ≡ t → HoldsAhead f
        (if t then net else goes_ahead net r (net.at r).begun rest (with_block (net.at r).memory b
        ((net.at r).memory a)))
        goal was
    go true e = inv
    go false e = let h = steps_by f net goal was inv r (Copy a b) rest es e in (
      h.0,
      alike_members f _ _ net.queue h.0 goal was (one_plain net r
          (record {
            begun = (net.at r).begun;
            steps = rest;
            memory = with_block (net.at r).memory b
                ((net.at r).memory a);
          })
          _ _ refl) h.1,
    )
steps_ahead_hold f net goal was inv r (Fold l g b ∷ rest) es = go (meets_any (Fold l g b) (net.at r).begun) refl
  where
    go : (t : Bool) → meets_any (Fold l g b) (net.at r).begun ≡ t → HoldsAhead f
        (if t then net else goes_ahead net r (net.at r).begun rest
        (with_block (net.at r).memory b (f ((net.at r).memory l) ((net.at r).memory g)))) goal was
    go true e = inv
    go false e = let h = steps_by f net goal was inv r (Fold l g b) rest es e in (
      h.0,
      alike_members f _ _ net.queue h.0 goal was (one_plain net r
          (record {
            begun = (net.at r).begun;
            steps = rest;
            memory = with_block (net.at r).memory b (f ((net.at r).memory l) ((net.at r).memory g));
          })
          _ _ refl) h.1,
    )
steps_ahead_hold f net goal was inv r (Send to a ∷ rest) es = go (meets_any (Send to a) (net.at r).begun) refl
  where
    go : (t : Bool) → meets_any (Send to a) (net.at r).begun ≡ t → HoldsAhead f
        (if t then net else record (goes_ahead net r (net.at r).begun rest (net.at r).memory) {
          queue = with_queue net.queue r to
              (net.queue r to ++ (net.at r).memory a ∷ []);
        }) goal was
    go true e = inv
    go false e = let h = steps_by f net goal was inv r (Send to a) rest es e in (
      h.0,
      alike_members f _ _ _ h.0 goal was (one_plain net r
          (record { begun = (net.at r).begun; steps = rest; memory = (net.at r).memory })
          _ _ refl) h.1,
    )

-- a block comes to a receive
receive_first : (f : Folding) (earlier : Begun) (p : ℕ × Slot) (later : Begun) (ss : List Step) →
    meets_any (Receive p.0 p.1) earlier ≡ false →
    Alike f (receives_of (earlier ++ p ∷ later) ++ ss) (Receive p.0 p.1 ∷ (receives_of (earlier ++ later) ++ ss))
receive_first f earlier p later ss clear =
    subst (λ (tt : List Step). Alike f tt (Receive p.0 p.1 ∷ (receives_of (earlier ++ later) ++ ss)))
    (sym (split earlier (p ∷ later)))
    (subst (λ (tt : List Step). Alike f (receives_of earlier ++ (receives_of (p ∷ later) ++ ss)) (Receive p.0 p.1 ∷ tt))
    (sym (split earlier later))
    (comes_first f (Receive p.0 p.1) earlier (receives_of later ++ ss) clear))
  where
    split : (xs ys : Begun) → receives_of (xs ++ ys) ++ ss ≡ receives_of xs ++ (receives_of ys ++ ss)
    split [] ys = refl
    split (x ∷ xs) ys = ap (λ (tt : List Step). Receive x.0 x.1 ∷ tt) (split xs ys)

arrival_holds : (f : Folding) (net : AheadNetwork) (goal : ℕ → Memory) (was : ℕ → Bool) → HoldsAhead f net goal was →
    (r : ℕ) (earlier : Begun) (p : ℕ × Slot) (later : Begun) → (net.at r).begun ≡ earlier ++ p ∷ later →
    meets_any (Receive p.0 p.1) earlier ≡ false →
    HoldsAhead f (arrives net r p (earlier ++ later) (net.at r).memory (net.at r).steps (net.queue p.0 r)) goal was
arrival_holds f net goal was inv r earlier p later eb clear = go (net.queue p.0 r) refl
  where
    h : (next : Talk) × Holds f (steps_on f (goes (plain_net net) r
        (Receive p.0 p.1 ∷ (receives_of (earlier ++ later) ++ (net.at r).steps)) (net.at r).memory) r (net.at r).memory
        (Receive p.0 p.1 ∷ (receives_of (earlier ++ later) ++ (net.at r).steps))) next goal was
    h = taken_first f (plain_net net) inv.0 goal was inv.1 r (Receive p.0 p.1)
        (receives_of (earlier ++ later) ++ (net.at r).steps)
        (subst (λ (bg : Begun). Alike f (receives_of bg ++ (net.at r).steps)
        (Receive p.0 p.1 ∷ (receives_of (earlier ++ later) ++ (net.at r).steps))) (sym eb)
        (receive_first f earlier p later (net.at r).steps clear))

    go : (q : List Block) → net.queue p.0 r ≡ q →
        HoldsAhead f (arrives net r p (earlier ++ later) (net.at r).memory (net.at r).steps q) goal was
    go [] e = inv
    go (b ∷ bs) e = (
      h.0,
      alike_members f _ _ _ h.0 goal was (one_plain net r
          (record { begun = earlier ++ later; steps = (net.at r).steps; memory = with_block (net.at r).memory p.1 b })
          _ _ refl)
          (subst (λ (q : List Block). Holds f (takes (goes (plain_net net) r
          (Receive p.0 p.1 ∷ (receives_of (earlier ++ later) ++ (net.at r).steps)) (net.at r).memory) r p.0 p.1
          (receives_of (earlier ++ later) ++ (net.at r).steps) (net.at r).memory q) h.0 goal was) e h.1),
    )

comes_holds : (f : Folding) (net : AheadNetwork) (goal : ℕ → Memory) (was : ℕ → Bool) → HoldsAhead f net goal was →
    (r : ℕ) (earlier later : Begun) (k : ℕ) → (net.at r).begun ≡ earlier ++ later →
    HoldsAhead f (comes net r earlier later k (net.at r).memory (net.at r).steps) goal was
comes_holds f net goal was inv r earlier [] k eb = inv
comes_holds f net goal was inv r earlier (p ∷ later) (suc k) eb =
    comes_holds f net goal was inv r (earlier ++ p ∷ []) later k (eb ∙ sym (append_assoc earlier (p ∷ []) later))
comes_holds f net goal was inv r earlier (p ∷ later) zero eb = go (meets_any (Receive p.0 p.1) earlier) refl
  where
    go : (t : Bool) → meets_any (Receive p.0 p.1) earlier ≡ t → HoldsAhead f
        (if t then net else arrives net r p (earlier ++ later) (net.at r).memory (net.at r).steps
        (net.queue p.0 r)) goal was
    go true e = inv
    go false e = arrival_holds f net goal was inv r earlier p later eb e

turns_hold : (f : Folding) (goal : ℕ → Memory) (was : ℕ → Bool) (turns : List Turn) (net : AheadNetwork) →
    HoldsAhead f net goal was → HoldsAhead f (after_turns f net turns) goal was
turns_hold f goal was [] net inv = inv
turns_hold f goal was (Next r ∷ ts) net inv =
    turns_hold f goal was ts (turn f net (Next r)) (steps_ahead_hold f net goal was inv r (net.at r).steps refl)
turns_hold f goal was (Comes r k ∷ ts) net inv =
    turns_hold f goal was ts (turn f net (Comes r k)) (comes_holds f net goal was inv r [] (net.at r).begun k refl)

-- whatever goes on ahead, a member that has ended has what its plan means
pub ahead_is_meant : (f : Folding) (plans : ℕ → List Step) (given : ℕ → Memory) (talk : Talk) →
    IsTalk f plans given talk → (turns : List Turn) (r : ℕ) →
    ((after_turns f (opening_ahead plans given) turns).at r).steps ≡ [] →
    ((after_turns f (opening_ahead plans given) turns).at r).begun ≡ [] →
    ((after_turns f (opening_ahead plans given) turns).at r).memory ≡ ends_with f (told talk r) (given r) (plans r)
ahead_is_meant f plans given talk is turns r ended come =
    let all = turns_hold f (λ x. ends_with f (told talk x) (given x) (plans x))
    (λ x. is_fed f (told talk x) (given x) (plans x)) turns (opening_ahead plans given)
    (talk, record { hands = is; ends = λ x. refl; fed = λ x. refl }) in
    sym (ap₂ (λ (bg : Begun) (ss : List Step). ends_with f (told all.0 r)
    ((after_turns f (opening_ahead plans given) turns).at r).memory (receives_of bg ++ ss)) come ended)
    ∙ all.1.ends r
