-- A script's parts, carried out in any order, give what the script gives.
use Rattle.std.proofs.Common.{◌≡◌, ℕ, Bool, true, false, ◌&&◌, List, [], ◌∷◌, ◌++◌, if◌then◌else◌, ◌==◌}
use Rattle.std.proofs.Common.{refl, sym, ap, ◌∙◌, subst}
use Rattle.std.proofs.lemmas.Bool.{eqb-true, eq-eqb}
use mathlib.Core.Path.{fun_ext}
use Rattle.collective_plans.specs.declared.plan.Slot.{Slot}
use Rattle.collective_plans.specs.declared.plan.Step.{Step}
use Rattle.collective_plans.specs.declared.plan.Step.TheVariants.{Copy, Send, Receive, Fold}
use Rattle.collective_plans.specs.Slots.{Block, Memory, with_block}
use Rattle.collective_plans.specs.Networks.{Folding}
use Rattle.collective_plans.specs.Meanings.{Inbox, Talk, ends_with, first_of, is_fed, is_filled, others_of, said_to}
use Rattle.collective_plans.specs.Meanings.{told, without_first}
use Rattle.collective_plans.specs.Scripts.{Act, Copies, Folds, Hands, ScriptsArePlayed, done, own_step, part, part_of}
use Rattle.collective_plans.specs.Scripts.{played, with_memory}
use Rattle.collective_plans.proofs.AheadProofs.{ahead_is_meant}

-- what one thing that is done adds to the talk
abbrev says_in : (ℕ → Memory) → Act → Talk → Talk
says_in ms (Copies r a b) t = t
says_in ms (Folds r l h i) t = t
says_in ms (Hands s a d b) t = λ x y. if (x == s) && (y == d) then ms s a ∷ t x y else t x y

-- what all say to all
abbrev pub handed : Folding → (ℕ → Memory) → List Act → Talk
handed f ms [] = λ s d. []
handed f ms (x ∷ xs) = says_in ms x (handed f (done f ms x) xs)

-- what steps mean where this is told
pub record Reads (f : Folding) (q : Inbox) (m : Memory) (ss : List Step) (t : ℕ → List Block) (e : Memory) :
    Type 0 where
  pub said : (d : ℕ) → said_to f d q m ss ≡ t d
  pub ends : ends_with f q m ss ≡ e
  pub fed : is_fed f q m ss ≡ true

-- the memory of one that something was done by
changed : (ms : ℕ → Memory) (x : ℕ) (m : ℕ → Memory) (s : ℕ) (b : Bool) → (s == x) ≡ b → b ≡ true →
    (if s == x then m x else ms s) ≡ m s
changed ms x m s b e h =
    ap (λ (t : Bool). if t then m x else ms s) (e ∙ h) ∙ ap m (sym (eqb-true s x (e ∙ h)))

kept : (ms : ℕ → Memory) (x : ℕ) (m : Memory) (s : ℕ) → (s == x) ≡ false → (if s == x then m else ms s) ≡ ms s
kept ms x m s e = ap (λ (t : Bool). if t then m else ms s) e

pub with_own : (f : Folding) (q : Inbox) (m n : Memory) (ss : List Step) (t : ℕ → List Block) (e : Memory) → m ≡ n →
    Reads f q m ss t e → Reads f q n ss t e
with_own f q m n ss t e h = subst (λ (x : Memory). Reads f q x ss t e) h

copies_read : (f : Folding) (ms : ℕ → Memory) (x : ℕ) (a b : Slot) (s : ℕ) (q : Inbox) (ss : List Step)
    (t : ℕ → List Block) (e : Memory) → Reads f q (done f ms (Copies x a b) s) ss t e →
    Reads f q (ms s) (own_step (s == x) (Copy a b) ss) t e
copies_read f ms x a b s q ss t e h = go (s == x) refl
  where
    go : (c : Bool) → (s == x) ≡ c → Reads f q (ms s) (if c then Copy a b ∷ ss else ss) t e
    go true u = let k = with_own f q _ _ ss t e
        (changed ms x (λ y. with_block (ms y) b (ms y a)) s true u refl) h in
        record { said = k.said; ends = k.ends; fed = k.fed }
    go false u = with_own f q _ _ ss t e (kept ms x (with_block (ms x) b (ms x a)) s u) h

folds_read : (f : Folding) (ms : ℕ → Memory) (x : ℕ) (l g i : Slot) (s : ℕ) (q : Inbox) (ss : List Step)
    (t : ℕ → List Block) (e : Memory) → Reads f q (done f ms (Folds x l g i) s) ss t e →
    Reads f q (ms s) (own_step (s == x) (Fold l g i) ss) t e
folds_read f ms x l g i s q ss t e h = go (s == x) refl
  where
    go : (c : Bool) → (s == x) ≡ c → Reads f q (ms s) (if c then Fold l g i ∷ ss else ss) t e
    go true u = let k = with_own f q _ _ ss t e
        (changed ms x (λ y. with_block (ms y) i (f (ms y l) (ms y g))) s true u refl) h in
        record { said = k.said; ends = k.ends; fed = k.fed }
    go false u = with_own f q _ _ ss t e (kept ms x (with_block (ms x) i (f (ms x l) (ms x g))) s u) h

-- what a member is told where one block more is handed to somebody
abbrev told_more : Talk → (x y : ℕ) → Block → (s : ℕ) → Inbox
told_more t x y v s z = if (z == x) && (s == y) then v ∷ t z s else t z s

told_other : (t : Talk) (x y : ℕ) (v : Block) (s : ℕ) → (s == y) ≡ false → told_more t x y v s ≡ told t s
told_other t x y v s e = fun_ext (λ z. go z (z == x))
  where
    go : (z : ℕ) (c : Bool) → (if c && (s == y) then v ∷ t z s else t z s) ≡ t z s
    go z true = ap (λ (b : Bool). if b then v ∷ t z s else t z s) e
    go z false = refl

told_first : (t : Talk) (x y : ℕ) (v : Block) (s : ℕ) → (s == y) ≡ true → told_more t x y v s x ≡ v ∷ t x s
told_first t x y v s e =
    ap (λ (c : Bool). if c && (s == y) then v ∷ t x s else t x s) (eq-eqb x x refl)
    ∙ ap (λ (c : Bool). if c then v ∷ t x s else t x s) e

told_rest : (t : Talk) (x y : ℕ) (v : Block) (s : ℕ) → (s == y) ≡ true →
    without_first (told_more t x y v s) x ≡ told t s
told_rest t x y v s e = fun_ext (λ z. go z (z == x) refl)
  where
    go : (z : ℕ) (c : Bool) → (z == x) ≡ c →
        (if c then others_of (told_more t x y v s x) else (if c && (s == y) then v ∷ t z s else t z s)) ≡ t z s
    go z true u = ap others_of (told_first t x y v s e) ∙ ap (λ (w : ℕ). t w s) (sym (eqb-true z x u))
    go z false u = refl

takes_read : (f : Folding) (ms : ℕ → Memory) (x : ℕ) (a : Slot) (y : ℕ) (b : Slot) (s : ℕ) (t : Talk) (ss : List Step)
    (e : Memory) → Reads f (told t s) (done f ms (Hands x a y b) s) ss (t s) e →
    Reads f (told_more t x y (ms x a) s) (ms s) (own_step (s == y) (Receive x b) ss) (t s) e
takes_read f ms x a y b s t ss e h = go (s == y) refl
  where
    go : (c : Bool) → (s == y) ≡ c →
        Reads f (told_more t x y (ms x a) s) (ms s) (if c then Receive x b ∷ ss else ss) (t s) e
    go false u = subst (λ (q : Inbox). Reads f q (ms s) ss (t s) e) (sym (told_other t x y (ms x a) s u))
        (with_own f _ _ _ ss (t s) e (kept ms y (with_block (ms y) b (ms x a)) s u) h)
    go true u =
        let k = subst (λ (q : Inbox). Reads f q (with_block (ms s) b (ms x a)) ss (t s) e)
        (sym (told_rest t x y (ms x a) s u))
        (with_own f _ _ _ ss (t s) e (changed ms y (λ z. with_block (ms z) b (ms x a)) s true u refl) h) in
        let l = subst (λ (v : Block). Reads f (without_first (told_more t x y (ms x a) s) x) (with_block (ms s) b v) ss
        (t s) e) (sym (ap first_of (told_first t x y (ms x a) s u))) k in
        record {
          said = l.said;
          ends = l.ends;
          fed = ap (λ (v : Bool). v && is_fed f (without_first (told_more t x y (ms x a) s) x)
              (with_block (ms s) b (first_of (told_more t x y (ms x a) s x))) ss)
              (ap is_filled (told_first t x y (ms x a) s u)) ∙ l.fed;
        }

sends_read : (f : Folding) (ms : ℕ → Memory) (x : ℕ) (a : Slot) (y s : ℕ) (t : Talk) (q : Inbox) (ss : List Step)
    (e : Memory) → Reads f q (ms s) ss (t s) e →
    Reads f q (ms s) (own_step (s == x) (Send y a) ss)
    (λ d. if (s == x) && (d == y) then ms x a ∷ t s d else t s d) e
sends_read f ms x a y s t q ss e h = go (s == x) refl
  where
    go : (c : Bool) → (s == x) ≡ c →
        Reads f q (ms s) (if c then Send y a ∷ ss else ss) (λ d. if c && (d == y) then ms x a ∷ t s d else t s d) e
    go false u = h
    go true u =
        record {
          said = λ d. said d (d == y);
          ends = h.ends;
          fed = h.fed;
        }
      where
        said : (d : ℕ) (c : Bool) → (if c then ms s a ∷ said_to f d q (ms s) ss else said_to f d q (ms s) ss) ≡
            (if c then ms x a ∷ t s d else t s d)
        said d true = ap (λ (bs : List Block). ms s a ∷ bs) (h.said d)
            ∙ ap (λ (z : ℕ). ms z a ∷ t s d) (eqb-true s x u)
        said d false = h.said d

act_read : (f : Folding) (x : Act) (ms : ℕ → Memory) (s : ℕ) (t : Talk) (ss : List Step) (e : Memory) →
    Reads f (told t s) (done f ms x s) ss (t s) e →
    Reads f (told (says_in ms x t) s) (ms s) (part_of s x ss) (says_in ms x t s) e
act_read f (Copies x a b) ms s t ss e h = copies_read f ms x a b s (told t s) ss (t s) e h
act_read f (Folds x l g i) ms s t ss e h = folds_read f ms x l g i s (told t s) ss (t s) e h
act_read f (Hands x a y b) ms s t ss e h =
    sends_read f ms x a y s t (told_more t x y (ms x a) s) (own_step (s == y) (Receive x b) ss) e
    (takes_read f ms x a y b s t ss e h)

parts_read : (f : Folding) (acts : List Act) (ms : ℕ → Memory) (s : ℕ) →
    Reads f (told (handed f ms acts) s) (ms s) (part s acts) (handed f ms acts s) (played f ms acts s)
parts_read f [] ms s = record { said = λ d. refl; ends = refl; fed = refl }
parts_read f (x ∷ xs) ms s =
    act_read f x ms s (handed f (done f ms x) xs) (part s xs) (played f (done f ms x) xs s)
    (parts_read f xs (done f ms x) s)

pub scripts_are_played : ScriptsArePlayed
scripts_are_played f acts given turns r ended come =
    ahead_is_meant f (λ x. part x acts) given (handed f given acts) (λ s d. (parts_read f acts given s).said d) turns r
    ended come
    ∙ (parts_read f acts given r).ends
