-- What a member has doesn't hang on those that haven't entered.
use Rattle.std.proofs.Common.{◌≡◌, ℕ, zero, suc, Bool, true, false, ◌&&◌, ◌||◌, List, [], ◌∷◌, ◌++◌}
use Rattle.std.proofs.Common.{if◌then◌else◌, ◌==◌, refl, sym, ap, ap₂, ◌∙◌, arith, map, length}
use Rattle.std.proofs.lemmas.Bool.{eqb-true, eq-eqb}
use mathlib.Core.Path.{fun_ext}
use Rattle.collective_plans.specs.declared.plan.Slot.{Slot}
use Rattle.collective_plans.specs.declared.plan.Step.{Step}
use Rattle.collective_plans.specs.declared.plan.Step.TheVariants.{Copy, Send, Receive, Fold}
use Rattle.collective_plans.specs.Slots.{Block, Memory, with_block}
use Rattle.collective_plans.specs.Networks.{Folding, with_queue}
use Rattle.collective_plans.specs.Ahead.{Ahead, AheadNetwork, Begun, Comes, Next, Turn, after_turns, arrives, comes}
use Rattle.collective_plans.specs.Ahead.{goes_ahead, meets_any, opening_ahead, steps_ahead, turn, with_ahead}
use Rattle.collective_plans.specs.Entering.{GoesWithoutData, NothingOfTheAbsent, has_entered}

-- TWO NETWORKS THAT DIFFER IN WHAT ONE MEMBER HAS WHO HASN'T ENTERED

record Apart (absent : ℕ) (net net' : AheadNetwork) : Type 0 where
  others : (x : ℕ) → (x == absent) ≡ false → net.at x ≡ net'.at x
  queues : net.queue ≡ net'.queue
  idle : (net.at absent).begun ≡ []
  idle' : (net'.at absent).begun ≡ []

-- one member is another one in both
both_changed : (absent r : ℕ) (at at' : ℕ → Ahead) → ((x : ℕ) → (x == absent) ≡ false → at x ≡ at' x) →
    (c c' : Ahead) → c ≡ c' → (x : ℕ) → (x == absent) ≡ false → with_ahead at r c x ≡ with_ahead at' r c' x
both_changed absent r at at' h c c' e x apart = go (x == r)
  where
    go : (b : Bool) → (if b then c else at x) ≡ (if b then c' else at' x)
    go true = e
    go false = h x apart

not_changed : (absent r : ℕ) (at : ℕ → Ahead) (c : Ahead) → (absent == r) ≡ false → (at absent).begun ≡ [] →
    (with_ahead at r c absent).begun ≡ []
not_changed absent r at c e h = ap (λ (b : Bool). (if b then c else at absent).begun) e ∙ h

-- one goes on, in both alike
apart_goes : (absent r : ℕ) (net net' : AheadNetwork) → Apart absent net net' → (absent == r) ≡ false →
    (c c' : Ahead) → c ≡ c' → (q q' : ℕ → ℕ → List Block) → q ≡ q' →
    Apart absent (record { at = with_ahead net.at r c; queue = q })
    (record { at = with_ahead net'.at r c'; queue = q' })
apart_goes absent r net net' h e c c' same q q' es =
    record {
      others = both_changed absent r net.at net'.at h.others c c' same;
      queues = es;
      idle = not_changed absent r net.at c e h.idle;
      idle' = not_changed absent r net'.at c' e h.idle';
    }

-- a step of one that is alike in both
apart_steps : (f : Folding) (absent r : ℕ) (net net' : AheadNetwork) → Apart absent net net' → (absent == r) ≡ false →
    (bg : Begun) (m : Memory) (ss : List Step) →
    Apart absent (steps_ahead f net r bg m ss) (steps_ahead f net' r bg m ss)
apart_steps f absent r net net' h e bg m [] = h
apart_steps f absent r net net' h e bg m (Receive s into ∷ rest) =
    apart_goes absent r net net' h e _ _ refl net.queue net'.queue h.queues
apart_steps f absent r net net' h e bg m (Copy a b ∷ rest) = go (meets_any (Copy a b) bg)
  where
    go : (t : Bool) → Apart absent (if t then net else goes_ahead net r bg rest (with_block m b (m a)))
        (if t then net' else goes_ahead net' r bg rest (with_block m b (m a)))
    go true = h
    go false = apart_goes absent r net net' h e _ _ refl net.queue net'.queue h.queues
apart_steps f absent r net net' h e bg m (Fold l g b ∷ rest) = go (meets_any (Fold l g b) bg)
  where
    go : (t : Bool) → Apart absent (if t then net else goes_ahead net r bg rest (with_block m b (f (m l) (m g))))
        (if t then net' else goes_ahead net' r bg rest (with_block m b (f (m l) (m g))))
    go true = h
    go false = apart_goes absent r net net' h e _ _ refl net.queue net'.queue h.queues
apart_steps f absent r net net' h e bg m (Send to a ∷ rest) = go (meets_any (Send to a) bg)
  where
    go : (t : Bool) → Apart absent
        (if t then net else record (goes_ahead net r bg rest m) {
          queue = with_queue net.queue r to (net.queue r to ++ m a ∷ []);
        })
        (if t then net' else record (goes_ahead net' r bg rest m) {
          queue = with_queue net'.queue r to (net'.queue r to ++ m a ∷ []);
        })
    go true = h
    go false = apart_goes absent r net net' h e _ _ refl _ _
        (ap (λ (q : ℕ → ℕ → List Block). with_queue q r to (q r to ++ m a ∷ [])) h.queues)

apart_arrives : (absent r : ℕ) (net net' : AheadNetwork) → Apart absent net net' → (absent == r) ≡ false →
    (p : ℕ × Slot) (bg : Begun) (m : Memory) (ss : List Step) (q : List Block) →
    Apart absent (arrives net r p bg m ss q) (arrives net' r p bg m ss q)
apart_arrives absent r net net' h e p bg m ss [] = h
apart_arrives absent r net net' h e p bg m ss (b ∷ bs) =
    apart_goes absent r net net' h e _ _ refl _ _
    (ap (λ (q : ℕ → ℕ → List Block). with_queue q p.0 r bs) h.queues)

apart_comes : (absent r : ℕ) (net net' : AheadNetwork) → Apart absent net net' → (absent == r) ≡ false →
    (earlier later : Begun) (k : ℕ) (m : Memory) (ss : List Step) →
    Apart absent (comes net r earlier later k m ss) (comes net' r earlier later k m ss)
apart_comes absent r net net' h e earlier [] k m ss = h
apart_comes absent r net net' h e earlier (p ∷ later) (suc k) m ss =
    apart_comes absent r net net' h e (earlier ++ p ∷ []) later k m ss
apart_comes absent r net net' h e earlier (p ∷ later) zero m ss = go (meets_any (Receive p.0 p.1) earlier)
  where
    go : (t : Bool) → Apart absent
        (if t then net else arrives net r p (earlier ++ later) m ss (net.queue p.0 r))
        (if t then net' else arrives net' r p (earlier ++ later) m ss (net'.queue p.0 r))
    go true = h
    go false = rw (sym (ap (λ (q : ℕ → ℕ → List Block). q p.0 r) h.queues))
        (apart_arrives absent r net net' h e p (earlier ++ later) m ss (net.queue p.0 r))

turned : (a : ℕ) (b : ℕ) → (a == b) ≡ false → (b == a) ≡ false
turned a b e = go (b == a) refl
  where
    go : (t : Bool) → (b == a) ≡ t → (b == a) ≡ false
    go false u = u
    go true u = let k : true ≡ false = sym (eq-eqb a b (sym (eqb-true b a u))) ∙ e in absurd (grind arith)

-- nothing comes to one that has begun no receive
nothing_comes : (net : AheadNetwork) (r : ℕ) (bg : Begun) (k : ℕ) → bg ≡ [] →
    comes net r [] bg k (net.at r).memory (net.at r).steps ≡ net
nothing_comes net r bg k e = ap (λ (ps : Begun). comes net r [] ps k (net.at r).memory (net.at r).steps) e

apart_turn : (f : Folding) (absent : ℕ) (net net' : AheadNetwork) → Apart absent net net' → (t : Turn) →
    has_entered absent (t ∷ []) ≡ false → Apart absent (turn f net t) (turn f net' t)
apart_turn f absent net net' h (Next r) out = go (absent == r) refl
  where
    go : (b : Bool) → (absent == r) ≡ b → Apart absent (turn f net (Next r)) (turn f net' (Next r))
    go true e = let k : true ≡ false = sym (ap (λ (c : Bool). c || false) e) ∙ out in absurd (grind arith)
    go false e = rw (sym (h.others r (turned absent r e)))
        (apart_steps f absent r net net' h e (net.at r).begun (net.at r).memory (net.at r).steps)
apart_turn f absent net net' h (Comes r k) out = go (absent == r) refl
  where
    go : (b : Bool) → (absent == r) ≡ b → Apart absent (turn f net (Comes r k)) (turn f net' (Comes r k))
    go true e = let is : absent ≡ r = eqb-true absent r e in
        rw (
          nothing_comes net r (net.at r).begun k (ap (λ (x : ℕ). (net.at x).begun) (sym is) ∙ h.idle),
          nothing_comes net' r (net'.at r).begun k (ap (λ (x : ℕ). (net'.at x).begun) (sym is) ∙ h.idle'),
        ) h
    go false e = rw (sym (h.others r (turned absent r e)))
        (apart_comes absent r net net' h e [] (net.at r).begun k (net.at r).memory (net.at r).steps)

-- none of these turns is of the one that hasn't entered
first_out : (absent : ℕ) (t : Turn) (ts : List Turn) → has_entered absent (t ∷ ts) ≡ false →
    (has_entered absent (t ∷ []) ≡ false) × (has_entered absent ts ≡ false)
first_out absent (Comes r k) ts h = (refl, h)
first_out absent (Next r) ts h = go (absent == r) refl h
  where
    go : (b : Bool) → (absent == r) ≡ b → (b || has_entered absent ts) ≡ false →
        (((absent == r) || false) ≡ false) × (has_entered absent ts ≡ false)
    go true e k = let l : true ≡ false = k in absurd (grind arith)
    go false e k = (ap (λ (c : Bool). c || false) e, k)

apart_turns : (f : Folding) (absent : ℕ) (ts : List Turn) (net net' : AheadNetwork) → Apart absent net net' →
    has_entered absent ts ≡ false → Apart absent (after_turns f net ts) (after_turns f net' ts)
apart_turns f absent [] net net' h out = h
apart_turns f absent (t ∷ ts) net net' h out =
    let n = first_out absent t ts out in
    apart_turns f absent ts (turn f net t) (turn f net' t) (apart_turn f absent net net' h t n.0) n.1

pub nothing_of_the_absent : NothingOfTheAbsent
nothing_of_the_absent f plans given given' turns absent alike out r apart =
    (apart_turns f absent turns (opening_ahead plans given) (opening_ahead plans given') (record {
      others = λ x e. ap (λ (m : Memory). let c : Ahead = record { begun = []; steps = plans x; memory = m } in c)
          (alike x e);
      queues = refl;
      idle = refl;
      idle' = refl;
    }) out).others r apart

-- TWO NETWORKS THAT DIFFER IN DATA ALONE

record Alike (net net' : AheadNetwork) : Type 0 where
  steps : (x : ℕ) → (net.at x).steps ≡ (net'.at x).steps
  begun : (x : ℕ) → (net.at x).begun ≡ (net'.at x).begun
  queued : (s d : ℕ) → length (net.queue s d) ≡ length (net'.queue s d)

read_changed : {X : Type 0} (read : Ahead → X) (r : ℕ) (at at' : ℕ → Ahead) (c c' : Ahead) →
    ((x : ℕ) → read (at x) ≡ read (at' x)) → read c ≡ read c' → (x : ℕ) →
    read (with_ahead at r c x) ≡ read (with_ahead at' r c' x)
read_changed read r at at' c c' h e x = go (x == r)
  where
    go : (b : Bool) → read (if b then c else at x) ≡ read (if b then c' else at' x)
    go true = e
    go false = h x

queue_changed : (q q' : ℕ → ℕ → List Block) (s d : ℕ) (bs bs' : List Block) →
    ((x y : ℕ) → length (q x y) ≡ length (q' x y)) → length bs ≡ length bs' → (x y : ℕ) →
    length (with_queue q s d bs x y) ≡ length (with_queue q' s d bs' x y)
queue_changed q q' s d bs bs' h e x y = go ((x == s) && (y == d))
  where
    go : (b : Bool) → length (if b then bs else q x y) ≡ length (if b then bs' else q' x y)
    go true = e
    go false = h x y

alike_goes : (r : ℕ) (net net' : AheadNetwork) → Alike net net' → (bg : Begun) (ss : List Step) (m m' : Memory)
    (q q' : ℕ → ℕ → List Block) → ((x y : ℕ) → length (q x y) ≡ length (q' x y)) →
    Alike (record { at = with_ahead net.at r (record { begun = bg; steps = ss; memory = m }); queue = q })
    (record { at = with_ahead net'.at r (record { begun = bg; steps = ss; memory = m' }); queue = q' })
alike_goes r net net' h bg ss m m' q q' es =
    record {
      steps = read_changed (λ (c : Ahead). c.steps) r net.at net'.at _ _ h.steps refl;
      begun = read_changed (λ (c : Ahead). c.begun) r net.at net'.at _ _ h.begun refl;
      queued = es;
    }

longer : (xs ys : List Block) (b c : Block) → length xs ≡ length ys → length (xs ++ b ∷ []) ≡ length (ys ++ c ∷ [])
longer [] [] b c e = refl
longer [] (y ∷ ys) b c e = let k : 0 ≡ suc (length ys) = e in absurd (omega (arith, k))
longer (x ∷ xs) [] b c e = let k : suc (length xs) ≡ 0 = e in absurd (omega (arith, k))
longer (x ∷ xs) (y ∷ ys) b c e =
    let k : suc (length xs) ≡ suc (length ys) = e in
    ap suc (longer xs ys b c (omega (arith, k)))

alike_steps : (f g : Folding) (r : ℕ) (net net' : AheadNetwork) → Alike net net' → (bg : Begun) (m m' : Memory)
    (ss : List Step) → Alike (steps_ahead f net r bg m ss) (steps_ahead g net' r bg m' ss)
alike_steps f g r net net' h bg m m' [] = h
alike_steps f g r net net' h bg m m' (Receive s into ∷ rest) =
    alike_goes r net net' h (bg ++ (s, into) ∷ []) rest m m' net.queue net'.queue h.queued
alike_steps f g r net net' h bg m m' (Copy a b ∷ rest) = go (meets_any (Copy a b) bg)
  where
    go : (t : Bool) → Alike (if t then net else goes_ahead net r bg rest (with_block m b (m a)))
        (if t then net' else goes_ahead net' r bg rest (with_block m' b (m' a)))
    go true = h
    go false = alike_goes r net net' h bg rest _ _ net.queue net'.queue h.queued
alike_steps f g r net net' h bg m m' (Fold l k b ∷ rest) = go (meets_any (Fold l k b) bg)
  where
    go : (t : Bool) → Alike (if t then net else goes_ahead net r bg rest (with_block m b (f (m l) (m k))))
        (if t then net' else goes_ahead net' r bg rest (with_block m' b (g (m' l) (m' k))))
    go true = h
    go false = alike_goes r net net' h bg rest _ _ net.queue net'.queue h.queued
alike_steps f g r net net' h bg m m' (Send to a ∷ rest) = go (meets_any (Send to a) bg)
  where
    go : (t : Bool) → Alike
        (if t then net else record (goes_ahead net r bg rest m) {
          queue = with_queue net.queue r to (net.queue r to ++ m a ∷ []);
        })
        (if t then net' else record (goes_ahead net' r bg rest m') {
          queue = with_queue net'.queue r to (net'.queue r to ++ m' a ∷ []);
        })
    go true = h
    go false = alike_goes r net net' h bg rest m m' _ _
        (queue_changed net.queue net'.queue r to _ _ h.queued
        (longer (net.queue r to) (net'.queue r to) (m a) (m' a) (h.queued r to)))

alike_arrives : (r : ℕ) (net net' : AheadNetwork) → Alike net net' → (p : ℕ × Slot) (bg : Begun) (m m' : Memory)
    (ss : List Step) (q q' : List Block) → length q ≡ length q' →
    Alike (arrives net r p bg m ss q) (arrives net' r p bg m' ss q')
alike_arrives r net net' h p bg m m' ss [] [] e = h
alike_arrives r net net' h p bg m m' ss [] (b ∷ bs) e =
    let k : 0 ≡ suc (length bs) = e in absurd (omega (arith, k))
alike_arrives r net net' h p bg m m' ss (b ∷ bs) [] e =
    let k : suc (length bs) ≡ 0 = e in absurd (omega (arith, k))
alike_arrives r net net' h p bg m m' ss (b ∷ bs) (c ∷ cs) e =
    let k : suc (length bs) ≡ suc (length cs) = e in
    alike_goes r net net' h bg ss _ _ _ _
    (queue_changed net.queue net'.queue p.0 r bs cs h.queued (omega (arith, k)))

alike_comes : (r : ℕ) (net net' : AheadNetwork) → Alike net net' → (earlier later : Begun) (k : ℕ) (m m' : Memory)
    (ss : List Step) → Alike (comes net r earlier later k m ss) (comes net' r earlier later k m' ss)
alike_comes r net net' h earlier [] k m m' ss = h
alike_comes r net net' h earlier (p ∷ later) (suc k) m m' ss =
    alike_comes r net net' h (earlier ++ p ∷ []) later k m m' ss
alike_comes r net net' h earlier (p ∷ later) zero m m' ss = go (meets_any (Receive p.0 p.1) earlier)
  where
    go : (t : Bool) → Alike
        (if t then net else arrives net r p (earlier ++ later) m ss (net.queue p.0 r))
        (if t then net' else arrives net' r p (earlier ++ later) m' ss (net'.queue p.0 r))
    go true = h
    go false = alike_arrives r net net' h p (earlier ++ later) m m' ss _ _ (h.queued p.0 r)

alike_turn : (f g : Folding) (net net' : AheadNetwork) → Alike net net' → (t : Turn) →
    Alike (turn f net t) (turn g net' t)
alike_turn f g net net' h (Next r) =
    rw (sym (h.begun r), sym (h.steps r))
    (alike_steps f g r net net' h (net.at r).begun (net.at r).memory (net'.at r).memory (net.at r).steps)
alike_turn f g net net' h (Comes r k) =
    rw (sym (h.begun r), sym (h.steps r))
    (alike_comes r net net' h [] (net.at r).begun k (net.at r).memory (net'.at r).memory (net.at r).steps)

alike_turns : (f g : Folding) (ts : List Turn) (net net' : AheadNetwork) → Alike net net' →
    Alike (after_turns f net ts) (after_turns g net' ts)
alike_turns f g [] net net' h = h
alike_turns f g (t ∷ ts) net net' h = alike_turns f g ts (turn f net t) (turn g net' t) (alike_turn f g net net' h t)

pub goes_without_data : GoesWithoutData
goes_without_data f g plans given given' turns r =
    let h = alike_turns f g turns (opening_ahead plans given) (opening_ahead plans given')
    (record { steps = λ x. refl; begun = λ x. refl; queued = λ s d. refl }) in
    (h.steps r, h.begun r)
