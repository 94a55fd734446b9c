-- Whatever order members take steps in, each has what its plan means.
use Rattle.std.proofs.Common.{◌≡◌, ℕ, Bool, true, false, ◌&&◌, List, [], ◌∷◌, ◌++◌, if◌then◌else◌, ◌==◌}
use Rattle.std.proofs.Common.{refl, sym, ap, ap₂, ◌∙◌, subst, append_assoc, arith}
use Rattle.std.proofs.lemmas.Bool.{eqb-true, eq-eqb, and_parts}
use mathlib.Core.Path.{fun_ext}
use Rattle.collective_plans.specs.declared.plan.Slot.{Slot}
use Rattle.collective_plans.specs.declared.plan.Step.{Step}
use Rattle.collective_plans.specs.declared.plan.Step.TheVariants.{Copy, Send, Receive, Fold}
use Rattle.collective_plans.specs.Slots.{Block, Memory, with_block}
use Rattle.collective_plans.specs.Networks.{Folding, Member, Network, after, goes, moves, opening, steps_on, takes}
use Rattle.collective_plans.specs.Networks.{with_member, with_queue}
use Rattle.collective_plans.specs.Meanings.{Inbox, IsTalk, Talk, ends_with, first_of, others_of, said_to, told}
use Rattle.collective_plans.specs.Meanings.{has_no_send, is_fed, is_filled, sends_first, without_first}
use Rattle.collective_plans.specs.PlanLaws.{GoesOn, NoOneWaitsForWhoWaits, RunsAreMeant}

-- what a member on its way says yet, and has in the end
abbrev pub says : Folding → ℕ → Inbox → Member → List Block
says f d q c = said_to f d q c.memory c.steps

abbrev pub has : Folding → Inbox → Member → Memory
has f q c = ends_with f q c.memory c.steps

abbrev pub feeds : Folding → Inbox → Member → Bool
feeds f q c = is_fed f q c.memory c.steps

-- What holds all the time: what is under way, and then what is said yet, is what is left to be told; and each member
-- will have what it was to have
pub record Holds (f : Folding) (net : Network) (left : Talk) (goal : ℕ → Memory) (was : ℕ → Bool) : Type 0 where
  pub hands : (s d : ℕ) → net.queue s d ++ says f d (told left s) (net.at s) ≡ left s d
  pub ends : (r : ℕ) → has f (told left r) (net.at r) ≡ goal r
  pub fed : (r : ℕ) → feeds f (told left r) (net.at r) ≡ was r

-- whatever is read of members is as before, where it is so of the one that is changed
one_changed : {X : Type 0} (read : ℕ → Member → X) (at : ℕ → Member) (r : ℕ) (c : Member) →
    read r c ≡ read r (at r) → (s : ℕ) → read s (with_member at r c s) ≡ read s (at s)
one_changed read at r c h s = go (s == r) refl
  where
    go : (b : Bool) → (s == r) ≡ b → read s (if b then c else at s) ≡ read s (at s)
    go true e = subst (λ (x : ℕ). read x c ≡ read x (at x)) (sym (eqb-true s r e)) h
    go false e = refl

-- a step that no other member notices
pub quiet : (f : Folding) (net : Network) (left : Talk) (goal : ℕ → Memory) (was : ℕ → Bool) →
    Holds f net left goal was → (r : ℕ) (m : Memory)
    (rest : List Step) →
    ((d : ℕ) → said_to f d (told left r) m rest ≡ says f d (told left r) (net.at r)) →
    ends_with f (told left r) m rest ≡ has f (told left r) (net.at r) → is_fed f (told left r) m rest ≡
    feeds f (told left r) (net.at r) →
    Holds f (goes net r rest m) left goal was
quiet f net left goal was inv r m rest h k l =
    record {
      hands = λ s d. ap (λ (bs : List Block). net.queue s d ++ bs)
          (one_changed (λ (x : ℕ) (c : Member). says f d (told left x) c) net.at r c (h d) s) ∙ inv.hands s d;
      ends = λ x. one_changed (λ (y : ℕ) (c : Member). has f (told left y) c) net.at r c k x ∙ inv.ends x;
      fed = λ x. one_changed (λ (y : ℕ) (c : Member). feeds f (told left y) c) net.at r c l x ∙ inv.fed x;
    }
  where
    c : Member
    c = record { steps = rest; memory = m }

-- a block is handed out
sends : (f : Folding) (net : Network) (left : Talk) (goal : ℕ → Memory) (was : ℕ → Bool) → Holds f net left goal was →
    (r : ℕ) (m : Memory)
    (to : ℕ) (from : Slot) (rest : List Step) → (net.at r).memory ≡ m → (net.at r).steps ≡ Send to from ∷ rest →
    Holds f (record (goes net r rest m) {
      queue = with_queue net.queue r to (net.queue r to ++
          m from ∷ []);
    }) left goal was
sends f net left goal was inv r m to from rest em es =
    record {
      hands = hands;
      ends = λ x. one_changed (λ (y : ℕ) (c : Member). has f (told left y) c) net.at r c
          (sym (ap₂ (λ (m : Memory) (ss : List Step). ends_with f (told left r) m ss) em es)) x ∙ inv.ends x;
      fed = λ x. one_changed (λ (y : ℕ) (c : Member). feeds f (told left y) c) net.at r c
          (sym (ap₂ (λ (m : Memory) (ss : List Step). is_fed f (told left r) m ss) em es)) x ∙ inv.fed x;
    }
  where
    c : Member
    c = record { steps = rest; memory = m }

    -- what it said before this step
    before : (d : ℕ) → says f d (told left r) (net.at r) ≡ said_to f d (told left r) m (Send to from ∷ rest)
    before d = ap₂ (λ (m : Memory) (ss : List Step). said_to f d (told left r) m ss) em es

    to_it : (net.queue r to ++ m from ∷ []) ++ said_to f to (told left r) m rest ≡ left r to
    to_it = append_assoc (net.queue r to) (m from ∷ []) (said_to f to (told left r) m rest)
        ∙ ap (λ (bs : List Block). net.queue r to ++ bs)
        (ap (λ (b : Bool). if b then m from ∷ said_to f to (told left r) m rest else said_to f to (told left r) m rest)
        (sym (eq-eqb to to refl)))
        ∙ ap (λ (bs : List Block). net.queue r to ++ bs) (sym (before to)) ∙ inv.hands r to

    to_other : (d : ℕ) → (d == to) ≡ false → net.queue r d ++ said_to f d (told left r) m rest ≡ left r d
    to_other d e = ap (λ (bs : List Block). net.queue r d ++ bs)
        (ap (λ (b : Bool). if b then m from ∷ said_to f d (told left r) m rest else said_to f d (told left r) m rest)
        (sym e))
        ∙ ap (λ (bs : List Block). net.queue r d ++ bs) (sym (before d)) ∙ inv.hands r d

    hands : (s d : ℕ) →
        with_queue net.queue r to (net.queue r to ++ m from ∷ []) s d ++
        says f d (told left s) (with_member net.at r c s) ≡ left s d
    hands s d = go (s == r) refl (d == to) refl
      where
        go : (a : Bool) → (s == r) ≡ a → (b : Bool) → (d == to) ≡ b →
            (if a && b then net.queue r to ++ m from ∷ [] else net.queue s d) ++
            says f d (told left s) (if a then c else net.at s) ≡ left s d
        go false e b k = inv.hands s d
        go true e true k = subst
            (λ (x : ℕ). (net.queue r to ++ m from ∷ []) ++ said_to f d (told left x) m rest ≡ left x d)
            (sym (eqb-true s r e))
            (subst (λ (y : ℕ). (net.queue r to ++ m from ∷ []) ++ said_to f y (told left r) m rest ≡ left r y)
            (sym (eqb-true d to k)) to_it)
        go true e false k = subst
            (λ (x : ℕ). net.queue x d ++ said_to f d (told left x) m rest ≡ left x d) (sym (eqb-true s r e))
            (to_other d k)

-- what is left to be told once a member took a block
abbrev taken_from : Talk → (s r : ℕ) → Talk
taken_from left s r = with_queue left s r (others_of (left s r))

told_less : (left : Talk) (s r : ℕ) → told (taken_from left s r) r ≡ without_first (told left r) s
told_less left s r = fun_ext (λ x. go x (x == s) (r == r) (eq-eqb r r refl))
  where
    go : (x : ℕ) (a b : Bool) → b ≡ true →
        (if a && b then others_of (left s r) else left x r) ≡ (if a then others_of (left s r) else left x r)
    go x false b e = refl
    go x true b e = ap (λ (t : Bool). if t then others_of (left s r) else left x r) e

told_alike : (left : Talk) (s r x : ℕ) → (x == r) ≡ false → told (taken_from left s r) x ≡ told left x
told_alike left s r x e = fun_ext (λ y. go y (y == s))
  where
    go : (y : ℕ) (a : Bool) → (if a && (x == r) then others_of (left s r) else left y x) ≡ left y x
    go y false = refl
    go y true = ap (λ (t : Bool). if t then others_of (left s r) else left y x) e

-- whatever a reader makes of members is as before, where a block less is left
one_taken : {X : Type 0} (read : Inbox → Member → X) (at : ℕ → Member) (left : Talk) (s r : ℕ) (c : Member) →
    read (without_first (told left r) s) c ≡ read (told left r) (at r) →
    (x : ℕ) → read (told (taken_from left s r) x) (with_member at r c x) ≡ read (told left x) (at x)
one_taken read at left s r c h x = go (x == r) refl
  where
    go : (b : Bool) → (x == r) ≡ b →
        read (told (taken_from left s r) x) (if b then c else at x) ≡ read (told left x) (at x)
    go true e = subst (λ (y : ℕ). read (told (taken_from left s r) y) c ≡ read (told left y) (at y))
        (sym (eqb-true x r e)) (ap (λ (q : Inbox). read q c) (told_less left s r) ∙ h)
    go false e = ap (λ (q : Inbox). read q (at x)) (told_alike left s r x e)

receives : (f : Folding) (net : Network) (left : Talk) (goal : ℕ → Memory) (was : ℕ → Bool) →
    Holds f net left goal was → (r : ℕ)
    (m : Memory) (s : ℕ) (into : Slot) (rest : List Step) → (net.at r).memory ≡ m →
    (net.at r).steps ≡ Receive s into ∷ rest → (b : Block) (bs : List Block) → net.queue s r ≡ b ∷ bs →
    Holds f (record (goes net r rest (with_block m into b)) { queue = with_queue net.queue s r bs })
    (taken_from left s r) goal was
receives f net left goal was inv r m s into rest em es b bs eq =
    record {
      hands = λ x d. hand x d ((x == s) && (d == r)) refl;
      ends = λ x. one_taken (λ (q : Inbox) (y : Member). has f q y) net.at left s r c
          (ap (λ (z : Block). ends_with f (without_first (told left r) s) (with_block m into z) rest) (sym first) ∙
          sym (ap₂ (λ (m : Memory) (ss : List Step). ends_with f (told left r) m ss) em es)) x ∙ inv.ends x;
      fed = λ x. one_taken (λ (q : Inbox) (y : Member). feeds f q y) net.at left s r c
          (ap (λ (z : Block). is_fed f (without_first (told left r) s) (with_block m into z) rest) (sym first) ∙
          ap (λ (z : Bool). z && is_fed f (without_first (told left r) s)
          (with_block m into (first_of (left s r))) rest) (ap is_filled whole) ∙
          sym (ap₂ (λ (m : Memory) (ss : List Step). is_fed f (told left r) m ss) em es)) x ∙ inv.fed x;
    }
  where
    c : Member
    c = record { steps = rest; memory = with_block m into b }

    whole : b ∷ bs ++ says f r (told left s) (net.at s) ≡ left s r
    whole = ap (λ (q : List Block). q ++ says f r (told left s) (net.at s)) (sym eq) ∙ inv.hands s r

    first : first_of (left s r) ≡ b
    first = sym (ap first_of whole)

    others : others_of (left s r) ≡ bs ++ says f r (told left s) (net.at s)
    others = sym (ap others_of whole)

    says_same : (d x : ℕ) → says f d (told (taken_from left s r) x) (with_member net.at r c x) ≡
        says f d (told left x) (net.at x)
    says_same d x = one_taken (λ (q : Inbox) (y : Member). says f d q y) net.at left s r c
        (ap (λ (z : Block). said_to f d (without_first (told left r) s) (with_block m into z) rest) (sym first) ∙
        sym (ap₂ (λ (m : Memory) (ss : List Step). said_to f d (told left r) m ss) em es)) x

    hand : (x d : ℕ) (t : Bool) → ((x == s) && (d == r)) ≡ t →
        (if t then bs else net.queue x d) ++ says f d (told (taken_from left s r) x) (with_member net.at r c x) ≡
        (if t then others_of (left s r) else left x d)
    hand x d false e = ap (λ (ys : List Block). net.queue x d ++ ys) (says_same d x) ∙ inv.hands x d
    hand x d true e =
        let parts = and_parts (x == s) (d == r) e in
        ap (λ (ys : List Block). bs ++ ys) (says_same d x)
        ∙ (ap₂ (λ (y z : ℕ). bs ++ says f z (told left y) (net.at y)) (eqb-true x s parts.0) (eqb-true d r parts.1)
        ∙ sym others)

-- each step keeps what holds
pub step_holds : (f : Folding) (net : Network) (left : Talk) (goal : ℕ → Memory) (was : ℕ → Bool) →
    Holds f net left goal was → (r : ℕ) (m : Memory) (ss : List Step) → (net.at r).memory ≡ m → (net.at r).steps ≡ ss →
    (next : Talk) × Holds f (steps_on f net r m ss) next goal was
step_holds f net left goal was inv r m [] em es = (left, inv)
step_holds f net left goal was inv r m (Copy from into ∷ rest) em es = (
  left,
  quiet f net left goal was inv r (with_block m into (m from)) rest
      (λ d. sym (ap₂ (λ (m : Memory) (ss : List Step). said_to f d (told left r) m ss) em es))
      (sym (ap₂ (λ (m : Memory) (ss : List Step). ends_with f (told left r) m ss) em es))
      (sym (ap₂ (λ (m : Memory) (ss : List Step). is_fed f (told left r) m ss) em es)),
)
step_holds f net left goal was inv r m (Fold low high into ∷ rest) em es = (
  left,
  quiet f net left goal was inv r (with_block m into (f (m low) (m high))) rest
      (λ d. sym (ap₂ (λ (m : Memory) (ss : List Step). said_to f d (told left r) m ss) em es))
      (sym (ap₂ (λ (m : Memory) (ss : List Step). ends_with f (told left r) m ss) em es))
      (sym (ap₂ (λ (m : Memory) (ss : List Step). is_fed f (told left r) m ss) em es)),
)
step_holds f net left goal was inv r m (Send to from ∷ rest) em es =
    (left, sends f net left goal was inv r m to from rest em es)
step_holds f net left goal was inv r m (Receive s into ∷ rest) em es = take_it (net.queue s r) refl
  where
    take_it : (q : List Block) → net.queue s r ≡ q →
        (next : Talk) × Holds f (takes net r s into rest m q) next goal was
    take_it [] e = (left, inv)
    take_it (b ∷ bs) e = (taken_from left s r, receives f net left goal was inv r m s into rest em es b bs e)

moves_hold : (f : Folding) (net : Network) (left : Talk) (goal : ℕ → Memory) (was : ℕ → Bool) →
    Holds f net left goal was → (r : ℕ) → (next : Talk) × Holds f (moves f net r) next goal was
moves_hold f net left goal was inv r =
    step_holds f net left goal was inv r (net.at r).memory (net.at r).steps refl refl

runs_hold : (f : Folding) (goal : ℕ → Memory) (was : ℕ → Bool) (order : List ℕ) (net : Network) (left : Talk) →
    Holds f net left goal was →
    (next : Talk) × Holds f (after f net order) next goal was
runs_hold f goal was [] net left inv = (left, inv)
runs_hold f goal was (r ∷ rs) net left inv =
    let one = moves_hold f net left goal was inv r in runs_hold f goal was rs (moves f net r) one.0 one.1

-- so it is in every run
in_runs : (f : Folding) (plans : ℕ → List Step) (given : ℕ → Memory) (talk : Talk) → IsTalk f plans given talk →
    (order : List ℕ) → (left : Talk) × Holds f (after f (opening plans given) order) left
    (λ x. ends_with f (told talk x) (given x) (plans x)) (λ x. is_fed f (told talk x) (given x) (plans x))
in_runs f plans given talk is order =
    runs_hold f (λ x. ends_with f (told talk x) (given x) (plans x)) (λ x. is_fed f (told talk x) (given x) (plans x))
    order (opening plans given) talk (record { hands = is; ends = λ x. refl; fed = λ x. refl })

pub runs_are_meant : RunsAreMeant
runs_are_meant f plans given talk is order r ended =
    let all = in_runs f plans given talk is order in
    sym (ap (λ (ss : List Step). ends_with f (told all.0 r) ((after f
    (opening plans given) order).at r).memory ss) ended)
    ∙ all.1.ends r

-- NO ONE WAITS FOR ONE WHO WAITS

pub no_sends_first : (ss : List Step) → has_no_send ss ≡ true → sends_first ss ≡ true
no_sends_first [] h = refl
no_sends_first (Copy from into ∷ ss) h = no_sends_first ss h
no_sends_first (Send to from ∷ ss) h = let e : false ≡ true = h in absurd (grind arith)
no_sends_first (Fold low high into ∷ ss) h = no_sends_first ss h
no_sends_first (Receive s into ∷ ss) h = h

-- a member whose sends come first has them first later on, too
sends_first_goes : (x : Step) (rest : List Step) → sends_first (x ∷ rest) ≡ true → sends_first rest ≡ true
sends_first_goes (Copy from into) rest h = h
sends_first_goes (Send to from) rest h = h
sends_first_goes (Fold low high into) rest h = h
sends_first_goes (Receive s into) rest h = no_sends_first rest h

steps_stay_first : (f : Folding) (net : Network) (r : ℕ) → ((x : ℕ) → sends_first (net.at x).steps ≡ true) → (x : ℕ) →
    sends_first ((moves f net r).at x).steps ≡ true
steps_stay_first f net r h x = go (net.at r).memory (net.at r).steps refl
  where
    changed : (m : Memory) (y : Step) (rest : List Step) → (net.at r).steps ≡ y ∷ rest → (b : Bool) →
        sends_first (if b then record { steps = rest; memory = m } else net.at x).steps ≡ true
    changed m y rest e true = sends_first_goes y rest (ap sends_first (sym e) ∙ h r)
    changed m y rest e false = h x

    go : (m : Memory) (ss : List Step) → (net.at r).steps ≡ ss → sends_first ((steps_on f net r m ss).at x).steps ≡ true
    go m [] e = h x
    go m (Copy from into ∷ rest) e = changed (with_block m into (m from)) (Copy from into) rest e (x == r)
    go m (Send to from ∷ rest) e = changed m (Send to from) rest e (x == r)
    go m (Fold low high into ∷ rest) e =
        changed (with_block m into (f (m low) (m high))) (Fold low high into) rest e (x == r)
    go m (Receive s into ∷ rest) e = take_it (net.queue s r)
      where
        take_it : (q : List Block) → sends_first ((takes net r s into rest m q).at x).steps ≡ true
        take_it [] = h x
        take_it (b ∷ bs) = changed (with_block m into b) (Receive s into) rest e (x == r)

runs_stay_first : (f : Folding) (order : List ℕ) (net : Network) → ((x : ℕ) → sends_first (net.at x).steps ≡ true) →
    (x : ℕ) → sends_first ((after f net order).at x).steps ≡ true
runs_stay_first f [] net h = h
runs_stay_first f (r ∷ rs) net h = runs_stay_first f rs (moves f net r) (steps_stay_first f net r h)

-- nothing is said without sends
says_nothing : (f : Folding) (d : ℕ) (ss : List Step) (q : Inbox) (m : Memory) → has_no_send ss ≡ true →
    said_to f d q m ss ≡ []
says_nothing f d [] q m h = refl
says_nothing f d (Copy from into ∷ ss) q m h = says_nothing f d ss q (with_block m into (m from)) h
says_nothing f d (Send to from ∷ ss) q m h = let e : false ≡ true = h in absurd (grind arith)
says_nothing f d (Receive s into ∷ ss) q m h =
    says_nothing f d ss (without_first q s) (with_block m into (first_of (q s))) h
says_nothing f d (Fold low high into ∷ ss) q m h = says_nothing f d ss q (with_block m into (f (m low) (m high))) h

pub no_one_waits_for_who_waits : NoOneWaitsForWhoWaits
no_one_waits_for_who_waits f plans given talk is fed first order r s into rest waits empty =
    go (net.at s).steps refl
  where
    net : Network
    net = after f (opening plans given) order

    all : (left : Talk) × Holds f (after f (opening plans given) order) left
        (λ x. ends_with f (told talk x) (given x) (plans x)) (λ x. is_fed f (told talk x) (given x) (plans x))
    all = in_runs f plans given talk is order

    -- something is to come from s
    filled : is_filled (all.0 s r) ≡ true
    filled = (and_parts (is_filled (all.0 s r)) (is_fed f (without_first (told all.0 r) s)
        (with_block ((after f (opening plans given) order).at r).memory into (first_of (all.0 s r))) rest)
        (ap (λ (ss : List Step). is_fed f (told all.0 r) ((after f (opening plans given) order).at r).memory ss)
        (sym waits) ∙ all.1.fed r ∙ fed r)).0

    says_some : is_filled (says f r (told all.0 s) ((after f (opening plans given) order).at s)) ≡ true
    says_some = ap is_filled
        (ap (λ (q : List Block). q ++ says f r (told all.0 s) ((after f (opening plans given) order).at s)) (sym empty)
        ∙ all.1.hands s r) ∙ filled

    orderly : (ss : List Step) → ((after f (opening plans given) order).at s).steps ≡ ss → sends_first ss ≡ true
    orderly ss e = ap sends_first (sym e) ∙ runs_stay_first f order (opening plans given) first s

    says_by : (ss : List Step) → ((after f (opening plans given) order).at s).steps ≡ ss →
        is_filled (said_to f r (told all.0 s) ((after f (opening plans given) order).at s).memory ss) ≡ true
    says_by ss e = ap (λ (ys : List Step). is_filled
        (said_to f r (told all.0 s) ((after f (opening plans given) order).at s).memory ys)) (sym e) ∙ says_some

    steps_of : (ss : List Step) → ((after f (opening plans given) order).at s).steps ≡ ss →
        ((moves f (after f (opening plans given) order) s).at s).steps ≡
        ((steps_on f (after f (opening plans given) order) s ((after f
        (opening plans given) order).at s).memory ss).at s).steps
    steps_of ss e = ap (λ (ys : List Step). ((steps_on f (after f (opening plans given) order) s
        ((after f (opening plans given) order).at s).memory ys).at s).steps) e

    here : (c : Member) (ss : List Step) → c.steps ≡ ss →
        (if s == s then c else (after f (opening plans given) order).at s).steps ≡ ss
    here c ss e = ap (λ (b : Bool). (if b then c else (after f (opening plans given) order).at s).steps)
        (eq-eqb s s refl) ∙ e

    go : (ss : List Step) → ((after f (opening plans given) order).at s).steps ≡ ss →
        GoesOn f (after f (opening plans given) order) s
    go [] e = let b : false ≡ true = says_by [] e in absurd (grind arith)
    go (Receive x y ∷ ss) e = let b : false ≡ true = sym (ap is_filled (says_nothing f r (Receive x y ∷ ss)
        (told all.0 s) ((after f (opening plans given) order).at s).memory (orderly (Receive x y ∷ ss) e)))
        ∙ says_by (Receive x y ∷ ss) e in absurd (grind arith)
    go (Copy a b ∷ ss) e = (Copy a b, ss, e, steps_of (Copy a b ∷ ss) e ∙ here _ ss refl)
    go (Send a b ∷ ss) e = (Send a b, ss, e, steps_of (Send a b ∷ ss) e ∙ here _ ss refl)
    go (Fold a b c ∷ ss) e = (Fold a b c, ss, e, steps_of (Fold a b c ∷ ss) e ∙ here _ ss refl)
