-- What reductions in the order of ranks give.
use Rattle.std.proofs.Common.{◌≡◌, ◌<◌, ◌≤◌, ℕ, zero, suc, ◌+◌, ◌-◌, Bool, true, false, List, [], ◌∷◌, ◌++◌}
use Rattle.std.proofs.Common.{if◌then◌else◌, ◌==◌, refl, sym, ap, ap₂, ◌∙◌, arith}
use Rattle.std.proofs.lemmas.Bool.{eqb-true}
use Rattle.collective_plans.specs.declared.plan.Slot.{Slot}
use Rattle.collective_plans.specs.declared.plan.Slot.TheVariants.{Given, Got, Kept}
use Rattle.collective_plans.specs.Slots.{Block, Memory, is_slot, with_block}
use Rattle.collective_plans.specs.Networks.{Folding}
use Rattle.collective_plans.specs.PlanLaws.{folded}
use Rattle.collective_plans.specs.Scripts.{Act, Copies, Folds, Hands, done, played, with_memory}
use Rattle.collective_plans.specs.Trees.{own_slot, spread}
use Rattle.collective_plans.specs.Ordered.{OrderedAllreduceGives, OrderedReduceGives, allreducing_in_order, folds_in}
use Rattle.collective_plans.specs.Ordered.{reducing_in_order, takes}
use Rattle.collective_plans.proofs.PartProofs.{Inside, Within, own_memory, other_memory, part_gives, played_append}
use Rattle.collective_plans.proofs.PartProofs.{put_apart, put_there, within_append}
use Rattle.collective_plans.proofs.TreeProofs.{spread_gives, spread_within}

-- slots that are apart both ways
record Rooms (own low high : Slot) : Type 0 where
  own_low : is_slot own low ≡ false
  own_high : is_slot own high ≡ false
  low_high : is_slot low high ≡ false
  high_low : is_slot high low ≡ false

other_way : (own low high : Slot) → Rooms own low high → Rooms own high low
other_way own low high a =
    record { own_low = a.own_high; own_high = a.own_low; low_high = a.high_low; high_low = a.low_high }

takes_within : (own : ℕ → Slot) (n root k : ℕ) (into : Slot) (xs : List Act) → root < n → k < n → Within 0 n xs →
    Within 0 n (takes own root k into ∷ xs)
takes_within own n root k into xs lr lk h = go (k == root)
  where
    r : Inside 0 n root
    r = (omega arith, omega (arith, lr))

    s : Inside 0 n k
    s = (omega arith, omega (arith, lk))

    go : (t : Bool) → Within 0 n ((if t then Copies root (own root) into else Hands k (own k) root into) ∷ xs)
    go true = ((omega arith, omega (arith, lr)), h)
    go false = (((omega arith, omega (arith, lk)), (omega arith, omega (arith, lr))), h)

folds_within : (own : ℕ → Slot) (n root : ℕ) (low high : Slot) (k c : ℕ) → root < n → k + c ≤ n →
    Within 0 n (folds_in own root low high k c)
folds_within own n root low high k zero lr le = ((omega arith, omega (arith, lr)), omega arith)
folds_within own n root low high k (suc c) lr le =
    takes_within own n root k high (Folds root low high high ∷ folds_in own root high low (suc k) c) lr
    (omega (arith, le))
    ((omega arith, omega (arith, lr)), folds_within own n root high low (suc k) c lr (omega (arith, le)))

ordered_within : (own : ℕ → Slot) (n root : ℕ) → root < n → Within 0 n (reducing_in_order own n root)
ordered_within own n root lr =
    takes_within own n root 0 (Kept 0) (folds_in own root (Kept 0) (Kept 1) 1 (n - 1)) lr (omega (arith, lr))
    (folds_within own n root (Kept 0) (Kept 1) 1 (n - 1) lr (omega (arith, lr)))

-- what the root has once a member's block has come
record Taken (own : ℕ → Slot) (root k : ℕ) (low into : Slot) (ms : ℕ → Memory) (next : ℕ → Memory) : Type 0 where
  came : next root into ≡ ms k (own k)
  stays : next root low ≡ ms root low
  gives : (x : ℕ) → next x (own x) ≡ ms x (own x)

-- a slot of the root that something is put into
put_at : (own : ℕ → Slot) (root : ℕ) (into : Slot) (ms : ℕ → Memory) (b : Block) → is_slot (own root) into ≡ false →
    (x : ℕ) → with_memory ms root (with_block (ms root) into b) x (own x) ≡ ms x (own x)
put_at own root into ms b apart x = go (x == root) refl
  where
    go : (t : Bool) → (x == root) ≡ t → with_memory ms root (with_block (ms root) into b) x (own x) ≡ ms x (own x)
    go true e =
        let is : x ≡ root = eqb-true x root e in
        ap (λ (y : ℕ). with_memory ms root (with_block (ms root) into b) y (own y)) is
        ∙ ap (λ (m : Memory). m (own root)) (own_memory ms root (with_block (ms root) into b))
        ∙ put_apart (ms root) into (own root) b apart
        ∙ ap (λ (y : ℕ). ms y (own y)) (sym is)
    go false e = ap (λ (m : Memory). m (own x)) (other_memory ms root x (with_block (ms root) into b) e)

put_taken : (own : ℕ → Slot) (root k : ℕ) (low into : Slot) (ms : ℕ → Memory) (b : Block) →
    is_slot (own root) into ≡ false → is_slot low into ≡ false → b ≡ ms k (own k) →
    Taken own root k low into ms (with_memory ms root (with_block (ms root) into b))
put_taken own root k low into ms b apart beside e =
    record {
      came = ap (λ (m : Memory). m into) (own_memory ms root (with_block (ms root) into b))
          ∙ put_there (ms root) into b ∙ e;
      stays = ap (λ (m : Memory). m low) (own_memory ms root (with_block (ms root) into b))
          ∙ put_apart (ms root) into low b beside;
      gives = put_at own root into ms b apart;
    }

takes_give : (f : Folding) (own : ℕ → Slot) (root k : ℕ) (low into : Slot) (ms : ℕ → Memory) →
    is_slot (own root) into ≡ false → is_slot low into ≡ false →
    Taken own root k low into ms (done f ms (takes own root k into))
takes_give f own root k low into ms apart beside = go (k == root) refl
  where
    go : (t : Bool) → (k == root) ≡ t → Taken own root k low into ms
        (done f ms (if t then Copies root (own root) into else Hands k (own k) root into))
    go true e = put_taken own root k low into ms (ms root (own root)) apart beside
        (ap (λ (y : ℕ). ms y (own y)) (sym (eqb-true k root e)))
    go false e = put_taken own root k low into ms (ms k (own k)) apart beside refl

folds_give : (f : Folding) (own : ℕ → Slot) (root : ℕ) (v : ℕ → Block) (low high : Slot) → Rooms (own root) low high →
    (j c : ℕ) (ms : ℕ → Memory) → ms root low ≡ folded f v j → ((x : ℕ) → ms x (own x) ≡ v x) →
    played f ms (folds_in own root low high (suc j) c) root (Got 0) ≡ folded f v (j + c)
folds_give f own root v low high a j zero ms so_far gives =
    ap (λ (m : Memory). m (Got 0)) (own_memory ms root (with_block (ms root) (Got 0) (ms root low)))
    ∙ so_far ∙ (let none : j ≡ j + 0 = omega arith in ap (λ (x : ℕ). folded f v x) none)
folds_give f own root v low high a j (suc c) ms so_far gives =
    folds_give f own root v high low (other_way (own root) low high a) (suc j) c
    (done f (done f ms (takes own root (suc j) high)) (Folds root low high high)) fold_is
    (λ x. put_at own root high (done f ms (takes own root (suc j) high)) _ a.own_high x ∙ taken.gives x ∙ gives x)
    ∙ (let more : suc j + c ≡ j + suc c = omega arith in ap (λ (x : ℕ). folded f v x) more)
  where
    taken : Taken own root (suc j) low high ms (done f ms (takes own root (suc j) high))
    taken = takes_give f own root (suc j) low high ms a.own_high a.low_high

    fold_is : done f (done f ms (takes own root (suc j) high)) (Folds root low high high) root high ≡
        folded f v (suc j)
    fold_is =
        ap (λ (m : Memory). m high) (own_memory (done f ms (takes own root (suc j) high)) root _)
        ∙ put_there (done f ms (takes own root (suc j) high) root) high _
        ∙ ap₂ f (taken.stays ∙ so_far) (taken.came ∙ gives (suc j))

-- neither handed in nor got is room
own_rooms : (in_place : ℕ → Bool) (root : ℕ) → Rooms (own_slot in_place root) (Kept 0) (Kept 1)
own_rooms in_place root =
    record { own_low = apart 0 (in_place root); own_high = apart 1 (in_place root); low_high = refl; high_low = refl }
  where
    apart : (j : ℕ) (t : Bool) → is_slot (if t then Got 0 else Given 0) (Kept j) ≡ false
    apart j true = refl
    apart j false = refl

ordered_gives : (f : Folding) (in_place : ℕ → Bool) (n root : ℕ) (ms : ℕ → Memory) →
    played f ms (reducing_in_order (own_slot in_place) n root) root (Got 0) ≡
    folded f (λ s. ms s (own_slot in_place s)) (n - 1)
ordered_gives f in_place n root ms =
    folds_give f (own_slot in_place) root (λ s. ms s (own_slot in_place s)) (Kept 0) (Kept 1) rooms 0 (n - 1)
    (done f ms (takes (own_slot in_place) root 0 (Kept 0))) taken.came taken.gives
    ∙ (let none : 0 + (n - 1) ≡ n - 1 = omega arith in
    ap (λ (x : ℕ). folded f (λ s. ms s (own_slot in_place s)) x) none)
  where
    rooms : Rooms (own_slot in_place root) (Kept 0) (Kept 1)
    rooms = own_rooms in_place root

    taken : Taken (own_slot in_place) root 0 (Kept 1) (Kept 0) ms
        (done f ms (takes (own_slot in_place) root 0 (Kept 0)))
    taken = takes_give f (own_slot in_place) root 0 (Kept 1) (Kept 0) ms rooms.own_low refl

pub ordered_reduce_gives : OrderedReduceGives
ordered_reduce_gives f n root in_place given lt =
    part_gives f n (reducing_in_order (own_slot in_place) n root) given root (Got 0) _
    (ordered_within (own_slot in_place) n root lt) (ordered_gives f in_place n root given)

pub ordered_allreduce_gives : OrderedAllreduceGives
ordered_allreduce_gives f n in_place given r lt =
    part_gives f n (allreducing_in_order (own_slot in_place) n) given r (Got 0) _
    (within_append 0 n (reducing_in_order (own_slot in_place) n 0) _ (ordered_within (own_slot in_place) n 0 some)
    (spread_within n (Got 0) 0 n 0 (omega arith, omega (arith, some))))
    (ap (λ (y : ℕ → Memory). y r (Got 0)) (played_append f (reducing_in_order (own_slot in_place) n 0) _ given)
    ∙ spread_gives f n (Got 0) 0 n 0 (played f given (reducing_in_order (own_slot in_place) n 0)) r (omega arith)
    (omega arith, omega (arith, some)) (omega arith, omega (arith, lt))
    ∙ ordered_gives f in_place n 0 given)
  where
    some : 0 < n
    some = omega (arith, lt)
