-- What becomes of requests is settled by what was posted and sent.
use Rattle.std.proofs.Common.{◌≡◌, ℕ, zero, suc, ◌<◌, Bool, true, false, ◌&&◌, List, [], ◌∷◌, ◌++◌, Some, None}
use Rattle.std.proofs.Common.{if◌then◌else◌, ◌==◌, slice_get, slice_set, refl, sym, ap, ap₂, ◌∙◌, subst, arith}
use Rattle.std.proofs.lemmas.Bool.{eqb-true, eq-eqb, and_parts, and_from}
use Rattle.perfect_queues.specs.Messages.{Message}
use Rattle.perfect_queues.specs.Outcomes.{Sent, outcome}
use Rattle.perfect_queues.specs.Receives.{Receive, accepts}
use Rattle.perfect_queues.specs.Requests.{Request, Posted, Matched, Sending, Finished, Gone, TakenOut}
use Rattle.vocabulary.specs.declared.envelope.Source.{Source}
use Rattle.vocabulary.specs.declared.envelope.Source.TheVariants.{Any, Rank, Null}
use Rattle.one_meaning.specs.Pairs.{Queues, became, left_by, pick, queue_from, resolved, with_left, with_queue_from}
use Rattle.one_meaning.proofs.QueueLaws.{FindsNone, FindsOne, Found, NoneOf, Skips, apart_either_way, pick_first, skips}

-- what becomes of a receive and of the requests behind it, by what it finds
abbrev pub behind_one : Receive → Source → (context : ℕ) → Queues → List Request → Found → List Request
behind_one p s c q rs o = became p o ∷ resolved (left_by s c q o) rs

-- QUEUES THAT ARE ONE

abbrev pub Alike : Queues → Queues → Type 0
Alike q q' = (r c : ℕ) → q r c ≡ q' r c

alike_left : (q q' : Queues) (r c : ℕ) (ms : List Message) → Alike q q' →
    Alike (with_left q r c ms) (with_left q' r c ms)
alike_left q q' r c ms h x y = go ((x == r) && (y == c))
  where
    go : (b : Bool) → (if b then ms else q x y) ≡ (if b then ms else q' x y)
    go true = refl
    go false = h x y

alike_from : (s : Source) (c : ℕ) (q q' : Queues) → Alike q q' → queue_from s q c ≡ queue_from s q' c
alike_from Any c q q' h = refl
alike_from (Rank r) c q q' h = h r c
alike_from Null c q q' h = refl

alike_behind : (s : Source) (c : ℕ) (q q' : Queues) (o : Found) → Alike q q' →
    Alike (left_by s c q o) (left_by s c q' o)
alike_behind s c q q' None h = h
alike_behind Any c q q' (Some t) h = h
alike_behind (Rank r) c q q' (Some t) h = alike_left q q' r c t.1 h
alike_behind Null c q q' (Some t) h = h

pub resolved_alike : (rs : List Request) (q q' : Queues) → Alike q q' → resolved q rs ≡ resolved q' rs
resolved_alike [] q q' h = refl
resolved_alike (Posted p ∷ rs) q q' h =
    ap (λ (ms : List Message). behind_one p p.source p.context q rs (pick p ms)) (alike_from p.source p.context q q' h)
    ∙ ap (λ (xs : List Request). became p (pick p (queue_from p.source q' p.context)) ∷ xs)
    (resolved_alike rs (left_by p.source p.context q (pick p (queue_from p.source q' p.context)))
    (left_by p.source p.context q' (pick p (queue_from p.source q' p.context)))
    (alike_behind p.source p.context q q' (pick p (queue_from p.source q' p.context)) h))
resolved_alike (Matched p m ∷ rs) q q' h =
    ap (λ (xs : List Request). Finished (outcome p m) ∷ xs) (resolved_alike rs q q' h)
resolved_alike (Sending d ∷ rs) q q' h = ap (λ (xs : List Request). Finished Sent ∷ xs) (resolved_alike rs q q' h)
resolved_alike (Finished o ∷ rs) q q' h = ap (λ (xs : List Request). Finished o ∷ xs) (resolved_alike rs q q' h)
resolved_alike (Gone ∷ rs) q q' h = ap (λ (xs : List Request). Gone ∷ xs) (resolved_alike rs q q' h)
resolved_alike (TakenOut g m ∷ rs) q q' h = ap (λ (xs : List Request). TakenOut g m ∷ xs) (resolved_alike rs q q' h)

-- QUEUES OF WHICH ONE HAS A MESSAGE MORE

pub record Differs (q q' : Queues) (r c : ℕ) (e : List Message) (m : Message) (l : List Message) : Type 0 where
  pub with_it : q r c ≡ e ++ m ∷ l
  pub without : q' r c ≡ e ++ l
  pub others : (x y : ℕ) → ((x == r) && (y == c)) ≡ false → q x y ≡ q' x y

-- another queue has changed
differs_apart : (q q' : Queues) (r c : ℕ) (e : List Message) (m : Message) (l : List Message) (x y : ℕ)
    (ms : List Message) → ((x == r) && (y == c)) ≡ false →
    Differs q q' r c e m l → Differs (with_left q x y ms) (with_left q' x y ms) r c e m l
differs_apart q q' r c e m l x y ms apart d =
    record {
      with_it = ap (λ (b : Bool). if b then ms else q r c) (apart_either_way x y r c apart) ∙ d.with_it;
      without = ap (λ (b : Bool). if b then ms else q' r c) (apart_either_way x y r c apart) ∙ d.without;
      others = λ a b h. go ((a == x) && (b == y)) (q a b) (q' a b) (d.others a b h);
    }
  where
    go : (b : Bool) (u v : List Message) → u ≡ v → (if b then ms else u) ≡ (if b then ms else v)
    go true u v h = refl
    go false u v h = h

-- this one has
differs_here : (q q' : Queues) (r c : ℕ) (e : List Message) (m : Message) (l e2 l2 : List Message) →
    Differs q q' r c e m l →
    Differs (with_left q r c (e2 ++ m ∷ l2)) (with_left q' r c (e2 ++ l2)) r c e2 m l2
differs_here q q' r c e m l e2 l2 d =
    record {
      with_it = ap (λ (b : Bool). if b then e2 ++ m ∷ l2 else q r c) own;
      without = ap (λ (b : Bool). if b then e2 ++ l2 else q' r c) own;
      others = λ a b h.
          ap (λ (t : Bool). if t then e2 ++ m ∷ l2 else q a b) h ∙
          (d.others a b h ∙ ap (λ (t : Bool). if t then e2 ++ l2 else q' a b) (sym h));
    }
  where
    own : ((r == r) && (c == c)) ≡ true
    own = and_from (r == r) (c == c) (eq-eqb r r refl) (eq-eqb c c refl)

-- A RECEIVE THAT DOESN'T ACCEPT THE MESSAGE

-- what is asked of the requests behind it
abbrev Behind : (r c : ℕ) (m : Message) (p : Receive) (rs rs' : List Request) → Type 0
Behind r c m p rs rs' = (q q' : Queues) (e l : List Message) → Differs q q' r c e m l → NoneOf p e →
    resolved q rs ≡ resolved q' rs'

passed_over : (r c : ℕ) (m : Message) (p : Receive) (rs rs' : List Request) → Behind r c m p rs rs' →
    (q q' : Queues) (e l : List Message) → Differs q q' r c e m l → NoneOf p e →
    (x : Receive) (s : Source) (y : ℕ) → accepts x m ≡ false →
    behind_one x s y q rs (pick x (queue_from s q y)) ≡ behind_one x s y q' rs' (pick x (queue_from s q' y))
passed_over r c m p rs rs' ih q q' e l d none x Any y f = ap (λ (xs : List Request). Posted x ∷ xs) (ih q q' e l d none)
passed_over r c m p rs rs' ih q q' e l d none x Null y f =
    ap (λ (xs : List Request). Posted x ∷ xs) (ih q q' e l d none)
passed_over r c m p rs rs' ih q q' e l d none x (Rank a) y f = go ((a == r) && (y == c)) refl
  where
    one : (o o' : Found) → pick x (q a y) ≡ o → pick x (q' a y) ≡ o' → behind_one x (Rank a) y q rs o ≡
        behind_one x (Rank a) y q' rs' o' →
        behind_one x (Rank a) y q rs (pick x (q a y)) ≡ behind_one x (Rank a) y q' rs' (pick x (q' a y))
    one o o' u v h = ap (behind_one x (Rank a) y q rs) u ∙ (h ∙ ap (behind_one x (Rank a) y q' rs') (sym v))

    elsewhere : ((a == r) && (y == c)) ≡ false →
        (o : Found) → behind_one x (Rank a) y q rs o ≡ behind_one x (Rank a) y q' rs' o
    elsewhere h None = ap (λ (xs : List Request). Posted x ∷ xs) (ih q q' e l d none)
    elsewhere h (Some t) =
        ap (λ (xs : List Request). Finished (outcome x t.0) ∷ xs)
        (ih (with_left q a y t.1) (with_left q' a y t.1) e l (differs_apart q q' r c e m l a y t.1 h d) none)

    here : a ≡ r → y ≡ c → Skips x e m l → behind_one x (Rank a) y q rs (pick x (q a y)) ≡
        behind_one x (Rank a) y q' rs' (pick x (q' a y))
    here ar yc (FindsNone u v) =
        one None None (ap (pick x) (ap₂ q ar yc ∙ d.with_it) ∙ u) (ap (pick x) (ap₂ q' ar yc ∙ d.without) ∙ v)
        (ap (λ (xs : List Request). Posted x ∷ xs) (ih q q' e l d none))
    here ar yc (FindsOne z e2 l2 u v s) =
        one (Some (z, e2 ++ m ∷ l2)) (Some (z, e2 ++ l2)) (ap (pick x) (ap₂ q ar yc ∙ d.with_it) ∙ u)
        (ap (pick x) (ap₂ q' ar yc ∙ d.without) ∙ v)
        (ap (λ (xs : List Request). Finished (outcome x z) ∷ xs)
        (ap₂ (λ (a' y' : ℕ). resolved (with_left q a' y' (e2 ++ m ∷ l2)) rs) ar yc
        ∙ (ih (with_left q r c (e2 ++ m ∷ l2)) (with_left q' r c (e2 ++ l2)) e2 l2 (differs_here q q' r c e m l e2 l2 d)
        (s p none)
        ∙ sym (ap₂ (λ (a' y' : ℕ). resolved (with_left q' a' y' (e2 ++ l2)) rs') ar yc))))

    go : (b : Bool) → ((a == r) && (y == c)) ≡ b → behind_one x (Rank a) y q rs (pick x (q a y)) ≡
        behind_one x (Rank a) y q' rs' (pick x (q' a y))
    go true h =
        let parts = and_parts (a == r) (y == c) h in
        here (eqb-true a r parts.0) (eqb-true y c parts.1) (skips x m f e l)
    go false h =
        let same : q a y ≡ q' a y = d.others a y h in
        one (pick x (q' a y)) (pick x (q' a y)) (ap (pick x) same) refl (elsewhere h (pick x (q' a y)))

-- A MATCH

-- what is known of the requests before the one that is matched
abbrev NoneBefore : List Request → (k : ℕ) → Message → Type 0
NoneBefore rs k m = (j : ℕ) (x : Receive) → j < k → slice_get rs j ≡ Some (Posted x) → accepts x m ≡ false

none_behind : (y : Request) (rs : List Request) (k : ℕ) (m : Message) → NoneBefore (y ∷ rs) (suc k) m →
    NoneBefore rs k m
none_behind y rs k m n j x lt is = n (suc j) x (omega arith) is

pub match_keeps : (rs : List Request) (k : ℕ) (p : Receive) (m : Message) (r c : ℕ) → p.source ≡ Rank r →
    p.context ≡ c → accepts p m ≡ true →
    slice_get rs k ≡ Some (Posted p) → NoneBefore rs k m → (more : List Request) →
    Behind r c m p (rs ++ more) (slice_set rs k (Matched p m) ++ more)
match_keeps [] k p m r c from on takes is n more q q' e l d none = absurd (grind arith)
match_keeps (y ∷ rs) zero p m r c from on takes is n more q q' e l d none =
    subst (λ (z : Request). resolved q (z ∷ rs ++ more) ≡ Finished (outcome p m) ∷ resolved q' (rs ++ more))
    (sym same) taken
  where
    same : y ≡ Posted p
    same = let h : Some y ≡ Some (Posted p) = is in cc

    finds : pick p (queue_from p.source q p.context) ≡ Some (m, e ++ l)
    finds =
        ap₂ (λ (s : Source) (y : ℕ). pick p (queue_from s q y)) from on
        ∙ (ap (pick p) d.with_it ∙ pick_first p e m l takes none)

    left : Alike (with_left q r c (e ++ l)) q'
    left a b = go ((a == r) && (b == c)) refl
      where
        go : (t : Bool) → ((a == r) && (b == c)) ≡ t → (if t then e ++ l else q a b) ≡ q' a b
        go true h =
            let parts = and_parts (a == r) (b == c) h in
            sym (ap₂ q' (eqb-true a r parts.0) (eqb-true b c parts.1) ∙ d.without)
        go false h = d.others a b h

    taken : resolved q (Posted p ∷ rs ++ more) ≡ Finished (outcome p m) ∷ resolved q' (rs ++ more)
    taken =
        ap (behind_one p p.source p.context q (rs ++ more)) finds
        ∙ ap (λ (xs : List Request). Finished (outcome p m) ∷ xs)
        (ap₂ (λ (s : Source) (y : ℕ). resolved (with_queue_from s q y (e ++ l)) (rs ++ more)) from on
        ∙ resolved_alike (rs ++ more) (with_left q r c (e ++ l)) q' left)
match_keeps (Posted x ∷ rs) (suc k) p m r c from on takes is n more q q' e l d none =
    passed_over r c m p (rs ++ more) (slice_set rs k (Matched p m) ++ more)
    (match_keeps rs k p m r c from on takes is (none_behind (Posted x) rs k m n) more) q q' e l d none x x.source
    x.context (n 0 x (omega arith) refl)
match_keeps (Matched x z ∷ rs) (suc k) p m r c from on takes is n more q q' e l d none =
    ap (λ (xs : List Request). Finished (outcome x z) ∷ xs)
    (match_keeps rs k p m r c from on takes is (none_behind (Matched x z) rs k m n) more q q' e l d none)
match_keeps (Sending a ∷ rs) (suc k) p m r c from on takes is n more q q' e l d none =
    ap (λ (xs : List Request). Finished Sent ∷ xs)
    (match_keeps rs k p m r c from on takes is (none_behind (Sending a) rs k m n) more q q' e l d none)
match_keeps (Finished o ∷ rs) (suc k) p m r c from on takes is n more q q' e l d none =
    ap (λ (xs : List Request). Finished o ∷ xs)
    (match_keeps rs k p m r c from on takes is (none_behind (Finished o) rs k m n) more q q' e l d none)
match_keeps (Gone ∷ rs) (suc k) p m r c from on takes is n more q q' e l d none =
    ap (λ (xs : List Request). Gone ∷ xs)
    (match_keeps rs k p m r c from on takes is (none_behind Gone rs k m n) more q q' e l d none)
match_keeps (TakenOut g z ∷ rs) (suc k) p m r c from on takes is n more q q' e l d none =
    ap (λ (xs : List Request). TakenOut g z ∷ xs)
    (match_keeps rs k p m r c from on takes is (none_behind (TakenOut g z) rs k m n) more q q' e l d none)
