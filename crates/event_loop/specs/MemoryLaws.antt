-- What passed in memory.
use Rattle.std.proofs.Common.{◌≡◌, ℕ, ◌+◌, List, [], ◌∷◌, ◌++◌, refl, sym, subst, ◌∙◌, ap, append_assoc}
use Rattle.std.proofs.lemmas.List.{append-nil, replicate-append-replicate}
use Rattle.std.specs.Prelude.{replicate}
use Rattle.event_loop.specs.declared.exchange.Exchange.{Exchange}
use Rattle.event_loop.specs.declared.exchange.Exchange.TheVariants.{Received, Nothing, Sent, Printed, Waited, Failed}
use Rattle.event_loop.specs.Memories.{Comes}

-- where nothing was done, nothing passed
pub nothing_more : {A : Type 0} (xs : List A) → xs ≡ xs ++ []
nothing_more xs = sym (append-nil xs)

-- what passed in two steps
pub two_steps : {A : Type 0} (a b c xs ys : List A) → b ≡ a ++ xs → c ≡ b ++ ys → c ≡ a ++ (xs ++ ys)
two_steps a b c xs ys p q = q ∙ ap (λ l. l ++ ys) p ∙ append_assoc a xs ys

-- where nothing was done, none came
pub none_came : (waiting : List (List ℕ)) → Comes waiting [] waiting
none_came waiting = refl

-- what came in two steps
pub comes_joined : (a b c : List (List ℕ)) (xs ys : List Exchange) → Comes a xs b → Comes b ys c → Comes a (xs ++ ys) c
comes_joined a b c [] ys p q = subst (λ w. Comes w ys c) p q
comes_joined [] b c (Received bytes ∷ xs) ys p q = absurd p
comes_joined (d ∷ a) b c (Received bytes ∷ xs) ys p q = (p.0, comes_joined a b c xs ys p.1 q)
comes_joined a b c (Nothing ∷ xs) ys p q = (p.0, comes_joined a b c xs ys p.1 q)
comes_joined a b c (Sent target bytes ∷ xs) ys p q = comes_joined a b c xs ys p q
comes_joined a b c (Printed line ∷ xs) ys p q = comes_joined a b c xs ys p q
comes_joined a b c (Waited most ∷ xs) ys p q = comes_joined a b c xs ys p q
comes_joined a b c (Failed ∷ xs) ys p q = comes_joined a b c xs ys p q

-- one more behind those that are alike
pub one_more : {A : Type 0} (xs : List A) (n : ℕ) (x : A) → xs ++ replicate (n + 1) x ≡ (xs ++ replicate n x) ++ x ∷ []
one_more xs n x = ap (λ l. xs ++ l) (sym (replicate-append-replicate n 1 x)) ∙
    sym (append_assoc xs (replicate n x) (x ∷ []))
