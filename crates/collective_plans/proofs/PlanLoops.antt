-- One more step of a plan.
use Rattle.std.proofs.Common.{◌≡◌, ◌<◌, ◌≤◌, ℕ, suc, ◌+◌, ◌-◌, List, [], ◌∷◌, ◌++◌, refl, sym, ap, ap₂, ◌∙◌, arith}
use Rattle.std.proofs.Common.{append_assoc, append-nil}
use Rattle.collective_plans.specs.declared.plan.Slot.{Slot}
use Rattle.collective_plans.specs.declared.plan.Slot.TheVariants.{Got, Kept}
use Rattle.collective_plans.specs.declared.plan.Step.{Step}
use Rattle.collective_plans.specs.declared.plan.Step.TheVariants.{Copy, Send, Receive, Fold}
use Rattle.collective_plans.specs.Exchanges.{all_receives, all_sends, exchange, falling, folds, receivers, rising}
use Rattle.collective_plans.specs.Exchanges.{senders}

-- a list that begins with one step more
one_more : (done rest left : List Step) (s : Step) (whole : List Step) → left ≡ s ∷ rest → done ++ left ≡ whole →
    (done ++ s ∷ []) ++ rest ≡ whole
one_more done rest left s whole e all =
    append_assoc done (s ∷ []) rest ∙ ap (λ (xs : List Step). done ++ xs) (sym e) ∙ all

pub sends_more : (source : ℕ → Slot) (done : List Step) (to end : ℕ) (whole : List Step) → to < end →
    done ++ all_sends source (rising to (end - to)) ≡ whole →
    (done ++ Send to (source to) ∷ []) ++ all_sends source (rising (to + 1) (end - (to + 1))) ≡ whole
sends_more source done to end whole lt all =
    one_more done (all_sends source (rising (to + 1) (end - (to + 1)))) (all_sends source (rising to (end - to)))
    (Send to (source to)) whole is all
  where
    is : all_sends source (rising to (end - to)) ≡
        Send to (source to) ∷ all_sends source (rising (to + 1) (end - (to + 1)))
    is = let e : end - to ≡ suc (end - (to + 1)) = omega (arith, lt) in
        let u : suc to ≡ to + 1 = omega arith in
        ap (λ (k : ℕ). all_sends source (rising to k)) e
        ∙ ap (λ (x : ℕ). Send to (source to) ∷ all_sends source (rising x (end - (to + 1)))) u

pub sends_end : (source : ℕ → Slot) (done : List Step) (to end : ℕ) (whole : List Step) → end ≤ to →
    done ++ all_sends source (rising to (end - to)) ≡ whole → done ≡ whole
sends_end source done to end whole le all =
    let e : end - to ≡ 0 = omega (arith, le) in
    sym (append-nil done) ∙ ap (λ (k : ℕ). done ++ all_sends source (rising to k)) (sym e) ∙ all

pub receives_more : (target : ℕ → Slot) (done : List Step) (first count step : ℕ) (whole : List Step) → step < count →
    done ++ all_receives target (falling first (count - step)) ≡ whole →
    (done ++ Receive (first + (count - 1 - step)) (target (first + (count - 1 - step))) ∷ []) ++
    all_receives target (falling first (count - (step + 1))) ≡ whole
receives_more target done first count step whole lt all =
    one_more done (all_receives target (falling first (count - (step + 1))))
    (all_receives target (falling first (count - step)))
    (Receive (first + (count - 1 - step)) (target (first + (count - 1 - step)))) whole is all
  where
    is : all_receives target (falling first (count - step)) ≡
        Receive (first + (count - 1 - step)) (target (first + (count - 1 - step))) ∷
        all_receives target (falling first (count - (step + 1)))
    is = let e : count - step ≡ suc (count - (step + 1)) = omega (arith, lt) in
        let u : count - (step + 1) ≡ count - 1 - step = omega arith in
        ap (λ (k : ℕ). all_receives target (falling first k)) e
        ∙ ap (λ (x : ℕ). Receive (first + x) (target (first + x)) ∷
        all_receives target (falling first (count - (step + 1)))) u

pub receives_end : (target : ℕ → Slot) (done : List Step) (first count step : ℕ) (whole : List Step) → count ≤ step →
    done ++ all_receives target (falling first (count - step)) ≡ whole → done ≡ whole
receives_end target done first count step whole le all =
    let e : count - step ≡ 0 = omega (arith, le) in
    sym (append-nil done) ∙ ap (λ (k : ℕ). done ++ all_receives target (falling first k)) (sym e) ∙ all

pub folds_more : (done : List Step) (last step : ℕ) (whole : List Step) → step < last →
    done ++ folds step (last - step) ≡ whole →
    (done ++ Fold (Kept step) (Kept (step + 1)) (Kept (step + 1)) ∷ []) ++ folds (step + 1) (last - (step + 1)) ≡ whole
folds_more done last step whole lt all =
    one_more done (folds (step + 1) (last - (step + 1))) (folds step (last - step))
    (Fold (Kept step) (Kept (step + 1)) (Kept (step + 1))) whole is all
  where
    is : folds step (last - step) ≡
        Fold (Kept step) (Kept (step + 1)) (Kept (step + 1)) ∷ folds (step + 1) (last - (step + 1))
    is = let e : last - step ≡ suc (last - (step + 1)) = omega (arith, lt) in
        let u : suc step ≡ step + 1 = omega arith in
        ap (λ (k : ℕ). folds step k) e
        ∙ ap (λ (x : ℕ). Fold (Kept step) (Kept x) (Kept x) ∷ folds x (last - (step + 1))) u

pub folds_end : (done : List Step) (last step : ℕ) (whole : List Step) → step ≤ last → last ≤ step →
    done ++ folds step (last - step) ≡ whole → done ++ Copy (Kept last) (Got 0) ∷ [] ≡ whole
folds_end done last step whole le ge all =
    let e : last - step ≡ 0 = omega (arith, le, ge) in
    let u : step ≡ last = omega (arith, le, ge) in
    ap (λ (x : ℕ). done ++ Copy (Kept x) (Got 0) ∷ []) (sym u)
    ∙ ap (λ (k : ℕ). done ++ folds step k) (sym e) ∙ all

sends_append : (source : ℕ → Slot) (xs ys : List ℕ) →
    all_sends source (xs ++ ys) ≡ all_sends source xs ++ all_sends source ys
sends_append source [] ys = refl
sends_append source (x ∷ xs) ys = ap (λ (ss : List Step). Send x (source x) ∷ ss) (sends_append source xs ys)

pub receives_append : (target : ℕ → Slot) (xs ys : List ℕ) →
    all_receives target (xs ++ ys) ≡ all_receives target xs ++ all_receives target ys
receives_append target [] ys = refl
receives_append target (x ∷ xs) ys = ap (λ (ss : List Step). Receive x (target x) ∷ ss) (receives_append target xs ys)

-- an exchange, as it is put together
pub exchange_made : (source target : ℕ → Slot) (done : List Step) (first : Step) (a b c d : List ℕ) (more : List Step) →
    ((((done ++ first ∷ []) ++ all_sends source a) ++ all_sends source b) ++ all_receives target c) ++
    (all_receives target d ++ more) ≡
    done ++ first ∷ (all_sends source (a ++ b) ++ (all_receives target (c ++ d) ++ more))
exchange_made source target done first a b c d more =
    append_assoc (((done ++ first ∷ []) ++ all_sends source a) ++ all_sends source b) (all_receives target c)
    (all_receives target d ++ more)
    ∙ append_assoc ((done ++ first ∷ []) ++ all_sends source a) (all_sends source b)
    (all_receives target c ++ (all_receives target d ++ more))
    ∙ append_assoc (done ++ first ∷ []) (all_sends source a)
    (all_sends source b ++ (all_receives target c ++ (all_receives target d ++ more)))
    ∙ append_assoc done (first ∷ [])
    (all_sends source a ++ (all_sends source b ++ (all_receives target c ++ (all_receives target d ++ more))))
    ∙ ap (λ (xs : List Step). done ++ first ∷ xs)
    (sym (append_assoc (all_sends source a) (all_sends source b)
    (all_receives target c ++ (all_receives target d ++ more)))
    ∙ ap₂ (λ (xs ys : List Step). xs ++ ys) (sym (sends_append source a b))
    (sym (append_assoc (all_receives target c) (all_receives target d) more)
    ∙ ap (λ (xs : List Step). xs ++ more) (sym (receives_append target c d))))

pub exchange_put_together : (source target : ℕ → Slot) (done : List Step) (size rank : ℕ) →
    ((((done ++ Copy (source rank) (target rank) ∷ []) ++ all_sends source (rising (rank + 1) (size - (rank + 1)))) ++
    all_sends source (rising 0 (rank - 0))) ++ all_receives target (falling 0 rank)) ++
    all_receives target (falling (rank + 1) (size - (rank + 1))) ≡
    done ++ exchange size rank source target []
exchange_put_together source target done size rank =
    ap (λ (xs : List Step).
    ((((done ++ Copy (source rank) (target rank) ∷ []) ++ all_sends source (rising (rank + 1) (size - (rank + 1)))) ++
    all_sends source (rising 0 (rank - 0))) ++ all_receives target (falling 0 rank)) ++ xs)
    (sym (append-nil (all_receives target (falling (rank + 1) (size - (rank + 1))))))
    ∙ exchange_made source target done (Copy (source rank) (target rank)) (rising (rank + 1) (size - (rank + 1)))
    (rising 0 (rank - 0)) (falling 0 rank) (falling (rank + 1) (size - (rank + 1))) []
    ∙ (let u : rank + 1 ≡ suc rank = omega arith in
    ap (λ (x : ℕ). done ++ Copy (source rank) (target rank) ∷
    (all_sends source (rising x (size - x) ++ rising 0 (rank - 0)) ++
    (all_receives target (falling 0 rank ++ falling x (size - x)) ++ []))) u)
    ∙ (let v : rank - 0 ≡ rank = omega arith in
    ap (λ (x : ℕ). done ++ Copy (source rank) (target rank) ∷
    (all_sends source (rising (suc rank) (size - suc rank) ++ rising 0 x) ++
    (all_receives target (falling 0 rank ++ falling (suc rank) (size - suc rank)) ++ []))) v)

-- with more behind it
pub exchange_and : (source target : ℕ → Slot) (n r : ℕ) (first : Step) (more : List Step) →
    ((exchange n r source target [] ++ first ∷ []) ++ more) ≡ exchange n r source target (first ∷ more)
exchange_and source target n r first more =
    append_assoc (exchange n r source target []) (first ∷ []) more
    ∙ ap (λ (xs : List Step). Copy (source r) (target r) ∷ xs)
    (append_assoc (all_sends source (receivers n r)) (all_receives target (senders n r) ++ []) (first ∷ more)
    ∙ ap (λ (xs : List Step). all_sends source (receivers n r) ++ xs)
    (append_assoc (all_receives target (senders n r)) [] (first ∷ more)))

-- what the root does
pub receives_put : (t : ℕ → Slot) (done : List Step) (first : Step) (size rank : ℕ) →
    ((done ++ first ∷ []) ++ all_receives t (falling 0 rank)) ++ all_receives t (falling (rank + 1) (size -
    (rank + 1))) ≡
    done ++ first ∷ all_receives t (senders size rank)
receives_put t done first size rank =
    append_assoc (done ++ first ∷ []) (all_receives t (falling 0 rank))
    (all_receives t (falling (rank + 1) (size - (rank + 1))))
    ∙ append_assoc done (first ∷ [])
    (all_receives t (falling 0 rank) ++ all_receives t (falling (rank + 1) (size - (rank + 1))))
    ∙ ap (λ (xs : List Step). done ++ first ∷ xs)
    (sym (receives_append t (falling 0 rank) (falling (rank + 1) (size - (rank + 1)))))
    ∙ (let u : rank + 1 ≡ suc rank = omega arith in
    ap (λ (x : ℕ). done ++ first ∷ all_receives t (falling 0 rank ++ falling x (size - x))) u)

pub sends_put : (t : ℕ → Slot) (done : List Step) (first : Step) (size rank : ℕ) →
    ((done ++ first ∷ []) ++ all_sends t (rising (rank + 1) (size - (rank + 1)))) ++ all_sends t (rising 0 (rank - 0)) ≡
    done ++ first ∷ all_sends t (receivers size rank)
sends_put t done first size rank =
    append_assoc (done ++ first ∷ []) (all_sends t (rising (rank + 1) (size - (rank + 1))))
    (all_sends t (rising 0 (rank - 0)))
    ∙ append_assoc done (first ∷ [])
    (all_sends t (rising (rank + 1) (size - (rank + 1))) ++ all_sends t (rising 0 (rank - 0)))
    ∙ ap (λ (xs : List Step). done ++ first ∷ xs)
    (sym (sends_append t (rising (rank + 1) (size - (rank + 1))) (rising 0 (rank - 0))))
    ∙ (let u : rank + 1 ≡ suc rank = omega arith in
    ap (λ (x : ℕ). done ++ first ∷ all_sends t (rising x (size - x) ++ rising 0 (rank - 0))) u)
    ∙ (let v : rank - 0 ≡ rank = omega arith in
    ap (λ (x : ℕ). done ++ first ∷ all_sends t (rising (suc rank) (size - suc rank) ++ rising 0 x)) v)
