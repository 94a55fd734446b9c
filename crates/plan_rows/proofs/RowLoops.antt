-- One step more, told.
use Rattle.std.proofs.Common.{◌≡◌, ℕ, suc, length, List, [], ◌∷◌, ◌++◌, Option, Some, None, refl, ap, ap₂, ◌∙◌}
use Rattle.std.proofs.Common.{append_assoc, drop, nat_le, if◌then◌else◌, Ok}
use Rattle.std.proofs.Common.{append-nil}
use Rattle.collective_plans.specs.declared.plan.Step.{Step}
use Rattle.plan_rows.specs.declared.records.StepRecord.{StepRecord}
use Rattle.plan_rows.specs.Rows.{IsPut, joins, rows_told, step_told, told_before, told_last}

-- a step that isn't told yet, and those behind it
abbrev pub with_before : Option Step → List Step → List Step
with_before None xs = xs
with_before (Some y) xs = y ∷ xs

pub before_then : (old : List StepRecord) (before : Option Step) (x : Step) (xs : List Step) →
    (old ++ told_before before x) ++ rows_told (x ∷ xs) ≡ old ++ rows_told (with_before before (x ∷ xs))
before_then old None x xs = ap (λ (rs : List StepRecord). rs ++ rows_told (x ∷ xs)) (append-nil old)
before_then old (Some y) x xs = append_assoc old (step_told (joins y x) y ∷ []) (rows_told (x ∷ xs))

pub last_then : (old : List StepRecord) (before : Option Step) →
    old ++ told_last before ≡ old ++ rows_told (with_before before [])
last_then old None = refl
last_then old (Some y) = refl

-- as many records as steps
pub rows_long : (plan : List Step) → length (rows_told plan) ≡ length plan
rows_long [] = refl
rows_long (x ∷ xs) = ap (λ (n : ℕ). suc n) (rows_long xs)

-- records that are put are the plan's
pub put_gives : (plan : List Step) (rows old new : List StepRecord) (count : ℕ) → rows ≡ rows_told plan →
    count ≡ length rows → new ≡ (if nat_le (length rows) (length old) then rows ++ drop (length rows) old else old) →
    IsPut (Ok plan) old new count
put_gives plan rows old new count is n h = (
  n ∙ long,
  h ∙ ap₂ (λ (k : ℕ) (rs : List StepRecord). if nat_le k (length old) then rs ++ drop k old else old) long is,
)
  where
    long : length rows ≡ length plan
    long = ap (λ (rs : List StepRecord). length rs) is ∙ rows_long plan
