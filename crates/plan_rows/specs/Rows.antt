-- Plans as rows of records.
use Rattle.std.specs.Prelude.{◌≡◌, ◌⊎◌, ℕ, Bool, false, List, [], ◌∷◌, length, drop, ◌++◌, nat_le, nat_lt, ◌==◌}
use Rattle.std.specs.Prelude.{if◌then◌else◌, Option, Some, None, Result, Ok, Err}
use Rattle.collective_plans.specs.declared.plan.Slot.{Slot}
use Rattle.collective_plans.specs.declared.plan.Slot.TheVariants.{Given, Got, Kept}
use Rattle.collective_plans.specs.declared.plan.Step.{Step}
use Rattle.collective_plans.specs.declared.plan.Step.TheVariants.{Copy, Send, Receive, Fold}
use Rattle.collective_plans.specs.Exchanges as exchanges
use Rattle.collective_plans.specs.Ordered as orders
use Rattle.collective_plans.specs.Rounds as rounds
use Rattle.collective_plans.specs.Stars as stars
use Rattle.collective_plans.specs.Trees as trees
use Rattle.plan_rows.specs.declared.form.PlanForm.{PlanForm}
use Rattle.plan_rows.specs.declared.form.PlanForm.TheVariants as forms
use Rattle.plan_rows.specs.declared.kind.PlanKind.{PlanKind}
use Rattle.plan_rows.specs.declared.records.PlanRecord.{PlanRecord}
use Rattle.plan_rows.specs.declared.records.SlotRecord.{SlotRecord}
use Rattle.plan_rows.specs.declared.records.StepRecord.{StepRecord}
use Rattle.plan_rows.specs.Kinds.{form_of, kind_at}

-- a block as a record: what is handed in, what is got, and room have the numbers 1, 2 and 3
abbrev pub slot_told : Slot → SlotRecord
slot_told (Given j) = record { kind = 1; place = j }
slot_told (Got j) = record { kind = 2; place = j }
slot_told (Kept j) = record { kind = 3; place = j }

abbrev pub no_slot : SlotRecord
no_slot = record { kind = 0; place = 0 }

-- whether, as a number
abbrev pub told : Bool → ℕ
told b = if b then 1 else 0

-- a step as a record: a copy, a send, a receive and a fold have the numbers 1 to 4; and whether the next step is
-- joined to it
abbrev pub step_told : (joined : Bool) → Step → StepRecord
step_told j (Copy from into) =
    record { kind = 1; peer = 0; joined = told j; from = slot_told from; high = no_slot; into = slot_told into }
step_told j (Send to from) =
    record { kind = 2; peer = to; joined = told j; from = slot_told from; high = no_slot; into = no_slot }
step_told j (Receive s into) =
    record { kind = 3; peer = s; joined = told j; from = no_slot; high = no_slot; into = slot_told into }
step_told j (Fold low high into) =
    record { kind = 4; peer = 0; joined = told j; from = slot_told low; high = slot_told high; into = slot_told into }

-- two steps are joined where both send to one member, or both receive from one: their blocks are in one message
abbrev pub joins : Step → Step → Bool
joins (Send a x) (Send b y) = a == b
joins (Receive a x) (Receive b y) = a == b
joins _ _ = false

abbrev pub joins_first : Step → List Step → Bool
joins_first x [] = false
joins_first x (y ∷ ys) = joins x y

-- all steps as records
abbrev pub rows_told : List Step → List StepRecord
rows_told [] = []
rows_told (x ∷ xs) = step_told (joins_first x xs) x ∷ rows_told xs

-- a step that came before another one, or the last one, told where there is one
abbrev pub told_before : Option Step → Step → List StepRecord
told_before None x = []
told_before (Some y) x = step_told (joins y x) y ∷ []

abbrev pub told_last : Option Step → List StepRecord
told_last None = []
told_last (Some y) = step_told false y ∷ []

-- the plan of member r of n
abbrev pub plan_for : PlanForm → (n root r : ℕ) → List Step
plan_for forms.AlltoallExchange n root r = exchanges.alltoall n r
plan_for forms.AlltoallRounds n root r = rounds.round_alltoall n r
plan_for forms.AllgatherExchange n root r = exchanges.allgather n r
plan_for forms.AllgatherRounds n root r = rounds.round_allgather n r
plan_for forms.ReduceScatterExchange n root r = exchanges.reduce_scatter_block n r
plan_for forms.ScanChain n root r = exchanges.scan n r
plan_for forms.ExscanChain n root r = exchanges.exscan n r
plan_for forms.GatherStar n root r = stars.gather n root r
plan_for forms.ScatterStar n root r = stars.scatter n root r
plan_for forms.BroadcastTree n root r = trees.tree_broadcast n root r
plan_for forms.ReduceTree n root r = trees.tree_reduce n root r
plan_for forms.ReduceInOrder n root r = orders.ordered_reduce n root r
plan_for forms.AllreduceTree n root r = trees.tree_allreduce n r
plan_for forms.AllreduceInOrder n root r = orders.ordered_allreduce n r
plan_for forms.BarrierTree n root r = trees.tree_barrier n r

-- the plan that is asked for, or why there is none: 83 where no collective has the kind's number, 5 where the rank
-- isn't below the size, or the size is above 65,536, and 7 where the root isn't below the size
abbrev pub plan_of_kind : Option PlanKind → PlanRecord → Result (List Step) ℕ
plan_of_kind None asked = Err 83
plan_of_kind (Some kind) asked =
    if nat_lt 65536 asked.size then Err 5 else
    (if nat_lt asked.rank asked.size then
    (if nat_lt asked.root asked.size
    then Ok (plan_for (form_of kind asked.size asked.bytes (asked.regroups == 1)) asked.size asked.root asked.rank)
    else Err 7) else Err 5)

abbrev pub plan_meant : PlanRecord → Result (List Step) ℕ
plan_meant asked = plan_of_kind (kind_at asked.kind) asked

-- there is no plan, for this reason; or memory is wanting, which is 14
abbrev pub IsRefused : Result (List Step) ℕ → (number : ℕ) → Type 0
IsRefused meant number = (meant ≡ Err number) ⊎ (number ≡ 14)

-- a plan of so many steps stands in front, where there is room for it; what lies behind it is as it was
abbrev pub IsPut : Result (List Step) ℕ → (old new : List StepRecord) → (count : ℕ) → Type 0
IsPut (Err number) old new count = ⊥
IsPut (Ok plan) old new count =
    (count ≡ length plan) ×
    (new ≡ (if nat_le (length plan) (length old) then rows_told plan ++ drop (length plan) old else old))

-- the number is 0, and the plan is put and counted; or it says why not, and all is as it was
abbrev pub PlanGives : Result (List Step) ℕ → (old new : List StepRecord) → (counted count : ℕ) → (number : ℕ) → Type 0
PlanGives meant old new counted count number =
    ((number ≡ 0) × IsPut meant old new count) ⊎ (IsRefused meant number × (new ≡ old) × (count ≡ counted))
