-- The numbers of collectives that go by plans, and which plan each goes by.
use Rattle.std.specs.Prelude.{ℕ, Bool, ◌==◌, ◌&&◌, nat_le, Option, Some, None, if◌then◌else◌}
use Rattle.plan_rows.specs.declared.kind.PlanKind.{PlanKind}
use Rattle.plan_rows.specs.declared.kind.PlanKind.TheVariants as kinds
use Rattle.plan_rows.specs.declared.form.PlanForm.{PlanForm}
use Rattle.plan_rows.specs.declared.form.PlanForm.TheVariants as forms

-- the collective that has a number
abbrev pub kind_at : ℕ → Option PlanKind
kind_at n =
    if n == 1 then Some kinds.Alltoall else (if n == 2 then Some kinds.Allgather else
    (if n == 3 then Some kinds.ReduceScatter else (if n == 4 then Some kinds.Scan else
    (if n == 5 then Some kinds.Exscan else (if n == 6 then Some kinds.Gather else
    (if n == 7 then Some kinds.Scatter else (if n == 8 then Some kinds.Broadcast else
    (if n == 9 then Some kinds.Reduce else (if n == 10 then Some kinds.Allreduce else
    (if n == 11 then Some kinds.Barrier else None))))))))))

-- an alltoall goes in rounds among 8 members and more where blocks have at most 256 bytes
abbrev pub alltoall_form : (n bytes : ℕ) → PlanForm
alltoall_form n bytes = if nat_le 8 n && nat_le bytes 256 then forms.AlltoallRounds else forms.AlltoallExchange

-- an allgather goes in rounds among 8 members and more where blocks have at most 4,096 bytes
abbrev pub allgather_form : (n bytes : ℕ) → PlanForm
allgather_form n bytes = if nat_le 8 n && nat_le bytes 4096 then forms.AllgatherRounds else forms.AllgatherExchange

-- the plan of a collective: a reduction goes by a tree where the operation is associative on the elements, and else in
-- the order of ranks
abbrev pub form_of : PlanKind → (n bytes : ℕ) → (regroups : Bool) → PlanForm
form_of kinds.Alltoall n bytes regroups = alltoall_form n bytes
form_of kinds.Allgather n bytes regroups = allgather_form n bytes
form_of kinds.ReduceScatter n bytes regroups = forms.ReduceScatterExchange
form_of kinds.Scan n bytes regroups = forms.ScanChain
form_of kinds.Exscan n bytes regroups = forms.ExscanChain
form_of kinds.Gather n bytes regroups = forms.GatherStar
form_of kinds.Scatter n bytes regroups = forms.ScatterStar
form_of kinds.Broadcast n bytes regroups = forms.BroadcastTree
form_of kinds.Reduce n bytes regroups = if regroups then forms.ReduceTree else forms.ReduceInOrder
form_of kinds.Allreduce n bytes regroups = if regroups then forms.AllreduceTree else forms.AllreduceInOrder
form_of kinds.Barrier n bytes regroups = forms.BarrierTree
